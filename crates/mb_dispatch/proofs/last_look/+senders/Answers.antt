use Rattle.std.proofs.Common.{rules, ◌≡◌, ◌<◌, ℕ, true, suc, ◌∷◌, length, subst, ap, refl, arith}
use Rattle.std.specs.Prelude.{All}
use Rattle.mb_gate.specs.Accessors.{actors_of}
use Rattle.mb_gate.specs.Together.{NoClaimIsOut}
use Rattle.mb_system.specs.Members.{IsSenderOf}
use Rattle.mb_dispatch.specs.AtRest.{all_together, views_of_senders}
use Rattle.mb_dispatch.proofs.SameSender.{same-registrar, same-sender}
use Rattle.mb_dispatch.proofs.last_look.+senders.Goals as goal

pub look_with_senders-at_first-looked-requires-clause-may : goal.look_with_senders-at_first-looked-requires-clause-may
look_with_senders-at_first-looked-requires-clause-may g t c = λ first others are.
    (let all : All (λ s. IsSenderOf c.args.gates.now s) (first.now ∷ others.now) =
    subst (λ l. All (λ s. IsSenderOf c.args.gates.now s) l) are c.requires.senders in
    let longer : length c.args.senders.now ≡ suc (length others.now) = ap length are in
    (omega (arith, longer, c.decreases), ((λ a m. m), ((λ a m. m), (c.requires.same_gates, all 0 first.now (omega arith), λ k d h. all (suc k) d (omega arith))))))

pub look_with_sender-returns-clause-same : goal.look_with_sender-returns-clause-same
look_with_sender-returns-clause-same g t c =
    let did = c.look_together.ensures in let sender = c.args.sender.now in (
      did.same.0,
      same-sender _ sender (same-registrar sender.registrar c.look_together.new.other did.same.1) refl refl refl,
      (search rules),
    )

pub look_with_sender-returns-clause-back : goal.look_with_sender-returns-clause-back
look_with_sender-returns-clause-back g t c =
    let did = c.look_together.ensures.looked in
    subst
    (λ v. c.look_together.result ≡ true → (id : ℕ) → id < actors_of c.args.gates.now
    → NoClaimIsOut id (all_together v (views_of_senders c.args.others.now)))
    did.known did.called.met.1.2
