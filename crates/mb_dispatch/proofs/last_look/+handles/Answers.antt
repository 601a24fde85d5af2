use Rattle.std.proofs.Common.{rules, ◌≡◌, ◌<◌, ℕ, true, suc, ◌∷◌, length, subst, ap, arith}
use Rattle.mb_gate.specs.Accessors.{actors_of, pass_view}
use Rattle.mb_gate.specs.Together.{NoClaimIsOut}
use Rattle.mb_system.specs.Members.{AreHandlesOf}
use Rattle.mb_dispatch.specs.AtRest.{all_together, views_of}
use Rattle.mb_dispatch.proofs.Sides.{none-there}
use Rattle.mb_dispatch.proofs.last_look.+handles.Goals as goal

pub look_with_handles-at_first-looked-requires-clause-may : goal.look_with_handles-at_first-looked-requires-clause-may
look_with_handles-at_first-looked-requires-clause-may g t c = λ first others are.
    (let all : AreHandlesOf c.args.gates.now (first.now ∷ others.now) =
    subst (λ l. AreHandlesOf c.args.gates.now l) are c.requires.handles in
    let longer : length c.args.handles.now ≡ suc (length others.now) = ap length are in
    (omega (arith, longer, c.decreases), ((λ a m. m), ((λ a m. m), (c.requires.same_gates, all 0 first.now (omega arith), (λ k d h. all (suc k) d (omega arith)), c.requires.jobs, c.requires.senders)))))

pub look_with_handles-returns-in_default-clause-back : goal.look_with_handles-returns-in_default-clause-back
look_with_handles-returns-in_default-clause-back g t c =
    none-there c.args.handles.now c.in_default.ensures.called.0
    (λ l. c.look_with_jobs.result ≡ true → (id : ℕ) → id < actors_of c.args.gates.now
    → NoClaimIsOut id (all_together (pass_view c.args.pass.now) (views_of l c.args.jobs.now c.args.senders.now)))
    (search rules)
