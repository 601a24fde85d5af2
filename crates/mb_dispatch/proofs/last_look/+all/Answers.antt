use Rattle.std.proofs.Common.{◌≡◌, suc, ◌∷◌, length, subst, sym, ap, arith, inr}
use Rattle.mb_gate.specs.Accessors.{actors_of, pass_view}
use Rattle.mb_system.specs.Members.{AreHandlesOf}
use Rattle.mb_dispatch.specs.AtRest.{NoClaimIsLeft, views_of}
use Rattle.mb_dispatch.proofs.AllTogether.{none-left}
use Rattle.mb_dispatch.proofs.last_look.+all.Goals as goal

pub look_by_all-at_first-looked-requires-clause-may : goal.look_by_all-at_first-looked-requires-clause-may
look_by_all-at_first-looked-requires-clause-may g t c = λ first others are.
    (let all : AreHandlesOf c.args.gates.now (first.now ∷ others.now) = subst (λ l. AreHandlesOf c.args.gates.now l) are c.requires.handles in
    let longer : length c.args.handles.now ≡ suc (length others.now) = ap length are in
    (omega (arith, longer, c.decreases), ((λ a m. m), ((λ a m. m), (all 0 first.now (omega arith), (λ k d h. all (suc k) d (omega arith)), c.requires.jobs, c.requires.senders)))))

pub look_by_all-returns-clause-back : goal.look_by_all-returns-clause-back
look_by_all-returns-clause-back g t c = λ yes.
    (let did = c.in-Some.ensures.called in let actors = actors_of c.args.gates.now in
    inr
    (subst (λ l. NoClaimIsLeft actors (views_of l c.args.jobs.now c.args.senders.now)) (sym did.are)
    (none-left (pass_view did.first.now.registrar.pass) (views_of did.others.now c.args.jobs.now c.args.senders.now) actors (did.called.met.1.4 yes))))
