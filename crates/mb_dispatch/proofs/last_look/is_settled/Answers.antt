use Rattle.std.proofs.Common.{◌≡◌, ◌⊎◌, arith, inl, inr, length, subst, sym}
use Rattle.mb_gate.specs.Accessors.{actors_of}
use Rattle.mb_dispatch.specs.AtRest.{NoClaimIsLeft}
use Rattle.mb_dispatch.proofs.AllTogether.{of-senders}
use Rattle.mb_dispatch.proofs.last_look.is_settled.Goals as goal

pub returns-clause-at_rest : goal.returns-clause-at_rest
returns-clause-at_rest g c = λ yes many as_many.
    subst (NoClaimIsLeft (actors_of c.args.system.now.gates)) (sym (of-senders c.args.handles.now c.args.senders.now c.args.jobs.now))
    (some-handle (c.look_by_all.ensures.back yes))
  where
    some-handle : {P : Type 0} → (length c.args.handles.now ≡ 0) ⊎ P → P
    some-handle (inl none) =
        let as_many = c.if-handles-system.false in let some = c.args.system.now.not_empty in absurd (omega (arith, none, as_many, some))
    some-handle (inr left) = left
