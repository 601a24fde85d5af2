use Rattle.std.proofs.Common.{◌==◌, refl, sym, subst, arith}
use Rattle.std.specs.Prelude.{IsTrue}
use Rattle.mb_register.proofs.Bits.{none_is_zero}
use Rattle.mb_register.proofs.actor_set.ActorSet.is_empty.Goals as goal

pub returns-clause-when_nobody : goal.returns-clause-when_nobody
returns-clause-when_nobody c nobody =
    let none = none_is_zero c.args.self.bits (omega (arith, c.well_formed)) nobody in
    subst (λ n. IsTrue (n == 0)) (sym none) refl
