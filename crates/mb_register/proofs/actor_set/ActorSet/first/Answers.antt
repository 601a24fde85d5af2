use Rattle.std.proofs.Common.{◌≢◌, arith}
use Rattle.std.proofs.lemmas.Bool.Decides.{nat_tests}
use Rattle.mb_register.proofs.Bits.{lowest}
use Rattle.mb_register.proofs.actor_set.ActorSet.first.Goals as goal

pub returns-clause-first : goal.returns-clause-first
returns-clause-first c =
    let some : c.args.self.bits ≢ 0 = λ zero. let f = c.if-self-eq0.false in grind (arith, nat_tests) in
    let l = lowest c.args.self.bits some (omega (arith, c.well_formed)) in
    record { present = l.1; least = l.2 }
