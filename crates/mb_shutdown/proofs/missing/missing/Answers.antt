use Rattle.std.proofs.Common.{map, rules, tests}
use Rattle.std.specs.Prelude.{Contains}
use Rattle.std.proofs.lemmas.Iterator.{first_from_Range}
use Rattle.mb_shutdown.proofs.Places.{least-missing}
use Rattle.mb_shutdown.proofs.missing.missing.Goals as goal

pub returns : goal.returns
returns g c =
    let ns = map g.T.Numbered.numbered c.args.all.now in
    least-missing c.find.result c.args.many ns
    (first_from_Range _ _ _ _ (λ k. Contains ns k → ⊥) (λ k. Contains ns k) c.find.ensures.ran (λ x q k. search (rules, tests)) (λ x q k. search (rules, tests)))
