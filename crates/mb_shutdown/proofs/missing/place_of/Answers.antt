use Rattle.std.proofs.Common.{◌≡◌, rules, tests}
use Rattle.std.proofs.lemmas.Iterator.{IsFirst-from_position, YieldsList-from_slice}
use Rattle.mb_shutdown.proofs.Places.{found-place}
use Rattle.mb_shutdown.proofs.missing.place_of.Goals as goal

pub returns : goal.returns
returns g c =
    let n = c.args.number in let number = g.T.Numbered.numbered in
    found-place number c.args.all.now n c.position.result
    (IsFirst-from_position _ _ _ (λ x. number x ≡ n) (λ x. number x ≡ n → ⊥) c.position.ensures.ran
    (YieldsList-from_slice c.args.all.now (cc)) (λ x q k. search (rules, tests)) (λ x q k. search (rules, tests)))
