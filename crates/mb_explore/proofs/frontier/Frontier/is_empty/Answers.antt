use Rattle.std.proofs.Common.{rules, ◌≡◌, ◌<◌, ◌≤◌, length, get_or, subst, take_all}
use Rattle.std.specs.Prelude.{None, false, is_some}
use Rattle.std.specs.List.{All}
use Rattle.mb_explore.proofs.SearchLemmas.{none-more}
use Rattle.mb_explore.proofs.frontier.Frontier.is_empty.Goals as goal

pub loop-place-preserved : goal.loop-place-preserved
loop-place-preserved g c =
    let all = c.args.self.now in let place = c.loop-place.place in let here = c.index.result.now in
    let within : place < length all = search rules in let at : here ≡ get_or all place here = search rules in
    let none : is_some here ≡ false = search rules in none-more all place here within at none c.loop-place.invariant

pub returns : goal.returns
returns g c holds =
    let all = c.args.self.now in let whole : length all ≤ c.loop-place.place = search rules in
    subst (All (λ w. w ≡ None)) (take_all c.loop-place.place all whole) c.loop-place.invariant
