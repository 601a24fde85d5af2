use Rattle.std.proofs.Common.{rules, ◌≡◌, ◌<◌, ◌≤◌, length, get_or, subst, take_all}
use Rattle.std.specs.List.{All, Contains}
use Rattle.std.proofs.lemmas.List.Elements.{All-contains}
use Rattle.mb_world.proofs.AlikeLemmas.{among-more}
use Rattle.mb_world.proofs.alike.are_among.Goals as goal

pub loop-place-preserved : goal.loop-place-preserved
loop-place-preserved c =
    let actors = c.args.actors.now.items in let others = c.args.others.now.items in let place = c.loop-place.place in let actor = c.index.result.now in
    let within : place < length actors = search rules in let at : actor ≡ get_or actors place actor = search rules in
    let there : Contains others actor = (c.in-Some._found, c.in-Some.ensures.0, c.in-Some.ensures.1) in
    among-more actors others place actor within at c.loop-place.invariant there

pub returns : goal.returns
returns c holds actor there =
    let actors = c.args.actors.now.items in let others = c.args.others.now.items in
    let all : length actors ≤ c.loop-place.place = search rules in
    All-contains (Contains others) actors actor (subst (All (Contains others)) (take_all c.loop-place.place actors all) c.loop-place.invariant) there
