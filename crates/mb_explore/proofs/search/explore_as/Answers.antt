use Rattle.std.proofs.Common.{[], map, subst, sym, ap, ◌∙◌}
use Rattle.std.specs.Prelude.{string_bytes}
use Rattle.std.proofs.lemmas.List.{take-map}
use Rattle.mb_world.specs.World.{IsStart}
use Rattle.mb_explore.specs.Added.{found_of}
use Rattle.mb_explore.specs.Outcomes.{AllEndIn, AreFound}
use Rattle.mb_explore.proofs.FoundLemmas.{found-take, kept-itself, texts-are}
use Rattle.mb_explore.proofs.SearchLemmas.{none-wait, start-ends, start-found}
use Rattle.mb_explore.proofs.WayLemmas.{start-ends-in}
use Rattle.mb_explore.proofs.search.explore_as.Goals as goal

pub follow_all-requires-clause-found : goal.follow_all-requires-clause-found
follow_all-requires-clause-found g c =
    start-found g.K.Behaviours.after g.K.Behaviours.gives (map string_bytes c.args.names.now)
    (IsStart (g.S.Setup.count c.args.setup.now) (g.S.Setup.orders c.args.setup.now)) c.new-outcomes.result.items c.in_ok-frontier.frontier
    c.see.new.outcomes.items c.see.new.frontier c.new-no_steps.result.items c.in_ok-first.first c.new-outcomes.ensures.items c.new-no_steps.ensures.items
    c.in_ok-first.ensures c.in_ok-see.ensures

pub returns-then-len-limits-clause-found : goal.returns-then-len-limits-clause-found
returns-then-len-limits-clause-found g c =
    let starts = IsStart (g.S.Setup.count c.args.setup.now) (g.S.Setup.orders c.args.setup.now) in let names = map string_bytes c.args.names.now in
    let found = c.follow_all.new.outcomes.items in let n = c.args.limits.outcomes in
    subst (AreFound starts g.K.Behaviours.after g.K.Behaviours.gives names)
    (take-map found_of n found ∙ ap (map found_of) (sym c.truncate.ensures.items))
    (found-take starts g.K.Behaviours.after g.K.Behaviours.gives names n (map found_of found) c.in_ok-steps.ensures.found)

pub returns-clause-shortest : goal.returns-clause-shortest
returns-clause-shortest g c whole =
    let after = g.K.Behaviours.after in let gives = g.K.Behaviours.gives in let names = map string_bytes c.args.names.now in
    let starts = IsStart (g.S.Setup.count c.args.setup.now) (g.S.Setup.orders c.args.setup.now) in
    let final = map found_of c.follow_all.new.outcomes.items in let waiting = c.follow_all.new.frontier in
    let here = c.in_ok-steps.ensures.follows final (kept-itself final)
    (none-wait after gives names final waiting (c.is_empty.ensures whole)) in
    start-ends after gives names starts c.new-outcomes.result.items c.in_ok-frontier.frontier c.see.new.outcomes.items c.see.new.frontier
    c.new-no_steps.result.items c.in_ok-first.first final c.new-no_steps.ensures.items c.in_ok-first.ensures c.in_ok-see.ensures here.0 here.1

pub returns-clause-complete : goal.returns-clause-complete
returns-clause-complete g c whole =
    let after = g.K.Behaviours.after in let gives = g.K.Behaviours.gives in let names = map string_bytes c.args.names.now in
    let count = g.S.Setup.count c.args.setup.now in let orders = g.S.Setup.orders c.args.setup.now in
    let found = c.follow_all.new.outcomes.items in let final = map found_of found in let waiting = c.follow_all.new.frontier in
    let here = c.in_ok-steps.ensures.follows final (kept-itself final)
    (none-wait after gives names final waiting (c.is_empty.ensures whole)) in
    subst (λ l. AllEndIn (IsStart count orders) after gives names l []) (sym (texts-are found))
    (start-ends-in after gives names final count orders
    (start-ends after gives names (IsStart count orders) c.new-outcomes.result.items c.in_ok-frontier.frontier c.see.new.outcomes.items
    c.see.new.frontier c.new-no_steps.result.items c.in_ok-first.first final c.new-no_steps.ensures.items c.in_ok-first.ensures c.in_ok-see.ensures here.0 here.1))
