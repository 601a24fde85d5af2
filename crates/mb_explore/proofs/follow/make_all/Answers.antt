use Rattle.std.proofs.Common.{◌<◌, ◌≤◌, length, map, subst, arith, take_all}
use Rattle.std.specs.Prelude.{string_bytes}
use Rattle.std.proofs.lemmas.List.{get_or_default}
use Rattle.std.specs.List.{All}
use Rattle.mb_world.specs.World.{IsStart}
use Rattle.mb_explore.specs.Search.{IsSettled}
use Rattle.mb_explore.proofs.SearchLemmas.{longer-as, made-as, reached-after, seen-follows, seen-found, settled-by}
use Rattle.mb_explore.proofs.follow.make_all.Goals as goal

pub loop-choice-preserved : goal.loop-choice-preserved
loop-choice-preserved g c =
    let after = g.K.Behaviours.after in let gives = g.K.Behaviours.gives in let names = map string_bytes c.args.names.now in
    let starts = IsStart (g.S.Setup.count c.args.setup.now) (g.S.Setup.orders c.args.setup.now) in let choices = c.args.choices.now in
    let place = c.loop-choice.choice-index in let within : place < length choices = omega arith in let order = c.args.from.now.schedule.items in
    let world = c.args.from.now.world in let next = c.in_ok-next.next in let longer = c.in_ok-longer.longer.items in
    let made = made-as starts order c.deref.result.now world _ next c.deref.ensures.value c.in_ok-next.ensures in
    let is = longer-as longer c.deref-in-loop-choice.result.now order _ c.in_ok-longer.ensures c.deref-in-loop-choice.ensures.value in record {
      found = seen-found after gives names starts c.loop-choice.outcomes.items c.loop-choice.frontier c.see.new.outcomes.items c.see.new.frontier
          (longer, next) c.in_ok-see.ensures (reached-after starts order world _ next longer is made) c.loop-choice.invariant.found;
      follows = λ final kept all.
          let here = seen-follows after gives names final c.loop-choice.outcomes.items c.loop-choice.frontier c.see.new.outcomes.items
          c.see.new.frontier (longer, next) c.in_ok-see.ensures kept all in
          let before = c.loop-choice.invariant.follows final here.0 here.1 in (
            before.0,
            before.1,
            settled-by after gives names final starts order world choices place _ next longer made is within
                (get_or_default choices place _ _ within) here.2 before.2,
          );
    }

pub returns-clause-follows : goal.returns-clause-follows
returns-clause-follows g c final kept all =
    let after = g.K.Behaviours.after in let gives = g.K.Behaviours.gives in let names = map string_bytes c.args.names.now in
    let choices = c.args.choices.now in let place = c.loop-choice.choice-index in let whole : length choices ≤ place = omega arith in
    let here = c.loop-choice.invariant.follows final kept all in (
      here.0,
      here.1,
      subst (All (IsSettled after gives names final (length c.args.from.now.schedule.items) c.args.from.now.world)) (take_all place choices whole) here.2,
    )
