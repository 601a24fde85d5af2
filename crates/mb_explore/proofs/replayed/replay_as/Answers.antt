use Rattle.std.proofs.Common.{rules, ◌≡◌, ◌<◌, inl, inr, length, refl, subst, take}
use Rattle.std.proofs.lemmas.List.{get_or_default}
use Rattle.mb_explore.specs.Orders.{LeadsTo}
use Rattle.mb_explore.proofs.OrderLemmas.{leads-along, stops-at}
use Rattle.mb_explore.proofs.replayed.replay_as.Goals as goal

pub loop-place-preserved : goal.loop-place-preserved
loop-place-preserved g c =
    let was = c.loop-place.invariant in let order = c.args.schedule.now in let place = c.loop-place.place in
    let within : place < length order = search rules in (
      was.0,
      was.1,
      leads-along was.0 c.loop-place.world c.step.new.self order place within _ (get_or_default order place _ _ within) was.2 c.in_ok-step.ensures.possible
          c.in_ok-step.ensures.made,
    )

pub returns-in_default : goal.returns-in_default
returns-in_default g c =
    let was = c.loop-place.invariant in let order = c.args.schedule.now in let place = c.loop-place.place in
    let within : place < length order = search rules in record {
      first = was.0;
      last = c.loop-place.world;
      starts_so = was.1;
      leads = was.2;
      stops = inr (stops-at c.loop-place.world order c.in_ok-choices.choices.items c.deref.result.now place _ within c.deref.ensures.value
          c.in_ok-choices.ensures.each c.in_default.ensures);
      choices = c.in_ok-choices.ensures;
      told = c.in_ok-text.ensures;
    }

pub returns : goal.returns
returns g c =
    let was = c.loop-place.invariant in let order = c.args.schedule.now in
    let all : c.loop-place.place ≡ length order = search rules in record {
      first = was.0;
      last = c.loop-place.world;
      starts_so = was.1;
      leads = subst (λ n. LeadsTo was.0 (take n order) c.loop-place.world) all was.2;
      stops = inl refl;
      choices = c.in_ok-choices-2.ensures;
      told = c.in_ok-text-2.ensures;
    }
