use Rattle.std.proofs.Common.{List, length, map, subst}
use Rattle.std.specs.Prelude.{string_bytes}
use Rattle.std.specs.List.{All}
use Rattle.mb_world.specs.World.{WorldView}
use Rattle.mb_world.specs.declared.choice.Choice.{Choice}
use Rattle.mb_explore.specs.Search.{IsSettled}
use Rattle.mb_explore.specs.Ways.{AllEndFrom}
use Rattle.mb_explore.proofs.SearchLemmas.{ways-on}
use Rattle.mb_explore.proofs.follow.follow.Goals as goal

pub returns-clause-follows : goal.returns-clause-follows
returns-clause-follows g c final kept all =
    let after = g.K.Behaviours.after in let gives = g.K.Behaviours.gives in let names = map string_bytes c.args.names.now in
    let from = c.into_parts-from.result in let parts = c.into_parts-from.ensures.parts in
    let here = c.in_ok-make_all.ensures.follows final kept all in (
      here.0,
      here.1,
      subst (λ (w : WorldView). AllEndFrom after gives names final (length c.args.waiting.0) w) parts.1
          (subst (λ (l : List Choice). AllEndFrom after gives names final (length l) from.world) parts.0
          (ways-on after gives names final (length from.schedule.items) from.world c.in_ok-choices.choices.items c.in_ok-choices.ensures
          c.into_parts-from.ensures.goes_on
          (subst (All (IsSettled after gives names final (length from.schedule.items) from.world)) c.deref.ensures.value here.2))),
    )
