use Rattle.std.proofs.Common.{◌≡◌, ◌++◌, map, take}
use Rattle.mb_world.specs.declared.choice.Choice.TheVariants.{Run}
use Rattle.mb_world.proofs.choices.add_runs.Given as goal

abbrev pub invariant-loop-place : goal.invariant-loop-place
invariant-loop-place l = l.choices.items ≡ l.initial.choices.items ++ map Run (take l.place l.actors.items)
