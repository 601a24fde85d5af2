use Rattle.std.proofs.Common.{◌≡◌, map, take}
use Rattle.mb_diagram.specs.Rows.{effect_without_value}
use Rattle.mb_diagram.proofs.alike.are_like_effects.Given as goal

abbrev pub invariant-loop-index : goal.invariant-loop-index
invariant-loop-index l = take l.index (map effect_without_value l.left) ≡ take l.index (map effect_without_value l.right)
