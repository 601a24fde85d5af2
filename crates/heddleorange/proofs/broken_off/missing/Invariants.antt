use Rattle.std.proofs.Common.{◌≡◌, ℕ, ◌<◌, None, Some}
use Rattle.std.specs.Prelude.{slice_get}
use Rattle.heddleorange.proofs.broken_off.missing.Given as goal

-- something is left of each actor so far
abbrev pub invariant-loop-number : goal.invariant-loop-number
invariant-loop-number l = (place : ℕ) → place < l.number → slice_get l.actors place ≡ Some None → ⊥
