use Rattle.std.proofs.Common.{◌≡◌, ℕ, ◌<◌, map}
use Rattle.std.specs.Prelude.{Some, slice_get}
use Rattle.mb_explore.specs.Added.{text_of}
use Rattle.mb_explore.proofs.outcomes.place_of.Given as goal

abbrev pub invariant-loop-place : goal.invariant-loop-place
invariant-loop-place l = (k : ℕ) → k < l.place → slice_get (map text_of l.outcomes) k ≡ Some l.text → ⊥
