-- The way through the journals.
use Rattle.std.specs.Prelude.{ℕ, ◌≡◌, ◌-◌, ◌==◌, if◌then◌else◌, drop, filter as filtered, length, take}
use Rattle.mb_trace.specs.Cursors.{left_of}
use Rattle.mb_trace.specs.Text.{is_shown}
use Rattle.mb_trace_forms.specs.declared.shown.Shown.{Shown}

-- it went past this many entries of the actor of this number, or all that were left: as many fewer may still be shown as were shown of them
pub record GoesPast (actor n : ℕ) (old new : Shown) : Type 0 where
  pub steps : (a : ℕ) → left_of new.steps a ≡ drop (if a == actor then n else 0) (left_of old.steps a)
  pub left : new.left ≡ old.left - length (filtered (is_shown old.filter) (take n (left_of old.steps actor)))
  pub same_filter : new.filter ≡ old.filter
