-- Counts by number (this project's own profile).
use Rattle.std.specs.Prelude.{◌≡◌, ℕ, ◌+◌, ◌<◌, ltb, Bool, List, cond, length, count_by, slice_index, slice_set}
use Rattle.mb_msg.specs.declared.dead_letter.DeadLetter.{DeadLetter}

-- There are so many counts, and the one at each place is of the letters of that number.
abbrev pub Counts : (ℕ → DeadLetter → Bool) → ℕ → List ℕ → List DeadLetter → Type 0
Counts is_at many counts letters = (length counts ≡ many) × ((place : ℕ) → place < many → slice_index counts place ≡ count_by (is_at place) letters)

-- One more at this place, if there is such a place.
abbrev pub counted_at : ℕ → List ℕ → List ℕ
counted_at place counts = cond (ltb place (length counts)) (slice_set counts place (slice_index counts place + 1)) counts
