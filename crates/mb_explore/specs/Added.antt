-- The list of what was found.
use Rattle.std.specs.Prelude.{◌≡◌, ℕ, ◌<◌, ◌≤◌, List, [], ◌∷◌, ◌++◌, ◌⊎◌, Some, length, map, slice_get, slice_set, string_bytes}
use Rattle.std.specs.List.{Contains}
use Rattle.mb_explore.specs.declared.outcome.Outcome.{Outcome}
use Rattle.mb_world.specs.declared.choice.Choice.{Choice}

-- the text of an outcome
abbrev pub text_of : Outcome → List ℕ
text_of outcome = string_bytes outcome.text

-- the text of an outcome, and an order of steps that leads there
abbrev pub found_of : Outcome → List ℕ × List Choice
found_of outcome = (string_bytes outcome.text, outcome.schedule.items)

-- the same text, with the shorter of the two orders
abbrev pub IsShorter : Outcome → Outcome → List Choice → Type 0
IsShorter old new schedule =
    ((found_of new ≡ (text_of old, schedule)) × (length schedule < length old.schedule.items))
    ⊎ ((found_of new ≡ found_of old) × (length old.schedule.items ≤ length schedule))

-- the text was found already, and keeps the shorter of the two orders
pub record IsKnown (before after : List Outcome) (text : List ℕ) (schedule : List Choice) : Type 0 where
  pub place : ℕ
  pub old : Outcome
  pub new : Outcome
  pub was : slice_get before place ≡ Some old
  pub same : text_of old ≡ text
  pub shorter : IsShorter old new schedule
  pub is : after ≡ slice_set before place new

-- a text was found already, or it is the newest now
abbrev pub IsAdded : List Outcome → List Outcome → List ℕ → List Choice → Type 0
IsAdded before after text schedule =
    IsKnown before after text schedule
    ⊎ ((map found_of after ≡ map found_of before ++ (text, schedule) ∷ []) × (Contains (map text_of before) text → ⊥))
