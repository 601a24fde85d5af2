-- What holds of each view, and of each item of a list.
use Rattle.std.specs.Prelude.{◌≡◌, ℕ, List, [], ◌∷◌}
use mathlib.Core.Option.{some}
use lib.ListN.{get_elem?}

abbrev pub EachView : {V : Type 0} → (V → Type 0) → List V → Type 0
EachView {V} Knows vs = (q : ℕ) (v : V) → get_elem? vs q ≡ some v → Knows v

-- P holds of each
abbrev pub Each : {A : Type 0} → (A → Type 0) → List A → Type 0
Each P [] = Unit {0}
Each P (x ∷ xs) = P x × Each P xs
