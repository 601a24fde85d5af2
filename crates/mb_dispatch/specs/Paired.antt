-- Two lists side by side.
use Rattle.std.specs.Prelude.{◌≡◌, List, [], ◌∷◌, All, length}

-- Each item with the one that stands at its place in the other list; what stands behind the end of the shorter list is left out.
abbrev pub pairs : {T V : Type 0} → List T → List V → List (T × V)
pairs [] values = []
pairs (x ∷ xs) [] = []
pairs (x ∷ xs) (v ∷ values) = (x, v) ∷ pairs xs values

-- There are as many tasks as values, and each task is ready with the value at its place.
pub record AreReady {T V : Type 0} (Ready : T × V → Type 0) (tasks : List T) (values : List V) : Type 0 where
  pub same_count : length tasks ≡ length values
  pub ready : All Ready (pairs tasks values)
