-- A ghost list; its newest item is in front.
use Rattle.std.specs.Prelude.{List, [], ◌∷◌, ◌++◌}
use Rattle.mb_ghost.specs.declared.log.Past.{Past, Nothing, Then'}

-- the items, the oldest first
abbrev pub listed : {T : Type 0} → Past T → List T
listed Nothing = []
listed (Then' _ before item) = listed before ++ item ∷ []
