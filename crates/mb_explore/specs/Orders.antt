-- What an order of steps leads to.
use Rattle.std.specs.Prelude.{◌≡◌, List, [], ◌∷◌}
use Rattle.mb_world.specs.Choices.{IsPossible}
use Rattle.mb_world.specs.World.{Steps, WorldView}
use Rattle.mb_world.specs.declared.choice.Choice.{Choice}

-- these steps, one after the other, lead from the one world to the other, and each was possible when it was made
abbrev pub LeadsTo : WorldView → List Choice → WorldView → Type 0
LeadsTo first [] last = last ≡ first
LeadsTo first (choice ∷ choices) last =
    (next : WorldView) × IsPossible first choice × Steps first choice next × LeadsTo next choices last

-- no step is possible
abbrev pub IsOver : WorldView → Type 0
IsOver world = (choice : Choice) → IsPossible world choice → ⊥
