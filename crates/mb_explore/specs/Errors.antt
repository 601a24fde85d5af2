-- Which error of an exploration the error of a step is.
use Rattle.mb_explore.specs.declared.explore_error.ExploreError.{ExploreError}
use Rattle.mb_explore.specs.declared.explore_error.ExploreError.TheVariants as explored
use Rattle.mb_world.specs.declared.step_error.StepError.{StepError}
use Rattle.mb_world.specs.declared.step_error.StepError.TheVariants.{NotPossible, JournalFull, NoMemory}

-- A step that was possible before and is not now tells that the system does not do the same each time. The others keep their names.
abbrev pub error_of : StepError → ExploreError
error_of NotPossible = explored.NotRepeated
error_of JournalFull = explored.JournalFull
error_of NoMemory = explored.NoMemory
