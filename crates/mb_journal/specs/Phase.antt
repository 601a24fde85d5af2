-- Tests of the phase of an actor's life.
use Rattle.std.specs.Prelude.{Bool, true, false}
use Rattle.mb_actor.specs.declared.phase.Phase.{Phase}
use Rattle.mb_actor.specs.declared.phase.Phase.TheVariants.{Fresh, Live, Broken, Ending, Ended}

-- the two phases are the same
abbrev pub phase_is : Phase → Phase → Bool
phase_is Fresh Fresh = true
phase_is Live Live = true
phase_is Broken Broken = true
phase_is Ending Ending = true
phase_is Ended Ended = true
phase_is _ _ = false
