-- What is left of the events leads from here where all of them lead from the start.
use Rattle.std.proofs.Common.{◌↔◌, List, drop}
use Rattle.mb_core.specs.Actor.{MachineActor}
use Rattle.mb_core.specs.Run.{Run, start}
use Rattle.mb_core.proofs.run.replay.Given as goal

abbrev pub invariant-loop-event : goal.invariant-loop-event
invariant-loop-event l =
    (state : List MachineActor) → Run (start l.words l.parties) l.events state ↔ Run l.model (drop l.event-index l.events) state
