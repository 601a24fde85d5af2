-- Each event keeps who holds, and so does each run.
use Rattle.std.proofs.Common.{ℕ, ◌<◌, List, length, All, IsTrue, arith}
use Rattle.std.proofs.lemmas.Grind.{common_steps}
use Rattle.mb_core.specs.declared.event.Event.{Event}
use Rattle.mb_core.specs.declared.event.Step.{Step}
use Rattle.mb_core.specs.Actor.{MachineActor, at_start}
use Rattle.mb_core.specs.Held.{IsHeldRightly}
use Rattle.mb_core.specs.Run.{Change, Transition, LeadsTo, can_start}
use Rattle.mb_core.proofs.KeptLemmas.{at_before, after_step, after_run, after_start}

-- the change keeps the fact
pub held_change :
    (x : MachineActor) (party : ℕ) (step : Step) (y : MachineActor) → Change x party step y → party < length x.owed →
    IsHeldRightly x → IsHeldRightly y
held_change x party step y change there held = grind (arith, common_steps)

-- so the step keeps it of all
pub held_step :
    (old : List MachineActor) (event : Event) (new : List MachineActor) →
    Transition old event new → All IsHeldRightly old → All IsHeldRightly new
held_step old event new step all =
    after_step IsHeldRightly old event new step
    (held_change step.before event.party event.step step.after step.change step.party_there (at_before IsHeldRightly old event new step all))
    all

pub held_start : (parties word : ℕ) → IsTrue (can_start word) → IsHeldRightly (at_start parties word)
held_start parties word can = grind (arith, common_steps)

pub held_run :
    (words : List ℕ) (parties : ℕ) (events : List Event) (state : List MachineActor) → LeadsTo words parties events state →
    All IsHeldRightly state
held_run words parties events state leads =
    after_run IsHeldRightly held_step _ events state leads.run (after_start IsHeldRightly held_start words parties leads.can_start)
