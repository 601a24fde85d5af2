-- From what a change keeps of its actor to what a step and a run keep of all.
use Rattle.std.proofs.Common.{◌≡◌, ℕ, List, [], ◌∷◌, All, IsTrue, get_or, sym, subst}
use Rattle.std.proofs.lemmas.List.Elements.{All-set, All-get_or, All-map}
use Rattle.std.proofs.lemmas.Option.{slice_get_within, get_or_from_slice_get}
use Rattle.mb_core.specs.declared.event.Event.{Event}
use Rattle.mb_core.specs.Actor.{MachineActor, at_start}
use Rattle.mb_core.specs.Run.{Transition, Run, can_start, start}

-- the fact at the event's actor, from the fact at all
pub at_before :
    (P : MachineActor → Type 0) (old : List MachineActor) (event : Event) (new : List MachineActor) (step : Transition old event new) →
    All P old → P step.before
at_before P old event new step all =
    let inside = slice_get_within old event.actor.0 step.before step.actor_there in
    let here : get_or old event.actor.0 step.before ≡ step.before =
    get_or_from_slice_get old event.actor.0 step.before step.before step.actor_there in
    subst P here (All-get_or P old event.actor.0 step.before inside all)

-- the fact at all, from the fact at what the event made of its actor
pub after_step :
    (P : MachineActor → Type 0) (old : List MachineActor) (event : Event) (new : List MachineActor) (step : Transition old event new) →
    P step.after → All P old → All P new
after_step P old event new step here all =
    subst (All P) (sym step.others_stay) (All-set P old event.actor.0 step.after here all)

-- a fact that each step keeps, each run keeps
pub after_run :
    (P : MachineActor → Type 0) →
    ((old : List MachineActor) (event : Event) (new : List MachineActor) → Transition old event new → All P old → All P new) →
    (old : List MachineActor) (events : List Event) (new : List MachineActor) → Run old events new → All P old → All P new
after_run P kept old [] new run all = subst (All P) (sym run) all
after_run P kept old (event ∷ events) new run all =
    after_run P kept run.0 events new run.2 (kept old event run.0 run.1 all)

-- what holds of each actor that a run may begin with holds of all at the start
pub after_start :
    (P : MachineActor → Type 0) → ((parties word : ℕ) → IsTrue (can_start word) → P (at_start parties word)) →
    (words : List ℕ) (parties : ℕ) → All (λ word. IsTrue (can_start word)) words → All P (start words parties)
after_start P begins words parties can =
    All-map P (at_start parties) words (λ k d inside. begins parties (get_or words k d) (can k d inside))
