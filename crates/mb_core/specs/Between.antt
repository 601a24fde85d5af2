-- What the laws say of an actor at two moments: before and after one step, and before and after any stretch of a run. In
-- `akka.dispatch.Mailbox` too, only the thread that a mailbox is scheduled for changes the rest of its status.
use Rattle.std.specs.Prelude.{◌≡◌, ◌⊎◌, ℕ, Bool, true, false, ◌||◌, List, ◌∷◌, ◌++◌, Any, IsTrue, Some, None, slice_get}
use Rattle.mb_core.specs.declared.event.Event.{Event}
use Rattle.mb_core.specs.declared.event.Step.{Step}
use Rattle.mb_core.specs.declared.event.Step.TheVariants.{Schedule, Idle, Suspend, Resume, Close}
use Rattle.mb_core.specs.Actor.{MachineActor}
use Rattle.mb_core.specs.Held.{IsHeldRightly}
use Rattle.mb_core.specs.Run.{Change, Run, LeadsTo}

-- the step gives the actor back
abbrev pub is_idle : Step → Bool
is_idle (Idle rest) = true
is_idle _ = false

-- the step schedules the actor
abbrev pub is_schedule : Step → Bool
is_schedule Schedule = true
is_schedule _ = false

-- the step changes the suspend count or closes the mailbox
abbrev pub sets_count : Step → Bool
sets_count Suspend = true
sets_count Resume = true
sets_count Close = true
sets_count _ = false

-- the party gives the actor of this number back by the event
pub record IsGivenBack (party number : ℕ) (event : Event) : Type 0 where
  pub same_party : event.party ≡ party
  pub same_actor : event.actor.0 ≡ number
  pub idle : IsTrue (is_idle event.step)

-- the party schedules the actor of this number by the event
pub record IsScheduledBy (party number : ℕ) (event : Event) : Type 0 where
  pub same_party : event.party ≡ party
  pub same_actor : event.actor.0 ≡ number
  pub schedule : IsTrue (is_schedule event.step)

-- the party changes the count of the actor of this number, closes it or gives it back by the event
pub record IsOwnChange (party number : ℕ) (event : Event) : Type 0 where
  pub same_party : event.party ≡ party
  pub same_actor : event.actor.0 ≡ number
  pub change : IsTrue (sets_count event.step || is_idle event.step)

-- the mailbox has the suspend count that it had, and is closed if it was
pub record HasSameCount (x y : MachineActor) : Type 0 where
  pub count : y.mailbox.count ≡ x.mailbox.count
  pub closed : y.mailbox.closed ≡ x.mailbox.closed

-- Among the events from old on there is one that sets the count of the actor of this number, or closes it, made by the
-- party that held the actor when it was made.
pub record IsSetByHolder (old : List MachineActor) (number : ℕ) (events : List Event) : Type 0 where
  pub earlier : List Event
  pub event : Event
  pub later : List Event
  pub state : List MachineActor
  pub held : MachineActor
  pub order : events ≡ earlier ++ event ∷ later
  pub run : Run old earlier state
  pub present : slice_get state number ≡ Some held
  pub same_actor : event.actor.0 ≡ number
  pub holder : held.holder ≡ Some event.party
  pub sets : IsTrue (sets_count event.step)

-- Nobody takes an actor from its holder. One step: it stays with its holder, or that one has given it back.
abbrev pub StaysWithHolder : ℕ → Step → MachineActor → MachineActor → Type 0
StaysWithHolder party step x y =
    (holder : ℕ) → x.holder ≡ Some holder →
    (y.holder ≡ Some holder) ⊎ ((party ≡ holder) × IsTrue (is_idle step))

-- A stretch: the same, of the events of the stretch.
abbrev pub StaysWithHolderOver : List MachineActor → ℕ → List Event → MachineActor → MachineActor → Type 0
StaysWithHolderOver old number events x y =
    (holder : ℕ) → x.holder ≡ Some holder → (y.holder ≡ Some holder) ⊎ Any (IsGivenBack holder number) events

-- Nobody comes to hold an actor but by scheduling it. One step: who holds it held it before, or has scheduled it.
abbrev pub IsHeldBySchedule : ℕ → Step → MachineActor → MachineActor → Type 0
IsHeldBySchedule party step x y =
    (holder : ℕ) → y.holder ≡ Some holder →
    (x.holder ≡ Some holder) ⊎ ((party ≡ holder) × IsTrue (is_schedule step))

-- A stretch: the same, of the events of the stretch.
abbrev pub IsHeldByScheduleOver : List MachineActor → ℕ → List Event → MachineActor → MachineActor → Type 0
IsHeldByScheduleOver old number events x y =
    (holder : ℕ) → y.holder ≡ Some holder → (x.holder ≡ Some holder) ⊎ Any (IsScheduledBy holder number) events

-- Only the holder changes the count or closes.
abbrev pub IsSetByHolderAlone : ℕ → Step → MachineActor → MachineActor → Type 0
IsSetByHolderAlone party step x y = HasSameCount x y ⊎ ((x.holder ≡ Some party) × IsTrue (sets_count step))

-- A stretch: only the holder changed the suspend count or closed the mailbox.
abbrev pub IsSetByHolderAloneOver : List MachineActor → ℕ → List Event → MachineActor → MachineActor → Type 0
IsSetByHolderAloneOver old number events x y = HasSameCount x y ⊎ IsSetByHolder old number events

-- So what a holder knows of the count and the closing stays true, until it changes them itself or gives the actor back.
abbrev pub StaysKnownToHolderOver : List MachineActor → ℕ → List Event → MachineActor → MachineActor → Type 0
StaysKnownToHolderOver old number events x y =
    (holder : ℕ) → x.holder ≡ Some holder → HasSameCount x y ⊎ Any (IsOwnChange holder number) events

-- What is closed stays closed, and system work that is gone for good stays gone.
pub record StaysEnded (x y : MachineActor) : Type 0 where
  pub closed : IsTrue x.mailbox.closed → IsTrue y.mailbox.closed
  pub gone : x.system ≡ None → y.system ≡ None

-- the link holds between an actor before and after a step of a party
abbrev pub ChangesLink : (ℕ → Step → MachineActor → MachineActor → Type 0) → Type 0
ChangesLink R = (x : MachineActor) (party : ℕ) (step : Step) (y : MachineActor) → Change x party step y → R party step x y

-- the same, where the actor is held as it should be
abbrev pub ChangesLinkWhereHeld : (ℕ → Step → MachineActor → MachineActor → Type 0) → Type 0
ChangesLinkWhereHeld R =
    (x : MachineActor) (party : ℕ) (step : Step) (y : MachineActor) → Change x party step y → IsHeldRightly x → R party step x y

-- Any stretch of any run, from a state old: each actor is still there at its end, and the link holds between what the
-- actor was and what it is.
abbrev pub StretchesLink : (List MachineActor → ℕ → List Event → MachineActor → MachineActor → Type 0) → Type 0
StretchesLink R =
    (words : List ℕ) (parties : ℕ) (before : List Event) (old : List MachineActor) → LeadsTo words parties before old →
    (events : List Event) (new : List MachineActor) → Run old events new →
    (number : ℕ) (x : MachineActor) → slice_get old number ≡ Some x →
    (y : MachineActor) × (slice_get new number ≡ Some y) × R old number events x y
