-- The runs of the machine: where each event is allowed, what it changes, and what a list of events leads to.
use Rattle.std.specs.Prelude.{◌≡◌, ℕ, ◌+◌, ◌-◌, ◌%◌, ◌^◌, ◌<◌, Bool, true, false, not, ◌&&◌, ◌||◌, ◌==◌, if◌then◌else◌, IsTrue, IsFalse}
use Rattle.std.specs.Prelude.{List, [], ◌∷◌, ◌++◌, All, map, length, remove, slice_get, slice_set, Option, Some, None, IsSome, option_map}
use Rattle.mb_status.specs.Mailbox.{Mailbox, mailbox_of, is_valid, most_suspensions, suspended, idle, suspend, resume, closed_mailbox}
use Rattle.mb_msg.specs.declared.system.SysMsg.{SysMsg}
use Rattle.mb_core.specs.declared.wake_obligation.WakeObligation.{WakeObligation}
use Rattle.mb_core.specs.declared.event.Event.{Event}
use Rattle.mb_core.specs.declared.event.Step.{Step}
use Rattle.mb_core.specs.declared.event.Step.TheVariants.{Read, Schedule, Idle, Suspend, Resume, Close, Sent, Unsent}
use Rattle.mb_core.specs.declared.event.Step.TheVariants.{Taken, Count, Push, Take, SysAdd, SysRead, SysDrain, SysEnd}
use Rattle.mb_core.specs.Actor.{MachineActor, nothing, obligation_by, owing, has_work, at_start}

-- What a party still owes once it has read this status: nothing where the actor is scheduled or closed; no wake-up
-- for envelopes where it is suspended; else what it owed as `sending` it owes as `message` (this project's own profile).
abbrev pub after_reading : Mailbox → WakeObligation → WakeObligation
after_reading m obligation =
    if m.closed || m.scheduled then nothing
    else (if suspended m then record obligation { message = false; sending = false }
    else record obligation { message = obligation.message || obligation.sending; sending = false })

-- the waiting number with one more counted, and with one less (this project's own profile)
abbrev pub one_more : ℕ → ℕ
one_more waiting = (waiting + 1) % 2 ^ 64

-- the waiting number with one less counted, modulo 2^64
abbrev pub one_less : ℕ → ℕ
one_less waiting = (waiting + (2 ^ 64 - 1)) % 2 ^ 64

-- System work with a message at its end, with some in front, and with none left, unless it is gone: `systemEnqueue` of
-- `akka.dispatch.Mailbox`, what this project's own profile adds to it, and `systemDrain`.
abbrev pub with_last : Option (List SysMsg) → SysMsg → Option (List SysMsg)
with_last system message = option_map (λ listed. listed ++ message ∷ []) system

-- system work with these messages in front, unless it is gone
abbrev pub with_first : Option (List SysMsg) → List SysMsg → Option (List SysMsg)
with_first system rest = option_map (λ listed. rest ++ listed) system

-- system work with none left, unless it is gone
abbrev pub drained : Option (List SysMsg) → Option (List SysMsg)
drained system = option_map (λ listed. []) system

-- the actor that its holder gives back, with system messages that it did not apply
abbrev pub given_back : MachineActor → List SysMsg → MachineActor
given_back x rest = record x { mailbox = idle x.mailbox; system = with_first x.system rest; holder = None }

-- A step of a party, seen from its actor: where it is allowed, and what the actor is after it. The transitions of the
-- mailbox are those of `akka.dispatch.Mailbox`; who owes what is this project's own profile.
abbrev pub Change : MachineActor → ℕ → Step → MachineActor → Type 0
-- always
Change x party Read y = y ≡ owing x party (after_reading x.mailbox (obligation_by x party))
-- where the mailbox is neither closed nor scheduled: the party holds the actor from now on, and owes it nothing
Change x party Schedule y =
    IsFalse x.mailbox.closed × IsFalse x.mailbox.scheduled ×
    (y ≡ owing (record x { mailbox = record x.mailbox { scheduled = true }; holder = Some party }) party nothing)
-- by the holder: the rest goes in front of the system work, and the party owes the actor a check of both queues
Change x party (Idle rest) y =
    (x.holder ≡ Some party) ×
    (y ≡ owing (given_back x rest) party (record (obligation_by x party) { system = true; message = true }))
-- by the holder, where the count is below the limit
Change x party Suspend y =
    (x.holder ≡ Some party) × (x.mailbox.count < most_suspensions) × (y ≡ record x { mailbox = suspend x.mailbox })
-- by the holder
Change x party Resume y = (x.holder ≡ Some party) × (y ≡ record x { mailbox = resume x.mailbox })
-- by the holder
Change x party Close y = (x.holder ≡ Some party) × (y ≡ record x { mailbox = closed_mailbox })
-- always
Change x party Sent y =
    y ≡ owing (record x { waiting = one_more x.waiting }) party (record (obligation_by x party) { sending = true })
-- by a party that is sending: it owes a check instead
Change x party Unsent y =
    IsTrue (obligation_by x party).sending ×
    (y ≡
    owing (record x { waiting = one_less x.waiting }) party (record (obligation_by x party) { message = true; sending = false }))
-- by the holder
Change x party Taken y = (x.holder ≡ Some party) × (y ≡ record x { waiting = one_less x.waiting })
-- always: where nothing waits, no check of the envelopes is owed
Change x party Count y =
    y ≡ (if x.waiting == 0 then owing x party (record (obligation_by x party) { message = false }) else x)
-- always
Change x party (Push envelope) y = y ≡ record x { envelopes = x.envelopes ++ envelope ∷ [] }
-- by the holder, where there is an envelope at the index
Change x party (Take place) y =
    (x.holder ≡ Some party) × (place < length x.envelopes) × (y ≡ record x { envelopes = remove x.envelopes place })
-- where the system work is not gone
Change x party (SysAdd message) y =
    IsSome x.system ×
    (y ≡ owing (record x { system = with_last x.system message }) party (record (obligation_by x party) { system = true }))
-- always: where nothing is listed, no check of it is owed
Change x party SysRead y =
    y ≡ (if has_work x.system then x else owing x party (record (obligation_by x party) { system = false }))
-- by the holder
Change x party SysDrain y = (x.holder ≡ Some party) × (y ≡ record x { system = drained x.system })
-- by the holder of a closed actor: the system work is gone for good
Change x party SysEnd y = (x.holder ≡ Some party) × IsTrue x.mailbox.closed × (y ≡ record x { system = None })

-- From old, the event leads to new: its actor and its party exist, its step is allowed, and no other actor changes.
pub record Transition (old : List MachineActor) (event : Event) (new : List MachineActor) : Type 0 where
  pub before : MachineActor
  pub after : MachineActor
  pub actor_there : slice_get old event.actor.0 ≡ Some before
  pub party_there : event.party < length before.owed
  pub change : Change before event.party event.step after
  pub others_stay : new ≡ slice_set old event.actor.0 after

-- From old, the events lead to new: they are a run, each allowed at its point.
abbrev pub Run : List MachineActor → List Event → List MachineActor → Type 0
Run old [] new = new ≡ old
Run old (event ∷ events) new = (next : List MachineActor) × Transition old event next × Run next events new

-- a run may begin with an actor of this word: one that a mailbox has, and not scheduled
abbrev pub can_start : ℕ → Bool
can_start word = is_valid word && not (mailbox_of word).scheduled

-- the actors of these words as a run begins, with this many parties
abbrev pub start : List ℕ → ℕ → List MachineActor
start words parties = map (at_start parties) words

-- the events are a run from actors of these words with this many parties, and lead to this state
pub record LeadsTo (words : List ℕ) (parties : ℕ) (events : List Event) (state : List MachineActor) : Type 0 where
  pub can_start : All (λ word. IsTrue (can_start word)) words
  pub run : Run (start words parties) events state

-- the answer to a step of a party: it was carried out, or it is not allowed
abbrev pub IsCarriedOut : MachineActor → ℕ → Step → MachineActor → Bool → Type 0
IsCarriedOut x party step y true = Change x party step y
IsCarriedOut x party step y false = (z : MachineActor) → Change x party step z → ⊥

-- the answer to an event: it led from the one state to the other, or it leads nowhere
abbrev pub IsMade : List MachineActor → Event → List MachineActor → Bool → Type 0
IsMade old event new true = Transition old event new
IsMade old event new false = (other : List MachineActor) → Transition old event other → ⊥
