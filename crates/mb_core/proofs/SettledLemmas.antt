-- Each event keeps that nothing is stranded.
use Rattle.std.proofs.Common.{◌≡◌, ℕ, ◌<◌, inl, inr, Bool, true, false, ◌||◌, ◌==◌, if◌then◌else◌, List, [], ◌∷◌, length, get_or}
use Rattle.std.proofs.Common.{All, Any, Some, IsTrue, IsFalse, sym, ap, subst, refl, ◌∙◌, arith}
use Rattle.std.proofs.Math.ListN.{set}
use Rattle.std.proofs.lemmas.List.{length-set, get_or_default, get_or-set_other}
use Rattle.std.proofs.lemmas.List.Quantifiers.{any-set}
use Rattle.std.proofs.lemmas.Bool.{cases_lt}
use Rattle.std.proofs.lemmas.Bool.Decides.{nat_tests}
use Rattle.mb_status.specs.Mailbox.{Mailbox, suspend}
use Rattle.mb_core.specs.declared.wake_obligation.WakeObligation.{WakeObligation}
use Rattle.mb_core.specs.declared.event.Event.{Event}
use Rattle.mb_core.specs.declared.event.Step.{Step}
use Rattle.mb_core.specs.declared.event.Step.TheVariants.{Read, Schedule, Idle, Suspend, Resume, Close, Sent, Unsent}
use Rattle.mb_core.specs.declared.event.Step.TheVariants.{Taken, Count, Push, Take, SysAdd, SysRead, SysDrain, SysEnd}
use Rattle.mb_core.specs.Actor.{MachineActor, at_start, nothing, owing, obligation_by, has_work}
use Rattle.mb_core.specs.Held.{IsHeldRightly}
use Rattle.mb_core.specs.Run.{Change, Transition, Run, LeadsTo, can_start, after_reading}
use Rattle.mb_core.specs.Settled.{IsSettled, IsOwedSystem, IsOwedMessage}
use Rattle.mb_core.proofs.HeldLemmas.{held_step, held_start}
use Rattle.mb_core.proofs.KeptLemmas.{at_before, after_step, after_start}

-- somebody still owes it, where the party that owes something else now owes it too if it did before
pub any_set_kept :
    (P : WakeObligation → Type 0) (xs : List WakeObligation) (i : ℕ) (y : WakeObligation) → i < length xs → (P (get_or xs i nothing) → P y) →
    Any P xs → Any P (set xs i y)
any_set_kept P xs i y inside kept some =
    elim (cases_lt i some.0) as (λ _. Any P (set xs i y)) [
      | inl below ↦ other (omega arith)
      | inr above ↦ elim (cases_lt some.0 i) as (λ _. Any P (set xs i y)) [
        | inl less ↦ other (omega arith)
        | inr more ↦
            let same : some.0 ≡ i = omega arith in
            let read : get_or xs i nothing ≡ some.1 =
            ap (λ k. get_or xs k nothing) (sym same) ∙ get_or_default xs some.0 nothing some.1 some.2 ∙ some.3 in
            any-set P xs i y inside (kept (subst P (sym read) some.4))
      ]
    ]
  where
    other : (some.0 ≡ i → ⊥) → Any P (set xs i y)
    other apart = (some.0, some.1, rw length-set some.2, get_or-set_other xs i some.0 y some.1 apart ∙ some.3, some.4)

-- a free actor is held by nobody
pub nobody :
    (x : MachineActor) (party : ℕ) → IsHeldRightly x → IsFalse x.mailbox.closed → IsFalse x.mailbox.scheduled →
    x.holder ≡ Some party → ⊥
nobody x party held open_ free is = grind (arith, held.free open_ free)

-- what a party owes after reading the status of an open mailbox that nobody holds
pub read_system :
    (m : Mailbox) (obligation : WakeObligation) → IsFalse m.closed → IsFalse m.scheduled → (after_reading m obligation).system ≡ obligation.system
read_system m obligation open_ free = grind arith

pub read_message :
    (m : Mailbox) (obligation : WakeObligation) → IsFalse m.closed → IsFalse m.scheduled → m.count ≡ 0 →
    ((after_reading m obligation).message || (after_reading m obligation).sending) ≡ (obligation.message || obligation.sending)
read_message m obligation open_ free unsuspended = grind (arith, nat_tests)

-- the party owes no less than it did for system work
pub system_kept :
    (x : MachineActor) (party : ℕ) (obligation : WakeObligation) → party < length x.owed → (IsTrue (obligation_by x party).system → IsTrue obligation.system) →
    IsOwedSystem x → IsOwedSystem (owing x party obligation)
system_kept x party obligation there kept some =
    any_set_kept (λ d. IsTrue d.system) x.owed party obligation there kept some

-- nor for envelopes
pub message_kept :
    (x : MachineActor) (party : ℕ) (obligation : WakeObligation) → party < length x.owed →
    (IsTrue ((obligation_by x party).message || (obligation_by x party).sending) → IsTrue (obligation.message || obligation.sending)) →
    IsOwedMessage x → IsOwedMessage (owing x party obligation)
message_kept x party obligation there kept some =
    any_set_kept (λ d. IsTrue (d.message || d.sending)) x.owed party obligation there kept some

pub owes_system : (x : MachineActor) (party : ℕ) (obligation : WakeObligation) → party < length x.owed → IsTrue obligation.system → IsOwedSystem (owing x party obligation)
owes_system x party obligation there owes = any-set (λ d. IsTrue d.system) x.owed party obligation there owes

pub owes_message :
    (x : MachineActor) (party : ℕ) (obligation : WakeObligation) → party < length x.owed → IsTrue (obligation.message || obligation.sending) →
    IsOwedMessage (owing x party obligation)
owes_message x party obligation there owes = any-set (λ d. IsTrue (d.message || d.sending)) x.owed party obligation there owes

or_true : (b : Bool) → IsTrue (b || true)
or_true true = refl
or_true false = refl

suspend-closed : (m : Mailbox) → (suspend m).closed ≡ m.closed
suspend-closed m = grind arith

suspend-scheduled : (m : Mailbox) → (suspend m).scheduled ≡ m.scheduled
suspend-scheduled m = grind arith

-- a look at the waiting number, by what it found
settled_count :
    (x : MachineActor) (party : ℕ) (y : MachineActor) (none : Bool) → (x.waiting == 0) ≡ none → party < length x.owed →
    y ≡ (if none then owing x party (record (obligation_by x party) { message = false }) else x) → IsSettled x → IsSettled y
settled_count x party y false found there change settled = subst IsSettled (sym change) settled
settled_count x party y true found there change settled = rw change (record {
  system = λ open_ free work. system_kept x party _ there (λ was. was) (settled.system open_ free work);
  message = λ open_ free unsuspended waits. absurd (grind (arith, nat_tests));
})

-- a look at the system list, by what it found
settled_look :
    (x : MachineActor) (party : ℕ) (y : MachineActor) (work : Bool) → has_work x.system ≡ work → party < length x.owed →
    y ≡ (if work then x else owing x party (record (obligation_by x party) { system = false })) → IsSettled x → IsSettled y
settled_look x party y true found there change settled = subst IsSettled (sym change) settled
settled_look x party y false found there change settled = rw change (record {
  system = λ open_ free work. cc;
  message = λ open_ free unsuspended waits.
      message_kept x party _ there (λ was. was) (settled.message open_ free unsuspended waits);
})

-- The change keeps the fact. What its holder does to an actor cannot strand it: it is scheduled or closed.
pub settled_change :
    (x : MachineActor) (party : ℕ) (step : Step) (y : MachineActor) → Change x party step y → party < length x.owed →
    IsHeldRightly x → IsSettled x → IsSettled y
settled_change x party Read y change there held settled = rw change (record {
  system = λ open_ free work.
      system_kept x party _ there (λ was. rw (read_system x.mailbox (obligation_by x party) open_ free) was) (settled.system open_ free work);
  message = λ open_ free unsuspended waits.
      message_kept x party _ there
      (λ was. rw (read_message x.mailbox (obligation_by x party) open_ free unsuspended) was)
      (settled.message open_ free unsuspended waits);
})
settled_change x party Schedule y change there held settled =
    rw change.2 (record { system = λ open_ free work. cc; message = λ open_ free unsuspended waits. cc })
settled_change x party (Idle rest) y change there held settled = rw change.1 (record {
  system = λ open_ free work. owes_system x party _ there refl;
  message = λ open_ free unsuspended waits. owes_message x party _ there refl;
})
settled_change x party Suspend y change there held settled = rw change.2 (record {
  system = λ open_ free work.
      absurd (nobody x party held (sym (suspend-closed x.mailbox) ∙ open_) (sym (suspend-scheduled x.mailbox) ∙ free) change.0);
  message = λ open_ free unsuspended waits.
      absurd (nobody x party held (sym (suspend-closed x.mailbox) ∙ open_) (sym (suspend-scheduled x.mailbox) ∙ free) change.0);
})
settled_change x party Resume y change there held settled = rw change.1 (record {
  system = λ open_ free work. absurd (nobody x party held open_ free change.0);
  message = λ open_ free unsuspended waits. absurd (nobody x party held open_ free change.0);
})
settled_change x party Close y change there held settled =
    rw change.1 (record { system = λ open_ free work. cc; message = λ open_ free unsuspended waits. cc })
settled_change x party Sent y change there held settled = rw change (record {
  system = λ open_ free work. system_kept x party _ there (λ was. was) (settled.system open_ free work);
  message = λ open_ free unsuspended waits. owes_message x party _ there (or_true (obligation_by x party).message);
})
settled_change x party Unsent y change there held settled = rw change.1 (record {
  system = λ open_ free work. system_kept x party _ there (λ was. was) (settled.system open_ free work);
  message = λ open_ free unsuspended waits. owes_message x party _ there refl;
})
settled_change x party Taken y change there held settled = rw change.1 (record {
  system = λ open_ free work. absurd (nobody x party held open_ free change.0);
  message = λ open_ free unsuspended waits. absurd (nobody x party held open_ free change.0);
})
settled_change x party Count y change there held settled =
    settled_count x party y (x.waiting == 0) refl there change settled
settled_change x party (Push envelope) y change there held settled =
    rw change (record { system = settled.system; message = settled.message })
settled_change x party (Take place) y change there held settled =
    rw change.2 (record { system = settled.system; message = settled.message })
settled_change x party (SysAdd message) y change there held settled = rw change.1 (record {
  system = λ open_ free work. owes_system x party _ there refl;
  message = λ open_ free unsuspended waits.
      message_kept x party _ there (λ was. was) (settled.message open_ free unsuspended waits);
})
settled_change x party SysRead y change there held settled =
    settled_look x party y (has_work x.system) refl there change settled
settled_change x party SysDrain y change there held settled = rw change.1 (record {
  system = λ open_ free work. absurd (nobody x party held open_ free change.0);
  message = settled.message;
})
settled_change x party SysEnd y change there held settled =
    rw change.2 (record { system = λ open_ free work. cc; message = settled.message })

-- so the step keeps it of all
pub settled_step :
    (old : List MachineActor) (event : Event) (new : List MachineActor) → Transition old event new →
    All IsHeldRightly old → All IsSettled old → All IsSettled new
settled_step old event new step held settled =
    after_step IsSettled old event new step
    (settled_change step.before event.party event.step step.after step.change step.party_there
    (at_before IsHeldRightly old event new step held) (at_before IsSettled old event new step settled))
    settled

settled_start : (parties word : ℕ) → IsTrue (can_start word) → IsSettled (at_start parties word)
settled_start parties word can = record {
  system = λ open_ free work. cc;
  message = λ open_ free unsuspended waits. absurd (omega (arith, waits));
}

-- a run keeps it, beside who holds
pub settled_events :
    (old : List MachineActor) (events : List Event) (new : List MachineActor) → Run old events new →
    All IsHeldRightly old → All IsSettled old → All IsSettled new
settled_events old [] new run held settled = subst (All IsSettled) (sym run) settled
settled_events old (event ∷ events) new run held settled =
    settled_events run.0 events new run.2 (held_step old event run.0 run.1 held) (settled_step old event run.0 run.1 held settled)

pub settled_run :
    (words : List ℕ) (parties : ℕ) (events : List Event) (state : List MachineActor) → LeadsTo words parties events state →
    All IsSettled state
settled_run words parties events state leads =
    settled_events _ events state leads.run
    (after_start IsHeldRightly held_start words parties leads.can_start)
    (after_start IsSettled settled_start words parties leads.can_start)
