-- Who is runnable is owed something.
use Rattle.std.proofs.Common.{◌≡◌, ◌<◌, ◌⊎◌, inl, inr, Bool, true, false, ◌||◌, IsTrue, IsFalse, sym, ap, ◌∙◌, refl, arith}
use Rattle.std.proofs.lemmas.Bool.Decides.{nat_tests}
use Rattle.mb_core.specs.declared.wake_obligation.WakeObligation.{WakeObligation}
use Rattle.mb_core.specs.Actor.{MachineActor, nothing, has_work}
use Rattle.mb_core.specs.Settled.{IsSettled, IsOwedSystem, IsOwedMessage, IsOwedNothing, is_runnable}

open_of : (x : MachineActor) → IsTrue (is_runnable x) → IsFalse x.mailbox.closed
open_of x runs = grind (arith, nat_tests)

free_of : (x : MachineActor) → IsTrue (is_runnable x) → IsFalse x.mailbox.scheduled
free_of x runs = grind (arith, nat_tests)

-- without system work it is for envelopes
count_of : (x : MachineActor) → IsTrue (is_runnable x) → IsFalse (has_work x.system) → x.mailbox.count ≡ 0
count_of x runs idle = grind (arith, nat_tests)

waiting_of : (x : MachineActor) → IsTrue (is_runnable x) → IsFalse (has_work x.system) → 0 < x.waiting
waiting_of x runs idle = grind (arith, nat_tests)

owed_by : (x : MachineActor) (work : Bool) → has_work x.system ≡ work → IsSettled x → IsTrue (is_runnable x) → IsOwedSystem x ⊎ IsOwedMessage x
owed_by x true found settled runs = inl (settled.system (open_of x runs) (free_of x runs) found)
owed_by x false found settled runs =
    inr (settled.message (open_of x runs) (free_of x runs) (count_of x runs found) (waiting_of x runs found))

pub runnable_owed : (x : MachineActor) → IsSettled x → IsTrue (is_runnable x) → IsOwedSystem x ⊎ IsOwedMessage x
runnable_owed x settled runs = owed_by x (has_work x.system) refl settled runs

nothing_system : (x : MachineActor) → IsOwedNothing x → IsOwedSystem x → ⊥
nothing_system x paid owed =
    let none : owed.1 ≡ nothing = sym owed.3 ∙ paid owed.0 owed.1 owed.2 in
    let absent : owed.1.system ≡ false = ap (λ (d : WakeObligation). d.system) none in
    cc (absent, owed.4)

nothing_message : (x : MachineActor) → IsOwedNothing x → IsOwedMessage x → ⊥
nothing_message x paid owed =
    let none : owed.1 ≡ nothing = sym owed.3 ∙ paid owed.0 owed.1 owed.2 in
    let absent : (owed.1.message || owed.1.sending) ≡ false = ap (λ (d : WakeObligation). d.message || d.sending) none in
    cc (absent, owed.4)

paid_by : (x : MachineActor) (runs : Bool) → is_runnable x ≡ runs → IsSettled x → IsOwedNothing x → runs ≡ false
paid_by x false found settled paid = refl
paid_by x true found settled paid =
    absurd (elim (runnable_owed x settled found) as (λ _. ⊥) [
      | inl owed ↦ nothing_system x paid owed
      | inr owed ↦ nothing_message x paid owed
    ])

pub paid_idle : (x : MachineActor) → IsSettled x → IsOwedNothing x → IsFalse (is_runnable x)
paid_idle x settled paid = paid_by x (is_runnable x) refl settled paid
