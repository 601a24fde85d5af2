-- From what one step does to an actor to what a stretch of a run does to it.
use Rattle.std.proofs.Common.{◌≡◌, ◌⊎◌, inl, inr, ℕ, suc, ◌<◌, List, [], ◌∷◌, Any, All, Some, IsTrue, ◌||◌, slice_get, length}
use Rattle.std.proofs.Common.{sym, ap, subst, refl, ◌∙◌, arith}
use Rattle.std.proofs.lemmas.Bool.{cases_lt}
use Rattle.std.proofs.lemmas.Grind.{common_steps}
use Rattle.std.proofs.lemmas.Option.{same_Some, slice_get_within, slice_get-get_or, get_or_from_slice_get}
use Rattle.std.proofs.lemmas.List.{length-set, get_or-set_other, get_or-set_same}
use Rattle.std.proofs.Math.ListN.{set}
use Rattle.mb_core.specs.declared.event.Event.{Event}
use Rattle.mb_core.specs.declared.event.Step.{Step}
use Rattle.mb_core.specs.Actor.{MachineActor}
use Rattle.mb_core.specs.Held.{IsHeldRightly}
use Rattle.mb_core.specs.Run.{Change, Transition, Run}
use Rattle.mb_core.specs.Between.{HasSameCount, IsSetByHolder, IsGivenBack, IsOwnChange, StaysEnded, is_idle, sets_count}
use Rattle.mb_core.specs.Between.{StaysKnownToHolderOver}
use Rattle.mb_core.specs.Between.{IsHeldBySchedule, IsHeldByScheduleOver, IsScheduledBy}
use Rattle.mb_core.specs.Between.{StaysWithHolder, StaysWithHolderOver, IsSetByHolderAlone, IsSetByHolderAloneOver, StretchesLink}
use Rattle.mb_core.proofs.HeldLemmas.{held_step, held_run}

-- an element that is written to, and one that is not
get_set_same : (xs : List MachineActor) (i : ℕ) (y : MachineActor) → i < length xs → slice_get (set xs i y) i ≡ Some y
get_set_same xs i y inside =
    slice_get-get_or (set xs i y) i y (rw length-set inside) ∙ ap (λ (x : MachineActor). Some x) (get_or-set_same xs i y y inside)

get_set_other : (xs : List MachineActor) (i j : ℕ) (x y : MachineActor) → (j ≡ i → ⊥) → slice_get xs j ≡ Some x → slice_get (set xs i y) j ≡ Some x
get_set_other xs i j x y apart found =
    slice_get-get_or (set xs i y) j x (rw length-set (slice_get_within xs j x found)) ∙
    ap (λ (z : MachineActor). Some z) (get_or-set_other xs i j y x apart ∙ get_or_from_slice_get xs j x x found)

-- what an event makes of the actor of a number: nothing, or what its step does to it
pub at_number :
    (old : List MachineActor) (event : Event) (new : List MachineActor) → Transition old event new →
    (number : ℕ) (x : MachineActor) → slice_get old number ≡ Some x →
    (slice_get new number ≡ Some x) ⊎
    ((event.actor.0 ≡ number) × ((y : MachineActor) × (slice_get new number ≡ Some y) × Change x event.party event.step y))
at_number old event new step number x found =
    elim (cases_lt number event.actor.0) as (λ _. Result) [
      | inl below ↦ other (omega arith)
      | inr above ↦ elim (cases_lt event.actor.0 number) as (λ _. Result) [
        | inl less ↦ other (omega arith)
        | inr more ↦ here (omega arith)
      ]
    ]
  where
    Result : Type 0
    Result =
        (slice_get new number ≡ Some x) ⊎
        ((event.actor.0 ≡ number) × ((y : MachineActor) × (slice_get new number ≡ Some y) × Change x event.party event.step y))

    other : (number ≡ event.actor.0 → ⊥) → Result
    other apart =
        inl (
        ap (λ (s : List MachineActor). slice_get s number) step.others_stay ∙
        get_set_other old event.actor.0 number x step.after apart found
        )

    here : event.actor.0 ≡ number → Result
    here same =
        let at_event : slice_get old event.actor.0 ≡ Some x = ap (λ n. slice_get old n) same ∙ found in
        let same_actor : step.before ≡ x = same_Some step.before x (sym step.actor_there ∙ at_event) in
        let inside : event.actor.0 < length old = slice_get_within old event.actor.0 x at_event in
        let made : slice_get new event.actor.0 ≡ Some step.after =
        ap (λ (s : List MachineActor). slice_get s event.actor.0) step.others_stay ∙ get_set_same old event.actor.0 step.after inside in
        inr (
          same,
          (
            step.after,
            ap (λ n. slice_get new n) (sym same) ∙ made,
            subst (λ (z : MachineActor). Change z event.party event.step step.after) same_actor step.change,
          ),
        )

-- A link that holds of an actor and itself where nothing happens, that an event elsewhere keeps, and that goes on over a
-- step, holds over each stretch.
pub over_stretch :
    (R : List MachineActor → ℕ → List Event → MachineActor → MachineActor → Type 0) →
    ((old : List MachineActor) (number : ℕ) (x : MachineActor) → R old number [] x x) →
    ((old : List MachineActor) (event : Event) (next : List MachineActor) (events : List Event) (number : ℕ) (x y : MachineActor) →
    Transition old event next → R next number events x y → R old number (event ∷ events) x y) →
    ((old : List MachineActor) (event : Event) (next : List MachineActor) (events : List Event) (number : ℕ) (x y z : MachineActor) →
    Transition old event next → event.actor.0 ≡ number → slice_get old number ≡ Some x → IsHeldRightly x →
    Change x event.party event.step y → R next number events y z → R old number (event ∷ events) x z) →
    (old : List MachineActor) (events : List Event) (new : List MachineActor) → All IsHeldRightly old → Run old events new →
    (number : ℕ) (x : MachineActor) → slice_get old number ≡ Some x →
    (y : MachineActor) × (slice_get new number ≡ Some y) × R old number events x y
over_stretch R stays elsewhere made old [] new held run number x found =
    (x, ap (λ (s : List MachineActor). slice_get s number) run ∙ found, stays old number x)
over_stretch R stays elsewhere made old (event ∷ events) new held run number x found =
    elim (at_number old event run.0 run.1 number x found) as (λ _. Result) [
      | inl still ↦
          let rest = over_stretch R stays elsewhere made run.0 events new after run.2 number x still in
          (rest.0, rest.1, elsewhere old event run.0 events number x rest.0 run.1 rest.2)
      | inr here ↦
          let rest = over_stretch R stays elsewhere made run.0 events new after run.2 number here.1.0 here.1.1 in (
            rest.0,
            rest.1,
            made old event run.0 events number x here.1.0 rest.0 run.1 here.0 found held_here here.1.2 rest.2,
          )
    ]
  where
    Result : Type 0
    Result = (y : MachineActor) × (slice_get new number ≡ Some y) × R old number (event ∷ events) x y

    after : All IsHeldRightly run.0
    after = held_step old event run.0 run.1 held

    held_here : IsHeldRightly x
    held_here =
        subst IsHeldRightly (get_or_from_slice_get old number x x found)
        (held number x (slice_get_within old number x found))

-- one more event in front
any_later : (P : Event → Type 0) (event : Event) (events : List Event) → Any P events → Any P (event ∷ events)
any_later P event events some = (suc some.0, some.1, omega arith, some.3, some.4)

any_first : (P : Event → Type 0) (event : Event) (events : List Event) → P event → Any P (event ∷ events)
any_first P event events here = (0, event, omega arith, refl, here)

-- nobody takes an actor from its holder
pub stays_change :
    (x : MachineActor) (party : ℕ) (step : Step) (y : MachineActor) → Change x party step y → IsHeldRightly x → StaysWithHolder party step x y
stays_change x party step y change held = grind (arith, common_steps)

stays_later :
    (old next : List MachineActor) (event : Event) (events : List Event) (number : ℕ) (x y : MachineActor) →
    StaysWithHolderOver next number events x y → StaysWithHolderOver old number (event ∷ events) x y
stays_later old next event events number x y rest holder is =
    elim (rest holder is) as (λ _. (y.holder ≡ Some holder) ⊎ Any (IsGivenBack holder number) (event ∷ events)) [
      | inl same ↦ inl same
      | inr some ↦ inr (any_later (IsGivenBack holder number) event events some)
    ]

stays_made :
    (old : List MachineActor) (event : Event) (next : List MachineActor) (events : List Event) (number : ℕ) (x y z : MachineActor) →
    Transition old event next → event.actor.0 ≡ number → slice_get old number ≡ Some x → IsHeldRightly x →
    Change x event.party event.step y → StaysWithHolderOver next number events y z →
    StaysWithHolderOver old number (event ∷ events) x z
stays_made old event next events number x y z made here found held change rest holder is =
    elim (stays_change x event.party event.step y change held holder is)
    as (λ _. (z.holder ≡ Some holder) ⊎ Any (IsGivenBack holder number) (event ∷ events)) [
      | inl kept ↦ stays_later old next event events number y z rest holder kept
      | inr gave ↦ inr (
          any_first (IsGivenBack holder number) event events
          (record { same_party = gave.0; same_actor = here; idle = gave.1 })
          )
    ]

pub stays_over : StretchesLink StaysWithHolderOver
stays_over words parties before old leads events new run number x found =
    over_stretch StaysWithHolderOver (λ old number x holder is. inl is)
    (λ old event next events number x y made rest. stays_later old next event events number x y rest)
    stays_made old events new (held_run words parties before old leads) run number x found

-- who comes to hold an actor has scheduled it
pub begins_change :
    (x : MachineActor) (party : ℕ) (step : Step) (y : MachineActor) → Change x party step y → IsHeldBySchedule party step x y
begins_change x party step y change = grind (arith, common_steps)

begins_later :
    (old next : List MachineActor) (event : Event) (events : List Event) (number : ℕ) (x y : MachineActor) →
    IsHeldByScheduleOver next number events x y → IsHeldByScheduleOver old number (event ∷ events) x y
begins_later old next event events number x y rest holder is =
    elim (rest holder is) as (λ _. (x.holder ≡ Some holder) ⊎ Any (IsScheduledBy holder number) (event ∷ events)) [
      | inl same ↦ inl same
      | inr some ↦ inr (any_later (IsScheduledBy holder number) event events some)
    ]

begins_made :
    (old : List MachineActor) (event : Event) (next : List MachineActor) (events : List Event) (number : ℕ) (x y z : MachineActor) →
    Transition old event next → event.actor.0 ≡ number → slice_get old number ≡ Some x → IsHeldRightly x →
    Change x event.party event.step y → IsHeldByScheduleOver next number events y z →
    IsHeldByScheduleOver old number (event ∷ events) x z
begins_made old event next events number x y z made here found held change rest holder is =
    elim (rest holder is) as (λ _. (x.holder ≡ Some holder) ⊎ Any (IsScheduledBy holder number) (event ∷ events)) [
      | inl before ↦ elim (begins_change x event.party event.step y change holder before)
          as (λ _. (x.holder ≡ Some holder) ⊎ Any (IsScheduledBy holder number) (event ∷ events)) [
            | inl same ↦ inl same
            | inr took ↦ inr (
                any_first (IsScheduledBy holder number) event events
                (record { same_party = took.0; same_actor = here; schedule = took.1 })
                )
          ]
      | inr some ↦ inr (any_later (IsScheduledBy holder number) event events some)
    ]

pub begins_over : StretchesLink IsHeldByScheduleOver
begins_over words parties before old leads events new run number x found =
    over_stretch IsHeldByScheduleOver (λ old number x holder is. inl is)
    (λ old event next events number x y made rest. begins_later old next event events number x y rest)
    begins_made old events new (held_run words parties before old leads) run number x found

-- only the holder changes the count or closes
pub alone_change :
    (x : MachineActor) (party : ℕ) (step : Step) (y : MachineActor) → Change x party step y → IsSetByHolderAlone party step x y
alone_change x party step y change = grind (arith, common_steps)

set_later :
    (old : List MachineActor) (event : Event) (next : List MachineActor) (events : List Event) (number : ℕ) →
    Transition old event next → IsSetByHolder next number events → IsSetByHolder old number (event ∷ events)
set_later old event next events number made set_ = record {
  earlier = event ∷ set_.earlier;
  event = set_.event;
  later = set_.later;
  state = set_.state;
  held = set_.held;
  order = ap (λ (es : List Event). event ∷ es) set_.order;
  run = (next, made, set_.run);
  present = set_.present;
  same_actor = set_.same_actor;
  holder = set_.holder;
  sets = set_.sets;
}

alone_later :
    (old : List MachineActor) (event : Event) (next : List MachineActor) (events : List Event) (number : ℕ) (x y : MachineActor) →
    Transition old event next → IsSetByHolderAloneOver next number events x y →
    IsSetByHolderAloneOver old number (event ∷ events) x y
alone_later old event next events number x y made rest =
    elim rest as (λ _. IsSetByHolderAloneOver old number (event ∷ events) x y) [
      | inl same ↦ inl same
      | inr some ↦ inr (set_later old event next events number made some)
    ]

same_count : (x y z : MachineActor) → HasSameCount x y → HasSameCount y z → HasSameCount x z
same_count x y z one two = record { count = two.count ∙ one.count; closed = two.closed ∙ one.closed }

alone_made :
    (old : List MachineActor) (event : Event) (next : List MachineActor) (events : List Event) (number : ℕ) (x y z : MachineActor) →
    Transition old event next → event.actor.0 ≡ number → slice_get old number ≡ Some x → IsHeldRightly x →
    Change x event.party event.step y → IsSetByHolderAloneOver next number events y z →
    IsSetByHolderAloneOver old number (event ∷ events) x z
alone_made old event next events number x y z made here found held change rest =
    elim (alone_change x event.party event.step y change) as (λ _. IsSetByHolderAloneOver old number (event ∷ events) x z) [
      | inl same ↦ elim rest as (λ _. IsSetByHolderAloneOver old number (event ∷ events) x z) [
        | inl later ↦ inl (same_count x y z same later)
        | inr some ↦ inr (set_later old event next events number made some)
      ]
      | inr now ↦ inr (record {
        earlier = [];
        event = event;
        later = events;
        state = old;
        held = x;
        order = refl;
        run = refl;
        present = found;
        same_actor = here;
        holder = now.0;
        sets = now.1;
      })
    ]

pub alone_over : StretchesLink IsSetByHolderAloneOver
alone_over words parties before old leads events new run number x found =
    over_stretch IsSetByHolderAloneOver (λ old number x. inl (record { count = refl; closed = refl })) alone_later alone_made
    old events new (held_run words parties before old leads) run number x found

-- what a holder knows stays so until it changes it or gives the actor back
sets_own : (step : Step) → IsTrue (sets_count step) → IsTrue (sets_count step || is_idle step)
sets_own step sets = grind arith

idle_own : (step : Step) → IsTrue (is_idle step) → IsTrue (sets_count step || is_idle step)
idle_own step idle = grind arith

known_later :
    (old next : List MachineActor) (event : Event) (events : List Event) (number : ℕ) (x y : MachineActor) →
    StaysKnownToHolderOver next number events x y → StaysKnownToHolderOver old number (event ∷ events) x y
known_later old next event events number x y rest holder is =
    elim (rest holder is) as (λ _. HasSameCount x y ⊎ Any (IsOwnChange holder number) (event ∷ events)) [
      | inl same ↦ inl same
      | inr some ↦ inr (any_later (IsOwnChange holder number) event events some)
    ]

known_made :
    (old : List MachineActor) (event : Event) (next : List MachineActor) (events : List Event) (number : ℕ) (x y z : MachineActor) →
    Transition old event next → event.actor.0 ≡ number → slice_get old number ≡ Some x → IsHeldRightly x →
    Change x event.party event.step y → StaysKnownToHolderOver next number events y z →
    StaysKnownToHolderOver old number (event ∷ events) x z
known_made old event next events number x y z made here found held change rest holder is =
    elim (alone_change x event.party event.step y change) as (λ _. Result) [
      | inl same ↦ elim (stays_change x event.party event.step y change held holder is) as (λ _. Result) [
        | inl kept ↦ elim (rest holder kept) as (λ _. Result) [
          | inl later ↦ inl (same_count x y z same later)
          | inr some ↦ inr (any_later (IsOwnChange holder number) event events some)
        ]
        | inr gave ↦ own gave.0 (idle_own event.step gave.1)
      ]
      | inr now ↦ own (same_Some event.party holder (sym now.0 ∙ is)) (sets_own event.step now.1)
    ]
  where
    Result : Type 0
    Result = HasSameCount x z ⊎ Any (IsOwnChange holder number) (event ∷ events)

    own : event.party ≡ holder → IsTrue (sets_count event.step || is_idle event.step) → Result
    own same changes = inr (
        any_first (IsOwnChange holder number) event events (record { same_party = same; same_actor = here; change = changes })
        )

pub known_over : StretchesLink StaysKnownToHolderOver
known_over words parties before old leads events new run number x found =
    over_stretch StaysKnownToHolderOver (λ old number x holder is. inl (record { count = refl; closed = refl }))
    (λ old event next events number x y made rest. known_later old next event events number x y rest)
    known_made old events new (held_run words parties before old leads) run number x found

-- what is closed or gone stays so
pub ended_change : (x : MachineActor) (party : ℕ) (step : Step) (y : MachineActor) → Change x party step y → StaysEnded x y
ended_change x party step y change = grind (arith, common_steps)

pub ended_over : StretchesLink (λ old number events x y. StaysEnded x y)
ended_over words parties before old leads events new run number x found =
    over_stretch (λ old number events x y. StaysEnded x y)
    (λ old number x. record { closed = λ is. is; gone = λ is. is })
    (λ old event next events number x y made rest. record { closed = rest.closed; gone = rest.gone })
    (λ old event next events number x y z made here found held change rest.
    let first : StaysEnded x y = ended_change x event.party event.step y change in
    record { closed = λ is. rest.closed (first.closed is); gone = λ is. rest.gone (first.gone is) })
    old events new (held_run words parties before old leads) run number x found
