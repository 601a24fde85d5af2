-- When a Create or a message of the user's may come after a journal; the numbers of system messages.
use Rattle.std.proofs.Common.{◌≤◌, length, arith, ◌≡◌, ℕ, ℤ, ◌+◌, List, [], ◌∷◌, ◌++◌, true, false, refl, ap, subst, sym, ◌∙◌, inl, eq-eqb}
use Rattle.std.specs.Prelude.{filter, option_to_list, not, ◌&&◌, if◌then◌else◌, Option, Some, None, ◌==◌}
use Rattle.mb_msg.specs.declared.envelope.Body.TheVariants as body
use Rattle.mb_msg.specs.declared.envelope.Envelope.{Envelope}
use Rattle.mb_msg.specs.declared.system.SysMsg.{SysMsg}
use Rattle.mb_msg.specs.declared.system.SysMsg.TheVariants as system
use Rattle.mb_actor.specs.Behaviour.{Moment, Reply}
use Rattle.mb_actor.specs.declared.call.Call.{Call}
use Rattle.mb_actor.specs.declared.call.Call.TheVariants.{Start, Receive}
use Rattle.mb_actor.specs.declared.answer.Answer.{Answer}
use Rattle.mb_actor.specs.declared.effect.Effect.{Effect}
use Rattle.mb_actor.specs.declared.message.Message.TheVariants as message
use Rattle.mb_journal.specs.Aside.{ever_aside, aside, next_front, next_number, first_of_list, without_number}
use Rattle.mb_actor.specs.ActorList.{has}
use Rattle.mb_actor.specs.OutboxView.{spawns_of}
use Rattle.mb_journal.specs.Effects.{lasting_effects}
use Rattle.mb_journal.specs.Entry.{Entry, Outcome}
use Rattle.mb_journal.specs.Entry.Entry.{Handled, System}
use Rattle.mb_journal.specs.Entry.Outcome.{Applied}
use Rattle.mb_actor.specs.Held.{CanHold}
use Rattle.mb_journal.specs.Identity.{Identity, is_guardian}
use Rattle.mb_journal.specs.Lawful.{IsLawful, AreLawful, calls, call_of, unspawned, IsLawfulEntry, IsGiven, IsExpected, envelope_call, moment}
use Rattle.mb_journal.specs.Life.{phase, closed, has_start}
use Rattle.mb_journal.specs.Phase.{phase_is}
use Rattle.mb_journal.specs.Reading.{IsOpen}
use Rattle.mb_journal.specs.Suspension.{count}
use Rattle.mb_actor.specs.declared.phase.Phase.TheVariants.{Fresh, Live, Ending, Ended}
use Rattle.mb_journal.proofs.CreateLemmas.{sets_aside-create, call_of-create, call_of-create_again}
use Rattle.mb_journal.proofs.TestLemmas.{none_excepted, if_true, if_same}

-- the first Create of an actor that is not the guardian may come, with an answer and effects that its start may give
pub lawful-create : (who : Identity) (gives : Moment → Reply → Type 0) (before : List Entry) (number : ℕ) (a : Answer) (effects : List Effect) →
    phase who before ≡ Fresh → is_guardian who ≡ false → number ≡ next_number before →
    gives (moment who before Start) (record { answer = Some a; effects = effects }) →
    CanHold (record { effects = effects; actors = who.actors; unspawned = unspawned who before }) →
    IsLawfulEntry who gives before (System number system.Create (Applied (Some a) effects))
lawful-create who gives before number a effects fresh an_actor next given held = (
  record {
    not_ended = ap (λ p. phase_is p Ended) fresh;
    numbered = inl next;
    by_rule = sym (ap not (sets_aside-create who before));
  },
  subst (λ (call : Option Call). IsGiven who gives before call (Some a) effects)
      (sym (call_of-create who before number a effects fresh an_actor))
      (record { answered = refl; allowed = given; held = held }),
)

-- another Create may come, and does nothing
pub lawful-create_again : (who : Identity) (gives : Moment → Reply → Type 0) (before : List Entry) (number : ℕ) →
    has_start before ≡ true → closed who before ≡ false → number ≡ next_number before →
    IsLawfulEntry who gives before (System number system.Create (Applied None []))
lawful-create_again who gives before number started not_ended next = (
  record {
    not_ended = not_ended;
    numbered = inl next;
    by_rule = sym (ap not (sets_aside-create who before));
  },
  subst (λ (call : Option Call). IsGiven who gives before call None [])
      (sym (call_of-create_again who before number started)) (refl, refl),
)

-- a message of the user's may be handled by a Live actor at an open reading, with what its `receive` may give
pub lawful-user : (who : Identity) (gives : Moment → Reply → Type 0) (before : List Entry) (envelope : Envelope) (reading : ℕ) (a : Answer)
    (effects : List Effect) (kind : ℕ) (value : ℤ) →
    envelope.body ≡ body.User kind value → is_guardian who ≡ false → envelope.to ≡ who.this → phase who before ≡ Live →
    IsOpen who before reading →
    gives (moment who before (Receive (message.User kind value))) (record { answer = Some a; effects = effects }) →
    CanHold (record { effects = effects; actors = who.actors; unspawned = unspawned who before }) →
    IsLawfulEntry who gives before (Handled envelope reading (Applied (Some a) effects))
lawful-user who gives before envelope reading a effects kind value is_user an_actor addressed live open_reading given held = record {
  an_actor = an_actor;
  addressed = addressed;
  live = live;
  open_reading = open_reading;
  expected = subst (λ b. IsExpected who before b) (sym is_user) tt;
  given =
      subst (λ b. IsGiven who gives before (envelope_call b) (Some a) effects) (sym is_user)
      (record { answered = refl; allowed = given; held = held });
}

-- a message with the next number leaves the one after it
pub next_number-new : (before : List Entry) (number : ℕ) (m : SysMsg) (outcome : Outcome) → number ≡ next_number before →
    next_number (System number m outcome ∷ before) ≡ number + 1
unfolding next_number
next_number-new before number m outcome next = if_true _ _ _ (eq-eqb number (next_number before) next)

-- where nothing was set aside, an applied message sets nothing aside
pub ever_aside-applied : (before : List Entry) (number : ℕ) (m : SysMsg) (a : Option Answer) (effects : List Effect) → ever_aside before ≡ [] →
    ever_aside (System number m (Applied a effects) ∷ before) ≡ []
unfolding ever_aside
ever_aside-applied before number m a effects none = ap (λ list. without_number list number) none

-- and none is due
pub aside-none : (who : Identity) (journal : List Entry) → ever_aside journal ≡ [] → aside who journal ≡ []
unfolding aside
aside-none who journal none = ap (λ list. if closed who journal then [] else list) none ∙ if_same (closed who journal) []

pub next_front-none : (who : Identity) (journal : List Entry) → ever_aside journal ≡ [] → next_front who journal ≡ None
unfolding next_front
next_front-none who journal none =
    ap (λ list. if count who journal == 0 && not (phase_is (phase who journal) Ending) then first_of_list list else None)
    (aside-none who journal none)
    ∙ if_same _ None

-- a lawful journal with one more lawful entry, within the limit, is lawful
pub lawful-none : (who : Identity) (gives : Moment → Reply → Type 0) → IsLawful who gives []
unfolding AreLawful
lawful-none who gives = record { entries = tt; within_limit = omega arith }

pub lawful-more : (who : Identity) (gives : Moment → Reply → Type 0) (before : List Entry) (e : Entry) →
    IsLawful who gives before → IsLawfulEntry who gives before e → length (e ∷ before) ≤ who.limit → IsLawful who gives (e ∷ before)
unfolding AreLawful
lawful-more who gives before e lawful may_come within = record { entries = (may_come, lawful.entries); within_limit = within }

-- an entry that spawns nothing leaves the children that may be spawned
pub unspawned-none : (who : Identity) (e : Entry) (before : List Entry) → spawns_of (lasting_effects e) ≡ [] →
    unspawned who (e ∷ before) ≡ unspawned who before
unfolding unspawned
unspawned-none who e before none =
    ap (λ spawned. filter (λ x. not (has spawned x)) (unspawned who before)) none ∙ none_excepted (unspawned who before)

-- ---- the calls that a journal records

pub calls-none : (who : Identity) → calls who [] ≡ []
unfolding calls
calls-none who = refl

-- an entry that records a call adds it, and any other adds none
pub calls-called : (who : Identity) (before : List Entry) (e : Entry) (call : Call) → call_of who before e ≡ Some call →
    calls who (e ∷ before) ≡ call ∷ calls who before
unfolding calls
calls-called who before e call is_call = ap (λ (c : Option Call). option_to_list c ++ calls who before) is_call

pub calls-silent : (who : Identity) (before : List Entry) (e : Entry) → call_of who before e ≡ None →
    calls who (e ∷ before) ≡ calls who before
unfolding calls
calls-silent who before e no_call = ap (λ (c : Option Call). option_to_list c ++ calls who before) no_call
