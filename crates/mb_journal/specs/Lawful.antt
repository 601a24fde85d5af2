-- Which journals an actor can have.
-- In each definition `before` is what came before the entry.
use Rattle.std.specs.Prelude.{◌≡◌, ◌⊎◌, ℕ, ◌≤◌, Bool, false, not, ◌&&◌, if◌then◌else◌, IsTrue, IsSome, length, List, [], ◌∷◌, ◌++◌}
use Rattle.std.specs.Prelude.{filter, option_to_list, Option, Some, None, ⊤}
use Rattle.mb_msg.specs.declared.envelope.Body.{Body}
use Rattle.mb_msg.specs.declared.envelope.Body.TheVariants as body
use Rattle.mb_msg.specs.declared.envelope.Envelope.{Envelope}
use Rattle.mb_msg.specs.declared.id.ActorId.{ActorId}
use Rattle.mb_msg.specs.declared.supervision.Cause.{Cause}
use Rattle.mb_msg.specs.declared.supervision.Cause.TheVariants as cause
use Rattle.mb_msg.specs.declared.system.SysMsg.{SysMsg}
use Rattle.mb_msg.specs.declared.system.SysMsg.TheVariants as system
use Rattle.mb_actor.specs.Behaviour.{Moment, Reply}
use Rattle.mb_actor.specs.declared.call.Call.{Call}
use Rattle.mb_actor.specs.declared.call.Call.TheVariants.{Start, Receive, Restart, Stop}
use Rattle.mb_actor.specs.declared.answer.Answer.{Answer}
use Rattle.mb_actor.specs.declared.effect.Effect.{Effect}
use Rattle.mb_actor.specs.declared.message.Message.TheVariants as message
use Rattle.mb_actor.specs.ActorList.{has}
use Rattle.mb_journal.specs.Aside.{sets_aside, next_front, next_number}
use Rattle.mb_actor.specs.OutboxView.{spawns_of}
use Rattle.mb_journal.specs.Effects.{lasting_effects}
use Rattle.mb_journal.specs.Entry.{Entry, Outcome, is_applied}
use Rattle.mb_journal.specs.Entry.Entry.{Handled, System, Dropped}
use Rattle.mb_journal.specs.Entry.Outcome.{Applied, SetAside}
use Rattle.mb_actor.specs.Held.{CanHold}
use Rattle.mb_journal.specs.Identity.{Identity, is_guardian}
use Rattle.mb_journal.specs.Incarnation.{messages}
use Rattle.mb_journal.specs.Life.{phase, closed, is_start, is_restart, is_ending, is_last}
use Rattle.mb_journal.specs.Phase.{phase_is}
use Rattle.mb_journal.specs.Reading.{IsOpen}
use Rattle.mb_journal.specs.Suspension.{count}
use Rattle.mb_journal.specs.Watching.{due}
use Rattle.mb_actor.specs.declared.phase.Phase.TheVariants.{Live}

-- the children that the actor may still spawn: those prepared for it and not spawned yet
unfoldable pub unspawned : Identity → List Entry → List ActorId
unspawned who [] = who.prepared
unspawned who (e ∷ before) = filter (λ x. not (has (spawns_of (lasting_effects e)) x)) (unspawned who before)

-- the actor was Live when it was told to end (that only such an actor's `stop` is called is this project's own profile)
unfoldable pub was_live : Identity → List Entry → Bool
was_live who [] = false
was_live who (e ∷ before) = if is_ending e before then phase_is (phase who before) Live else was_live who before

-- the cause that a restart is told
abbrev pub restart_cause : SysMsg → Cause
restart_cause (system.Recreate c) = c
restart_cause _ = cause.Init

-- which call of the actor an envelope leads to
abbrev pub envelope_call : Body → Option Call
envelope_call (body.User kind value) = Some (Receive (message.User kind value))
envelope_call (body.Control kind value) = Some (Receive (message.Control kind value))
envelope_call (body.Terminated x) = Some (Receive (message.Terminated x))
envelope_call _ = None

-- which call of the actor an entry records (the hooks of `akka.actor.Actor`): none is made of the guardian
abbrev pub call_of : Identity → List Entry → Entry → Option Call
call_of who before (Handled envelope reading outcome) = envelope_call envelope.body
call_of who before (System number m outcome) =
    let e : Entry = System number m outcome in
    if is_guardian who then None
    else (if is_start e before then Some Start
    else (if is_restart who e before then Some (Restart (restart_cause m))
    else (if is_last who e before && was_live who (e ∷ before) then Some Stop
    else None)))
call_of who before (Dropped envelope) = None

-- the calls of the actor that a journal records, the newest first
unfoldable pub calls : Identity → List Entry → List Call
calls who [] = []
calls who (e ∷ before) = option_to_list (call_of who before e) ++ calls who before

-- the moment of a call after these entries, as an actor's behaviour is stated of it
abbrev pub moment : Identity → List Entry → Call → Moment
moment who before call =
    record { messages = messages who before; call = call; actors = who.actors; unspawned = unspawned who before }

-- each call but `stop` gives an answer
abbrev pub IsAnswered : Call → Option Answer → Type 0
IsAnswered Stop a = a ≡ None
IsAnswered _ a = IsSome a

-- the recorded answer and effects are what the call may give after these entries, and an outbox can hold the effects
pub record IsGivenBy (who : Identity) (gives : Moment → Reply → Type 0) (before : List Entry) (call : Call) (a : Option Answer)
    (effects : List Effect) : Type 0 where
  pub answered : IsAnswered call a
  pub allowed : gives (moment who before call) (record { answer = a; effects = effects })
  pub held : CanHold (record { effects = effects; actors = who.actors; unspawned = unspawned who before })

-- nothing is recorded where no call is made
abbrev pub IsGiven : Identity → (Moment → Reply → Type 0) → List Entry → Option Call → Option Answer → List Effect → Type 0
IsGiven who gives before None a effects = (a ≡ None) × (effects ≡ [])
IsGiven who gives before (Some call) a effects = IsGivenBy who gives before call a effects

-- a Terminated is handled if the actor is still to be told of that end
abbrev pub IsExpected : Identity → List Entry → Body → Type 0
IsExpected who before (body.Terminated x) = IsTrue (has (due who before) x)
IsExpected who before _ = ⊤

-- a Terminated is dropped if the actor is not to be told of that end, and no other envelope is
abbrev pub IsUnexpected : Identity → List Entry → Body → Type 0
IsUnexpected who before (body.Terminated x) = IsTrue (not (has (due who before) x))
IsUnexpected who before _ = ⊥

-- the number is that of the message which is due before all others, or the next new one
abbrev pub IsNumbered : Identity → List Entry → ℕ → SysMsg → Type 0
IsNumbered who before number m = (number ≡ next_number before) ⊎ (next_front who before ≡ Some (number, m))

-- an envelope is handled by the Live actor that it is addressed to, at an open reading
pub record IsHandled (who : Identity) (gives : Moment → Reply → Type 0) (before : List Entry) (envelope : Envelope) (reading : ℕ)
    (a : Option Answer) (effects : List Effect) : Type 0 where
  pub an_actor : is_guardian who ≡ false
  pub addressed : envelope.to ≡ who.this
  pub live : phase who before ≡ Live
  pub open_reading : IsOpen who before reading
  pub expected : IsExpected who before envelope.body
  pub given : IsGiven who gives before (envelope_call envelope.body) a effects

-- an envelope is dropped while envelopes are handled, by the actor that it is addressed to
pub record IsDropped (who : Identity) (before : List Entry) (envelope : Envelope) : Type 0 where
  pub an_actor : is_guardian who ≡ false
  pub addressed : envelope.to ≡ who.this
  pub live : phase who before ≡ Live
  pub not_suspended : count who before ≡ 0
  pub unexpected : IsUnexpected who before envelope.body

-- a system message comes to an actor that did not end, and is applied unless the rule sets it aside
pub record IsSystem (who : Identity) (before : List Entry) (number : ℕ) (m : SysMsg) (outcome : Outcome) : Type 0 where
  pub not_ended : closed who before ≡ false
  pub numbered : IsNumbered who before number m
  pub by_rule : is_applied outcome ≡ not (sets_aside who before m)

-- the entry may come after these
abbrev pub IsLawfulEntry : Identity → (Moment → Reply → Type 0) → List Entry → Entry → Type 0
IsLawfulEntry who gives before (Handled envelope reading (Applied a effects)) = IsHandled who gives before envelope reading a effects
IsLawfulEntry who gives before (Handled envelope reading SetAside) = ⊥
IsLawfulEntry who gives before (System number m (Applied a effects)) =
    IsSystem who before number m (Applied a effects) × IsGiven who gives before (call_of who before (System number m (Applied a effects))) a effects
IsLawfulEntry who gives before (System number m SetAside) = IsSystem who before number m SetAside
IsLawfulEntry who gives before (Dropped envelope) = IsDropped who before envelope

-- each entry may come after those before it
unfoldable pub AreLawful : Identity → (Moment → Reply → Type 0) → List Entry → Type 0
AreLawful who gives [] = ⊤
AreLawful who gives (e ∷ before) = IsLawfulEntry who gives before e × AreLawful who gives before

-- a journal that the actor can have, if its calls give what this relation allows
pub record IsLawful (who : Identity) (gives : Moment → Reply → Type 0) (journal : List Entry) : Type 0 where
  pub entries : AreLawful who gives journal
  pub within_limit : length journal ≤ who.limit
