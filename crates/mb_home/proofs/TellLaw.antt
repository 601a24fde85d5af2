-- What the acts of a lawful entry tell goes to actors, at most 17 envelopes: one for each effect, and one notice that a watched actor has ended.
use Rattle.std.proofs.Common.{◌≡◌, ◌+◌, ◌<◌, ◌≤◌, Bool, true, false, List, [], ◌∷◌, ◌++◌, length, refl, sym, subst, arith}
use Rattle.std.specs.Prelude.{not, ◌&&◌, IsTrue, if◌then◌else◌, Option, Some, None}
use Rattle.std.specs.List.{list_all}
use Rattle.mb_msg.specs.declared.envelope.Body.{Body}
use Rattle.mb_msg.specs.declared.envelope.Body.TheVariants as body
use Rattle.mb_msg.specs.declared.id.ActorId.{ActorId}
use Rattle.mb_msg.specs.declared.supervision.Cause.{Cause}
use Rattle.mb_msg.specs.declared.supervision.Cause.TheVariants as cause
use Rattle.mb_msg.specs.declared.supervision.Directive.{Directive}
use Rattle.mb_msg.specs.declared.supervision.Directive.TheVariants as directive
use Rattle.mb_msg.specs.declared.system.SysMsg.{SysMsg}
use Rattle.mb_msg.specs.declared.system.SysMsg.TheVariants as system
use Rattle.mb_actor.specs.ActorList.{has}
use Rattle.mb_actor.specs.Behaviour.{Moment, Reply}
use Rattle.mb_actor.specs.declared.answer.Answer.{Answer}
use Rattle.mb_actor.specs.declared.call.Call.{Call}
use Rattle.mb_actor.specs.declared.effect.Effect.{Effect}
use Rattle.mb_actor.specs.declared.phase.Phase.TheVariants.{Fresh, Live, Broken, Ending}
use Rattle.mb_actor.specs.OutboxView.{OutboxView, actor_of, is_actor, spawns_of}
use Rattle.mb_journal.specs.Acts.{Act, acts, to_each, effect_acts, fail_acts, create_acts, resume_acts, restart_acts}
use Rattle.mb_journal.specs.Acts.{supervision_acts, end_acts}
use Rattle.mb_journal.specs.Acts.{terminate_acts, died_acts, system_acts, fresh_acts, failure_acts, envelope_acts}
use Rattle.mb_journal.specs.Acts.Act.{Tell, Sys, SuspendSelf, ResumeSelf}
use Rattle.mb_journal.specs.Entry.{Entry, is_failed}
use Rattle.mb_journal.specs.Entry.Entry.{Handled, System, Dropped}
use Rattle.mb_journal.specs.Entry.Outcome.{Applied, SetAside}
use Rattle.mb_journal.specs.Failure.{is_child, failed, failure_of}
use Rattle.mb_journal.specs.declared.failed_by.FailedBy.TheVariants.{Nobody}
use Rattle.mb_journal.specs.Identity.{Identity, is_guardian}
use Rattle.mb_journal.specs.Lawful.{IsLawfulEntry, IsGiven, call_of, envelope_call}
use Rattle.mb_journal.specs.Life.{children, phase, is_empty, is_alone}
use Rattle.mb_journal.specs.Phase.{phase_is}
use Rattle.mb_journal.specs.Retries.{meant_by, carried_out}
use Rattle.mb_journal.specs.Watching.{watchers, watching}
use Rattle.mb_journal.specs.Tells.{tells}
use Rattle.mb_home.proofs.TellLemmas.{AreFew, few-none, few-silent, few-append, few-more, few-tell, few-effects, few-end}
use Rattle.mb_home.proofs.TellLemmas.{tells-to_each, tells-to_some, tells-fail, tells-restarts}

abbrev tray_of : Identity → OutboxView
tray_of who = record { effects = []; actors = who.actors; unspawned = [] }

-- effects that are about actors, and at most 16
abbrev pub IsHeld : Identity → List Effect → Type 0
IsHeld who effects = IsTrue (list_all (λ e. is_actor (tray_of who) (actor_of e)) effects) × (length effects ≤ 16)

held-none : (who : Identity) → IsHeld who []
held-none who = (refl, omega arith)

module _ (who : Identity) (gives : Moment → Reply → Type 0) (before : List Entry) where
  held-given : (call : Option Call) (a : Option Answer) (effects : List Effect) → IsGiven who gives before call a effects → IsHeld who effects
  held-given None a effects given = subst (λ es. IsHeld who es) (sym given.1) (held-none who)
  held-given (Some call) a effects given = (given.held.present, given.held.within_limit)

  abbrev Few : List Act → Type 0
  Few list = AreFew who.actors 17 list

  silent : (list : List Act) → tells list ≡ [] → Few list
  silent list none = few-more who.actors 0 17 list (omega arith) (few-silent who.actors list none)

  fails : (b : Bool) (list : List Act) → tells list ≡ [] → AreFew who.actors 0 (if b then list else [])
  fails true list none = few-silent who.actors list none
  fails false list none = few-none who.actors

  effects_then : (effects : List Effect) (list : List Act) → IsHeld who effects → AreFew who.actors 0 list →
      Few (effect_acts who.this (watching who before) effects ++ list)
  effects_then effects list held none =
      few-more who.actors (length effects + 0) 17 _ (omega (arith, held.1))
      (few-append who.actors (length effects) 0 (effect_acts who.this (watching who before) effects) list
      (few-effects (tray_of who) who.this (watching who before) effects held.0) none)

  resumed : (list : List Act) → Few list → Few (ResumeSelf ∷ list)
  resumed list few = record { present = few.present; within_limit = few.within_limit }

  by_create : (a : Option Answer) (effects : List Effect) → IsHeld who effects → Few (create_acts who before a effects)
  by_create a effects held = by_test (is_guardian who)
    where
      by_test : (b : Bool) → Few (if b then ResumeSelf ∷ to_each system.Create who.prepared
          else ResumeSelf ∷ effect_acts who.this (watching who before) effects
          ++ (if is_failed a then fail_acts who (failed who before) (children who before ++ spawns_of effects) cause.Init [] else []))
      by_test true = silent (ResumeSelf ∷ to_each system.Create who.prepared) (tells-to_each system.Create who.prepared)
      by_test false =
          resumed _ (effects_then effects _ held (fails (is_failed a) _ (tells-fail who (failed who before)
          (children who before ++ spawns_of effects) cause.Init [])))

  by_restart : (c : Cause) (a : Option Answer) (effects : List Effect) → IsHeld who effects → Few (restart_acts who before c a effects)
  by_restart c a effects held = by_test (is_failed a)
    where
      by_test : (b : Bool) → Few (ResumeSelf ∷ effect_acts who.this (watching who before) effects
          ++ (if b then fail_acts who Nobody (children who before ++ spawns_of effects) cause.Init (children who before)
          else to_each (system.Recreate c) (children who before)))
      by_test true =
          resumed _ (effects_then effects _ held
          (few-silent who.actors _ (tells-fail who Nobody (children who before ++ spawns_of effects) cause.Init (children who before))))
      by_test false = resumed _ (effects_then effects _ held (few-silent who.actors _ (tells-to_each (system.Recreate c) (children who before))))

  by_terminate : (effects : List Effect) → IsHeld who effects → Few (terminate_acts who before effects)
  by_terminate effects held =
      few-more who.actors (0 + 0 + length effects) 17 _ (omega (arith, held.1))
      (few-append who.actors (0 + 0) (length effects)
      (to_each (system.Unwatch who.this) (watching who before) ++ to_each system.Terminate (children who before))
      (if is_empty (children who before) then end_acts who (watchers before) effects else SuspendSelf ∷ [])
      (few-append who.actors 0 0 (to_each (system.Unwatch who.this) (watching who before)) (to_each system.Terminate (children who before))
      (few-silent who.actors _ (tells-to_each (system.Unwatch who.this) (watching who before)))
      (few-silent who.actors _ (tells-to_each system.Terminate (children who before))))
      (by_test (is_empty (children who before))))
    where
      by_test : (b : Bool) → AreFew who.actors (length effects) (if b then end_acts who (watchers before) effects else SuspendSelf ∷ [])
      by_test true = few-end (tray_of who) who (watchers before) effects held.0
      by_test false = few-more who.actors 0 (length effects) _ (omega arith) (few-silent who.actors (SuspendSelf ∷ []) refl)

  by_died : (x : ActorId) (effects : List Effect) → IsHeld who effects → (has (watching who before) x ≡ true → 0 < who.this.0) →
      who.this.0 < who.actors →
      Few (died_acts who before x effects)
  by_died x effects held some less =
      few-more who.actors (1 + length effects) 17 _ (omega (arith, held.1))
      (few-append who.actors 1 (length effects) (if has (watching who before) x then Tell who.this (body.Terminated x) ∷ [] else [])
      (if phase_is (phase who before) Ending && is_alone (children who before) x then end_acts who (watchers before) effects
      else []) (by_watch (has (watching who before) x) some) (by_end (phase_is (phase who before) Ending && is_alone (children who before) x)))
    where
      by_watch : (b : Bool) → (b ≡ true → 0 < who.this.0) → AreFew who.actors 1 (if b then Tell who.this (body.Terminated x) ∷ [] else [])
      by_watch true above = few-tell who.actors 0 who.this (body.Terminated x) [] (above refl) less (few-none who.actors)
      by_watch false above = few-more who.actors 0 1 [] (omega arith) (few-none who.actors)

      by_end : (b : Bool) → AreFew who.actors (length effects) (if b then end_acts who (watchers before) effects else [])
      by_end true = few-end (tray_of who) who (watchers before) effects held.0
      by_end false = few-more who.actors 0 (length effects) [] (omega arith) (few-none who.actors)

  by_directive : (x : ActorId) (c : Cause) (d : Directive) → Few (supervision_acts who before x c d)
  by_directive x c directive.Resume = silent (Sys x (system.Resume true) ∷ []) refl
  by_directive x c directive.Restart = silent _ (tells-restarts x c (meant_by who before x))
  by_directive x c directive.Stop = silent _ (tells-to_each system.Terminate (meant_by who before x))
  by_directive x c directive.Escalate = silent _ (tells-fail who (failed who before) (children who before) c (x ∷ []))

  if_few : (b : Bool) (first second : List Act) → Few first → Few second → Few (if b then first else second)
  if_few true first second y n = y
  if_few false first second y n = n

  nothing : Few []
  nothing = silent [] refl

  by_system : (m : SysMsg) (a : Option Answer) (effects : List Effect) → IsHeld who effects → ((x : ActorId) → has (watching who before) x ≡ true →
      0 < who.this.0) →
      who.this.0 < who.actors → Few (system_acts who before m a effects)
  by_system system.Create a effects held some less = nothing
  by_system system.Suspend a effects held some less = silent _ (tells-to_each system.Suspend (children who before))
  by_system (system.Resume f) a effects held some less =
      if_few (phase_is (phase who before) Live) (resume_acts who before f)
      (if phase_is (phase who before) Broken && not (is_guardian who) then restart_acts who before cause.Init a effects else [])
      (silent (resume_acts who before f) (tells-to_some (λ x. system.Resume (f && is_child (failed who before) x)) (children who before)))
      (if_few (phase_is (phase who before) Broken && not (is_guardian who)) (restart_acts who before cause.Init a effects) []
      (by_restart cause.Init a effects held) nothing)
  by_system (system.Recreate c) a effects held some less = if_few (is_guardian who) [] (restart_acts who before c a effects) nothing
      (by_restart c a effects held)
  by_system (system.Failed x c) a effects held some less = if_few (has (children who before) x) (supervision_acts who before x c
      (carried_out who before x c)) []
      (by_directive x c (carried_out who before x c)) nothing
  by_system system.Terminate a effects held some less = if_few (phase_is (phase who before) Ending) [] (terminate_acts who before effects) nothing
      (by_terminate effects held)
  by_system (system.Watch w) a effects held some less = nothing
  by_system (system.Unwatch w) a effects held some less = nothing
  by_system (system.Died x) a effects held some less = by_died x effects held (some x) less

  by_fresh : (m : SysMsg) (a : Option Answer) (effects : List Effect) → IsHeld who effects → Few (fresh_acts who before m a effects)
  by_fresh system.Create a effects held = by_create a effects held
  by_fresh system.Suspend a effects held = nothing
  by_fresh (system.Resume f) a effects held = nothing
  by_fresh (system.Recreate c) a effects held = nothing
  by_fresh (system.Failed x c) a effects held = nothing
  by_fresh system.Terminate a effects held = by_terminate effects held
  by_fresh (system.Watch w) a effects held = nothing
  by_fresh (system.Unwatch w) a effects held = nothing
  by_fresh (system.Died x) a effects held = nothing

  by_failure : (c : Option Cause) (effects : List Effect) → AreFew who.actors 0 (failure_acts who before c effects)
  by_failure None effects = few-none who.actors
  by_failure (Some c) effects = few-silent who.actors _ (tells-fail who (failed who before) (children who before ++ spawns_of effects) c [])

  by_body : (b : Body) (a : Option Answer) (effects : List Effect) → IsHeld who effects → Few (envelope_acts who before b a effects)
  by_body (body.User kind value) a effects held = effects_then effects _ held (by_failure (failure_of (body.User kind value) a) effects)
  by_body (body.Control kind value) a effects held = effects_then effects _ held (by_failure (failure_of (body.Control kind value) a) effects)
  by_body body.PoisonPill a effects held = silent (Sys who.this system.Terminate ∷ []) refl
  by_body body.Kill a effects held = effects_then effects _ held (by_failure (failure_of body.Kill a) effects)
  by_body (body.Terminated x) a effects held = effects_then effects _ held (by_failure (failure_of (body.Terminated x) a) effects)

  pub few-acts : (e : Entry) → IsLawfulEntry who gives before e → ((x : ActorId) → has (watching who before) x ≡ true → 0 < who.this.0) →
      who.this.0 < who.actors → AreFew who.actors 17 (acts who before e)
  unfolding acts
  few-acts (Handled envelope reading (Applied a effects)) lawful some less =
      by_body envelope.body a effects (held-given (envelope_call envelope.body) a effects lawful.given)
  few-acts (Handled envelope reading SetAside) lawful some less = absurd lawful
  few-acts (System number m (Applied a effects)) lawful some less =
      let held = held-given (call_of who before (System number m (Applied a effects))) a effects lawful.1 in
      if_few (phase_is (phase who before) Fresh) (fresh_acts who before m a effects) (system_acts who before m a effects)
      (by_fresh m a effects held) (by_system m a effects held some less)
  few-acts (System number m SetAside) lawful some less = nothing
  few-acts (Dropped envelope) lawful some less = nothing
