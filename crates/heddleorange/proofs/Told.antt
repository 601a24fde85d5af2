-- What an actor sent is what its calls asked for, and notices to itself that a watched actor has ended: what holds of each part holds of all.
use Rattle.std.proofs.Common.{◌≡◌, Bool, true, false, List, [], ◌∷◌, ◌++◌, refl, sym, ap, ◌∙◌, subst}
use Rattle.std.specs.Prelude.{not, ◌&&◌, ◌||◌, if◌then◌else◌, Option, Some, None}
use Rattle.std.specs.List.{flat_map}
use Rattle.std.proofs.lemmas.List.{append-nil}
use Rattle.mb_actor.specs.ActorList.{has, is_same}
use Rattle.mb_actor.specs.Behaviour.{Moment, Reply}
use Rattle.mb_actor.specs.OutboxView.{spawns_of}
use Rattle.mb_actor.specs.declared.answer.Answer.{Answer}
use Rattle.mb_actor.specs.declared.call.Call.{Call}
use Rattle.mb_actor.specs.declared.effect.Effect.{Effect}
use Rattle.mb_actor.specs.declared.effect.Effect.TheVariants as effect
use Rattle.mb_actor.specs.declared.phase.Phase.TheVariants.{Fresh, Live, Broken, Ending}
use Rattle.mb_home.proofs.TellLemmas.{tells-append, tells-fail, tells-restarts, tells-to_each, tells-to_some}
use Rattle.mb_journal.specs.ActorList.{without}
use Rattle.mb_journal.specs.Acts.{Act, acts, create_acts, died_acts, effect_acts, end_acts, envelope_acts, fail_acts, failure_acts, fresh_acts}
use Rattle.mb_journal.specs.Acts.{restart_acts, restart_for, resume_acts, stop_acts, supervision_acts, suspend_acts, system_acts, terminate_acts, to_each}
use Rattle.mb_journal.specs.Acts.Act.{CloseSelf, ResumeSelf, SuspendSelf, Sys, Tell}
use Rattle.mb_journal.specs.Entry.{Entry, is_failed, outcome_effects, outcome_of}
use Rattle.mb_journal.specs.Entry.Entry.{Dropped, Handled, System}
use Rattle.mb_journal.specs.Entry.Outcome.{Applied, SetAside}
use Rattle.mb_journal.specs.Failure.{failed, failure_of, is_child}
use Rattle.mb_journal.specs.declared.failed_by.FailedBy.TheVariants.{Nobody}
use Rattle.mb_journal.specs.Identity.{Identity, is_guardian}
use Rattle.mb_journal.specs.Lawful.{AreLawful, IsGiven, IsLawfulEntry, call_of, envelope_call}
use Rattle.mb_journal.specs.Life.{children, is_alone, is_empty, phase}
use Rattle.mb_journal.specs.Phase.{phase_is}
use Rattle.mb_journal.specs.Retries.{carried_out, meant_by}
use Rattle.mb_journal.specs.Tells.{AddressedBody, tells, tells_of_journal}
use Rattle.mb_journal.specs.Watching.{watchers, watching}
use Rattle.mb_msg.specs.declared.envelope.Body.{Body}
use Rattle.mb_msg.specs.declared.envelope.Body.TheVariants as body
use Rattle.mb_msg.specs.declared.id.ActorId.{ActorId}
use Rattle.mb_msg.specs.declared.supervision.Cause.{Cause}
use Rattle.mb_msg.specs.declared.supervision.Cause.TheVariants as cause
use Rattle.mb_msg.specs.declared.supervision.Directive.{Directive}
use Rattle.mb_msg.specs.declared.supervision.Directive.TheVariants as directive
use Rattle.mb_msg.specs.declared.system.SysMsg.{SysMsg}
use Rattle.mb_msg.specs.declared.system.SysMsg.TheVariants as system

-- what these effects tell
abbrev pub asked : List Effect → List AddressedBody
asked effects = tells (stop_acts effects)

-- effects tell the same while an actor lives as when it ends
asked-acts : (this : ActorId) (watched : List ActorId) (effects : List Effect) → tells (effect_acts this watched effects) ≡ asked effects
unfolding effect_acts
asked-acts this watched [] = refl
asked-acts this watched (effect.Tell to kind value ∷ effects) = ap (λ l. (to, body.User kind value) ∷ l) (asked-acts this watched effects)
asked-acts this watched (effect.Control to kind value ∷ effects) = ap (λ l. (to, body.Control kind value) ∷ l) (asked-acts this watched effects)
asked-acts this watched (effect.Watch x ∷ effects) =
    by_test (is_same this x || has watched x) (asked-acts this watched effects) (asked-acts this (watched ++ x ∷ []) effects)
  where
    by_test : (b : Bool) → tells (effect_acts this watched effects) ≡ asked effects → tells (effect_acts this (watched ++ x ∷ []) effects) ≡ asked effects
        → tells (if b then effect_acts this watched effects else Sys x (system.Watch this) ∷ effect_acts this (watched ++ x ∷ []) effects) ≡ asked effects
    by_test true same more = same
    by_test false same more = more
asked-acts this watched (effect.Unwatch x ∷ effects) =
    by_test (has watched x) (asked-acts this watched effects) (asked-acts this (without watched x) effects)
  where
    by_test : (b : Bool) → tells (effect_acts this watched effects) ≡ asked effects → tells (effect_acts this (without watched x) effects) ≡ asked effects
        → tells (if b then Sys x (system.Unwatch this) ∷ effect_acts this (without watched x) effects else effect_acts this watched effects) ≡ asked effects
    by_test true same less = less
    by_test false same less = same
asked-acts this watched (effect.Stop x ∷ effects) = asked-acts this watched effects
asked-acts this watched (effect.Spawn x ∷ effects) = asked-acts this watched effects

-- an envelope that was handled tells exactly what its effects tell, unless it is a PoisonPill
pub told-of-call : (who : Identity) (before : List Entry) (c : Option Cause) (effects : List Effect)
    → tells (effect_acts who.this (watching who before) effects ++ failure_acts who before c effects) ≡ asked effects
told-of-call who before c effects =
    tells-append (effect_acts who.this (watching who before) effects) (failure_acts who before c effects)
    ∙ ap (λ l. l ++ tells (failure_acts who before c effects)) (asked-acts who.this (watching who before) effects)
    ∙ ap (λ l. asked effects ++ l) (by_cause c) ∙ append-nil (asked effects)
  where
    by_cause : (c : Option Cause) → tells (failure_acts who before c effects) ≡ []
    by_cause None = refl
    by_cause (Some c) = tells-fail who (failed who before) (children who before ++ spawns_of effects) c []

module _ (P : List AddressedBody → Type 0) (none : P []) (both : (a b : List AddressedBody) → P a → P b → P (a ++ b)) (who : Identity)
    (notice : (x : ActorId) → P ((who.this, body.Terminated x) ∷ [])) where
  abbrev Holds : List Act → Type 0
  Holds list = P (tells list)

  silent : (list : List Act) → tells list ≡ [] → Holds list
  silent list nothing = subst P (sym nothing) none

  join : (a b : List Act) → Holds a → Holds b → Holds (a ++ b)
  join a b one other = subst P (sym (tells-append a b)) (both (tells a) (tells b) one other)

  choice : (b : Bool) (first second : List Act) → Holds first → Holds second → Holds (if b then first else second)
  choice true first second y n = y
  choice false first second y n = n

  by_end : (watched_by : List ActorId) (effects : List Effect) → P (asked effects) → Holds (end_acts who watched_by effects)
  by_end watched_by effects holds = by_parent who.parent
    where
      by_parent : (parent : Option ActorId) → Holds (end_acts (record who { parent = parent }) watched_by effects)
      by_parent None =
          join (stop_acts effects) (CloseSelf ∷ to_each (system.Died who.this) watched_by) holds
          (silent (CloseSelf ∷ to_each (system.Died who.this) watched_by) (tells-to_each (system.Died who.this) watched_by))
      by_parent (Some p) =
          let rest = CloseSelf ∷ Sys p (system.Died who.this) ∷ to_each (system.Died who.this) (without watched_by p) in
          join (stop_acts effects) rest holds (silent rest (tells-to_each (system.Died who.this) (without watched_by p)))

  module _ (before : List Entry) where
    with_effects : (effects : List Effect) (list : List Act) → P (asked effects) → tells list ≡ []
        → Holds (effect_acts who.this (watching who before) effects ++ list)
    with_effects effects list holds nothing =
        join (effect_acts who.this (watching who before) effects) list
        (subst P (sym (asked-acts who.this (watching who before) effects)) holds) (silent list nothing)

    failing : (b : Bool) (list : List Act) → tells list ≡ [] → tells (if b then list else []) ≡ []
    failing true list nothing = nothing
    failing false list nothing = refl

    by_create : (a : Option Answer) (effects : List Effect) → P (asked effects) → Holds (create_acts who before a effects)
    by_create a effects holds =
        let fails = if is_failed a then fail_acts who (failed who before) (children who before ++ spawns_of effects) cause.Init [] else [] in
        choice (is_guardian who) (ResumeSelf ∷ to_each system.Create who.prepared)
        (ResumeSelf ∷ effect_acts who.this (watching who before) effects ++ fails)
        (silent (ResumeSelf ∷ to_each system.Create who.prepared) (tells-to_each system.Create who.prepared))
        (with_effects effects fails holds (failing (is_failed a) _
        (tells-fail who (failed who before) (children who before ++ spawns_of effects) cause.Init [])))

    by_restart : (c : Cause) (a : Option Answer) (effects : List Effect) → P (asked effects) → Holds (restart_acts who before c a effects)
    by_restart c a effects holds = by_test (is_failed a)
      where
        by_test : (b : Bool) → Holds (ResumeSelf ∷ effect_acts who.this (watching who before) effects
            ++ (if b then fail_acts who Nobody (children who before ++ spawns_of effects) cause.Init (children who before)
            else to_each (system.Recreate c) (children who before)))
        by_test true =
            with_effects effects (fail_acts who Nobody (children who before ++ spawns_of effects) cause.Init (children who before)) holds
            (tells-fail who Nobody (children who before ++ spawns_of effects) cause.Init (children who before))
        by_test false =
            with_effects effects (to_each (system.Recreate c) (children who before)) holds (tells-to_each (system.Recreate c) (children who before))

    by_terminate : (effects : List Effect) → P (asked effects) → Holds (terminate_acts who before effects)
    by_terminate effects holds =
        let unwatched = to_each (system.Unwatch who.this) (watching who before) in let stopped = to_each system.Terminate (children who before) in
        join (unwatched ++ stopped) (if is_empty (children who before) then end_acts who (watchers before) effects else SuspendSelf ∷ [])
        (join unwatched stopped (silent unwatched (tells-to_each (system.Unwatch who.this) (watching who before)))
        (silent stopped (tells-to_each system.Terminate (children who before))))
        (choice (is_empty (children who before)) (end_acts who (watchers before) effects) (SuspendSelf ∷ [])
        (by_end (watchers before) effects holds) (silent (SuspendSelf ∷ []) refl))

    by_died : (x : ActorId) (effects : List Effect) → P (asked effects) → Holds (died_acts who before x effects)
    by_died x effects holds =
        join (if has (watching who before) x then Tell who.this (body.Terminated x) ∷ [] else [])
        (if phase_is (phase who before) Ending && is_alone (children who before) x then end_acts who (watchers before) effects else [])
        (choice (has (watching who before) x) (Tell who.this (body.Terminated x) ∷ []) [] (notice x) none)
        (choice (phase_is (phase who before) Ending && is_alone (children who before) x) (end_acts who (watchers before) effects) []
        (by_end (watchers before) effects holds) none)

    by_directive : (x : ActorId) (c : Cause) (d : Directive) → Holds (supervision_acts who before x c d)
    by_directive x c directive.Resume = silent (Sys x (system.Resume true) ∷ []) refl
    by_directive x c directive.Restart = silent (flat_map (restart_for x c) (meant_by who before x)) (tells-restarts x c (meant_by who before x))
    by_directive x c directive.Stop =
        silent (to_each system.Terminate (meant_by who before x)) (tells-to_each system.Terminate (meant_by who before x))
    by_directive x c directive.Escalate =
        silent (fail_acts who (failed who before) (children who before) c (x ∷ [])) (tells-fail who (failed who before) (children who before) c (x ∷ []))

    by_system : (m : SysMsg) (a : Option Answer) (effects : List Effect) → P (asked effects) → Holds (system_acts who before m a effects)
    by_system system.Create a effects holds = none
    by_system system.Suspend a effects holds = silent (suspend_acts who before) (tells-to_each system.Suspend (children who before))
    by_system (system.Resume f) a effects holds =
        choice (phase_is (phase who before) Live) (resume_acts who before f)
        (if phase_is (phase who before) Broken && not (is_guardian who) then restart_acts who before cause.Init a effects else [])
        (silent (resume_acts who before f) (tells-to_some (λ x. system.Resume (f && is_child (failed who before) x)) (children who before)))
        (choice (phase_is (phase who before) Broken && not (is_guardian who)) (restart_acts who before cause.Init a effects) []
        (by_restart cause.Init a effects holds) none)
    by_system (system.Recreate c) a effects holds =
        choice (is_guardian who) [] (restart_acts who before c a effects) none (by_restart c a effects holds)
    by_system (system.Failed x c) a effects holds =
        choice (has (children who before) x) (supervision_acts who before x c (carried_out who before x c)) []
        (by_directive x c (carried_out who before x c)) none
    by_system system.Terminate a effects holds =
        choice (phase_is (phase who before) Ending) [] (terminate_acts who before effects) none (by_terminate effects holds)
    by_system (system.Watch w) a effects holds = none
    by_system (system.Unwatch w) a effects holds = none
    by_system (system.Died x) a effects holds = by_died x effects holds

    by_fresh : (m : SysMsg) (a : Option Answer) (effects : List Effect) → P (asked effects) → Holds (fresh_acts who before m a effects)
    by_fresh system.Create a effects holds = by_create a effects holds
    by_fresh system.Suspend a effects holds = none
    by_fresh (system.Resume f) a effects holds = none
    by_fresh (system.Recreate c) a effects holds = none
    by_fresh (system.Failed x c) a effects holds = none
    by_fresh system.Terminate a effects holds = by_terminate effects holds
    by_fresh (system.Watch w) a effects holds = none
    by_fresh (system.Unwatch w) a effects holds = none
    by_fresh (system.Died x) a effects holds = none

    by_failure : (c : Option Cause) (effects : List Effect) → tells (failure_acts who before c effects) ≡ []
    by_failure None effects = refl
    by_failure (Some c) effects = tells-fail who (failed who before) (children who before ++ spawns_of effects) c []

    by_body : (b : Body) (a : Option Answer) (effects : List Effect) → P (asked effects) → Holds (envelope_acts who before b a effects)
    by_body (body.User kind value) a effects holds = with_effects effects _ holds (by_failure (failure_of (body.User kind value) a) effects)
    by_body (body.Control kind value) a effects holds = with_effects effects _ holds (by_failure (failure_of (body.Control kind value) a) effects)
    by_body body.PoisonPill a effects holds = silent (Sys who.this system.Terminate ∷ []) refl
    by_body body.Kill a effects holds = with_effects effects _ holds (by_failure (failure_of body.Kill a) effects)
    by_body (body.Terminated x) a effects holds = with_effects effects _ holds (by_failure (failure_of (body.Terminated x) a) effects)

    pub by_entry : (e : Entry) → P (asked (outcome_effects (outcome_of e))) → Holds (acts who before e)
    unfolding acts
    by_entry (Handled envelope reading (Applied a effects)) holds = by_body envelope.body a effects holds
    by_entry (Handled envelope reading SetAside) holds = by_body envelope.body None [] holds
    by_entry (System number m (Applied a effects)) holds =
        choice (phase_is (phase who before) Fresh) (fresh_acts who before m a effects) (system_acts who before m a effects)
        (by_fresh m a effects holds) (by_system m a effects holds)
    by_entry (System number m SetAside) holds = none
    by_entry (Dropped envelope) holds = none

  module _ (gives : Moment → Reply → Type 0) where
    -- what holds of each entry's effects and of notices holds of all that was told
    told-from : ((before : List Entry) (e : Entry) → IsLawfulEntry who gives before e → P (asked (outcome_effects (outcome_of e))))
        → (journal : List Entry) → AreLawful who gives journal → P (tells_of_journal who journal)
    unfolding AreLawful
    told-from each [] lawful = none
    told-from each (e ∷ before) lawful =
        both (tells_of_journal who before) (tells (acts who before e)) (told-from each before lawful.1) (by_entry before e (each before e lawful.0))

    by_given : ((moment : Moment) (reply : Reply) → gives moment reply → P (asked reply.effects)) → (before : List Entry) (call : Option Call)
        (a : Option Answer) (effects : List Effect) → IsGiven who gives before call a effects → P (asked effects)
    by_given each before None a effects given = subst (λ l. P (asked l)) (sym given.1) none
    by_given each before (Some call) a effects given = each _ _ given.allowed

    by_lawful : ((moment : Moment) (reply : Reply) → gives moment reply → P (asked reply.effects)) → (before : List Entry) (e : Entry)
        → IsLawfulEntry who gives before e → P (asked (outcome_effects (outcome_of e)))
    by_lawful each before (Handled envelope reading (Applied a effects)) lawful =
        by_given each before (envelope_call envelope.body) a effects lawful.given
    by_lawful each before (Handled envelope reading SetAside) lawful = absurd lawful
    by_lawful each before (System number m (Applied a effects)) lawful =
        by_given each before (call_of who before (System number m (Applied a effects))) a effects lawful.1
    by_lawful each before (System number m SetAside) lawful = none
    by_lawful each before (Dropped envelope) lawful = none

    -- so what holds of all that a call may ask for holds of all that the actor sent
    pub told-by-calls : ((moment : Moment) (reply : Reply) → gives moment reply → P (asked reply.effects)) → (journal : List Entry)
        → AreLawful who gives journal → P (tells_of_journal who journal)
    told-by-calls each journal lawful = told-from (by_lawful each) journal lawful

    -- the guardian makes no calls
    no-call : is_guardian who ≡ true → (before : List Entry) (a : Option Answer) (effects : List Effect) (call : Option Call)
        → IsGiven who gives before (if is_guardian who then None else call) a effects → effects ≡ []
    no-call guardian before a effects call given =
        let nothing : IsGiven who gives before None a effects =
        subst (λ b. IsGiven who gives before (if b then None else call) a effects) guardian given in nothing.1

    guardian-effects : is_guardian who ≡ true → (before : List Entry) (e : Entry) → IsLawfulEntry who gives before e
        → P (asked (outcome_effects (outcome_of e)))
    guardian-effects guardian before (Handled envelope reading (Applied a effects)) lawful =
        absurd (let other = lawful.an_actor in cc (guardian, other))
    guardian-effects guardian before (Handled envelope reading SetAside) lawful = absurd lawful
    guardian-effects guardian before (System number m (Applied a effects)) lawful =
        subst (λ l. P (asked l)) (sym (no-call guardian before a effects _ lawful.1)) none
    guardian-effects guardian before (System number m SetAside) lawful = none
    guardian-effects guardian before (Dropped envelope) lawful = none

    pub guardian-told : is_guardian who ≡ true → (journal : List Entry) → AreLawful who gives journal → P (tells_of_journal who journal)
    guardian-told guardian journal lawful = told-from (guardian-effects guardian) journal lawful
