-- The acts of an entry send the notice of an actor's end only where they close that actor's own mailbox.
use Rattle.std.proofs.Common.{◌≡◌, ◌⊎◌, inl, inr, ◌+◌, ◌==◌, ℕ, Bool, true, false, List, [], ◌∷◌, ◌++◌, ap, arith, map, refl, ◌∙◌}
use Rattle.std.specs.Prelude.{filter, not, ◌&&◌, ◌||◌, if◌then◌else◌, Option, Some, None}
use Rattle.std.specs.List.{flat_map}
use Rattle.std.proofs.lemmas.Bool.{eqb-true}
use Rattle.mb_actor.specs.ActorList.{has, is_same}
use Rattle.mb_actor.specs.OutboxView.{spawns_of}
use Rattle.mb_actor.specs.declared.answer.Answer.{Answer}
use Rattle.mb_actor.specs.declared.effect.Effect.{Effect}
use Rattle.mb_actor.specs.declared.effect.Effect.TheVariants as effect
use Rattle.mb_actor.specs.declared.phase.Phase.TheVariants.{Broken, Ending, Fresh, Live}
use Rattle.mb_gate.specs.SentSystem.{messages_of}
use Rattle.mb_ghost.proofs.SummedLemmas.{total_append}
use Rattle.mb_ghost.specs.Summed.{total}
use Rattle.mb_journal.specs.ActorList.{without}
use Rattle.mb_journal.specs.Acts.{Act, acts, create_acts, died_acts, effect_acts, end_acts, envelope_acts, fail_acts, failure_acts, fresh_acts, report}
use Rattle.mb_journal.specs.Acts.{restart_acts, restart_for, resume_acts, stop_acts, supervision_acts, system_acts, terminate_acts, to_each}
use Rattle.mb_journal.specs.Acts.Act.{CloseSelf, ResumeSelf, SuspendSelf, Sys, Tell}
use Rattle.mb_journal.specs.Entry.{Entry, is_failed}
use Rattle.mb_journal.specs.Entry.Entry.{Dropped, Handled, System}
use Rattle.mb_journal.specs.Entry.Outcome.{Applied, SetAside}
use Rattle.mb_journal.specs.Failure.{failed, failure_of, is_child, is_nobody}
use Rattle.mb_journal.specs.Identity.{Identity, is_guardian}
use Rattle.mb_journal.specs.Life.{children, is_alone, is_empty, phase}
use Rattle.mb_journal.specs.Phase.{phase_is}
use Rattle.mb_journal.specs.Retries.{carried_out, meant_by}
use Rattle.mb_journal.specs.Watching.{watchers, watching}
use Rattle.mb_journal.specs.declared.failed_by.FailedBy.{FailedBy}
use Rattle.mb_journal.specs.declared.failed_by.FailedBy.TheVariants.{Nobody}
use Rattle.mb_msg.specs.declared.envelope.Body.{Body}
use Rattle.mb_msg.specs.declared.envelope.Body.TheVariants as body
use Rattle.mb_msg.specs.declared.id.ActorId.{ActorId}
use Rattle.mb_msg.specs.declared.supervision.Cause.{Cause}
use Rattle.mb_msg.specs.declared.supervision.Cause.TheVariants as cause
use Rattle.mb_msg.specs.declared.supervision.Directive.{Directive}
use Rattle.mb_msg.specs.declared.supervision.Directive.TheVariants as directive
use Rattle.mb_msg.specs.declared.system.SysMsg.{SysMsg}
use Rattle.mb_msg.specs.declared.system.SysMsg.TheVariants as system
use Rattle.heddleorange.specs.Asked.{measure_to}

-- the notice of the end of this actor counts once, and no other message counts
abbrev pub end_notice : ℕ → SysMsg → ℕ
end_notice x (system.Died ended) = if ended.0 == x then 1 else 0
end_notice x _ = 0

-- one of these acts closes the actor's own mailbox
abbrev pub closes : List Act → Bool
closes [] = false
closes (CloseSelf ∷ rest) = true
closes (Tell to told ∷ rest) = closes rest
closes (Sys to m ∷ rest) = closes rest
closes (SuspendSelf ∷ rest) = closes rest
closes (ResumeSelf ∷ rest) = closes rest

messages-append : (a b : List Act) → messages_of (a ++ b) ≡ messages_of a ++ messages_of b
messages-append [] b = refl
messages-append (Tell to told ∷ a) b = messages-append a b
messages-append (Sys to m ∷ a) b = ap (λ l. (to.0, m) ∷ l) (messages-append a b)
messages-append (SuspendSelf ∷ a) b = messages-append a b
messages-append (ResumeSelf ∷ a) b = messages-append a b
messages-append (CloseSelf ∷ a) b = messages-append a b

closes-first : (a b : List Act) → closes a ≡ true → closes (a ++ b) ≡ true
closes-first [] b is = absurd (cc is)
closes-first (Tell to told ∷ a) b is = closes-first a b is
closes-first (Sys to m ∷ a) b is = closes-first a b is
closes-first (SuspendSelf ∷ a) b is = closes-first a b is
closes-first (ResumeSelf ∷ a) b is = closes-first a b is
closes-first (CloseSelf ∷ a) b is = refl

closes-last : (a b : List Act) → closes b ≡ true → closes (a ++ b) ≡ true
closes-last [] b is = is
closes-last (Tell to told ∷ a) b is = closes-last a b is
closes-last (Sys to m ∷ a) b is = closes-last a b is
closes-last (SuspendSelf ∷ a) b is = closes-last a b is
closes-last (ResumeSelf ∷ a) b is = closes-last a b is
closes-last (CloseSelf ∷ a) b is = refl

none-if : (b : Bool) (n : ℕ) → n ≡ 0 → (if b then n else 0) ≡ 0
none-if true n none = none
none-if false n none = refl

module _ (to x : ℕ) where
  -- how many notices of the end of the one actor go to the other
  abbrev pub notices : List Act → ℕ
  notices list = total (measure_to to (end_notice x)) (messages_of list)

  notices-append : (a b : List Act) → notices (a ++ b) ≡ notices a + notices b
  notices-append a b = ap (total (measure_to to (end_notice x))) (messages-append a b) ∙ total_append (measure_to to (end_notice x)) (messages_of a) (messages_of b)

  none-each : (m : SysMsg) → end_notice x m ≡ 0 → (list : List ActorId) → notices (to_each m list) ≡ 0
  none-each m none [] = refl
  none-each m none (y ∷ list) = let one = none-if (y.0 == to) (end_notice x m) none in let rest = none-each m none list in omega (arith, one, rest)

  none-resumed : (f : ActorId → Bool) (list : List ActorId) → notices (map (λ y. Sys y (system.Resume (f y))) list) ≡ 0
  none-resumed f [] = refl
  none-resumed f (y ∷ list) = let one = none-if (y.0 == to) 0 refl in let rest = none-resumed f list in omega (arith, one, rest)

  -- a message that is no notice, in front
  none-first : (y : ActorId) (m : SysMsg) (list : List Act) → end_notice x m ≡ 0 → notices list ≡ 0 → notices (Sys y m ∷ list) ≡ 0
  none-first y m list none rest = let one = none-if (y.0 == to) (end_notice x m) none in omega (arith, one, rest)

  none-both : (a b : List Act) → notices a ≡ 0 → notices b ≡ 0 → notices (a ++ b) ≡ 0
  none-both a b first last = let both = notices-append a b in omega (arith, both, first, last)

  none-effects : (this : ActorId) (watched : List ActorId) (effects : List Effect) → notices (effect_acts this watched effects) ≡ 0
  unfolding effect_acts
  none-effects this watched [] = refl
  none-effects this watched (effect.Tell y kind value ∷ effects) = none-effects this watched effects
  none-effects this watched (effect.Control y kind value ∷ effects) = none-effects this watched effects
  none-effects this watched (effect.Watch y ∷ effects) =
      by_test (is_same this y || has watched y) (none-effects this watched effects) (none-effects this (watched ++ y ∷ []) effects)
    where
      by_test : (b : Bool) → notices (effect_acts this watched effects) ≡ 0 → notices (effect_acts this (watched ++ y ∷ []) effects) ≡ 0
          → notices (if b then effect_acts this watched effects else Sys y (system.Watch this) ∷ effect_acts this (watched ++ y ∷ []) effects) ≡ 0
      by_test true same more = same
      by_test false same more = none-first y (system.Watch this) (effect_acts this (watched ++ y ∷ []) effects) refl more
  none-effects this watched (effect.Unwatch y ∷ effects) =
      by_test (has watched y) (none-effects this watched effects) (none-effects this (without watched y) effects)
    where
      by_test : (b : Bool) → notices (effect_acts this watched effects) ≡ 0 → notices (effect_acts this (without watched y) effects) ≡ 0
          → notices (if b then Sys y (system.Unwatch this) ∷ effect_acts this (without watched y) effects else effect_acts this watched effects) ≡ 0
      by_test true same less = none-first y (system.Unwatch this) (effect_acts this (without watched y) effects) refl less
      by_test false same less = same
  none-effects this watched (effect.Stop y ∷ effects) =
      none-first y system.Terminate (effect_acts this watched effects) refl (none-effects this watched effects)
  none-effects this watched (effect.Spawn y ∷ effects) =
      none-first y system.Create (effect_acts this watched effects) refl (none-effects this watched effects)

  none-stop : (effects : List Effect) → notices (stop_acts effects) ≡ 0
  none-stop [] = refl
  none-stop (effect.Tell y kind value ∷ effects) = none-stop effects
  none-stop (effect.Control y kind value ∷ effects) = none-stop effects
  none-stop (effect.Watch y ∷ effects) = none-stop effects
  none-stop (effect.Unwatch y ∷ effects) = none-stop effects
  none-stop (effect.Stop y ∷ effects) = none-stop effects
  none-stop (effect.Spawn y ∷ effects) = none-stop effects

  none-report : (who : Identity) (c : Cause) → notices (report who c ∷ []) ≡ 0
  none-report who c = by_parent who.parent
    where
      by_parent : (parent : Option ActorId) → notices (report (record who { parent = parent }) c ∷ []) ≡ 0
      by_parent None = none-first who.this system.Terminate [] refl refl
      by_parent (Some p) = none-first p (system.Failed who.this c) [] refl refl

  none-fail : (who : Identity) (by : FailedBy) (own : List ActorId) (c : Cause) (except : List ActorId) → notices (fail_acts who by own c except) ≡ 0
  none-fail who by own c except = by_test (is_nobody by)
    where
      by_test : (b : Bool) → notices (if b then SuspendSelf ∷ to_each system.Suspend (filter (λ y. not (has except y)) own) ++ report who c ∷ [] else []) ≡ 0
      by_test true =
          none-both (SuspendSelf ∷ to_each system.Suspend (filter (λ y. not (has except y)) own)) (report who c ∷ [])
          (none-each system.Suspend refl (filter (λ y. not (has except y)) own)) (none-report who c)
      by_test false = refl

  none-restart : (y : ActorId) (c : Cause) (z : ActorId) → notices (restart_for y c z) ≡ 0
  none-restart y c z = by_test (is_same z y)
    where
      by_test : (b : Bool) → notices (if b then Sys z (system.Recreate c) ∷ [] else Sys z system.Suspend ∷ Sys z (system.Recreate c) ∷ []) ≡ 0
      by_test true = none-first z (system.Recreate c) [] refl refl
      by_test false = none-first z system.Suspend (Sys z (system.Recreate c) ∷ []) refl (none-first z (system.Recreate c) [] refl refl)

  none-restarts : (y : ActorId) (c : Cause) (list : List ActorId) → notices (flat_map (restart_for y c) list) ≡ 0
  none-restarts y c [] = refl
  none-restarts y c (z ∷ list) = none-both (restart_for y c z) (flat_map (restart_for y c) list) (none-restart y c z) (none-restarts y c list)

  module _ (who : Identity) where
    -- These acts send no such notice, or they close the mailbox of the actor of whose end it tells.
    abbrev pub IsTrueOf : List Act → Type 0
    IsTrueOf list = (notices list ≡ 0) ⊎ ((closes list ≡ true) × (who.this.0 ≡ x))

    join : (a b : List Act) → IsTrueOf a → IsTrueOf b → IsTrueOf (a ++ b)
    join a b (inr shut) other = inr (closes-first a b shut.0, shut.1)
    join a b (inl none) (inr shut) = inr (closes-last a b shut.0, shut.1)
    join a b (inl none) (inl more) = inl (none-both a b none more)

    choice : (b : Bool) (first second : List Act) → IsTrueOf first → IsTrueOf second → IsTrueOf (if b then first else second)
    choice true first second y n = y
    choice false first second y n = n

    by_end : (watched_by : List ActorId) (effects : List Effect) → IsTrueOf (end_acts who watched_by effects)
    by_end watched_by effects = by_test (who.this.0 == x) refl who.parent
      where
        by_test : (b : Bool) → (who.this.0 == x) ≡ b → (parent : Option ActorId) → IsTrueOf (end_acts (record who { parent = parent }) watched_by effects)
        by_test true is parent = inr (closes-last (stop_acts effects) _ refl, eqb-true who.this.0 x is)
        by_test false is None =
            inl (none-both (stop_acts effects) (CloseSelf ∷ to_each (system.Died who.this) watched_by) (none-stop effects)
            (none-each (system.Died who.this) (ap (λ b. if b then 1 else 0) is) watched_by))
        by_test false is (Some p) =
            inl (none-both (stop_acts effects) (CloseSelf ∷ Sys p (system.Died who.this) ∷ to_each (system.Died who.this) (without watched_by p))
            (none-stop effects)
            (none-first p (system.Died who.this) (to_each (system.Died who.this) (without watched_by p)) (ap (λ b. if b then 1 else 0) is)
            (none-each (system.Died who.this) (ap (λ b. if b then 1 else 0) is) (without watched_by p))))

    module _ (before : List Entry) where
      with_effects : (effects : List Effect) (list : List Act) → notices list ≡ 0 → IsTrueOf (effect_acts who.this (watching who before) effects ++ list)
      with_effects effects list none =
          inl (none-both (effect_acts who.this (watching who before) effects) list (none-effects who.this (watching who before) effects) none)

      failing : (b : Bool) (list : List Act) → notices list ≡ 0 → notices (if b then list else []) ≡ 0
      failing true list none = none
      failing false list none = refl

      by_create : (a : Option Answer) (effects : List Effect) → IsTrueOf (create_acts who before a effects)
      by_create a effects =
          let fails = if is_failed a then fail_acts who (failed who before) (children who before ++ spawns_of effects) cause.Init [] else [] in
          choice (is_guardian who) (ResumeSelf ∷ to_each system.Create who.prepared)
          (ResumeSelf ∷ effect_acts who.this (watching who before) effects ++ fails)
          (inl (none-each system.Create refl who.prepared))
          (inl (none-both (effect_acts who.this (watching who before) effects) fails (none-effects who.this (watching who before) effects)
          (failing (is_failed a) _ (none-fail who (failed who before) (children who before ++ spawns_of effects) cause.Init []))))

      by_restart : (c : Cause) (a : Option Answer) (effects : List Effect) → IsTrueOf (restart_acts who before c a effects)
      by_restart c a effects = by_test (is_failed a)
        where
          by_test : (b : Bool) → IsTrueOf (ResumeSelf ∷ effect_acts who.this (watching who before) effects
              ++ (if b then fail_acts who Nobody (children who before ++ spawns_of effects) cause.Init (children who before)
              else to_each (system.Recreate c) (children who before)))
          by_test true =
              inl (none-both (effect_acts who.this (watching who before) effects)
              (fail_acts who Nobody (children who before ++ spawns_of effects) cause.Init (children who before))
              (none-effects who.this (watching who before) effects)
              (none-fail who Nobody (children who before ++ spawns_of effects) cause.Init (children who before)))
          by_test false =
              inl (none-both (effect_acts who.this (watching who before) effects) (to_each (system.Recreate c) (children who before))
              (none-effects who.this (watching who before) effects) (none-each (system.Recreate c) refl (children who before)))

      by_terminate : (effects : List Effect) → IsTrueOf (terminate_acts who before effects)
      by_terminate effects =
          let unwatched = to_each (system.Unwatch who.this) (watching who before) in let stopped = to_each system.Terminate (children who before) in
          join (unwatched ++ stopped) (if is_empty (children who before) then end_acts who (watchers before) effects else SuspendSelf ∷ [])
          (inl (none-both unwatched stopped (none-each (system.Unwatch who.this) refl (watching who before)) (none-each system.Terminate refl (children who before))))
          (choice (is_empty (children who before)) (end_acts who (watchers before) effects) (SuspendSelf ∷ []) (by_end (watchers before) effects) (inl refl))

      by_died : (y : ActorId) (effects : List Effect) → IsTrueOf (died_acts who before y effects)
      by_died y effects =
          join (if has (watching who before) y then Tell who.this (body.Terminated y) ∷ [] else [])
          (if phase_is (phase who before) Ending && is_alone (children who before) y then end_acts who (watchers before) effects else [])
          (choice (has (watching who before) y) (Tell who.this (body.Terminated y) ∷ []) [] (inl refl) (inl refl))
          (choice (phase_is (phase who before) Ending && is_alone (children who before) y) (end_acts who (watchers before) effects) []
          (by_end (watchers before) effects) (inl refl))

      by_directive : (y : ActorId) (c : Cause) (d : Directive) → IsTrueOf (supervision_acts who before y c d)
      by_directive y c directive.Resume = inl (none-first y (system.Resume true) [] refl refl)
      by_directive y c directive.Restart = inl (none-restarts y c (meant_by who before y))
      by_directive y c directive.Stop = inl (none-each system.Terminate refl (meant_by who before y))
      by_directive y c directive.Escalate = inl (none-fail who (failed who before) (children who before) c (y ∷ []))

      by_system : (m : SysMsg) (a : Option Answer) (effects : List Effect) → IsTrueOf (system_acts who before m a effects)
      by_system system.Create a effects = inl refl
      by_system system.Suspend a effects = inl (none-each system.Suspend refl (children who before))
      by_system (system.Resume f) a effects =
          choice (phase_is (phase who before) Live) (resume_acts who before f)
          (if phase_is (phase who before) Broken && not (is_guardian who) then restart_acts who before cause.Init a effects else [])
          (inl (none-resumed (λ y. f && is_child (failed who before) y) (children who before)))
          (choice (phase_is (phase who before) Broken && not (is_guardian who)) (restart_acts who before cause.Init a effects) []
          (by_restart cause.Init a effects) (inl refl))
      by_system (system.Recreate c) a effects =
          choice (is_guardian who) [] (restart_acts who before c a effects) (inl refl) (by_restart c a effects)
      by_system (system.Failed y c) a effects =
          choice (has (children who before) y) (supervision_acts who before y c (carried_out who before y c)) []
          (by_directive y c (carried_out who before y c)) (inl refl)
      by_system system.Terminate a effects =
          choice (phase_is (phase who before) Ending) [] (terminate_acts who before effects) (inl refl) (by_terminate effects)
      by_system (system.Watch w) a effects = inl refl
      by_system (system.Unwatch w) a effects = inl refl
      by_system (system.Died y) a effects = by_died y effects

      by_fresh : (m : SysMsg) (a : Option Answer) (effects : List Effect) → IsTrueOf (fresh_acts who before m a effects)
      by_fresh system.Create a effects = by_create a effects
      by_fresh system.Suspend a effects = inl refl
      by_fresh (system.Resume f) a effects = inl refl
      by_fresh (system.Recreate c) a effects = inl refl
      by_fresh (system.Failed y c) a effects = inl refl
      by_fresh system.Terminate a effects = by_terminate effects
      by_fresh (system.Watch w) a effects = inl refl
      by_fresh (system.Unwatch w) a effects = inl refl
      by_fresh (system.Died y) a effects = inl refl

      by_failure : (c : Option Cause) (effects : List Effect) → notices (failure_acts who before c effects) ≡ 0
      by_failure None effects = refl
      by_failure (Some c) effects = none-fail who (failed who before) (children who before ++ spawns_of effects) c []

      by_body : (b : Body) (a : Option Answer) (effects : List Effect) → IsTrueOf (envelope_acts who before b a effects)
      by_body (body.User kind value) a effects = with_effects effects _ (by_failure (failure_of (body.User kind value) a) effects)
      by_body (body.Control kind value) a effects = with_effects effects _ (by_failure (failure_of (body.Control kind value) a) effects)
      by_body body.PoisonPill a effects = inl (none-first who.this system.Terminate [] refl refl)
      by_body body.Kill a effects = with_effects effects _ (by_failure (failure_of body.Kill a) effects)
      by_body (body.Terminated y) a effects = with_effects effects _ (by_failure (failure_of (body.Terminated y) a) effects)

      pub by_entry : (e : Entry) → IsTrueOf (acts who before e)
      unfolding acts
      by_entry (Handled envelope reading (Applied a effects)) = by_body envelope.body a effects
      by_entry (Handled envelope reading SetAside) = by_body envelope.body None []
      by_entry (System number m (Applied a effects)) =
          choice (phase_is (phase who before) Fresh) (fresh_acts who before m a effects) (system_acts who before m a effects)
          (by_fresh m a effects) (by_system m a effects)
      by_entry (System number m SetAside) = inl refl
      by_entry (Dropped envelope) = inl refl
