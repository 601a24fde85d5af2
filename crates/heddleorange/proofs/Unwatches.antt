-- An actor sends an Unwatch only where it asks to stop watching another, or is told to end.
use Rattle.std.proofs.Common.{◌≡◌, ◌+◌, ◌==◌, ℕ, Bool, true, false, List, [], ◌∷◌, ◌++◌, ap, arith, map, refl, sym, ◌∙◌}
use Rattle.std.specs.Prelude.{filter, not, ◌&&◌, ◌||◌, if◌then◌else◌, Option, Some, None}
use Rattle.std.specs.List.{flat_map}
use Rattle.std.proofs.lemmas.Bool.{eq-eqb, eqb-true}
use Rattle.std.proofs.lemmas.List.{append-nil}
use Rattle.mb_actor.specs.ActorList.{has, is_same}
use Rattle.mb_actor.specs.OutboxView.{spawns_of}
use Rattle.mb_actor.specs.declared.answer.Answer.{Answer}
use Rattle.mb_actor.specs.declared.effect.Effect.{Effect}
use Rattle.mb_actor.specs.declared.effect.Effect.TheVariants as effect
use Rattle.mb_actor.specs.declared.phase.Phase.TheVariants.{Broken, Ending, Fresh, Live}
use Rattle.mb_gate.specs.SentSystem.{messages_of}
use Rattle.mb_ghost.proofs.SummedLemmas.{total_append}
use Rattle.mb_ghost.specs.Summed.{total}
use Rattle.mb_journal.specs.ActorList.{without}
use Rattle.mb_journal.specs.Acts.{Act, acts, create_acts, died_acts, effect_acts, end_acts, envelope_acts, fail_acts, failure_acts, fresh_acts, report}
use Rattle.mb_journal.specs.Acts.{restart_acts, restart_for, resume_acts, stop_acts, supervision_acts, system_acts, terminate_acts, to_each}
use Rattle.mb_journal.specs.Acts.Act.{CloseSelf, ResumeSelf, SuspendSelf, Sys, Tell}
use Rattle.mb_journal.specs.Effects.{applies, lasting_effects}
use Rattle.mb_journal.specs.Entry.{Entry, is_failed}
use Rattle.mb_journal.specs.Entry.Entry.{Dropped, Handled, System}
use Rattle.mb_journal.specs.Entry.Outcome.{Applied, SetAside}
use Rattle.mb_journal.specs.Failure.{failed, failure_of, is_child, is_nobody}
use Rattle.mb_journal.specs.Identity.{Identity, is_guardian}
use Rattle.mb_journal.specs.Life.{children, has_ending, is_alone, is_empty, is_terminate, phase}
use Rattle.mb_journal.specs.Phase.{phase_is}
use Rattle.mb_journal.specs.Retries.{carried_out, meant_by}
use Rattle.mb_journal.specs.Watching.{watchers, watching}
use Rattle.mb_journal.specs.declared.failed_by.FailedBy.{FailedBy}
use Rattle.mb_journal.specs.declared.failed_by.FailedBy.TheVariants.{Nobody}
use Rattle.mb_msg.specs.declared.envelope.Body.{Body}
use Rattle.mb_msg.specs.declared.envelope.Body.TheVariants as body
use Rattle.mb_msg.specs.declared.id.ActorId.{ActorId}
use Rattle.mb_msg.specs.declared.supervision.Cause.{Cause}
use Rattle.mb_msg.specs.declared.supervision.Cause.TheVariants as cause
use Rattle.mb_msg.specs.declared.supervision.Directive.{Directive}
use Rattle.mb_msg.specs.declared.supervision.Directive.TheVariants as directive
use Rattle.mb_msg.specs.declared.system.SysMsg.{SysMsg}
use Rattle.mb_msg.specs.declared.system.SysMsg.TheVariants as system
use Rattle.heddleorange.specs.Asked.{due_in, measure_to}
use Rattle.heddleorange.specs.Watched.{times_unwatched, unwatches_in}
use Rattle.heddleorange.proofs.Started.{messages-append}

-- an Unwatch of this watcher counts once, and no other message counts
abbrev pub unwatch_by : ℕ → SysMsg → ℕ
unwatch_by w (system.Unwatch v) = if v.0 == w then 1 else 0
unwatch_by w _ = 0

none-if : (b : Bool) (n : ℕ) → n ≡ 0 → (if b then n else 0) ≡ 0
none-if true n none = none
none-if false n none = refl

module _ (x : ActorId) (w : ℕ) where
  -- how many Unwatches of the one actor go to the other
  abbrev pub unwatches : List Act → ℕ
  unwatches list = total (measure_to x.0 (unwatch_by w)) (messages_of list)

  unwatches-append : (a b : List Act) → unwatches (a ++ b) ≡ unwatches a + unwatches b
  unwatches-append a b =
      ap (total (measure_to x.0 (unwatch_by w))) (messages-append a b) ∙ total_append (measure_to x.0 (unwatch_by w)) (messages_of a) (messages_of b)

  none-each : (m : SysMsg) → unwatch_by w m ≡ 0 → (list : List ActorId) → unwatches (to_each m list) ≡ 0
  none-each m none [] = refl
  none-each m none (y ∷ list) = let one = none-if (y.0 == x.0) (unwatch_by w m) none in let rest = none-each m none list in omega (arith, one, rest)

  none-resumed : (f : ActorId → Bool) (list : List ActorId) → unwatches (map (λ y. Sys y (system.Resume (f y))) list) ≡ 0
  none-resumed f [] = refl
  none-resumed f (y ∷ list) = let one = none-if (y.0 == x.0) 0 refl in let rest = none-resumed f list in omega (arith, one, rest)

  -- a message that does not count, in front
  none-first : (y : ActorId) (m : SysMsg) (list : List Act) → unwatch_by w m ≡ 0 → unwatches list ≡ 0 → unwatches (Sys y m ∷ list) ≡ 0
  none-first y m list none rest = let one = none-if (y.0 == x.0) (unwatch_by w m) none in omega (arith, one, rest)

  none-both : (a b : List Act) → unwatches a ≡ 0 → unwatches b ≡ 0 → unwatches (a ++ b) ≡ 0
  none-both a b first last = let both = unwatches-append a b in omega (arith, both, first, last)

  choice : (b : Bool) (first second : List Act) → unwatches first ≡ 0 → unwatches second ≡ 0 → unwatches (if b then first else second) ≡ 0
  choice true first second y n = y
  choice false first second y n = n

  -- how many Unwatches these effects ask for, of this actor
  abbrev asked : ActorId → List Effect → ℕ
  asked this [] = 0
  asked this (effect.Unwatch y ∷ effects) = measure_to x.0 (unwatch_by w) (y.0, system.Unwatch this) + asked this effects
  asked this (_ ∷ effects) = asked this effects

  none-effects : (this : ActorId) (watched : List ActorId) (effects : List Effect) → asked this effects ≡ 0 → unwatches (effect_acts this watched effects) ≡ 0
  unfolding effect_acts
  none-effects this watched [] none = refl
  none-effects this watched (effect.Tell y kind value ∷ effects) none = none-effects this watched effects none
  none-effects this watched (effect.Control y kind value ∷ effects) none = none-effects this watched effects none
  none-effects this watched (effect.Watch y ∷ effects) none =
      choice (is_same this y || has watched y) (effect_acts this watched effects)
      (Sys y (system.Watch this) ∷ effect_acts this (watched ++ y ∷ []) effects) (none-effects this watched effects none)
      (none-first y (system.Watch this) (effect_acts this (watched ++ y ∷ []) effects) refl (none-effects this (watched ++ y ∷ []) effects none))
  none-effects this watched (effect.Unwatch y ∷ effects) none =
      let less = none-effects this (without watched y) effects (omega (arith, none)) in
      choice (has watched y) (Sys y (system.Unwatch this) ∷ effect_acts this (without watched y) effects) (effect_acts this watched effects)
      (omega (arith, none, less)) (none-effects this watched effects (omega (arith, none)))
  none-effects this watched (effect.Stop y ∷ effects) none =
      none-first y system.Terminate (effect_acts this watched effects) refl (none-effects this watched effects none)
  none-effects this watched (effect.Spawn y ∷ effects) none =
      none-first y system.Create (effect_acts this watched effects) refl (none-effects this watched effects none)

  none-stop : (effects : List Effect) → unwatches (stop_acts effects) ≡ 0
  none-stop [] = refl
  none-stop (effect.Tell y kind value ∷ effects) = none-stop effects
  none-stop (effect.Control y kind value ∷ effects) = none-stop effects
  none-stop (effect.Watch y ∷ effects) = none-stop effects
  none-stop (effect.Unwatch y ∷ effects) = none-stop effects
  none-stop (effect.Stop y ∷ effects) = none-stop effects
  none-stop (effect.Spawn y ∷ effects) = none-stop effects

  none-report : (who : Identity) (c : Cause) → unwatches (report who c ∷ []) ≡ 0
  none-report who c = by_parent who.parent
    where
      by_parent : (parent : Option ActorId) → unwatches (report (record who { parent = parent }) c ∷ []) ≡ 0
      by_parent None = none-first who.this system.Terminate [] refl refl
      by_parent (Some p) = none-first p (system.Failed who.this c) [] refl refl

  none-fail : (who : Identity) (by : FailedBy) (own : List ActorId) (c : Cause) (except : List ActorId) → unwatches (fail_acts who by own c except) ≡ 0
  none-fail who by own c except = by_test (is_nobody by)
    where
      by_test : (b : Bool) → unwatches (if b then SuspendSelf ∷ to_each system.Suspend (filter (λ y. not (has except y)) own) ++ report who c ∷ [] else []) ≡ 0
      by_test true =
          none-both (SuspendSelf ∷ to_each system.Suspend (filter (λ y. not (has except y)) own)) (report who c ∷ [])
          (none-each system.Suspend refl (filter (λ y. not (has except y)) own)) (none-report who c)
      by_test false = refl

  none-restart : (y : ActorId) (c : Cause) (z : ActorId) → unwatches (restart_for y c z) ≡ 0
  none-restart y c z =
      choice (is_same z y) (Sys z (system.Recreate c) ∷ []) (Sys z system.Suspend ∷ Sys z (system.Recreate c) ∷ [])
      (none-first z (system.Recreate c) [] refl refl)
      (none-first z system.Suspend (Sys z (system.Recreate c) ∷ []) refl (none-first z (system.Recreate c) [] refl refl))

  none-restarts : (y : ActorId) (c : Cause) (list : List ActorId) → unwatches (flat_map (restart_for y c) list) ≡ 0
  none-restarts y c [] = refl
  none-restarts y c (z ∷ list) = none-both (restart_for y c z) (flat_map (restart_for y c) list) (none-restart y c z) (none-restarts y c list)

  module _ (who : Identity) where
    none-end : (watched_by : List ActorId) (effects : List Effect) → unwatches (end_acts who watched_by effects) ≡ 0
    none-end watched_by effects = by_parent who.parent
      where
        by_parent : (parent : Option ActorId) → unwatches (end_acts (record who { parent = parent }) watched_by effects) ≡ 0
        by_parent None =
            none-both (stop_acts effects) (CloseSelf ∷ to_each (system.Died who.this) watched_by) (none-stop effects)
            (none-each (system.Died who.this) refl watched_by)
        by_parent (Some p) =
            none-both (stop_acts effects) (CloseSelf ∷ Sys p (system.Died who.this) ∷ to_each (system.Died who.this) (without watched_by p))
            (none-stop effects)
            (none-first p (system.Died who.this) (to_each (system.Died who.this) (without watched_by p)) refl
            (none-each (system.Died who.this) refl (without watched_by p)))

    module _ (before : List Entry) where
      with_effects : (effects : List Effect) (list : List Act) → asked who.this effects ≡ 0 → unwatches list ≡ 0
          → unwatches (effect_acts who.this (watching who before) effects ++ list) ≡ 0
      with_effects effects list none rest =
          none-both (effect_acts who.this (watching who before) effects) list (none-effects who.this (watching who before) effects none) rest

      by_create : (a : Option Answer) (effects : List Effect) → asked who.this effects ≡ 0 → unwatches (create_acts who before a effects) ≡ 0
      by_create a effects none =
          let fails = if is_failed a then fail_acts who (failed who before) (children who before ++ spawns_of effects) cause.Init [] else [] in
          choice (is_guardian who) (ResumeSelf ∷ to_each system.Create who.prepared)
          (ResumeSelf ∷ effect_acts who.this (watching who before) effects ++ fails)
          (none-each system.Create refl who.prepared)
          (with_effects effects fails none
          (choice (is_failed a) (fail_acts who (failed who before) (children who before ++ spawns_of effects) cause.Init []) []
          (none-fail who (failed who before) (children who before ++ spawns_of effects) cause.Init []) refl))

      by_restart : (c : Cause) (a : Option Answer) (effects : List Effect) → asked who.this effects ≡ 0 → unwatches (restart_acts who before c a effects) ≡ 0
      by_restart c a effects none =
          with_effects effects (if is_failed a
          then fail_acts who Nobody (children who before ++ spawns_of effects) cause.Init (children who before)
          else to_each (system.Recreate c) (children who before)) none
          (choice (is_failed a) (fail_acts who Nobody (children who before ++ spawns_of effects) cause.Init (children who before))
          (to_each (system.Recreate c) (children who before))
          (none-fail who Nobody (children who before ++ spawns_of effects) cause.Init (children who before))
          (none-each (system.Recreate c) refl (children who before)))

      by_terminate : (effects : List Effect) → unwatch_by w (system.Unwatch who.this) ≡ 0 → unwatches (terminate_acts who before effects) ≡ 0
      by_terminate effects none =
          let unwatched = to_each (system.Unwatch who.this) (watching who before) in let stopped = to_each system.Terminate (children who before) in
          none-both (unwatched ++ stopped) (if is_empty (children who before) then end_acts who (watchers before) effects else SuspendSelf ∷ [])
          (none-both unwatched stopped (none-each (system.Unwatch who.this) none (watching who before))
          (none-each system.Terminate refl (children who before)))
          (choice (is_empty (children who before)) (end_acts who (watchers before) effects) (SuspendSelf ∷ []) (none-end (watchers before) effects) refl)

      by_died : (y : ActorId) (effects : List Effect) → unwatches (died_acts who before y effects) ≡ 0
      by_died y effects =
          none-both (if has (watching who before) y then Tell who.this (body.Terminated y) ∷ [] else [])
          (if phase_is (phase who before) Ending && is_alone (children who before) y then end_acts who (watchers before) effects else [])
          (choice (has (watching who before) y) (Tell who.this (body.Terminated y) ∷ []) [] refl refl)
          (choice (phase_is (phase who before) Ending && is_alone (children who before) y) (end_acts who (watchers before) effects) []
          (none-end (watchers before) effects) refl)

      by_directive : (y : ActorId) (c : Cause) (d : Directive) → unwatches (supervision_acts who before y c d) ≡ 0
      by_directive y c directive.Resume = none-first y (system.Resume true) [] refl refl
      by_directive y c directive.Restart = none-restarts y c (meant_by who before y)
      by_directive y c directive.Stop = none-each system.Terminate refl (meant_by who before y)
      by_directive y c directive.Escalate = none-fail who (failed who before) (children who before) c (y ∷ [])

      by_failure : (c : Option Cause) (effects : List Effect) → unwatches (failure_acts who before c effects) ≡ 0
      by_failure None effects = refl
      by_failure (Some c) effects = none-fail who (failed who before) (children who before ++ spawns_of effects) c []

      -- What the entry asks for sends none; nor does an ending.
      record SendsNone (e : Entry) : Type 0 where
        by_effects : asked who.this (lasting_effects e) ≡ 0
        by_ending : applies is_terminate e ≡ true → unwatch_by w (system.Unwatch who.this) ≡ 0

      by_system : (number : ℕ) (m : SysMsg) (a : Option Answer) (effects : List Effect) → SendsNone (System number m (Applied a effects))
          → unwatches (system_acts who before m a effects) ≡ 0
      by_system number system.Create a effects none = refl
      by_system number system.Suspend a effects none = none-each system.Suspend refl (children who before)
      by_system number (system.Resume f) a effects none =
          choice (phase_is (phase who before) Live) (resume_acts who before f)
          (if phase_is (phase who before) Broken && not (is_guardian who) then restart_acts who before cause.Init a effects else [])
          (none-resumed (λ y. f && is_child (failed who before) y) (children who before))
          (choice (phase_is (phase who before) Broken && not (is_guardian who)) (restart_acts who before cause.Init a effects) []
          (by_restart cause.Init a effects none.by_effects) refl)
      by_system number (system.Recreate c) a effects none =
          choice (is_guardian who) [] (restart_acts who before c a effects) refl (by_restart c a effects none.by_effects)
      by_system number (system.Failed y c) a effects none =
          choice (has (children who before) y) (supervision_acts who before y c (carried_out who before y c)) []
          (by_directive y c (carried_out who before y c)) refl
      by_system number system.Terminate a effects none =
          choice (phase_is (phase who before) Ending) [] (terminate_acts who before effects) refl (by_terminate effects (none.by_ending refl))
      by_system number (system.Watch v) a effects none = refl
      by_system number (system.Unwatch v) a effects none = refl
      by_system number (system.Died y) a effects none = by_died y effects

      by_fresh : (number : ℕ) (m : SysMsg) (a : Option Answer) (effects : List Effect) → SendsNone (System number m (Applied a effects))
          → unwatches (fresh_acts who before m a effects) ≡ 0
      by_fresh number system.Create a effects none = by_create a effects none.by_effects
      by_fresh number system.Suspend a effects none = refl
      by_fresh number (system.Resume f) a effects none = refl
      by_fresh number (system.Recreate c) a effects none = refl
      by_fresh number (system.Failed y c) a effects none = refl
      by_fresh number system.Terminate a effects none = by_terminate effects (none.by_ending refl)
      by_fresh number (system.Watch v) a effects none = refl
      by_fresh number (system.Unwatch v) a effects none = refl
      by_fresh number (system.Died y) a effects none = refl

      by_body : (b : Body) (a : Option Answer) (effects : List Effect) → asked who.this effects ≡ 0 → unwatches (envelope_acts who before b a effects) ≡ 0
      by_body (body.User kind value) a effects none = with_effects effects _ none (by_failure (failure_of (body.User kind value) a) effects)
      by_body (body.Control kind value) a effects none = with_effects effects _ none (by_failure (failure_of (body.Control kind value) a) effects)
      by_body body.PoisonPill a effects none = none-first who.this system.Terminate [] refl refl
      by_body body.Kill a effects none = with_effects effects _ none (by_failure (failure_of body.Kill a) effects)
      by_body (body.Terminated y) a effects none = with_effects effects _ none (by_failure (failure_of (body.Terminated y) a) effects)

      by_entry : (e : Entry) → SendsNone e → unwatches (acts who before e) ≡ 0
      unfolding acts
      by_entry (Handled envelope reading (Applied a effects)) none = by_body envelope.body a effects none.by_effects
      by_entry (Handled envelope reading SetAside) none = by_body envelope.body None [] refl
      by_entry (System number m (Applied a effects)) none =
          choice (phase_is (phase who before) Fresh) (fresh_acts who before m a effects) (system_acts who before m a effects)
          (by_fresh number m a effects none) (by_system number m a effects none)
      by_entry (System number m SetAside) none = refl
      by_entry (Dropped envelope) none = refl

    -- what the journal has to send with one entry more
    none-more : (e : Entry) (before : List Entry) → total (measure_to x.0 (unwatch_by w)) (due_in who before) ≡ 0 → SendsNone before e
        → total (measure_to x.0 (unwatch_by w)) (due_in who (e ∷ before)) ≡ 0
    none-more e before rest none =
        let both = total_append (measure_to x.0 (unwatch_by w)) (due_in who before) (messages_of (acts who (before ++ []) e)) in
        let one = ap (λ l. unwatches (acts who l e)) (append-nil before) ∙ by_entry before e none in omega (arith, both, rest, one)

    -- who has another number sends no Unwatch of this watcher
    pub none-of-another : (who.this.0 == w) ≡ false → (journal : List Entry) → total (measure_to x.0 (unwatch_by w)) (due_in who journal) ≡ 0
    none-of-another another [] = refl
    none-of-another another (e ∷ before) =
        none-more e before (none-of-another another before) (record { by_effects = nowhere (lasting_effects e); by_ending = λ _. never })
      where
        never : unwatch_by w (system.Unwatch who.this) ≡ 0
        never = λ i. if another i then 1 else 0

        nowhere : (effects : List Effect) → asked who.this effects ≡ 0
        nowhere [] = refl
        nowhere (effect.Tell y kind value ∷ effects) = nowhere effects
        nowhere (effect.Control y kind value ∷ effects) = nowhere effects
        nowhere (effect.Watch y ∷ effects) = nowhere effects
        nowhere (effect.Unwatch y ∷ effects) =
            let one = none-if (y.0 == x.0) (unwatch_by w (system.Unwatch who.this)) never in let rest = nowhere effects in omega (arith, one, rest)
        nowhere (effect.Stop y ∷ effects) = nowhere effects
        nowhere (effect.Spawn y ∷ effects) = nowhere effects

    -- nor does one that never asks to stop watching the other, and is not told to end
    pub none-of-own : (journal : List Entry) → times_unwatched x journal ≡ 0 → has_ending journal ≡ false
        → total (measure_to x.0 (unwatch_by w)) (due_in who journal) ≡ 0
    unfolding has_ending
    none-of-own [] never alive = refl
    none-of-own (e ∷ before) never alive =
        let both = neither (applies is_terminate e) (has_ending before) alive in
        none-more e before (none-of-own before (omega (arith, never)) both.1)
        (record { by_effects = nowhere (lasting_effects e) (omega (arith, never)); by_ending = λ ends. differ ends both.0 })
      where
        neither : (a b : Bool) → (a || b) ≡ false → (a ≡ false) × (b ≡ false)
        neither true b is = absurd (cc is)
        neither false b is = (refl, is)

        differ : {A : Type 0} {b : Bool} → b ≡ true → b ≡ false → A
        differ is isnt = absurd (let e : true ≡ false = sym is ∙ isnt in cc e)

        one-none : (y : ActorId) → ◌≡◌ {A = ℕ} (if is_same x y then 1 else 0) 0 → measure_to x.0 (unwatch_by w) (y.0, system.Unwatch who.this) ≡ 0
        one-none y none = by_test (y.0 == x.0) refl
          where
            by_test : (b : Bool) → (y.0 == x.0) ≡ b → (if b then unwatch_by w (system.Unwatch who.this) else 0) ≡ 0
            by_test true same =
                let is : is_same x y ≡ true = eq-eqb x.0 y.0 (sym (eqb-true y.0 x.0 same)) in
                let one : ◌≡◌ {A = ℕ} (if is_same x y then 1 else 0) 1 = λ i. if is i then 1 else 0 in absurd (omega (arith, one, none))
            by_test false other = refl

        nowhere : (effects : List Effect) → unwatches_in x effects ≡ 0 → asked who.this effects ≡ 0
        nowhere [] none = refl
        nowhere (effect.Tell y kind value ∷ effects) none = nowhere effects none
        nowhere (effect.Control y kind value ∷ effects) none = nowhere effects none
        nowhere (effect.Watch y ∷ effects) none = nowhere effects none
        nowhere (effect.Unwatch y ∷ effects) none =
            let one = one-none y (omega (arith, none)) in let rest = nowhere effects (omega (arith, none)) in omega (arith, one, rest)
        nowhere (effect.Stop y ∷ effects) none = nowhere effects none
        nowhere (effect.Spawn y ∷ effects) none = nowhere effects none
