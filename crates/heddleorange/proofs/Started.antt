-- An actor applies a Create or a Terminate that comes to it, and sends a Create to each child that it adds.
use Rattle.std.proofs.Common.{◌≡◌, ◌+◌, ◌==◌, ◌⊎◌, inl, inr, ℕ, zero, suc, Bool, true, false, List, [], ◌∷◌, ◌++◌, Some, None, Option, ap, arith, refl, subst, sym, ◌∙◌}
use Rattle.std.specs.Prelude.{not, ◌&&◌, ◌||◌, if◌then◌else◌, Contains, slice_get}
use Rattle.std.specs.List.{list_any}
use Rattle.std.proofs.lemmas.Bool.{and_parts, eq-eqb}
use Rattle.std.proofs.lemmas.List.{append-nil}
use Rattle.std.proofs.lemmas.List.Elements.{Contains-append_cases, Contains-append_left, Contains-append_right}
use Rattle.std.proofs.lemmas.Option.{none-some, same_Some}
use Rattle.mb_actor.specs.ActorList.{has, is_same}
use Rattle.mb_actor.specs.Behaviour.{Moment, Reply}
use Rattle.mb_actor.specs.OutboxView.{spawns_of}
use Rattle.mb_actor.specs.declared.answer.Answer.{Answer}
use Rattle.mb_actor.specs.declared.call.Call.TheVariants.{Restart, Start, Stop}
use Rattle.mb_actor.specs.declared.effect.Effect.{Effect}
use Rattle.mb_actor.specs.declared.effect.Effect.TheVariants as effect
use Rattle.mb_actor.specs.declared.phase.Phase.{Phase}
use Rattle.mb_actor.specs.declared.phase.Phase.TheVariants.{Broken, Ended, Ending, Fresh, Live}
use Rattle.mb_build.specs.Identities.{children_from, id}
use Rattle.mb_gate.specs.SentSystem.{messages_of}
use Rattle.mb_journal.proofs.CreateLemmas.{sets_aside-create}
use Rattle.mb_journal.proofs.TestLemmas.{and-false, if_false, if_same, if_true}
use Rattle.mb_journal.specs.ActorList.{without}
use Rattle.mb_journal.specs.Acts.{Act, acts, create_acts, effect_acts, envelope_acts, fail_acts, failure_acts, fresh_acts, restart_acts, resume_acts, system_acts, to_each}
use Rattle.mb_journal.specs.Acts.Act.{CloseSelf, ResumeSelf, SuspendSelf, Sys, Tell}
use Rattle.mb_journal.specs.Aside.{sets_aside}
use Rattle.mb_journal.specs.Effects.{applies, lasting_effects}
use Rattle.mb_journal.specs.Entry.{Entry, Outcome, answered_failed, is_failed}
use Rattle.mb_journal.specs.Entry.Entry.{Dropped, Handled, System}
use Rattle.mb_journal.specs.Entry.Outcome.{Applied, SetAside}
use Rattle.mb_journal.specs.Failure.{failed, failure_of}
use Rattle.mb_journal.specs.declared.failed_by.FailedBy.TheVariants.{Nobody}
use Rattle.mb_journal.specs.Identity.{Identity, is_guardian}
use Rattle.mb_journal.specs.Lawful.{AreLawful, IsGiven, IsLawfulEntry, call_of, envelope_call, restart_cause, was_live}
use Rattle.mb_journal.specs.Life.{after_death, children, closed, ends_last_child, has_ending, has_start, is_create, is_empty, is_ending, is_last, is_recreate, is_restart, is_resume, is_start, is_terminate, phase, spawned}
use Rattle.mb_journal.specs.Phase.{phase_is}
use Rattle.mb_journal.specs.Watching.{watching}
use Rattle.mb_msg.specs.declared.envelope.Body.{Body}
use Rattle.mb_msg.specs.declared.envelope.Body.TheVariants as body
use Rattle.mb_msg.specs.declared.id.ActorId.{ActorId}
use Rattle.mb_msg.specs.declared.supervision.Cause.{Cause}
use Rattle.mb_msg.specs.declared.supervision.Cause.TheVariants as cause
use Rattle.mb_msg.specs.declared.system.SysMsg.{SysMsg}
use Rattle.mb_msg.specs.declared.system.SysMsg.TheVariants as system
use Rattle.heddleorange.specs.Arrived.{all_spawned, entered}
use Rattle.heddleorange.specs.Asked.{due_in}
use Rattle.heddleorange.proofs.Came.{first_or_further, further}

-- ---- what is applied

or-true : (a b : Bool) → b ≡ true → (a || b) ≡ true
or-true true b is = refl
or-true false b is = is

or-none : (a b : Bool) → b ≡ false → (a || b) ≡ a
or-none true b is = refl
or-none false b is = is

-- a Terminate is never set aside
sets_aside-terminate : (who : Identity) (before : List Entry) → sets_aside who before system.Terminate ≡ false
sets_aside-terminate who before = ap (λ b. b || false) (and-false (phase_is (phase who before) Ending))

module _ (who : Identity) (gives : Moment → Reply → Type 0) (test : SysMsg → Bool) (m : SysMsg) (passes : test m ≡ true)
    (never : (before : List Entry) → sets_aside who before m ≡ false) where
  -- a message that is never set aside is applied if it has an entry
  applied-one : (before : List Entry) (number : ℕ) (outcome : Outcome) → IsLawfulEntry who gives before (System number m outcome)
      → applies test (System number m outcome) ≡ true
  applied-one before number (Applied a effects) lawful = ap (λ b. b && true) passes
  applied-one before number SetAside lawful =
      absurd (let no : false ≡ true = lawful.by_rule ∙ ap not (never before) in cc no)

  applied : (journal : List Entry) → AreLawful who gives journal → Contains (entered journal) m → list_any (applies test) journal ≡ true
  unfolding AreLawful
  applied [] lawful is = absurd (let lt = is.1 in omega (arith, lt))
  applied (Handled envelope reading outcome ∷ before) lawful is = applied before lawful.1 is
  applied (Dropped envelope ∷ before) lawful is = applied before lawful.1 is
  applied (System number n outcome ∷ before) lawful is =
      by_first (applied before lawful.1) (first_or_further n (entered before) m is)
    where
      by_first : (Contains (entered before) m → list_any (applies test) before ≡ true) → (n ≡ m) ⊎ Contains (entered before) m
          → (applies test (System number n outcome) || list_any (applies test) before) ≡ true
      by_first rest (inl same) =
          let here : applies test (System number n outcome) ≡ true =
          subst (λ k. applies test (System number k outcome) ≡ true) (sym same)
          (applied-one before number outcome (subst (λ k. IsLawfulEntry who gives before (System number k outcome)) same lawful.0)) in
          ap (λ b. b || list_any (applies test) before) here
      by_first rest (inr more) = or-true (applies test (System number n outcome)) (list_any (applies test) before) (rest more)

module _ (who : Identity) (gives : Moment → Reply → Type 0) (journal : List Entry) (lawful : AreLawful who gives journal) where
  pub started : Contains (entered journal) system.Create → has_start journal ≡ true
  unfolding has_start
  started is = applied who gives is_create system.Create refl (sets_aside-create who) journal lawful is

  pub ending : Contains (entered journal) system.Terminate → has_ending journal ≡ true
  unfolding has_ending
  ending is = applied who gives is_terminate system.Terminate refl (sets_aside-terminate who) journal lawful is

-- ---- an actor that was never started is Fresh, or has ended

abbrev rests : Phase → Type 0
rests Fresh = Unit {0}
rests Ended = Unit {0}
rests _ = ⊥

fresh-then : (p : Phase) → rests p → phase_is p Ended ≡ false → p ≡ Fresh
fresh-then Fresh rest alive = refl
fresh-then Live rest alive = absurd rest
fresh-then Broken rest alive = absurd rest
fresh-then Ending rest alive = absurd rest
fresh-then Ended rest alive = absurd (cc alive)

neither : (a b : Bool) → (a || b) ≡ false → (a ≡ false) × (b ≡ false)
neither true b never = absurd (cc never)
neither false b never = (refl, never)

none-after_death : (e : Entry) → after_death e [] ≡ []
none-after_death (System number (system.Died x) (Applied a effects)) = refl
none-after_death e = refl

pub none-lasting_aside : (number : ℕ) (m : SysMsg) → lasting_effects (System number m SetAside) ≡ []
none-lasting_aside number system.Terminate = refl
none-lasting_aside number (system.Died x) = refl
none-lasting_aside number m = refl

-- a system message that neither starts nor restarts an actor has no effects that last
module _ (who : Identity) (gives : Moment → Reply → Type 0) (before : List Entry) (number : ℕ) (an_actor : is_guardian who ≡ false) where
  none-given : (m : SysMsg) (a : Option Answer) (effects : List Effect) → is_last who (System number m (Applied a effects)) before ≡ false
      → is_start (System number m (Applied a effects)) before ≡ false → is_restart who (System number m (Applied a effects)) before ≡ false
      → IsGiven who gives before (call_of who before (System number m (Applied a effects))) a effects → effects ≡ []
  none-given m a effects handles starts restarts given =
      let e : Entry = System number m (Applied a effects) in
      let silent : call_of who before e ≡ None =
      (λ i. if an_actor i then None
      else (if starts i then Some Start
      else (if restarts i then Some (Restart (restart_cause m))
      else (if handles i && was_live who (e ∷ before) then Some Stop
      else None)))) in
      (subst (λ call. IsGiven who gives before call a effects) silent given).1

  not-last : (phase_is (phase who before) Ending && false) ≡ false
  not-last = and-false (phase_is (phase who before) Ending)

  pub none-lasting : (m : SysMsg) (a : Option Answer) (effects : List Effect) → is_start (System number m (Applied a effects)) before ≡ false
      → is_restart who (System number m (Applied a effects)) before ≡ false
      → IsGiven who gives before (call_of who before (System number m (Applied a effects))) a effects
      → lasting_effects (System number m (Applied a effects)) ≡ []
  none-lasting system.Terminate a effects starts restarts given = refl
  none-lasting (system.Died x) a effects starts restarts given = refl
  none-lasting system.Create a effects starts restarts given = none-given system.Create a effects not-last starts restarts given
  none-lasting system.Suspend a effects starts restarts given = none-given system.Suspend a effects not-last starts restarts given
  none-lasting (system.Resume f) a effects starts restarts given = none-given (system.Resume f) a effects not-last starts restarts given
  none-lasting (system.Recreate c) a effects starts restarts given = none-given (system.Recreate c) a effects not-last starts restarts given
  none-lasting (system.Failed x c) a effects starts restarts given = none-given (system.Failed x c) a effects not-last starts restarts given
  none-lasting (system.Watch w) a effects starts restarts given = none-given (system.Watch w) a effects not-last starts restarts given
  none-lasting (system.Unwatch w) a effects starts restarts given = none-given (system.Unwatch w) a effects not-last starts restarts given

module _ (who : Identity) (gives : Moment → Reply → Type 0) where
  -- An actor that was never started has no children.
  record IsIdle (journal : List Entry) : Type 0 where
    no_children : children who journal ≡ []
    at_rest : rests (phase who journal)

  module _ (before : List Entry) (number : ℕ) (m : SysMsg) (outcome : Outcome) (fresh : phase who before ≡ Fresh)
      (no_create : applies is_create (System number m outcome) ≡ false) where
    abbrev e : Entry
    e = System number m outcome

    no_start : is_start e before ≡ false
    no_start = ap (λ b. b && not (has_start before)) no_create

    no_restart : is_restart who e before ≡ false
    no_restart =
        ap (λ p. (applies is_recreate e || (applies is_resume e && phase_is p Broken)) && not (phase_is p Fresh) && not (is_guardian who)) fresh
        ∙ ap (λ b. b && not (is_guardian who)) (and-false (applies is_recreate e || (applies is_resume e && phase_is Fresh Broken)))

    still-rests : children who before ≡ [] → rests (phase who (e ∷ before))
    unfolding phase
    still-rests childless = subst rests (sym now) (by_ending (is_ending e before))
      where
        phase_if : Bool → Phase
        phase_if handles = if (handles && true) || false then Ended else (if handles then Ending else Fresh)

        by_ending : (handles : Bool) → rests (phase_if handles)
        by_ending true = tt
        by_ending false = tt

        now : phase who (e ∷ before) ≡ phase_if (is_ending e before)
        now =
            λ i. if phase_is (fresh i) Ended
            || ((is_ending e before && is_empty (childless i)) || (phase_is (fresh i) Ending && ends_last_child e (children who before)))
            then Ended
            else (if phase_is (fresh i) Ending || is_ending e before then Ending
            else (if no_start i || no_restart i then (if answered_failed e then Broken else Live)
            else fresh i))

    still-idle : children who before ≡ [] → lasting_effects e ≡ [] ⊎ (is_guardian who ≡ true) → IsIdle (e ∷ before)
    unfolding children
    still-idle childless none = record {
      no_children = (λ i. after_death e (childless i) ++ no_more none i) ∙ ap (λ l. l ++ []) (none-after_death e);
      at_rest = still-rests childless;
    }
      where
        no_more : lasting_effects e ≡ [] ⊎ (is_guardian who ≡ true) → spawned who e before ≡ []
        no_more (inr guards) = λ i. if guards i then (if no_start i then who.prepared else []) else spawns_of (lasting_effects e)
        no_more (inl none) =
            (λ i. if is_guardian who then (if no_start i then who.prepared else []) else spawns_of (none i)) ∙ if_same (is_guardian who) []

  unstarted : (journal : List Entry) → AreLawful who gives journal → has_start journal ≡ false → IsIdle journal
  unfolding AreLawful has_start children phase
  unstarted [] lawful never = record { no_children = refl; at_rest = tt }
  unstarted (Handled envelope reading (Applied a effects) ∷ before) lawful never =
      absurd (subst rests lawful.0.live (unstarted before lawful.1 never).at_rest)
  unstarted (Handled envelope reading SetAside ∷ before) lawful never = absurd lawful.0
  unstarted (Dropped envelope ∷ before) lawful never = absurd (subst rests lawful.0.live (unstarted before lawful.1 never).at_rest)
  unstarted (System number m (Applied a effects) ∷ before) lawful never =
      let both = neither (applies is_create (System number m (Applied a effects))) (has_start before) never in
      let idle = unstarted before lawful.1 both.1 in let fresh = fresh-then (phase who before) idle.at_rest lawful.0.0.not_ended in
      still-idle before number m (Applied a effects) fresh both.0 idle.no_children (by_guardian (is_guardian who) refl fresh both.0)
    where
      by_guardian : (b : Bool) → is_guardian who ≡ b → phase who before ≡ Fresh → applies is_create (System number m (Applied a effects)) ≡ false
          → lasting_effects (System number m (Applied a effects)) ≡ [] ⊎ (is_guardian who ≡ true)
      by_guardian true guards fresh no_create = inr guards
      by_guardian false an_actor fresh no_create =
          inl (none-lasting who gives before number an_actor m a effects (no_start before number m (Applied a effects) fresh no_create)
          (no_restart before number m (Applied a effects) fresh no_create) lawful.0.1)
  unstarted (System number m SetAside ∷ before) lawful never =
      let both = neither (applies is_create (System number m SetAside)) (has_start before) never in
      let idle = unstarted before lawful.1 both.1 in let fresh = fresh-then (phase who before) idle.at_rest lawful.0.not_ended in
      still-idle before number m SetAside fresh both.0 idle.no_children (inl (none-lasting_aside number m))

-- ---- each child that is added is sent a Create

-- a Create to this actor is among what these acts send
abbrev IsSent : List Act → ActorId → Type 0
IsSent list child = Contains (messages_of list) (child.0, system.Create)

pub messages-append : (a b : List Act) → messages_of (a ++ b) ≡ messages_of a ++ messages_of b
messages-append [] b = refl
messages-append (Tell to told ∷ a) b = messages-append a b
messages-append (Sys to m ∷ a) b = ap (λ l. (to.0, m) ∷ l) (messages-append a b)
messages-append (SuspendSelf ∷ a) b = messages-append a b
messages-append (ResumeSelf ∷ a) b = messages-append a b
messages-append (CloseSelf ∷ a) b = messages-append a b

module _ (child : ActorId) where
  no-child : {A : Type 0} → Contains [] child → A
  no-child is = absurd (let lt = is.1 in omega (arith, lt))

  sent-first : (a b : List Act) → IsSent a child → IsSent (a ++ b) child
  sent-first a b is =
      subst (λ l. Contains l (child.0, system.Create)) (sym (messages-append a b))
      (Contains-append_left (messages_of a) (messages_of b) (child.0, system.Create) is)

  sent-further : (to : ActorId) (m : SysMsg) (list : List Act) → IsSent list child → IsSent (Sys to m ∷ list) child
  sent-further to m list is = further (to.0, m) (messages_of list) (child.0, system.Create) is

  sent-to_each : (list : List ActorId) → Contains list child → IsSent (to_each system.Create list) child
  sent-to_each [] is = no-child is
  sent-to_each (x ∷ list) is = by_first (sent-to_each list) (first_or_further x list child is)
    where
      by_first : (Contains list child → IsSent (to_each system.Create list) child) → (x ≡ child) ⊎ Contains list child
          → IsSent (to_each system.Create (x ∷ list)) child
      by_first rest (inl same) = (0, omega arith, ap (λ (y : ActorId). (y.0, system.Create)) same)
      by_first rest (inr more) = sent-further x system.Create (to_each system.Create list) (rest more)

  sent-effects : (this : ActorId) (watched : List ActorId) (effects : List Effect) → Contains (spawns_of effects) child
      → IsSent (effect_acts this watched effects) child
  unfolding effect_acts
  sent-effects this watched [] is = no-child is
  sent-effects this watched (effect.Tell to kind value ∷ effects) is = sent-effects this watched effects is
  sent-effects this watched (effect.Control to kind value ∷ effects) is = sent-effects this watched effects is
  sent-effects this watched (effect.Watch x ∷ effects) is =
      by_test (is_same this x || has watched x) (sent-effects this watched effects is) (sent-effects this (watched ++ x ∷ []) effects is)
    where
      by_test : (b : Bool) → IsSent (effect_acts this watched effects) child → IsSent (effect_acts this (watched ++ x ∷ []) effects) child
          → IsSent (if b then effect_acts this watched effects else Sys x (system.Watch this) ∷ effect_acts this (watched ++ x ∷ []) effects) child
      by_test true same more = same
      by_test false same more = sent-further x (system.Watch this) (effect_acts this (watched ++ x ∷ []) effects) more
  sent-effects this watched (effect.Unwatch x ∷ effects) is =
      by_test (has watched x) (sent-effects this watched effects is) (sent-effects this (without watched x) effects is)
    where
      by_test : (b : Bool) → IsSent (effect_acts this watched effects) child → IsSent (effect_acts this (without watched x) effects) child
          → IsSent (if b then Sys x (system.Unwatch this) ∷ effect_acts this (without watched x) effects else effect_acts this watched effects) child
      by_test true same less = sent-further x (system.Unwatch this) (effect_acts this (without watched x) effects) less
      by_test false same less = same
  sent-effects this watched (effect.Stop x ∷ effects) is =
      sent-further x system.Terminate (effect_acts this watched effects) (sent-effects this watched effects is)
  sent-effects this watched (effect.Spawn x ∷ effects) is =
      by_first (sent-effects this watched effects) (first_or_further x (spawns_of effects) child is)
    where
      by_first : (Contains (spawns_of effects) child → IsSent (effect_acts this watched effects) child) → (x ≡ child) ⊎ Contains (spawns_of effects) child
          → IsSent (Sys x system.Create ∷ effect_acts this watched effects) child
      by_first rest (inl same) = (0, omega arith, ap (λ (y : ActorId). (y.0, system.Create)) same)
      by_first rest (inr more) = sent-further x system.Create (effect_acts this watched effects) (rest more)

is-create-true : (m : SysMsg) → is_create m ≡ true → m ≡ system.Create
is-create-true system.Create is = refl
is-create-true system.Suspend is = absurd (cc is)
is-create-true (system.Resume f) is = absurd (cc is)
is-create-true (system.Recreate c) is = absurd (cc is)
is-create-true (system.Failed x c) is = absurd (cc is)
is-create-true system.Terminate is = absurd (cc is)
is-create-true (system.Watch w) is = absurd (cc is)
is-create-true (system.Unwatch w) is = absurd (cc is)
is-create-true (system.Died x) is = absurd (cc is)

pub broken-true : (p : Phase) → phase_is p Broken ≡ true → p ≡ Broken
broken-true Fresh is = absurd (cc is)
broken-true Live is = absurd (cc is)
broken-true Broken is = refl
broken-true Ending is = absurd (cc is)
broken-true Ended is = absurd (cc is)

pub not-true : (b : Bool) → not b ≡ true → b ≡ false
not-true true is = absurd (cc is)
not-true false is = refl

module _ (who : Identity) (gives : Moment → Reply → Type 0) (child : ActorId) where
  module _ (before : List Entry) (lawful : AreLawful who gives before) where
    with-effects : (effects : List Effect) (list : List Act) → Contains (spawns_of effects) child
        → IsSent (ResumeSelf ∷ effect_acts who.this (watching who before) effects ++ list) child
    with-effects effects list is =
        sent-first child (effect_acts who.this (watching who before) effects) list (sent-effects child who.this (watching who before) effects is)

    -- an envelope
    by_body : (b : Body) (a : Option Answer) (effects : List Effect) → IsGiven who gives before (envelope_call b) a effects
        → Contains (spawns_of effects) child → IsSent (envelope_acts who before b a effects) child
    by_body (body.User kind value) a effects given is = with-effects effects (failure_acts who before (failure_of (body.User kind value) a) effects) is
    by_body (body.Control kind value) a effects given is =
        with-effects effects (failure_acts who before (failure_of (body.Control kind value) a) effects) is
    by_body (body.Terminated x) a effects given is = with-effects effects (failure_acts who before (failure_of (body.Terminated x) a) effects) is
    by_body body.Kill a effects given is = with-effects effects (failure_acts who before (failure_of body.Kill a) effects) is
    by_body body.PoisonPill a effects given is = no-child child (subst (λ l. Contains (spawns_of l) child) given.1 is)

    module _ (number : ℕ) (a : Option Answer) (effects : List Effect) where
      -- a start
      pub started-fresh : (m : SysMsg) → closed who before ≡ false → is_start (System number m (Applied a effects)) before ≡ true
          → (m ≡ system.Create) × (phase who before ≡ Fresh)
      started-fresh m alive starts =
          let both = and_parts (applies is_create (System number m (Applied a effects))) (not (has_start before)) starts in (
            is-create-true m (and_parts (is_create m) true both.0).0,
            fresh-then (phase who before) (unstarted who gives before lawful (not-true (has_start before) both.1)).at_rest alive,
          )

      pub start-acts : (m : SysMsg) → (m ≡ system.Create) × (phase who before ≡ Fresh)
          → acts who before (System number m (Applied a effects)) ≡ create_acts who before a effects
      unfolding acts
      start-acts m is =
          λ i. if phase_is (is.1 i) Fresh then fresh_acts who before (is.0 i) a effects else system_acts who before (is.0 i) a effects

      -- a restart
      restart-acts : (c : Cause) → Contains (spawns_of effects) child → IsSent (restart_acts who before c a effects) child
      restart-acts c is =
          with-effects effects (if is_failed a
          then fail_acts who Nobody (children who before ++ spawns_of effects) cause.Init (children who before)
          else to_each (system.Recreate c) (children who before)) is

      module _ (an_actor : is_guardian who ≡ false) where
        by_restart : (m : SysMsg) → is_restart who (System number m (Applied a effects)) before ≡ true → Contains (spawns_of effects) child
            → IsSent (if phase_is (phase who before) Fresh then fresh_acts who before m a effects else system_acts who before m a effects) child
        by_restart (system.Recreate c) restarts is =
            let begun = and_parts (true && not (phase_is (phase who before) Fresh)) (not (is_guardian who)) restarts in
            let not_fresh = not-true (phase_is (phase who before) Fresh) begun.0 in
            subst (λ l. IsSent l child)
            (λ i. if sym not_fresh i then [] else (if sym an_actor i then [] else restart_acts who before c a effects))
            (restart-acts c is)
        by_restart (system.Resume f) restarts is =
            let begun = and_parts (phase_is (phase who before) Broken && not (phase_is (phase who before) Fresh)) (not (is_guardian who)) restarts in
            let broken = broken-true (phase who before)
            (and_parts (phase_is (phase who before) Broken) (not (phase_is (phase who before) Fresh)) begun.0).0 in
            subst (λ l. IsSent l child)
            (λ i. if phase_is (sym broken i) Fresh then [] else (if phase_is (sym broken i) Live then resume_acts who before f
            else (if phase_is (sym broken i) Broken && not (sym an_actor i) then restart_acts who before cause.Init a effects else [])))
            (restart-acts cause.Init is)
        by_restart system.Create restarts is = absurd (cc restarts)
        by_restart system.Suspend restarts is = absurd (cc restarts)
        by_restart (system.Failed x c) restarts is = absurd (cc restarts)
        by_restart system.Terminate restarts is = absurd (cc restarts)
        by_restart (system.Watch w) restarts is = absurd (cc restarts)
        by_restart (system.Unwatch w) restarts is = absurd (cc restarts)
        by_restart (system.Died x) restarts is = absurd (cc restarts)

      lasting-of : (m : SysMsg) → Contains (spawns_of (lasting_effects (System number m (Applied a effects)))) child → Contains (spawns_of effects) child
      lasting-of system.Terminate is = no-child child is
      lasting-of (system.Died x) is = no-child child is
      lasting-of m is = is

    -- the guardian
    by-guardian : is_guardian who ≡ true → (e : Entry) → IsLawfulEntry who gives before e → (b : Bool) → is_start e before ≡ b
        → Contains (if b then who.prepared else []) child → IsSent (acts who before e) child
    by-guardian guards e may false starts is = no-child child is
    by-guardian guards (Handled envelope reading outcome) may true starts is = absurd (cc starts)
    by-guardian guards (Dropped envelope) may true starts is = absurd (cc starts)
    by-guardian guards (System number m SetAside) may true starts is =
        let first = (and_parts (is_create m && false) (not (has_start before)) starts).0 in
        absurd (let no : false ≡ true = (and_parts (is_create m) false first).1 in cc no)
    by-guardian guards (System number m (Applied a effects)) may true starts is =
        let create = start-acts number a effects m (started-fresh number a effects m may.0.not_ended starts) in
        subst (λ l. IsSent l child) (sym (create ∙ if_true (is_guardian who) _ _ guards)) (sent-to_each child who.prepared is)

    -- any other actor
    by-actor : is_guardian who ≡ false → (e : Entry) → IsLawfulEntry who gives before e → Contains (spawns_of (lasting_effects e)) child
        → IsSent (acts who before e) child
    unfolding acts
    by-actor an_actor (Handled envelope reading (Applied a effects)) may is = by_body envelope.body a effects may.given is
    by-actor an_actor (Handled envelope reading SetAside) may is = absurd may
    by-actor an_actor (Dropped envelope) may is = no-child child is
    by-actor an_actor (System number m SetAside) may is =
        no-child child (subst (λ l. Contains (spawns_of l) child) (none-lasting_aside number m) is)
    by-actor an_actor (System number m (Applied a effects)) may is = by_start (is_start (System number m (Applied a effects)) before) refl
      where
        by_test : is_start (System number m (Applied a effects)) before ≡ false → (b : Bool)
            → is_restart who (System number m (Applied a effects)) before ≡ b → IsSent (acts who before (System number m (Applied a effects))) child
        by_test starts true restarts = by_restart number a effects an_actor m restarts (lasting-of number a effects m is)
        by_test starts false restarts =
            no-child child (subst (λ l. Contains (spawns_of l) child) (none-lasting who gives before number an_actor m a effects starts restarts may.1) is)

        by_start : (b : Bool) → is_start (System number m (Applied a effects)) before ≡ b → IsSent (acts who before (System number m (Applied a effects))) child
        by_start true starts =
            let create = start-acts number a effects m (started-fresh number a effects m may.0.not_ended starts) in
            subst (λ l. IsSent l child) (sym (create ∙ if_false (is_guardian who) _ _ an_actor))
            (with-effects effects (if is_failed a
            then fail_acts who (failed who before) (children who before ++ spawns_of effects) cause.Init []
            else []) (lasting-of number a effects m is))
        by_start false starts = by_test starts (is_restart who (System number m (Applied a effects)) before) refl

    -- each child that the entry adds
    sent-by : (e : Entry) → IsLawfulEntry who gives before e → Contains (spawned who e before) child → IsSent (acts who before e) child
    sent-by e may is = by_guardian (is_guardian who) refl is
      where
        by_guardian : (b : Bool) → is_guardian who ≡ b
            → Contains (if b then (if is_start e before then who.prepared else []) else spawns_of (lasting_effects e)) child → IsSent (acts who before e) child
        by_guardian true guards is = by-guardian guards e may (is_start e before) refl is
        by_guardian false an_actor is = by-actor an_actor e may is

  -- each child that the entries of a journal add
  pub spawned-due : (journal : List Entry) → AreLawful who gives journal → Contains (all_spawned who journal) child
      → Contains (due_in who journal) (child.0, system.Create)
  unfolding AreLawful
  spawned-due [] lawful is = no-child child is
  spawned-due (e ∷ before) lawful is =
      by_entry (spawned-due before lawful.1) (Contains-append_cases (all_spawned who before) (spawned who e before) child is)
    where
      by_entry : (Contains (all_spawned who before) child → Contains (due_in who before) (child.0, system.Create))
          → Contains (all_spawned who before) child ⊎ Contains (spawned who e before) child
          → Contains (due_in who before ++ messages_of (acts who (before ++ []) e)) (child.0, system.Create)
      by_entry rest (inl earlier) =
          Contains-append_left (due_in who before) (messages_of (acts who (before ++ []) e)) (child.0, system.Create) (rest earlier)
      by_entry rest (inr now) =
          Contains-append_right (due_in who before) (messages_of (acts who (before ++ []) e)) (child.0, system.Create)
          (subst (λ l. IsSent (acts who l e) child) (sym (append-nil before)) (sent-by before lawful.1 e lawful.0 now))

-- ---- the guardian's children

module _ (who : Identity) (guards : is_guardian who ≡ true) (child : ActorId) where
  -- a guardian that was started added all
  pub prepared-spawned : (journal : List Entry) → has_start journal ≡ true → Contains who.prepared child → Contains (all_spawned who journal) child
  unfolding has_start
  prepared-spawned [] starts is = absurd (cc starts)
  prepared-spawned (e ∷ before) starts is = by_start (has_start before) refl (λ begun. prepared-spawned before begun is)
    where
      by_start : (b : Bool) → has_start before ≡ b → (has_start before ≡ true → Contains (all_spawned who before) child)
          → Contains (all_spawned who before ++ spawned who e before) child
      by_start true begun rest = Contains-append_left (all_spawned who before) (spawned who e before) child (rest begun)
      by_start false begun rest =
          let first : applies is_create e ≡ true = sym (or-none (applies is_create e) (has_start before) begun) ∙ starts in
          let now : who.prepared ≡ spawned who e before =
          λ i. if sym guards i then (if sym first i && not (sym begun i) then who.prepared else []) else spawns_of (lasting_effects e) in
          Contains-append_right (all_spawned who before) (spawned who e before) child (subst (λ l. Contains l child) now is)

-- an actor whose parent is the guardian is one of those
pub planned-child : (parents : List ActorId) (number place : ℕ) (parent : ActorId) → slice_get parents place ≡ Some parent → parent.0 ≡ 0
    → Contains (children_from number 0 parents) (id (number + place))
planned-child [] number place parent is guards = absurd (none-some parent is)
planned-child (p ∷ parents) number zero parent is guards =
    let same : p.0 ≡ 0 = ap (λ (x : ActorId). x.0) (same_Some p parent is) ∙ guards in
    subst (λ l. Contains l (id (number + 0)))
    (λ i. if sym (eq-eqb p.0 0 same) i then id number ∷ children_from (number + 1) 0 parents else children_from (number + 1) 0 parents)
    (0, omega arith, ap id (let e : number ≡ number + 0 = omega arith in e))
planned-child (p ∷ parents) number (suc place) parent is guards =
    by_test (p.0 == 0) (subst (λ n. Contains (children_from (number + 1) 0 parents) (id n))
    (let e : number + 1 + place ≡ number + suc place = omega arith in e) (planned-child parents (number + 1) place parent is guards))
  where
    by_test : (b : Bool) → Contains (children_from (number + 1) 0 parents) (id (number + suc place))
        → Contains (if b then id number ∷ children_from (number + 1) 0 parents else children_from (number + 1) 0 parents) (id (number + suc place))
    by_test true rest = further (id number) (children_from (number + 1) 0 parents) (id (number + suc place)) rest
    by_test false rest = rest
