-- An actor that asks to watch another sends it a Watch, the first time that it asks.
use Rattle.std.proofs.Common.{◌≡◌, ◌<◌, ◌+◌, ℕ, zero, suc, Bool, true, false, List, [], ◌∷◌, ◌++◌, None, Option, ap, arith, cond, refl, subst, sym, ◌∙◌}
use Rattle.std.specs.Prelude.{not, ◌&&◌, ◌||◌, if◌then◌else◌, Contains}
use Rattle.std.proofs.lemmas.Bool.{and_parts}
use Rattle.std.proofs.lemmas.List.{append-nil}
use Rattle.std.proofs.lemmas.List.Elements.{Contains-append_left, Contains-append_right}
use Rattle.mb_actor.specs.ActorList.{has, is_same}
use Rattle.mb_actor.specs.Behaviour.{Moment, Reply}
use Rattle.mb_actor.specs.OutboxView.{spawns_of}
use Rattle.mb_actor.specs.declared.answer.Answer.{Answer}
use Rattle.mb_actor.specs.declared.call.Call.{Call}
use Rattle.mb_actor.specs.declared.effect.Effect.{Effect}
use Rattle.mb_actor.specs.declared.effect.Effect.TheVariants as effect
use Rattle.mb_actor.specs.declared.phase.Phase.TheVariants.{Broken, Fresh, Live}
use Rattle.mb_gate.specs.SentSystem.{messages_of}
use Rattle.mb_journal.proofs.Kept.{same-is}
use Rattle.mb_journal.proofs.TestLemmas.{if_false}
use Rattle.mb_journal.specs.ActorList.{without}
use Rattle.mb_journal.specs.Acts.{Act, acts, effect_acts, envelope_acts, fail_acts, failure_acts, fresh_acts, restart_acts, resume_acts, system_acts, to_each}
use Rattle.mb_journal.specs.Acts.Act.{ResumeSelf, Sys}
use Rattle.mb_journal.specs.Effects.{lasting_effects}
use Rattle.mb_journal.specs.Entry.{Entry, is_failed}
use Rattle.mb_journal.specs.Entry.Entry.{Dropped, Handled, System}
use Rattle.mb_journal.specs.Entry.Outcome.{Applied, SetAside}
use Rattle.mb_journal.specs.Failure.{failed, failure_of}
use Rattle.mb_journal.specs.declared.failed_by.FailedBy.TheVariants.{Nobody}
use Rattle.mb_journal.specs.Identity.{Identity, is_guardian}
use Rattle.mb_journal.specs.Lawful.{AreLawful, IsGiven, IsLawfulEntry, envelope_call}
use Rattle.mb_journal.specs.Life.{children, is_restart, is_start, phase}
use Rattle.mb_journal.specs.Phase.{phase_is}
use Rattle.mb_journal.specs.Watching.{watching}
use Rattle.mb_msg.specs.declared.envelope.Body.{Body}
use Rattle.mb_msg.specs.declared.envelope.Body.TheVariants as body
use Rattle.mb_msg.specs.declared.id.ActorId.{ActorId}
use Rattle.mb_msg.specs.declared.supervision.Cause.{Cause}
use Rattle.mb_msg.specs.declared.supervision.Cause.TheVariants as cause
use Rattle.mb_msg.specs.declared.system.SysMsg.{SysMsg}
use Rattle.mb_msg.specs.declared.system.SysMsg.TheVariants as system
use Rattle.heddleorange.specs.Asked.{due_in}
use Rattle.heddleorange.specs.Watched.{times_watched, watches_in}
use Rattle.heddleorange.proofs.Came.{further}
use Rattle.heddleorange.proofs.Started.{broken-true, messages-append, none-lasting, none-lasting_aside, not-true, start-acts, started-fresh}
use Rattle.heddleorange.proofs.TimesTold.{not-watching}

neither : (a b : Bool) → (a || b) ≡ false → (a ≡ false) × (b ≡ false)
neither true b never = absurd (cc never)
neither false b never = (refl, never)

-- a Watch of the one actor by the other
module _ (x w : ActorId) where
  -- it is among what these acts send
  abbrev IsSent : List Act → Type 0
  IsSent list = Contains (messages_of list) (x.0, system.Watch w)

  -- ---- who is not in a list

  away-push : (list : List ActorId) (y : ActorId) → has list x ≡ false → is_same x y ≡ false → has (list ++ y ∷ []) x ≡ false
  away-push [] y away other = λ i. other i || false
  away-push (z ∷ list) y away other =
      let both = neither (is_same x z) (has list x) away in λ i. both.0 i || away-push list y both.1 other i

  away-without : (list : List ActorId) (y : ActorId) → has list x ≡ false → has (without list y) x ≡ false
  away-without [] y away = refl
  away-without (z ∷ list) y away =
      let both = neither (is_same x z) (has list x) away in by_test (is_same y z) both.0 (away-without list y both.1)
    where
      by_test : (b : Bool) → is_same x z ≡ false → has (without list y) x ≡ false → has (cond (not b) (z ∷ without list y) (without list y)) x ≡ false
      by_test true other rest = rest
      by_test false other rest = λ i. other i || rest i

  -- ---- acts

  sent-first : (a b : List Act) → IsSent a → IsSent (a ++ b)
  sent-first a b is =
      subst (λ l. Contains l (x.0, system.Watch w)) (sym (messages-append a b))
      (Contains-append_left (messages_of a) (messages_of b) (x.0, system.Watch w) is)

  sent-further : (to : ActorId) (m : SysMsg) (list : List Act) → IsSent list → IsSent (Sys to m ∷ list)
  sent-further to m list is = further (to.0, m) (messages_of list) (x.0, system.Watch w) is

  nothing : {A : Type 0} → 0 < 0 → A
  nothing some = absurd (omega (arith, some))

  sent-effects : (watched : List ActorId) (effects : List Effect) → is_same w x ≡ false → has watched x ≡ false → 0 < watches_in x effects
      → IsSent (effect_acts w watched effects)
  unfolding effect_acts
  sent-effects watched [] apart away some = nothing some
  sent-effects watched (effect.Tell y kind value ∷ effects) apart away some = sent-effects watched effects apart away some
  sent-effects watched (effect.Control y kind value ∷ effects) apart away some = sent-effects watched effects apart away some
  sent-effects watched (effect.Watch y ∷ effects) apart away some =
      by_test (sent-effects watched effects apart away)
      (λ other. sent-effects (watched ++ y ∷ []) effects apart (away-push watched y away other)) (is_same x y) refl some
    where
      acts_if : Bool → List Act
      acts_if known = if known then effect_acts w watched effects else Sys y (system.Watch w) ∷ effect_acts w (watched ++ y ∷ []) effects

      by_known : (b : Bool) → IsSent (effect_acts w watched effects) → IsSent (effect_acts w (watched ++ y ∷ []) effects) → IsSent (acts_if b)
      by_known true same more = same
      by_known false same more = sent-further y (system.Watch w) (effect_acts w (watched ++ y ∷ []) effects) more

      by_test : (0 < watches_in x effects → IsSent (effect_acts w watched effects))
          → (is_same x y ≡ false → 0 < watches_in x effects → IsSent (effect_acts w (watched ++ y ∷ []) effects)) → (b : Bool) → is_same x y ≡ b
          → 0 < (if b then 1 else 0) + watches_in x effects → IsSent (acts_if (is_same w y || has watched y))
      by_test same more true is some =
          let now : x ≡ y = same-is x y is in
          let unknown : (is_same w y || has watched y) ≡ false = subst (λ z. (is_same w z || has watched z) ≡ false) now (λ i. apart i || away i) in
          subst (λ b. IsSent (acts_if b)) (sym unknown) (0, omega arith, ap (λ (z : ActorId). (z.0, system.Watch w)) (sym now))
      by_test same more false other some =
          let later : 0 < watches_in x effects = omega (arith, some) in
          by_known (is_same w y || has watched y) (same later) (more other later)
  sent-effects watched (effect.Unwatch y ∷ effects) apart away some =
      by_test (has watched y) (sent-effects watched effects apart away some)
      (sent-effects (without watched y) effects apart (away-without watched y away) some)
    where
      by_test : (b : Bool) → IsSent (effect_acts w watched effects) → IsSent (effect_acts w (without watched y) effects)
          → IsSent (if b then Sys y (system.Unwatch w) ∷ effect_acts w (without watched y) effects else effect_acts w watched effects)
      by_test true same less = sent-further y (system.Unwatch w) (effect_acts w (without watched y) effects) less
      by_test false same less = same
  sent-effects watched (effect.Stop y ∷ effects) apart away some =
      sent-further y system.Terminate (effect_acts w watched effects) (sent-effects watched effects apart away some)
  sent-effects watched (effect.Spawn y ∷ effects) apart away some =
      sent-further y system.Create (effect_acts w watched effects) (sent-effects watched effects apart away some)

module _ (who : Identity) (gives : Moment → Reply → Type 0) (x : ActorId) (apart : is_same who.this x ≡ false) where
  abbrev Sends : List Act → Type 0
  Sends list = IsSent x who.this list

  module _ (before : List Entry) (lawful : AreLawful who gives before) (away : has (watching who before) x ≡ false) where
    with-effects : (effects : List Effect) (list : List Act) → 0 < watches_in x effects
        → Sends (ResumeSelf ∷ effect_acts who.this (watching who before) effects ++ list)
    with-effects effects list some =
        sent-first x who.this (effect_acts who.this (watching who before) effects) list
        (sent-effects x who.this (watching who before) effects apart away some)

    -- an envelope
    by_body : (b : Body) (a : Option Answer) (effects : List Effect) → IsGiven who gives before (envelope_call b) a effects
        → 0 < watches_in x effects → Sends (envelope_acts who before b a effects)
    by_body (body.User kind value) a effects given some = with-effects effects (failure_acts who before (failure_of (body.User kind value) a) effects) some
    by_body (body.Control kind value) a effects given some =
        with-effects effects (failure_acts who before (failure_of (body.Control kind value) a) effects) some
    by_body (body.Terminated y) a effects given some = with-effects effects (failure_acts who before (failure_of (body.Terminated y) a) effects) some
    by_body body.Kill a effects given some = with-effects effects (failure_acts who before (failure_of body.Kill a) effects) some
    by_body body.PoisonPill a effects given some = nothing x who.this (subst (λ l. 0 < watches_in x l) given.1 some)

    module _ (number : ℕ) (a : Option Answer) (effects : List Effect) (an_actor : is_guardian who ≡ false) where
      -- a restart
      restarted : (c : Cause) → 0 < watches_in x effects → Sends (restart_acts who before c a effects)
      restarted c some =
          with-effects effects (if is_failed a
          then fail_acts who Nobody (children who before ++ spawns_of effects) cause.Init (children who before)
          else to_each (system.Recreate c) (children who before)) some

      by_restart : (m : SysMsg) → is_restart who (System number m (Applied a effects)) before ≡ true → 0 < watches_in x effects
          → Sends (if phase_is (phase who before) Fresh then fresh_acts who before m a effects else system_acts who before m a effects)
      by_restart (system.Recreate c) restarts some =
          let begun = and_parts (true && not (phase_is (phase who before) Fresh)) (not (is_guardian who)) restarts in
          let not_fresh = not-true (phase_is (phase who before) Fresh) begun.0 in
          subst Sends
          (λ i. if sym not_fresh i then [] else (if sym an_actor i then [] else restart_acts who before c a effects))
          (restarted c some)
      by_restart (system.Resume f) restarts some =
          let begun = and_parts (phase_is (phase who before) Broken && not (phase_is (phase who before) Fresh)) (not (is_guardian who)) restarts in
          let broken = broken-true (phase who before)
          (and_parts (phase_is (phase who before) Broken) (not (phase_is (phase who before) Fresh)) begun.0).0 in
          subst Sends
          (λ i. if phase_is (sym broken i) Fresh then [] else (if phase_is (sym broken i) Live then resume_acts who before f
          else (if phase_is (sym broken i) Broken && not (sym an_actor i) then restart_acts who before cause.Init a effects else [])))
          (restarted cause.Init some)
      by_restart system.Create restarts some = absurd (cc restarts)
      by_restart system.Suspend restarts some = absurd (cc restarts)
      by_restart (system.Failed y c) restarts some = absurd (cc restarts)
      by_restart system.Terminate restarts some = absurd (cc restarts)
      by_restart (system.Watch v) restarts some = absurd (cc restarts)
      by_restart (system.Unwatch v) restarts some = absurd (cc restarts)
      by_restart (system.Died y) restarts some = absurd (cc restarts)

      lasting-of : (m : SysMsg) → 0 < watches_in x (lasting_effects (System number m (Applied a effects))) → 0 < watches_in x effects
      lasting-of system.Terminate some = nothing x who.this some
      lasting-of (system.Died y) some = nothing x who.this some
      lasting-of m some = some

    -- the guardian asks for nothing
    none-of-guardian : is_guardian who ≡ true → (a : Option Answer) (effects : List Effect) (call : Option Call)
        → IsGiven who gives before (if is_guardian who then None else call) a effects → effects ≡ []
    none-of-guardian guards a effects call given =
        let nobody : IsGiven who gives before None a effects = subst (λ b. IsGiven who gives before (if b then None else call) a effects) guards given in
        nobody.1

    by-guardian : is_guardian who ≡ true → (e : Entry) → IsLawfulEntry who gives before e → 0 < watches_in x (lasting_effects e)
        → Sends (acts who before e)
    by-guardian guards (Handled envelope reading (Applied a effects)) may some = absurd (let other = may.an_actor in cc (guards, other))
    by-guardian guards (Handled envelope reading SetAside) may some = absurd may
    by-guardian guards (Dropped envelope) may some = nothing x who.this some
    by-guardian guards (System number m SetAside) may some =
        nothing x who.this (subst (λ l. 0 < watches_in x l) (none-lasting_aside number m) some)
    by-guardian guards (System number m (Applied a effects)) may some =
        let none = none-of-guardian guards a effects _ may.1 in
        let lasting : lasting_effects (System number m (Applied a [])) ≡ [] = none-lasting_applied m in
        nothing x who.this (subst (λ l. 0 < watches_in x l) (ap (λ l. lasting_effects (System number m (Applied a l))) none ∙ lasting) some)
      where
        none-lasting_applied : (m : SysMsg) → lasting_effects (System number m (Applied a [])) ≡ []
        none-lasting_applied system.Terminate = refl
        none-lasting_applied (system.Died y) = refl
        none-lasting_applied m = refl

    -- any other actor
    by-actor : is_guardian who ≡ false → (e : Entry) → IsLawfulEntry who gives before e → 0 < watches_in x (lasting_effects e)
        → Sends (acts who before e)
    unfolding acts
    by-actor an_actor (Handled envelope reading (Applied a effects)) may some = by_body envelope.body a effects may.given some
    by-actor an_actor (Handled envelope reading SetAside) may some = absurd may
    by-actor an_actor (Dropped envelope) may some = nothing x who.this some
    by-actor an_actor (System number m SetAside) may some =
        nothing x who.this (subst (λ l. 0 < watches_in x l) (none-lasting_aside number m) some)
    by-actor an_actor (System number m (Applied a effects)) may some = by_start (is_start (System number m (Applied a effects)) before) refl
      where
        by_test : is_start (System number m (Applied a effects)) before ≡ false → (b : Bool)
            → is_restart who (System number m (Applied a effects)) before ≡ b → Sends (acts who before (System number m (Applied a effects)))
        by_test starts true restarts = by_restart number a effects an_actor m restarts (lasting-of number a effects an_actor m some)
        by_test starts false restarts =
            nothing x who.this
            (subst (λ l. 0 < watches_in x l) (none-lasting who gives before number an_actor m a effects starts restarts may.1) some)

        by_start : (b : Bool) → is_start (System number m (Applied a effects)) before ≡ b → Sends (acts who before (System number m (Applied a effects)))
        by_start true starts =
            let create = start-acts who gives x before lawful number a effects m
            (started-fresh who gives x before lawful number a effects m may.0.not_ended starts) in
            subst Sends (sym (create ∙ if_false (is_guardian who) _ _ an_actor))
            (with-effects effects (if is_failed a
            then fail_acts who (failed who before) (children who before ++ spawns_of effects) cause.Init []
            else []) (lasting-of number a effects an_actor m some))
        by_start false starts = by_test starts (is_restart who (System number m (Applied a effects)) before) refl

    sent-by : (e : Entry) → IsLawfulEntry who gives before e → 0 < watches_in x (lasting_effects e) → Sends (acts who before e)
    sent-by e may some = by_kind (is_guardian who) refl
      where
        by_kind : (b : Bool) → is_guardian who ≡ b → Sends (acts who before e)
        by_kind true guards = by-guardian guards e may some
        by_kind false an_actor = by-actor an_actor e may some

  -- who asks to watch has a Watch to send
  pub watch-due : (journal : List Entry) → AreLawful who gives journal → 0 < times_watched x journal
      → Contains (due_in who journal) (x.0, system.Watch who.this)
  unfolding AreLawful
  watch-due [] lawful some = nothing x who.this some
  watch-due (e ∷ before) lawful some = by_count (times_watched x before) refl (watch-due before lawful.1) some
    where
      by_count : (n : ℕ) → times_watched x before ≡ n → (0 < times_watched x before → Contains (due_in who before) (x.0, system.Watch who.this))
          → 0 < n + watches_in x (lasting_effects e)
          → Contains (due_in who before ++ messages_of (acts who (before ++ []) e)) (x.0, system.Watch who.this)
      by_count zero none rest some =
          Contains-append_right (due_in who before) (messages_of (acts who (before ++ []) e)) (x.0, system.Watch who.this)
          (subst (λ l. Sends (acts who l e)) (sym (append-nil before))
          (sent-by before lawful.1 (not-watching x who gives before lawful.1 none) e lawful.0 (omega (arith, some))))
      by_count (suc n) is rest some =
          Contains-append_left (due_in who before) (messages_of (acts who (before ++ []) e)) (x.0, system.Watch who.this) (rest (omega (arith, is)))
