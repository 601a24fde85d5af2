-- The messages of an actor that was never restarted are all that it handled.
use Rattle.std.proofs.Common.{◌≡◌, ℕ, Bool, true, false, cond, List, [], ◌∷◌, ◌++◌, refl, sym, ap, subst, arith, count_by}
use Rattle.std.specs.Prelude.{not, ◌&&◌, ◌||◌, if◌then◌else◌, Option, Some, None, IsSome}
use Rattle.std.proofs.lemmas.List.Sums.{sum_by-cons}
use Rattle.mb_actor.specs.Behaviour.{Moment, Reply}
use Rattle.mb_actor.specs.declared.answer.Answer.{Answer}
use Rattle.mb_actor.specs.declared.call.Call.TheVariants.{Restart, Start, Stop}
use Rattle.mb_actor.specs.declared.effect.Effect.{Effect}
use Rattle.mb_journal.proofs.PhaseLemmas.{started-live}
use Rattle.mb_journal.specs.Effects.{applies}
use Rattle.mb_journal.specs.Entry.{Entry}
use Rattle.mb_journal.specs.Entry.Entry.{Dropped, Handled, System}
use Rattle.mb_journal.specs.Entry.Outcome.{Applied, SetAside}
use Rattle.mb_journal.specs.Identity.{Identity, is_guardian}
use Rattle.mb_journal.specs.Incarnation.{entry_messages, messages}
use Rattle.mb_journal.specs.Lawful.{AreLawful, IsGiven, IsLawfulEntry, call_of, restart_cause, was_live}
use Rattle.mb_journal.specs.Life.{has_start, is_beginning, is_create, is_last, is_restart, is_start}
use Rattle.mb_msg.specs.declared.system.SysMsg.{SysMsg}
use Rattle.mb_msg.specs.declared.system.SysMsg.TheVariants as system
use Rattle.mb_journal.specs.Counts.{tells_of_restart}
use Rattle.heddleorange.specs.Reading.{handled_messages}

or-false : (a b : Bool) → (a || b) ≡ false → (a ≡ false) × (b ≡ false)
or-false true b none = absurd (cc)
or-false false b none = (refl, none)

module _ (who : Identity) (gives : Moment → Reply → Type 0) where
  -- an actor that was not started handled nothing
  nothing-before : (journal : List Entry) → AreLawful who gives journal → has_start journal ≡ false → handled_messages journal ≡ []
  unfolding AreLawful has_start
  nothing-before [] lawful never = refl
  nothing-before (Handled envelope reading (Applied a effects) ∷ before) lawful never =
      absurd (let started = started-live who before lawful.0.live in cc (started, never))
  nothing-before (Handled envelope reading SetAside ∷ before) lawful never = absurd lawful.0
  nothing-before (System number m outcome ∷ before) lawful never =
      ap (λ l. l ++ []) (nothing-before before lawful.1 (or-false (applies is_create (System number m outcome)) (has_start before) never).1)
  nothing-before (Dropped envelope ∷ before) lawful never = ap (λ l. l ++ []) (nothing-before before lawful.1 never)

  restart-told : (before : List Entry) (number : ℕ) (m : SysMsg) (a : Option Answer) (effects : List Effect)
      → is_restart who (System number m (Applied a effects)) before ≡ true → IsSome a → tells_of_restart (System number m (Applied a effects)) ≡ true
  restart-told before number m None effects restarts some = absurd (cc some)
  restart-told before number (system.Recreate c) (Some answer) effects restarts some = refl
  restart-told before number (system.Resume f) (Some answer) effects restarts some = refl
  restart-told before number system.Create (Some answer) effects restarts some = absurd (cc restarts)
  restart-told before number system.Suspend (Some answer) effects restarts some = absurd (cc restarts)
  restart-told before number system.Terminate (Some answer) effects restarts some = absurd (cc restarts)
  restart-told before number (system.Watch w) (Some answer) effects restarts some = absurd (cc restarts)
  restart-told before number (system.Unwatch w) (Some answer) effects restarts some = absurd (cc restarts)
  restart-told before number (system.Failed x c) (Some answer) effects restarts some = absurd (cc restarts)
  restart-told before number (system.Died x) (Some answer) effects restarts some = absurd (cc restarts)

  none-aside : (before : List Entry) (number : ℕ) (m : SysMsg) → is_beginning who (System number m SetAside) before ≡ true → ⊥
  none-aside before number system.Create begins = cc begins
  none-aside before number (system.Recreate c) begins = cc begins
  none-aside before number system.Suspend begins = cc begins
  none-aside before number (system.Resume f) begins = cc begins
  none-aside before number system.Terminate begins = cc begins
  none-aside before number (system.Watch w) begins = cc begins
  none-aside before number (system.Unwatch w) begins = cc begins
  none-aside before number (system.Failed x c) begins = cc begins
  none-aside before number (system.Died x) begins = cc begins

  module _ (an_actor : is_guardian who ≡ false) where
    answered : (before : List Entry) (number : ℕ) (m : SysMsg) (a : Option Answer) (effects : List Effect)
        → IsGiven who gives before (call_of who before (System number m (Applied a effects))) a effects
        → is_start (System number m (Applied a effects)) before ≡ false → is_restart who (System number m (Applied a effects)) before ≡ true → IsSome a
    answered before number m a effects given starts restarts =
        let e : Entry = System number m (Applied a effects) in
        let call : call_of who before e ≡ Some (Restart (restart_cause m)) =
        (λ i. if an_actor i then None
        else (if starts i then Some Start
        else (if restarts i then Some (Restart (restart_cause m))
        else (if is_last who e before && was_live who (e ∷ before) then Some Stop
        else None)))) in
        (subst (λ c. IsGiven who gives before c a effects) call given).answered

    begins-with-nothing : (before : List Entry) (e : Entry) → IsLawfulEntry who gives before e → AreLawful who gives before
        → tells_of_restart e ≡ false → is_beginning who e before ≡ true → handled_messages (e ∷ before) ≡ []
    begins-with-nothing before (Handled envelope reading outcome) lawful all untold begins = absurd (cc begins)
    begins-with-nothing before (Dropped envelope) lawful all untold begins = absurd (cc begins)
    begins-with-nothing before (System number m SetAside) lawful all untold begins = absurd (none-aside before number m begins)
    begins-with-nothing before (System number m (Applied a effects)) lawful all untold begins =
        by_start (is_start (System number m (Applied a effects)) before) refl
      where
        first : (b c : Bool) → (b && not c) ≡ true → c ≡ false
        first true true both = absurd (cc both)
        first true false both = refl
        first false c both = absurd (cc both)

        second : (b c : Bool) → (b || c) ≡ true → b ≡ false → c ≡ true
        second true c either one = absurd (cc one)
        second false c either one = either

        by_start : (b : Bool) → is_start (System number m (Applied a effects)) before ≡ b → handled_messages before ++ [] ≡ []
        by_start true starts =
            ap (λ l. l ++ []) (nothing-before before all
            (first (applies is_create (System number m (Applied a effects))) (has_start before) starts))
        by_start false starts =
            let restarts = second (is_start (System number m (Applied a effects)) before) (is_restart who (System number m (Applied a effects)) before)
            begins starts in
            let told = restart-told before number m a effects restarts (answered before number m a effects lawful.1 starts restarts) in
            absurd (cc (told, untold))

    -- an actor that was not restarted has the content of all that it handled
    pub all-handled : (journal : List Entry) → AreLawful who gives journal → count_by tells_of_restart journal ≡ 0
        → messages who journal ≡ handled_messages journal
    unfolding AreLawful messages
    all-handled [] lawful none = refl
    all-handled (e ∷ before) lawful none =
        let count = sum_by-cons (λ x. cond (tells_of_restart x) 1 0) e before in
        let rest = all-handled before lawful.1 (omega (arith, count, none)) in
        by_test (is_beginning who e before) refl rest (untold (tells_of_restart e) (omega (arith, count, none)))
      where
        untold : (b : Bool) → cond {A = ℕ} b 1 0 ≡ 0 → b ≡ false
        untold true one = absurd (omega (arith, one))
        untold false one = refl

        by_test : (b : Bool) → is_beginning who e before ≡ b → messages who before ≡ handled_messages before → tells_of_restart e ≡ false
            → (if b then [] else messages who before ++ entry_messages e) ≡ handled_messages before ++ entry_messages e
        by_test true begins rest told = sym (begins-with-nothing before e lawful.0 lawful.1 told begins)
        by_test false begins rest told = ap (λ l. l ++ entry_messages e) rest
