-- Whoever's Watch came to an actor, and no Unwatch, is among those that watch it.
use Rattle.std.proofs.Common.{◌≡◌, ◌==◌, ◌⊎◌, inl, inr, ℕ, Bool, true, false, List, [], ◌∷◌, ◌++◌, ap, arith, cond, refl, subst, sym, ◌∙◌}
use Rattle.std.specs.Prelude.{not, ◌||◌, if◌then◌else◌, Contains}
use Rattle.std.proofs.lemmas.Bool.{eq-eqb}
use Rattle.mb_actor.specs.ActorList.{has, is_same}
use Rattle.mb_actor.specs.Behaviour.{Moment, Reply}
use Rattle.mb_actor.specs.declared.phase.Phase.TheVariants.{Ending}
use Rattle.mb_ghost.specs.Summed.{total}
use Rattle.mb_journal.proofs.TestLemmas.{and-false}
use Rattle.mb_journal.specs.ActorList.{joined, without}
use Rattle.mb_journal.specs.Aside.{sets_aside}
use Rattle.mb_journal.specs.Entry.{Entry, Outcome}
use Rattle.mb_journal.specs.Entry.Entry.{Dropped, Handled, System}
use Rattle.mb_journal.specs.Entry.Outcome.{Applied, SetAside}
use Rattle.mb_journal.specs.Identity.{Identity}
use Rattle.mb_journal.specs.Lawful.{AreLawful, IsLawfulEntry}
use Rattle.mb_journal.specs.Life.{phase}
use Rattle.mb_journal.specs.Phase.{phase_is}
use Rattle.mb_journal.specs.Watching.{watchers}
use Rattle.mb_msg.specs.declared.id.ActorId.{ActorId}
use Rattle.mb_msg.specs.declared.system.SysMsg.{SysMsg}
use Rattle.mb_msg.specs.declared.system.SysMsg.TheVariants as system
use Rattle.heddleorange.specs.Arrived.{entered}
use Rattle.heddleorange.proofs.Came.{first_or_further}
use Rattle.heddleorange.proofs.Unwatches.{unwatch_by}

module _ (w : ActorId) where
  stays-push : (list : List ActorId) (y : ActorId) → has list w ≡ true → has (list ++ y ∷ []) w ≡ true
  stays-push [] y is = absurd (cc is)
  stays-push (z ∷ list) y is = by_test (is_same w z) (stays-push list y) is
    where
      by_test : (b : Bool) → (has list w ≡ true → has (list ++ y ∷ []) w ≡ true) → (b || has list w) ≡ true → (b || has (list ++ y ∷ []) w) ≡ true
      by_test true rest is = refl
      by_test false rest is = rest is

  stays-joined : (list : List ActorId) (y : ActorId) → has list w ≡ true → has (joined list y) w ≡ true
  stays-joined list y is = by_test (has list y)
    where
      by_test : (b : Bool) → has (if b then list else list ++ y ∷ []) w ≡ true
      by_test true = is
      by_test false = stays-push list y is

  last-there : (list : List ActorId) → has (list ++ w ∷ []) w ≡ true
  last-there [] = λ i. eq-eqb w.0 w.0 refl i || false
  last-there (z ∷ list) = by_test (is_same w z) (last-there list)
    where
      by_test : (b : Bool) → has (list ++ w ∷ []) w ≡ true → (b || has (list ++ w ∷ []) w) ≡ true
      by_test true rest = refl
      by_test false rest = rest

  joins : (list : List ActorId) → has (joined list w) w ≡ true
  joins list = by_test (has list w) refl
    where
      by_test : (b : Bool) → has list w ≡ b → has (if b then list else list ++ w ∷ []) w ≡ true
      by_test true there = there
      by_test false away = last-there list

  stays-without : (list : List ActorId) (y : ActorId) → (y.0 == w.0) ≡ false → has list w ≡ true → has (without list y) w ≡ true
  stays-without [] y other is = absurd (cc is)
  stays-without (z ∷ list) y other is =
      by_tests (is_same y z) refl (is_same w z) refl (stays-without list y other) is
    where
      differ : {A : Type 0} {b : Bool} → b ≡ true → b ≡ false → A
      differ is isnt = absurd (let e : true ≡ false = sym is ∙ isnt in cc e)

      same-number : (y.0 == z.0) ≡ true → (w.0 == z.0) ≡ true → (y.0 == w.0) ≡ true
      same-number first second = grind (arith, first, second)

      by_tests : (gone : Bool) → is_same y z ≡ gone → (same : Bool) → is_same w z ≡ same → (has list w ≡ true → has (without list y) w ≡ true)
          → (same || has list w) ≡ true → has (cond (not gone) (z ∷ without list y) (without list y)) w ≡ true
      by_tests true gone true same rest is = differ (same-number gone same) other
      by_tests true gone false same rest is = rest is
      by_tests false kept true same rest is = λ i. same i || has (without list y) w
      by_tests false kept false same rest is = (λ i. same i || has (without list y) w) ∙ rest is

  -- a Watch is never set aside
  sets_aside-watch : (who : Identity) (before : List Entry) → sets_aside who before (system.Watch w) ≡ false
  sets_aside-watch who before = ap (λ b. b || false) (and-false (phase_is (phase who before) Ending))

  module _ (who : Identity) (gives : Moment → Reply → Type 0) where
    -- who watches stays, unless its Unwatch is applied
    stays : (number : ℕ) (m : SysMsg) (outcome : Outcome) (before : List Entry) → unwatch_by w.0 m ≡ 0 → has (watchers before) w ≡ true
        → has (watchers (System number m outcome ∷ before)) w ≡ true
    unfolding watchers
    stays number (system.Watch v) (Applied a effects) before none is = stays-joined (watchers before) v is
    stays number (system.Unwatch v) (Applied a effects) before none is =
        by_test (v.0 == w.0) refl none
      where
        by_test : (b : Bool) → (v.0 == w.0) ≡ b → ◌≡◌ {A = ℕ} (if b then 1 else 0) 0 → has (without (watchers before) v) w ≡ true
        by_test true same none = absurd (omega (arith, none))
        by_test false other none = stays-without (watchers before) v other is
    stays number (system.Watch v) SetAside before none is = is
    stays number (system.Unwatch v) SetAside before none is = is
    stays number system.Create outcome before none is = is
    stays number system.Suspend outcome before none is = is
    stays number (system.Resume f) outcome before none is = is
    stays number (system.Recreate c) outcome before none is = is
    stays number (system.Failed y c) outcome before none is = is
    stays number system.Terminate outcome before none is = is
    stays number (system.Died y) outcome before none is = is

    joins-now : (number : ℕ) (outcome : Outcome) (before : List Entry) → IsLawfulEntry who gives before (System number (system.Watch w) outcome)
        → has (watchers (System number (system.Watch w) outcome ∷ before)) w ≡ true
    unfolding watchers
    joins-now number (Applied a effects) before lawful = joins (watchers before)
    joins-now number SetAside before lawful =
        absurd (let no : false ≡ true = lawful.by_rule ∙ ap not (sets_aside-watch who before) in cc no)

    pub watches-it : (journal : List Entry) → AreLawful who gives journal → total (unwatch_by w.0) (entered journal) ≡ 0
        → Contains (entered journal) (system.Watch w) → has (watchers journal) w ≡ true
    unfolding AreLawful watchers
    watches-it [] lawful none is = absurd (let lt = is.1 in omega (arith, lt))
    watches-it (Handled envelope reading outcome ∷ before) lawful none is = watches-it before lawful.1 none is
    watches-it (Dropped envelope ∷ before) lawful none is = watches-it before lawful.1 none is
    watches-it (System number m outcome ∷ before) lawful none is =
        by_first (watches-it before lawful.1 (omega (arith, none))) (first_or_further m (entered before) (system.Watch w) is)
      where
        by_first : (Contains (entered before) (system.Watch w) → has (watchers before) w ≡ true)
            → (m ≡ system.Watch w) ⊎ Contains (entered before) (system.Watch w) → has (watchers (System number m outcome ∷ before)) w ≡ true
        by_first rest (inl now) =
            subst (λ n. has (watchers (System number n outcome ∷ before)) w ≡ true) (sym now)
            (joins-now number outcome before (subst (λ n. IsLawfulEntry who gives before (System number n outcome)) now lawful.0))
        by_first rest (inr more) = stays number m outcome before (omega (arith, none)) (rest more)
