-- To whom the acts of a message go: from the queries of the journal to the newest entry or effect.
use Rattle.std.proofs.Common.{◌≡◌, ℕ, ◌+◌, Bool, true, false, cond, not, ◌&&◌, ◌||◌, List, [], ◌∷◌, length, filter, map, refl, sym, ap, ◌∙◌, subst, arith}
use Rattle.std.specs.Prelude.{if◌then◌else◌, Option, Some, None}
use Rattle.std.proofs.lemmas.List.Sums.{sum_by-cons, length-filter}
use Rattle.std.proofs.lemmas.Bool.Decides.{nat_tests}
use Rattle.mb_msg.specs.declared.id.ActorId.{ActorId}
use Rattle.mb_msg.specs.declared.system.SysMsg.{SysMsg}
use Rattle.mb_msg.specs.declared.system.SysMsg.TheVariants as system
use Rattle.mb_actor.specs.ActorList.{is_same, has}
use Rattle.mb_actor.specs.Behaviour.{Moment, Reply}
use Rattle.mb_actor.specs.declared.answer.Answer.{Answer}
use Rattle.mb_actor.specs.declared.effect.Effect.{Effect}
use Rattle.mb_actor.specs.declared.phase.Phase.TheVariants.{Fresh, Live, Ending, Ended}
use Rattle.mb_journal.specs.ActorList.{without}
use Rattle.mb_journal.specs.Acts.{acts, to_each, terminate_acts}
use Rattle.mb_journal.specs.Acts.Act.{Sys, SuspendSelf, ResumeSelf}
use Rattle.mb_journal.specs.Aside.{sets_aside}
use Rattle.mb_journal.specs.Entry.{Entry, Outcome}
use Rattle.mb_journal.specs.Entry.Entry.{System}
use Rattle.mb_journal.specs.Entry.Outcome.{Applied, SetAside}
use Rattle.mb_journal.specs.Events.{events, is_died_of, watching_says}
use Rattle.mb_journal.specs.Failure.{is_child}
use Rattle.mb_journal.specs.Identity.{Identity}
use Rattle.mb_journal.specs.Lawful.{AreLawful, IsLawful}
use Rattle.mb_journal.specs.Life.{children, closed, is_alone, is_empty, is_terminate, phase}
use Rattle.mb_journal.specs.Newest.{joins, newest, times_in, once_if}
use Rattle.mb_journal.specs.Phase.{phase_is}
use Rattle.mb_journal.specs.Watching.{watchers, watching}
use Rattle.mb_journal.proofs.ChildrenLaw.{children-remain}
use Rattle.mb_journal.proofs.DiedSteps.{died-step, died_last-step}
use Rattle.mb_journal.proofs.FailedLaw.{failed-newest}
use Rattle.mb_journal.proofs.Fold.{Queries, queries, queries-fold}
use Rattle.mb_journal.proofs.Kept.{has-once}
use Rattle.mb_journal.proofs.RemainingLaw.{filter-twice}
use Rattle.mb_journal.proofs.TerminateSteps.{ending-step, ended-step}
use Rattle.mb_journal.proofs.TestLemmas.{and-false, if_false, if_same, if_true}
use Rattle.mb_journal.proofs.WatchersLaw.{watchers-newest, watchers-ordered}
use Rattle.mb_journal.proofs.WatchingLaw.{watching-newest, watching-ordered}
use Rattle.mb_cell.specs.ByNewest.{is_parent, is_watcher, is_watched, parent_first, receivers, is_unwatch_of, ends_told}
use Rattle.mb_cell.specs.ByNewest.{TellsItsEnd, BeginsToEnd, HearsOfEnd, ActsByNewest}
use Rattle.mb_cell.specs.CellView.{CellView, MayTake, TakesSystem, with_entry}
use Rattle.mb_cell.proofs.DiedRow.{died-applied}
use Rattle.mb_cell.proofs.EndingRow.{not-told-to-end}
use Rattle.mb_cell.proofs.ReceiverLemmas.{ending_acts, ending-unwatches, ending-stops, ending-tells, heard_acts, heard-told, heard-tells}

-- ---- how often an actor is in a list

none-left : (list : List ActorId) → length (filter (λ b. false) list) ≡ 0
none-left [] = refl
none-left (x ∷ list) = none-left list

without-times : (x p : ActorId) (list : List ActorId) (s : Bool) → is_same x p ≡ s →
    times_in (without list p) x ≡ (if s then 0 else times_in list x)
without-times x p list s same =
    sym (length-filter (is_same x) (without list p))
    ∙ ap length (filter-twice (is_same x) (λ b. not (is_same p b)) list)
    ∙ left s same
  where
    no_more : is_same x p ≡ true → (b : ActorId) → (not (is_same p b) && is_same x b) ≡ false
    no_more is b = grind (arith, nat_tests, is)

    as_many : is_same x p ≡ false → (b : ActorId) → (not (is_same p b) && is_same x b) ≡ is_same x b
    as_many is b = grind (arith, nat_tests, is)

    left : (s : Bool) → is_same x p ≡ s →
        length (filter (λ b. not (is_same p b) && is_same x b) list) ≡ (if s then 0 else times_in list x)
    left true is = (λ i. length (filter (λ b. no_more is b i) list)) ∙ none-left list
    left false is = (λ i. length (filter (λ b. as_many is b i) list)) ∙ length-filter (is_same x) list

parent-once : (p : Option ActorId) (list : List ActorId) (x : ActorId) (b : Bool) → times_in list x ≡ once_if b →
    times_in (parent_first p list) x ≡ once_if (is_parent p x || b)
parent-once None list x b is = is
parent-once (Some parent) list x b is =
    sum_by-cons (λ z. cond (is_same x z) 1 0) parent (without list parent)
    ∙ ap (λ n. cond (is_same x parent) 1 0 + n) (without-times x parent list (is_same x parent) refl)
    ∙ both (is_same x parent)
  where
    both : (s : Bool) → (cond s 1 0 + (if s then 0 else times_in list x)) ≡ once_if (s || b)
    both true = refl
    both false = let none : 0 + times_in list x ≡ times_in list x = omega arith in none ∙ is

-- ---- the end of the actor

tells-end : (new : CellView) (b : Bool) → closed new.who new.journal ≡ b →
    receivers (is_died_of new.who.this) new.acts ≡ (if b then parent_first new.who.parent (watchers new.journal) else []) → TellsItsEnd new
tells-end new b closed_is told = record {
  each_once = λ x. ap (λ list. times_in list x) now ∙ once x (closed new.who new.journal);
  in_order = now ∙ ap (λ list. if closed new.who new.journal then parent_first new.who.parent list else []) (watchers-ordered new.journal);
}
  where
    now : receivers (is_died_of new.who.this) new.acts
        ≡ (if closed new.who new.journal then parent_first new.who.parent (watchers new.journal) else [])
    now = told ∙ ap (λ c. if c then parent_first new.who.parent (watchers new.journal) else []) (sym closed_is)

    once : (x : ActorId) (c : Bool) →
        times_in (if c then parent_first new.who.parent (watchers new.journal) else []) x
        ≡ (if c then once_if (is_parent new.who.parent x || is_watcher new.journal x) else 0)
    once x true = parent-once new.who.parent (watchers new.journal) x (is_watcher new.journal x) (watchers-newest new.journal x)
    once x false = refl

-- ---- whom the actor watches

watched-once : (who : Identity) (journal : List Entry) (x : ActorId) → times_in (watching who journal) x ≡ once_if (is_watched who journal x)
watched-once who journal x = watching-newest who journal x ∙ by (is_same who.this x)
  where
    by : (s : Bool) →
        (if s then 0 else once_if (joins (newest (watching_says x) (events journal))))
        ≡ once_if (not s && joins (newest (watching_says x) (events journal)))
    by true = refl
    by false = refl

-- ---- a message that is not to wait is applied

not-waiting : (who : Identity) (gives : Moment → Reply → Type 0) (before : List Entry) (number : ℕ) (m : SysMsg) →
    IsLawful who gives (System number m SetAside ∷ before) → sets_aside who before m ≡ false → ⊥
unfolding AreLawful
not-waiting who gives before number m lawful applied =
    let no : false ≡ true = lawful.entries.0.by_rule ∙ ap not applied in cc

module _ (old : CellView) (number : ℕ) (a : Option Answer) (effects : List Effect) where
  abbrev who : Identity
  who = old.who

  abbrev before : List Entry
  before = old.journal

  abbrev entry : SysMsg → Entry
  entry m = System number m (Applied a effects)

  suspend-by_newest : ActsByNewest old (with_entry old (entry system.Suspend)) system.Suspend
  unfolding acts
  suspend-by_newest = λ off_fresh off_ending.
      if_false _ _ _ off_fresh ∙ ap (λ list. SuspendSelf ∷ to_each system.Suspend list) (children-remain who before)

  resume-by_newest : (of_failure : Bool) →
      ActsByNewest old (with_entry old (entry (system.Resume of_failure))) (system.Resume of_failure)
  unfolding acts
  resume-by_newest of_failure = λ live.
      if_false _ _ _ (ap (λ p. phase_is p Fresh) live) ∙ if_true _ _ _ (ap (λ p. phase_is p Live) live)
      ∙ (λ i. ResumeSelf ∷ map (λ x. Sys x (system.Resume (of_failure && is_child (failed-newest who before i) x)))
      (children-remain who before i))

  -- ---- the first Terminate

  module _ (not_ended : closed who before ≡ false) (off_ending : phase_is (phase who before) Ending ≡ false) where
    abbrev ending : CellView
    ending = with_entry old (entry system.Terminate)

    ending-acts : acts who before (entry system.Terminate)
        ≡ ending_acts who (watching who before) (children who before) (watchers before) effects (is_empty (children who before))
    unfolding acts
    ending-acts =
        (λ i. if phase_is (phase who before) Fresh then terminate_acts who before effects
        else (if off_ending i then [] else terminate_acts who before effects))
        ∙ if_same (phase_is (phase who before) Fresh) (terminate_acts who before effects)

    ends : (b : Bool) → is_empty (children who before) ≡ b → closed who (entry system.Terminate ∷ before) ≡ b
    ends true alone =
        ap (λ (q : Queries). phase_is q.phase Ended)
        (queries-fold who before (entry system.Terminate)
        ∙ ended-step who (queries who before) number a effects (not-told-to-end who before off_ending not_ended) alone)
    ends false some =
        ap (λ (q : Queries). phase_is q.phase Ended)
        (queries-fold who before (entry system.Terminate)
        ∙ ending-step who (queries who before) number a effects (not-told-to-end who before off_ending not_ended) some not_ended)

    same_watchers : watchers before ≡ watchers (entry system.Terminate ∷ before)
    unfolding watchers
    same_watchers = refl

    unwatches : receivers (is_unwatch_of who.this) (acts who before (entry system.Terminate)) ≡ watching who before
    unwatches =
        ap (receivers (is_unwatch_of who.this)) ending-acts
        ∙ ending-unwatches who (watching who before) (children who before) (watchers before) effects (is_empty (children who before))

    terminate-by_newest : BeginsToEnd old ending
    terminate-by_newest = record {
      each_once = λ x. ap (λ list. times_in list x) unwatches ∙ watched-once who before x;
      in_order = unwatches ∙ watching-ordered who before;
      stops =
          ap (receivers is_terminate) ending-acts
          ∙ ending-stops who (watching who before) (children who before) (watchers before) effects (is_empty (children who before))
          ∙ children-remain who before;
      tells =
          tells-end ending (is_empty (children who before)) (ends (is_empty (children who before)) refl)
          (ap (receivers (is_died_of who.this)) ending-acts
          ∙ ending-tells who (watching who before) (children who before) (watchers before) effects (is_empty (children who before))
          ∙ ap (λ list. if is_empty (children who before) then parent_first who.parent list else []) same_watchers);
    }

  -- ---- a Died

  module _ (x : ActorId) (not_ended : closed who before ≡ false) (off_fresh : phase_is (phase who before) Fresh ≡ false) where
    abbrev heard : CellView
    heard = with_entry old (entry (system.Died x))

    abbrev last : Bool
    last = phase_is (phase who before) Ending && is_alone (children who before) x

    died-acts : acts who before (entry (system.Died x))
        ≡ heard_acts who x (watchers before) effects (has (watching who before) x) last
    unfolding acts
    died-acts = if_false _ _ _ off_fresh

    closes : (b : Bool) → last ≡ b → closed who (entry (system.Died x) ∷ before) ≡ b
    closes true is =
        ap (λ (q : Queries). phase_is q.phase Ended)
        (queries-fold who before (entry (system.Died x)) ∙ died_last-step who (queries who before) number x a effects is)
    closes false is =
        ap (λ (q : Queries). phase_is q.phase Ended)
        (queries-fold who before (entry (system.Died x)) ∙ died-step who (queries who before) number x a effects is)
        ∙ not_ended

    watched_still : watchers before ≡ watchers (entry (system.Died x) ∷ before)
    unfolding watchers
    watched_still = refl

    died-by_newest : HearsOfEnd old heard x
    died-by_newest = record {
      told =
          ap ends_told died-acts
          ∙ heard-told who x (watchers before) effects (has (watching who before) x) last
          ∙ ap (λ b. if b then x ∷ [] else [])
          (has-once x (watching who before) (is_watched who before x) (watched-once who before x));
      tells =
          tells-end heard last (closes last refl)
          (ap (receivers (is_died_of who.this)) died-acts
          ∙ heard-tells who x (watchers before) effects (has (watching who before) x) last
          ∙ ap (λ list. if last then parent_first who.parent list else []) watched_still);
    }

by_outcome : (old : CellView) (gives : Moment → Reply → Type 0) (number : ℕ) (m : SysMsg) (outcome : Outcome) → closed old.who old.journal ≡ false →
    IsLawful old.who gives (System number m outcome ∷ old.journal) → ActsByNewest old (with_entry old (System number m outcome)) m
by_outcome old gives number system.Create outcome not_ended lawful = tt
by_outcome old gives number (system.Recreate c) outcome not_ended lawful = tt
by_outcome old gives number (system.Failed x c) outcome not_ended lawful = tt
by_outcome old gives number (system.Watch w) outcome not_ended lawful = tt
by_outcome old gives number (system.Unwatch w) outcome not_ended lawful = tt
by_outcome old gives number system.Suspend (Applied a effects) not_ended lawful = suspend-by_newest old number a effects
by_outcome old gives number system.Suspend SetAside not_ended lawful = λ off_fresh off_ending.
    absurd (not-waiting old.who gives old.journal number system.Suspend lawful (ap (λ b. (b && true) || false) off_ending))
by_outcome old gives number (system.Resume of_failure) (Applied a effects) not_ended lawful = resume-by_newest old number a effects of_failure
by_outcome old gives number (system.Resume of_failure) SetAside not_ended lawful = λ live.
    absurd
    (not-waiting old.who gives old.journal number (system.Resume of_failure) lawful (ap (λ p. (phase_is p Ending && true) || false) live))
by_outcome old gives number system.Terminate (Applied a effects) not_ended lawful = λ off_ending.
    terminate-by_newest old number a effects not_ended off_ending
by_outcome old gives number system.Terminate SetAside not_ended lawful = λ off_ending.
    absurd
    (not-waiting old.who gives old.journal number system.Terminate lawful
    (ap (λ b. b || false) (and-false (phase_is (phase old.who old.journal) Ending))))
by_outcome old gives number (system.Died x) (Applied a effects) not_ended lawful = λ off_fresh.
    died-by_newest old number a effects x not_ended off_fresh
by_outcome old gives number (system.Died x) SetAside not_ended lawful = λ off_fresh.
    absurd (not-waiting old.who gives old.journal number (system.Died x) lawful (died-applied old.who old.journal x))

pub system-by_newest : (gives : ℕ → Moment → Reply → Type 0) (old new : CellView) (number : ℕ) (m : SysMsg) → MayTake old number m →
    TakesSystem old new number m → IsLawful new.who (gives new.who.this.0) new.journal → ActsByNewest old new m
system-by_newest gives old new number m may_take took lawful =
    subst (λ (s : CellView). ActsByNewest old s m) (sym took.adds)
    (by_outcome old (gives old.who.this.0) number m took.outcome may_take.not_ended
    (subst (λ (s : CellView). IsLawful s.who (gives s.who.this.0) s.journal) took.adds lawful))
