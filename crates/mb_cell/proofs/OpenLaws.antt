-- An open mailbox is a Live actor's: an actor in any other phase is suspended at least once, until it has ended. And an entry
-- suspends at most once.
use Rattle.std.proofs.Common.{◌≡◌, ℕ, ◌+◌, ◌-◌, ◌≤◌, List, [], ◌∷◌, ◌++◌, length, Bool, true, false, refl, ap, sym, ◌∙◌, subst, arith}
use Rattle.std.specs.Prelude.{nat_lt, not, ◌&&◌, ◌||◌, if◌then◌else◌}
use Rattle.mb_msg.specs.declared.system.SysMsg.{SysMsg}
use Rattle.mb_msg.specs.declared.system.SysMsg.TheVariants as system
use Rattle.mb_actor.specs.Behaviour.{Moment, Reply}
use Rattle.mb_actor.specs.declared.phase.Phase.{Phase}
use Rattle.mb_actor.specs.declared.phase.Phase.TheVariants.{Fresh, Live, Broken, Ending, Ended}
use Rattle.mb_journal.specs.Aside.{waits_for_the_end, is_child_failure}
use Rattle.mb_journal.specs.Effects.{applies}
use Rattle.mb_journal.specs.Entry.{Entry, Outcome, is_applied, answered_failed}
use Rattle.mb_journal.specs.Entry.Entry.{Handled, System, Dropped}
use Rattle.mb_journal.specs.Failure.{is_nobody, fails_by_envelope}
use Rattle.mb_journal.specs.Identity.{Identity, is_guardian}
use Rattle.mb_journal.specs.Lawful.{AreLawful, IsSystem, IsLawfulEntry}
use Rattle.mb_journal.specs.Entry.Outcome.{Applied, SetAside}
use Rattle.mb_journal.specs.Life.{phase, closed, is_create, is_recreate, is_resume}
use Rattle.mb_journal.specs.Phase.{phase_is}
use Rattle.mb_journal.specs.Suspension.{Mark, mark_if, marks, count, count_after, is_suspend}
use Rattle.mb_journal.specs.Suspension.Mark.{Plus, Minus}
use Rattle.mb_journal.proofs.CountLemmas.{running, count_after-running}
use Rattle.mb_journal.proofs.Fold.{Queries, queries, queries-fold, marked-fold, marks_on, phase_on}
use Rattle.mb_journal.proofs.Fold.{starts, ends, lasts, restarts, fails, escalates, off_fresh}
use Rattle.mb_journal.proofs.TestLemmas.{and-false}
use Rattle.mb_cell.proofs.StartLemmas.{started-once}
use Rattle.mb_cell.proofs.GuardianLemmas.{broken-actor}

-- the marks that an entry can have
abbrev five : (a b c d e : Bool) → List Mark
five a b c d e = mark_if a Minus ++ mark_if b Plus ++ mark_if c Minus ++ mark_if d Plus ++ mark_if e Plus

-- those that take none away
grows : (n : ℕ) (b d e : Bool) → n ≤ running n (five false b false d e)
grows n true true true = omega arith
grows n true true false = omega arith
grows n true false true = omega arith
grows n true false false = omega arith
grows n false true true = omega arith
grows n false true false = omega arith
grows n false false true = omega arith
grows n false false false = omega arith

-- those that end with one that adds one
after_failure : (n : ℕ) (a b c e : Bool) → 1 ≤ running n (five a b c true e)
after_failure n a b c e = first n a
  where
    last : (k : ℕ) (e : Bool) → 1 ≤ running k (mark_if true Plus ++ mark_if e Plus)
    last k true = omega arith
    last k false = omega arith

    third : (k : ℕ) (c : Bool) → 1 ≤ running k (mark_if c Minus ++ mark_if true Plus ++ mark_if e Plus)
    third k true = last (k - 1) e
    third k false = last k e

    second : (k : ℕ) (b : Bool) → 1 ≤ running k (mark_if b Plus ++ mark_if c Minus ++ mark_if true Plus ++ mark_if e Plus)
    second k true = third (k + 1) c
    second k false = third k c

    first : (k : ℕ) (a : Bool) → 1 ≤ running k (five a b c true e)
    first k true = second (k - 1) b
    first k false = second k b

after_ending : (n : ℕ) (a b c d : Bool) → 1 ≤ running n (five a b c d true)
after_ending n a b c d = first n a
  where
    last : (k : ℕ) (d : Bool) → 1 ≤ running k (mark_if d Plus ++ mark_if true Plus)
    last k true = omega arith
    last k false = omega arith

    third : (k : ℕ) (c : Bool) → 1 ≤ running k (mark_if c Minus ++ mark_if d Plus ++ mark_if true Plus)
    third k true = last (k - 1) d
    third k false = last k d

    second : (k : ℕ) (b : Bool) → 1 ≤ running k (mark_if b Plus ++ mark_if c Minus ++ mark_if d Plus ++ mark_if true Plus)
    second k true = third (k + 1) c
    second k false = third k c

    first : (k : ℕ) (a : Bool) → 1 ≤ running k (five a b c d true)
    first k true = second (k - 1) b
    first k false = second k b

-- what is said of a count in each phase
abbrev pub Holds : Phase → ℕ → Type 0
Holds Live n = Unit {0}
Holds Ended n = Unit {0}
Holds _ n = 1 ≤ n

abbrev next_phase : (p : Phase) (begins restart ending last failed : Bool) → Phase
next_phase p begins restart ending last failed =
    if phase_is p Ended || last then Ended
    else (if phase_is p Ending || ending then Ending
    else (if begins || restart then (if failed then Broken else Live)
    else p))

-- one entry more, by what the entry is
module _ (n : ℕ) (b c d : Bool) where
  abbrev after : (begins ending last : Bool) → ℕ
  after begins ending last = running n (five begins b c d (ending && not last))

  begun : (failed begins ending last : Bool) → (failed ≡ true → d ≡ true) →
      Holds (if failed then Broken else Live) (after begins ending last)
  begun true begins ending last fails =
      subst (λ f. 1 ≤ running n (five begins b c f (ending && not last))) (sym (fails refl)) (after_failure n begins b c (ending && not last))
  begun false begins ending last fails = tt

  kept : 1 ≤ n → c ≡ false → 1 ≤ after false false false
  kept some none =
      subst (λ f. 1 ≤ running n (five false b f d false)) (sym none) (omega (arith, grows n b d false))

  holds-step : (p : Phase) (begins restart ending last failed : Bool) → Holds p n →
      (phase_is p Live ≡ false → phase_is p Ending ≡ false → restart ≡ false → c ≡ false) →
      (phase_is p Ending ≡ true → (begins ≡ false) × (c ≡ false)) →
      ((begins || restart) ≡ true → failed ≡ true → d ≡ true) →
      Holds (next_phase p begins restart ending last failed) (after begins ending last)
  holds-step Ended begins restart ending last failed some still end fails = tt
  holds-step Fresh begins restart ending true failed some still end fails = tt
  holds-step Live begins restart ending true failed some still end fails = tt
  holds-step Broken begins restart ending true failed some still end fails = tt
  holds-step Ending begins restart ending true failed some still end fails = tt
  holds-step Ending begins restart ending false failed some still end fails =
      subst (λ f. 1 ≤ running n (five f b c d (ending && true))) (sym (end refl).0)
      (subst (λ f. 1 ≤ running n (five false b f d (ending && true))) (sym (end refl).1) (omega (arith, grows n b d (ending && true))))
  holds-step Fresh begins restart true false failed some still end fails = after_ending n begins b c d
  holds-step Live begins restart true false failed some still end fails = after_ending n begins b c d
  holds-step Broken begins restart true false failed some still end fails = after_ending n begins b c d
  holds-step Fresh true restart false false failed some still end fails = begun failed true false false (fails refl)
  holds-step Live true restart false false failed some still end fails = begun failed true false false (fails refl)
  holds-step Broken true restart false false failed some still end fails = begun failed true false false (fails refl)
  holds-step Fresh false true false false failed some still end fails = begun failed false false false (fails refl)
  holds-step Live false true false false failed some still end fails = begun failed false false false (fails refl)
  holds-step Broken false true false false failed some still end fails = begun failed false false false (fails refl)
  holds-step Fresh false false false false failed some still end fails = kept some (still refl refl refl)
  holds-step Live false false false false failed some still end fails = tt
  holds-step Broken false false false false failed some still end fails = kept some (still refl refl refl)

-- ---- what the entries of a lawful journal are

-- what takes a suspension away restarts, off Live and Ending
takes_away : (p : Phase) (resume recreate guardian : Bool) → (p ≡ Broken → guardian ≡ false) →
    phase_is p Live ≡ false → phase_is p Ending ≡ false →
    ((recreate || (resume && phase_is p Broken)) && not (phase_is p Fresh) && not guardian) ≡ false → phase_is p Ended ≡ false →
    ((resume && not (phase_is p Fresh)) || ((recreate || (resume && phase_is p Broken)) && not (phase_is p Fresh) && not guardian)) ≡ false
takes_away Fresh true true guardian actor live ending none ended = refl
takes_away Fresh true false guardian actor live ending none ended = refl
takes_away Fresh false true guardian actor live ending none ended = refl
takes_away Fresh false false guardian actor live ending none ended = refl
takes_away Live resume recreate guardian actor live ending none ended = cc
takes_away Ending resume recreate guardian actor live ending none ended = cc
takes_away Ended resume recreate guardian actor live ending none ended = cc
takes_away Broken false recreate guardian actor live ending none ended = none
takes_away Broken true true true actor live ending none ended = let never = actor refl in cc
takes_away Broken true false true actor live ending none ended = let never = actor refl in cc
takes_away Broken true true false actor live ending none ended = cc
takes_away Broken true false false actor live ending none ended = cc

-- a message that waits for the end is not applied while Ending
waits : (who : Identity) (before : List Entry) (number : ℕ) (m : SysMsg) (outcome : Outcome) → IsSystem who before number m outcome →
    phase who before ≡ Ending → waits_for_the_end m ≡ true → is_applied outcome ≡ false
waits who before number m outcome due ending waiting =
    due.by_rule
    ∙ (λ i. not ((phase_is (ending i) Ending && waiting i)
    || (is_child_failure m && not (phase_is (phase who before) Fresh) && nat_lt 0 (count who before))))

module _ (who : Identity) (gives : Moment → Reply → Type 0) (before : List Entry) where
  abbrev q : Queries
  q = queries who before

  no_resume : (e : Entry) → IsLawfulEntry who gives before e → phase who before ≡ Ending → applies is_resume e ≡ false
  no_resume (Handled envelope reading outcome) lawful ending = refl
  no_resume (Dropped envelope) lawful ending = refl
  no_resume (System number m (Applied a effects)) lawful ending = by_message m lawful.0
    where
      by_message : (m : SysMsg) → IsSystem who before number m (Applied a effects) → (is_resume m && true) ≡ false
      by_message (system.Resume f) due = let not_applied = waits who before number (system.Resume f) (Applied a effects) due ending refl in cc
      by_message system.Create due = refl
      by_message (system.Recreate c) due = refl
      by_message system.Suspend due = refl
      by_message system.Terminate due = refl
      by_message (system.Watch w) due = refl
      by_message (system.Unwatch w) due = refl
      by_message (system.Failed x c) due = refl
      by_message (system.Died x) due = refl
  no_resume (System number m SetAside) lawful ending = and-false (is_resume m)

  no_recreate : (e : Entry) → IsLawfulEntry who gives before e → phase who before ≡ Ending → applies is_recreate e ≡ false
  no_recreate (Handled envelope reading outcome) lawful ending = refl
  no_recreate (Dropped envelope) lawful ending = refl
  no_recreate (System number m (Applied a effects)) lawful ending = by_message m lawful.0
    where
      by_message : (m : SysMsg) → IsSystem who before number m (Applied a effects) → (is_recreate m && true) ≡ false
      by_message (system.Recreate c) due = let not_applied = waits who before number (system.Recreate c) (Applied a effects) due ending refl in cc
      by_message system.Create due = refl
      by_message (system.Resume f) due = refl
      by_message system.Suspend due = refl
      by_message system.Terminate due = refl
      by_message (system.Watch w) due = refl
      by_message (system.Unwatch w) due = refl
      by_message (system.Failed x c) due = refl
      by_message (system.Died x) due = refl
  no_recreate (System number m SetAside) lawful ending = and-false (is_recreate m)

  not_ended : (e : Entry) → IsLawfulEntry who gives before e → closed who before ≡ false
  not_ended (Handled envelope reading (Applied a effects)) lawful = ap (λ p. phase_is p Ended) lawful.live
  not_ended (Handled envelope reading SetAside) lawful = absurd lawful
  not_ended (Dropped envelope) lawful = ap (λ p. phase_is p Ended) lawful.live
  not_ended (System number m (Applied a effects)) lawful = lawful.0.not_ended
  not_ended (System number m SetAside) lawful = lawful.not_ended

  ending-of : (p : Phase) → phase_is p Ending ≡ true → p ≡ Ending
  ending-of Ending is = refl
  ending-of Fresh is = cc
  ending-of Live is = cc
  ending-of Broken is = cc
  ending-of Ended is = cc

  holds-more : (e : Entry) → IsLawfulEntry who gives before e → AreLawful who gives before →
      Holds (phase who before) (count_after (marks who before)) →
      Holds (phase_on who q e) (running (count_after (marks who before)) (marks_on who q e))
  holds-more e entry lawful some =
      holds-step (count_after (marks who before)) (off_fresh is_suspend q e) (off_fresh is_resume q e || restarts who q e) (fails who q e)
      (phase who before) (starts q e) (restarts who q e) (ends q e) (lasts q e) (answered_failed e) some still at_end failing
    where
      still : phase_is (phase who before) Live ≡ false → phase_is (phase who before) Ending ≡ false → restarts who q e ≡ false →
          (off_fresh is_resume q e || restarts who q e) ≡ false
      still live ending none =
          takes_away (phase who before) (applies is_resume e) (applies is_recreate e) (is_guardian who) (broken-actor who gives before lawful)
          live ending none (not_ended e entry)

      at_end : phase_is (phase who before) Ending ≡ true → (starts q e ≡ false) × ((off_fresh is_resume q e || restarts who q e) ≡ false)
      at_end is =
          let here = ending-of (phase who before) is in
          let off_fresh_now = ap (λ p. phase_is p Fresh) here in
          let started = started-once who gives before lawful off_fresh_now (not_ended e entry) in (
            ap (λ s. applies is_create e && not s) started ∙ and-false (applies is_create e),
            (λ i. (no_resume e entry here i && not (phase_is (phase who before) Fresh))
                || ((no_recreate e entry here i || (no_resume e entry here i && phase_is (phase who before) Broken))
                && not (phase_is (phase who before) Fresh) && not (is_guardian who))),
          )

      failing : (starts q e || restarts who q e) ≡ true → answered_failed e ≡ true → fails who q e ≡ true
      failing begins failed =
          λ i. (begins i && failed i) || (is_nobody q.failed && (fails_by_envelope e || escalates who q e))

pub holds : (who : Identity) (gives : Moment → Reply → Type 0) (journal : List Entry) → AreLawful who gives journal →
    Holds (phase who journal) (count_after (marks who journal))
unfolding AreLawful phase marks
holds who gives [] lawful = omega (arith, count_after-running [])
holds who gives (e ∷ before) lawful =
    subst (λ n. Holds (phase who (e ∷ before)) n) (sym (marked-fold who before e))
    (subst (λ p. Holds p (running (count_after (marks who before)) (marks_on who (queries who before) e)))
    (sym (ap (λ (s : Queries). s.phase) (queries-fold who before e)))
    (holds-more who gives before e lawful.0 lawful.1 (holds who gives before lawful.1)))

-- an actor whose mailbox is neither suspended nor closed is Live
pub open-live : (who : Identity) (gives : Moment → Reply → Type 0) (journal : List Entry) → AreLawful who gives journal →
    count who journal ≡ 0 → closed who journal ≡ false → phase who journal ≡ Live
unfolding count
open-live who gives journal lawful none not_closed =
    by (phase who journal) not_closed (holds who gives journal lawful)
    (sym (ap (λ b. if b then 0 else count_after (marks who journal)) not_closed) ∙ none)
  where
    by : (p : Phase) → phase_is p Ended ≡ false → Holds p (count_after (marks who journal)) → count_after (marks who journal) ≡ 0 → p ≡ Live
    by Live ended some zero = refl
    by Fresh ended some zero = absurd (omega (arith, zero))
    by Broken ended some zero = absurd (omega (arith, zero))
    by Ending ended some zero = absurd (omega (arith, zero))
    by Ended ended some zero = cc

-- ---- an entry suspends at most once

one_failure : (n : ℕ) (a c d : Bool) → running n (five a false c d false) ≤ n + 1
one_failure n true true true = omega arith
one_failure n true true false = omega arith
one_failure n true false true = omega arith
one_failure n true false false = omega arith
one_failure n false true true = omega arith
one_failure n false true false = omega arith
one_failure n false false true = omega arith
one_failure n false false false = omega arith

one_suspend : (n : ℕ) (b d : Bool) → d ≡ false → running n (five false b false d false) ≤ n + 1
one_suspend n true true unfailed = cc
one_suspend n false true unfailed = cc
one_suspend n true false unfailed = omega arith
one_suspend n false false unfailed = omega arith

one_ending : (n : ℕ) (d e : Bool) → d ≡ false → running n (five false false false d e) ≤ n + 1
one_ending n true true unfailed = cc
one_ending n true false unfailed = cc
one_ending n false true unfailed = omega arith
one_ending n false false unfailed = omega arith

module _ (who : Identity) (q : Queries) (n : ℕ) where
  one_of : (e : Entry) →
      running n (five (starts q e) false (off_fresh is_resume q e || restarts who q e) (fails who q e) false) ≤ n + 1
  one_of e = one_failure n (starts q e) (off_fresh is_resume q e || restarts who q e) (fails who q e)

  few-marks : (e : Entry) → running n (marks_on who q e) ≤ n + 1
  few-marks (Handled envelope reading outcome) = one_of (Handled envelope reading outcome)
  few-marks (Dropped envelope) = one_of (Dropped envelope)
  few-marks (System number system.Create outcome) = one_of (System number system.Create outcome)
  few-marks (System number (system.Recreate c) outcome) = one_of (System number (system.Recreate c) outcome)
  few-marks (System number system.Suspend outcome) =
      one_suspend n (off_fresh is_suspend q (System number system.Suspend outcome)) (fails who q (System number system.Suspend outcome))
      (and-false (is_nobody q.failed))
  few-marks (System number (system.Resume f) outcome) = one_of (System number (system.Resume f) outcome)
  few-marks (System number system.Terminate outcome) =
      let e : Entry = System number system.Terminate outcome in
      one_ending n (fails who q e) (ends q e && not (lasts q e)) (and-false (is_nobody q.failed))
  few-marks (System number (system.Watch w) outcome) = one_of (System number (system.Watch w) outcome)
  few-marks (System number (system.Unwatch w) outcome) = one_of (System number (system.Unwatch w) outcome)
  few-marks (System number (system.Failed x c) outcome) = one_of (System number (system.Failed x c) outcome)
  few-marks (System number (system.Died x) outcome) = one_of (System number (system.Died x) outcome)

marked-few : (who : Identity) (journal : List Entry) → count_after (marks who journal) ≤ 1 + length journal
unfolding marks
marked-few who [] = omega (arith, count_after-running [])
marked-few who (e ∷ before) =
    omega (
      arith,
      marked-fold who before e,
      few-marks who (queries who before) (count_after (marks who before)) e,
      marked-few who before,
    )

-- a mailbox is suspended at most once for each entry, and once until the start
pub count-few : (who : Identity) (journal : List Entry) → count who journal ≤ 1 + length journal
unfolding count
count-few who journal = by (closed who journal)
  where
    by : (b : Bool) → (if b then 0 else count_after (marks who journal)) ≤ 1 + length journal
    by true = omega arith
    by false = marked-few who journal
