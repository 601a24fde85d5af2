-- How many system messages were applied, wait, and are dead: together as many as have a number.
use Rattle.std.proofs.Common.{◌≡◌, inl, inr, ℕ, ◌+◌, ◌<◌, ◌==◌, Bool, true, false, List, [], ◌∷◌, ◌++◌, length}
use Rattle.std.proofs.Common.{refl, sym, ap, ◌∙◌, arith, length-append}
use Rattle.std.specs.Prelude.{All, if◌then◌else◌, nat_lt, not, ◌&&◌, ◌||◌}
use Rattle.std.proofs.lemmas.Bool.Decides.{nat_tests}
use Rattle.std.proofs.lemmas.List.Elements.{All-nil, All-push, All-filter, All-weaker, All-head, All-tail}
use Rattle.mb_msg.specs.declared.system.SysMsg.{SysMsg}
use Rattle.mb_msg.specs.declared.system.SysMsg.TheVariants as system
use Rattle.mb_actor.specs.Behaviour.{Moment, Reply}
use Rattle.mb_actor.specs.declared.phase.Phase.TheVariants.{Fresh, Ending, Ended}
use Rattle.mb_journal.specs.Acts.{Act}
use Rattle.mb_journal.specs.Aside.{aside, ever_aside, next_number, without_number, sets_aside, waits_for_the_end, is_child_failure}
use Rattle.mb_journal.specs.Entry.{Entry, Outcome, answered_failed}
use Rattle.mb_journal.specs.Entry.Entry.{Handled, System, Dropped}
use Rattle.mb_journal.specs.Entry.Outcome.{Applied, SetAside}
use Rattle.mb_journal.specs.Identity.{Identity}
use Rattle.mb_journal.specs.Lawful.{AreLawful, IsLawfulEntry, IsNumbered}
use Rattle.mb_journal.specs.Life.{phase, closed}
use Rattle.mb_journal.specs.Phase.{phase_is}
use Rattle.mb_journal.specs.Suspension.{count}
use Rattle.mb_journal.proofs.Fold.{Queries, queries, queries-fold, starts, restarts, ends, lasts}
use Rattle.mb_journal.proofs.TestLemmas.{and-false}
use Rattle.mb_home.specs.Contents.{Contents}
use Rattle.mb_home.specs.Numbers.{applied_numbers, numbers_in, times}
use Rattle.mb_home.specs.AgreesWithJournal.{AgreesWithJournal, aside_at_end}
use Rattle.mb_home.proofs.CountLemmas.{aside-below, front-of}
use Rattle.mb_home.proofs.FoldLaw.{closed-by, entry-not_ended}
use Rattle.mb_home.proofs.OnceLaw.{front-among, front-applied, once-each}

-- how many are left without a number
left-without : (k : ℕ) (list : List (ℕ × SysMsg)) → length (without_number list k) + times k (numbers_in list) ≡ length list
left-without k [] = omega arith
left-without k (x ∷ list) = by_test (x.0 == k) (left-without k list)
  where
    by_test : (b : Bool) → length (without_number list k) + times k (numbers_in list) ≡ length list →
        length (if not b then x ∷ without_number list k else without_number list k) + ((if b then 1 else 0) + times k (numbers_in list))
        ≡ length (x ∷ list)
    by_test true rest = omega (arith, rest)
    by_test false rest = omega (arith, rest)

-- a number that all are below stands nowhere
times-above : (k : ℕ) (list : List (ℕ × SysMsg)) → All (λ (x : ℕ × SysMsg). x.0 < k) list → times k (numbers_in list) ≡ 0
times-above k [] all = refl
times-above k (x ∷ list) all =
    let less : x.0 < k = All-head (λ (y : ℕ × SysMsg). y.0 < k) x list all in
    let rest = times-above k list (All-tail (λ (y : ℕ × SysMsg). y.0 < k) x list all) in
    grind (arith, nat_tests, less, rest)

-- what is set aside is of a kind that may wait
abbrev May-wait : ℕ × SysMsg → Type 0
May-wait x = (waits_for_the_end x.1 || is_child_failure x.1) ≡ true

one-of : (e w f s t : Bool) → ((e && w) || (f && s && t)) ≡ true → (w || f) ≡ true
one-of e true f s t is = refl
one-of e false true s t is = refl
one-of true false false s t is = is
one-of false false false s t is = is

not-not : (b : Bool) → false ≡ not b → b ≡ true
not-not true is = refl
not-not false is = absurd (cc is)

set-waits : (who : Identity) (before : List Entry) (m : SysMsg) → false ≡ not (sets_aside who before m) →
    (waits_for_the_end m || is_child_failure m) ≡ true
set-waits who before m is =
    one-of (phase_is (phase who before) Ending) (waits_for_the_end m) (is_child_failure m) (not (phase_is (phase who before) Fresh))
    (nat_lt 0 (count who before)) (not-not (sets_aside who before m) is)

module _ (who : Identity) (gives : Moment → Reply → Type 0) where
  -- the number of a message that is applied stands among those that were set aside once, if that was put in front, and else not at all
  with-front : (before : List Entry) (number : ℕ) (m : SysMsg) → AreLawful who gives before → IsNumbered who before number m →
      length (without_number (ever_aside before) number) + (if number == next_number before then 0 else 1) ≡ length (ever_aside before)
  with-front before number m lawful (inl new) =
      let left = left-without number (ever_aside before) in
      let none = times-above number (ever_aside before)
      (All-weaker (λ (x : ℕ × SysMsg). x.0 < next_number before) (λ (x : ℕ × SysMsg). x.0 < number) (λ x below. omega (arith, below, new))
      (ever_aside before) (aside-below who gives before lawful)) in
      grind (arith, nat_tests, left, none, new)
  with-front before number m lawful (inr front) =
      let left = left-without number (ever_aside before) in
      let there = front-among who before (number, m) front in
      let once = once-each who gives before lawful number in
      let below : number < next_number before =
      front-of (λ (x : ℕ × SysMsg). x.0 < next_number before) who before (number, m) front (aside-below who gives before lawful) in
      grind (arith, nat_tests, left, there, once, below)

  -- as many were applied, or wait, as have a number
  pub all-counted : (journal : List Entry) → AreLawful who gives journal →
      length (applied_numbers journal) + length (ever_aside journal) ≡ next_number journal
  unfolding AreLawful ever_aside next_number
  all-counted [] lawful = omega arith
  all-counted (Handled envelope reading outcome ∷ before) lawful = all-counted before lawful.1
  all-counted (Dropped envelope ∷ before) lawful = all-counted before lawful.1
  all-counted (System number m (Applied a effects) ∷ before) lawful =
      let now = all-counted before lawful.1 in
      let left = with-front before number m lawful.1 lawful.0.0.numbered in
      by_test (number == next_number before) refl now left
    where
      by_test : (b : Bool) → (number == next_number before) ≡ b → length (applied_numbers before) + length (ever_aside before) ≡ next_number before →
          length (without_number (ever_aside before) number) + (if b then 0 else 1) ≡ length (ever_aside before) →
          length (number ∷ applied_numbers before) + length (without_number (ever_aside before) number) ≡ (if b then number + 1
          else next_number before)
      by_test true same now left = let is : number ≡ next_number before = grind (arith, nat_tests, same) in omega (arith, now, left, is)
      by_test false other now left = omega (arith, now, left)
  all-counted (System number m SetAside ∷ before) lawful = by_number lawful.0.numbered (all-counted before lawful.1)
    where
      by_number : IsNumbered who before number m → length (applied_numbers before) + length (ever_aside before) ≡ next_number before →
          length (applied_numbers before) + length (ever_aside before ++ (number, m) ∷ []) ≡ (if number == next_number before then number + 1
          else next_number before)
      by_number (inl new) now =
          let more = length-append (ever_aside before) ((number, m) ∷ []) in
          grind (arith, nat_tests, now, more, new)
      by_number (inr front) now =
          absurd (let never : false ≡ true = lawful.0.by_rule ∙ ap not (front-applied who before (number, m) m front) in cc never)

  aside-waits : (journal : List Entry) → AreLawful who gives journal → All May-wait (ever_aside journal)
  unfolding AreLawful ever_aside
  aside-waits [] lawful = All-nil May-wait
  aside-waits (Handled envelope reading outcome ∷ before) lawful = aside-waits before lawful.1
  aside-waits (Dropped envelope ∷ before) lawful = aside-waits before lawful.1
  aside-waits (System number m (Applied a effects) ∷ before) lawful =
      All-filter (λ (x : ℕ × SysMsg). not (x.0 == number)) May-wait (ever_aside before) (aside-waits before lawful.1)
  aside-waits (System number m SetAside ∷ before) lawful =
      All-push May-wait (ever_aside before) (number, m) (aside-waits before lawful.1) (set-waits who before m lawful.0.by_rule)

-- ---- the end

-- no message that may wait ends an actor
ends-not : (who : Identity) (before : List Entry) (number : ℕ) (m : SysMsg) (outcome : Outcome) → (waits_for_the_end m || is_child_failure m)
    ≡ true →
    lasts (queries who before) (System number m outcome) ≡ false
ends-not who before number system.Create outcome may = and-false (phase_is (phase who before) Ending)
ends-not who before number (system.Recreate c) outcome may = and-false (phase_is (phase who before) Ending)
ends-not who before number system.Suspend outcome may = and-false (phase_is (phase who before) Ending)
ends-not who before number (system.Resume f) outcome may = and-false (phase_is (phase who before) Ending)
ends-not who before number system.Terminate outcome may = absurd (let no : false ≡ true = may in cc no)
ends-not who before number (system.Watch w) outcome may = absurd (let no : false ≡ true = may in cc no)
ends-not who before number (system.Unwatch w) outcome may = absurd (let no : false ≡ true = may in cc no)
ends-not who before number (system.Failed x c) outcome may = and-false (phase_is (phase who before) Ending)
ends-not who before number (system.Died x) outcome may = absurd (let no : false ≡ true = may in cc no)

both-tests : (b : Bool) (x y : ℕ) → b ≡ false → b ≡ true → x ≡ y
both-tests true x y never it = absurd (cc never)
both-tests false x y never it = absurd (cc it)

module _ (who : Identity) (gives : Moment → Reply → Type 0) (before : List Entry) (lawful : AreLawful who gives before) where
  -- the entry with which the actor ended is its last
  is-last : (e : Entry) → IsLawfulEntry who gives before e → closed who (e ∷ before) ≡ true → lasts (queries who before) e ≡ true
  is-last e due ended =
      sym (closed-by (phase who before) (lasts (queries who before) e) (ends (queries who before) e)
      (starts (queries who before) e || restarts who (queries who before) e) (answered_failed e) (entry-not_ended who gives before e due))
      ∙ sym (ap (λ (q : Queries). phase_is q.phase Ended) (queries-fold who before e))
      ∙ ended

  -- with it nothing more waits, and nothing less
  wait-same : (e : Entry) → IsLawfulEntry who gives before e → lasts (queries who before) e ≡ true →
      length (ever_aside before) ≡ length (ever_aside (e ∷ before))
  unfolding ever_aside
  wait-same (Handled envelope reading outcome) due last = refl
  wait-same (Dropped envelope) due last = refl
  wait-same (System number m SetAside) due last =
      both-tests (lasts (queries who before) (System number m SetAside)) _ _
      (ends-not who before number m SetAside (set-waits who before m due.by_rule)) last
  wait-same (System number m (Applied a effects)) due last = by_number due.0.numbered
    where
      by_number : IsNumbered who before number m → length (ever_aside before) ≡ length (without_number (ever_aside before) number)
      by_number (inl new) = let left = with-front who gives before number m lawful (inl new) in grind (arith, nat_tests, left, new)
      by_number (inr front) =
          both-tests (lasts (queries who before) (System number m (Applied a effects))) _ _
          (ends-not who before number m (Applied a effects)
          (front-of May-wait who before (number, m) front (aside-waits who gives before lawful))) last

-- what was set aside when the actor ended is all that waits then
at-end : (who : Identity) (gives : Moment → Reply → Type 0) (journal : List Entry) → AreLawful who gives journal → closed who journal ≡ true →
    aside_at_end who journal ≡ length (ever_aside journal)
unfolding AreLawful aside phase
at-end who gives [] lawful ended = absurd (let no : false ≡ true = ended in cc no)
at-end who gives (e ∷ before) lawful ended =
    ap (λ b. if b then length (aside who before) else 0) ended
    ∙ ap (λ b. length (if b then [] else ever_aside before)) (entry-not_ended who gives before e lawful.0)
    ∙ wait-same who gives before lawful.1 e lawful.0 (is-last who gives before lawful.1 e lawful.0 ended)

-- of a home that agrees with its journal: as many messages have an entry as were applied or wait; and once the actor ended, those that wait are dead
pub counted-all : (gives : Moment → Reply → Type 0) (pending : List Act) (h : Contents) → AgreesWithJournal gives pending h →
    length (applied_numbers h.cell.journal) + length (ever_aside h.cell.journal) ≡ next_number h.cell.journal
counted-all gives pending h s = all-counted h.cell.who gives h.cell.journal s.lawful.entries

pub dead-at-end : (gives : Moment → Reply → Type 0) (pending : List Act) (h : Contents) → AgreesWithJournal gives pending h →
    closed h.cell.who h.cell.journal ≡ true → h.aside_dead ≡ length (ever_aside h.cell.journal)
dead-at-end gives pending h s ended = s.counted.aside ∙ at-end h.cell.who gives h.cell.journal s.lawful.entries ended
