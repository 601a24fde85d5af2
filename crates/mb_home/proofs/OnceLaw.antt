-- Each system message that has an entry was applied once, or waits among those that were set aside.
use Rattle.std.proofs.Common.{◌≡◌, ◌≢◌, inl, inr, ℕ, ◌+◌, ◌<◌, ◌≤◌, ◌==◌, Bool, true, false, List, [], ◌∷◌, ◌++◌, refl, ap}
use Rattle.std.proofs.Common.{◌∙◌, arith}
use Rattle.std.specs.Prelude.{if◌then◌else◌, nat_lt, not, ◌&&◌, ◌||◌, Some, None}
use Rattle.std.proofs.lemmas.Bool.Decides.{nat_tests}
use Rattle.mb_msg.specs.declared.system.SysMsg.{SysMsg}
use Rattle.mb_actor.specs.Behaviour.{Moment, Reply}
use Rattle.mb_actor.specs.declared.phase.Phase.TheVariants.{Fresh, Ending}
use Rattle.mb_journal.specs.Acts.{Act}
use Rattle.mb_journal.specs.Aside.{aside, ever_aside, first_of_list, next_front, next_number, without_number, sets_aside, waits_for_the_end}
use Rattle.mb_journal.specs.Aside.{is_child_failure}
use Rattle.mb_journal.specs.Entry.{Entry, Outcome}
use Rattle.mb_journal.specs.Entry.Entry.{Handled, System, Dropped}
use Rattle.mb_journal.specs.Entry.Outcome.{Applied, SetAside}
use Rattle.mb_journal.specs.Identity.{Identity}
use Rattle.mb_journal.specs.Lawful.{AreLawful, IsNumbered}
use Rattle.mb_journal.specs.Life.{phase, closed}
use Rattle.mb_journal.specs.Phase.{phase_is}
use Rattle.mb_journal.specs.Suspension.{count}
use Rattle.mb_home.specs.Contents.{Contents}
use Rattle.mb_home.specs.Numbers.{applied_numbers, numbers_in, times}
use Rattle.mb_home.specs.AgreesWithJournal.{AgreesWithJournal}
use Rattle.mb_home.proofs.CountLemmas.{aside-below, front-of}

times-append : (n : ℕ) (a b : List (ℕ × SysMsg)) → times n (numbers_in (a ++ b)) ≡ times n (numbers_in a) + times n (numbers_in b)
times-append n [] b = omega arith
times-append n (x ∷ a) b = omega (arith, times-append n a b)

-- those without a number have it no more, and all others as often
times-without : (k n : ℕ) (list : List (ℕ × SysMsg)) → times n (numbers_in (without_number list k)) ≡ (if k == n then 0
    else times n (numbers_in list))
times-without k n [] = grind (arith, nat_tests)
times-without k n (x ∷ list) = by_test (x.0 == k) refl (times-without k n list)
  where
    by_test : (b : Bool) → (x.0 == k) ≡ b → times n (numbers_in (without_number list k)) ≡ (if k == n then 0 else times n (numbers_in list)) →
        times n (numbers_in (if not b then x ∷ without_number list k else without_number list k))
        ≡ (if k == n then 0 else (if x.0 == n then 1 else 0) + times n (numbers_in list))
    by_test true same rest = let is : x.0 ≡ k = grind (arith, nat_tests, same) in grind (arith, nat_tests, rest, is)
    by_test false other rest = let differs : x.0 ≢ k = grind (arith, nat_tests, other) in grind (arith, nat_tests, rest, differs)

-- what goes in front stands among those that were set aside
pub front-among : (who : Identity) (journal : List Entry) (x : ℕ × SysMsg) → next_front who journal ≡ Some x →
    1 ≤ times x.0 (numbers_in (ever_aside journal))
unfolding next_front aside
front-among who journal x is = by_tests (count who journal == 0 && not (phase_is (phase who journal) Ending)) (closed who journal) is
  where
    first : (list : List (ℕ × SysMsg)) → first_of_list list ≡ Some x → 1 ≤ times x.0 (numbers_in list)
    first [] same = absurd (cc same)
    first (y ∷ list) same = let it : y ≡ x = cc same in let number : y.0 ≡ x.0 = ap (λ (z : ℕ × SysMsg). z.0) it in grind (arith, nat_tests, number)

    by_tests : (b c : Bool) → (if b then first_of_list (if c then [] else ever_aside journal) else None) ≡ Some x →
        1 ≤ times x.0 (numbers_in (ever_aside journal))
    by_tests false c none = absurd (cc none)
    by_tests true true none = absurd (cc none)
    by_tests true false same = first (ever_aside journal) same

three-false : (p q b : Bool) → b ≡ false → (p && q && b) ≡ false
three-false p q true never = absurd (cc never)
three-false true true false never = refl
three-false true false false never = refl
three-false false q false never = refl

-- what goes in front is not set aside again
pub front-applied : (who : Identity) (journal : List Entry) (x : ℕ × SysMsg) (m : SysMsg) → next_front who journal ≡ Some x →
    sets_aside who journal m ≡ false
unfolding next_front
front-applied who journal x m is =
    by_tests (count who journal == 0) (phase_is (phase who journal) Ending) refl is
  where
    by_tests : (b c : Bool) → (count who journal == 0) ≡ b →
        (if b && not c then first_of_list (aside who journal) else None) ≡ Some x →
        ((c && waits_for_the_end m) || (is_child_failure m && not (phase_is (phase who journal) Fresh) && nat_lt 0 (count who journal))) ≡ false
    by_tests false c zero none = absurd (cc none)
    by_tests true true zero none = absurd (cc none)
    by_tests true false zero some = three-false (is_child_failure m) (not (phase_is (phase who journal) Fresh)) (nat_lt 0 (count who journal))
        (grind (arith, nat_tests, zero))

-- the sum of both, with the next number
abbrev pub Stands : ℕ → List Entry → Type 0
Stands n journal =
    times n (applied_numbers journal) + times n (numbers_in (ever_aside journal)) ≡ (if nat_lt n (next_number journal) then 1 else 0)

module _ (who : Identity) (gives : Moment → Reply → Type 0) where
  by_applied : (before : List Entry) (number n : ℕ) (m : SysMsg) (outcome : Outcome) → AreLawful who gives before → IsNumbered who before number m →
      ((k : ℕ) → Stands k before) →
      (if number == n then 1 else 0) + times n (applied_numbers before) + times n (numbers_in (without_number (ever_aside before) number))
      ≡ (if nat_lt n (if number == next_number before then number + 1 else next_number before) then 1 else 0)
  by_applied before number n m outcome lawful (inl new) once =
      let now = once n in let left = times-without number n (ever_aside before) in
      grind (arith, nat_tests, now, left, new)
  by_applied before number n m outcome lawful (inr front) once =
      let now = once n in
      let left = times-without number n (ever_aside before) in
      let there = front-among who before (number, m) front in
      let here = once number in
      let below : number < next_number before =
      front-of (λ (x : ℕ × SysMsg). x.0 < next_number before) who before (number, m) front (aside-below who gives before lawful) in
      grind (arith, nat_tests, now, left, there, here, below)

  pub once-each : (journal : List Entry) → AreLawful who gives journal → (n : ℕ) → Stands n journal
  unfolding AreLawful ever_aside next_number
  once-each [] lawful n = grind (arith, nat_tests)
  once-each (Handled envelope reading outcome ∷ before) lawful n = once-each before lawful.1 n
  once-each (Dropped envelope ∷ before) lawful n = once-each before lawful.1 n
  once-each (System number m (Applied a effects) ∷ before) lawful n =
      by_applied before number n m (Applied a effects) lawful.1 lawful.0.0.numbered (λ k. once-each before lawful.1 k)
  once-each (System number m SetAside ∷ before) lawful n = by_number lawful.0.numbered (once-each before lawful.1 n)
    where
      by_number : IsNumbered who before number m → Stands n before →
          times n (applied_numbers before) + times n (numbers_in (ever_aside before ++ (number, m) ∷ []))
          ≡ (if nat_lt n (if number == next_number before then number + 1 else next_number before) then 1 else 0)
      by_number (inl new) now =
          let more = times-append n (ever_aside before) ((number, m) ∷ []) in
          grind (arith, nat_tests, now, more, new)
      by_number (inr front) now =
          absurd (let never : false ≡ true = lawful.0.by_rule ∙ ap not (front-applied who before (number, m) m front) in cc never)

-- of a home that agrees with its journal each number below the next was applied, or was set aside, once
pub stands-once : (gives : Moment → Reply → Type 0) (pending : List Act) (h : Contents) → AgreesWithJournal gives pending h → (n : ℕ) →
    n < next_number h.cell.journal → times n (applied_numbers h.cell.journal) + times n (numbers_in (ever_aside h.cell.journal)) ≡ 1
stands-once gives pending h s n less =
    let once = once-each h.cell.who gives h.cell.journal s.lawful.entries n in grind (arith, nat_tests, once, less)
