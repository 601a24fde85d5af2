-- In a lawful journal the messages that are set aside are those that no entry applies.
use Rattle.std.proofs.Common.{◌≡◌, ◌⊎◌, inl, inr, ℕ, ◌+◌, ◌<◌, ◌≤◌, ◌==◌, Bool, true, false, cond, List, [], ◌∷◌, ◌++◌, filter}
use Rattle.std.proofs.Common.{refl, sym, ap, ◌∙◌, subst, arith}
use Rattle.std.specs.Prelude.{All, if◌then◌else◌, not, ◌&&◌, ◌||◌, nat_lt, Some, None}
use Rattle.std.proofs.lemmas.List.Elements.{All-nil, All-push, All-weaker, All-filter, All-head, filter-append}
use Rattle.std.proofs.lemmas.Bool.{eqb-true}
use Rattle.std.proofs.lemmas.Bool.Decides.{nat_tests}
use Rattle.std.proofs.lemmas.List.{append-nil}
use Rattle.mb_msg.specs.declared.system.SysMsg.{SysMsg}
use Rattle.mb_actor.specs.Behaviour.{Moment, Reply}
use Rattle.mb_actor.specs.declared.phase.Phase.TheVariants.{Fresh, Ending}
use Rattle.mb_journal.specs.Aside.{aside, ever_aside, first_of_list, next_front, next_number, sets_aside, waits_for_the_end, is_child_failure}
use Rattle.mb_journal.specs.Entry.{Entry}
use Rattle.mb_journal.specs.Entry.Entry.{Handled, System, Dropped}
use Rattle.mb_journal.specs.Entry.Outcome.{Applied, SetAside}
use Rattle.mb_journal.specs.Identity.{Identity}
use Rattle.mb_journal.specs.Lawful.{AreLawful, IsLawful, IsNumbered, IsSystem}
use Rattle.mb_journal.specs.Life.{phase, closed}
use Rattle.mb_journal.specs.Phase.{phase_is}
use Rattle.mb_journal.specs.Remaining.{all_set_aside, was_applied}
use Rattle.mb_journal.specs.Suspension.{count}
use Rattle.mb_journal.proofs.RemainingLaw.{filter-twice}
use Rattle.mb_journal.proofs.TestLemmas.{and-false}

-- ---- the numbers

abbrev IsBelow : ℕ → ℕ × SysMsg → Type 0
IsBelow n x = x.0 < n

-- the next number after a system message
abbrev after : ℕ → ℕ → ℕ
after number next = if number == next then number + 1 else next

next-after : (number next : ℕ) → (number ≡ next) ⊎ (number < next) → (number < after number next) × (next ≤ after number next)
next-after number next is = (grind (arith, nat_tests, is), grind (arith, nat_tests, is))

first-of : (P : ℕ × SysMsg → Type 0) (list : List (ℕ × SysMsg)) (x : ℕ × SysMsg) → first_of_list list ≡ Some x → All P list → P x
first-of P [] x is all = absurd (cc is)
first-of P (y ∷ list) x is all = let same : y ≡ x = cc is in subst P same (All-head P y list all)

-- what goes in front was set aside
front-of : (P : ℕ × SysMsg → Type 0) (who : Identity) (journal : List Entry) (x : ℕ × SysMsg) → next_front who journal ≡ Some x →
    All P (ever_aside journal) → P x
unfolding next_front aside
front-of P who journal x is all = by_tests (count who journal == 0 && not (phase_is (phase who journal) Ending)) (closed who journal) is
  where
    by_tests : (b c : Bool) → (if b then first_of_list (if c then [] else ever_aside journal) else None) ≡ Some x → P x
    by_tests false c none = absurd (cc none)
    by_tests true true none = absurd (cc none)
    by_tests true false first = first-of P (ever_aside journal) x first all

-- and is not set aside again
front-applied : (who : Identity) (before : List Entry) (x : ℕ × SysMsg) (m : SysMsg) → next_front who before ≡ Some x → sets_aside who before m ≡ false
unfolding next_front
front-applied who before x m is =
    by_tests (count who before) (phase_is (phase who before) Ending) (waits_for_the_end m) (is_child_failure m) (not (phase_is (phase who before) Fresh))
    (aside who before) (count who before == 0) refl is
  where
    by_tests : (c : ℕ) (b w f r : Bool) (list : List (ℕ × SysMsg)) (t : Bool) → (c == 0) ≡ t →
        (if t && not b then first_of_list list else None) ≡ Some x → ((b && w) || ((f && r) && nat_lt 0 c)) ≡ false
    by_tests c b w f r list false zero none = absurd (cc none)
    by_tests c true w f r list true zero none = absurd (cc none)
    by_tests c false w f r list true zero first =
        ap (λ n. (f && r) && nat_lt 0 n) (eqb-true c 0 zero) ∙ and-false (f && r)

module _ (who : Identity) (gives : Moment → Reply → Type 0) where
  number-or-below : (before : List Entry) (number : ℕ) (m : SysMsg) → All (IsBelow (next_number before)) (ever_aside before) →
      IsNumbered who before number m → (number ≡ next_number before) ⊎ (number < next_number before)
  number-or-below before number m all (inl is) = inl is
  number-or-below before number m all (inr front) = inr (front-of (IsBelow (next_number before)) who before (number, m) front all)

  -- all that are set aside came before the next
  aside-below : (journal : List Entry) → AreLawful who gives journal → All (IsBelow (next_number journal)) (ever_aside journal)
  unfolding AreLawful ever_aside next_number
  aside-below [] lawful = All-nil (IsBelow 0)
  aside-below (Handled envelope reading outcome ∷ before) lawful = aside-below before lawful.1
  aside-below (Dropped envelope ∷ before) lawful = aside-below before lawful.1
  aside-below (System number m SetAside ∷ before) lawful =
      let all = aside-below before lawful.1 in
      let next = next-after number (next_number before) (number-or-below before number m all lawful.0.numbered) in
      All-push (IsBelow (after number (next_number before))) (ever_aside before) (number, m)
      (All-weaker (IsBelow (next_number before)) (IsBelow (after number (next_number before))) (λ x below. omega (arith, below, next.1))
      (ever_aside before) all)
      next.0
  aside-below (System number m (Applied a effects) ∷ before) lawful =
      let all = aside-below before lawful.1 in
      let next = next-after number (next_number before) (number-or-below before number m all lawful.0.0.numbered) in
      All-filter (λ (x : ℕ × SysMsg). not (x.0 == number)) (IsBelow (after number (next_number before))) (ever_aside before)
      (All-weaker (IsBelow (next_number before)) (IsBelow (after number (next_number before))) (λ x below. omega (arith, below, next.1))
      (ever_aside before) all)

  -- no number from the next on was applied
  applied-below : (journal : List Entry) → AreLawful who gives journal → (n : ℕ) → next_number journal ≤ n → was_applied journal n ≡ false
  unfolding AreLawful next_number
  applied-below [] lawful n above = refl
  applied-below (Handled envelope reading outcome ∷ before) lawful n above = applied-below before lawful.1 n above
  applied-below (Dropped envelope ∷ before) lawful n above = applied-below before lawful.1 n above
  applied-below (System number m SetAside ∷ before) lawful n above =
      let next = next-after number (next_number before) (number-or-below before number m (aside-below before lawful.1) lawful.0.numbered) in
      applied-below before lawful.1 n (omega (arith, above, next.1))
  applied-below (System number m (Applied a effects) ∷ before) lawful n above =
      let next = next-after number (next_number before) (number-or-below before number m (aside-below before lawful.1) lawful.0.0.numbered) in
      let other : (n == number) ≡ false = differ n number (omega (arith, above, next.0)) in
      λ i. other i || applied-below before lawful.1 n (omega (arith, above, next.1)) i
    where
      differ : (n k : ℕ) → k < n → (n == k) ≡ false
      differ n k less = grind (arith, nat_tests, less)

  -- a message is set aside only when it is new
  set_aside-new : (before : List Entry) (number : ℕ) (m : SysMsg) → IsSystem who before number m SetAside → number ≡ next_number before
  set_aside-new before number m system = by_number system.numbered system.by_rule
    where
      by_number : IsNumbered who before number m → false ≡ not (sets_aside who before m) → number ≡ next_number before
      by_number (inl is) rule = is
      by_number (inr front) rule = absurd (differ (rule ∙ ap not (front-applied who before (number, m) m front)))
        where
          differ : false ≡ true → ⊥
          differ e = cc

  -- ---- the law

  abbrev unapplied : List Entry → List (ℕ × SysMsg)
  unapplied journal = filter (λ m. not (was_applied journal m.0)) (all_set_aside journal)

  not-or : (a b : Bool) → (not b && not a) ≡ not (a || b)
  not-or true b = and-false (not b)
  not-or false true = refl
  not-or false false = refl

  ever_aside-unapplied : (journal : List Entry) → AreLawful who gives journal → ever_aside journal ≡ unapplied journal
  unfolding AreLawful ever_aside
  ever_aside-unapplied [] lawful = refl
  ever_aside-unapplied (Handled envelope reading outcome ∷ before) lawful =
      ever_aside-unapplied before lawful.1
      ∙ ap (filter (λ m. not (was_applied before m.0))) (sym (append-nil (all_set_aside before)))
  ever_aside-unapplied (Dropped envelope ∷ before) lawful =
      ever_aside-unapplied before lawful.1
      ∙ ap (filter (λ m. not (was_applied before m.0))) (sym (append-nil (all_set_aside before)))
  ever_aside-unapplied (System number m (Applied a effects) ∷ before) lawful =
      ap (filter (λ (x : ℕ × SysMsg). not (x.0 == number))) (ever_aside-unapplied before lawful.1)
      ∙ filter-twice (λ (x : ℕ × SysMsg). not (x.0 == number)) (λ x. not (was_applied before x.0)) (all_set_aside before)
      ∙ (λ i. filter (λ x. not-or (x.0 == number) (was_applied before x.0) i) (sym (append-nil (all_set_aside before)) i))
  ever_aside-unapplied (System number m SetAside ∷ before) lawful =
      let next : number ≡ next_number before = set_aside-new before number m lawful.0 in
      let away : was_applied before number ≡ false = applied-below before lawful.1 number (omega (arith, next)) in
      ap (λ list. list ++ (number, m) ∷ []) (ever_aside-unapplied before lawful.1)
      ∙ (λ i. unapplied before ++ cond (not (sym away i)) ((number, m) ∷ []) [])
      ∙ sym (filter-append (λ x. not (was_applied before x.0)) (all_set_aside before) ((number, m) ∷ []))

  pub aside-unapplied : (journal : List Entry) → IsLawful who gives journal →
      aside who journal
      ≡ (if closed who journal then [] else filter (λ m. not (was_applied journal m.0)) (all_set_aside journal))
  unfolding aside
  aside-unapplied journal lawful = ap (λ list. if closed who journal then [] else list) (ever_aside-unapplied journal lawful.entries)
