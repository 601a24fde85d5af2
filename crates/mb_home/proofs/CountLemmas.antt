-- The numbers of system messages: those that are set aside have one below the next, and what is drained goes on from it.
use Rattle.std.proofs.Common.{◌≡◌, ◌⊎◌, inl, inr, ℕ, ◌+◌, ◌%◌, ◌^◌, ◌<◌, ◌≤◌, ◌==◌, Bool, true, false, List, [], ◌∷◌, length}
use Rattle.std.proofs.Common.{sym, ap, ◌∙◌, subst, arith}
use Rattle.std.specs.Prelude.{All, if◌then◌else◌, not, ◌&&◌, Some, None}
use Rattle.std.proofs.lemmas.List.Elements.{All-nil, All-push, All-weaker, All-filter, All-head}
use Rattle.std.proofs.lemmas.Bool.Decides.{nat_tests}
use Rattle.mb_msg.specs.declared.system.SysMsg.{SysMsg}
use Rattle.mb_syslist.specs.MessageList.{numbered}
use Rattle.mb_actor.specs.Behaviour.{Moment, Reply}
use Rattle.mb_actor.specs.declared.phase.Phase.TheVariants.{Ending}
use Rattle.mb_journal.specs.Aside.{aside, ever_aside, first_of_list, next_front, next_number}
use Rattle.mb_journal.specs.Entry.{Entry, Outcome}
use Rattle.mb_journal.specs.Entry.Entry.{Handled, System, Dropped}
use Rattle.mb_journal.specs.Entry.Outcome.{Applied, SetAside}
use Rattle.mb_journal.specs.Identity.{Identity}
use Rattle.mb_journal.specs.Lawful.{AreLawful, IsNumbered}
use Rattle.mb_journal.specs.Life.{phase, closed}
use Rattle.mb_journal.specs.Phase.{phase_is}
use Rattle.mb_journal.specs.Suspension.{count}
use Rattle.mb_home.specs.AgreesWithJournal.{messages_in}

abbrev IsBelow : ℕ → ℕ × SysMsg → Type 0
IsBelow n x = x.0 < n

-- the next number after a system message
abbrev after : ℕ → ℕ → ℕ
after number next = if number == next then number + 1 else next

next-after : (number next : ℕ) → (number ≡ next) ⊎ (number < next) → (number < after number next) × (next ≤ after number next) ×
    (after number next ≤ next + 1)
next-after number next is = (grind (arith, nat_tests, is), grind (arith, nat_tests, is), grind (arith, nat_tests, is))

first-of : (P : ℕ × SysMsg → Type 0) (list : List (ℕ × SysMsg)) (x : ℕ × SysMsg) → first_of_list list ≡ Some x → All P list → P x
first-of P [] x is all = absurd (cc is)
first-of P (y ∷ list) x is all = let same : y ≡ x = cc is in subst P same (All-head P y list all)

-- what goes in front was set aside
pub front-of : (P : ℕ × SysMsg → Type 0) (who : Identity) (journal : List Entry) (x : ℕ × SysMsg) → next_front who journal ≡ Some x →
    All P (ever_aside journal) → P x
unfolding next_front aside
front-of P who journal x is all = by_tests (count who journal == 0 && not (phase_is (phase who journal) Ending)) (closed who journal) is
  where
    by_tests : (b c : Bool) → (if b then first_of_list (if c then [] else ever_aside journal) else None) ≡ Some x → P x
    by_tests false c none = absurd (cc none)
    by_tests true true none = absurd (cc none)
    by_tests true false first = first-of P (ever_aside journal) x first all

module _ (who : Identity) (gives : Moment → Reply → Type 0) where
  number-or-below : (before : List Entry) (number : ℕ) (m : SysMsg) → All (IsBelow (next_number before)) (ever_aside before) →
      IsNumbered who before number m → (number ≡ next_number before) ⊎ (number < next_number before)
  number-or-below before number m all (inl is) = inl is
  number-or-below before number m all (inr front) = inr (front-of (IsBelow (next_number before)) who before (number, m) front all)

  -- all that are set aside came before the next
  pub aside-below : (journal : List Entry) → AreLawful who gives journal → All (IsBelow (next_number journal)) (ever_aside journal)
  unfolding AreLawful ever_aside next_number
  aside-below [] lawful = All-nil (IsBelow 0)
  aside-below (Handled envelope reading outcome ∷ before) lawful = aside-below before lawful.1
  aside-below (Dropped envelope ∷ before) lawful = aside-below before lawful.1
  aside-below (System number m SetAside ∷ before) lawful =
      let all = aside-below before lawful.1 in
      let next = next-after number (next_number before) (number-or-below before number m all lawful.0.numbered) in
      All-push (IsBelow (after number (next_number before))) (ever_aside before) (number, m)
      (All-weaker (IsBelow (next_number before)) (IsBelow (after number (next_number before))) (λ x below. omega (arith, below, next.1))
      (ever_aside before) all)
      next.0
  aside-below (System number m (Applied a effects) ∷ before) lawful =
      let all = aside-below before lawful.1 in
      let next = next-after number (next_number before) (number-or-below before number m all lawful.0.0.numbered) in
      All-filter (λ (x : ℕ × SysMsg). not (x.0 == number)) (IsBelow (after number (next_number before))) (ever_aside before)
      (All-weaker (IsBelow (next_number before)) (IsBelow (after number (next_number before))) (λ x below. omega (arith, below, next.1))
      (ever_aside before) all)

  -- there are no more numbers than entries
  pub few-numbers : (journal : List Entry) → AreLawful who gives journal → next_number journal ≤ length journal
  unfolding AreLawful next_number
  few-numbers [] lawful = omega arith
  few-numbers (Handled envelope reading outcome ∷ before) lawful = omega (arith, few-numbers before lawful.1)
  few-numbers (Dropped envelope ∷ before) lawful = omega (arith, few-numbers before lawful.1)
  few-numbers (System number m SetAside ∷ before) lawful =
      let next = next-after number (next_number before) (number-or-below before number m (aside-below before lawful.1) lawful.0.numbered) in
      omega (arith, few-numbers before lawful.1, next.2)
  few-numbers (System number m (Applied a effects) ∷ before) lawful =
      let next = next-after number (next_number before) (number-or-below before number m (aside-below before lawful.1) lawful.0.0.numbered) in
      omega (arith, few-numbers before lawful.1, next.2)

-- the next number after a new message, and after one that was set aside
pub next-new : (before : List Entry) (number : ℕ) (m : SysMsg) (outcome : Outcome) → number ≡ next_number before →
    next_number (System number m outcome ∷ before) ≡ number + 1
unfolding next_number
next-new before number m outcome is = grind (arith, nat_tests, is)

pub next-again : (before : List Entry) (number : ℕ) (m : SysMsg) (outcome : Outcome) → number < next_number before →
    next_number (System number m outcome ∷ before) ≡ next_number before
unfolding next_number
next-again before number m outcome less = grind (arith, nat_tests, less)

first_number : List (ℕ × SysMsg) → ℕ
first_number [] = 0
first_number (x ∷ list) = x.0

-- the first that was drained has this number, and the rest goes on from it
pub rest-first : (n : ℕ) (rest left : List (ℕ × SysMsg)) (number : ℕ) (m : SysMsg) → rest ≡ numbered n (messages_in rest) → rest
    ≡ (number, m) ∷ left →
    (number ≡ n) × (left ≡ numbered ((n + 1) % 2 ^ 64) (messages_in left))
unfolding first_number
rest-first n rest left number m goes_on is =
    let whole : (number, m) ∷ left ≡ (n, m) ∷ numbered ((n + 1) % 2 ^ 64) (messages_in left) =
    sym is ∙ goes_on ∙ ap (λ r. numbered n (messages_in r)) is in
    (ap (λ (l : List (ℕ × SysMsg)). first_number l) whole, let tails : left ≡ numbered ((n + 1) % 2 ^ 64) (messages_in left) = cc whole in tails)
