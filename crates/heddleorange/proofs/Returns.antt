-- What the journals came to, by a measure for each actor, when cells were given back.
use Rattle.std.proofs.Common.{◌≡◌, ◌<◌, ◌+◌, ◌==◌, ℕ, zero, suc, true, false, if◌then◌else◌, List, [], ◌∷◌, ◌++◌, Some, ap, arith, length, refl, subst, ◌∙◌}
use Rattle.std.specs.Prelude.{slice_get}
use Rattle.std.proofs.lemmas.Bool.{eq-eqb, ne_eqb}
use Rattle.std.proofs.lemmas.Option.{none-some, same_Some}
use Rattle.mb_gate.specs.Releases.{ReleasesAddUp, back_by, back_in_release, taken_by, taken_in_release}
use Rattle.mb_gate.specs.View.{Release, View}
use Rattle.mb_ghost.proofs.SummedLemmas.{total_append}
use Rattle.mb_ghost.specs.Seen.{Each}
use Rattle.mb_ghost.specs.Summed.{total}
use Rattle.mb_journal.specs.Entry.{Entry}
use Rattle.mb_journal.specs.Identity.{Identity}
use Rattle.mb_mailbox.specs.Ran.{GivesBackOne}
use Rattle.mb_register.specs.Views.{GivesBackUnchanged, IsUnchanged}
use Rattle.mb_report.specs.declared.report.ActorReport.{ActorReport}

-- ---- one actor's journals

module _ (actor : ℕ) (measure : List Entry → ℕ) where
  unchanged : (rs : List Release) → Each IsUnchanged rs → total (back_in_release actor measure) rs ≡ total (taken_in_release actor measure) rs
  unchanged [] each = refl
  unchanged (r ∷ rs) each = λ i. (if r.actor == actor then measure (each.0 i) else 0) + unchanged rs each.1 i

  -- each cell came back as it was taken
  same-back : (old new : View) → GivesBackUnchanged old new
      → back_by actor measure new + taken_by actor measure old ≡ taken_by actor measure new + back_by actor measure old
  same-back old new gives =
      let same = unchanged gives.more gives.unchanged in
      let sum : (f : Release → ℕ) → total f new.releases ≡ total f gives.more + total f old.releases =
      λ f. ap (total f) gives.releases ∙ total_append f gives.more old.releases in
      let back = sum (back_in_release actor measure) in let taken = sum (taken_in_release actor measure) in omega (arith, same, back, taken)

  -- one cell came back with another journal
  one-back : (old new : View) (own : Release) → GivesBackOne own old new
      → back_by actor measure new + taken_by actor measure old + taken_in_release actor measure own
      ≡ taken_by actor measure new + back_by actor measure old + back_in_release actor measure own
  one-back old new own gives =
      let first = unchanged gives.earlier gives.earlier_unchanged in let last = unchanged gives.later gives.later_unchanged in
      let sum : (f : Release → ℕ) → total f new.releases ≡ total f gives.later + (f own + (total f gives.earlier + total f old.releases)) =
      λ f. ap (total f) gives.releases ∙ total_append f gives.later (own ∷ (gives.earlier ++ old.releases))
      ∙ ap (λ n. total f gives.later + (f own + n)) (total_append f gives.earlier old.releases) in
      let back = sum (back_in_release actor measure) in let taken = sum (taken_in_release actor measure) in
      omega (arith, first, last, back, taken)

-- ---- all actors' journals, each by a measure of its own

module _ (measure : Identity → List Entry → ℕ) where
  -- what all journals of these actors came to that the seat gave back; the actors are numbered on from this number
  abbrev pub all_back : ℕ → List Identity → View → ℕ
  all_back number [] v = 0
  all_back number (who ∷ whos) v = back_by number (measure who) v + all_back (number + 1) whos v

  -- the same of those with which the cells were taken
  abbrev pub all_taken : ℕ → List Identity → View → ℕ
  all_taken number [] v = 0
  all_taken number (who ∷ whos) v = taken_by number (measure who) v + all_taken (number + 1) whos v

  -- what this journal of the actor of this number comes to
  abbrev pub own_journal : List Entry → ℕ → ℕ → List Identity → ℕ
  own_journal journal actor number [] = 0
  own_journal journal actor number (who ∷ whos) =
      (if actor == number then measure who journal else 0) + own_journal journal actor (number + 1) whos

  own-past : (journal : List Entry) (actor number : ℕ) (whos : List Identity) → actor < number → own_journal journal actor number whos ≡ 0
  own-past journal actor number [] lt = refl
  own-past journal actor number (who ∷ whos) lt =
      let apart : (actor == number) ≡ false = ne_eqb actor number (λ same. omega (arith, same, lt)) in
      let first : (if actor == number then measure who journal else 0) ≡ 0 = ap (λ b. if b then measure who journal else 0) apart in
      let rest = own-past journal actor (number + 1) whos (omega (arith, lt)) in omega (arith, first, rest)

  pub own-at : (journal : List Entry) (actor number : ℕ) (whos : List Identity) (place : ℕ) (who : Identity) → slice_get whos place ≡ Some who
      → actor ≡ number + place → own_journal journal actor number whos ≡ measure who journal
  own-at journal actor number [] place who at is = absurd (none-some who at)
  own-at journal actor number (x ∷ whos) zero who at is =
      let here : (actor == number) ≡ true = eq-eqb actor number (omega (arith, is)) in
      let first : (if actor == number then measure x journal else 0) ≡ measure x journal = ap (λ b. if b then measure x journal else 0) here in
      let past = own-past journal actor (number + 1) whos (omega (arith, is)) in
      let same = ap (λ w. measure w journal) (same_Some x who at) in omega (arith, first, past, same)
  own-at journal actor number (x ∷ whos) (suc place) who at is =
      let apart : (actor == number) ≡ false = ne_eqb actor number (λ same. omega (arith, same, is)) in
      let first : (if actor == number then measure x journal else 0) ≡ 0 = ap (λ b. if b then measure x journal else 0) apart in
      let rest = own-at journal actor (number + 1) whos place who at (omega (arith, is)) in omega (arith, first, rest)

  pub all-same : (number : ℕ) (whos : List Identity) (old new : View) → GivesBackUnchanged old new
      → all_back number whos new + all_taken number whos old ≡ all_taken number whos new + all_back number whos old
  all-same number [] old new gives = refl
  all-same number (who ∷ whos) old new gives =
      let first = same-back number (measure who) old new gives in let rest = all-same (number + 1) whos old new gives in omega (arith, first, rest)

  pub all-one : (number : ℕ) (whos : List Identity) (old new : View) (own : Release) → GivesBackOne own old new
      → all_back number whos new + all_taken number whos old + own_journal own.taken own.actor number whos
      ≡ all_taken number whos new + all_back number whos old + own_journal own.back own.actor number whos
  all-one number [] old new own gives = refl
  all-one number (who ∷ whos) old new own gives =
      let first = one-back number (measure who) old new own gives in let rest = all-one (number + 1) whos old new own gives in
      omega (arith, first, rest)

  -- a seat that gave nothing back
  pub none-back : (number : ℕ) (whos : List Identity) (v : View) → v.releases ≡ [] → all_back number whos v ≡ 0
  none-back number [] v none = refl
  none-back number (who ∷ whos) v none =
      let first = ap (total (back_in_release number (measure who))) none in let rest = none-back (number + 1) whos v none in
      omega (arith, first, rest)

  pub none-taken : (number : ℕ) (whos : List Identity) (v : View) → v.releases ≡ [] → all_taken number whos v ≡ 0
  none-taken number [] v none = refl
  none-taken number (who ∷ whos) v none =
      let first = ap (total (taken_in_release number (measure who))) none in let rest = none-taken (number + 1) whos v none in
      omega (arith, first, rest)

  -- ---- all seats

  total-both : {X : Type 0} (f g : X → ℕ) (xs : List X) → total (λ x. f x + g x) xs ≡ total f xs + total g xs
  total-both f g [] = refl
  total-both f g (x ∷ xs) = let rest = total-both f g xs in omega (arith, rest)

  total-zero : {X : Type 0} (xs : List X) → total (λ (x : X). 0) xs ≡ 0
  total-zero [] = refl
  total-zero (x ∷ xs) = let rest = total-zero xs in omega (arith, rest)

  -- what the journals of these reports come to
  abbrev pub reported : List Identity → List ActorReport → ℕ
  reported [] reports = 0
  reported (who ∷ whos) [] = 0
  reported (who ∷ whos) (a ∷ reports) = measure who a.journal.entries + reported whos reports

  -- where all releases add up to the journals, what came back is what was taken and what the journals come to
  pub all-add-up : ((who : Identity) → measure who [] ≡ 0) → (number : ℕ) (whos : List Identity) (reports : List ActorReport) (vs : List View)
      → length reports ≡ length whos
      → ((place : ℕ) (a : ActorReport) → slice_get reports place ≡ Some a → ReleasesAddUp (number + place) a.journal.entries vs)
      → total (all_back number whos) vs ≡ total (all_taken number whos) vs + reported whos reports
  all-add-up empty number [] reports vs many each = let none = total-zero vs in omega (arith, none)
  all-add-up empty number (who ∷ whos) [] vs many each = absurd (omega (arith, many))
  all-add-up empty number (who ∷ whos) (a ∷ reports) vs many each =
      let up : ReleasesAddUp number a.journal.entries vs =
      subst (λ n. ReleasesAddUp n a.journal.entries vs) (let same : number + 0 ≡ number = omega arith in same) (each zero a refl) in
      let first = up (measure who) in let none = empty who in
      let rest = all-add-up empty (number + 1) whos reports vs (omega (arith, many))
      (λ place b at. subst (λ n. ReleasesAddUp n b.journal.entries vs)
      (let same : number + suc place ≡ number + 1 + place = omega arith in same) (each (suc place) b at)) in
      let back = total-both (back_by number (measure who)) (all_back (number + 1) whos) vs in
      let taken = total-both (taken_by number (measure who)) (all_taken (number + 1) whos) vs in
      omega (arith, first, none, rest, back, taken)
