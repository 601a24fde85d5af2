-- What is left, once a take found nothing.
use Rattle.std.proofs.Common.{◌≡◌, ◌≢◌, ◌<◌, ℕ, zero, suc, List, [], ◌∷◌, ◌++◌, length}
use Rattle.std.proofs.Common.{map, take, drop, set, refl, sym, ap, ◌∙◌, subst, arith, get_or, slice_get, Some}
use Rattle.std.specs.List.{All}
use Rattle.std.proofs.lemmas.List.{get_or-take, length-append, length-take}
use Rattle.std.proofs.lemmas.List.Elements.{All-nil, All-cons, All-get_or, All-head, All-tail}
use Rattle.mb_msg.specs.declared.envelope.Envelope.{Envelope}
use Rattle.mb_queue.specs.Fates.{AllJoined, InOrder}
use Rattle.mb_queue.specs.Passes.{IsOfQueue, Queue, SendPassView, TakePassView, Discipline, first_in_first_out, control_first}
use Rattle.mb_queue.specs.Takes.{EachOnce}
use Rattle.mb_shutdown.specs.AllArrived.{AllArrived}
use Rattle.mb_shutdown.specs.Joined.{AreOfDifferent, joined_by}
use Rattle.mb_shutdown.specs.Parts.{IsControlsFirst}
use Rattle.mb_shutdown.specs.LeftInQueues.{AreRests, IsRest}
use Rattle.mb_shutdown.proofs.ArrivedLemmas.{IsKnownBy, PartsOut, all-came, all-known, same-taken, same-discipline}

-- the receiver takes from the same queue, and in the same order
abbrev pub SameQueue : TakePassView → TakePassView → Type 0
SameQueue first last = (last.queue ≡ first.queue) × (last.discipline ≡ first.discipline)

-- the receiver took this besides, and then found nothing
came-first : (first last : TakePassView) (left : List Envelope) → last.taken ≡ first.taken ++ left → last.discipline ≡ first.discipline
    → last.accounts ≡ first.accounts → EachOnce last → (last.discipline ≡ first_in_first_out → InOrder last)
    → (last.discipline ≡ control_first → PartsOut last)
    → (before : TakePassView) (passes : List SendPassView) → first ≡ joined_by before passes → AreOfDifferent passes
    → All (AllArrived before.discipline (before.taken ++ left)) passes
came-first first last left taken discipline accounts once in_order parts before passes is different =
    let kind : last.discipline ≡ before.discipline = discipline ∙ ap (λ (t : TakePassView). t.discipline) is ∙ same-discipline before passes in
    let all : last.taken ≡ before.taken ++ left
    = taken ∙ ap (λ (t : TakePassView). t.taken ++ left) is ∙ ap (λ l. l ++ left) (same-taken before passes) in
    let known : All (IsKnownBy last) passes
    = subst (λ l. All (λ (p : SendPassView). IsKnownBy (record last { accounts = l }) p) passes)
    (sym (accounts ∙ ap (λ (t : TakePassView). t.accounts) is)) (all-known before passes different) in
    subst (λ (x : Discipline × List Envelope). All (AllArrived x.0 x.1) passes) (λ i. (kind i, all i)) (all-came last passes once in_order parts known)

pub is-rest : (first last : TakePassView) (left : List Envelope) → (first.discipline ≡ control_first → AllJoined first → IsControlsFirst left)
    → last.taken ≡ first.taken ++ left → SameQueue first last
    → last.accounts ≡ first.accounts → EachOnce last → (last.discipline ≡ first_in_first_out → InOrder last)
    → (last.discipline ≡ control_first → PartsOut last) → All (IsOfQueue last.queue) last.taken → IsRest first left
is-rest first last left ordered taken same accounts once in_order parts known = record {
  known = subst (λ (x : Queue × List Envelope). All (IsOfQueue x.0) x.1) (λ i. (same.0 i, taken i)) known;
  came = came-first first last left taken same.1 accounts once in_order parts;
  controls_first = ordered;
}

module _ {R : Type 0} where
  pub some-length : (xs : List R) → xs ≢ [] → 0 < length xs
  some-length [] some = absurd (some refl)
  some-length (x ∷ xs) some = omega arith

  pub longer-none : (xs : List R) (x : R) → xs ++ x ∷ [] ≢ []
  longer-none [] x none = absurd (cc none)
  longer-none (y ∷ xs) x none = absurd (cc none)

  pub in-place : (xs : List R) (x : R) (rest : List R) → slice_get (xs ++ x ∷ rest) (length xs) ≡ Some x
  in-place [] x rest = refl
  in-place (y ∷ xs) x rest = in-place xs x rest

  pub take-set : (xs : List R) (n : ℕ) (x : R) → take n (set xs n x) ≡ take n xs
  take-set [] zero x = refl
  take-set [] (suc n) x = refl
  take-set (y ∷ xs) zero x = refl
  take-set (y ∷ xs) (suc n) x = ap (λ l. y ∷ l) (take-set xs n x)

  pub drop-set : (xs : List R) (n : ℕ) (x : R) → n < length xs → drop n (set xs n x) ≡ x ∷ drop (suc n) xs
  drop-set [] n x lt = absurd (omega (arith, lt))
  drop-set (y ∷ xs) zero x lt = refl
  drop-set (y ∷ xs) (suc n) x lt = drop-set xs n x (omega (arith, lt))

  -- the last of some receivers has its place among the rooms of all
  pub place-there : (rooms : List R) (all takes items done : List TakePassView) (one : TakePassView) → length rooms ≡ length all → all ≡ takes ++ done
      → takes ≡ items ++ one ∷ [] → length items < length rooms
  place-there rooms all takes items done one many is last =
      let a = ap length is ∙ length-append takes done in let b = ap length last ∙ length-append items (one ∷ []) in omega (arith, many, a, b)

  -- what holds of each of as many rooms as there are receivers left, holds of the room of the last of them
  pub last-in : (P : R → Type 0) (rooms : List R) (all takes items done : List TakePassView) (one : TakePassView) (n : ℕ) (d : R)
      → length rooms ≡ length all → all ≡ takes ++ done → takes ≡ items ++ one ∷ [] → n ≡ length items
      → All P (take (length takes) rooms) → P (get_or rooms n d)
  last-in P rooms all takes items done one n d many is last place each =
      let there = place-there rooms all takes items done one many is last in let a = ap length last ∙ length-append items (one ∷ []) in
      let long = length-take (length takes) rooms in let lt : n < length takes = omega (arith, a, place) in
      subst P (get_or-take (length takes) rooms n d lt)
      (All-get_or P (take (length takes) rooms) n d (omega (arith, long, lt, there, place)) each)

  -- what is told of the one that was set, is told of the one in its place
  pub same-set : (f g : R → ℕ) (xs : List R) (n : ℕ) (x : R) → f x ≡ g x → n < length xs
      → slice_get (map f (set xs n x)) n ≡ slice_get (map g (set xs n x)) n
  same-set f g [] n x same lt = absurd (omega (arith, lt))
  same-set f g (y ∷ xs) zero x same lt = ap Some same
  same-set f g (y ∷ xs) (suc n) x same lt = same-set f g xs n x same (omega (arith, lt))

  -- what holds of each of the first, holds of each of fewer
  pub all-fewer : (P : R → Type 0) (xs : List R) (n : ℕ) → All P (take (suc n) xs) → All P (take n xs)
  all-fewer P [] zero all = all
  all-fewer P [] (suc n) all = all
  all-fewer P (x ∷ xs) zero all = All-nil P
  all-fewer P (x ∷ xs) (suc n) all =
      All-cons P x (take n xs) (All-head P x (take (suc n) xs) all) (all-fewer P xs n (All-tail P x (take (suc n) xs) all))

  -- of two lists that begin alike, fewer are alike, and so is the last of these
  pub take-fewer : (xs ys : List R) (n : ℕ) → take (suc n) xs ≡ take (suc n) ys → take n xs ≡ take n ys
  take-fewer [] [] n same = refl
  take-fewer [] (y ∷ ys) n same = absurd (cc same)
  take-fewer (x ∷ xs) [] n same = absurd (cc same)
  take-fewer (x ∷ xs) (y ∷ ys) zero same = refl
  take-fewer (x ∷ xs) (y ∷ ys) (suc n) same =
      let first : x ≡ y = cc same in let rest : take (suc n) xs ≡ take (suc n) ys = cc same in λ i. first i ∷ take-fewer xs ys n rest i

  pub same-last : (xs ys : List R) (n : ℕ) → take (suc n) xs ≡ take (suc n) ys → slice_get xs n ≡ slice_get ys n
  same-last [] [] n same = refl
  same-last [] (y ∷ ys) n same = absurd (cc same)
  same-last (x ∷ xs) [] n same = absurd (cc same)
  same-last (x ∷ xs) (y ∷ ys) zero same = let first : x ≡ y = cc same in ap Some first
  same-last (x ∷ xs) (y ∷ ys) (suc n) same = let rest : take (suc n) xs ≡ take (suc n) ys = cc same in same-last xs ys n rest

  -- the rest of one receiver more, before the others
  pub rests-more : (items : R → List Envelope) (rooms : List R) (n : ℕ) (room : R) (take1 : TakePassView) (done : List TakePassView) → n < length rooms
      → IsRest take1 (items room) → AreRests done (map items (drop (suc n) rooms))
      → AreRests (take1 ∷ done) (map items (drop n (set rooms n room)))
  rests-more items rooms n room take1 done lt rest rests =
      subst (λ l. AreRests (take1 ∷ done) (map items l)) (sym (drop-set rooms n room lt)) (rest, rests)
