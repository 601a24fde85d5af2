-- The numbers of handles and senders, by their places.
use Rattle.std.proofs.Common.{◌≡◌, ◌⊎◌, inl, inr, ℕ, zero, suc, ◌+◌, ◌-◌, ◌<◌, ◌≤◌, List, [], ◌∷◌, length, map, refl, sym, ap, ◌∙◌, subst, Some}
use Rattle.std.proofs.Common.{arith, get_or}
use Rattle.std.specs.Prelude.{All, AllPairs, Bool, Contains, IsPermutation, IsTrue, MatchOption, None, Option, is_some, slice_get, ◌≢◌, ◌↔◌}
use Rattle.std.specs.List.{AllWithin, HoldsAt, swap}
use Rattle.std.proofs.lemmas.Bool.{cases_eq}
use Rattle.std.proofs.lemmas.List.Elements.{All-get_or, All-weaker}
use Rattle.std.proofs.lemmas.List.Edits.{swapped_from_swap}
use Rattle.std.proofs.lemmas.List.Sorted.{Contains-permutation, IsPermutation-map, IsPermutation-swap, IsPermutation-sym, length_permutation}
use Rattle.std.proofs.lemmas.Option.{get_or_from_slice_get, none-some, same_Some, slice_get-get_or, slice_get_within}
use Rattle.mb_build.specs.Numbers.{numbers}
use Rattle.mb_shutdown.proofs.Lists.{at-place, each-place, from-mapped, length-mapped, mapped, there}
use Rattle.mb_system.specs.Belonging.{senders_numbers}
use Rattle.mb_system.specs.Members.{OutsideSender}
use Rattle.mb_shutdown.specs.Belonging.{AreThere, IsLeastMissing}

module _ {X : Type 0} where
  pub at : (xs : List X) (i : ℕ) (x : X) → i < length xs → get_or xs i x ≡ x → slice_get xs i ≡ Some x
  at xs i x lt is = slice_get-get_or xs i x lt ∙ ap Some is

  pub contains-at : (xs : List X) (i : ℕ) (x : X) → slice_get xs i ≡ Some x → Contains xs x
  contains-at xs i x is = (i, slice_get_within xs i x is, get_or_from_slice_get xs i x x is)

  pub at-contained : (xs : List X) (x : X) → Contains xs x → (i : ℕ) × (slice_get xs i ≡ Some x)
  at-contained xs x there = (there.0, at xs there.0 x there.1 there.2)

-- numbers up to this one, and this one
pub up-to : (P : ℕ → Type 0) (n : ℕ) → ((k : ℕ) → k < n → P k) → P n → (k : ℕ) → k < n + 1 → P k
up-to P n all here k lt = by_sides (cases_eq k n)
  where
    by_sides : (k ≡ n) ⊎ (k ≡ n → ⊥) → P k
    by_sides (inl same) = subst P (sym same) here
    by_sides (inr other) = all k (omega (arith, lt, other))

-- each of the first has the number of its place
abbrev pub ArePlaced : List ℕ → ℕ → Type 0
ArePlaced ns place = (k : ℕ) → k < place → slice_get ns k ≡ Some k

pub none-placed : (ns : List ℕ) → ArePlaced ns 0
none-placed ns k lt = absurd (omega (arith, lt))

-- there is one where a place of it was found
pub found-some : (ns : List ℕ) (n : ℕ) (place : Option ℕ) (some : Bool)
    → MatchOption place (Contains ns n → ⊥) (λ k. slice_get ns k ≡ Some n) → is_some place ≡ some → IsTrue some ↔ Contains ns n
found-some ns n None some none is = (λ e. absurd (cc), λ is_there. absurd (none is_there))
found-some ns n (Some k) some found is = (λ _. contains-at ns k n found, λ _. sym is)

-- the first number that is not there is the least
pub least-missing : (found : Option ℕ) (many : ℕ) (ns : List ℕ)
    → MatchOption found ((k : ℕ) → 0 ≤ k → k < many → Contains ns k)
    (λ i. (0 ≤ i) × (i < many) × (Contains ns i → ⊥) × ((k : ℕ) → 0 ≤ k → k < i → Contains ns k))
    → MatchOption found (AreThere many ns) (IsLeastMissing many ns)
least-missing None many ns all = λ n lt. all n (omega arith) lt
least-missing (Some i) many ns first = record {
  within = first.1;
  missing = first.2;
  least = λ n lt. first.3 n (omega arith) lt;
}

-- the number of each is that of its place
pub in-order : (ns : List ℕ) (first : ℕ) → ((k : ℕ) → k < length ns → slice_get ns k ≡ Some (first + k)) → ns ≡ numbers first (length ns)
in-order [] first each = refl
in-order (n ∷ ns) first each =
    let one : n ≡ first = same_Some n (first + 0) (each 0 (omega arith)) ∙ (omega arith) in
    ap (λ m. m ∷ ns) one ∙ ap (λ l. first ∷ l) (in-order ns (first + 1) (λ k lt. each (suc k) (omega (arith, lt)) ∙ ap Some (omega arith)))

module _ {X : Type 0} (f : X → ℕ) where
  -- the number is that of the element which was found; or of none
  found-at : (xs : List X) (n k : ℕ) → k < length xs → HoldsAt (λ x. f x ≡ n) xs k → slice_get (map f xs) k ≡ Some n
  found-at xs n k lt holds =
      let one = there xs k lt in
      mapped f xs k one.0 one.1 ∙ ap (λ x. Some (f x)) (sym (get_or_from_slice_get xs k one.0 one.0 one.1)) ∙ ap Some (holds one.0)

  of-none : (xs : List X) (n : ℕ) → AllWithin (λ x. f x ≡ n → ⊥) xs 0 (length xs) → Contains (map f xs) n → ⊥
  of-none xs n none is_there =
      let found = at-contained (map f xs) n is_there in
      let one = from-mapped f xs found.0 n found.1 in
      none found.0 one.0 (omega arith) (slice_get_within xs found.0 one.0 one.1)
      (ap f (get_or_from_slice_get xs found.0 one.0 one.0 one.1) ∙ one.2)

  pub found-place : (xs : List X) (n : ℕ) (place : Option ℕ)
      → MatchOption place (AllWithin (λ x. f x ≡ n → ⊥) xs 0 (length xs))
      (λ k. (k < length xs) × HoldsAt (λ x. f x ≡ n) xs k × AllWithin (λ x. f x ≡ n → ⊥) xs 0 k)
      → MatchOption place (Contains (map f xs) n → ⊥) (λ k. slice_get (map f xs) k ≡ Some n)
  found-place xs n None none = of-none xs n none
  found-place xs n (Some k) found = found-at xs n k found.0 found.1

  -- the one of the next number comes to its place
  pub placed-more : (xs ys : List X) (p o : ℕ) → ArePlaced (map f xs) p → p < length xs → slice_get (map f xs) o ≡ Some p → ys ≡ swap xs p o
      → ArePlaced (map f ys) (p + 1)
  placed-more xs ys p o placed lt is swapped =
      let other = from-mapped f xs o p is in let x = other.0 in
      let in_o = slice_get_within xs o x other.1 in
      let s = swapped_from_swap xs ys p o x lt in_o swapped in
      let many = length_permutation xs ys (IsPermutation-swap xs ys p o lt in_o swapped) in
      let at_p : slice_get ys p ≡ Some x =
      at ys p x (omega (arith, many, lt)) (s.0 ∙ get_or_from_slice_get xs o x x other.1) in
      up-to (λ k. slice_get (map f ys) k ≡ Some k) p (before x s.2 in_o many) (mapped f ys p x at_p ∙ ap Some other.2)
    where
      before : (d : X) → ((m : ℕ) → (m ≡ p → ⊥) → (m ≡ o → ⊥) → get_or ys m d ≡ get_or xs m d) → o < length xs → length ys ≡ length xs
          → (k : ℕ) → k < p → slice_get (map f ys) k ≡ Some k
      before d same in_o many k below =
          let was = placed k below in let one = from-mapped f xs k k was in
          let other : k ≡ o → ⊥ = λ e. (let n : k ≡ p = same_Some k p (sym was ∙ ap (slice_get (map f xs)) e ∙ is) in omega (arith, n, below)) in
          let in_k = slice_get_within xs k one.0 one.1 in
          let now = same k (λ e. omega (arith, e, below)) other in
          mapped f ys k one.0
          (slice_get-get_or ys k d (omega (arith, many, in_k)) ∙ ap Some (now ∙ get_or_from_slice_get xs k one.0 d one.1)) ∙ ap Some one.2

  -- one that was there is still there, in a place
  pub still-there : (now was : List X) (many n : ℕ) → IsPermutation now was → AreThere many (map f was) → n < many → Contains (map f now) n
  still-there now was many n same all lt =
      Contains-permutation (map f was) (map f now) n (IsPermutation-map f was now (IsPermutation-sym now was same)) (all n lt)

  pub numbers-placed : (now : List X) (place : ℕ) → length now ≤ place → ArePlaced (map f now) place → map f now ≡ numbers 0 (length now)
  numbers-placed now place all placed =
      let many = length-mapped f now in
      in-order (map f now) 0 (λ k lt. placed k (omega (arith, lt, many, all)) ∙ ap Some (omega arith)) ∙ ap (numbers 0) many

-- ---- as many as there are numbers

pick : {P Q : Type 0} → P ⊎ Q → ℕ → ℕ → ℕ
pick (inl p) x y = x
pick (inr q) x y = y

abbrev moved : (ℕ → ℕ) → ℕ → ℕ → ℕ → ℕ
moved g last b i = pick (cases_eq (g i) b) last (g i)

-- different places for each of so many are at least as many places
pub pigeons : (a b : ℕ) (g : ℕ → ℕ) → ((i : ℕ) → i < a → g i < b) → ((i j : ℕ) → i < j → j < a → g i ≡ g j → ⊥) → a ≤ b
unfolding pick
pigeons zero b g within apart = omega arith
pigeons (suc a) zero g within apart = absurd (let lt = within 0 (omega arith) in omega (arith, lt))
pigeons (suc a) (suc b) g within apart =
    let fewer = pigeons a b (moved g (g a) b)
    (λ i lt. inside i lt (cases_eq (g i) b))
    (λ i j lt below. different i j lt below (cases_eq (g i) b) (cases_eq (g j) b)) in
    omega (arith, fewer)
  where
    inside : (i : ℕ) → i < a → (s : (g i ≡ b) ⊎ (g i ≡ b → ⊥)) → pick s (g a) (g i) < b
    inside i lt (inl same) =
        let last = within a (omega arith) in
        let other : g a ≡ b → ⊥ = λ e. apart i a lt (omega arith) (same ∙ sym e) in
        omega (arith, last, other)
    inside i lt (inr other) = let one = within i (omega (arith, lt)) in omega (arith, one, other)

    different : (i j : ℕ) → i < j → j < a → (s : (g i ≡ b) ⊎ (g i ≡ b → ⊥)) (t : (g j ≡ b) ⊎ (g j ≡ b → ⊥))
        → pick s (g a) (g i) ≡ pick t (g a) (g j) → ⊥
    different i j lt below (inl x) (inl y) same = apart i j lt (omega (arith, below)) (x ∙ sym y)
    different i j lt below (inl x) (inr y) same = apart j a below (omega arith) (sym same)
    different i j lt below (inr x) (inl y) same = apart i a (omega (arith, lt, below)) (omega arith) same
    different i j lt below (inr x) (inr y) same = apart i j lt (omega (arith, below)) same

-- the first place of a number
place_from : ℕ → List ℕ → ℕ
place_from n [] = 0
place_from n (x ∷ xs) = pick (cases_eq x n) 0 (suc (place_from n xs))

first-place : (n : ℕ) (ns : List ℕ) (k : ℕ) → slice_get ns k ≡ Some n → slice_get ns (place_from n ns) ≡ Some n
unfolding pick place_from
first-place n [] k is = absurd (none-some n is)
first-place n (x ∷ xs) zero is = by_sides (cases_eq x n)
  where
    by_sides : (s : (x ≡ n) ⊎ (x ≡ n → ⊥)) → slice_get (x ∷ xs) (pick s 0 (suc (place_from n xs))) ≡ Some n
    by_sides (inl same) = ap Some same
    by_sides (inr other) = absurd (other (same_Some x n is))
first-place n (x ∷ xs) (suc k) is = by_sides (cases_eq x n) (first-place n xs k is)
  where
    by_sides : (s : (x ≡ n) ⊎ (x ≡ n → ⊥)) → slice_get xs (place_from n xs) ≡ Some n
        → slice_get (x ∷ xs) (pick s 0 (suc (place_from n xs))) ≡ Some n
    by_sides (inl same) rest = ap Some same
    by_sides (inr other) rest = rest

-- different numbers below this one, each of which is there, are so many
pub as-many : (many : ℕ) (ns : List ℕ) → AreThere many ns → All (λ n. n < many) ns → AllPairs (λ a b. a ≢ b) ns → length ns ≡ many
as-many many ns all below apart =
    let place : (i : ℕ) → i < many → slice_get ns (place_from i ns) ≡ Some i =
    λ i lt. (let found = at-contained ns i (all i lt) in first-place i ns found.0 found.1) in
    let least : many ≤ length ns = pigeons many (length ns) (λ i. place_from i ns)
    (λ i lt. slice_get_within ns (place_from i ns) i (place i lt))
    (λ i j lt in_j same. (let e : i ≡ j = same_Some i j (sym (place i (omega (arith, lt, in_j))) ∙ ap (slice_get ns) same ∙ place j in_j) in
    omega (arith, e, lt))) in
    let most : length ns ≤ many = pigeons (length ns) many (λ i. get_or ns i 0)
    (λ i lt. All-get_or (λ n. n < many) ns i 0 lt below)
    (λ i j lt in_j same. apart i j 0 lt in_j same) in
    omega (arith, least, most)

-- so there are as many senders as have numbers, where each is there once
pub as-many-senders : (many : ℕ) (senders : List OutsideSender) → AreThere many (senders_numbers senders)
    → All (λ (s : OutsideSender). (64 ≤ s.send_log.by.0) × (s.send_log.by.0 < 64 + many)) senders
    → AllPairs (λ a b. a ≢ b) (senders_numbers senders) → length senders ≡ many
as-many-senders many senders all numbered once =
    sym (length-mapped number senders) ∙ as-many many (senders_numbers senders) all below once
  where
    number : OutsideSender → ℕ
    number s = s.send_log.by.0 - 64

    below : All (λ n. n < many) (senders_numbers senders)
    below = each-place (λ n. n < many) (senders_numbers senders) (λ i n is.
        (let one = from-mapped (λ (s : OutsideSender). s.send_log.by.0 - 64) senders i n is in
        let both = at-place (λ (s : OutsideSender). (64 ≤ s.send_log.by.0) × (s.send_log.by.0 < 64 + many)) senders i one.0 numbered one.1 in
        let low = both.0 in let high = both.1 in let e = one.2 in
        omega (arith, low, high, e)))

pub all-there : (many : ℕ) (now senders : List OutsideSender) → now ≡ senders → length senders ≡ many
    → AreThere many (senders_numbers senders) → AreThere (length now) (senders_numbers now)
all-there many now senders is count all =
    subst (λ (l : List OutsideSender). AreThere (length l) (senders_numbers l)) (sym is)
    (subst (λ (n : ℕ). AreThere n (senders_numbers senders)) (sym count) all)

pub outside-all : (many : ℕ) (senders : List OutsideSender)
    → All (λ (s : OutsideSender). (64 ≤ s.send_log.by.0) × (s.send_log.by.0 < 64 + many)) senders
    → All (λ (s : OutsideSender). 64 ≤ s.send_log.by.0) senders
outside-all many senders =
    All-weaker (λ (s : OutsideSender). (64 ≤ s.send_log.by.0) × (s.send_log.by.0 < 64 + many)) (λ (s : OutsideSender). 64 ≤ s.send_log.by.0)
    (λ s both. both.0) senders
