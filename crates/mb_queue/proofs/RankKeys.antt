-- What the heap's order says about the next envelope.
use Rattle.std.proofs.Common.{◌≡◌, ◌⊎◌, ℕ, ◌<◌, ◌≤◌, ◌==◌, Bool, true, false, cond, List, [], ◌∷◌, nat_lt, inl, inr, arith, Decides, refl, sym}
use Rattle.std.specs.List.{All, AllByRecursion}
use Rattle.std.specs.Ordering.{ordering_then, is_lt}
use Rattle.std.specs.declared.cmp.Ordering.TheVariants.{Less, Equal, Greater}
use Rattle.std.specs.declared.cmp.Reverse.{Reverse}
use Rattle.std.proofs.lemmas.Bool.Decides.{Decides-eqb, nat_tests}
use Rattle.std.proofs.lemmas.List.Elements.{All-cons}
use Rattle.mb_queue.specs.declared.rank_key.RankKey.{RankKey}
use Rattle.mb_queue.specs.Arrival.{IsBehind}
use Rattle.mb_queue.specs.WaitingHeap.{arrival_of, rank_heap_cmp}

by_tests : (r s n m : ℕ) (b c d e : Bool) → Decides b (s < r) → Decides c (s ≡ r) → Decides d (m < n)
    → is_lt (ordering_then (cond b Less (cond c Equal Greater)) (cond d Less (cond e Equal Greater))) ≡ false
    → (r < s) ⊎ ((r ≡ s) × (n ≤ m))
by_tests r s n m true c d e lt same less is = cc
by_tests r s n m false true true e lt same less is = cc
by_tests r s n m false true false e lt same less is =
    let eq : s ≡ r = same.0 refl in let no : m < n → ⊥ = λ h. (let f : false ≡ true = less.1 h in cc) in inr (sym eq, omega (arith, no))
by_tests r s n m false false d e lt same less is =
    let no : s < r → ⊥ = λ h. (let f : false ≡ true = lt.1 h in cc) in let ne : s ≡ r → ⊥ = λ h. (let f : false ≡ true = same.1 h in cc) in
    inl (omega (arith, no, ne))

behind : (x y : Reverse RankKey) → is_lt (rank_heap_cmp x y) ≡ false → IsBehind (arrival_of x) (arrival_of y)
behind x y is = by_tests x.0.rank y.0.rank x.0.number y.0.number (nat_lt y.0.rank x.0.rank) (y.0.rank == x.0.rank) (nat_lt y.0.number x.0.number)
    (y.0.number == x.0.number)
    (grind (arith, nat_tests), grind (arith, nat_tests)) (Decides-eqb y.0.rank x.0.rank) (grind (arith, nat_tests), grind (arith, nat_tests)) is

pub all_behind : (x : Reverse RankKey) (xs : List (Reverse RankKey)) → AllByRecursion (λ y. is_lt (rank_heap_cmp x y) ≡ false) xs
    → All (λ (y : Reverse RankKey). IsBehind (arrival_of x) (arrival_of y)) xs
all_behind x [] h = λ k d lt. absurd (omega arith)
all_behind x (y ∷ xs) h = All-cons (λ (z : Reverse RankKey). IsBehind (arrival_of x) (arrival_of z)) y xs (behind x y h.0) (all_behind x xs h.1)
