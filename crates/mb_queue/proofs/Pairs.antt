-- Two different numbers are distinct, as a list.
use Rattle.std.proofs.Common.{◌≢◌, ℕ, zero, suc, [], ◌∷◌, arith}
use Rattle.std.specs.List.{AllPairs}

pub two : (a b : ℕ) → a ≢ b → AllPairs (λ x y. x ≢ y) (a ∷ b ∷ [])
two a b ne zero zero d lt few = absurd (omega arith)
two a b ne zero (suc zero) d lt few = ne
two a b ne zero (suc (suc j)) d lt few = absurd (omega arith)
two a b ne (suc i) j d lt few = absurd (omega arith)
