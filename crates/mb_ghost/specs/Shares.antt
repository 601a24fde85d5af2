-- Shares of one whole: who has all of it knows that nobody else has any.
use Rattle.std.specs.Prelude.{◌≡◌, ℕ, suc, ◌-◌, ◌^◌, ◌≤◌, List, [], ◌∷◌}
use Rattle.mb_ghost.specs.Seen.{EachView, Each}
use Rattle.mb_ghost.specs.Summed.{total}

-- A share is a list of parts, each by how often the whole was halved for it. Where the whole is 2 ^ e, each
-- part is at least 1.
abbrev pub FitsIn : ℕ → List ℕ → Type 0
FitsIn e share = Each (λ d. d ≤ e) share

-- how much a share is, where the whole is 2 ^ e
abbrev pub amount : ℕ → List ℕ → ℕ
amount e share = total (λ d. 2 ^ (e - d)) share

-- the share is the whole
abbrev pub IsWhole : List ℕ → Type 0
IsWhole share = (e : ℕ) → FitsIn e share → amount e share ≡ 2 ^ e

-- a share of which one part is halved, and the other half
abbrev pub halved : List ℕ → List ℕ
halved [] = []
halved (d ∷ ds) = suc d ∷ ds

-- the first part of a share, halved
abbrev pub half_of : List ℕ → List ℕ
half_of [] = []
half_of (d ∷ ds) = suc d ∷ []

-- the shares of all views are the whole
abbrev pub AreShares : {V : Type 0} → (V → List ℕ) → List V → Type 0
AreShares share vs = (e : ℕ) → EachView (λ v. FitsIn e (share v)) vs → total (λ v. amount e (share v)) vs ≡ 2 ^ e
