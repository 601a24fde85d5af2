-- The rule of a queue of the pool: what holds between any two steps of any threads (this project's own profile).
use Rattle.std.specs.Prelude.{◌≡◌, ℕ, ◌<◌, ◌≤◌, List, [], ◌∷◌, ◌++◌, length, All, IsPermutation, flat_map, sum_by, Option}
use Rattle.mb_pool.specs.Ledger.{IndexedClaim, indexed_claim, indexed, PortAccount, pushing, taking}

module _ {G C : Type 0} where
  -- all that was pushed through these ports, and all that was taken
  abbrev pub all_pushed : List (PortAccount G C) → List (IndexedClaim C)
  all_pushed = flat_map (λ (l : PortAccount G C). l.pushed)

  abbrev pub all_taken : List (PortAccount G C) → List (IndexedClaim C)
  all_taken = flat_map (λ (l : PortAccount G C). l.taken)

  -- how many shares they have
  abbrev pub all_shares : List (PortAccount G C) → ℕ
  all_shares = sum_by (λ (l : PortAccount G C). l.shares)

  -- a port with a share has these gates and this number of shares in all; through one without a share nothing was pushed or
  -- taken
  pub record PortAgrees (gates : Option G) (members : ℕ) (l : PortAccount G C) : Type 0 where
    pub same : 0 < l.shares → (l.gates ≡ gates) × (l.members ≡ members)
    pub idle : l.shares ≡ 0 → (l.pushed ≡ []) × (l.taken ≡ [])

module _ {G C : Type 0} (IsFit : Option G → C → Type 0) where
  -- The rule, of what the queue holds, the oldest first, and of what each port knows. `gone` is what was taken, in the
  -- order of the pushes: each claim was pushed once, through one port, and the first that were pushed are those that were
  -- taken, each once.
  pub record Kept (items : List C) (ledgers : List (PortAccount G C)) : Type 0 where
    pub gates : Option G
    pub members : ℕ
    pub gone : List C
    pub fit : All (IsFit gates) (gone ++ items)
    pub came : IsPermutation (all_pushed ledgers) (indexed (gone ++ items))
    pub went : IsPermutation (all_taken ledgers) (indexed gone)
    pub whole : all_shares ledgers ≡ members
    pub agree : All (PortAgrees gates members) ledgers

  -- What may have held at one moment, as far as a port can know: the queue held this, the oldest first. By then `gone` was
  -- taken, and the other ports had pushed and taken this; they had done nothing if this port has all the shares.
  pub record QueueMoment (l : PortAccount G C) (items : List C) : Type 0 where
    pub gone : List C
    pub pushed : List (IndexedClaim C)
    pub taken : List (IndexedClaim C)
    pub fit : All (IsFit l.gates) (gone ++ items)
    pub came : IsPermutation (l.pushed ++ pushed) (indexed (gone ++ items))
    pub went : IsPermutation (l.taken ++ taken) (indexed gone)
    pub within_limit : l.shares ≤ l.members
    pub alone : l.shares ≡ l.members → (pushed ≡ []) × (taken ≡ [])

  -- the claim was pushed behind all that the queue held
  abbrev pub PutsLast : PortAccount G C → C → PortAccount G C → Type 0
  PutsLast old c new = (items : List C) × (m : QueueMoment old items) × (new ≡ pushing old (indexed_claim (length (m.gone ++ items)) c))

  -- the claim was the first that the queue held, so the one that was pushed first
  abbrev pub TakesFirst : PortAccount G C → C → PortAccount G C → Type 0
  TakesFirst old c new = (rest : List C) × (m : QueueMoment old (c ∷ rest)) × (new ≡ taking old (indexed_claim (length m.gone) c))
