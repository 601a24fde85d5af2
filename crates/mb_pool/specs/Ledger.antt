-- What a port of a queue of the pool knows, and how its own steps change that (this project's own profile, as all accounts:
-- Akka's executors keep none).
use Rattle.std.specs.Prelude.{ℕ, ◌+◌, ◌-◌, List, [], ◌∷◌, ◌++◌, map, Option, None}

-- a claim, and its index: how many were pushed to its queue before it
pub record IndexedClaim (C : Type 0) : Type 0 where
  pub number : ℕ
  pub claim : C

-- the claim with this index
abbrev pub indexed_claim : {C : Type 0} → ℕ → C → IndexedClaim C
indexed_claim n c = record { number = n; claim = c }

-- the claims with their indices, the first with this one
abbrev pub indexed_from : {C : Type 0} → ℕ → List C → List (IndexedClaim C)
indexed_from n [] = []
indexed_from n (c ∷ cs) = indexed_claim n c ∷ indexed_from (n + 1) cs

-- the claims with their indices, in the order of the pushes
abbrev pub indexed : {C : Type 0} → List C → List (IndexedClaim C)
indexed = indexed_from 0

-- the claims without their indices
abbrev pub claims_in : {C : Type 0} → List (IndexedClaim C) → List C
claims_in {C} = map (λ (t : IndexedClaim C). t.claim)

-- What a port knows: whose gates' claims its queue is for, once that is fixed; how many shares the queue has in all, and
-- how many of them the port has (none before it is given one and after it was joined to another); and what was pushed and
-- what was taken through it, with the indices.
pub record PortAccount (G C : Type 0) : Type 0 where
  pub gates : Option G
  pub members : ℕ
  pub shares : ℕ
  pub pushed : List (IndexedClaim C)
  pub taken : List (IndexedClaim C)

-- a port with these shares, through which nothing was pushed or taken yet
abbrev pub opened : {G C : Type 0} → Option G → ℕ → ℕ → PortAccount G C
opened gates members shares = record { gates = gates; members = members; shares = shares; pushed = []; taken = [] }

-- the first port of a queue, before it is fixed whose gates' claims the queue is for
abbrev pub unused : {G C : Type 0} → PortAccount G C
unused = opened None 1 1

-- after this port's push of a claim with its index
abbrev pub pushing : {G C : Type 0} → PortAccount G C → IndexedClaim C → PortAccount G C
pushing l t = record l { pushed = l.pushed ++ t ∷ [] }

-- after this port's take of a claim with its index
abbrev pub taking : {G C : Type 0} → PortAccount G C → IndexedClaim C → PortAccount G C
taking l t = record l { taken = l.taken ++ t ∷ [] }

-- after this many of its shares went to a port of their own
abbrev pub lending : {G C : Type 0} → ℕ → PortAccount G C → PortAccount G C
lending n l = record l { shares = l.shares - n }

-- the port that they went to
abbrev pub borrowing : {G C : Type 0} → ℕ → PortAccount G C → PortAccount G C
borrowing n l = opened l.gates l.members n

-- after another port was joined, with all that was pushed and taken through it
abbrev pub joining : {G C : Type 0} → PortAccount G C → PortAccount G C → PortAccount G C
joining l m = record l { shares = l.shares + m.shares; pushed = l.pushed ++ m.pushed; taken = l.taken ++ m.taken }

-- a port without a share
abbrev pub spent : {G C : Type 0} → PortAccount G C
spent = opened None 0 0
