-- The steps in the form that the queues and deques below are generic in.
use Rattle.std.proofs.Common.{◌≡◌, ℕ, suc, ◌<◌, ◌≤◌, List, [], ◌∷◌, ◌++◌, length, set, sym, refl, ap, ◌∙◌, subst, arith, min, Option}
use mathlib.Core.Option.{some}
use lib.ListN.{get_elem?}
use Rattle.crossbeam_queue.specs.Fifo as fifo
use Rattle.crossbeam_deque.specs.Tasks as tasks
use Rattle.crossbeam_deque.specs.Handles.{Pass, IsPassOf, SamePass}
use Rattle.atomic_blocks.specs.Lent.{RowsId}
use Rattle.mb_gate.specs.declared.claim.Claim.{Claim}
use Rattle.mb_gate.specs.declared.pooled_claim.PooledClaim.{PooledClaim}
use Rattle.mb_pool.specs.Items.{claims_of}
use Rattle.mb_pool.specs.Ledger.{PortAccount, opened, unused, lending, borrowing, joining, spent}
use Rattle.mb_pool.specs.Rule.{Kept, QueueMoment, PutsLast, TakesFirst}
use Rattle.mb_pool.proofs.Moves.{puts, takes, moment, opens, lends, joins}

module _ {H : Type 0} where
  pub claims_push : (items : List (PooledClaim H)) (p : PooledClaim H) → claims_of (items ++ p ∷ []) ≡ claims_of items ++ p.claim ∷ []
  claims_push [] p = refl
  claims_push (q ∷ items) p = ap (λ l. q.claim ∷ l) (claims_push items p)

  pub claims_count : (items : List (PooledClaim H)) → length (claims_of items) ≡ length items
  claims_count [] = refl
  claims_count (q ∷ items) = ap suc (claims_count items)

module _ {G H : Type 0} (IsFit : Option G → Claim H → Type 0) where
  abbrev pub Holds : List (PooledClaim H) → List (PortAccount G (Claim H)) → Type 0
  Holds items ledgers = Kept IsFit (claims_of items) ledgers

  pub queue_push : (n port : ℕ) (v : PortAccount G (Claim H)) (p : PooledClaim H) → 0 < v.shares → IsFit v.gates p.claim
      → fifo.Pushes Holds n port v p (PutsLast IsFit v p.claim)
  queue_push n port v p share fit = λ items views lt h at. let r = puts IsFit (claims_of items) views port v h at p.claim share fit in
      (r.0, subst (λ l. Kept IsFit l (set views port r.0)) (sym (claims_push items p)) r.1, r.2)

  pub learns : (port : ℕ) (v : PortAccount G (Claim H)) → 0 < v.shares → fifo.Learns Holds port v (λ items. QueueMoment IsFit v (claims_of items))
  learns port v share = λ items views h at. moment IsFit (claims_of items) views port v h at share

  -- a queue that was empty, or full
  pub was_empty : (v : PortAccount G (Claim H)) (items : List (PooledClaim H)) → length items ≡ 0 → QueueMoment IsFit v (claims_of items) → QueueMoment IsFit v []
  was_empty v [] none m = m
  was_empty v (p ∷ items) none m = absurd (omega (arith, none))

  pub was_full : (v : PortAccount G (Claim H)) (most : ℕ) (items : List (PooledClaim H)) → length items ≡ most → QueueMoment IsFit v (claims_of items)
      → (held : List (Claim H)) × (length held ≡ most) × QueueMoment IsFit v held
  was_full v most items many m = (claims_of items, claims_count items ∙ many, m)

  pub queue_take : (port : ℕ) (v : PortAccount G (Claim H)) → 0 < v.shares → fifo.Pops Holds port v (λ p w. TakesFirst IsFit v p.claim w)
  queue_take port v share = λ p items views h at. takes IsFit p.claim (claims_of items) views port v h at share

  pub opened_so : (port : ℕ) (v : PortAccount G (Claim H)) (g : Option G) (m : ℕ) → v ≡ unused → fifo.Forks Holds port v (opened g m m) spent
  opened_so port v g m e = λ items views h at. opens IsFit (claims_of items) views port v h at g m e

  pub lent : (port : ℕ) (v : PortAccount G (Claim H)) → 1 < v.shares → fifo.Forks Holds port v (lending 1 v) (borrowing 1 v)
  lent port v shares = λ items views h at. lends IsFit (claims_of items) views port v h at shares

  pub joined : (port : ℕ) (v : PortAccount G (Claim H)) (other : ℕ) (u : PortAccount G (Claim H)) → 0 < v.shares → 0 < u.shares
      → fifo.Merges Holds port v other u (joining v u) spent
  joined port v other u mine theirs = λ items views h at two at'. joins IsFit (claims_of items) views port v other u h at two at' mine theirs

  pub deque_push : (port : ℕ) (v : PortAccount G (Claim H)) (p : PooledClaim H) → 0 < v.shares → IsFit v.gates p.claim
      → tasks.Pushes Holds port v (p ∷ []) (λ w. (c : Claim H) × (claims_of (p ∷ []) ≡ c ∷ []) × PutsLast IsFit v c w)
  deque_push port v p share fit = λ items views h at. let r = puts IsFit (claims_of items) views port v h at p.claim share fit in
      (r.0, subst (λ l. Kept IsFit l (set views port r.0)) (sym (claims_push items p)) r.1, (p.claim, refl, r.2))

  deque_first : (port : ℕ) (v : PortAccount G (Claim H)) → 0 < v.shares → (xs items : List (PooledClaim H)) (views : List (PortAccount G (Claim H))) → 0 < length xs
      → length xs < 2 → Holds (xs ++ items) views
      → get_elem? views port ≡ some v
      → (w : PortAccount G (Claim H)) × Holds items (set views port w) × ((c : Claim H) × (claims_of xs ≡ c ∷ []) × TakesFirst IsFit v c w)
  deque_first port v share [] items views lo hi h at = absurd (omega (arith, lo))
  deque_first port v share (p ∷ []) items views lo hi h at = let r = takes IsFit p.claim (claims_of items) views port v h at share in
      (r.0, r.1, (p.claim, refl, r.2))
  deque_first port v share (p ∷ (q ∷ xs)) items views lo hi h at = absurd (omega (arith, hi))

  pub deque_take : (port : ℕ) (v : PortAccount G (Claim H)) → 0 < v.shares
      → tasks.Takes Holds port v 1 (λ xs w. (c : Claim H) × (claims_of xs ≡ c ∷ []) × TakesFirst IsFit v c w)
  deque_take port v share = λ xs items views lo hi h at. deque_first port v share xs items views lo hi h at

  pub deque_empty : (port : ℕ) (v : PortAccount G (Claim H)) → 0 < v.shares → tasks.Finds Holds port v (QueueMoment IsFit v [])
  deque_empty port v share = λ views h at. moment IsFit [] views port v h at share

  none_held : (port : ℕ) (v : PortAccount G (Claim H)) → 0 < v.shares → (items : List (PooledClaim H)) (views : List (PortAccount G (Claim H))) → length items ≤ 0
      → Holds items views → get_elem? views port ≡ some v → QueueMoment IsFit v []
  none_held port v share [] views le h at = moment IsFit [] views port v h at share
  none_held port v share (p ∷ items) views le h at = absurd (omega (arith, le))

  pub deque_few : (flavor port : ℕ) (v : PortAccount G (Claim H)) → flavor ≡ 0 → 0 < v.shares
      → tasks.FindsFew Holds (min flavor 1) port v (QueueMoment IsFit v [])
  deque_few flavor port v e share = subst (λ f. tasks.FindsFew Holds (min f 1) port v (QueueMoment IsFit v [])) (sym e)
      (λ items views le h at. none_held port v share items views le h at)

  head_of : (d : Claim H) → List (Claim H) → Claim H
  head_of d [] = d
  head_of d (x ∷ xs) = x

  -- the one claim of a step of a deque
  pub took : (v w : PortAccount G (Claim H)) (p : PooledClaim H) (x : Claim H) → x ≡ p.claim → (c : Claim H) × (claims_of (p ∷ []) ≡ c ∷ [])
      × TakesFirst IsFit v c w → TakesFirst IsFit v x w
  unfolding head_of
  took v w p x e t = subst (λ y. TakesFirst IsFit v y w) (sym (e ∙ ap (head_of x) t.1)) t.2

  pub put : (v w : PortAccount G (Claim H)) (p : PooledClaim H) → (c : Claim H) × (claims_of (p ∷ []) ≡ c ∷ []) × PutsLast IsFit v c w
      → PutsLast IsFit v p.claim w
  unfolding head_of
  put v w p t = subst (λ y. PutsLast IsFit v y w) (sym (ap (head_of p.claim) t.1)) t.2

-- a pass stays one of its deque
pub same_deque : {T A V : Type 0} (deque : RowsId × A) (old new : Pass T V A) → IsPassOf deque old → SamePass old new → IsPassOf deque new
same_deque deque old new is same = (same.0 ∙ is.0, same.1 ∙ is.1, same.3, same.4)
