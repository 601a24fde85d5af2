-- The handles' and the feeds' ports of one queue are joined, one after the other.
use Rattle.std.proofs.Common.{◌≡◌, List, [], ◌∷◌, ◌++◌, length, sym, ap, ◌∙◌, subst, arith, append-nil}
use Rattle.std.specs.Prelude.{All, Option}
use Rattle.mb_gate.specs.declared.claim.Claim.{Claim}
use Rattle.mb_pool.specs.Handles.{Empties, TakesIn, shared_ports_of, joined, owns_of, where_is}
use Rattle.mb_gate.specs.Untouched.{Origin}
use Rattle.mb_pool.specs.Places.{PoolPort, PoolEndpoint, gates_of}
use Rattle.mb_pool.specs.Endpoints.{HasShare}
use Rattle.mb_pool.proofs.Ending.{alike_next, both_share, same_place}
use Rattle.mb_pool.proofs.Wholes.{one_more_shared_port, one_more_own}

-- nothing is to come any longer
pub drained : {X : Type 0} (done rest all : List X) → length rest ≡ 0 → done ++ rest ≡ all → done ≡ all
drained done [] all none e = sym (append-nil done) ∙ e
drained done (x ∷ rest) all none e = absurd (omega (arith, none))

module _ {H : Type 0} (IsFit : Option (Origin H) → Claim H → Type 0) (base shared_port other new : PoolPort H) (all done rest : List (PoolEndpoint H)) (handle : PoolEndpoint H)
    (list : done ++ handle ∷ rest ≡ all)
    (alike : All (λ (l : PoolPort H). where_is l ≡ where_is base) (shared_ports_of all)) (took : TakesIn base (shared_ports_of done) shared_port)
    (same : other ≡ handle.shared_port) where
  end_here : where_is handle.shared_port ≡ where_is base
  end_here = alike_next base all done rest handle list alike

  -- the next one's port is of the same queue
  pub here : other.queue ≡ shared_port.queue
  here = same_place base shared_port other took.same (ap (where_is {H = H}) same ∙ end_here)

  -- once it is joined
  pub takes_next : new ≡ joined shared_port other → TakesIn base (shared_ports_of (done ++ handle ∷ [])) new
  takes_next n = subst (λ (l : PoolPort H). TakesIn base (shared_ports_of (done ++ handle ∷ [])) l) (sym n)
      (one_more_shared_port IsFit base shared_port other done handle took same)

  pub share_next : new ≡ joined shared_port other → HasShare shared_port → HasShare other → HasShare new
  share_next n mine theirs = subst (λ (l : PoolPort H). HasShare l) (sym n) (both_share shared_port other mine theirs)

  -- and its own deque was emptied
  pub empties_next : (old mid now : List (Claim H)) → Empties IsFit base.ledger.gates (owns_of done) old mid
      → Empties IsFit (gates_of handle) handle.own_deque mid now
      → Empties IsFit base.ledger.gates (owns_of (done ++ handle ∷ [])) old now
  empties_next old mid now p q = one_more_own IsFit base done handle old mid now p end_here q
