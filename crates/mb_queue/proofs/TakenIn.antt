-- TakePassView envelopes from the fifo, one after another, to be held.
use Rattle.std.proofs.Common.{◌≡◌, ℕ, ◌+◌, List, [], ◌∷◌, ◌++◌, length, refl, sym, ap, ◌∙◌, subst, inl, inr, append_assoc, arith}
use Rattle.std.proofs.Common.{length-append, IsPermutation}
use Rattle.std.proofs.lemmas.List.{append-nil}
use Rattle.std.proofs.lemmas.List.Elements.{All-nil, All-push}
use Rattle.std.proofs.lemmas.List.Sorted.{IsPermutation-refl, IsPermutation-push_more}
use Rattle.mb_msg.specs.declared.envelope.Envelope.{Envelope}
use Rattle.mb_queue.specs.declared.ledger.Ledger.{Ledger}
use Rattle.mb_queue.specs.declared.ledger.Ledger.TheVariants.{Sender, Taker, Spent}
use Rattle.mb_queue.specs.Ledger.{taking, IsTaker}
use Rattle.mb_queue.specs.Port.{FifoPort}
use Rattle.mb_queue.specs.Rule as fifo
use Rattle.mb_msg.specs.declared.mailbox_type.RankRow.{RankRow}
use Rattle.mb_queue.specs.declared.waiting.Arrival.{Arrival}
use Rattle.mb_queue.specs.Rank.{rank_of}
use Rattle.mb_queue.specs.declared.priority_state.PriorityState.{PriorityState}
use Rattle.mb_queue.specs.Representation.{scope_in}
use Rattle.mb_queue.specs.Takes.{arrivals_from}
use Rattle.mb_queue.specs.Batches.{taking_all, AccountsBegin}
use Rattle.mb_queue.specs.Steps.{OneMore, TakesMore}

taking_all-none : (l : Ledger) → taking_all l [] ≡ l
taking_all-none (Sender scope by pushed) = refl
taking_all-none (Taker scope taken accounts) = ap (λ t. Taker scope t accounts) (append-nil taken)
taking_all-none Spent = refl

taking_all-more : (l : Ledger) (es : List Envelope) (e : Envelope) → taking (taking_all l es) e ≡ taking_all l (es ++ e ∷ [])
taking_all-more (Sender scope by pushed) es e = refl
taking_all-more (Taker scope taken accounts) es e = ap (λ t. Taker scope t accounts) (append_assoc taken es (e ∷ []))
taking_all-more Spent es e = refl

pub arrivals_from-more : (rows : List RankRow) (other number : ℕ) (es : List Envelope) (e : Envelope)
    → arrivals_from rows other number (es ++ e ∷ []) ≡ arrivals_from rows other number es
    ++ record { rank = rank_of rows other e.body; number = number + length es; envelope = e } ∷ []
arrivals_from-more rows other number [] e = let n : number ≡ number + 0 = omega arith in
    ap (λ k. record { rank = rank_of rows other e.body; number = k; envelope = e } ∷ []) n
arrivals_from-more rows other number (x ∷ es) e = let n : (number + 1) + length es ≡ number + length (x ∷ es) = omega arith in
    ap (λ l. record { rank = rank_of rows other x.body; number = number; envelope = x } ∷ l)
    (arrivals_from-more rows other (number + 1) es e
    ∙ ap (λ k. arrivals_from rows other (number + 1) es ++ record { rank = rank_of rows other e.body; number = k; envelope = e } ∷ []) n)

begins_next : (l : Ledger) (e : Envelope) → fifo.FoundNext l e → AccountsBegin (taking l e)
begins_next (Sender scope by pushed) e found = found
begins_next (Taker scope taken accounts) e found = found.1
begins_next Spent e found = found

-- the next envelope is of the fifo's scope
found_known : (l : Ledger) (e : Envelope) → fifo.FoundNext l e → fifo.Belongs (scope_in l) e
found_known (Sender scope by pushed) e found = absurd found
found_known (Taker scope taken accounts) e found = found.0
found_known Spent e found = absurd found

pub scope_all : (l : Ledger) (es : List Envelope) → scope_in (taking_all l es) ≡ scope_in l
scope_all (Sender scope by pushed) es = refl
scope_all (Taker scope taken accounts) es = refl
scope_all Spent es = refl

pub still_taker : (l : Ledger) (e : Envelope) → IsTaker l → IsTaker (taking l e)
still_taker (Sender scope by pushed) e is = is
still_taker (Taker scope taken accounts) e is = is
still_taker Spent e is = is

pub starts : (c : PriorityState) (port : FifoPort) → TakesMore c port c port
starts c port = record {
  fresh = [];
  ranks = refl;
  other = refl;
  next = omega arith;
  came = ap (λ l. record { fifo = port.fifo; ledger = l }) (sym (taking_all-none port.ledger));
  begins = inl refl;
  known = All-nil (fifo.Belongs (scope_in port.ledger));
  held = subst (λ l. IsPermutation l c.waiting) (sym (append-nil c.waiting)) (IsPermutation-refl c.waiting);
}

pub one_more : (old : PriorityState) (port : FifoPort) (mid : PriorityState) (port' : FifoPort) (new : PriorityState) (port'' : FifoPort) → TakesMore old port mid port'
    → OneMore mid port' new port'' → TakesMore old port new port''
one_more old port mid port' new port'' m o =
    let led : port'.ledger ≡ taking_all port.ledger m.fresh = ap (λ (p : FifoPort). p.ledger) m.came in
    let lan : port'.fifo ≡ port.fifo = ap (λ (p : FifoPort). p.fifo) m.came in
    let e : Envelope = o.envelope in let es : List Envelope = m.fresh in
    let item : Arrival = record { rank = rank_of old.ranks old.other e.body; number = old.next + length es; envelope = e } in
    let same : record { rank = rank_of mid.ranks mid.other e.body; number = mid.next; envelope = e } ≡ item
    = λ i. record { rank = rank_of (m.ranks i) (m.other i) e.body; number = m.next i; envelope = e } in record {
      fresh = es ++ e ∷ [];
      ranks = o.ranks ∙ m.ranks;
      other = o.other ∙ m.other;
      next = omega (arith, o.next, m.next, length-append es (e ∷ []));
      came = o.came.0 ∙ (λ i. record { fifo = lan i; ledger = (ap (λ l. taking l e) led ∙ taking_all-more port.ledger es e) i });
      begins = inr (subst (λ (p : FifoPort). AccountsBegin p.ledger) (sym o.came.0) (begins_next port'.ledger e o.came.1));
      known = All-push (fifo.Belongs (scope_in port.ledger)) es e m.known
          (subst (λ l. fifo.Belongs l e) (ap scope_in led ∙ scope_all port.ledger es) (found_known port'.ledger e o.came.1));
      held = subst (λ l. IsPermutation (old.waiting ++ l) new.waiting) (sym (arrivals_from-more old.ranks old.other old.next es e))
          (subst (λ l. IsPermutation l new.waiting) (append_assoc old.waiting (arrivals_from old.ranks old.other old.next es) (item ∷ []))
          (IsPermutation-push_more _ mid.waiting new.waiting item m.held (subst (λ x. IsPermutation (x ∷ mid.waiting) new.waiting) same o.held)));
    }
