-- A port that takes, and its batch: what was taken from the fifo was given, or is in the batch.
use Rattle.std.proofs.Common.{◌≡◌, ℕ, ◌<◌, ⊎_elim, ◌==◌, List, [], ◌∷◌, ◌++◌, length, sym, refl, ap, ◌∙◌, subst, arith, append_assoc, append-nil, Option, Some, None, Result, Ok, Err}
use Rattle.std.specs.List.{All}
use Rattle.std.specs.Prelude.{MatchResult}
use Rattle.std.proofs.lemmas.List.Elements.{All-head, All-tail, filter-append}
use Rattle.mb_msg.specs.declared.envelope.Envelope.{Envelope}
use Rattle.mb_queue.specs.declared.ledger.Account.{Account}
use Rattle.mb_queue.specs.declared.ledger.Ledger.{Ledger}
use Rattle.mb_queue.specs.declared.ledger.Ledger.TheVariants.{Sender, Taker, Spent}
use Rattle.mb_queue.specs.declared.ledger.Scope.{Scope}
use Rattle.mb_queue.specs.Batches.{giving, given_by, taking_all, AccountsBegin, FoundBatch, IsBatchOf, IsBatched}
use Rattle.mb_queue.specs.Ledger.{borrowing, joining, lending, lent, sent_by, taking, IsSender, IsTaker, IsUnused, MayLend}
use Rattle.mb_queue.specs.Port.{FifoPort}
use Rattle.mb_queue.specs.Representation.{gone_of, scope_in}
use Rattle.mb_queue.specs.Rule.{Belongs, FifoAllBegin, FifoAllOut, FoundEmpty, FoundNext}
use Rattle.mb_queue.proofs.Lists.{account-cases, none_known}

-- an account that begins with what was taken begins with the first part of it
begins_shorter : (accounts : List Account) (xs ys : List Envelope) → FifoAllBegin accounts (xs ++ ys) → FifoAllBegin accounts xs
begins_shorter accounts xs ys begins = λ s pushed its. let r = begins s pushed its in (
  sent_by s ys ++ r.0,
  r.1 ∙ ap (λ (l : List Envelope). l ++ r.0) (filter-append (λ (e : Envelope). e.by.0 == s) xs ys) ∙ append_assoc (sent_by s xs) (sent_by s ys) r.0,
)

-- a port that only takes, as its owner knows it
pub takes_still : (v : Ledger) (given : List Envelope) → IsTaker (giving v given) → IsTaker v
takes_still (Sender scope by pushed) given is = is
takes_still (Taker scope taken accounts) given is = tt
takes_still Spent given is = is

module _ (capacity : Option ℕ) where
  -- the next of the batch is given

  pub next_kept : (v : Ledger) (batch given rest : List Envelope) (e : Envelope) → IsBatchOf capacity batch given v → batch ≡ e ∷ rest
      → IsBatchOf capacity rest (given ++ e ∷ []) v
  next_kept (Sender scope by pushed) batch given rest e kept is = absurd kept
  next_kept (Taker scope taken accounts) batch given rest e kept is =
      let some : 0 < length batch = subst (λ (l : List Envelope). 0 < length l) (sym is) (omega arith) in (
        kept.0 ∙ ap (λ (l : List Envelope). given ++ l) is ∙ sym (append_assoc given (e ∷ []) rest),
        All-tail (Belongs scope) e rest (subst (All (Belongs scope)) is kept.1),
        λ _. kept.2 some,
      )
  next_kept Spent batch given rest e kept is = absurd kept

  pub next_found : (v : Ledger) (batch given rest : List Envelope) (e : Envelope) → IsBatchOf capacity batch given v → batch ≡ e ∷ rest
      → FoundNext (giving v given) e
  next_found (Sender scope by pushed) batch given rest e kept is = absurd kept
  next_found (Taker scope taken accounts) batch given rest e kept is =
      let some : 0 < length batch = subst (λ (l : List Envelope). 0 < length l) (sym is) (omega arith) in
      let all : taken ≡ (given ++ e ∷ []) ++ rest = kept.0 ∙ ap (λ (l : List Envelope). given ++ l) is ∙ sym (append_assoc given (e ∷ []) rest) in (
        All-head (Belongs scope) e rest (subst (All (Belongs scope)) is kept.1),
        begins_shorter accounts (given ++ e ∷ []) rest (subst (FifoAllBegin accounts) all (kept.2 some).1),
      )
  next_found Spent batch given rest e kept is = absurd kept

  -- the batch is filled, and its first is given

  pub filled_kept : (v : Ledger) (given rest : List Envelope) (e : Envelope) → IsBatchOf capacity [] given v → FoundBatch v (e ∷ rest)
      → (0 < length rest → capacity ≡ None) → IsBatchOf capacity rest (given ++ e ∷ []) (taking_all v (e ∷ rest))
  filled_kept (Sender scope by pushed) given rest e kept found no_bound = absurd kept
  filled_kept (Taker scope taken accounts) given rest e kept found no_bound = (
    ap (λ (l : List Envelope). l ++ e ∷ rest) (kept.0 ∙ append-nil given) ∙ sym (append_assoc given (e ∷ []) rest),
    All-tail (Belongs scope) e rest found.0,
    λ some. (no_bound some, found.1),
  )
  filled_kept Spent given rest e kept found no_bound = absurd kept

  pub filled_found : (v : Ledger) (given rest : List Envelope) (e : Envelope) → IsBatchOf capacity [] given v → FoundBatch v (e ∷ rest)
      → FoundNext (giving v given) e
  filled_found (Sender scope by pushed) given rest e kept found = absurd kept
  filled_found (Taker scope taken accounts) given rest e kept found =
      let all : taken ++ e ∷ rest ≡ (given ++ e ∷ []) ++ rest =
      ap (λ (l : List Envelope). l ++ e ∷ rest) (kept.0 ∙ append-nil given) ∙ sym (append_assoc given (e ∷ []) rest) in (
        All-head (Belongs scope) e rest found.0,
        begins_shorter accounts (given ++ e ∷ []) rest (subst (FifoAllBegin accounts) all found.1),
      )
  filled_found Spent given rest e kept found = absurd kept

  -- there is none

  pub none_found : (v : Ledger) (given : List Envelope) → IsBatchOf capacity [] given v → FoundEmpty v → FoundEmpty (giving v given)
  none_found (Sender scope by pushed) given kept found = absurd kept
  none_found (Taker scope taken accounts) given kept found = subst (FifoAllOut accounts) (kept.0 ∙ append-nil given) found
  none_found Spent given kept found = absurd kept

  -- before the fifo is open, the batch is empty

  pub unused_batch : (v : Ledger) (batch given : List Envelope) → IsBatchOf capacity batch given v → IsUnused (giving v given) → batch ≡ []
  unused_batch (Sender scope by pushed) batch given kept is = absurd kept
  unused_batch (Taker scope taken accounts) batch given kept is =
      none_known scope batch (ap (λ (u : Ledger). (scope_in u).senders) is) kept.1
  unused_batch Spent batch given kept is = absurd kept

  pub unused_port : (v : Ledger) (batch given : List Envelope) → IsBatchOf capacity batch given v → IsUnused (giving v given) → IsUnused v
  unused_port (Sender scope by pushed) batch given kept is = absurd kept
  unused_port (Taker scope taken accounts) batch given kept is =
      let none : batch ≡ [] = unused_batch (Taker scope taken accounts) batch given kept is in
      let same : taken ≡ given = kept.0 ∙ ap (λ (l : List Envelope). given ++ l) none ∙ append-nil given in
      ap (λ (l : List Envelope). Taker scope l accounts) same ∙ is
  unused_port Spent batch given kept is = absurd kept

  pub opened_kept : (scope : Scope) (v : Ledger) (batch given : List Envelope) → IsBatchOf capacity batch given v → IsUnused (giving v given)
      → IsBatchOf capacity batch given (Taker scope [] [])
  opened_kept scope (Sender scope' by pushed) batch given kept is = absurd kept
  opened_kept scope (Taker scope' taken accounts) batch given kept is =
      let none : batch ≡ [] = unused_batch (Taker scope' taken accounts) batch given kept is in
      let nothing : given ≡ [] = ap gone_of is in (
        (λ i. sym nothing i ++ sym none i),
        subst (All (Belongs scope)) (sym none) (λ k x lt. absurd (omega arith)),
        λ some. let empty : length batch ≡ 0 = ap length none in absurd (omega (arith, some, empty)),
      )
  opened_kept scope Spent batch given kept is = absurd kept

  -- an account is lent

  pub lent_kept : (s : ℕ) (v : Ledger) (batch given : List Envelope) → IsBatchOf capacity batch given v → IsBatchOf capacity batch given (lending s v)
  lent_kept s (Sender scope by pushed) batch given kept = absurd kept
  lent_kept s (Taker scope taken accounts) batch given kept = (
    kept.0,
    kept.1,
    λ some. (
      (kept.2 some).0,
      λ x pushed its. ⊎_elim (λ same. let no : None ≡ Some pushed = same.1 in absurd cc) (λ other. (kept.2 some).1 x pushed other.1)
          (account-cases accounts (lent s) x pushed its),
    ),
  )
  lent_kept s Spent batch given kept = absurd kept

  -- a port is joined

  pub joined_kept : (v own : Ledger) (batch given : List Envelope) → IsBatchOf capacity batch given v → IsSender own
      → (capacity ≡ None → AccountsBegin (joining v own)) → IsBatchOf capacity batch given (joining v own)
  joined_kept (Sender scope by pushed) own batch given kept is begins = absurd kept
  joined_kept (Taker scope taken accounts) (Sender scope' by pushed) batch given kept is begins =
      (kept.0, kept.1, λ some. ((kept.2 some).0, begins (kept.2 some).0))
  joined_kept (Taker scope taken accounts) (Taker scope' taken' accounts') batch given kept is begins = absurd is
  joined_kept (Taker scope taken accounts) Spent batch given kept is begins = absurd is
  joined_kept Spent own batch given kept is begins = absurd kept

-- what the owner knows, through each step

pub giving_next : (v : Ledger) (given : List Envelope) (e : Envelope) → giving v (given ++ e ∷ []) ≡ taking (giving v given) e
giving_next (Sender scope by pushed) given e = refl
giving_next (Taker scope taken accounts) given e = refl
giving_next Spent given e = refl

pub giving_filled : (v : Ledger) (given es : List Envelope) (e : Envelope) → giving (taking_all v es) (given ++ e ∷ []) ≡ taking (giving v given) e
giving_filled (Sender scope by pushed) given es e = refl
giving_filled (Taker scope taken accounts) given es e = refl
giving_filled Spent given es e = refl

pub may_lend_still : (s : ℕ) (v : Ledger) (given : List Envelope) → MayLend s (giving v given) → MayLend s v
may_lend_still s (Sender scope by pushed) given may = may
may_lend_still s (Taker scope taken accounts) given may = may
may_lend_still s Spent given may = may

pub giving_lent : (s : ℕ) (v : Ledger) (given : List Envelope) → giving (lending s v) given ≡ lending s (giving v given)
giving_lent s (Sender scope by pushed) given = refl
giving_lent s (Taker scope taken accounts) given = refl
giving_lent s Spent given = refl

pub giving_borrowed : (s : ℕ) (v : Ledger) (given : List Envelope) → borrowing s v ≡ borrowing s (giving v given)
giving_borrowed s (Sender scope by pushed) given = refl
giving_borrowed s (Taker scope taken accounts) given = refl
giving_borrowed s Spent given = refl

pub giving_joined : (v own : Ledger) (given : List Envelope) → IsSender own → giving (joining v own) given ≡ joining (giving v given) own
giving_joined (Sender scope by pushed) own given is = refl
giving_joined (Taker scope taken accounts) (Sender scope' by pushed) given is = refl
giving_joined (Taker scope taken accounts) (Taker scope' taken' accounts') given is = absurd is
giving_joined (Taker scope taken accounts) Spent given is = absurd is
giving_joined Spent (Sender scope' by pushed) given is = refl
giving_joined Spent (Taker scope' taken' accounts') given is = absurd is
giving_joined Spent Spent given is = absurd is

-- the same of the port

pub next_given : (port old : FifoPort) (batch given given' rest : List Envelope) (e : Envelope) → given_by port given ≡ old → IsBatched port batch given
    → batch ≡ e ∷ rest → given' ≡ given ++ e ∷ [] → (given_by port given' ≡ record old { ledger = taking old.ledger e }) × FoundNext old.ledger e
next_given port old batch given given' rest e seen kept is gave =
    subst (λ (p : FifoPort). (given_by port given' ≡ record p { ledger = taking p.ledger e }) × FoundNext p.ledger e) seen (
      (λ i. record { fifo = port.fifo; ledger = (ap (giving port.ledger) gave ∙ giving_next port.ledger given e) i }),
      next_found port.fifo.capacity port.ledger batch given rest e kept is,
    )

module _ (port port' : FifoPort) (given given' rest : List Envelope) (e : Envelope) (kept : IsBatched port [] given)
    (took : port' ≡ record port { ledger = taking_all port.ledger (e ∷ rest) }) (found : FoundBatch port.ledger (e ∷ rest))
    (no_bound : 0 < length rest → port.fifo.capacity ≡ None) (gave : given' ≡ given ++ e ∷ []) where
  pub filled_stays : IsBatched port' rest given'
  filled_stays = subst (λ (y : FifoPort × List Envelope). IsBatched y.0 rest y.1) (λ i. (sym took i, sym gave i))
      (filled_kept port.fifo.capacity port.ledger given rest e kept found no_bound)

  pub filled_given : (old : FifoPort) → given_by port given ≡ old → (given_by port' given' ≡ record old { ledger = taking old.ledger e }) × FoundNext old.ledger e
  filled_given old seen = subst (λ (p : FifoPort). (given_by port' given' ≡ record p { ledger = taking p.ledger e }) × FoundNext p.ledger e) seen (
    (λ i. given_by (took i) (gave i)) ∙ (λ i. record { fifo = port.fifo; ledger = giving_filled port.ledger given (e ∷ rest) e i }),
    filled_found port.fifo.capacity port.ledger given rest e kept found,
  )

pub lent_stays : {E : Type 0} (port port' : FifoPort) (batch given : List Envelope) (s : ℕ) (result : Result FifoPort E) → IsBatched port batch given
    → MatchResult result
    (λ other. (port' ≡ record port { ledger = lending s port.ledger }) × (other ≡ record port { ledger = borrowing s port.ledger })) (λ _. port' ≡ port)
    → IsBatched port' batch given
lent_stays port port' batch given s (Ok other) kept lends =
    subst (λ (p : FifoPort). IsBatched p batch given) (sym lends.0) (lent_kept port.fifo.capacity s port.ledger batch given kept)
lent_stays port port' batch given s (Err _) kept lends = subst (λ (p : FifoPort). IsBatched p batch given) (sym lends) kept
