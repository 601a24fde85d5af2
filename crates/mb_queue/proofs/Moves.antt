-- Each step of a fifo keeps its rule.
use Rattle.std.proofs.Common.{◌≡◌, ◌≢◌, ℕ, ◌==◌, List, [], ◌∷◌, ◌++◌, length, set, sym, refl, ap, ◌∙◌, subst, ⊎_elim}
use Rattle.std.proofs.Common.{append_assoc, arith, suc, ◌⊎◌, Some, None}
use Rattle.std.specs.List.{All, Contains}
use Rattle.std.proofs.lemmas.List.{append-nil}
use Rattle.std.proofs.lemmas.List.Elements.{filter-append, All-contains, All-push, Contains-append_right}
use mathlib.Core.Option.{some, some-ne-none}
use lib.ListN.{get_elem?}
use Rattle.crossbeam_queue.specs.Fifo.{Pushes, Pops, Forks, Merges, Learns}
use Rattle.crossbeam_queue.proofs.Lists.{at_set}
use Rattle.mb_msg.specs.declared.envelope.Envelope.{Envelope}
use Rattle.mb_queue.specs.declared.ledger.Ledger.{Ledger}
use Rattle.mb_queue.specs.declared.ledger.Scope.{Scope}
use Rattle.mb_queue.specs.declared.ledger.Ledger.TheVariants.{Sender, Taker, Spent}
use Rattle.mb_queue.specs.Ledger.{sent_by, lent, home, IsOfPart, IsSender, IsTaker, MayLend, MayPush, unsettled, pushing, taking, lending}
use Rattle.mb_queue.specs.Batches.{pushing_all, taking_all, AccountsBegin, FoundAll}
use Rattle.mb_queue.specs.Ledger.{borrowing, joining}
use Rattle.mb_queue.specs.Rule.{Belongs, LedgerAgrees, FifoHolds, FoundFull, FoundEmpty, FoundNext}
use Rattle.mb_queue.proofs.Lists.{Each, each_set, each_more, at_end, handed, handed-same, handed-other, sent_by-mine, sent_by-other, account-cases}
use Rattle.mb_queue.proofs.Lists.{none_known, none_within, All-behind}
use Rattle.crossbeam_queue.proofs.Lists.{set_again}

module _ (scope : Scope) (holder : ℕ → ℕ) (taker : ℕ) (taken all : List Envelope) where
  abbrev Now : ℕ → Ledger → Type 0
  Now = LedgerAgrees scope holder taker taken all

  -- a push by the holder of its sender's account changes nothing for the other ports
  push_else : (e : Envelope) (port j : ℕ) (u : Ledger) → port ≡ holder e.by.0 → j ≢ port → Now j u
      → LedgerAgrees scope holder taker taken (all ++ e ∷ []) j u
  push_else e port j (Sender ours by pushed) at ne f =
      (f.0, f.1, f.2, f.3 ∙ sym (sent_by-other by all e (λ same. ne (f.2 ∙ ap holder same ∙ sym at))))
  push_else e port j (Taker ours gone accounts) at ne f =
      (f.0, f.1, f.2, λ s l is. let r = f.3 s l is in (r.0, r.1 ∙ sym (sent_by-other s all e (λ same. ne (r.0 ∙ ap holder same ∙ sym at)))))
  push_else e port j Spent at ne f = tt

  -- a take changes nothing for them
  take_else : (more : List Envelope) (port j : ℕ) (u : Ledger) → port ≡ taker → j ≢ port → Now j u → LedgerAgrees scope holder taker more all j u
  take_else more port j (Sender ours by pushed) at ne f = f
  take_else more port j (Taker ours gone accounts) at ne f = absurd (ne (f.1 ∙ sym at))
  take_else more port j Spent at ne f = tt

  -- nor does an account that goes to another port than these
  hand_else : (s from to j : ℕ) (u : Ledger) → from ≡ holder s → j ≢ from → Now j u → LedgerAgrees scope (handed holder s to) taker taken all j u
  hand_else s from to j (Sender ours by pushed) at ne f =
      (f.0, f.1, f.2 ∙ handed-other holder s to by (λ same. ne (f.2 ∙ ap holder same ∙ sym at)), f.3)
  hand_else s from to j (Taker ours gone accounts) at ne f =
      (f.0, f.1, f.2, λ x l is. let r = f.3 x l is in (r.0 ∙ handed-other holder s to x (λ same. ne (r.0 ∙ ap holder same ∙ sym at)), r.1))
  hand_else s from to j Spent at ne f = tt

module _ (scope before : Scope) (holder : ℕ → ℕ) (taker : ℕ) (taken all : List Envelope) where
  -- before the scope is fixed no other port knows anything
  open_else : (port j : ℕ) (u : Ledger) → before.senders ≡ [] → port ≡ taker → j ≢ port → LedgerAgrees before holder taker taken all j u
      → LedgerAgrees scope holder taker taken all j u
  open_else port j (Sender ours by pushed) none at ne f = absurd (none_within before.senders by none f.1)
  open_else port j (Taker ours gone accounts) none at ne f = absurd (ne (f.1 ∙ sym at))
  open_else port j Spent none at ne f = tt

no_items : (items : List Envelope) → length items ≡ 0 → items ≡ []
no_items [] none = refl
no_items (x ∷ items) none = absurd (omega arith)

pub begins : FifoHolds [] (Taker unsettled [] [] ∷ [])
begins = record {
  scope = unsettled;
  holder = λ _. 0;
  taker = 0;
  taken = [];
  known = λ k x h. absurd (omega arith);
  fits = λ port u e. ⊎_elim (λ h. absurd (some-ne-none u (sym h)))
      (λ h. subst (λ (y : ℕ × Ledger). LedgerAgrees unsettled (λ _. 0) 0 [] [] y.0 y.1) (λ i. (sym h.0 i, h.1 i))
      (refl, refl, refl, λ s l is. (refl, let q : Some [] ≡ Some l = is in cc))) (at_end [] (Taker unsettled [] []) u port e);
}

pub pushes : (n port : ℕ) (v : Ledger) (x : Envelope) → MayPush x v → Pushes FifoHolds n port v x (λ w. w ≡ pushing v x)
pushes n port (Sender ours by pushed) x may = λ items views room h at.
    let mine = h.fits port (Sender ours by pushed) at in
    let all : List Envelope = h.taken ++ items in
    let more : (h.taken ++ (items ++ x ∷ [])) ≡ all ++ x ∷ [] = sym (append_assoc h.taken items (x ∷ [])) in
    let at_x : port ≡ h.holder x.by.0 = mine.2 ∙ ap h.holder may.0 in
    let F : List Envelope → ℕ → Ledger → Type 0 = λ l. LedgerAgrees h.scope h.holder h.taker h.taken l in (
      Sender ours by (pushed ++ x ∷ []),
      record {
        scope = h.scope;
        holder = h.holder;
        taker = h.taker;
        taken = h.taken;
        known = subst (All (Belongs h.scope)) (sym more) (All-push (Belongs h.scope) all x h.known (
          subst (Contains h.scope.senders) may.0 mine.1,
          subst (λ (l : Scope). x.to.0 ≡ l.to) mine.0 may.1,
          subst (λ (l : Scope). IsOfPart l.part x) mine.0 may.2,
        ));
        fits = subst (λ l. Each (F l) (set views port (Sender ours by (pushed ++ x ∷ [])))) (sym more)
            (each_set (F (all ++ x ∷ [])) views port (Sender ours by (pushed ++ x ∷ []))
            (mine.0, mine.1, mine.2, ap (λ l. l ++ x ∷ []) mine.3 ∙ sym (sent_by-mine by all x may.0))
            (λ j u ne e. push_else h.scope h.holder h.taker h.taken all x port j u at_x ne (h.fits j u e)));
      },
      refl,
    )
pushes n port (Taker ours gone accounts) x may = absurd may
pushes n port Spent x may = absurd may

pub takes : (port : ℕ) (v : Ledger) → IsTaker v → Pops FifoHolds port v (λ x w. (w ≡ taking v x) × FoundNext v x)
takes port (Sender ours by pushed) is = absurd is
takes port (Taker ours gone accounts) is = λ x items views h at.
    let mine = h.fits port (Taker ours gone accounts) at in
    let more : h.taken ++ (x ∷ items) ≡ (h.taken ++ x ∷ []) ++ items = sym (append_assoc h.taken (x ∷ []) items) in
    let taken : List Envelope = h.taken ++ x ∷ [] in
    let F : List Envelope → ℕ → Ledger → Type 0 = λ l. LedgerAgrees h.scope h.holder h.taker taken l in
    let all : List Envelope = h.taken ++ (x ∷ items) in (
      Taker ours (gone ++ x ∷ []) accounts,
      record {
        scope = h.scope;
        holder = h.holder;
        taker = h.taker;
        taken = taken;
        known = subst (All (Belongs h.scope)) more h.known;
        fits = subst (λ l. Each (F l) (set views port (Taker ours (gone ++ x ∷ []) accounts))) more
            (each_set (F all) views port (Taker ours (gone ++ x ∷ []) accounts)
            (mine.0, mine.1, ap (λ l. l ++ x ∷ []) mine.2, mine.3)
            (λ j u ne e. take_else h.scope h.holder h.taker h.taken all taken port j u mine.1 ne (h.fits j u e)));
      },
      (
        refl,
        (
          subst (λ (l : Scope). Belongs l x) (sym mine.0)
              (All-contains (Belongs h.scope) all x h.known (Contains-append_right h.taken (x ∷ items) x (0, omega arith, refl))),
          λ s pushed its. (
            sent_by s items,
            (mine.3 s pushed its).1 ∙ ap (sent_by s) more ∙ filter-append (λ (e : Envelope). e.by.0 == s) taken items
                ∙ ap (λ l. sent_by s (l ++ x ∷ []) ++ sent_by s items) (sym mine.2),
          ),
        ),
      ),
    )
takes port Spent is = absurd is

pub opens : (scope : Scope) (port : ℕ) (v : Ledger) → v ≡ Taker unsettled [] [] → Forks FifoHolds port v (Taker scope [] []) Spent
opens scope port v is items views h at' =
    let at : get_elem? views port ≡ some (Taker unsettled [] []) = subst (λ (y : Ledger). get_elem? views port ≡ some y) is at' in
    let mine = h.fits port (Taker unsettled [] []) at in let none : h.scope.senders ≡ [] = ap (λ (l : Scope). l.senders) (sym mine.0) in
    let all : List Envelope = h.taken ++ items in let left : Ledger = Taker scope [] [] in
    let F : ℕ → Ledger → Type 0 = LedgerAgrees scope h.holder h.taker h.taken all in record {
      scope = scope;
      holder = h.holder;
      taker = h.taker;
      taken = h.taken;
      known = subst (All (Belongs scope)) (sym (none_known h.scope all none h.known)) (λ k x lt. absurd (omega arith));
      fits = each_more F (set views port left) Spent
          (each_set F views port left (refl, mine.1, mine.2, mine.3)
          (λ j u ne e. open_else scope h.scope h.holder h.taker h.taken all port j u none mine.1 ne (h.fits j u e))) tt;
    }

pub lends : (s port : ℕ) (v : Ledger) → MayLend s v → Forks FifoHolds port v (lending s v) (borrowing s v)
lends s port (Sender ours by pushed) may = absurd may
lends s port (Taker ours gone accounts) may = λ items views h at.
    let mine = h.fits port (Taker ours gone accounts) at in let had = mine.3 s [] may.1 in
    let all : List Envelope = h.taken ++ items in let left : Ledger = Taker ours gone (accounts ++ lent s ∷ []) in
    let to : ℕ = length (set views port left) in
    let F : ℕ → Ledger → Type 0 = LedgerAgrees h.scope (handed h.holder s to) h.taker h.taken all in record {
      scope = h.scope;
      holder = handed h.holder s to;
      taker = h.taker;
      taken = h.taken;
      known = h.known;
      fits = each_more F (set views port left) (Sender ours s [])
          (each_set F views port left (
            mine.0,
            mine.1,
            mine.2,
            λ x l is. ⊎_elim (λ same. let no : None ≡ Some l = same.1 in absurd cc)
                (λ other. let r = mine.3 x l other.1 in (r.0 ∙ handed-other h.holder s to x other.0, r.1)) (account-cases accounts (lent s) x l is),
          )
          (λ j u ne e. hand_else h.scope h.holder h.taker h.taken all s port to j u had.0 ne (h.fits j u e)))
          (mine.0, subst (λ (l : Scope). Contains l.senders s) mine.0 may.0, handed-same h.holder s to, had.1);
    }
lends s port Spent may = absurd may

pub joins : (port : ℕ) (v : Ledger) (other : ℕ) (w : Ledger) → IsTaker v → IsSender w → Merges FifoHolds port v other w (joining v w) Spent
joins port (Sender ours by pushed) other w is by_s = absurd is
joins port (Taker ours gone accounts) other (Sender ours' by pushed) is by_s = λ items views h at two at'.
    let both : Ledger = Taker ours gone (accounts ++ home by pushed ∷ []) in
    let mine = h.fits port (Taker ours gone accounts) at in
    let was : get_elem? views other ≡ some (Sender ours' by pushed) =
    ⊎_elim (λ x. absurd (two x.0)) (λ x. x.1) (at_set views port other both (Sender ours' by pushed) at') in
    let theirs = h.fits other (Sender ours' by pushed) was in
    let all : List Envelope = h.taken ++ items in
    let F : ℕ → Ledger → Type 0 = LedgerAgrees h.scope (handed h.holder by port) h.taker h.taken all in
    let G : ℕ → Ledger → Type 0 = λ j u. j ≢ other → F j u in
    let now : Each G (set views port both) = each_set G views port both
    (λ apart. (
      mine.0,
      mine.1,
      mine.2,
      λ x l its. ⊎_elim
          (λ same. let q : Some pushed ≡ Some l = same.1 in let r : pushed ≡ l = cc in
          (handed-same h.holder by port ∙ ap (handed h.holder by port) (sym same.0), sym r ∙ theirs.3 ∙ ap (λ y. sent_by y all) (sym same.0)))
          (λ old. let r = mine.3 x l old.1 in (r.0 ∙ handed-other h.holder by port x old.0, r.1)) (account-cases accounts (home by pushed) x l its),
    ))
    (λ j u ne e apart. hand_else h.scope h.holder h.taker h.taken all by other port j u theirs.2 apart (h.fits j u e)) in record {
      scope = h.scope;
      holder = handed h.holder by port;
      taker = h.taker;
      taken = h.taken;
      known = h.known;
      fits = each_set F (set views port both) other Spent tt (λ j u apart e. now j u e apart);
    }
joins port (Taker ours gone accounts) other (Taker ours' gone' accounts') is by_s = absurd by_s
joins port (Taker ours gone accounts) other Spent is by_s = absurd by_s
joins port Spent other w is by_s = absurd is

pub full : (port : ℕ) (v : Ledger) (x : Envelope) → MayPush x v → Learns FifoHolds port v (λ items. FoundFull (length items) v)
full port (Sender ours by pushed) x may = λ items views h at. let mine = h.fits port (Sender ours by pushed) at in
    (h.taken, items, refl, subst (λ l. All (Belongs l) (h.taken ++ items)) (sym mine.0) h.known, mine.3)
full port (Taker ours gone accounts) x may = absurd may
full port Spent x may = absurd may

pub empty : (port : ℕ) (v : Ledger) → IsTaker v → Learns FifoHolds port v (λ items. length items ≡ 0 → FoundEmpty v)
empty port (Sender ours by pushed) is = absurd is
empty port (Taker ours gone accounts) is = λ items views h at none s l its. let mine = h.fits port (Taker ours gone accounts) at in
    (mine.3 s l its).1 ∙ ap (λ y. sent_by s (h.taken ++ y)) (no_items items none) ∙ ap (sent_by s) (append-nil h.taken ∙ sym mine.2)
empty port Spent is = absurd is

-- several pushes and takes at once

pushing_none : (v : Ledger) → pushing_all v [] ≡ v
pushing_none (Sender scope by pushed) = ap (λ l. Sender scope by l) (append-nil pushed)
pushing_none (Taker scope taken accounts) = refl
pushing_none Spent = refl

pushing_one : (v : Ledger) (e : Envelope) → pushing_all v (e ∷ []) ≡ pushing v e
pushing_one (Sender scope by pushed) e = refl
pushing_one (Taker scope taken accounts) e = refl
pushing_one Spent e = refl

-- none or one of these envelopes is pushed
abbrev pub MayPushThese : List Envelope → Ledger → Type 0
MayPushThese es v = (es ≡ []) ⊎ ((e : Envelope) × (es ≡ e ∷ []) × MayPush e v)

pub pushes_these : (port : ℕ) (v : Ledger) (es : List Envelope) → MayPushThese es v → (items : List Envelope) (views : List Ledger) → FifoHolds items views
    → get_elem? views port ≡ some v → FifoHolds (items ++ es) (set views port (pushing_all v es))
pushes_these port v es may items views h at = ⊎_elim
    (λ none. subst (λ (x : List Envelope). FifoHolds (items ++ x) (set views port (pushing_all v x))) (sym none)
    (subst (λ (y : List Envelope × List Ledger). FifoHolds y.0 y.1)
    (λ i. (sym (append-nil items) i, sym (ap (set views port) (pushing_none v) ∙ set_again views port v at) i)) h))
    (λ one. let x : Envelope = one.0 in let r = pushes (suc (length items)) port v x one.2 items views (omega arith) h at in
    subst (λ (y : List Envelope). FifoHolds (items ++ y) (set views port (pushing_all v y))) (sym one.1)
    (subst (λ (w : Ledger). FifoHolds (items ++ x ∷ []) (set views port w)) (r.2 ∙ sym (pushing_one v x)) r.1))
    may

pub takes_all : (port : ℕ) (v : Ledger) → IsTaker v → (items : List Envelope) (views : List Ledger) → FifoHolds items views → get_elem? views port ≡ some v
    → FifoHolds [] (set views port (taking_all v items)) × FoundAll v items
takes_all port (Sender ours by pushed) is items views h at = absurd is
takes_all port (Taker ours gone accounts) is items views h at =
    let mine = h.fits port (Taker ours gone accounts) at in
    let all : List Envelope = h.taken ++ items in
    let none_left : all ≡ all ++ [] = sym (append-nil all) in
    let F : List Envelope → ℕ → Ledger → Type 0 = λ l. LedgerAgrees h.scope h.holder h.taker all l in (
      record {
        scope = h.scope;
        holder = h.holder;
        taker = h.taker;
        taken = all;
        known = subst (All (Belongs h.scope)) none_left h.known;
        fits = subst (λ l. Each (F l) (set views port (Taker ours (gone ++ items) accounts))) none_left
            (each_set (F all) views port (Taker ours (gone ++ items) accounts)
            (mine.0, mine.1, ap (λ l. l ++ items) mine.2, mine.3)
            (λ j u ne e. take_else h.scope h.holder h.taker h.taken all all port j u mine.1 ne (h.fits j u e)));
      },
      (
        subst (λ (l : Scope). All (Belongs l) items) (sym mine.0) (All-behind (Belongs h.scope) h.taken items h.known),
        λ s pushed its. (mine.3 s pushed its).1 ∙ ap (λ l. sent_by s (l ++ items)) (sym mine.2),
      ),
    )
takes_all port Spent is items views h at = absurd is

pub begun : (port : ℕ) (v : Ledger) → IsTaker v → Learns FifoHolds port v (λ _. AccountsBegin v)
begun port (Sender ours by pushed) is = absurd is
begun port (Taker ours gone accounts) is = λ items views h at s pushed its. let mine = h.fits port (Taker ours gone accounts) at in (
  sent_by s items,
  (mine.3 s pushed its).1 ∙ filter-append (λ (e : Envelope). e.by.0 == s) h.taken items ∙ ap (λ l. sent_by s l ++ sent_by s items) (sym mine.2),
)
begun port Spent is = absurd is
