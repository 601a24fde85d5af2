-- A worker that is alone takes its claims in the order in which they were pushed.
use Rattle.std.proofs.Common.{◌≡◌, ℕ, suc, ◌+◌, Bool, List, [], ◌∷◌, ◌++◌, length, get_or, drop}
use Rattle.std.proofs.Common.{Option, MatchResult, refl, sym, ap, ◌∙◌, subst, arith, append_assoc, append-nil}
use Rattle.std.specs.Prelude.{All, IsPermutation, Result, Ok, Err}
use Rattle.std.proofs.lemmas.List.Elements.{All-head, All-tail, All-cons, All-nil, All-weaker}
use Rattle.std.proofs.lemmas.List.Sorted.{All-permutation, length_permutation}
use Rattle.mb_gate.specs.declared.claim.Claim.{Claim}
use Rattle.mb_gate.specs.Untouched.{Origin}
use Rattle.mb_pool.specs.Account.{ClaimAccount}
use Rattle.mb_pool.specs.Ledger.{IndexedClaim, indexed, indexed_claim, indexed_from}
use Rattle.mb_pool.specs.Moves.{FindsOwnEmpty, PutsFirst, TakesOwn}
use Rattle.mb_pool.specs.OneWorker.{AreUnused, HasLeft, IsAlone, IsEarliest, IsInOrder}
use Rattle.mb_pool.specs.Places.{PoolEndpoint, PoolPort, ports_of}
use Rattle.mb_pool.specs.Rule.{QueueMoment, PutsLast, TakesFirst}
use Rattle.mb_pool.specs.WorkerPorts.{PutsClaim, RefusesClaim, TakesClaim, WorkerPortView, behind, kept, pooled}
use Rattle.mb_pool.proofs.Moves.{indexed_handle}
use Rattle.mb_pool.proofs.Ports.{all_right}

-- ---- claims with their indices

module _ {C : Type 0} where
  at-end : (before rest : List C) (c d : C) → get_or (before ++ c ∷ rest) (length before) d ≡ c
  at-end [] rest c d = refl
  at-end (b ∷ before) rest c d = at-end before rest c d

  one-more : (before : List C) (c : C) → length (before ++ c ∷ []) ≡ length before + 1
  one-more [] c = refl
  one-more (b ∷ before) c = let rest = one-more before c in omega (arith, rest)

  -- the claim of this index is this one
  abbrev Stands : List C → IndexedClaim C → Type 0
  Stands whole t = (d : C) → get_or whole t.number d ≡ t.claim

  indexed-own : (before xs : List C) → All (Stands (before ++ xs)) (indexed_from (length before) xs)
  indexed-own before [] = All-nil (Stands (before ++ []))
  indexed-own before (x ∷ xs) =
      All-cons (Stands (before ++ x ∷ xs)) (indexed_claim (length before) x) (indexed_from (length before + 1) xs) (at-end before xs x)
      (subst (λ (n : ℕ). All (Stands (before ++ x ∷ xs)) (indexed_from n xs)) (one-more before x)
      (subst (λ (l : List C). All (Stands l) (indexed_from (length (before ++ x ∷ [])) xs)) (append_assoc before (x ∷ []) xs)
      (indexed-own (before ++ x ∷ []) xs)))

  same-from : (before xs ys : List C) → length xs ≡ length ys → All (Stands (before ++ xs)) (indexed_from (length before) ys) → xs ≡ ys
  same-from before [] [] same all = refl
  same-from before [] (y ∷ ys) same all = absurd (omega (arith, same))
  same-from before (x ∷ xs) [] same all = absurd (omega (arith, same))
  same-from before (x ∷ xs) (y ∷ ys) same all =
      let first = All-head (Stands (before ++ x ∷ xs)) (indexed_claim (length before) y) (indexed_from (length before + 1) ys) all in
      let here : x ≡ y = sym (at-end before xs x x) ∙ first x in
      let later = All-tail (Stands (before ++ x ∷ xs)) (indexed_claim (length before) y) (indexed_from (length before + 1) ys) all in
      let rest : xs ≡ ys = same-from (before ++ x ∷ []) xs ys (omega (arith, same))
      (subst (λ (n : ℕ). All (Stands ((before ++ x ∷ []) ++ xs)) (indexed_from n ys)) (sym (one-more before x))
      (subst (λ (l : List C). All (Stands l) (indexed_from (length before + 1) ys)) (sym (append_assoc before (x ∷ []) xs)) later)) in
      (λ i. here i ∷ rest i)

  count-indexed : (n : ℕ) (xs : List C) → length (indexed_from n xs) ≡ length xs
  count-indexed n [] = refl
  count-indexed n (x ∷ xs) = ap suc (count-indexed (n + 1) xs)

  -- with their indices, they stand in one order alone
  indexed-same : (xs ys : List C) → IsPermutation (indexed xs) (indexed ys) → xs ≡ ys
  indexed-same xs ys moved =
      same-from [] xs ys (sym (count-indexed 0 xs) ∙ sym (length_permutation (indexed xs) (indexed ys) moved) ∙ count-indexed 0 ys)
      (All-permutation (Stands xs) (indexed xs) (indexed ys) moved (indexed-own [] xs))

  behind-same : (before xs ys : List C) → before ++ xs ≡ before ++ ys → xs ≡ ys
  behind-same [] xs ys same = same
  behind-same (b ∷ before) xs ys same = behind-same before xs ys (ap (drop 1) same)

-- ---- a queue of which only this port knows

module _ {H : Type 0} (IsFit : Option (Origin H) → Claim H → Type 0) (ledger : ClaimAccount H) (left : List (Claim H))
    (alone : ledger.shares ≡ ledger.members) (has : HasLeft ledger left) where
  -- what it held at a moment is what is left
  record Exact (items : List (Claim H)) (m : QueueMoment IsFit ledger items) : Type 0 where
    gone : has.gone ≡ m.gone
    held : left ≡ items

  exact : (items : List (Claim H)) (m : QueueMoment IsFit ledger items) → Exact items m
  exact items m =
      let none = m.alone alone in
      let came : IsPermutation (indexed (has.gone ++ left)) (indexed (m.gone ++ items))
      = subst (λ l. IsPermutation l (indexed (m.gone ++ items))) (ap (λ l. ledger.pushed ++ l) none.0 ∙ append-nil ledger.pushed ∙ has.pushed) m.came in
      let went : IsPermutation (indexed has.gone) (indexed m.gone)
      = subst (λ l. IsPermutation l (indexed m.gone)) (ap (λ l. ledger.taken ++ l) none.1 ∙ append-nil ledger.taken ∙ has.taken) m.went in
      let all = indexed-same (has.gone ++ left) (m.gone ++ items) came in
      let first = indexed-same has.gone m.gone went in
      record { gone = first; held = behind-same has.gone left items (all ∙ ap (λ l. l ++ items) (sym first)) }

  held-none : QueueMoment IsFit ledger [] → left ≡ []
  held-none m = (exact [] m).held

  held-last : (c : Claim H) (after : ClaimAccount H) → PutsLast IsFit ledger c after → HasLeft after (left ++ c ∷ [])
  held-last c after p =
      let e = exact p.0 p.1 in
      let all : p.1.gone ++ p.0 ≡ has.gone ++ left = (λ i. sym e.gone i ++ sym e.held i) in
      record {
        gone = has.gone;
        pushed = ap (λ (a : ClaimAccount H). a.pushed) p.2 ∙ ap (λ l. ledger.pushed ++ indexed_claim (length l) c ∷ []) all
            ∙ ap (λ l. l ++ indexed_claim (length (has.gone ++ left)) c ∷ []) has.pushed ∙ sym (indexed_handle (has.gone ++ left) c)
            ∙ ap (indexed {C = Claim H}) (append_assoc has.gone left (c ∷ []));
        taken = ap (λ (a : ClaimAccount H). a.taken) p.2 ∙ has.taken;
      }

  held-first : (c : Claim H) (after : ClaimAccount H) → TakesFirst IsFit ledger c after →
      (rest : List (Claim H)) × (left ≡ c ∷ rest) × HasLeft after rest
  held-first c after t =
      let e = exact (c ∷ t.0) t.1 in (
        t.0,
        e.held,
        record {
          gone = has.gone ++ c ∷ [];
          pushed = ap (λ (a : ClaimAccount H). a.pushed) t.2 ∙ has.pushed
              ∙ ap (indexed {C = Claim H}) (ap (λ l. has.gone ++ l) e.held ∙ sym (append_assoc has.gone (c ∷ []) t.0));
          taken = ap (λ (a : ClaimAccount H). a.taken) t.2 ∙ ap (λ l. ledger.taken ++ indexed_claim (length l) c ∷ []) (sym e.gone)
              ∙ ap (λ l. l ++ indexed_claim (length has.gone) c ∷ []) has.taken ∙ sym (indexed_handle has.gone c);
        },
      )

-- ---- the queues in which a handle looks

module _ {H : Type 0} where
  abbrev AloneAt : PoolPort H → Type 0
  AloneAt port = port.ledger.shares ≡ port.ledger.members

  abbrev NoneAt : PoolPort H → Type 0
  NoneAt port = HasLeft port.ledger []

  -- these are left in the first, and none in the others
  record Holds (ports : List (PoolPort H)) (left : List (Claim H)) : Type 0 where
    own : PoolPort H
    others : List (PoolPort H)
    are : ports ≡ own ∷ others
    has_left : HasLeft own.ledger left
    none_left : All NoneAt others

  first-same : (a b : PoolPort H) (xs ys : List (PoolPort H)) → a ∷ xs ≡ b ∷ ys → a ≡ b
  first-same a b xs ys same = ap (λ l. get_or l 0 a) same

  rest-same : (a b : PoolPort H) (xs ys : List (PoolPort H)) → a ∷ xs ≡ b ∷ ys → xs ≡ ys
  rest-same a b xs ys same = ap (drop 1) same

  -- the same, by the ports that another fact names
  holds-at : (ports : List (PoolPort H)) (left : List (Claim H)) (port : PoolPort H) (rest : List (PoolPort H)) → ports ≡ port ∷ rest →
      All AloneAt ports → Holds ports left → (port.ledger.shares ≡ port.ledger.members) × HasLeft port.ledger left × All NoneAt rest
  holds-at ports left port rest found alone h =
      let same = sym h.are ∙ found in (
        All-head AloneAt port rest (subst (All AloneAt) found alone),
        subst (λ (p : PoolPort H). HasLeft p.ledger left) (first-same h.own port h.others rest same) h.has_left,
        subst (All NoneAt) (rest-same h.own port h.others rest same) h.none_left,
      )

  module _ (IsFit : Option (Origin H) → Claim H → Type 0) where
    holds-none : (ports : List (PoolPort H)) (left : List (Claim H)) → All AloneAt ports → Holds ports left → FindsOwnEmpty IsFit ports → left ≡ []
    holds-none ports left alone h f =
        let at = holds-at ports left f.pool_port f.rest f.found alone h in
        held-none IsFit f.pool_port.ledger left at.0 at.1 f.empty

    holds-last : (ports new : List (PoolPort H)) (left : List (Claim H)) (c : Claim H) → All AloneAt ports → Holds ports left → PutsFirst IsFit ports c new →
        Holds new (left ++ c ∷ [])
    holds-last ports new left c alone h p =
        let at = holds-at ports left p.pool_port p.rest p.found alone h in record {
          own = record p.pool_port { ledger = p.after };
          others = p.rest;
          are = p.then';
          has_left = held-last IsFit p.pool_port.ledger left at.0 at.1 c p.after p.last;
          none_left = at.2;
        }

    -- the first that is left is taken
    record TakesLeft (left : List (Claim H)) (c : Claim H) (new : List (PoolPort H)) : Type 0 where
      rest : List (Claim H)
      first : left ≡ c ∷ rest
      alone : All AloneAt new
      holds : Holds new rest

    takes-at : (ports new : List (PoolPort H)) (left : List (Claim H)) (c : Claim H) (port : PoolPort H) (rest : List (PoolPort H)) (after : ClaimAccount H) →
        All AloneAt ports → Holds ports left → ports ≡ port ∷ rest → TakesFirst IsFit port.ledger c after → new ≡ record port { ledger = after } ∷ rest →
        TakesLeft left c new
    takes-at ports new left c port rest after alone h found t is =
        let at = holds-at ports left port rest found alone h in
        let took = held-first IsFit port.ledger left at.0 at.1 c after t in
        let here : after.shares ≡ after.members
        = ap (λ (a : ClaimAccount H). a.shares) t.2 ∙ at.0 ∙ sym (ap (λ (a : ClaimAccount H). a.members) t.2) in
        record {
          rest = took.0;
          first = took.1;
          alone = subst (All AloneAt) (sym is)
              (All-cons AloneAt (record port { ledger = after }) rest here (All-tail AloneAt port rest (subst (All AloneAt) found alone)));
          holds = record { own = record port { ledger = after }; others = rest; are = is; has_left = took.2; none_left = at.2 };
        }

    takes-own : (ports new : List (PoolPort H)) (left : List (Claim H)) (c : Claim H) → All AloneAt ports → Holds ports left → TakesOwn IsFit ports c new →
        TakesLeft left c new
    takes-own ports new left c alone h t = takes-at ports new left c t.pool_port t.rest t.after alone h t.found t.first t.then'

    takes-one : (ports new : List (PoolPort H)) (left : List (Claim H)) (c : Claim H) (before : List (PoolPort H)) (port : PoolPort H)
        (rest : List (PoolPort H)) (after : ClaimAccount H) → All AloneAt ports → Holds ports left → ports ≡ before ++ port ∷ rest →
        TakesFirst IsFit port.ledger c after → new ≡ before ++ record port { ledger = after } ∷ rest → TakesLeft left c new
    takes-one ports new left c [] port rest after alone h found t is = takes-at ports new left c port rest after alone h found t is
    takes-one ports new left c (b ∷ before) port rest after alone h found t is =
        let at = holds-at ports left b (before ++ port ∷ rest) found alone h in
        let none = All-head NoneAt port rest (all_right NoneAt before (port ∷ rest) at.2) in
        let here = All-head AloneAt port rest (all_right AloneAt (b ∷ before) (port ∷ rest) (subst (All AloneAt) found alone)) in
        let took = held-first IsFit port.ledger [] here none c after t in
        let more = ap (λ (l : List (Claim H)). length l) took.1 in
        absurd (omega (arith, more))

  -- ---- a worker's port

  to-holds : (port : WorkerPortView H) (o : IsInOrder port) → Holds (ports_of port.handle) o.left
  to-holds port o = record { own = o.own; others = o.others; are = o.ports; has_left = o.has_left; none_left = o.none_left }

  from-holds : (port : WorkerPortView H) (left : List (Claim H)) → Holds (ports_of port.handle) left → port.pushed ≡ port.taken ++ (port.next ++ left) →
      IsInOrder port
  from-holds port left h all =
      record { own = h.own; others = h.others; ports = h.are; left = left; has_left = h.has_left; none_left = h.none_left; pushed = all }

  -- the lists, as each step changes them
  put-kept : (p t n l : List (Claim H)) (c : Claim H) → p ≡ t ++ (n ++ l) → n ≡ [] → l ≡ [] → p ++ c ∷ [] ≡ t ++ ((c ∷ []) ++ [])
  put-kept p t n l c is none left = ap (λ x. x ++ c ∷ []) (is ∙ (λ i. t ++ (none i ++ left i)) ∙ append-nil t)

  put-last : (p t n l : List (Claim H)) (c : Claim H) → p ≡ t ++ (n ++ l) → p ++ c ∷ [] ≡ t ++ (n ++ (l ++ c ∷ []))
  put-last p t n l c is =
      ap (λ x. x ++ c ∷ []) is ∙ append_assoc t (n ++ l) (c ∷ []) ∙ ap (λ x. t ++ x) (append_assoc n l (c ∷ []))

  took-next : (p t n l : List (Claim H)) (c : Claim H) → p ≡ t ++ (n ++ l) → n ≡ c ∷ [] → p ≡ (t ++ c ∷ []) ++ ([] ++ l)
  took-next p t n l c is next = is ∙ ap (λ x. t ++ (x ++ l)) next ∙ sym (append_assoc t (c ∷ []) l)

  took-left : (p t n l rest : List (Claim H)) (c : Claim H) → p ≡ t ++ (n ++ l) → n ≡ [] → l ≡ c ∷ rest → p ≡ (t ++ c ∷ []) ++ ([] ++ rest)
  took-left p t n l rest c is none left = is ∙ (λ i. t ++ (none i ++ left i)) ∙ sym (append_assoc t (c ∷ []) rest)

  moved-next : (p t n l rest : List (Claim H)) (c : Claim H) → p ≡ t ++ (n ++ l) → n ≡ [] → l ≡ c ∷ rest → p ≡ t ++ ((c ∷ []) ++ rest)
  moved-next p t n l rest c is none left = is ∙ (λ i. t ++ (none i ++ left i))

  module _ (IsFit : Option (Origin H) → Claim H → Type 0) (old new : WorkerPortView H) (claim : Claim H) (alone : IsAlone old.handle) (o : IsInOrder old) where
    pub order-put : (at_run_end : Bool) → new.pushed ≡ old.pushed ++ claim ∷ [] → new.taken ≡ old.taken → PutsClaim IsFit at_run_end old claim new →
        IsInOrder new
    order-put at_run_end pushed taken (kept at none found next handle) =
        let left = holds-none IsFit (ports_of old.handle) o.left alone (to-holds old o) found in
        let h = subst (λ (l : List (Claim H)). Holds (ports_of old.handle) l) left (to-holds old o) in
        from-holds new [] (subst (λ (e : PoolEndpoint H). Holds (ports_of e) []) (sym handle) h)
        (pushed ∙ put-kept old.pushed old.taken old.next o.left claim o.pushed none left ∙ (λ i. sym taken i ++ (sym next i ++ [])))
    order-put at_run_end pushed taken (behind first mid at none took put next) =
        let t = takes-own IsFit (ports_of old.handle) (ports_of mid) o.left first alone (to-holds old o) took in
        from-holds new (t.rest ++ claim ∷ []) (holds-last IsFit (ports_of mid) (ports_of new.handle) t.rest claim t.alone t.holds put)
        (pushed
        ∙ put-last old.pushed old.taken (first ∷ []) t.rest claim
        (moved-next old.pushed old.taken old.next o.left t.rest first o.pushed none t.first)
        ∙ (λ i. sym taken i ++ (sym next i ++ (t.rest ++ claim ∷ []))))
    order-put at_run_end pushed taken (pooled why put next) =
        from-holds new (o.left ++ claim ∷ []) (holds-last IsFit (ports_of old.handle) (ports_of new.handle) o.left claim alone (to-holds old o) put)
        (pushed ∙ put-last old.pushed old.taken old.next o.left claim o.pushed ∙ (λ i. sym taken i ++ (sym next i ++ (o.left ++ claim ∷ []))))

    pub order-refused : (at_run_end : Bool) → new.pushed ≡ old.pushed → new.taken ≡ old.taken → RefusesClaim IsFit at_run_end old claim new → IsInOrder new
    order-refused at_run_end pushed taken (behind first at none took why next) =
        let t = takes-own IsFit (ports_of old.handle) (ports_of new.handle) o.left first alone (to-holds old o) took in
        from-holds new t.rest t.holds
        (pushed ∙ moved-next old.pushed old.taken old.next o.left t.rest first o.pushed none t.first ∙ (λ i. sym taken i ++ (sym next i ++ t.rest)))
    order-refused at_run_end pushed taken (pooled why handle next) =
        from-holds new o.left (subst (λ (e : PoolEndpoint H). Holds (ports_of e) o.left) (sym handle) (to-holds old o))
        (pushed ∙ o.pushed ∙ (λ i. sym taken i ++ (sym next i ++ o.left)))

    -- what a push did with the claim, whatever it answers
    pub order-answered : {X : Type 0} (at_run_end : Bool) (r : Result (Unit {0}) X) (Same : X → Type 0) →
        MatchResult r (λ _. (new.pushed ≡ old.pushed ++ claim ∷ []) × (new.refused ≡ old.refused))
        (λ back. Same back × (new.pushed ≡ old.pushed) × (new.refused ≡ old.refused ++ claim ∷ [])) → new.taken ≡ old.taken →
        MatchResult r (λ _. PutsClaim IsFit at_run_end old claim new) (λ _. RefusesClaim IsFit at_run_end old claim new) → IsInOrder new
    order-answered at_run_end (Ok u) Same lists taken put = order-put at_run_end lists.0 taken put
    order-answered at_run_end (Err e) Same lists taken put = order-refused at_run_end lists.1 taken put

    pub order-taken : TakesClaim IsFit old claim new → IsInOrder new × IsEarliest old claim
    order-taken (kept next is) = (
      from-holds new o.left (subst (λ (v : WorkerPortView H). Holds (ports_of v.handle) o.left) (sym is) (to-holds old o))
          (subst (λ (v : WorkerPortView H). v.pushed ≡ v.taken ++ (v.next ++ o.left)) (sym is)
          (took-next old.pushed old.taken old.next o.left claim o.pushed next)),
      (o.left, o.pushed ∙ ap (λ x. old.taken ++ (x ++ o.left)) next),
    )
    order-taken (pooled none took is) =
        let t = takes-one IsFit (ports_of old.handle) (ports_of new.handle) o.left claim took.before took.pool_port took.rest took.after alone (to-holds old o)
        took.found took.first took.then' in (
          from-holds new t.rest t.holds
              (subst (λ (v : WorkerPortView H). v.pushed ≡ v.taken ++ (v.next ++ t.rest)) (sym is)
              (took-left old.pushed old.taken old.next o.left t.rest claim o.pushed none t.first
              ∙ ap (λ x. (old.taken ++ claim ∷ []) ++ (x ++ t.rest)) (sym none))),
          (t.rest, o.pushed ∙ (λ i. old.taken ++ (none i ++ t.first i))),
        )

  left-unused : (ledger : ClaimAccount H) → ledger.pushed ≡ [] → ledger.taken ≡ [] → HasLeft ledger []
  left-unused ledger pushed taken = record { gone = []; pushed = pushed; taken = taken }

  unused-first : (ports : List (PoolPort H)) (own : PoolPort H) (others : List (PoolPort H)) → ports ≡ own ∷ others → AreUnused ports → Holds ports []
  unused-first ports own others are unused =
      let P : PoolPort H → Type 0 = λ p. (p.ledger.pushed ≡ []) × (p.ledger.taken ≡ []) in
      let here : All P (own ∷ others) = subst (All P) are unused in
      let first = All-head P own others here in record {
        own = own;
        others = others;
        are = are;
        has_left = left-unused own.ledger first.0 first.1;
        none_left = All-weaker P NoneAt (λ p is. left-unused p.ledger is.0 is.1) others (All-tail P own others here);
      }

  unused-holds : (own : List (PoolPort H)) (shared : PoolPort H) (next : List (PoolPort H)) → AreUnused (own ++ shared ∷ next) →
      Holds (own ++ shared ∷ next) []
  unused-holds [] shared next unused = unused-first (shared ∷ next) shared next refl unused
  unused-holds (o ∷ own) shared next unused = unused-first (o ∷ own ++ shared ∷ next) o (own ++ shared ∷ next) refl unused

  -- nothing was pushed or taken yet
  pub order-new : (handle : PoolEndpoint H) (port : WorkerPortView H) → port ≡ record { handle = handle; next = []; pushed = []; refused = []; taken = [] } →
      AreUnused (ports_of handle) → IsInOrder port
  order-new handle port is unused =
      subst IsInOrder (sym is)
      (from-holds (record { handle = handle; next = []; pushed = []; refused = []; taken = [] }) []
      (unused-holds handle.own_deque handle.shared_port handle.next unused) refl)
