-- A queue is emptied, by the port that has joined all others.
use Rattle.std.proofs.Common.{◌≡◌, ℕ, ◌≤◌, List, [], ◌∷◌, ◌++◌, length, sym, refl, ap, ◌∙◌, subst, arith, append_assoc, append-nil}
use Rattle.std.specs.Prelude.{All, IsPermutation, Option, flat_map}
use Rattle.std.proofs.lemmas.List.{map-append, map_push}
use Rattle.std.proofs.lemmas.List.Concat.{flat_map-append}
use Rattle.std.proofs.lemmas.List.Elements.{All-nil, All-cons, All-head, All-tail, All-append, All-push}
use Rattle.std.proofs.lemmas.List.Sorted.{IsPermutation-refl, IsPermutation-sym, IsPermutation-trans, IsPermutation-append}
use Rattle.std.proofs.lemmas.List.Sorted.{IsPermutation-map}
use Rattle.std.proofs.lemmas.List.Sums.{sum_by-cons, sum_by-append}
use Rattle.mb_gate.specs.declared.claim.Claim.{Claim}
use Rattle.mb_pool.specs.Handles.{Empties, TakesIn, joined}
use Rattle.mb_pool.specs.Ledger.{IndexedClaim, claims_in, indexed_claim, indexed}
use Rattle.mb_gate.specs.Untouched.{Origin}
use Rattle.mb_pool.specs.Account.{ClaimAccount}
use Rattle.mb_pool.specs.Places.{PoolPort, pushed_at, taken_at}
use Rattle.mb_pool.specs.Rule.{QueueMoment, TakesFirst}
use Rattle.mb_pool.proofs.Lists.{same_elements, from_left, behind, past}
use Rattle.mb_pool.proofs.Ports.{all_right}

-- the middle two of four may be exchanged
pub exchange : {X : Type 0} (a b c d : List X) → IsPermutation ((a ++ b) ++ (c ++ d)) ((a ++ c) ++ (b ++ d))
exchange a b c d = from_left ((a ++ b) ++ (c ++ d)) (a ++ (b ++ (c ++ d))) ((a ++ c) ++ (b ++ d)) (append_assoc a b (c ++ d))
    (IsPermutation-trans (a ++ (b ++ (c ++ d))) (a ++ (c ++ (b ++ d))) ((a ++ c) ++ (b ++ d)) (behind a (b ++ (c ++ d)) (c ++ (b ++ d)) (past b c d))
    (same_elements (a ++ (c ++ (b ++ d))) ((a ++ c) ++ (b ++ d)) (sym (append_assoc a c (b ++ d)))))

pub all_left : {X : Type 0} (P : X → Type 0) (xs ys : List X) → All P (xs ++ ys) → All P xs
all_left P [] ys h = All-nil P
all_left P (x ∷ xs) ys h = All-cons P x xs (All-head P x (xs ++ ys) h) (all_left P xs ys (All-tail P x (xs ++ ys) h))

module _ {H : Type 0} where
  abbrev pub HasAll : PoolPort H → Type 0
  HasAll l = l.ledger.shares ≡ l.ledger.members

  abbrev pub HasFew : PoolPort H → Type 0
  HasFew l = l.ledger.shares ≤ l.ledger.members

  pub takes_in_none : (base : PoolPort H) → TakesIn base [] base
  takes_in_none base = record {
    same = refl;
    shares = omega arith;
    pushed = sym (append-nil (claims_in base.ledger.pushed));
    taken = sym (append-nil (claims_in base.ledger.taken));
  }

  gathers_more : (f : PoolPort H → List (Claim H)) (others : List (PoolPort H)) (base other : PoolPort H) (was now : List (Claim H))
      → was ≡ flat_map f (base ∷ others) → now ≡ was ++ f other → now ≡ flat_map f (base ∷ (others ++ other ∷ []))
  gathers_more f others base other was now e n =
      n ∙ ap (λ l. l ++ f other) e ∙ append_assoc (f base) (flat_map f others) (f other)
      ∙ ap (λ l. f base ++ l) (sym (flat_map-append f others (other ∷ []) ∙ ap (λ l. flat_map f others ++ l) (append-nil (f other))))

  pub takes_in_more : (base : PoolPort H) (others : List (PoolPort H)) (new other : PoolPort H) → TakesIn base others new
      → TakesIn base (others ++ other ∷ []) (joined new other)
  takes_in_more base others new other t =
      let shares : PoolPort H → ℕ = λ l. l.ledger.shares in record {
        same = t.same;
        shares = let a = sum_by-append shares others (other ∷ []) in let b = sum_by-cons shares other [] in let c = t.shares in
            omega (arith, a, b, c);
        pushed = gathers_more (λ (l : PoolPort H). claims_in l.ledger.pushed) others base other (claims_in new.ledger.pushed)
            (claims_in (joined new other).ledger.pushed) t.pushed
            (map-append (λ (x : IndexedClaim (Claim H)). x.claim) new.ledger.pushed other.ledger.pushed);
        taken = gathers_more (λ (l : PoolPort H). claims_in l.ledger.taken) others base other (claims_in new.ledger.taken)
            (claims_in (joined new other).ledger.taken) t.taken
            (map-append (λ (x : IndexedClaim (Claim H)). x.claim) new.ledger.taken other.ledger.taken);
      }

module _ {H : Type 0} (IsFit : Option (Origin H) → Claim H → Type 0) where
  -- so far: what was taken out of the queue of this port since then
  pub record Emptying (base : PoolPort H) (old : List (Claim H)) (now : PoolPort H) (left : List (Claim H)) : Type 0 where
    pub more : List (Claim H)
    pub added : left ≡ old ++ more
    pub fit : All (IsFit base.ledger.gates) more
    pub gates : now.ledger.gates ≡ base.ledger.gates
    pub members : now.ledger.members ≡ base.ledger.members
    pub shares : now.ledger.shares ≡ base.ledger.shares
    pub pushed : now.ledger.pushed ≡ base.ledger.pushed
    pub taken : claims_in now.ledger.taken ≡ claims_in base.ledger.taken ++ more

  pub emptying_none : (base : PoolPort H) (old : List (Claim H)) → Emptying base old base old
  emptying_none base old = record {
    more = [];
    added = sym (append-nil old);
    fit = All-nil (IsFit base.ledger.gates);
    gates = refl;
    members = refl;
    shares = refl;
    pushed = refl;
    taken = sym (append-nil (claims_in base.ledger.taken));
  }

  pub emptying_more : (base : PoolPort H) (old : List (Claim H)) (now after : PoolPort H) (left new : List (Claim H)) (c : Claim H)
      → Emptying base old now left → TakesFirst IsFit now.ledger c after.ledger → new ≡ left ++ c ∷ []
      → Emptying base old after new
  emptying_more base old now after left new c e t n =
      let m = t.1 in let is = t.2 in
      let fits : IsFit base.ledger.gates c = subst (λ g. IsFit g c) e.gates
      (All-head (IsFit now.ledger.gates) c t.0 (all_right (IsFit now.ledger.gates) m.gone (c ∷ t.0) m.fit)) in record {
        more = e.more ++ c ∷ [];
        added = n ∙ ap (λ l. l ++ c ∷ []) e.added ∙ append_assoc old e.more (c ∷ []);
        fit = All-push (IsFit base.ledger.gates) e.more c e.fit fits;
        gates = ap (λ (a : ClaimAccount H). a.gates) is ∙ e.gates;
        members = ap (λ (a : ClaimAccount H). a.members) is ∙ e.members;
        shares = ap (λ (a : ClaimAccount H). a.shares) is ∙ e.shares;
        pushed = ap (λ (a : ClaimAccount H). a.pushed) is ∙ e.pushed;
        taken = ap (λ (a : ClaimAccount H). claims_in a.taken) is ∙ map_push (λ (x : IndexedClaim (Claim H)). x.claim) now.ledger.taken (indexed_claim (length m.gone) c)
            ∙ ap (λ l. l ++ c ∷ []) e.taken ∙ append_assoc (claims_in base.ledger.taken) e.more (c ∷ []);
      }

  -- at the end the queue was empty
  pub emptying_all : (base : PoolPort H) (old : List (Claim H)) (now : PoolPort H) (left : List (Claim H)) → Emptying base old now left
      → QueueMoment IsFit now.ledger [] → Empties IsFit base.ledger.gates (base ∷ []) old left
  emptying_all base old now left e m =
      let Few : PoolPort H → Type 0 = HasFew in let All' : PoolPort H → Type 0 = HasAll in
      let few = m.within_limit in let shares = e.shares in let members = e.members in record {
        more = e.more;
        added = e.added;
        fit = e.fit;
        within_limit = All-cons Few base [] (omega (arith, few, shares, members)) (All-nil Few);
        whole = λ all.
            let mine : base.ledger.shares ≡ base.ledger.members = All-head All' base [] all in
            let no = m.alone (omega (arith, mine, shares, members)) in
            let went : IsPermutation now.ledger.taken (indexed m.gone) =
            from_left now.ledger.taken (now.ledger.taken ++ m.taken) (indexed m.gone)
            (sym (ap (λ l. now.ledger.taken ++ l) no.1 ∙ append-nil now.ledger.taken)) m.went in
            let came : IsPermutation now.ledger.pushed (indexed (m.gone ++ [])) =
            from_left now.ledger.pushed (now.ledger.pushed ++ m.pushed) (indexed (m.gone ++ []))
            (sym (ap (λ l. now.ledger.pushed ++ l) no.0 ∙ append-nil now.ledger.pushed)) m.came in
            let same : IsPermutation now.ledger.taken now.ledger.pushed = IsPermutation-trans now.ledger.taken (indexed m.gone) now.ledger.pushed went
            (IsPermutation-sym now.ledger.pushed (indexed m.gone) (subst (λ l. IsPermutation now.ledger.pushed (indexed l))
            (append-nil m.gone) came)) in
            let claims : IsPermutation (claims_in now.ledger.taken) (claims_in now.ledger.pushed) =
            IsPermutation-map (λ (x : IndexedClaim (Claim H)). x.claim) now.ledger.taken now.ledger.pushed same in
            let from : taken_at (base ∷ []) ++ e.more ≡ claims_in now.ledger.taken = ap (λ l. l ++ e.more) (append-nil (claims_in base.ledger.taken))
            ∙ sym e.taken in
            let to : claims_in now.ledger.pushed ≡ pushed_at (base ∷ []) = ap (λ (l : List (IndexedClaim (Claim H))). claims_in l) e.pushed
            ∙ sym (append-nil (claims_in base.ledger.pushed)) in
            from_left (taken_at (base ∷ []) ++ e.more) (claims_in now.ledger.taken) (pushed_at (base ∷ [])) from
            (subst (IsPermutation (claims_in now.ledger.taken)) to claims);
      }

  pub empties_none : (g : Option (Origin H)) (old : List (Claim H)) → Empties IsFit g [] old old
  empties_none g old = record {
    more = [];
    added = sym (append-nil old);
    fit = All-nil (IsFit g);
    within_limit = All-nil (HasFew {H = H});
    whole = λ _. IsPermutation-refl [];
  }

  pub empties_gates : (g g' : Option (Origin H)) (ports : List (PoolPort H)) (old new : List (Claim H)) → g ≡ g' → Empties IsFit g ports old new
      → Empties IsFit g' ports old new
  empties_gates g g' ports old new e h = subst (λ x. Empties IsFit x ports old new) e h

  pub empties_append : (g : Option (Origin H)) (ps qs : List (PoolPort H)) (a b c : List (Claim H)) → Empties IsFit g ps a b → Empties IsFit g qs b c
      → Empties IsFit g (ps ++ qs) a c
  empties_append g ps qs a b c p q = record {
    more = p.more ++ q.more;
    added = q.added ∙ ap (λ l. l ++ q.more) p.added ∙ append_assoc a p.more q.more;
    fit = All-append (IsFit g) p.more q.more p.fit q.fit;
    within_limit = All-append (HasFew {H = H}) ps qs p.within_limit q.within_limit;
    whole = λ all.
        let mine = p.whole (all_left (HasAll {H = H}) ps qs all) in let theirs = q.whole (all_right (HasAll {H = H}) ps qs all) in
        let taken : taken_at (ps ++ qs) ≡ taken_at ps ++ taken_at qs = flat_map-append (λ (l : PoolPort H). claims_in l.ledger.taken) ps qs in
        let pushed : pushed_at (ps ++ qs) ≡ pushed_at ps ++ pushed_at qs = flat_map-append (λ (l : PoolPort H). claims_in l.ledger.pushed) ps qs in
        from_left (taken_at (ps ++ qs) ++ (p.more ++ q.more)) ((taken_at ps ++ taken_at qs) ++ (p.more ++ q.more)) (pushed_at (ps ++ qs))
        (ap (λ l. l ++ (p.more ++ q.more)) taken)
        (IsPermutation-trans ((taken_at ps ++ taken_at qs) ++ (p.more ++ q.more)) ((taken_at ps ++ p.more) ++ (taken_at qs ++ q.more))
        (pushed_at (ps ++ qs)) (exchange (taken_at ps) (taken_at qs) p.more q.more)
        (subst (IsPermutation ((taken_at ps ++ p.more) ++ (taken_at qs ++ q.more))) (sym pushed)
        (IsPermutation-append (taken_at ps ++ p.more) (pushed_at ps) (taken_at qs ++ q.more) (pushed_at qs) mine theirs)));
  }
