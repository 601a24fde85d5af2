-- What a push and a take through a port do to what was pushed through it.
use Rattle.std.proofs.Common.{◌≡◌, List, [], ◌∷◌, ◌++◌, map, refl, subst, sym, ap, ◌∙◌, Option, Some, None, MatchOption, MatchResult}
use Rattle.std.specs.Prelude.{IfNone, IfSome, Result, Ok, Err}
use Rattle.std.specs.declared.snapshot.Snapshot.{Snapshot}
use Rattle.std.proofs.lemmas.List.{map-append}
use Rattle.mb_gate.specs.declared.claim.Claim.{Claim}
use Rattle.mb_gate.specs.Untouched.{Origin}
use Rattle.mb_pool.specs.Ledger.{IndexedClaim, claims_in}
use Rattle.mb_pool.specs.Moves.{Pushes, Takes}
use Rattle.mb_pool.specs.Places.{PoolPort, Parts, PoolEndpoint, gates_of, ports_of, parts_of}
use Rattle.mb_pool.specs.PoolPorts.{pushed_first}

module _ {H : Type 0} where
  -- of the same ports it is of the same gates
  pub same-gates : (old new : PoolEndpoint H) → parts_of new ≡ parts_of old → gates_of new ≡ gates_of old
  same-gates old new same = ap (λ (p : Parts H). p.shared_port.gates) same

  -- after one claim more was refused
  pub refused-more : (old new : List (Snapshot (Claim H))) (s : Snapshot (Claim H)) (c : Claim H) → new ≡ old ++ s ∷ [] → s.value ≡ c
      → map (λ (x : Snapshot (Claim H)). x.value) new ≡ map (λ (x : Snapshot (Claim H)). x.value) old ++ c ∷ []
  refused-more old new s c added same =
      ap (λ l. map (λ (x : Snapshot (Claim H)). x.value) l) added ∙ map-append (λ (x : Snapshot (Claim H)). x.value) old (s ∷ [])
      ∙ ap (λ d. map (λ (x : Snapshot (Claim H)). x.value) old ++ d ∷ []) same

  same-first : (before rest : List (PoolPort H)) (pool_port pool_port' : PoolPort H) → claims_in pool_port'.ledger.pushed ≡ claims_in pool_port.ledger.pushed
      → pushed_first (before ++ pool_port' ∷ rest) ≡ pushed_first (before ++ pool_port ∷ rest)
  same-first [] rest pool_port pool_port' same = same
  same-first (l ∷ before) rest pool_port pool_port' same = refl

module _ {H : Type 0} (IsFit : Option (Origin H) → Claim H → Type 0) where
  pub pushes-first : (old new : PoolEndpoint H) (c : Claim H) → Pushes IsFit old c new → pushed_first (ports_of new) ≡ pushed_first (ports_of old) ++ c ∷ []
  pushes-first old new c p =
      ap pushed_first p.then' ∙ ap (λ l. claims_in l.pushed) p.last.2
      ∙ map-append (λ (t : IndexedClaim (Claim H)). t.claim) p.pool_port.ledger.pushed _
      ∙ ap (λ l. l ++ c ∷ []) (sym (ap pushed_first p.found))

  pub takes-first : (old new : PoolEndpoint H) (c : Claim H) → Takes IsFit old c new → pushed_first (ports_of new) ≡ pushed_first (ports_of old)
  takes-first old new c t =
      ap pushed_first t.then' ∙ same-first t.before t.rest t.pool_port _ (ap (λ l. claims_in l.pushed) t.first.2) ∙ sym (ap pushed_first t.found)

  pub taken-same : (A : Type 0) (r : Option (Claim H)) (old new : PoolEndpoint H) → MatchOption r ((new ≡ old) × A) (λ c. Takes IsFit old c new)
      → pushed_first (ports_of new) ≡ pushed_first (ports_of old)
  taken-same A None old new h = ap (λ w. pushed_first (ports_of w)) h.0
  taken-same A (Some c) old new h = takes-first old new c h

  pub tried-same : (r : Option (Claim H)) (old new : PoolEndpoint H) → MatchOption r (new ≡ old) (λ c. Takes IsFit old c new)
      → pushed_first (ports_of new) ≡ pushed_first (ports_of old)
  tried-same None old new h = ap (λ w. pushed_first (ports_of w)) h
  tried-same (Some c) old new h = takes-first old new c h

  -- what was pushed and refused, where one attempt changed nothing and gave the claim back, and it was pushed again then
  pub pushed-later : (old mid new : PoolEndpoint H) (c again : Claim H) → mid ≡ old → again ≡ c → (before after : List (Claim H))
      → {X : Type 0} (claim_of : X → Claim H) (r : Result (Unit {0}) X)
      → MatchResult r (λ _. after ≡ before) (λ back. (claim_of back ≡ again) × (after ≡ before ++ again ∷ []))
      → MatchResult r (λ _. Pushes IsFit mid again new) (λ _. new ≡ mid)
      → MatchResult r (λ _. (pushed_first (ports_of new) ≡ pushed_first (ports_of old) ++ c ∷ []) × (after ≡ before))
      (λ back. (claim_of back ≡ c) × (pushed_first (ports_of new) ≡ pushed_first (ports_of old)) × (after ≡ before ++ c ∷ []))
  pushed-later old mid new c again still same before after claim_of (Ok u) told put =
      (pushes-first old new c (subst (λ (y : PoolEndpoint H × Claim H). Pushes IsFit y.0 y.1 new) (λ i. (still i, same i)) put), told)
  pushed-later old mid new c again still same before after claim_of (Err back) told put = (
    told.0 ∙ same,
    ap (λ w. pushed_first (ports_of w)) (put ∙ still),
    told.1 ∙ ap (λ d. before ++ d ∷ []) same,
  )

-- what an answer of none says
pub none-tells : {X : Type 0} (A B C : Type 0) (P : X → Type 0) (r : Option X) → (A → C) → MatchOption r (A × B) P → IfNone r (C × B)
none-tells A B C P None f h = (f h.0, h.1)
none-tells A B C P (Some x) f h = tt

pub none-stays : {X : Type 0} (A C : Type 0) (P : X → Type 0) (r : Option X) → (A → C) → MatchOption r A P → IfNone r C
none-stays A C P None f h = f h
none-stays A C P (Some x) f h = tt

-- what an answer of some says
pub some-tells : {X : Type 0} (A : Type 0) (P : X → Type 0) (r : Option X) → MatchOption r A P → IfSome r P
some-tells A P None h = tt
some-tells A P (Some x) h = h
