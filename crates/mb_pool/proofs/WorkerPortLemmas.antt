-- What a worker's way into the pool keeps, takes and pushes.
use Rattle.std.proofs.Common.{◌≡◌, ◌≢◌, ◌⊎◌, Bool, true, false, List, [], ◌∷◌, ◌++◌, map, subst, sym, ap, refl, ◌∙◌, length, arith}
use Rattle.std.proofs.Common.{Option, Some, None, MatchResult}
use Rattle.std.specs.Prelude.{All, Result, Ok, Err, T, is_some, option_to_list}
use Rattle.std.specs.declared.snapshot.Snapshot.{Snapshot}
use Rattle.std.proofs.lemmas.List.Elements.{All-head, All-cons, All-nil}
use Rattle.mb_gate.specs.PooledClaims.{claim_in}
use Rattle.mb_gate.specs.declared.claim.Claim.{Claim}
use Rattle.mb_gate.specs.declared.pooled_claim.PooledClaim.{PooledClaim}
use Rattle.mb_gate.specs.Untouched.{Origin}
use Rattle.mb_pool.specs.Endpoints.{AreOpen}
use Rattle.mb_pool.specs.Moves.{Pushes, Takes, TakesOwn}
use Rattle.mb_pool.specs.Places.{PoolEndpoint, gates_of, ports_of, parts_of}
use Rattle.mb_pool.specs.PoolPorts.{IsRefusedByPool}
use Rattle.mb_pool.specs.WorkerPorts.{WorkerPortView, PutsClaim, RefusesClaim, TakesClaim, behind, kept, pooled}
use Rattle.mb_pool.proofs.PoolPortLemmas.{refused-more, same-gates}
use Rattle.mb_pool.proofs.Ports.{still_open, takes_fit}

module _ {H : Type 0} where
  -- the claims that are kept
  abbrev pub kept_in : Option (PooledClaim H) → List (Claim H)
  kept_in next = map (λ (p : PooledClaim H). claim_in p) (option_to_list next)

  -- the claims of a log
  abbrev pub logged : List (Snapshot (Claim H)) → List (Claim H)
  logged log = map (λ (s : Snapshot (Claim H)). s.value) log

  -- what contracts see of these fields
  abbrev pub shown : PoolEndpoint H → Option (PooledClaim H) → List (Snapshot (Claim H)) → List (Snapshot (Claim H)) → List (Snapshot (Claim H)) →
      WorkerPortView H
  shown handle next pushed refused taken =
      record { handle = handle; next = kept_in next; pushed = logged pushed; refused = logged refused; taken = logged taken }

  -- a log with one claim more
  pub logged-more : (old new : List (Snapshot (Claim H))) (s : Snapshot (Claim H)) (c : Claim H) (before : List (Claim H)) → logged old ≡ before
      → new ≡ old ++ s ∷ [] → s.value ≡ c → logged new ≡ before ++ c ∷ []
  logged-more old new s c before is added same = refused-more old new s c added same ∙ ap (λ l. l ++ c ∷ []) is

  -- a port that keeps none
  pub keeps-none : (has_one : Bool) (handle : PoolEndpoint H) (next : Option (PooledClaim H)) (pushed refused taken : List (Snapshot (Claim H)))
      (now : WorkerPortView H) → shown handle next pushed refused taken ≡ now → has_one ≡ is_some next → has_one ≡ false → now.next ≡ []
  keeps-none has_one handle None pushed refused taken now is there none = sym (ap (λ (v : WorkerPortView H). v.next) is)
  keeps-none has_one handle (Some p) pushed refused taken now is there none = absurd (subst T (sym there ∙ none) tt)

  some-none : (c : Claim H) → c ∷ [] ≢ []
  some-none c same = let count = ap (λ (l : List (Claim H)). length l) same in absurd (omega (arith, count))

  -- a port that keeps one
  pub keeps-one : (has_one : Bool) (handle : PoolEndpoint H) (next : Option (PooledClaim H)) (pushed refused taken : List (Snapshot (Claim H)))
      (now : WorkerPortView H) → shown handle next pushed refused taken ≡ now → has_one ≡ is_some next → has_one ≡ true → now.next ≢ []
  keeps-one has_one handle None pushed refused taken now is there some = absurd (subst T (sym some ∙ there) tt)
  keeps-one has_one handle (Some p) pushed refused taken now is there some =
      λ empty. some-none (claim_in p) (ap (λ (v : WorkerPortView H). v.next) is ∙ empty)

module _ {H : Type 0} (IsFit : Option (Origin H) → Claim H → Type 0) where
  -- what is kept is as it was pushed
  pub kept-fits : (handle : PoolEndpoint H) (next : Option (PooledClaim H)) (pushed refused taken : List (Snapshot (Claim H))) (old : WorkerPortView H)
      (p : PooledClaim H) (c : Claim H) → shown handle next pushed refused taken ≡ old → next ≡ Some p → c ≡ claim_in p
      → All (IsFit (gates_of handle)) (kept_in next) → IsFit (gates_of old.handle) c
  kept-fits handle next pushed refused taken old p c is there same fit =
      let here = subst (λ n. All (IsFit (gates_of handle)) (kept_in n)) there fit in
      subst (λ (v : WorkerPortView H). IsFit (gates_of v.handle) c) is
      (subst (λ x. IsFit (gates_of handle) x) (sym same) (All-head (IsFit (gates_of handle)) (claim_in p) [] here))

  -- the claim that was kept is taken
  pub takes-kept : (handle : PoolEndpoint H) (next after : Option (PooledClaim H)) (pushed refused taken more : List (Snapshot (Claim H)))
      (old : WorkerPortView H) (p : PooledClaim H) (c : Claim H) (s : Snapshot (Claim H)) → shown handle next pushed refused taken ≡ old → next ≡ Some p
      → after ≡ None → c ≡ claim_in p → more ≡ taken ++ s ∷ [] → s.value ≡ c → TakesClaim IsFit old c (shown handle after pushed refused more)
  takes-kept handle next after pushed refused taken more old p c s is there gone same added known =
      let longer = logged-more taken more s c (logged taken) refl added known in
      kept (sym (ap (λ (v : WorkerPortView H). v.next) is) ∙ ap kept_in there ∙ ap (λ x. x ∷ []) (sym same))
      ((λ i. record { handle = handle; next = kept_in (gone i); pushed = logged pushed; refused = logged refused; taken = longer i })
      ∙ ap (λ (v : WorkerPortView H). record v { next = []; taken = v.taken ++ c ∷ [] }) is)

  -- none is kept, and a claim is taken out of the pool
  pub takes-pooled : (handle handle' : PoolEndpoint H) (next after : Option (PooledClaim H)) (pushed refused taken more : List (Snapshot (Claim H)))
      (old : WorkerPortView H) (c : Claim H) (s : Snapshot (Claim H)) → shown handle next pushed refused taken ≡ old → next ≡ None → after ≡ None
      → Takes IsFit handle c handle' → more ≡ taken ++ s ∷ [] → s.value ≡ c → TakesClaim IsFit old c (shown handle' after pushed refused more)
  takes-pooled handle handle' next after pushed refused taken more old c s is none still t added known =
      let longer = logged-more taken more s c (logged taken) refl added known in
      pooled (sym (ap (λ (v : WorkerPortView H). v.next) is) ∙ ap kept_in none)
      (subst (λ (v : WorkerPortView H). Takes IsFit v.handle c handle') is t)
      ((λ i. record { handle = handle'; next = kept_in ((still ∙ sym none) i); pushed = logged pushed; refused = logged refused; taken = longer i })
      ∙ ap (λ (v : WorkerPortView H). record v { handle = handle'; taken = v.taken ++ c ∷ [] }) is)

  -- nothing was kept or taken
  pub nothing-taken : (handle handle' : PoolEndpoint H) (next after : Option (PooledClaim H)) (pushed refused taken : List (Snapshot (Claim H)))
      (old : WorkerPortView H) → shown handle next pushed refused taken ≡ old → next ≡ None → after ≡ None → handle' ≡ handle →
      (shown handle' after pushed refused taken ≡ old) × (old.next ≡ [])
  nothing-taken handle handle' next after pushed refused taken old is none still same = (
    ap (λ (y : PoolEndpoint H × Option (PooledClaim H)). shown y.0 y.1 pushed refused taken) (λ i. (same i, (still ∙ sym none) i)) ∙ is,
    sym (ap (λ (v : WorkerPortView H). v.next) is) ∙ ap kept_in none,
  )

  -- what is kept fits still, where the handle is of the same gates
  pub fits-still : (handle handle' : PoolEndpoint H) (next : Option (PooledClaim H)) → parts_of handle' ≡ parts_of handle
      → All (IsFit (gates_of handle)) (kept_in next) → All (IsFit (gates_of handle')) (kept_in next)
  fits-still handle handle' next same fit = subst (λ gates. All (IsFit gates) (kept_in next)) (sym (same-gates handle handle' same)) fit

  -- a port whose handle has the same parts is open still, and what it keeps fits still
  pub stays-fit : (handle handle' : PoolEndpoint H) (next : Option (PooledClaim H)) → parts_of handle' ≡ parts_of handle
      → AreOpen handle × All (IsFit (gates_of handle)) (kept_in next) → AreOpen handle' × All (IsFit (gates_of handle')) (kept_in next)
  stays-fit handle handle' next same fit = (still_open handle handle' same fit.0, fits-still handle handle' next same fit.1)

  -- the same of a port that keeps none
  pub stays-open : (handle handle' : PoolEndpoint H) (next : Option (PooledClaim H)) → parts_of handle' ≡ parts_of handle → next ≡ None
      → AreOpen handle → AreOpen handle' × All (IsFit (gates_of handle')) (kept_in next)
  stays-open handle handle' next same none opened = (
    still_open handle handle' same opened,
    subst (λ n. All (IsFit (gates_of handle')) (kept_in n)) (sym none) (All-nil (IsFit (gates_of handle'))),
  )

  -- a claim that was taken out of the pool is as it was pushed
  pub pooled-fits : (handle handle' : PoolEndpoint H) (next : Option (PooledClaim H)) (pushed refused taken : List (Snapshot (Claim H)))
      (old : WorkerPortView H) (c : Claim H) → shown handle next pushed refused taken ≡ old → AreOpen handle → Takes IsFit handle c handle'
      → IsFit (gates_of old.handle) c
  pooled-fits handle handle' next pushed refused taken old c is opened t =
      subst (λ (v : WorkerPortView H). IsFit (gates_of v.handle) c) is (takes_fit IsFit (gates_of handle) (ports_of handle) (ports_of handle') c opened t)

  -- a claim that fits, put where none is kept
  pub fits-alone : (gates : Option (Origin H)) (p : PooledClaim H) (c : Claim H) → claim_in p ≡ c → IsFit gates c → All (IsFit gates) (kept_in (Some p))
  fits-alone gates p c same fit =
      All-cons (IsFit gates) (claim_in p) [] (subst (λ x. IsFit gates x) (sym same) fit) (All-nil (IsFit gates))

  -- a claim is pushed last, while a run goes on or where one is kept
  pub put-last : {X : Type 0} (at_run_end : Bool) (c : Claim H) (r : Result (Unit {0}) X) (old new : WorkerPortView H) →
      (at_run_end ≡ false) ⊎ (old.next ≢ []) → new.next ≡ old.next →
      MatchResult r (λ _. Pushes IsFit old.handle c new.handle) (λ _. IsRefusedByPool IsFit old.handle c × (new.handle ≡ old.handle)) →
      MatchResult r (λ _. PutsClaim IsFit at_run_end old c new) (λ _. RefusesClaim IsFit at_run_end old c new)
  put-last at_run_end c (Ok u) old new why next put = pooled why put next
  put-last at_run_end c (Err e) old new why next put = pooled put.0 put.1 next

  -- a claim is pushed behind the one that the worker takes next
  pub put-behind : {X : Type 0} (at_run_end : Bool) (c first : Claim H) (r : Result (Unit {0}) X) (old new : WorkerPortView H) (mid : PoolEndpoint H) →
      at_run_end ≡ true → old.next ≡ [] → TakesOwn IsFit (ports_of old.handle) first (ports_of mid) → new.next ≡ first ∷ [] →
      MatchResult r (λ _. Pushes IsFit mid c new.handle) (λ _. IsRefusedByPool IsFit mid c × (new.handle ≡ mid)) →
      MatchResult r (λ _. PutsClaim IsFit at_run_end old c new) (λ _. RefusesClaim IsFit at_run_end old c new)
  put-behind at_run_end c first (Ok u) old new mid at none took next put = behind first mid at none took put next
  put-behind at_run_end c first (Err e) old new mid at none took next put =
      behind first at none (subst (λ (e' : PoolEndpoint H). TakesOwn IsFit (ports_of old.handle) first (ports_of e')) (sym put.1) took)
      (subst (λ (e' : PoolEndpoint H). IsRefusedByPool IsFit e' c) (sym put.1) put.0) next
