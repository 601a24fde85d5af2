-- What a run changes of its caller, step after step.
use Rattle.std.proofs.Common.{◌≡◌, ◌≢◌, ◌==◌, ◌||◌, ◌⊎◌, inl, inr, ℕ, Bool, true, false, List, [], ◌∷◌, ◌++◌}
use Rattle.std.proofs.Common.{refl, sym, ap, ◌∙◌, subst, arith, append_assoc, append-nil}
use Rattle.std.proofs.lemmas.Bool.Decides.{nat_tests}
use Rattle.mb_ghost.proofs.SeenLemmas.{each_append}
use Rattle.mb_gate.specs.declared.claim.Claim.{Claim}
use Rattle.mb_gate.specs.Accessors.{held_actor}
use Rattle.mb_gate.specs.Rule.{IsAmong}
use Rattle.mb_gate.specs.View.{obligation_to}
use Rattle.mb_gate.proofs.Numbers.{among_first, among_left, among_right}
use Rattle.mb_register.specs.ActorSet.{has_actor}
use Rattle.mb_register.specs.Registering.{QueueAccount, WasRefused, IsRegistered}
use Rattle.mb_register.proofs.Bits.{same_or_other}
use Rattle.mb_register.specs.Caller.{Caller, OwesForRefusals, TakesNothing, IsDischargedOrOwed, IsTold, CallerAdvances}
use Rattle.mb_register.proofs.ClaimCounts.{loses-none, loses-then}
use Rattle.mb_register.proofs.DueLemmas.{got-no-claim, got-further}
use Rattle.mb_register.proofs.SendingLemmas.{sends-append}
use Rattle.mb_register.proofs.Unchanged.{unchanged-none, unchanged-then}

-- it was owed a look before, or its claim was refused
abbrev OwedOr : {H : Type 0} → QueueAccount H → List (Claim H) → ℕ → Type 0
OwedOr {H} a more id = (has_actor a.owed id ≡ true) ⊎ ((claim : Claim H) × IsAmong claim more × (held_actor claim ≡ id))

module _ {H : Type 0} where
  pub account-none : (a : QueueAccount H) → OwesForRefusals a a
  account-none a = record { more = []; refused = sym (append-nil a.refused); still = λ id owed. owed; only = λ id owed. inl owed }

  pub account-then : (a b c : QueueAccount H) → OwesForRefusals a b → OwesForRefusals b c → OwesForRefusals a c
  account-then a b c p q = record {
    more = p.more ++ q.more;
    refused = q.refused ∙ ap (λ l. l ++ q.more) p.refused ∙ append_assoc a.refused p.more q.more;
    still = λ id owed. q.still id (p.still id owed);
    only = λ id owed. by_last id (q.only id owed);
  }
    where
      by_first : (id : ℕ) → OwedOr a p.more id → OwedOr a (p.more ++ q.more) id
      by_first id (inl owed) = inl owed
      by_first id (inr why) = inr (why.0, among_left why.0 p.more q.more why.1, why.2)

      by_last : (id : ℕ) → OwedOr b q.more id → OwedOr a (p.more ++ q.more) id
      by_last id (inl owed) = by_first id (p.only id owed)
      by_last id (inr why) = inr (why.0, among_right why.0 p.more q.more why.1, why.2)

  -- after an actor was registered
  from-refused : (id : ℕ) (a b : QueueAccount H) → WasRefused id a b → OwesForRefusals a b
  from-refused id a b r = record {
    more = r.claim ∷ [];
    refused = r.refused;
    still = λ other owed. r.owed other ∙ still_so (other == id) (has_actor a.owed other) owed;
    only = λ other owed. why other (same_or_other other id) (sym (r.owed other) ∙ owed);
  }
    where
      still_so : (x y : Bool) → y ≡ true → (x || y) ≡ true
      still_so true y owed = refl
      still_so false y owed = owed

      why : (other : ℕ) → (other ≡ id) ⊎ (other ≢ id) → (other == id || has_actor a.owed other) ≡ true → OwedOr a (r.claim ∷ []) other
      why other (inl same) owed = inr (r.claim, among_first r.claim [], r.of ∙ sym same)
      why other (inr apart) owed =
          let miss : (other == id) ≡ false = grind (arith, nat_tests) in
          inl (sym (ap (λ b. b || has_actor a.owed other) miss) ∙ owed)

  pub account-registered : (id : ℕ) (a b : QueueAccount H) (registered : Bool) → IsRegistered id a b registered → OwesForRefusals a b
  account-registered id a b true w = record {
    more = [];
    refused = w.refused ∙ sym (append-nil a.refused);
    still = λ other owed. ap (λ o. has_actor o other) w.owed ∙ owed;
    only = λ other owed. inl (sym (ap (λ o. has_actor o other) w.owed) ∙ owed);
  }
  account-registered id a b false (inl same) = subst (OwesForRefusals a) (sym same) (account-none a)
  account-registered id a b false (inr refused) = from-refused id a b refused

  pub further-none : (c : Caller H) → CallerAdvances c c
  further-none c = record {
    more = [];
    took_none = tt;
    sends_open = tt;
    log = refl;
    account = account-none c.account;
    obligations = λ id. inr (inl refl);
    told = λ id still. inr still;
    share = refl;
    gives_back = unchanged-none _ _ refl;
    claims = loses-none c.account c.view;
    got_due = got-no-claim c.view c.view refl;
  }

  pub further-then : (a b c : Caller H) → CallerAdvances a b → CallerAdvances b c → CallerAdvances a c
  further-then a b c p q = record {
    more = q.more ++ p.more;
    took_none = each_append TakesNothing q.more p.more q.took_none p.took_none;
    sends_open = sends-append q.more p.more q.sends_open p.sends_open;
    log = q.log ∙ ap (λ l. q.more ++ l) p.log ∙ sym (append_assoc q.more p.more a.view.log);
    account = account-then a.account b.account c.account p.account q.account;
    obligations = λ id. by_last id (q.obligations id);
    told = λ id still. by_told id (p.told id still);
    share = q.share ∙ p.share;
    gives_back = unchanged-then a.view b.view c.view p.gives_back q.gives_back;
    claims = loses-then a.account b.account c.account a.view b.view c.view p.claims q.claims;
    got_due = got-further a.view b.view c.view p.more q.more p.log q.log p.got_due q.got_due;
  }
    where
      settled : (id : ℕ) → IsDischargedOrOwed id b → IsDischargedOrOwed id c ⊎ (obligation_to id c.view ≡ obligation_to id b.view) ⊎ IsTold id c →
          IsDischargedOrOwed id c ⊎ IsTold id c
      settled id was (inl discharged) = inl discharged
      settled id (inl none) (inr (inl kept)) = inl (inl (kept ∙ none))
      settled id (inr owed) (inr (inl kept)) = inl (inr (q.account.still id owed))
      settled id was (inr (inr still)) = inr still

      by_told : (id : ℕ) → IsDischargedOrOwed id b ⊎ IsTold id b → IsDischargedOrOwed id c ⊎ IsTold id c
      by_told id (inl was) = settled id was (q.obligations id)
      by_told id (inr still) = q.told id still

      or_told : (id : ℕ) → IsDischargedOrOwed id c ⊎ IsTold id c →
          IsDischargedOrOwed id c ⊎ (obligation_to id c.view ≡ obligation_to id a.view) ⊎ IsTold id c
      or_told id (inl discharged) = inl discharged
      or_told id (inr still) = inr (inr still)

      by_first : (id : ℕ) → obligation_to id c.view ≡ obligation_to id b.view →
          IsDischargedOrOwed id b ⊎ (obligation_to id b.view ≡ obligation_to id a.view) ⊎ IsTold id b →
          IsDischargedOrOwed id c ⊎ (obligation_to id c.view ≡ obligation_to id a.view) ⊎ IsTold id c
      by_first id kept (inl was) = or_told id (settled id was (inr (inl kept)))
      by_first id kept (inr (inl same)) = inr (inl (kept ∙ same))
      by_first id kept (inr (inr still)) = or_told id (q.told id still)

      by_last : (id : ℕ) → IsDischargedOrOwed id c ⊎ (obligation_to id c.view ≡ obligation_to id b.view) ⊎ IsTold id c →
          IsDischargedOrOwed id c ⊎ (obligation_to id c.view ≡ obligation_to id a.view) ⊎ IsTold id c
      by_last id (inl discharged) = inl discharged
      by_last id (inr (inl kept)) = by_first id kept (p.obligations id)
      by_last id (inr (inr still)) = inr (inr still)
