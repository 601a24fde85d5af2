-- What a caller did at one actor and saw there, step after step.
use Rattle.std.proofs.Common.{◌≡◌, ◌≢◌, ◌<◌, ◌≤◌, ◌⊎◌, inl, inr, ℕ, Bool, true, false, List, ◌++◌, refl, sym, ap, ◌∙◌, subst, append_assoc}
use Rattle.std.proofs.lemmas.Bool.{cases_lt}
use Rattle.mb_ghost.specs.Seen.{Each}
use Rattle.mb_ghost.proofs.SeenLemmas.{each_append, each_weaker}
use Rattle.mb_gate.specs.View.{View, Observation, SentSystem, obligation_to}
use Rattle.mb_gate.specs.View.{Read, Saw, Counted, Looked, Sent, Unsent, Took, Pushed, Drained, Ended}
use Rattle.mb_register.specs.declared.actor_set.ActorSet.{ActorSet}
use Rattle.mb_register.specs.ActorSet.{has_actor}
use Rattle.mb_register.specs.Views.{Does, GivesBackUnchanged, IsLook, LooksAmong}
use Rattle.mb_register.proofs.Bits.{same_or_other}
use Rattle.mb_register.specs.Caller.{Caller, OwesForRefusals, TakesNothing, IsDischargedOrOwed, IsTold, CallerAdvances}
use Rattle.mb_register.specs.Due.{GotDue}
use Rattle.mb_register.specs.Registering.{LosesNoClaim}
use Rattle.mb_register.specs.Sending.{SendsOpen}
use Rattle.mb_register.proofs.SendingLemmas.{among-sends-none, looks-send-none, sends-append}
use Rattle.mb_register.proofs.Unchanged.{unchanged-then}

-- it saw more, has the share that it had, gave each cell back as it was taken, and owes every other actor what it owed before
pub record Moves (id : ℕ) (old new : View) : Type 0 where
  pub more : List Observation
  pub took_none : Each TakesNothing more
  pub sends_open : SendsOpen more
  pub log : new.log ≡ more ++ old.log
  pub others : (other : ℕ) → other ≢ id → obligation_to other new ≡ obligation_to other old
  pub share : new.share ≡ old.share
  pub gives_back : GivesBackUnchanged old new

look-takes-none : (id : ℕ) (s : Observation) → IsLook id s → TakesNothing s
look-takes-none id (Read a word) look = tt
look-takes-none id (Saw a journal) look = tt
look-takes-none id (Counted a waiting) look = tt
look-takes-none id (Looked a has_work) look = tt
look-takes-none id (Sent a n) look = tt
look-takes-none id (Unsent a n) look = tt
look-takes-none id (Took a n) look = look
look-takes-none id (Pushed a number message) look = tt
look-takes-none id (Drained a given) look = tt
look-takes-none id (Ended a given) look = tt

pub looks-take-none : (id : ℕ) (looks : List Observation) → Each (IsLook id) looks → Each TakesNothing looks
looks-take-none id looks = each_weaker (IsLook id) TakesNothing looks (look-takes-none id)

pub moves-does : (id : ℕ) (did : List Observation) (told : List SentSystem) (a b : View) → Each TakesNothing did → SendsOpen did → Does id did told a b →
    Moves id a b
moves-does id did told a b none sends d = record {
  more = d.looks ++ did;
  took_none = each_append TakesNothing d.looks did (looks-take-none id d.looks d.only) none;
  sends_open = sends-append d.looks did (looks-send-none id d.looks d.only) sends;
  log = d.log;
  others = d.others;
  share = d.share;
  gives_back = d.gives_back;
}

pub moves-then : (id : ℕ) (a b c : View) → Moves id a b → Moves id b c → Moves id a c
moves-then id a b c p q = record {
  more = q.more ++ p.more;
  took_none = each_append TakesNothing q.more p.more q.took_none p.took_none;
  sends_open = sends-append q.more p.more q.sends_open p.sends_open;
  log = q.log ∙ ap (λ l. q.more ++ l) p.log ∙ sym (append_assoc q.more p.more a.log);
  others = λ other apart. q.others other apart ∙ p.others other apart;
  share = q.share ∙ p.share;
  gives_back = unchanged-then a b c p.gives_back q.gives_back;
}

-- to that actor it owes no more, or owes it a look
pub moves-obligations : {H : Type 0} (id : ℕ) (a b : Caller H) → Moves id a.view b.view → IsDischargedOrOwed id b → (other : ℕ) →
    IsDischargedOrOwed other b ⊎ (obligation_to other b.view ≡ obligation_to other a.view)
moves-obligations id a b m discharged other = by_actor (same_or_other other id)
  where
    by_actor : (other ≡ id) ⊎ (other ≢ id) → IsDischargedOrOwed other b ⊎ (obligation_to other b.view ≡ obligation_to other a.view)
    by_actor (inl same) = inl (subst (λ n. IsDischargedOrOwed n b) (sym same) discharged)
    by_actor (inr apart) = inr (m.others other apart)

-- or it is to register the actor still
moves-obligations-told : {H : Type 0} (id : ℕ) (a b : Caller H) → Moves id a.view b.view → IsDischargedOrOwed id b ⊎ IsTold id b → (other : ℕ) →
    IsDischargedOrOwed other b ⊎ (obligation_to other b.view ≡ obligation_to other a.view) ⊎ IsTold other b
moves-obligations-told id a b m here other = by_actor (same_or_other other id) here
  where
    by_actor : (other ≡ id) ⊎ (other ≢ id) → IsDischargedOrOwed id b ⊎ IsTold id b →
        IsDischargedOrOwed other b ⊎ (obligation_to other b.view ≡ obligation_to other a.view) ⊎ IsTold other b
    by_actor (inl same) (inl discharged) = inl (subst (λ n. IsDischargedOrOwed n b) (sym same) discharged)
    by_actor (inl same) (inr still) = inr (inr (subst (λ n. IsTold n b) (sym same) still))
    by_actor (inr apart) either = inr (inl (m.others other apart))

-- each claim that it got is of an actor that was due, and none was lost; and it is to register whom it was to register before
pub further-tells : {H : Type 0} (id : ℕ) (a b : Caller H) → Moves id a.view b.view → OwesForRefusals a.account b.account →
    IsDischargedOrOwed id b ⊎ IsTold id b → ((other : ℕ) → IsTold other a → IsTold other b) →
    LosesNoClaim a.account b.account a.view b.view → GotDue a.view b.view → CallerAdvances a b
further-tells id a b m account here told claims got_due = record {
  more = m.more;
  took_none = m.took_none;
  sends_open = m.sends_open;
  log = m.log;
  account = account;
  obligations = moves-obligations-told id a b m here;
  told = λ other still. inr (told other still);
  share = m.share;
  gives_back = m.gives_back;
  claims = claims;
  got_due = got_due;
}

-- the same, where it told nobody something that it has not registered since
pub further-moves : {H : Type 0} (id : ℕ) (a b : Caller H) → Moves id a.view b.view → OwesForRefusals a.account b.account → IsDischargedOrOwed id b →
    b.told ≡ a.told → LosesNoClaim a.account b.account a.view b.view → GotDue a.view b.view → CallerAdvances a b
further-moves id a b m account discharged same claims got_due =
    further-tells id a b m account (inl discharged) (λ other still. (still.0, ap (λ (o : ActorSet). has_actor o other) same ∙ still.1)) claims got_due

-- who looks at some actors takes nothing and sends nothing
pub among-takes-none : (among : ℕ → Bool) (looks : List Observation) → Each (λ (s : Observation). (id : ℕ) × (among id ≡ true) × IsLook id s) looks →
    Each TakesNothing looks
among-takes-none among looks =
    each_weaker (λ (s : Observation). (id : ℕ) × (among id ≡ true) × IsLook id s) TakesNothing looks (λ s is. look-takes-none is.0 s is.2)

-- the actors that it told something were registered
pub further-told : {H : Type 0} (a b : Caller H) → LooksAmong (has_actor a.told) a.view b.view →
    ((id : ℕ) → 64 ≤ id → obligation_to id b.view ≡ obligation_to id a.view) →
    ((id : ℕ) → id < 64 → has_actor a.told id ≡ true → IsDischargedOrOwed id b) → OwesForRefusals a.account b.account →
    LosesNoClaim a.account b.account a.view b.view → GotDue a.view b.view → CallerAdvances a b
further-told a b looks beyond discharged account claims got_due = record {
  more = looks.looks;
  took_none = among-takes-none (has_actor a.told) looks.looks looks.only;
  sends_open = among-sends-none (has_actor a.told) looks.looks looks.only;
  log = looks.log;
  account = account;
  obligations = λ id. by_set id (has_actor a.told id) refl (cases_lt id 64);
  told = λ id still. inl (discharged id still.0 still.1);
  share = looks.share;
  gives_back = looks.gives_back;
  claims = claims;
  got_due = got_due;
}
  where
    by_set : (id : ℕ) (among : Bool) → has_actor a.told id ≡ among → (id < 64) ⊎ (64 ≤ id) →
        IsDischargedOrOwed id b ⊎ (obligation_to id b.view ≡ obligation_to id a.view) ⊎ IsTold id b
    by_set id true is (inl few) = inl (discharged id few is)
    by_set id true is (inr many) = inr (inl (beyond id many))
    by_set id false is place = inr (inl (looks.others id is))
