-- What registering actors changes of a worker's handle.
use Rattle.std.proofs.Common.{◌≡◌, ◌⊎◌, inl, inr, ◌++◌, [], Bool, true, false, ℕ, ap, refl, sym, ◌∙◌, Option, Some, None, append_assoc}
use Rattle.std.specs.Prelude.{IfNone}
use Rattle.std.proofs.lemmas.List.{append-nil}
use Rattle.mb_register.specs.Caller.{Caller, IsDischargedOrOwed, LeavesCaller}
use Rattle.mb_register.proofs.CallerLemmas.{account-none, account-then, account-registered}
use Rattle.mb_register.proofs.MoveLemmas.{moves-does, moves-obligations}
use Rattle.mb_ghost.proofs.SeenLemmas.{each_append, each_weaker}
use Rattle.mb_gate.specs.View.{Observation, View, obligation_to}
use Rattle.mb_register.specs.Views.{IsLook, LooksAfter, LooksAmong}
use Rattle.mb_register.specs.Registering.{IsRegistered}
use Rattle.mb_register.proofs.Retries.{among-none, among-on}
use Rattle.mb_register.proofs.Unchanged.{unchanged-then}
use Rattle.mb_system.specs.OnlyLooks.{OnlyLooks}
use Rattle.mb_system.proofs.Saw.{saw-same, saw-then}

-- the actor was looked at, and registered or not
pub leaves-registered : {H : Type 0} (id : ℕ) (a b : Caller H) (registered : Bool) → LooksAfter id a.view b.view → IsRegistered id a.account b.account registered
    → IsDischargedOrOwed id b → LeavesCaller a b
leaves-registered id a b registered looks w discharged =
    let moves = moves-does id [] [] a.view b.view tt tt looks in
    record {
      log = record { before = moves.more; after = []; joined = moves.log ∙ ap (λ l. moves.more ++ l) (sym (append-nil a.view.log)) };
      account = account-registered id a.account b.account registered w;
      obligations = moves-obligations id a b moves discharged;
      share = moves.share;
    }

-- nothing was done, or one thing after another
pub leaves-none : {H : Type 0} (a : Caller H) → LeavesCaller a a
leaves-none a = record { log = saw-same a.view.log; account = account-none a.account; obligations = λ id. inr refl; share = refl }

pub leaves-then : {H : Type 0} (a b c : Caller H) → LeavesCaller a b → LeavesCaller b c → LeavesCaller a c
leaves-then a b c p q = record {
  log = saw-then a.view.log b.view.log c.view.log p.log q.log;
  account = account-then a.account b.account c.account p.account q.account;
  obligations = λ id. by_last id (q.obligations id) (p.obligations id);
  share = q.share ∙ p.share;
}
  where
    by_last : (id : ℕ) → IsDischargedOrOwed id c ⊎ (obligation_to id c.view ≡ obligation_to id b.view) → IsDischargedOrOwed id b ⊎ (obligation_to id b.view ≡ obligation_to id a.view)
        → IsDischargedOrOwed id c ⊎ (obligation_to id c.view ≡ obligation_to id a.view)
    by_last id (inl discharged) before = inl discharged
    by_last id (inr kept) (inl (inl none)) = inl (inl (kept ∙ none))
    by_last id (inr kept) (inl (inr owed)) = inl (inr (q.account.still id owed))
    by_last id (inr kept) (inr same) = inr (kept ∙ same)

-- what an answer of none tells
pub none-tells : {X : Type 0} (A B C D : Type 0) (r : Option X) → (A → B) → IfNone r (A × C × D) → IfNone r (B × C × D)
none-tells A B C D None f h = (f h.0, h.1, h.2)
none-tells A B C D (Some x) f h = tt

pub none-still : {X : Type 0} (A B : Type 0) (r : Option X) → (A → B) → IfNone r A → IfNone r B
none-still A B None f h = f h
none-still A B (Some x) f h = tt

pub none-with : {X : Type 0} (A B C : Type 0) (r : Option X) → (A → B → C) → IfNone r A → IfNone r B → IfNone r C
none-with A B C None f g h = f g h
none-with A B C (Some x) f g h = tt

-- it was looked at nobody, at one actor more, at some of a set, or at one after another
pub only-none : (v : View) → OnlyLooks v v
only-none = among-none (λ id. true)

pub only-after : (id : ℕ) (u v w : View) → OnlyLooks u v → LooksAfter id v w → OnlyLooks u w
only-after id u v w a looks = among-on (λ i. true) id u v w a (λ out. let e : true ≡ false = out in absurd (cc)) looks

pub only-among : (among : ℕ → Bool) (u v : View) → LooksAmong among u v → OnlyLooks u v
only-among among u v a = record {
  looks = a.looks;
  only = each_weaker (λ (s : Observation). (id : ℕ) × (among id ≡ true) × IsLook id s) (λ (s : Observation). (id : ℕ) × (true ≡ true) × IsLook id s)
      a.looks (λ s is. (is.0, refl, is.2)) a.only;
  log = a.log;
  sent_system = a.sent_system;
  others = λ other out. let e : true ≡ false = out in absurd (cc);
  share = a.share;
  gives_back = a.gives_back;
}

pub only-then : (u v w : View) → OnlyLooks u v → OnlyLooks v w → OnlyLooks u w
only-then u v w a b = record {
  looks = b.looks ++ a.looks;
  only = each_append (λ (s : Observation). (id : ℕ) × (true ≡ true) × IsLook id s) b.looks a.looks b.only a.only;
  log = b.log ∙ ap (λ l. b.looks ++ l) a.log ∙ sym (append_assoc b.looks a.looks u.log);
  sent_system = b.sent_system ∙ a.sent_system;
  others = λ other out. b.others other out ∙ a.others other out;
  share = b.share ∙ a.share;
  gives_back = unchanged-then u v w a.gives_back b.gives_back;
}
