-- What a registration, a run, and its end make of those who are registered.
use Rattle.std.proofs.Common.{◌≡◌, ◌≢◌, ℕ, zero, suc, ◌+◌, ◌<◌, ◌≤◌, Bool, true, false, List, [], ◌∷◌, ◌++◌, length, get_or, map, refl, sym, ap, subst, ◌∙◌, arith, ⊎_elim}
use Rattle.std.specs.Prelude.{Some, None, Option, slice_get, slice_set, slice_index_or}
use Rattle.std.specs.List.{Contains, remove}
use Rattle.std.proofs.lemmas.Bool.{cases_lt}
use Rattle.std.proofs.lemmas.List.Edits.{get_or-remove_below, get_or-remove_above, length-remove}
use Rattle.std.proofs.lemmas.List.Elements.{All-push, Contains-get_or, Contains-push_cases}
use Rattle.std.proofs.lemmas.List.Quantifiers.{all_pairs_push, all_pairs_remove}
use Rattle.mb_msg.specs.declared.id.ActorId.{ActorId}
use Rattle.mb_world.specs.MailboxView.{MailboxView}
use Rattle.mb_world.specs.Registered.{is_scheduled, IsRegistry}

-- ---- one entry of a list is set

set-same : {X : Type 0} (l : List X) (i : ℕ) (x y : X) → slice_get l i ≡ Some x → slice_get (slice_set l i y) i ≡ Some y
set-same [] i x y is = absurd (cc is)
set-same (z ∷ l) zero x y is = refl
set-same (z ∷ l) (suc i) x y is = set-same l i x y is

set-other : {X : Type 0} (l : List X) (i k : ℕ) (y : X) → (k ≡ i → ⊥) → slice_get (slice_set l i y) k ≡ slice_get l k
set-other [] i k y apart = refl
set-other (z ∷ l) zero zero y apart = absurd (apart refl)
set-other (z ∷ l) zero (suc k) y apart = refl
set-other (z ∷ l) (suc i) zero y apart = refl
set-other (z ∷ l) (suc i) (suc k) y apart = set-other l i k y (λ e. apart (ap suc e))

-- two actors with the same number are one
same-actor : (a b : ActorId) → a.0 ≡ b.0 → a ≡ b
same-actor a b e i = record { 0 = e i }

-- another actor that is scheduled stays so
stays-true : (l : List Bool) (a b : ActorId) → (b ≡ a → ⊥) → (y : Bool) → slice_get l b.0 ≡ Some true → slice_get (slice_set l a.0 y) b.0 ≡ Some true
stays-true l a b apart y is = set-other l a.0 b.0 y (λ e. apart (same-actor b a e)) ∙ is

-- who is scheduled is none of those who are not
scheduled-apart : (l : List Bool) (a b : ActorId) → slice_get l a.0 ≡ Some false → slice_get l b.0 ≡ Some true → b ≡ a → ⊥
scheduled-apart l a b idle is same =
    let here : slice_get l a.0 ≡ Some true = subst (λ (x : ActorId). slice_get l x.0 ≡ Some true) same is in
    let both : Some true ≡ Some false = sym here ∙ idle in cc

-- ---- none

pub registry-none : (scheduled : List Bool) → IsRegistry scheduled [] None
registry-none scheduled = record {
  once = λ i j d lt within. absurd (omega arith);
  each_scheduled = λ k d within. absurd (omega arith);
  run_apart = λ a is. absurd (cc is);
}

-- ---- an actor that is not scheduled is registered

pub registry-push : (scheduled : List Bool) (registered : List ActorId) (running : Option ActorId) (a : ActorId) →
    IsRegistry scheduled registered running → slice_get scheduled a.0 ≡ Some false →
    IsRegistry (slice_set scheduled a.0 true) (registered ++ a ∷ []) running
registry-push scheduled registered running a is idle = record {
  once = all_pairs_push (λ (x y : ActorId). x ≢ y) registered a is.once
      (λ k d within. scheduled-apart scheduled a (get_or registered k d) idle (is.each_scheduled k d within));
  each_scheduled = All-push (λ (x : ActorId). slice_get (slice_set scheduled a.0 true) x.0 ≡ Some true) registered a
      (λ k d within. let was = is.each_scheduled k d within in
      stays-true scheduled a (get_or registered k d) (scheduled-apart scheduled a (get_or registered k d) idle was) true was)
      (set-same scheduled a.0 false true idle);
  run_apart = λ b runs. let was = is.run_apart b runs in let apart = scheduled-apart scheduled a b idle was.0 in (
    stays-true scheduled a b apart true was.0,
    λ there. ⊎_elim was.1 (λ same. apart (sym same)) (Contains-push_cases registered a b there),
  );
}

-- ---- the run of an actor that is registered begins

pub registry-take : (scheduled : List Bool) (registered : List ActorId) (running : Option ActorId) (a : ActorId) (k : ℕ) →
    IsRegistry scheduled registered running → k < length registered → get_or registered k a ≡ a →
    IsRegistry scheduled (remove registered k) (Some a)
registry-take scheduled registered running a k is within here = record {
  once = all_pairs_remove (λ (x y : ActorId). x ≢ y) registered k within is.once;
  each_scheduled = λ j d lt. ⊎_elim
      (λ below. rw (get_or-remove_below registered k d j below within) (is.each_scheduled j d (omega arith)))
      (λ above. let fewer = length-remove registered k within in
      rw (get_or-remove_above registered k d j above within) (is.each_scheduled (j + 1) d (omega arith)))
      (cases_lt j k);
  run_apart = λ b runs. let same : a ≡ b = cc in (
    subst (λ (x : ActorId). slice_get scheduled x.0 ≡ Some true) (here ∙ same) (is.each_scheduled k a within),
    subst (λ x. Contains (remove registered k) x → ⊥) same gone,
  );
}
  where
    gone : Contains (remove registered k) a → ⊥
    gone there = let j = there.0 in let fewer = length-remove registered k within in let lt = there.1 in ⊎_elim
        (λ (below : j < k). is.once j k a below within (sym (get_or-remove_below registered k a j below within) ∙ there.2 ∙ sym here))
        (λ (above : k ≤ j). is.once k (j + 1) a (omega arith) (omega arith)
        (here ∙ sym there.2 ∙ get_or-remove_above registered k a j above within))
        (cases_lt j k)

-- ---- its run ends

pub registry-end : (scheduled : List Bool) (registered : List ActorId) (a : ActorId) →
    IsRegistry scheduled registered (Some a) → IsRegistry (slice_set scheduled a.0 false) registered None
registry-end scheduled registered a is = let apart = (is.run_apart a refl).1 in record {
  once = is.once;
  each_scheduled = λ k d within.
      stays-true scheduled a (get_or registered k d)
      (λ same. apart (subst (λ (x : ActorId). Contains registered x) same (Contains-get_or registered k d within))) false
      (is.each_scheduled k d within);
  run_apart = λ b runs. absurd (cc runs);
}

-- ---- a mailbox is changed

-- it is scheduled as before
pub scheduled-stay : (l : List MailboxView) (i : ℕ) (x y : MailboxView) → x ≡ slice_index_or l i x → y.is_scheduled ≡ x.is_scheduled →
    map is_scheduled (slice_set l i y) ≡ map is_scheduled l
scheduled-stay [] i x y is same = refl
scheduled-stay (z ∷ l) zero x y is same = ap (λ w. w ∷ map is_scheduled l) (same ∙ ap is_scheduled is)
scheduled-stay (z ∷ l) (suc i) x y is same = ap (λ w. is_scheduled z ∷ w) (scheduled-stay l i x y is same)

-- so who is registered is as before
pub registry-stays : (l : List MailboxView) (i : ℕ) (x y : MailboxView) (registered : List ActorId) (running : Option ActorId) →
    x ≡ slice_index_or l i x → y.is_scheduled ≡ x.is_scheduled → IsRegistry (map is_scheduled l) registered running →
    IsRegistry (map is_scheduled (slice_set l i y)) registered running
registry-stays l i x y registered running is same was =
    subst (λ (s : List Bool). IsRegistry s registered running) (sym (scheduled-stay l i x y is same)) was

-- it is scheduled from now on, or is not from now on
pub scheduled-set : (l : List MailboxView) (i : ℕ) (y : MailboxView) (b : Bool) → y.is_scheduled ≡ b →
    map is_scheduled (slice_set l i y) ≡ slice_set (map is_scheduled l) i b
scheduled-set [] i y b is = refl
scheduled-set (z ∷ l) zero y b is = ap (λ w. w ∷ map is_scheduled l) is
scheduled-set (z ∷ l) (suc i) y b is = ap (λ w. is_scheduled z ∷ w) (scheduled-set l i y b is)

-- whether it is scheduled now
pub scheduled-get : (l : List MailboxView) (i : ℕ) (x : MailboxView) (b : Bool) → i < length l → x ≡ slice_index_or l i x → x.is_scheduled ≡ b →
    slice_get (map is_scheduled l) i ≡ Some b
scheduled-get [] i x b within is same = absurd (omega arith)
scheduled-get (z ∷ l) zero x b within is same = ap Some (ap is_scheduled (sym is) ∙ same)
scheduled-get (z ∷ l) (suc i) x b within is same = scheduled-get l i x b (omega arith) is same

-- ---- the same, of mailboxes

-- an actor whose mailbox was not scheduled is registered
pub registry-registers : (l : List MailboxView) (x y : MailboxView) (registered after : List ActorId) (running : Option ActorId) (a : ActorId) →
    IsRegistry (map is_scheduled l) registered running → a.0 < length l → x ≡ slice_index_or l a.0 x → x.is_scheduled ≡ false →
    y.is_scheduled ≡ true → after ≡ registered ++ a ∷ [] → IsRegistry (map is_scheduled (slice_set l a.0 y)) after running
registry-registers l x y registered after running a was within is idle scheduled pushed =
    subst (λ (s : List Bool). IsRegistry s after running) (sym (scheduled-set l a.0 y true scheduled))
    (subst (λ (r : List ActorId). IsRegistry (slice_set (map is_scheduled l) a.0 true) r running) (sym pushed)
    (registry-push (map is_scheduled l) registered running a was (scheduled-get l a.0 x false within is idle)))

-- the mailbox that is run is set idle
pub registry-idle : (l : List MailboxView) (y : MailboxView) (registered : List ActorId) (running : Option ActorId) (a : ActorId) →
    IsRegistry (map is_scheduled l) registered running → running ≡ Some a → y.is_scheduled ≡ false →
    IsRegistry (map is_scheduled (slice_set l a.0 y)) registered None
registry-idle l y registered running a was runs idle =
    subst (λ (s : List Bool). IsRegistry s registered None) (sym (scheduled-set l a.0 y false idle))
    (registry-end (map is_scheduled l) registered a
    (subst (λ (o : Option ActorId). IsRegistry (map is_scheduled l) registered o) runs was))
