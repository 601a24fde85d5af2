-- Which claims a caller got, by what it did and saw itself.
use Rattle.std.proofs.Common.{◌≡◌, ◌⊎◌, inl, inr, ℕ, suc, Bool, true, false}
use Rattle.std.proofs.Common.{List, [], ◌∷◌, ◌++◌, refl, sym, ap, ◌∙◌, subst, arith, append_assoc, length}
use Rattle.mb_status.specs.Mailbox.{word_of}
use Rattle.mb_ghost.specs.Seen.{Each}
use Rattle.mb_ghost.proofs.SeenLemmas.{each_append, each_weaker}
use Rattle.mb_gate.specs.View.{View, Observation, Read, Looked, Counted, Pushed}
use Rattle.mb_register.specs.Hint.{has_message_hint, has_system_message_hint}
use Rattle.mb_register.specs.Due.{SawSince, SawDue, GotOnlyDue, SawWaiting, ListedOne, IsDueSince, GotDue}
use Rattle.mb_register.specs.Registering.{QueueAccount, HandsClaimOn}
use Rattle.mb_register.specs.declared.hint.Hint.{Hint}
use Rattle.mb_register.specs.declared.hint.Hint.TheVariants as hint

-- what stands in the one log since the other stands in that log since that other
abbrev pub Carries : View → View → View → View → Type 0
Carries old new before after =
    (seen later earlier : List Observation) → new.log ≡ later ++ (seen ++ (earlier ++ old.log)) →
    (later_still : List Observation) × (earlier_still : List Observation) × (after.log ≡ later_still ++ (seen ++ (earlier_still ++ before.log)))

pub carries-later : (u v w : View) (looks : List Observation) → w.log ≡ looks ++ v.log → Carries u v u w
carries-later u v w looks is seen later earlier log =
    (looks ++ later, earlier, is ∙ ap (λ l. looks ++ l) log ∙ sym (append_assoc looks later (seen ++ (earlier ++ u.log))))

pub carries-earlier : (u v w : View) (looks : List Observation) → v.log ≡ looks ++ u.log → Carries v w u w
carries-earlier u v w looks is seen later earlier log = (
  later,
  earlier ++ looks,
  log ∙ ap (λ l. later ++ (seen ++ l)) (ap (λ l. earlier ++ l) is ∙ sym (append_assoc earlier looks u.log)),
)

-- the same steps before both
pub carries-below : (u v x y : View) (steps : List Observation) → x.log ≡ u.log ++ steps → y.log ≡ v.log ++ steps → Carries u v x y
carries-below u v x y steps old new seen later earlier log = (
  later,
  earlier,
  new ∙ ap (λ l. l ++ steps) log ∙ append_assoc later (seen ++ (earlier ++ u.log)) steps
      ∙ ap (λ l. later ++ l)
      (append_assoc seen (earlier ++ u.log) steps
      ∙ ap (λ l. seen ++ l) (append_assoc earlier u.log steps ∙ ap (λ l. earlier ++ l) (sym old))),
)

either : {A B C D : Type 0} → (A → C) → (B → D) → A ⊎ B → C ⊎ D
either f g (inl a) = inl (f a)
either f g (inr b) = inr (g b)

module _ (u v x y : View) (carries : Carries u v x y) where
  saw-carried : (s : Observation) → SawSince s u v → SawSince s x y
  saw-carried s a = let there = carries (s ∷ []) a.later a.earlier a.log in record { later = there.0; earlier = there.1; log = there.2 }

  pub due-carried : (id : ℕ) → IsDueSince id u v → IsDueSince id x y
  due-carried id d = record {
    status = d.status;
    has_messages = d.has_messages;
    has_system = d.has_system;
    due = d.due;
    read = saw-carried (Read id (word_of d.status)) d.read;
    waiting = λ has. let s = d.waiting has in (s.0, s.1, saw-carried (Counted id s.0) s.2);
    listed = λ has. either (λ s. (s.0, s.1, saw-carried (Pushed id s.0 s.1) s.2)) (saw-carried (Looked id true)) (d.listed has);
  }

  pub all-carried : (ids : List ℕ) → Each (λ id. IsDueSince id u v) ids → Each (λ id. IsDueSince id x y) ids
  all-carried ids = each_weaker (λ id. IsDueSince id u v) (λ id. IsDueSince id x y) ids due-carried

pub got-no-claim : (u v : View) → v.got ≡ u.got → GotDue u v
got-no-claim u v same = record { of_these = []; got = same; due = tt }

pub got-further : (u v w : View) (looks more : List Observation) → v.log ≡ looks ++ u.log → w.log ≡ more ++ v.log → GotDue u v → GotDue v w → GotDue u w
got-further u v w looks more is further a b = record {
  of_these = b.of_these ++ a.of_these;
  got = b.got ∙ ap (λ l. b.of_these ++ l) a.got ∙ sym (append_assoc b.of_these a.of_these u.got);
  due = each_append (λ id. IsDueSince id u w) b.of_these a.of_these
      (all-carried v w u w (carries-earlier u v w looks is) b.of_these b.due)
      (all-carried u v u w (carries-later u v w more further) a.of_these a.due);
}

-- where the hint tells of no envelope, the caller read that some are counted
saw-unhinted : (id : ℕ) (hint : Hint) (b d : View) → has_message_hint hint ≡ false → (has_message_hint hint ≡ true) ⊎ SawWaiting id b d → SawWaiting id b d
saw-unhinted id hint b d unhinted (inl hinted) = let e : false ≡ true = sym unhinted ∙ hinted in absurd (cc)
saw-unhinted id hint b d unhinted (inr saw) = saw

-- what a hint told is what the caller did itself
pub due-hinted-by : (id : ℕ) (hint : Hint) (a b d : View) (did : List Observation) → b.log ≡ did ++ a.log →
    has_message_hint hint ≡ false → (has_system_message_hint hint ≡ true → ListedOne id a d) →
    SawDue id hint b d → IsDueSince id a d
due-hinted-by id hint a b d did is unhinted put due = record {
  status = due.status;
  has_messages = due.has_messages;
  has_system = due.has_system;
  due = due.due;
  read = saw-carried b d a d (carries-earlier a b d did is) (Read id (word_of due.status)) due.read;
  waiting = λ has. let s = saw-unhinted id hint b d unhinted (due.waiting has) in
      (s.0, s.1, saw-carried b d a d (carries-earlier a b d did is) (Counted id s.0) s.2);
  listed = λ has. either put (saw-carried b d a d (carries-earlier a b d did is) (Looked id true)) (due.listed has);
}

abbrev first_or : ℕ → List ℕ → ℕ
first_or n [] = n
first_or n (x ∷ xs) = x

no-more : (n m : ℕ) → m ≡ n → m ≡ suc n → ⊥
no-more n m one other = omega (arith, one, other)

-- the claim that was got is of an actor that was seen to be due
due-of : (id : ℕ) (hint : Hint) (b d : View) → GotOnlyDue hint b d → d.got ≡ id ∷ b.got → SawDue id hint b d
due-of id hint b d due one = by_list due.of_these due.got due.due
  where
    by_list : (ids : List ℕ) → d.got ≡ ids ++ b.got → Each (λ it. SawDue it hint b d) ids → SawDue id hint b d
    by_list [] none all = absurd (no-more (length b.got) (length d.got) (ap length none) (ap length one))
    by_list (it ∷ ids) some all = subst (λ n. SawDue n hint b d) (ap (first_or 0) (sym some ∙ one)) all.0

-- an actor was registered, for which something was done before
pub got-registered : {H : Type 0} (id : ℕ) (hint : Hint) (old new : QueueAccount H) (a b d : View) (result : Bool) → HandsClaimOn id old new b d result →
    GotOnlyDue hint b d → (SawDue id hint b d → IsDueSince id a d) → b.got ≡ a.got → GotDue a d
got-registered id hint old new a b d true h due so same = record {
  of_these = id ∷ [];
  got = h.1.got ∙ ap (λ l. id ∷ l) same;
  due = (so (due-of id hint b d due h.1.got), tt);
}
got-registered id hint old new a b d false (inl h) due so same = got-no-claim a d (h.1.got ∙ same)
got-registered id hint old new a b d false (inr h) due so same = record {
  of_these = id ∷ [];
  got = h.1.got ∙ ap (λ l. id ∷ l) same;
  due = (so (due-of id hint b d due h.1.got), tt);
}

-- what is due without a hint is due by what was seen alone
pub due-unhinted : (id : ℕ) (a d : View) → SawDue id hint.None a d → IsDueSince id a d
due-unhinted id a d =
    due-hinted-by id hint.None a a d [] refl refl (λ has. let e : false ≡ true = has in absurd (cc))

pub got-unhinted : (a d : View) → GotOnlyDue hint.None a d → GotDue a d
got-unhinted a d g = record {
  of_these = g.of_these;
  got = g.got;
  due = each_weaker (λ id. SawDue id hint.None a d) (λ id. IsDueSince id a d) g.of_these (λ id. due-unhinted id a d) g.due;
}
