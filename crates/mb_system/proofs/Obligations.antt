-- Nothing that is owed is forgotten, step after step.
use Rattle.std.proofs.Common.{◌≡◌, ◌≢◌, ◌⊎◌, inl, inr, ℕ, ◌+◌, ◌<◌, ◌≤◌, Bool, true, false, refl, sym, ap, ◌∙◌, subst, arith}
use Rattle.mb_core.specs.Actor.{nothing}
use Rattle.mb_gate.specs.View.{obligation_to}
use Rattle.mb_register.specs.Caller.{Caller, IsDischargedOrOwed, LeavesCaller}
use Rattle.mb_register.specs.ActorSet.{has_actor}
use Rattle.mb_register.specs.Views.{LooksAmong}
use Rattle.mb_register.proofs.Bits.{same_or_other}
use Rattle.mb_system.specs.Obligations.{AreDischargedOrOwed, KeepsObligations, HasNoObligationTo}

true-or-false : (b : Bool) → (b ≡ true) ⊎ (b ≡ false)
true-or-false true = inl refl
true-or-false false = inr refl

not-both : {P : Type 0} (b : Bool) → b ≡ true → b ≡ false → P
not-both b owed_it free = let clash : true ≡ false = sym owed_it ∙ free in absurd (cc)

module _ {H : Type 0} (actors : ℕ) where
  -- nothing became of them
  pub obligations-same : (a b : Caller H) → b.view ≡ a.view → b.account.owed ≡ a.account.owed → KeepsObligations actors a b
  obligations-same a b view owed id lt = by_look (true-or-false (has_actor a.account.owed id))
    where
      by_look : (has_actor a.account.owed id ≡ true) ⊎ (has_actor a.account.owed id ≡ false)
          → IsDischargedOrOwed id b ⊎ ((has_actor a.account.owed id ≡ false) × (obligation_to id b.view ≡ obligation_to id a.view))
      by_look (inl owed_it) = inl (inr (ap (λ o. has_actor o id) owed ∙ owed_it))
      by_look (inr free) = inr (free, ap (obligation_to id) view)

  pub obligations-then : (a b c : Caller H) → KeepsObligations actors a b → KeepsObligations actors b c → KeepsObligations actors a c
  obligations-then a b c p q id lt = by_last (q id lt) (p id lt)
    where
      by_last : IsDischargedOrOwed id c ⊎ ((has_actor b.account.owed id ≡ false) × (obligation_to id c.view ≡ obligation_to id b.view))
          → IsDischargedOrOwed id b ⊎ ((has_actor a.account.owed id ≡ false) × (obligation_to id b.view ≡ obligation_to id a.view))
          → IsDischargedOrOwed id c ⊎ ((has_actor a.account.owed id ≡ false) × (obligation_to id c.view ≡ obligation_to id a.view))
      by_last (inl discharged) before = inl discharged
      by_last (inr kept) (inl (inl none)) = inl (inl (kept.1 ∙ none))
      by_last (inr kept) (inl (inr owed)) = not-both (has_actor b.account.owed id) owed kept.0
      by_last (inr kept) (inr before) = inr (before.0, kept.1 ∙ before.1)

  -- nothing became of them in between
  pub obligations-from : (a b between c : Caller H) → KeepsObligations actors a b → between.view ≡ b.view → between.account.owed ≡ b.account.owed
      → KeepsObligations actors between c → KeepsObligations actors a c
  obligations-from a b between c p view owed q = obligations-then a between c (obligations-then a b between p (obligations-same b between view owed)) q

  -- a look, or a run of a mailbox, lets none go
  pub obligations-left : (a b : Caller H) → LeavesCaller a b → KeepsObligations actors a b
  obligations-left a b left id lt = by_look (left.obligations id) (true-or-false (has_actor a.account.owed id))
    where
      by_look : IsDischargedOrOwed id b ⊎ (obligation_to id b.view ≡ obligation_to id a.view) → (has_actor a.account.owed id ≡ true) ⊎ (has_actor a.account.owed id ≡ false)
          → IsDischargedOrOwed id b ⊎ ((has_actor a.account.owed id ≡ false) × (obligation_to id b.view ≡ obligation_to id a.view))
      by_look (inl discharged) owed = inl discharged
      by_look (inr same) (inl owed_it) = inl (inr (left.account.still id owed_it))
      by_look (inr same) (inr free) = inr (free, same)

  -- nor does one that registers refused actors again
  pub obligations-discharged : (a b : Caller H) → actors ≤ 64 → LooksAmong (has_actor a.account.owed) a.view b.view
      → ((id : ℕ) → id < 64 → has_actor a.account.owed id ≡ true → IsDischargedOrOwed id b) → KeepsObligations actors a b
  obligations-discharged a b few looks kept id lt = by_look (true-or-false (has_actor a.account.owed id))
    where
      by_look : (has_actor a.account.owed id ≡ true) ⊎ (has_actor a.account.owed id ≡ false)
          → IsDischargedOrOwed id b ⊎ ((has_actor a.account.owed id ≡ false) × (obligation_to id b.view ≡ obligation_to id a.view))
      by_look (inl owed_it) = inl (kept id (omega (arith, lt, few)) owed_it)
      by_look (inr free) = inr (free, looks.others id free)

  -- nor does one that does something at one actor, and then looks at it
  pub obligations-at : (at : ℕ) (a b : Caller H) → ((id : ℕ) → id ≢ at → obligation_to id b.view ≡ obligation_to id a.view) → IsDischargedOrOwed at b
      → ((id : ℕ) → has_actor a.account.owed id ≡ true → has_actor b.account.owed id ≡ true) → KeepsObligations actors a b
  obligations-at at a b others discharged still id lt = by_actor (same_or_other id at) (true-or-false (has_actor a.account.owed id))
    where
      by_actor : (id ≡ at) ⊎ (id ≢ at) → (has_actor a.account.owed id ≡ true) ⊎ (has_actor a.account.owed id ≡ false)
          → IsDischargedOrOwed id b ⊎ ((has_actor a.account.owed id ≡ false) × (obligation_to id b.view ≡ obligation_to id a.view))
      by_actor (inl same) owed = inl (subst (λ n. IsDischargedOrOwed n b) (sym same) discharged)
      by_actor (inr other) (inl owed_it) = inl (inr (still id owed_it))
      by_actor (inr other) (inr free) = inr (free, others id other)

  -- who owed each actor nothing, or a look, does so still
  pub discharged-still : (a b : Caller H) → AreDischargedOrOwed actors a → KeepsObligations actors a b → AreDischargedOrOwed actors b
  discharged-still a b p q id lt = by_last (q id lt) (p id lt)
    where
      by_last : IsDischargedOrOwed id b ⊎ ((has_actor a.account.owed id ≡ false) × (obligation_to id b.view ≡ obligation_to id a.view)) → IsDischargedOrOwed id a → IsDischargedOrOwed id b
      by_last (inl discharged) before = discharged
      by_last (inr kept) (inl none) = inl (kept.1 ∙ none)
      by_last (inr kept) (inr owed) = not-both (has_actor a.account.owed id) owed kept.0

  -- and where it owes nobody a look, it owes nothing
  pub owes-nothing : (a : Caller H) → AreDischargedOrOwed actors a → ((id : ℕ) → id < actors → has_actor a.account.owed id ≡ false) → HasNoObligationTo actors a
  owes-nothing a p nobody id lt = by_obligation (p id lt)
    where
      by_obligation : IsDischargedOrOwed id a → obligation_to id a.view ≡ nothing
      by_obligation (inl none) = none
      by_obligation (inr owed) = not-both (has_actor a.account.owed id) owed (nobody id lt)

-- one actor after another was looked after
pub discharged-more : {H : Type 0} (many : ℕ) (a b : Caller H) → AreDischargedOrOwed many a → LeavesCaller a b → IsDischargedOrOwed many b → AreDischargedOrOwed (many + 1) b
discharged-more many a b p left last id lt = by_actor (same_or_other id many)
  where
    by_actor : (id ≡ many) ⊎ (id ≢ many) → IsDischargedOrOwed id b
    by_actor (inl same) = subst (λ n. IsDischargedOrOwed n b) (sym same) last
    by_actor (inr other) = discharged-still many a b p (obligations-left many a b left) id (omega (arith, lt, other))
