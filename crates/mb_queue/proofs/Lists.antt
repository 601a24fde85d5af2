-- On the views of all ports, and on the envelopes of one sender.
use Rattle.std.proofs.Common.{◌≡◌, ◌≢◌, ℕ, zero, suc, ◌==◌, Bool, true, false, cond, List, [], ◌∷◌, ◌++◌, length, set, sym, refl, ap, ◌∙◌, subst}
use Rattle.std.proofs.Common.{⊎_elim, ◌⊎◌, inl, inr, arith, Option, Some}
use Rattle.std.specs.Bool.{Decides}
use Rattle.std.proofs.lemmas.Bool.Decides.{nat_tests, Decides-eqb}
use Rattle.std.proofs.lemmas.List.Elements.{filter-append, All-contains, All-tail}
use Rattle.std.specs.List.{All, Contains}
use Rattle.mb_queue.specs.Rule.{Belongs}
use Rattle.std.proofs.lemmas.List.{append-nil}
use mathlib.Core.Option.{some, some-ne-none, some-injective}
use lib.ListN.{get_elem?}
use Rattle.crossbeam_queue.proofs.Lists.{at_set}
use Rattle.mb_msg.specs.declared.envelope.Envelope.{Envelope}
use Rattle.mb_queue.specs.declared.ledger.Account.{Account}
use Rattle.mb_queue.specs.declared.ledger.Scope.{Scope}
use Rattle.mb_queue.specs.Ledger.{sent_by, account, account_after}

module _ {V : Type 0} where
  -- a fact of each view and its port
  abbrev pub Each : (ℕ → V → Type 0) → List V → Type 0
  Each F views = (port : ℕ) (v : V) → get_elem? views port ≡ some v → F port v

  -- one view changes
  pub each_set : (F : ℕ → V → Type 0) (views : List V) (port : ℕ) (w : V) → F port w
      → ((j : ℕ) (u : V) → j ≢ port → get_elem? views j ≡ some u → F j u) → Each F (set views port w)
  each_set F views port w mine others j u e = ⊎_elim (λ (x : (j ≡ port) × (w ≡ u)). subst (λ (y : ℕ × V). F y.0 y.1) (λ i. (sym x.0 i, x.1 i)) mine)
      (λ (x : (j ≢ port) × (get_elem? views j ≡ some u)). others j u x.0 x.1) (at_set views port j w u e)

  -- a view that is not among the first ones is the last
  pub at_end : (views : List V) (v u : V) (j : ℕ) → get_elem? (views ++ v ∷ []) j ≡ some u
      → (get_elem? views j ≡ some u) ⊎ ((j ≡ length views) × (v ≡ u))
  at_end [] v u zero e = inr (refl, some-injective v u e)
  at_end [] v u (suc j) e = absurd (some-ne-none u (sym e))
  at_end (x ∷ views) v u zero e = inl e
  at_end (x ∷ views) v u (suc j) e = ⊎_elim (λ h. inl h) (λ h. inr (ap suc h.0, h.1)) (at_end views v u j e)

  -- one more view
  pub each_more : (F : ℕ → V → Type 0) (views : List V) (v : V) → Each F views → F (length views) v → Each F (views ++ v ∷ [])
  each_more F views v old new j u e = ⊎_elim (λ h. old j u h) (λ h. subst (λ (y : ℕ × V). F y.0 y.1) (λ i. (sym h.0 i, h.1 i)) new)
      (at_end views v u j e)

-- the holder of each account, after the account of one sender went to this port
abbrev pub handed : (ℕ → ℕ) → ℕ → ℕ → ℕ → ℕ
handed holder sender port other = cond (other == sender) port (holder other)

pub handed-same : (holder : ℕ → ℕ) (sender port : ℕ) → port ≡ handed holder sender port sender
handed-same holder sender port = grind (arith, nat_tests)

pub handed-other : (holder : ℕ → ℕ) (sender port other : ℕ) → other ≢ sender → holder other ≡ handed holder sender port other
handed-other holder sender port other ne = grind (arith, nat_tests)

pub sent_by-mine : (sender : ℕ) (xs : List Envelope) (e : Envelope) → sender ≡ e.by.0 → sent_by sender (xs ++ e ∷ []) ≡ sent_by sender xs ++ e ∷ []
sent_by-mine sender xs e is = let same : (e.by.0 == sender) ≡ true = grind (arith, nat_tests) in
    filter-append (λ (x : Envelope). x.by.0 == sender) xs (e ∷ []) ∙ ap (λ (b : Bool). sent_by sender xs ++ cond b (e ∷ []) []) same

pub sent_by-other : (sender : ℕ) (xs : List Envelope) (e : Envelope) → sender ≢ e.by.0 → sent_by sender (xs ++ e ∷ []) ≡ sent_by sender xs
sent_by-other sender xs e ne = let other : (e.by.0 == sender) ≡ false = grind (arith, nat_tests) in
    filter-append (λ (x : Envelope). x.by.0 == sender) xs (e ∷ []) ∙ ap (λ (b : Bool). sent_by sender xs ++ cond b (e ∷ []) []) other
    ∙ append-nil (sent_by sender xs)

pub account_after-append : (before : Option (List Envelope)) (xs ys : List Account) (sender : ℕ)
    → account_after before (xs ++ ys) sender ≡ account_after (account_after before xs sender) ys sender
account_after-append before [] ys sender = refl
account_after-append before (a ∷ xs) ys sender = account_after-append (cond (a.by == sender) a.pushed before) xs ys sender

pub account-same : (accounts : List Account) (a : Account) (sender : ℕ) → a.by ≡ sender → account (accounts ++ a ∷ []) sender ≡ a.pushed
account-same accounts a sender is = let same : (a.by == sender) ≡ true = grind (arith, nat_tests) in
    account_after-append (Some []) accounts (a ∷ []) sender ∙ ap (λ (b : Bool). cond b a.pushed (account accounts sender)) same

pub account-other : (accounts : List Account) (a : Account) (sender : ℕ) → a.by ≢ sender
    → account (accounts ++ a ∷ []) sender ≡ account accounts sender
account-other accounts a sender ne = let other : (a.by == sender) ≡ false = grind (arith, nat_tests) in
    account_after-append (Some []) accounts (a ∷ []) sender ∙ ap (λ (b : Bool). cond b a.pushed (account accounts sender)) other

decided : (P : Type 0) (b : Bool) → Decides b P → P ⊎ (P → ⊥)
decided P true d = inl (d.0 refl)
decided P false d = inr (λ p. let e : false ≡ true = d.1 p in cc)

pub same_or_not : (a b : ℕ) → (a ≡ b) ⊎ (a ≢ b)
same_or_not a b = decided (a ≡ b) (a == b) (Decides-eqb a b)

-- the account of a sender with a new entry is that entry, and any other is as before
pub account-cases : (accounts : List Account) (a : Account) (sender : ℕ) (pushed : List Envelope) → account (accounts ++ a ∷ []) sender ≡ Some pushed
    → ((sender ≡ a.by) × (a.pushed ≡ Some pushed)) ⊎ ((sender ≢ a.by) × (account accounts sender ≡ Some pushed))
account-cases accounts a sender pushed is = ⊎_elim (λ (same : sender ≡ a.by). inl (same, sym (account-same accounts a sender (sym same)) ∙ is))
    (λ (ne : sender ≢ a.by). inr (ne, sym (account-other accounts a sender (λ e. ne (sym e))) ∙ is)) (same_or_not sender a.by)

pub none_known : (scope : Scope) (all : List Envelope) → scope.senders ≡ [] → All (Belongs scope) all → all ≡ []
none_known scope [] is known = refl
none_known scope (e ∷ all) is known = let c : Belongs scope e = All-contains (Belongs scope) (e ∷ all) e known (0, omega arith, refl) in
    absurd (omega (arith, c.0.1, ap length is))

pub none_within : (senders : List ℕ) (sender : ℕ) → senders ≡ [] → Contains senders sender → ⊥
none_within senders sender is c = omega (arith, c.1, ap length is)

pub All-behind : (P : Envelope → Type 0) (xs ys : List Envelope) → All P (xs ++ ys) → All P ys
All-behind P [] ys h = h
All-behind P (x ∷ xs) ys h = All-behind P xs ys (All-tail P x (xs ++ ys) h)
