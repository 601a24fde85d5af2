-- What a take of a fifo says of the pass: of one fifo, and of an account's part.
use Rattle.std.proofs.Common.{◌≡◌, ◌==◌, ℕ, Bool, true, false, cond, List, [], ◌∷◌, ◌++◌, filter, refl, sym, ap, ◌∙◌, subst, Option, Some}
use Rattle.std.proofs.Common.{None, option_map}
use Rattle.std.proofs.lemmas.List.{append-nil}
use Rattle.std.proofs.lemmas.List.Elements.{filter-append}
use Rattle.mb_msg.specs.declared.envelope.Envelope.{Envelope}
use Rattle.mb_queue.specs.declared.ledger.Account.{Account}
use Rattle.mb_queue.specs.declared.ledger.Ledger.TheVariants.{Taker}
use Rattle.mb_queue.specs.declared.ledger.QueuePart.{QueuePart}
use Rattle.mb_queue.specs.declared.ledger.Scope.{Scope}
use Rattle.mb_queue.specs.Ledger.{account, account_after, taking}
use Rattle.mb_queue.specs.Port.{FifoPort}
use Rattle.mb_queue.specs.Rule as fifo
use Rattle.mb_queue.specs.Representation.{Took, parted, scope_in}
use Rattle.mb_queue.specs.Parts.{accounts_of}
use Rattle.mb_queue.specs.Steps.{TakesOf}
use Rattle.mb_queue.specs.Takes.{AllBegin, AllOut}

module _ (scope : Scope) (part : QueuePart) (out : List Envelope) (accounts : List Account) where
  -- the scope is the one that the port says
  pub settled : (port : FifoPort) → Took port scope part out accounts → Took port (scope_in port.ledger) part out accounts
  settled port took = took ∙ ap (λ l. Taker (parted l part) out accounts) (sym (ap scope_in took))

  pub took_next : (port : FifoPort) (e : Envelope) (port' : FifoPort) → Took port scope part out accounts → TakesOf port (Some e) port'
      → Took port' scope part (out ++ e ∷ []) accounts
  took_next port e port' took step = ap (λ (p : FifoPort). p.ledger) step.0 ∙ ap (λ l. taking l e) took

  pub found_next : (port : FifoPort) (e : Envelope) (port' : FifoPort) → Took port scope part out accounts → TakesOf port (Some e) port'
      → fifo.Belongs (parted scope part) e × fifo.FifoAllBegin accounts (out ++ e ∷ [])
  found_next port e port' took step = subst (λ l. fifo.FoundNext l e) took step.1

  pub took_none : (port port' : FifoPort) → Took port scope part out accounts → TakesOf port None port' → Took port' scope part out accounts
  took_none port port' took step = ap (λ (p : FifoPort). p.ledger) step.0 ∙ took

  pub found_empty : (port : FifoPort) → Took port scope part out accounts → fifo.FoundEmpty port.ledger → fifo.FifoAllOut accounts out
  found_empty port took found = subst fifo.FoundEmpty took found

module _ (part : List Envelope → List Envelope) where
  cond_part : (b : Bool) (x y : Option (List Envelope)) → cond b (option_map part x) (option_map part y) ≡ option_map part (cond b x y)
  cond_part true x y = refl
  cond_part false x y = refl

  account_after-part : (before : Option (List Envelope)) (accounts : List Account) (sender : ℕ)
      → account_after (option_map part before) (accounts_of part accounts) sender ≡ option_map part (account_after before accounts sender)
  account_after-part before [] sender = refl
  account_after-part before (a ∷ accounts) sender =
      ap (λ b. account_after b (accounts_of part accounts) sender) (cond_part (a.by == sender) a.pushed before)
      ∙ account_after-part (cond (a.by == sender) a.pushed before) accounts sender

  -- what a fifo says of a part of each account
  pub part_of_account : part [] ≡ [] → (accounts : List Account) (sender : ℕ) (pushed : List Envelope) → account accounts sender ≡ Some pushed
      → account (accounts_of part accounts) sender ≡ Some (part pushed)
  part_of_account none accounts sender pushed is = ap (λ l. account_after (Some l) (accounts_of part accounts) sender) (sym none)
      ∙ account_after-part (Some []) accounts sender ∙ ap (option_map part) is

  pub all_out : part [] ≡ [] → (accounts : List Account) (out : List Envelope) → fifo.FifoAllOut (accounts_of part accounts) (part out)
      → AllOut part accounts out
  all_out none accounts out all sender pushed is = all sender (part pushed) (part_of_account none accounts sender pushed is)

  pub all_begin : part [] ≡ [] → (accounts : List Account) (out : List Envelope) → fifo.FifoAllBegin (accounts_of part accounts) (part out)
      → AllBegin part accounts out
  all_begin none accounts out all sender pushed is = all sender (part pushed) (part_of_account none accounts sender pushed is)

pub filter-more : (p : Envelope → Bool) (xs : List Envelope) (e : Envelope) → p e ≡ true → filter p (xs ++ e ∷ []) ≡ filter p xs ++ e ∷ []
filter-more p xs e is = filter-append p xs (e ∷ []) ∙ ap (λ (b : Bool). filter p xs ++ cond b (e ∷ []) []) is

pub filter-same : (p : Envelope → Bool) (xs : List Envelope) (e : Envelope) → p e ≡ false → filter p (xs ++ e ∷ []) ≡ filter p xs
filter-same p xs e is = filter-append p xs (e ∷ []) ∙ ap (λ (b : Bool). filter p xs ++ cond b (e ∷ []) []) is ∙ append-nil (filter p xs)
