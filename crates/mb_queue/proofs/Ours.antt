-- All that a take pass gave is of its queue, through each of its steps.
use Rattle.std.proofs.Common.{◌≡◌, ⊎_elim, ℕ, List, [], ◌∷◌, ◌++◌, refl, sym, ap, ◌∙◌, subst, Some, None}
use Rattle.std.specs.List.{All, Contains}
use Rattle.std.proofs.lemmas.List.Elements.{All-nil, All-push}
use Rattle.mb_msg.specs.declared.envelope.Envelope.{Envelope}
use Rattle.mb_queue.specs.declared.ledger.Account.{Account}
use Rattle.mb_queue.specs.declared.ledger.Ledger.{Ledger}
use Rattle.mb_queue.specs.declared.ledger.Ledger.TheVariants.{Sender, Taker, Spent}
use Rattle.mb_queue.specs.declared.ledger.Scope.{Scope}
use Rattle.mb_queue.specs.Ledger.{joining, lending, taking}
use Rattle.mb_queue.specs.Port.{FifoPort}
use Rattle.mb_queue.specs.declared.take_order.TakeOrder.{TakeOrder}
use Rattle.mb_queue.specs.declared.take_order.TakeOrder.TheVariants.{FirstInFirstOut, ControlFirst, ByRank}
use Rattle.mb_queue.specs.Representation.{IsTaking, IsTakePass, control_of, queue_of, scope_in}
use Rattle.mb_queue.specs.Passes.{IsOfQueue}
use Rattle.mb_queue.specs.Steps.{IsStep}
use Rattle.mb_queue.proofs.TakenIn.{scope_all}
use Rattle.mb_queue.proofs.Takings.{given_known, kept_none, kept_some}

-- the senders and the actor of a queue are those that its main port's scope says
abbrev AllOurs : Scope → List Envelope → Type 0
AllOurs scope = All (λ (e : Envelope). Contains scope.senders e.by.0 × (e.to.0 ≡ scope.to))

-- no step of a port changes its scope
scope-taking : (l : Ledger) (e : Envelope) → scope_in (taking l e) ≡ scope_in l
scope-taking (Sender scope by pushed) e = refl
scope-taking (Taker scope taken accounts) e = refl
scope-taking Spent e = refl

scope-lending : (l : Ledger) (s : ℕ) → scope_in (lending s l) ≡ scope_in l
scope-lending (Sender scope by pushed) s = refl
scope-lending (Taker scope taken accounts) s = refl
scope-lending Spent s = refl

scope-joining : (l own : Ledger) → scope_in (joining l own) ≡ scope_in l
scope-joining (Sender scope by pushed) own = refl
scope-joining (Taker scope taken accounts) (Sender scope' by pushed) = refl
scope-joining (Taker scope taken accounts) (Taker scope' taken' accounts') = refl
scope-joining (Taker scope taken accounts) Spent = refl
scope-joining Spent own = refl

scope-some : (main : FifoPort) (order : TakeOrder) (e : Envelope) (main' : FifoPort) (order' : TakeOrder) → IsStep main order (Some e) main' order' →
    scope_in main'.ledger ≡ scope_in main.ledger
scope-some main FirstInFirstOut e main' order' step = ap (λ (p : FifoPort). scope_in p.ledger) step.1.0 ∙ scope-taking main.ledger e
scope-some main (ControlFirst control) e main' order' step =
    ⊎_elim (λ h. ap (λ (p : FifoPort). scope_in p.ledger) h.1)
    (λ h. ap (λ (p : FifoPort). scope_in p.ledger) h.1.0 ∙ scope-taking main.ledger e) step.2
scope-some main (ByRank choice) e main' order' step = let more = step.2.taken_in.more in
    ap (λ (p : FifoPort). scope_in p.ledger) more.came ∙ scope_all main.ledger more.fresh

scope-none : (main : FifoPort) (order : TakeOrder) (main' : FifoPort) (order' : TakeOrder) → IsStep main order None main' order' →
    scope_in main'.ledger ≡ scope_in main.ledger
scope-none main FirstInFirstOut main' order' step = ap (λ (p : FifoPort). scope_in p.ledger) step.1.0
scope-none main (ControlFirst control) main' order' step = ap (λ (p : FifoPort). scope_in p.ledger) step.2.1.0
scope-none main (ByRank choice) main' order' step = let more = step.2.taken_in.more in
    ap (λ (p : FifoPort). scope_in p.ledger) more.came ∙ scope_all main.ledger more.fresh

-- nothing was given yet
pub pass-first : (main : FifoPort) (order : TakeOrder) → IsTaking main order [] [] → IsTakePass main order [] []
pass-first main order kept = (kept, All-nil (IsOfQueue (queue_of main (control_of order))))

-- one was given, or none
pub pass-some : (main : FifoPort) (order : TakeOrder) (taken : List Envelope) (accounts : List Account) (e : Envelope) (main' : FifoPort) (order' : TakeOrder)
    → IsTakePass main order taken accounts → IsStep main order (Some e) main' order' → IsTakePass main' order' (taken ++ e ∷ []) accounts
pass-some main order taken accounts e main' order' kept step = (
  kept_some main order taken accounts e main' order' kept.0 step,
  subst (λ (s : Scope). AllOurs s (taken ++ e ∷ [])) (sym (scope-some main order e main' order' step))
      (All-push (λ (x : Envelope). Contains (scope_in main.ledger).senders x.by.0 × (x.to.0 ≡ (scope_in main.ledger).to)) taken e kept.1
      (given_known main order taken accounts e main' order' kept.0 step)),
)

pub pass-none : (main : FifoPort) (order : TakeOrder) (taken : List Envelope) (accounts : List Account) (main' : FifoPort) (order' : TakeOrder)
    → IsTakePass main order taken accounts → IsStep main order None main' order' → IsTakePass main' order' taken accounts
pass-none main order taken accounts main' order' kept step = (
  kept_none main order taken accounts main' order' kept.0 step,
  subst (λ (s : Scope). AllOurs s taken) (sym (scope-none main order main' order' step)) kept.1,
)

-- another port was joined, or an account lent
pub ours-joined : (main own : FifoPort) (order order' : TakeOrder) (taken : List Envelope) → All (IsOfQueue (queue_of main (control_of order))) taken →
    All (IsOfQueue (queue_of (record main { ledger = joining main.ledger own.ledger }) (control_of order'))) taken
ours-joined main own order order' taken ours = subst (λ (s : Scope). AllOurs s taken) (sym (scope-joining main.ledger own.ledger)) ours

pub ours-lent : (s : ℕ) (main : FifoPort) (order order' : TakeOrder) (taken : List Envelope) → All (IsOfQueue (queue_of main (control_of order))) taken →
    All (IsOfQueue (queue_of (record main { ledger = lending s main.ledger }) (control_of order'))) taken
ours-lent s main order order' taken ours = subst (λ (l : Scope). AllOurs l taken) (sym (scope-lending main.ledger s)) ours
