-- Joining a send pass, with its account.
use Rattle.std.proofs.Common.{◌≡◌, ℕ, List, [], ◌∷◌, ◌++◌, sym, ap, ◌∙◌, subst, Some, None, option_map, length}
use Rattle.std.specs.List.{All}
use Rattle.std.proofs.lemmas.List.{map-append}
use Rattle.mb_msg.specs.declared.envelope.Envelope.{Envelope}
use Rattle.mb_queue.specs.declared.ledger.Account.{Account}
use Rattle.mb_queue.specs.declared.ledger.Ledger.TheVariants.{Sender}
use Rattle.mb_queue.specs.declared.ledger.QueuePart.{QueuePart}
use Rattle.mb_queue.specs.declared.ledger.QueuePart.TheVariants.{Whole, Controls, Others}
use Rattle.mb_queue.specs.declared.ledger.Scope.{Scope}
use Rattle.mb_queue.specs.Ledger.{home, joining}
use Rattle.mb_queue.specs.Port.{FifoPort}
use Rattle.mb_queue.specs.Rule.{Belongs}
use Rattle.mb_queue.specs.declared.priority_state.PriorityState.{PriorityState}
use Rattle.mb_queue.specs.declared.take_order.TakeOrder.TheVariants.{FirstInFirstOut, ControlFirst, ByRank}
use Rattle.mb_queue.specs.Representation.{IsSending, IsTaking, Took, envelopes_of, gone_of, scope_in}
use Rattle.mb_queue.specs.Parts.{accounts_of, controls, others}
use Rattle.mb_queue.specs.Takes.{IsSameBag}
use Rattle.mb_queue.proofs.Taken.{settled}

abbrev pub joined : FifoPort → FifoPort → FifoPort
joined port own = record port { ledger = joining port.ledger own.ledger }

joined_took : (scope scope' : Scope) (part : QueuePart) (out pushed : List Envelope) (accounts : List Account) (by : ℕ) (port own : FifoPort)
    → Took port scope part out accounts → own.ledger ≡ Sender scope' by pushed
    → Took (joined port own) scope part out (accounts ++ home by pushed ∷ [])
joined_took scope scope' part out pushed accounts by port own took sent i = joining (took i) (sent i)

joined_part : (part : List Envelope → List Envelope) (by : ℕ) (pushed : List Envelope) (accounts : List Account)
    → accounts_of part accounts ++ home by (part pushed) ∷ [] ≡ accounts_of part (accounts ++ home by pushed ∷ [])
joined_part part by pushed accounts = sym
    (map-append (λ (a : Account). record { by = a.by; pushed = option_map part a.pushed }) accounts (home by pushed ∷ []))

module _ (main own : FifoPort) (taken : List Envelope) (accounts : List Account) (by : ℕ) (pushed : List Envelope) where
  abbrev all : List Account
  all = accounts ++ home by pushed ∷ []

  pub fifo_joined : IsTaking main FirstInFirstOut taken accounts → IsSending by own None pushed
      → IsTaking (joined main own) FirstInFirstOut taken all
  fifo_joined kept sent =
      settled (scope_in main.ledger) Whole taken all (joined main own)
      (joined_took (scope_in main.ledger) _ Whole taken pushed accounts by main own kept sent)

  pub control_joined : (control his : FifoPort) → IsTaking main (ControlFirst control) taken accounts → IsSending by own (Some his) pushed
      → IsTaking (joined main own) (ControlFirst (joined control his)) taken all
  control_joined control his kept sent =
      let scope = scope_in main.ledger in
      let plain = subst (λ a. Took (joined main own) scope Others (others taken) a) (joined_part others by pushed accounts)
      (joined_took scope _ Others (others taken) (others pushed) (accounts_of others accounts) by main own kept.0 sent.0) in
      let first = subst (λ a. Took (joined control his) scope Controls (controls taken) a) (joined_part controls by pushed accounts)
      (joined_took scope _ Controls (controls taken) (controls pushed) (accounts_of controls accounts) by control his kept.1 sent.1) in (
        settled scope Others (others taken) (accounts_of others all) (joined main own) plain,
        subst (λ s. Took (joined control his) s Controls (controls taken) (accounts_of controls all)) (sym (ap scope_in plain)) first,
        kept.2,
        kept.3,
      )

  pub rank_joined : (choice : PriorityState) → IsTaking main (ByRank choice) taken accounts → IsSending by own None pushed
      → IsTaking (joined main own) (ByRank choice) taken all
  rank_joined choice kept sent =
      let scope = scope_in main.ledger in let gone = gone_of main.ledger in
      let took = joined_took scope _ Whole gone pushed accounts by main own kept.0 sent in let same = sym (ap gone_of took) in (
        subst (λ l. Took (joined main own) (scope_in (joined main own).ledger) Whole l all) same
            (settled scope Whole gone all (joined main own) took),
        kept.1 ∙ ap length same,
        subst (λ l. IsSameBag l (taken ++ envelopes_of choice.waiting)) same kept.2,
        subst (λ s. All (Belongs s) (envelopes_of choice.waiting)) (sym (ap scope_in took ∙ sym (ap scope_in kept.0))) kept.3,
      )
