-- Lending the account of a sender to its own pass.
use Rattle.std.proofs.Common.{◌≡◌, ℕ, List, [], ◌∷◌, ◌++◌, refl, sym, ap, ◌∙◌, subst, Some, None, option_map, length}
use Rattle.std.specs.List.{All, Contains}
use Rattle.std.proofs.lemmas.List.{map-append}
use Rattle.mb_msg.specs.declared.envelope.Envelope.{Envelope}
use Rattle.mb_queue.specs.declared.ledger.Account.{Account}
use Rattle.mb_queue.specs.declared.ledger.Ledger.TheVariants.{Sender}
use Rattle.mb_queue.specs.declared.ledger.QueuePart.{QueuePart}
use Rattle.mb_queue.specs.declared.ledger.Scope.{Scope}
use Rattle.mb_queue.specs.declared.ledger.QueuePart.TheVariants.{Whole, Controls, Others}
use Rattle.mb_queue.specs.Ledger.{MayLend, account, borrowing, lending, lent}
use Rattle.mb_queue.specs.Port.{FifoPort}
use Rattle.mb_queue.specs.Rule.{Belongs}
use Rattle.mb_queue.specs.declared.take_order.TakeOrder.{TakeOrder}
use Rattle.mb_queue.specs.declared.take_order.TakeOrder.TheVariants.{FirstInFirstOut, ControlFirst, ByRank}
use Rattle.mb_queue.specs.Representation.{IsSending, IsTaking, Took, control_of, envelopes_of, gone_of, queue_of, parted, sending_of, scope_in, taking_of}
use Rattle.mb_queue.specs.Lent.{MayLendControl, order_lent, port_lent}
use Rattle.mb_queue.specs.Made.{unused}
use Rattle.mb_queue.specs.Parts.{accounts_of, controls, others}
use Rattle.mb_queue.specs.Takes.{IsSameBag}
use Rattle.mb_queue.proofs.Taken.{part_of_account}

abbrev pub main_lent : ℕ → FifoPort → FifoPort
main_lent s main = record main { ledger = lending s main.ledger }

abbrev pub own_lent : ℕ → FifoPort → FifoPort
own_lent s main = record main { ledger = borrowing s main.ledger }

module _ (s : ℕ) (scope : Scope) (part : QueuePart) (out : List Envelope) (accounts : List Account) (port : FifoPort)
    (took : Took port scope part out accounts) where
  may : Contains scope.senders s → account accounts s ≡ Some [] → MayLend s port.ledger
  may known home = subst (MayLend s) (sym took) (known, home)

  lent_took : Took (main_lent s port) scope part out (accounts ++ lent s ∷ [])
  lent_took = ap (lending s) took

  lent_scope : scope_in (lending s port.ledger) ≡ scope_in port.ledger
  lent_scope = ap scope_in lent_took ∙ sym (ap scope_in took)

  lent_gone : gone_of (lending s port.ledger) ≡ gone_of port.ledger
  lent_gone = ap gone_of lent_took ∙ sym (ap gone_of took)

  own_ledger : borrowing s port.ledger ≡ Sender (parted scope part) s []
  own_ledger = ap (borrowing s) took

  own_scope : scope_in (borrowing s port.ledger) ≡ scope_in port.ledger
  own_scope = ap scope_in own_ledger ∙ sym (ap scope_in took)

lent_part : (part : List Envelope → List Envelope) (s : ℕ) (accounts : List Account)
    → accounts_of part (accounts ++ lent s ∷ []) ≡ accounts_of part accounts ++ lent s ∷ []
lent_part part s accounts = map-append (λ (a : Account). record { by = a.by; pushed = option_map part a.pushed }) accounts (lent s ∷ [])

pub main_may : (s : ℕ) (main : FifoPort) (order : TakeOrder) (taken : List Envelope) (accounts : List Account) → IsTaking main order taken accounts
    → Contains (scope_in main.ledger).senders s → account accounts s ≡ Some []
    → MayLend s main.ledger
main_may s main FirstInFirstOut taken accounts kept known home = may s (scope_in main.ledger) Whole taken accounts main kept known home
main_may s main (ControlFirst control) taken accounts kept known home =
    may s (scope_in main.ledger) Others (others taken) (accounts_of others accounts) main kept.0 known
    (part_of_account others refl accounts s [] home)
main_may s main (ByRank choice) taken accounts kept known home =
    may s (scope_in main.ledger) Whole (gone_of main.ledger) accounts main kept.0 known home

pub control_may : (s : ℕ) (main : FifoPort) (order : TakeOrder) (taken : List Envelope) (accounts : List Account) → IsTaking main order taken accounts
    → Contains (scope_in main.ledger).senders s → account accounts s ≡ Some []
    → MayLendControl s order
control_may s main FirstInFirstOut taken accounts kept known home = tt
control_may s main (ControlFirst control) taken accounts kept known home =
    may s (scope_in main.ledger) Controls (controls taken) (accounts_of controls accounts) control kept.1 known
    (part_of_account controls refl accounts s [] home)
control_may s main (ByRank choice) taken accounts kept known home = tt

pub take_kept : (s : ℕ) (main : FifoPort) (order : TakeOrder) (taken : List Envelope) (accounts : List Account) → IsTaking main order taken accounts
    → IsTaking (main_lent s main) (order_lent s order) taken (accounts ++ lent s ∷ [])
take_kept s main FirstInFirstOut taken accounts kept =
    let ss = scope_in main.ledger in
    subst (λ l. Took (main_lent s main) l Whole taken (accounts ++ lent s ∷ [])) (sym (lent_scope s ss Whole taken accounts main kept))
    (lent_took s ss Whole taken accounts main kept)
take_kept s main (ControlFirst control) taken accounts kept =
    let ss = scope_in main.ledger in let same = sym (lent_scope s ss Others (others taken) (accounts_of others accounts) main kept.0) in (
      subst (λ (y : Scope × List Account). Took (main_lent s main) y.0 Others (others taken) y.1)
          (λ i. (same i, sym (lent_part others s accounts) i))
          (lent_took s ss Others (others taken) (accounts_of others accounts) main kept.0),
      subst (λ (y : Scope × List Account). Took (main_lent s control) y.0 Controls (controls taken) y.1)
          (λ i. (same i, sym (lent_part controls s accounts) i))
          (lent_took s ss Controls (controls taken) (accounts_of controls accounts) control kept.1),
      kept.2,
      kept.3,
    )
take_kept s main (ByRank choice) taken accounts kept =
    let ss = scope_in main.ledger in let gone = gone_of main.ledger in
    let same = sym (lent_scope s ss Whole gone accounts main kept.0) in let out = sym (lent_gone s ss Whole gone accounts main kept.0) in (
      subst (λ (y : Scope × List Envelope). Took (main_lent s main) y.0 Whole y.1 (accounts ++ lent s ∷ [])) (λ i. (same i, out i))
          (lent_took s ss Whole gone accounts main kept.0),
      kept.1 ∙ ap length out,
      subst (λ l. IsSameBag l (taken ++ envelopes_of choice.waiting)) out kept.2,
      subst (λ l. All (Belongs l) (envelopes_of choice.waiting)) same kept.3,
    )

pub send_kept : (s : ℕ) (main : FifoPort) (order : TakeOrder) (taken : List Envelope) (accounts : List Account) → IsTaking main order taken accounts
    → IsSending s (own_lent s main) (port_lent s order) []
send_kept s main FirstInFirstOut taken accounts kept =
    let ss = scope_in main.ledger in
    own_ledger s ss Whole taken accounts main kept ∙ ap (λ l. Sender (parted l Whole) s []) (sym (own_scope s ss Whole taken accounts main kept))
send_kept s main (ControlFirst control) taken accounts kept =
    let ss = scope_in main.ledger in let same = sym (own_scope s ss Others (others taken) (accounts_of others accounts) main kept.0) in (
      own_ledger s ss Others (others taken) (accounts_of others accounts) main kept.0 ∙ ap (λ l. Sender (parted l Others) s []) same,
      own_ledger s ss Controls (controls taken) (accounts_of controls accounts) control kept.1 ∙ ap (λ l. Sender (parted l Controls) s []) same,
      kept.2,
      kept.3,
    )
send_kept s main (ByRank choice) taken accounts kept =
    let ss = scope_in main.ledger in let gone = gone_of main.ledger in
    own_ledger s ss Whole gone accounts main kept.0 ∙ ap (λ l. Sender (parted l Whole) s []) (sym (own_scope s ss Whole gone accounts main kept.0))

-- as contracts see it
pub take_is : (s : ℕ) (main : FifoPort) (order : TakeOrder) (taken : List Envelope) (accounts : List Account) → IsTaking main order taken accounts
    → taking_of (main_lent s main) (order_lent s order) taken (accounts ++ lent s ∷ [])
    ≡ record (taking_of main order taken accounts) { accounts = accounts ++ lent s ∷ [] }
take_is s main FirstInFirstOut taken accounts kept =
    ap (λ l. record (taking_of main FirstInFirstOut taken (accounts ++ lent s ∷ [])) {
      queue =
          record (queue_of main None) { senders = l.senders; to = l.to };
    })
    (lent_scope s (scope_in main.ledger) Whole taken accounts main kept)
take_is s main (ControlFirst control) taken accounts kept =
    ap (λ l. record (taking_of main (ControlFirst control) taken (accounts ++ lent s ∷ [])) {
      queue =
          record (queue_of main (Some control)) { senders = l.senders; to = l.to };
    })
    (lent_scope s (scope_in main.ledger) Others (others taken) (accounts_of others accounts) main kept.0)
take_is s main (ByRank choice) taken accounts kept =
    let ss = scope_in main.ledger in let gone = gone_of main.ledger in
    λ i. record (taking_of main (ByRank choice) taken (accounts ++ lent s ∷ [])) {
      queue = record (queue_of main None) {
        senders = (lent_scope s ss Whole gone accounts main kept.0 i).senders;
        to = (lent_scope s ss Whole gone accounts main kept.0 i).to;
      };
      arrived = lent_gone s ss Whole gone accounts main kept.0 i;
    }

pub send_is : (s : ℕ) (main : FifoPort) (order : TakeOrder) (taken : List Envelope) (accounts : List Account) → IsTaking main order taken accounts
    → sending_of s (own_lent s main) (port_lent s order) [] ≡ unused (queue_of main (control_of order)) s
send_is s main FirstInFirstOut taken accounts kept =
    ap (λ l. unused (record (queue_of main None) { senders = l.senders; to = l.to }) s)
    (own_scope s (scope_in main.ledger) Whole taken accounts main kept)
send_is s main (ControlFirst control) taken accounts kept =
    ap (λ l. unused (record (queue_of main (Some control)) { senders = l.senders; to = l.to }) s)
    (own_scope s (scope_in main.ledger) Others (others taken) (accounts_of others accounts) main kept.0)
send_is s main (ByRank choice) taken accounts kept =
    ap (λ l. unused (record (queue_of main None) { senders = l.senders; to = l.to }) s)
    (own_scope s (scope_in main.ledger) Whole (gone_of main.ledger) accounts main kept.0)
