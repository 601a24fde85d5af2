-- Senders with the same fields are the same.
use Rattle.std.proofs.Common.{◌≡◌, true}
use Rattle.std.proofs.Props.{props}
use mathlib.Core.HLevel.{is_prop→PathP}
use Rattle.mb_journal.specs.Accepted.{dead_letters}
use Rattle.mb_gate.specs.Accessors.{pass_view}
use Rattle.mb_gate.specs.declared.pass.Pass.{Pass}
use Rattle.mb_register.specs.declared.registrar.Registrar.{Registrar}
use Rattle.mb_send.specs.Bounded.{are_of_bounded}
use Rattle.mb_send.specs.SeenClosed.{were_seen_closed}
use Rattle.mb_send.specs.Sends.{AreRoutes, receiving_queues}
use Rattle.mb_send.specs.declared.sender.GatesSender.{GatesSender}

module _ {H W : Type 0} where
  -- the registrar is the same, and so are all fields but what is known of them
  pub same-sender : (a b : GatesSender H W) → a.registrar ≡ b.registrar → a.sends ≡ b.sends → a.send_log ≡ b.send_log → a.alloc ≡ b.alloc → a ≡ b
  same-sender a b registrar sends log alloc = λ i. record {
    registrar = registrar i;
    sends = sends i;
    send_log = log i;
    alloc = alloc i;
    routes = is_prop→PathP (λ j. AreRoutes (log j).by.0 (log j).posted (sends j).items) (λ j. hlevel props) a.routes b.routes i;
    was_seen_closed = is_prop→PathP (λ j. were_seen_closed (pass_view (registrar j).pass).log (dead_letters (log j).posted) ≡ true) (λ j. hlevel props)
        a.was_seen_closed b.was_seen_closed i;
    bounded = is_prop→PathP (λ j. are_of_bounded (receiving_queues (sends j).items) (dead_letters (log j).posted) ≡ true) (λ j. hlevel props) a.bounded b.bounded i;
  }

  pub same-registrar : (r : Registrar H W) (p : Pass H) → p ≡ r.pass → record r { pass = p } ≡ r
  same-registrar r p same = λ i. record r { pass = same i }
