-- How the envelopes that a sender pushed arrive at a receiver.
use Rattle.std.specs.Prelude.{◌≡◌, List}
use Rattle.mb_msg.specs.declared.envelope.Envelope.{Envelope}
use Rattle.mb_queue.specs.Ledger.{sent_by}
use Rattle.mb_queue.specs.Parts.{controls, others}
use Rattle.mb_queue.specs.Passes.{SendPassView, Discipline, first_in_first_out, control_first}
use Rattle.mb_queue.specs.Takes.{IsSameBag}

-- All that a sender pushed is among the receiver's envelopes, each once, and nothing else of the sender is. Where the receiver's mailbox is first in,
-- first out, they stand in the sender's order. Where it is control-aware, the control messages among them stand in the sender's order, and so do all
-- others.
pub record AllArrived (discipline : Discipline) (fates : List Envelope) (p : SendPassView) : Type 0 where
  pub once : IsSameBag p.pushed (sent_by p.by fates)
  pub in_order : discipline ≡ first_in_first_out → p.pushed ≡ sent_by p.by fates
  pub parts_in_order : discipline ≡ control_first → (controls p.pushed ≡ sent_by p.by (controls fates)) × (others p.pushed ≡ sent_by p.by (others fates))
