use Rattle.std.proofs.Common.{◌≡◌, true, length}
use Rattle.mb_world.specs.Dispatched.{mark_of}
use Rattle.mb_world.proofs.dispatcher.clean_up.Given as goal

abbrev pub invariant-envelopes : goal.invariant-envelopes
invariant-envelopes l = (l.mailbox.is_closed ≡ true) × (mark_of l.mailbox ≡ mark_of l.initial.mailbox) × (l.mailbox.is_scheduled ≡ l.initial.mailbox.is_scheduled)

abbrev pub decreases-envelopes : goal.decreases-envelopes
decreases-envelopes l = length l.mailbox.queue.envelopes
