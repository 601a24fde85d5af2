use Rattle.std.proofs.Common.{◌≡◌, map, take}
use Rattle.mb_queue.specs.Ledger.{lent}
use Rattle.mb_queue.specs.Made.{numbers_of, unused}
use Rattle.mb_queue.proofs.make.MailQueue.new.Given as goal

abbrev pub invariant-loop-sender : goal.invariant-loop-sender
invariant-loop-sender l =
    (l.take ≡ record l.initial.take { accounts = map lent (take l.sender-index (numbers_of l.senders)) })
    × (l.sends.items ≡ map (unused l.initial.take.queue) (take l.sender-index (numbers_of l.senders)))
