use Rattle.mb_queue.specs.Ledger.{scope_of}
use Rattle.mb_queue.proofs.port.Port.open.Given as goal

abbrev pub ghosts-open_as : goal.ghosts-open_as
ghosts-open_as a = record { scope = scope_of a.senders.now a.to.0 a.part }
