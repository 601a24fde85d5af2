use Rattle.mb_queue.proofs.port.Port.lend.Given as goal

abbrev pub ghosts-lend_as : goal.ghosts-lend_as
ghosts-lend_as a = record { by = a.by.0 }
