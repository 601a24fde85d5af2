use Rattle.bench.specs.Steady.{is_no_failure}
use Rattle.bench.specs.Sum.{sum_of}
use Rattle.bench.proofs.messages.print_messages.Given as goal

abbrev pub ghosts-measure : goal.ghosts-measure
ghosts-measure g a = record { after = λ _. sum_of; gives = λ _. is_no_failure }
