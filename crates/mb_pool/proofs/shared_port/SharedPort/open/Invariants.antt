use Rattle.std.proofs.Common.{Some}
use Rattle.mb_gate.specs.Untouched.{origin_of}
use Rattle.mb_pool.proofs.shared_port.SharedPort.open.Given as goal

abbrev pub ghosts-open_as : goal.ghosts-open_as
ghosts-open_as g a = record { gates = Some (origin_of a.gates.now); members = a.members }
