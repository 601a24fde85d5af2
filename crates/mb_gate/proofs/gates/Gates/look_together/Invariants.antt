use Rattle.mb_gate.specs.Accessors.{pass_view}
use Rattle.mb_gate.proofs.gates.Gates.look_together.Given as goal

abbrev pub ghosts-part : goal.ghosts-part
ghosts-part g a = record { first = pass_view a.first.now.value; second = pass_view a.second.now.value }
