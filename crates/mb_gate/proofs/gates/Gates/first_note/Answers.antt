use Rattle.std.proofs.Common.{refl, ◌∙◌}
use Rattle.mb_gate.proofs.gates.Gates.first_note.Goals as goal

pub returns : goal.returns
returns g c = (c.of.result, refl, c.of.ensures ∙ c.args.self.now.known)
