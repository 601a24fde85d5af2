use Rattle.mb_gate.proofs.Alike.{alike}
use Rattle.mb_gate.proofs.laws.releases_are_alike.Goals as goal

pub returns : goal.returns
returns c = alike
