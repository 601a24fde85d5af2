use Rattle.mb_gate.proofs.Together.{same_pass}
use Rattle.mb_gate.proofs.gates.Gates.is_given_back.Goals as goal

pub returns-clause-same : goal.returns-clause-same
returns-clause-same g c = same_pass g.row.H _ _ c.own_claim-status.ensures.same
