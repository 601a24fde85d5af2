-- Threads may share the gates of such homes, and a pass may go to another thread.
use denote.Param.Send.{IsSend, IsSync}
use Rattle.mb_gate.proofs.Crossing as gate
use Rattle.mb_gate.specs.contracts.gates.Gates as gates
use Rattle.mb_gate.specs.contracts.pass.Pass as pass
use Rattle.mb_testkit.proofs.stub_home.StubHome.TheSendSync as desk
use Rattle.mb_testkit.specs.contracts.stub_home.StubHome as stub_home_row
use Rattle.mb_testkit.specs.contracts.stub_home.StubHomeMailboxState.TheImpl as resident

pub gates_shared : IsSync (gates.the_row stub_home_row.the_row resident.ghosts)
gates_shared = gate.gates_sync stub_home_row.the_row resident.ghosts desk.the_send

pub pass_crosses : IsSend (pass.the_row stub_home_row.the_row)
pass_crosses = gate.pass_send stub_home_row.the_row desk.the_send
