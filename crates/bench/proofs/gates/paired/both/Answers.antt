use denote.RattleType.{RattleType}
use denote.Param.Send.{IsSend, IsSync, sendable}
use denote.Param.SendFields.{declared_send}
use Rattle.mb_gate.proofs.Crossing.{gates_sync, pass_send}
use Rattle.mb_gate.specs.contracts.gates.Gates as gates
use Rattle.mb_gate.specs.contracts.pass.Pass as pass
use Rattle.bench.proofs.gates.desk.BenchHome.TheSendSync as home
use Rattle.bench.specs.contracts.gates.desk.BenchHome as home_row
use Rattle.bench.specs.contracts.gates.desk.BenchHomeMailboxState.TheImpl as resident
use Rattle.bench.specs.contracts.gates.paired.Turned as turned
use Rattle.bench.proofs.gates.paired.both.Goals as goal

abbrev TheGates : RattleType
TheGates = gates.the_row home_row.the_row resident.ghosts

gates_shared : IsSync TheGates
gates_shared = gates_sync home_row.the_row resident.ghosts home.the_send

pass_crosses : IsSend (pass.the_row home_row.the_row)
pass_crosses = pass_send home_row.the_row home.the_send

turned_crosses : IsSend turned.the_row
turned_crosses = declared_send turned.the_type (pass_crosses, (search sendable, tt))

pub join-requires-send-F : goal.join-requires-send-F
join-requires-send-F g c κs within = search (sendable, gates_shared, pass_crosses) depth 20

pub join-requires-send-A : goal.join-requires-send-A
join-requires-send-A g c κs within = search (sendable, turned_crosses) depth 20
