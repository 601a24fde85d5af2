-- The gates are shared by threads, and the passes, the handles and the feed of a pool of these claims go to threads of their own.
use denote.RattleType.{RattleType}
use denote.Param.Send.{IsSend}
use Rattle.std.specs.contracts.sync.atomic.AtomicU64 as number
use Rattle.mb_gate.specs.contracts.gates.Gates as gates
use Rattle.mb_gate.specs.contracts.pass.Pass as pass
use Rattle.mb_testkit.proofs.stub_home.StubHome.TheSendSync as desk
use Rattle.mb_testkit.specs.contracts.stub_home.StubHome as stub_home_row
use Rattle.mb_testkit.specs.contracts.stub_home.StubHomeMailboxState.TheImpl as resident
use Rattle.mb_pool.proofs.Crossing as pool
use Rattle.mb_pool.specs.contracts.handle.PoolHandle as handle
use Rattle.mb_pool.specs.contracts.feed.Feed as feed

abbrev pub TheGates : RattleType
TheGates = gates.the_row stub_home_row.the_row resident.ghosts

abbrev pub ThePass : RattleType
ThePass = pass.the_row stub_home_row.the_row

abbrev pub TheHandle : RattleType
TheHandle = handle.the_row stub_home_row.the_row resident.ghosts

abbrev pub TheFeed : RattleType
TheFeed = feed.the_row stub_home_row.the_row resident.ghosts

abbrev pub TheNumber : RattleType
TheNumber = number.the_row

pub handle_crosses : IsSend TheHandle
handle_crosses = pool.handle_send stub_home_row.the_row resident.ghosts desk.the_send

pub feed_crosses : IsSend TheFeed
feed_crosses = pool.feed_send stub_home_row.the_row resident.ghosts desk.the_send
