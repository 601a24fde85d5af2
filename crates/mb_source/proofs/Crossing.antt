-- A source of which the orders are known may go to another thread where the source may.
use denote.RattleType.{RattleType}
use denote.Param.Send.{IsSend, sendable, view_send}
use denote.Param.SendFields.{declared_send}
use Rattle.std.proofs.Crossing.{crosses as std_crosses}
use Rattle.mb_source.specs.declared.source.Source as source
use Rattle.mb_source.specs.contracts.recorded_source.RecordedSource as recorded
use Rattle.mb_source.specs.contracts.recorded_source.RecordedSource.TheInside as recorded_inside
use Rattle.mb_source.specs.contracts.history.GivenOrders as given
use Rattle.mb_source.specs.contracts.history.GivenOrders.TheInside as given_inside

given_send : IsSend given.the_row
given_send = view_send _ _ _ _ _ (declared_send given_inside.the_type (search (sendable, std_crosses) depth 20, tt))

pub recorded_send : (S : RattleType) (g : source.Ghosts S.Denot) → IsSend S → IsSend (recorded.the_row S g)
recorded_send S g s = view_send _ _ _ _ _ (declared_send (recorded_inside.the_type S g) (search sendable, (given_send, tt)))
