use Rattle.std.proofs.Common.{refl}
use Rattle.mb_shutdown.proofs.Answered.{if-none}
use Rattle.mb_shutdown.proofs.room.room_around.Goals as goal

pub returns-in_err-with_capacity : goal.returns-in_err-with_capacity
returns-in_err-with_capacity g c = if-none _ c.from_residual.result c.in_err-with_capacity.field-0.0 c.from_residual.ensures.1

pub returns-in_err-with_capacity-2 : goal.returns-in_err-with_capacity-2
returns-in_err-with_capacity-2 g c = if-none _ c.from_residual-in_err-with_capacity-2.result c.in_err-with_capacity-2.field-0.0 c.from_residual-in_err-with_capacity-2.ensures.1

pub returns-in_err-with_capacity-3 : goal.returns-in_err-with_capacity-3
returns-in_err-with_capacity-3 g c = if-none _ c.from_residual-in_err-with_capacity-3.result c.in_err-with_capacity-3.field-0.0 c.from_residual-in_err-with_capacity-3.ensures.1

pub returns-in_err-with_capacity-4 : goal.returns-in_err-with_capacity-4
returns-in_err-with_capacity-4 g c = if-none _ c.from_residual-in_err-with_capacity-4.result c.in_err-with_capacity-4.field-0.0 c.from_residual-in_err-with_capacity-4.ensures.1

pub returns-in_err-with_capacity-5 : goal.returns-in_err-with_capacity-5
returns-in_err-with_capacity-5 g c = if-none _ c.from_residual-in_err-with_capacity-5.result c.in_err-with_capacity-5.field-0.0 c.from_residual-in_err-with_capacity-5.ensures.1

pub returns-in_err-with_capacity-6 : goal.returns-in_err-with_capacity-6
returns-in_err-with_capacity-6 g c = if-none _ c.from_residual-in_err-with_capacity-6.result c.in_err-with_capacity-6.field-0.0 c.from_residual-in_err-with_capacity-6.ensures.1

pub returns : goal.returns
returns g c = (
  record {
    counted = c.requires.counted;
    lefts = c.requires.empty_with_room;
    homes = (c.in_ok-with_capacity.ensures.items, c.in_ok-with_capacity.ensures.capacity);
    ended = (c.in_ok-with_capacity-2.ensures.items, c.in_ok-with_capacity-2.ensures.capacity);
    takes = (c.in_ok-with_capacity-3.ensures.items, c.in_ok-with_capacity-3.ensures.capacity);
    rows = (c.in_ok-with_capacity-4.ensures.items, c.in_ok-with_capacity-4.ensures.capacity);
    reports = (c.in_ok-with_capacity-5.ensures.items, c.in_ok-with_capacity-5.ensures.capacity);
    senders = (c.in_ok-with_capacity-6.ensures.items, c.in_ok-with_capacity-6.ensures.capacity);
  },
  refl,
)
