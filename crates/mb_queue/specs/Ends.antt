-- A port as contracts see it, by the queue and the pass that it consists of.
use Rattle.std.specs.Prelude.{Some, None}
use Rattle.crossbeam_queue.specs.Passes.{view, IsPassOf, ruled_capacity}
use Rattle.mb_queue.specs.declared.port.End.{End}
use Rattle.mb_queue.specs.declared.port.End.TheVariants.{Unbounded, Bounded}
use Rattle.mb_queue.specs.Port.{FifoPort, list_at, slots_at}
use Rattle.mb_queue.specs.Unbounded.{IsPassOfList, knows}

-- the pass is of the queue beside it
abbrev pub IsTied : End → Type 0
IsTied (Unbounded list pass) = IsPassOfList list.value.table.shared.table_id pass
IsTied (Bounded slots pass) = IsPassOf slots.value.queue pass

-- a port as contracts see it
abbrev pub known : End → FifoPort
known (Unbounded list pass) = record { fifo = record { place = list_at pass.table_id; capacity = None }; ledger = knows pass }
known (Bounded slots pass) = record {
  fifo = record { place = slots_at pass.table_id; capacity = Some (ruled_capacity slots.value.queue) };
  ledger =
      view pass;
}
