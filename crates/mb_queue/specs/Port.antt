-- What contracts see of a port.
use Rattle.std.specs.Prelude.{ℕ, Option}
use Rattle.atomic_table.specs.Seated.{TableId}
use Rattle.mb_queue.specs.declared.ledger.Ledger.{Ledger}

-- which fifo it is, by where it is in memory
pub data FifoId : Type 0 where
  list_at : TableId → FifoId
  slots_at : TableId → FifoId

-- a fifo: which one it is, and how much it holds at most
pub record Fifo : Type 0 where
  pub place : FifoId
  pub capacity : Option ℕ

-- a port: its fifo, and what it knows
pub record FifoPort : Type 0 where
  pub fifo : Fifo
  pub ledger : Ledger
