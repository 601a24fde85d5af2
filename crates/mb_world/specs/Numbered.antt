-- A cell that may be given one message more.
use Rattle.std.specs.Prelude.{◌≡◌, ◌<◌, length, true}
use Rattle.mb_cell.specs.CellView.{CellView}

-- there is room for one message, and the journal has fewer entries than it may have
pub record HasRoom (cell : CellView) : Type 0 where
  pub ready : cell.is_ready ≡ true
  pub not_full : length cell.journal < cell.who.limit
