-- A cell of which it is left open whether there is room for one message more.
use Rattle.std.proofs.Common.{◌≡◌}
use Rattle.mb_cell.specs.CellView.{CellView}

pub any-room : (new is : CellView) → new ≡ is → new ≡ record is { is_ready = new.is_ready }
any-room new is same = λ i. record (same i) { is_ready = new.is_ready }
