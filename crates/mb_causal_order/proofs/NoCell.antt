-- A cell that stands where none is.
use Rattle.std.proofs.Common.{[], None, false}
use Rattle.std.specs.Prelude.{pos}
use Rattle.mb_cell.specs.CellView.{CellView}

abbrev pub no_cell : CellView
no_cell = record {
  who = record {
    this = record { 0 = 0 };
    parent = None;
    actors = 0;
    prepared = [];
    strategy = [];
    retries = pos 0;
    all_for_one = false;
    limit = 0;
    retention = record { keeps_all = false; last = 0 };
  };
  journal = [];
  acts = [];
  is_ready = false;
}
