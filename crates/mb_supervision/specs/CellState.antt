-- How the state of a cell is kept, with room for what one message may add.
use Rattle.std.specs.Prelude.{◌≡◌, ℕ, ◌+◌, ◌*◌, ◌≤◌, true, vec_len, vec_capacity}
use Rattle.mb_supervision.specs.CellStateRecord.{CellState}
use Rattle.mb_supervision.specs.declared.cell_state.CellState.TheInside.{Inside}

-- what the fields show
abbrev pub cell_state_of_fields : Inside → CellState
cell_state_of_fields b = record {
  phase = b.phase;
  count = b.count;
  failed = b.failed;
  children = b.children.items;
  watchers = b.watchers.items;
  watching = b.watching.items;
  due = b.due.items;
  aside = b.aside.items;
  was_live = b.was_live;
  retries = b.retries.items;
  acts = b.acts.acts;
  fanout = b.fanout;
  is_ready = b.ready;
}

-- how many acts one message can have: two for each child, one for each watcher and each that is watched, and one for each
-- of 16 effects and of the 16 children that they can start, with what is left
abbrev pub most_acts : (children watchers watching fanout : ℕ) → ℕ
most_acts children watchers watching fanout = 2 * children + watchers + watching + fanout + 40

-- room for what one message may add
pub record HasRoom (b : Inside) : Type 0 where
  pub children : vec_len b.children + (16 + b.fanout) ≤ vec_capacity b.children
  pub watchers : vec_len b.watchers + 1 ≤ vec_capacity b.watchers
  pub watching : vec_len b.watching + 16 ≤ vec_capacity b.watching
  pub due : vec_len b.due + 1 ≤ vec_capacity b.due
  pub aside : vec_len b.aside + 1 ≤ vec_capacity b.aside
  pub retries : vec_len b.retries + (vec_len b.children + 1) ≤ vec_capacity b.retries
  pub acts : most_acts (vec_len b.children) (vec_len b.watchers) (vec_len b.watching) b.fanout ≤ b.acts.room

-- a state that is ready has room
pub record IsCellState (b : Inside) : Type 0 where
  pub room : b.ready ≡ true → HasRoom b
