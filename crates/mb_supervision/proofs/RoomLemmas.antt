-- Room for what a message may add, and what is left of it.
use Rattle.std.proofs.Common.{◌≡◌, ℕ, ◌+◌, ◌-◌, ◌*◌, ◌≤◌, false, arith}
use Rattle.mb_supervision.specs.CellState.{IsCellState}
use Rattle.mb_supervision.specs.declared.cell_state.CellState.TheInside.{Inside}

-- after a message there is no room
pub used-up : (new : Inside) → new.ready ≡ false → IsCellState new
used-up new none = record { room = λ e. cc }

-- an act for each of those that a decision is for
pub each-fits : (meant children watchers watching fanout room : ℕ) → meant ≤ children + 1 →
    2 * children + watchers + watching + fanout + 40 ≤ room → meant ≤ room
each-fits meant children watchers watching fanout room few enough = omega arith

-- the acts of a failure
pub failure-fits : (children n watchers watching fanout room : ℕ) → n ≡ children →
    2 * n + watchers + watching + fanout + 40 ≤ room → children + 2 ≤ room
failure-fits children n watchers watching fanout room same enough = omega arith

-- the acts of a restart after those of its effects
pub restart-fits : (kept effects children watchers watching fanout room pushed now : ℕ) → kept ≤ children + effects → effects ≤ 16 →
    2 * children + watchers + watching + fanout + 40 ≤ room → pushed ≡ room - 1 → pushed ≤ now + effects → kept + 2 ≤ now
restart-fits kept effects children watchers watching fanout room pushed now few at_most enough one left = omega arith

pub two-less : (n m : ℕ) → n + 2 ≤ m → n ≤ m
two-less n m le = omega arith

pub no-more : (n m k : ℕ) → n ≡ m → n ≤ m + k
no-more n m k same = omega arith
