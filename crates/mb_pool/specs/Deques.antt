-- The ports of a deque, as contracts see them (this project's own profile).
use Rattle.std.specs.Prelude.{ℕ, None}
use Rattle.crossbeam_deque.specs.Handles.{Pass, view, worker_deque, worker_view}
use Rattle.crossbeam_deque.specs.declared.handles.Worker.{Worker}
use Rattle.mb_pool.specs.Account.{ClaimAccount}
use Rattle.mb_pool.specs.Places.{PoolPort, deque_at}

-- a worker's port of its own deque, as contracts see it
abbrev pub own_deque_view : {T A H P : Type 0} → ℕ → Worker T A (ClaimAccount H) P → PoolPort H
own_deque_view n w = record { queue = record { place = deque_at n (worker_deque w).0; capacity = None }; ledger = worker_view w }

-- a thief's port of a deque, as contracts see it
abbrev pub thief_view : {T A H : Type 0} → ℕ → Pass T (ClaimAccount H) A → PoolPort H
thief_view n p = record { queue = record { place = deque_at n p.rows; capacity = None }; ledger = view p }
