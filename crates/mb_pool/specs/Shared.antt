-- The ports of the bounded queue and of the injector, as contracts see them (this project's own profile).
use Rattle.std.specs.Prelude.{Option, Some, None}
use Rattle.crossbeam_queue.specs.Passes.{Pass, view, ruled_capacity}
use Rattle.crossbeam_queue.specs.declared.array_queue.Doing.{Doing}
use Rattle.crossbeam_queue.specs.declared.array_queue.Slotted.{Slotted}
use Rattle.crossbeam_deque.specs.Injected.{InjectorPass, injector_view}
use Rattle.mb_pool.specs.Account.{ClaimAccount}
use Rattle.mb_pool.specs.Places.{PoolPort, slots_at, feed_queue_at}

-- a port of the bounded queue, as contracts see it
abbrev pub slots_view : {T H Q A : Type 0} → Slotted (Option T) (Doing T (ClaimAccount H)) Q A → Pass T (ClaimAccount H) → PoolPort H
slots_view queue pass = record { queue = record { place = slots_at pass.table_id; capacity = Some (ruled_capacity queue) }; ledger = view pass }

-- a port of the injector, as contracts see it
abbrev pub feed_queue_view : {T A H : Type 0} → InjectorPass T (ClaimAccount H) A → PoolPort H
feed_queue_view pass = record { queue = record { place = feed_queue_at pass.web; capacity = None }; ledger = injector_view pass }
