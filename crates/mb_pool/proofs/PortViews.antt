-- From what a call says of the deque to what it says of the port.
use Rattle.std.proofs.Common.{◌≡◌, ℕ, MatchResult, MatchOption, Some, None}
use Rattle.std.specs.Prelude.{Option, Result, Ok, Err}
use Rattle.crossbeam_deque.specs.Handles as deque
use Rattle.crossbeam_deque.specs.declared.handles.Worker.{Worker}
use Rattle.crossbeam_deque.specs.Injected.{InjectorPass, injector_view}
use Rattle.crossbeam_queue.specs.Passes as queue
use Rattle.crossbeam_queue.specs.declared.array_queue.Doing.{Doing}
use Rattle.crossbeam_queue.specs.declared.array_queue.Slotted.{Slotted}
use Rattle.mb_pool.specs.Account.{ClaimAccount}
use Rattle.mb_pool.specs.Places.{deque_at, slots_at, feed_queue_at}
use Rattle.mb_pool.specs.Deques.{own_deque_view, thief_view}
use Rattle.mb_pool.specs.Shared.{slots_view, feed_queue_view}

pub of_result : {A B : Type 0} (P P' : A → Type 0) (Q Q' : B → Type 0) (r : Result A B) → ((a : A) → P a → P' a) → ((b : B) → Q b → Q' b)
    → MatchResult r P Q → MatchResult r P' Q'
of_result P P' Q Q' (Ok a) f g h = f a h
of_result P P' Q Q' (Err b) f g h = g b h

pub of_option : {A : Type 0} (N N' : Type 0) (P P' : A → Type 0) (r : Option A) → (N → N') → ((a : A) → P a → P' a) → MatchOption r N P
    → MatchOption r N' P'
of_option N N' P P' None f g h = f h
of_option N N' P P' (Some a) f g h = g a h

pub same_own : {T A H P : Type 0} (n : ℕ) (w w' : Worker T A (ClaimAccount H) P) → deque.worker_deque w' ≡ deque.worker_deque w
    → deque.worker_view w' ≡ deque.worker_view w → own_deque_view n w' ≡ own_deque_view n w
same_own n w w' d v i = record { queue = record { place = deque_at n (d i).0; capacity = None }; ledger = v i }

pub same_thief : {T A H : Type 0} (n : ℕ) (p p' : deque.Pass T (ClaimAccount H) A) → p'.rows ≡ p.rows → deque.view p' ≡ deque.view p
    → thief_view n p' ≡ thief_view n p
same_thief n p p' d v i = record { queue = record { place = deque_at n (d i); capacity = None }; ledger = v i }

pub same_slots : {T H Q A : Type 0} (q : Slotted (Option T) (Doing T (ClaimAccount H)) Q A) (p p' : queue.Pass T (ClaimAccount H))
    → p'.table_id ≡ p.table_id → queue.view p' ≡ queue.view p → slots_view q p' ≡ slots_view q p
same_slots q p p' d v i = record { queue = record { place = slots_at (d i); capacity = Some (queue.ruled_capacity q) }; ledger = v i }

pub same_feed_queue : {T A H : Type 0} (p p' : InjectorPass T (ClaimAccount H) A) → p'.web ≡ p.web → injector_view p' ≡ injector_view p
    → feed_queue_view p' ≡ feed_queue_view p
same_feed_queue p p' d v i = record { queue = record { place = feed_queue_at (d i); capacity = None }; ledger = v i }
