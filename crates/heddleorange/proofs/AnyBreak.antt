-- Why a run is broken off, where it does not matter which of its senders and handles was.
use Rattle.std.proofs.Common.{ap, ◌≡◌, ℕ, List, [], ◌∷◌, refl, sym, subst, get_or, arith}
use Rattle.std.specs.Prelude.{◌≢◌, ◌⊎◌, Contains, Some, slice_get, slice_set}
use Rattle.std.specs.Global.{Box}
use Rattle.mb_actor.specs.Behaviour.{Moment, Reply}
use Rattle.mb_gate.specs.Accessors.{pass_view}
use Rattle.mb_gate.specs.View.{View}
use Rattle.mb_gate.specs.declared.gates.Gates.{Gates}
use Rattle.mb_home.specs.Contents.{Contents}
use Rattle.mb_msg.specs.declared.order.Order.{Order}
use Rattle.mb_system.specs.declared.handle.WorkerHandle.{WorkerHandle}
use Rattle.mb_system.specs.declared.failure.RunError.{RunError}
use Rattle.mb_system.specs.declared.system.System.{System}
use Rattle.mb_dispatch.specs.Alone.{FirstAlone}
use Rattle.mb_dispatch.specs.Faults.{BreaksQuietRun, BreaksSending}
use Rattle.heddleorange.specs.BrokenOff.{BreaksFirst}

-- sending is broken off at the orders of one place
abbrev pub BreaksOne : Gates (Box Contents) → List (List Order) → RunError → Type 0
BreaksOne gates orders error = (place : ℕ) × (of : List Order) × (slice_get orders place ≡ Some of) × BreaksSending gates of error

module _ {A K : Type 0} where
  -- the run of one of these handles is
  abbrev pub BreaksOneHandle : (ℕ → Moment → Reply → Type 0) → System A K → List (WorkerHandle A K) → RunError → Type 0
  BreaksOneHandle gives system handles error =
      (start : View) × (handle : WorkerHandle A K) × Contains handles handle × BreaksQuietRun gives system start handle error

  -- one of both is
  abbrev pub BreaksOff : (ℕ → Moment → Reply → Type 0) → System A K → List (WorkerHandle A K) → List (List Order) → RunError → Type 0
  BreaksOff gives system handles orders error = BreaksOne system.gates orders error ⊎ BreaksOneHandle gives system handles error

  module _ (gives : ℕ → Moment → Reply → Type 0) (system : System A K) where
    -- the first handle is put in its place, which was broken off
    pub breaks-first : (old new : List (WorkerHandle A K)) (error : RunError)
        → FirstAlone (λ o n. BreaksQuietRun gives system (pass_view o.registrar.pass) n error) old new → BreaksFirst gives system old new error
    breaks-first [] new error broken = absurd broken
    breaks-first (x ∷ old) [] error broken = absurd broken
    breaks-first (x ∷ old) (y ∷ new) error broken =
        record { first = x; first' = y; others = old; were = refl; are = ap (λ l. y ∷ l) broken.1; breaks = broken.0 }

    -- it is one of the handles
    pub off-first : (old new : List (WorkerHandle A K)) (error : RunError) → BreaksFirst gives system old new error → BreaksOneHandle gives system new error
    off-first old new error broke = (
      pass_view broke.first.registrar.pass,
      broke.first',
      subst (λ l. Contains l broke.first') (sym broke.are) (0, omega arith, refl),
      broke.breaks,
    )
