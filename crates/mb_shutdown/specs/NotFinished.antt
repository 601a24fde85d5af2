-- Why a run of a plan has no report: what was found at the end of a system of the plan.
use Rattle.std.specs.Prelude.{◌≡◌, ℕ, ◌<◌, List, length}
use Rattle.std.specs.Global.{Box}
use Rattle.mb_actor.specs.Behaviour.{Moment, Reply}
use Rattle.mb_gate.specs.Accessors.{actors_of, first_home, pass_view, pass_id}
use Rattle.mb_gate.specs.View.{View}
use Rattle.mb_gate.specs.declared.gates.Gates.{Gates}
use Rattle.mb_home.specs.Contents.{Contents}
use Rattle.mb_msg.specs.declared.plan.Plan.{Plan}
use Rattle.mb_queue.specs.Passes.{SendPassView}
use Rattle.mb_shutdown.specs.Homes.{Disagrees}
use Rattle.mb_shutdown.specs.Rooms.{AreCounted}
use Rattle.mb_shutdown.specs.declared.mismatch.Mismatch.{Mismatch}
use Rattle.mb_register.specs.declared.registrar.Registrar.{Registrar}
use Rattle.mb_pool.specs.WorkerPorts.{WorkerPortView}
use Rattle.mb_system.specs.Members.{IsHandleOf}
use Rattle.mb_build.specs.Planned.{IsDirectoryOf}
use Rattle.mb_shutdown.specs.Refused.{FindsBusy}

-- A worker's handle of a system of the plan read, one actor after another, whether it has something to run. This is the least that has, and what the handle
-- knows afterwards is what it read.
pub record HasWorkLeft (plan : Plan) (id : ℕ) : Type 0 where
  pub gates : Gates (Box Contents)
  pub planned : IsDirectoryOf plan (first_home gates).value.directory
  pub within : id < actors_of gates
  pub before : Registrar (Box Contents) (WorkerPortView (Box Contents))
  pub after : Registrar (Box Contents) (WorkerPortView (Box Contents))
  pub same_gates : IsHandleOf gates before
  pub same : pass_id after.pass ≡ pass_id before.pass
  pub found : FindsBusy id (pass_view before.pass) (pass_view after.pass)

-- By what the gates of a system of the plan gave back, by the passes of its senders and by the counts that were read, this does not agree.
pub record DoesNotAgree (gives : ℕ → Moment → Reply → Type 0) (plan : Plan) (what : Mismatch) : Type 0 where
  pub gates : Gates (Box Contents)
  pub planned : IsDirectoryOf plan (first_home gates).value.directory
  pub view : View
  pub outside : List (List SendPassView)
  pub same_count : length outside ≡ plan.senders
  pub waiting : List ℕ
  pub counted : AreCounted view.log waiting
  pub disagrees : Disagrees gives (first_home gates).value (actors_of gates) view outside waiting what
