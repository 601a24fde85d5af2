-- A system of a plan that has run, up to its end.
use Rattle.std.specs.Prelude.{◌≡◌, ℕ, List}
use Rattle.mb_actor.specs.Behaviour.{Moment, Reply}
use Rattle.mb_gate.specs.Untouched.{origin_of}
use Rattle.mb_msg.specs.declared.order.Order.{Order}
use Rattle.mb_msg.specs.declared.plan.Plan.{Plan}
use Rattle.mb_startup.specs.Begun.{IsBegun}
use Rattle.mb_system.specs.Members.{StillSee, handle_numbers}
use Rattle.mb_system.specs.declared.built.Built.{Built}
use Rattle.heddleorange.specs.NoReport.{IsRight}
use Rattle.heddleorange.specs.Sent.{HaveSent}
use Rattle.heddleorange.specs.Workers.{AllOnlyRuns}

-- It is the system that was built of this plan, with all its handles, which forgot nothing that they saw. Each handle only made runs of mailboxes of this
-- system, by the plan's throughput, and each of its senders carried out the orders of its place.
pub record HasRun {A K : Type 0} (gives : ℕ → Moment → Reply → Type 0) (plan : Plan) (orders : List (List Order)) (now : Built A K) : Type 0 where
  pub first : Built A K
  pub begun : IsBegun gives plan first
  pub system : now.system ≡ first.system
  pub handles : handle_numbers now.handles.items ≡ handle_numbers first.handles.items
  pub sent : HaveSent first.system.gates orders first.senders.items now.senders.items
  pub log_kept : StillSee first.handles.items now.handles.items
  pub runs : AllOnlyRuns gives (origin_of first.system.gates) plan.throughput first.handles.items now.handles.items

-- It has run so, by a plan and orders that are right, and with this limit of its journals.
pub record HasRunWithin {A K : Type 0} (gives : ℕ → Moment → Reply → Type 0) (limit : ℕ) (now : Built A K) : Type 0 where
  pub plan : Plan
  pub actors : ℕ
  pub orders : List (List Order)
  pub right : IsRight plan actors orders
  pub limit_is : plan.journal_limit ≡ limit
  pub ran : HasRun gives plan orders now
