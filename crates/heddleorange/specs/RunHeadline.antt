-- What a whole run says of the headline, by its plan, its orders and its report alone.
use Rattle.std.specs.Prelude.{◌≡◌, ℕ, zero, suc, ◌+◌, ◌<◌, List, [], ◌∷◌, ◌++◌, All, Some, length, slice_get}
use Rattle.mb_build.specs.Planned.{actors_in}
use Rattle.mb_dispatch.specs.Orders.{envelopes_of as ordered_bodies}
use Rattle.mb_msg.specs.Limits.{most_actors}
use Rattle.mb_msg.specs.declared.actor_plan.ActorPlan.{ActorPlan}
use Rattle.mb_msg.specs.declared.envelope.Envelope.{Envelope}
use Rattle.mb_msg.specs.declared.order.Order.{Order}
use Rattle.mb_msg.specs.declared.plan.Plan.{Plan}
use Rattle.mb_queue.specs.Made.{discipline_of}
use Rattle.mb_queue.specs.Passes.{first_in_first_out}
use Rattle.mb_report.specs.declared.report.Report.{Report}
use Rattle.mb_shutdown.specs.CompleteReport.{told_by_each}
use Rattle.mb_shutdown.specs.Headline.{BegunOpen, OneFate}
use Rattle.mb_shutdown.specs.NothingToRun.{NobodyHasToRun}
use Rattle.heddleorange.specs.Ledger.{numbered_from}

-- The envelopes that each sender outside sends by its orders. The first of these senders has this number.
abbrev pub ordered_by_each : ℕ → List (List Order) → List (List Envelope)
ordered_by_each by [] = []
ordered_by_each by (orders ∷ rest) = numbered_from by 0 (ordered_bodies orders) ∷ ordered_by_each (by + 1) rest

-- The plan gives the actor of this number a mailbox that is first in, first out.
abbrev pub IsPlannedFifo : Plan → ℕ → Type 0
IsPlannedFifo plan zero = ⊥
IsPlannedFifo plan (suc place) = (a : ActorPlan) × (slice_get plan.actors.items place ≡ Some a) × (discipline_of a.mailbox ≡ first_in_first_out)

-- The headline, of a run of this plan with these orders.
pub record RunHeadline (plan : Plan) (orders : List (List Order)) (report : Report) : Type 0 where
  -- Each envelope that a journal shows as begun was begun at a status that is neither closed nor suspended, and that is the one of the entries before it.
  pub begun_open : BegunOpen (actors_in plan) report
  -- Each envelope that an actor sent, as its journal tells, or a sender outside by its orders, has one fate, in its sender's order where the mailbox is
  -- first in, first out.
  pub one_fate : OneFate (actors_in plan) report (IsPlannedFifo plan) (ordered_by_each most_actors orders)
  -- None of them was sent to the guardian, or to a number that no actor has.
  pub to_an_actor : (place : ℕ) (sent : List Envelope)
      → slice_get (told_by_each (actors_in plan) report.actors.items ++ ordered_by_each most_actors orders) place ≡ Some sent
      → All (λ (e : Envelope). (0 < e.to.0) × (e.to.0 < length report.actors.items)) sent
  -- The run is at rest: no actor of the report has anything to run.
  pub at_rest : NobodyHasToRun report
