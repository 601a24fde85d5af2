-- What the merge of journals answers.
use Rattle.std.specs.Prelude.{◌≡◌, ◌+◌, ◌<◌, ◌≤◌, All, true, List, length, reverse, ⊤}
use Rattle.mb_msg.specs.Limits.{most_entries}
use Rattle.mb_msg.specs.declared.order.SenderOrder.{SenderOrder}
use Rattle.mb_msg.specs.declared.plan.Plan.{Plan}
use Rattle.mb_build.specs.Planned.{actors_in}
use Rattle.mb_report.specs.declared.report.ActorReport.{ActorReport}
use Rattle.mb_causal_order.specs.Coming.{IsByLowest}
use Rattle.mb_causal_order.specs.Merged.{IsMerged}
use Rattle.mb_causal_order.specs.declared.outcome.MergedOrder.{MergedOrder}
use Rattle.mb_causal_order.specs.declared.outcome.MergedOrder.TheVariants as order
use Rattle.mb_causal_order.specs.declared.place.Place.{Place}

-- a system with so many actors is built from the plan
pub record IsOfPlan (plan : Plan) (actors : List ActorReport) : Type 0 where
  pub few : length plan.actors.items < 64
  pub as_many : length actors ≡ length plan.actors.items + 1
  pub limit : plan.journal_limit ≤ most_entries

-- An order is right, and goes by the lowest actor. Where it is said that there is none, no list of places is one. Where it is said that a journal does
-- not keep its entries, one does not, and where the plan is said to be none of these actors, it is none. Nothing is said of an entry that no cell makes.
abbrev pub IsAnswer : Plan → List SenderOrder → List ActorReport → MergedOrder → Type 0
IsAnswer plan sends actors (order.Found places) =
    IsMerged (actors_in plan) sends actors (reverse places.items) × IsByLowest (actors_in plan) sends actors (reverse places.items)
IsAnswer plan sends actors order.NoOrder = (places : List Place) → IsMerged (actors_in plan) sends actors places → ⊥
IsAnswer plan sends actors order.NotKept = All (λ (a : ActorReport). a.journal.retention.keeps_all ≡ true) actors → ⊥
IsAnswer plan sends actors order.NotOfPlan = IsOfPlan plan actors → ⊥
IsAnswer plan sends actors order.NotRemade = ⊤
