-- A scenario of the code, as contracts see it (this project's own profile).
use Rattle.std.specs.Prelude.{map, string_bytes}
use Rattle.mb_msg.specs.declared.strategy.Strategy.{Strategy}
use Rattle.mb_msg.specs.declared.actor_plan.ActorPlan.{ActorPlan}
use Rattle.mb_msg.specs.declared.mailbox_type.MailboxType.{MailboxType}
use Rattle.mb_msg.specs.declared.mailbox_type.MailboxType.TheVariants.{Unbounded, Bounded, Priority, Control}
use Rattle.mb_msg.specs.declared.plan.Plan.{Plan}
use Rattle.mb_scenario.specs.Plans.{KindData, unbounded, bounded, priority, control, StrategyData, ActorData, PlanData, ScenarioData}
use Rattle.mb_scenario.specs.declared.scenario.Scenario.{Scenario}

-- a kind of mailbox, as contracts see it
abbrev pub kind_data : MailboxType → KindData
kind_data Unbounded = unbounded
kind_data (Bounded capacity) = bounded capacity
kind_data (Priority rows other) = priority rows.items other
kind_data Control = control

-- a strategy, as contracts see it
abbrev pub strategy_data : Strategy → StrategyData
strategy_data s = record { rows = s.rows.items; retries = s.retries; all_for_one = s.all_for_one }

-- an actor of a plan, as contracts see it
abbrev pub actor_data : ActorPlan → ActorData
actor_data a = record { parent = a.parent; mailbox = kind_data a.mailbox; strategy = strategy_data a.strategy }

-- a plan, as contracts see it
abbrev pub plan_data : Plan → PlanData
plan_data p = record {
  throughput = p.throughput;
  workers = p.workers;
  pool = p.pool;
  senders = p.senders;
  journal_limit = p.journal_limit;
  actors = map actor_data p.actors.items;
}

-- a scenario, as contracts see it
abbrev pub scenario_data : Scenario → ScenarioData
scenario_data s = record {
  plan = plan_data s.plan;
  names = map string_bytes s.names.items;
  scripts = s.scripts.items;
  sends = s.sends.items;
  quiet = s.quiet;
}
