-- What a document that passes all checks says of the system (this project's own profile).
use Rattle.std.specs.Prelude.{ℕ, ℤ, negsuc, ◌+◌, ◌==◌, List, codes, Bool, false, Option, Some, None, drop}
use Rattle.std.specs.Prelude.{if◌then◌else◌, max, unwrap_or}
use Rattle.std.specs.Str.{bytes_eq}
use Rattle.toml.specs.Data.{Data, Members, get_member}
use Rattle.mb_schema.specs.Check.{actor_entries_of, items_in}
use Rattle.mb_schema.specs.Context.{ActorEntryData}
use Rattle.mb_schema.specs.Number.{number_of}
use Rattle.mb_schema.specs.Operation.{space_in}
use Rattle.mb_schema.specs.Value.{text_or}
use Rattle.mb_msg.specs.declared.strategy.Pattern.{Pattern}
use Rattle.mb_msg.specs.declared.strategy.Pattern.TheVariants.{Any, AnyError, Error, Init, Killed, DeathPact}
use Rattle.mb_msg.specs.declared.id.ActorId.{ActorId}
use Rattle.mb_msg.specs.declared.supervision.Directive.{Directive}
use Rattle.mb_msg.specs.declared.supervision.Directive.TheVariants.{Resume, Restart, Stop, Escalate}
use Rattle.mb_msg.specs.declared.mailbox_type.RankRow.{RankRow}
use Rattle.mb_msg.specs.declared.order.SenderOrder.{SenderOrder}
use Rattle.mb_msg.specs.declared.pool_kind.PoolKind.{PoolKind}
use Rattle.mb_msg.specs.declared.pool_kind.PoolKind.TheVariants.{Shared, Stealing}
use Rattle.mb_script.specs.Script.{Scripted}
use Rattle.mb_scenario.specs.Fields.{field, id_of, integer_or, map_items, number_or, small, truth_or}
use Rattle.mb_scenario.specs.Scripts.{scripted_of}
use Rattle.mb_scenario.specs.Sends.{send_of, senders_of}

-- a mailbox
pub data KindData : Type 0 where
  unbounded : KindData
  bounded : ℕ → KindData
  priority : List RankRow → ℕ → KindData
  control : KindData

-- a strategy, as contracts see it; likewise an actor and a plan
pub record StrategyData : Type 0 where
  pub rows : List (Pattern × Directive)
  pub retries : ℤ
  pub all_for_one : Bool

pub record ActorData : Type 0 where
  pub parent : ActorId
  pub mailbox : KindData
  pub strategy : StrategyData

pub record PlanData : Type 0 where
  pub throughput : ℕ
  pub workers : ℕ
  pub pool : PoolKind
  pub senders : ℕ
  pub journal_limit : ℕ
  pub actors : List ActorData

-- a row of a priority mailbox
abbrev pub planned_rank : Data → RankRow
planned_rank d = record { kind = number_or 0 (field (codes "kind") d); rank = number_or 0 (field (codes "rank") d) }

-- the mailbox that a word names, in an actor
abbrev pub planned_mailbox : List ℕ → Data → KindData
planned_mailbox word d =
    if bytes_eq word (codes "bounded") then bounded (number_or 0 (field (codes "capacity") d))
    else (if bytes_eq word (codes "priority")
    then priority (map_items planned_rank (items_in (field (codes "rank") d))) (number_or 1 (field (codes "other") d))
    else (if bytes_eq word (codes "control") then control
    else unbounded))

-- the number of an error, behind the space
abbrev pub error_number : List ℕ → Option ℕ → ℕ
error_number text None = 0
error_number text (Some i) = unwrap_or (number_of (drop (i + 1) text)) 0

-- the causes that a text names
abbrev pub pattern_of : List ℕ → Pattern
pattern_of text =
    if bytes_eq text (codes "any") then Any
    else (if bytes_eq text (codes "error") then AnyError
    else (if bytes_eq text (codes "init") then Init
    else (if bytes_eq text (codes "killed") then Killed
    else (if bytes_eq text (codes "deathpact") then DeathPact
    else Error (error_number text (space_in text))))))

-- the directive that a word names
abbrev pub directive_of : List ℕ → Directive
directive_of text =
    if bytes_eq text (codes "resume") then Resume
    else (if bytes_eq text (codes "stop") then Stop
    else (if bytes_eq text (codes "escalate") then Escalate
    else Restart))

-- the row of a strategy that a table of `strategy` describes
abbrev pub strategy_row_of : Data → Pattern × Directive
strategy_row_of d = (pattern_of (text_or (codes "") (field (codes "cause") d)), directive_of (text_or (codes "") (field (codes "then") d)))

-- the strategy that a table of `actor` describes
abbrev pub strategy_of : Data → StrategyData
strategy_of d = record {
  rows = map_items strategy_row_of (items_in (field (codes "strategy") d));
  retries = integer_or (negsuc 0) (field (codes "retries") d);
  all_for_one = truth_or false (field (codes "all_for_one") d);
}

-- the actor of the plan that a table of `actor` describes
abbrev pub planned_actor : List ActorEntryData → Data → ActorData
planned_actor actor_entries d = record {
  parent = id_of actor_entries (text_or (codes "guardian") (field (codes "parent") d));
  mailbox = planned_mailbox (text_or (codes "unbounded") (field (codes "mailbox") d)) d;
  strategy = strategy_of d;
}

-- the kind of pool that a word names
abbrev pub pool_of : List ℕ → PoolKind
pool_of word = if bytes_eq word (codes "stealing") then Stealing else Shared

-- a scenario, as contracts see it
pub record ScenarioData : Type 0 where
  pub plan : PlanData
  pub names : List (List ℕ)
  pub scripts : List Scripted
  pub sends : List SenderOrder
  pub quiet : Bool

-- what is sent
abbrev pub sends_in : Members → List SenderOrder
sends_in top = map_items (send_of (actor_entries_of (items_in (get_member (codes "actor") top)))) (items_in (get_member (codes "send") top))

-- how many workers the document names
abbrev pub workers_in : Members → ℕ
workers_in top = number_or 1 (get_member (codes "workers") top)

-- the plan; a quiet run has one worker
abbrev pub plan_of : Members → PlanData
plan_of top = record {
  throughput = number_or 5 (get_member (codes "throughput") top);
  workers = max 1 (workers_in top);
  pool = pool_of (text_or (codes "shared") (get_member (codes "pool") top));
  senders = small (senders_of (sends_in top));
  journal_limit = number_or 4294967295 (get_member (codes "journal_limit") top);
  actors = map_items (planned_actor (actor_entries_of (items_in (get_member (codes "actor") top)))) (items_in (get_member (codes "actor") top));
}

-- the name in a table of `actor`
abbrev pub name_of : Data → List ℕ
name_of d = text_or (codes "") (field (codes "name") d)

-- the scenario that a document is: without workers it is quiet
abbrev pub scenario_of : Members → ScenarioData
scenario_of top = record {
  plan = plan_of top;
  names = map_items name_of (items_in (get_member (codes "actor") top));
  scripts = map_items (scripted_of (actor_entries_of (items_in (get_member (codes "actor") top)))) (items_in (get_member (codes "actor") top));
  sends = sends_in top;
  quiet = workers_in top == 0;
}
