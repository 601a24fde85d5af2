-- What is kept of an actor while its journal is gone through.
use Rattle.std.specs.Prelude.{◌≡◌, ◌&&◌, Bool, true, false, List, Option, Some, None}
use Rattle.std.specs.Borrow.{Bor}
use Rattle.mb_actor.specs.ActorList.{has}
use Rattle.mb_msg.specs.Strategy.{decided_by}
use Rattle.mb_msg.specs.declared.id.ActorId.{ActorId}
use Rattle.mb_msg.specs.declared.strategy.Strategy.{Strategy}
use Rattle.mb_msg.specs.declared.supervision.Cause.{Cause}
use Rattle.mb_msg.specs.declared.system.SysMsg.TheVariants as system
use Rattle.mb_journal.specs.Entry.{Entry}
use Rattle.mb_journal.specs.Entry.Entry.{System}
use Rattle.mb_journal.specs.Entry.Outcome.{Applied}
use Rattle.mb_journal.specs.Failure.{failed, is_escalate}
use Rattle.mb_journal.specs.Identity.{Identity, is_guardian}
use Rattle.mb_journal.specs.Incarnation.{messages}
use Rattle.mb_journal.specs.Life.{children, has_ending, has_start, phase}
use Rattle.mb_journal.specs.Supervision.{directive_of}
use Rattle.mb_journal.specs.Suspension.{count_after, marks}
use Rattle.mb_script.specs.Script.{Scripted}
use Rattle.mb_trace.specs.Steps.{state_after}
use Rattle.mb_trace.specs.declared.life.Life.{Life}
use Rattle.mb_trace.specs.declared.rules.Rules.{Rules}

-- the strategy passes a failure for this cause up; without one it does not
abbrev pub passes_up : Option (Bor Strategy) → Cause → Bool
passes_up None c = false
passes_up (Some strategy) c = is_escalate (decided_by strategy.now.rows.items c)

-- the script that was read, if there is one
abbrev pub script_read : Option (Bor Scripted) → Option Scripted
script_read None = None
script_read (Some read) = Some read.now

-- these decide about this actor
pub record AreRulesOf (who : Identity) (rules : Rules) : Type 0 where
  pub guardian : rules.is_guardian ≡ is_guardian who
  pub prepared : is_guardian who ≡ true → rules.prepared.now ≡ who.prepared
  pub passes : (c : Cause) → passes_up rules.strategy c ≡ is_escalate (directive_of who c)

-- the actor passes the failure of one of these children up by the entry
abbrev pub passes_up_by : Option (Bor Strategy) → List ActorId → Entry → Bool
passes_up_by strategy own (System number (system.Failed x c) (Applied answer effects)) = has own x && passes_up strategy c
passes_up_by strategy own _ = false

-- it is that of this actor after these entries, of which the newest is first
pub record Follows (who : Identity) (script : Option Scripted) (before : List Entry) (life : Life) : Type 0 where
  pub phase : life.phase ≡ phase who before
  pub started : life.has_started ≡ has_start before
  pub ending : life.has_ending ≡ has_ending before
  pub failed : life.failed ≡ failed who before
  pub children : life.children.items ≡ children who before
  pub suspended : life.suspended ≡ count_after (marks who before)
  pub state : life.state ≡ state_after script (messages who before)
