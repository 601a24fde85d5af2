-- How often an actor restarts its children, and what is carried out about one that failed
-- (`akka.actor.ChildRestartStats.requestRestartPermission`, `OneForOneStrategy` and `AllForOneStrategy`; no time window).
-- In each definition `before` is what came before the entry.
use Rattle.std.specs.Prelude.{ℕ, ◌+◌, ℤ, pos, negsuc, nat_lt, nat_le, Bool, true, false, not, ◌&&◌, if◌then◌else◌, List, [], ◌∷◌, ◌++◌, count_by}
use Rattle.std.specs.List.{list_all}
use Rattle.mb_msg.specs.declared.id.ActorId.{ActorId}
use Rattle.mb_msg.specs.declared.supervision.Cause.{Cause}
use Rattle.mb_msg.specs.declared.supervision.Directive.{Directive}
use Rattle.mb_msg.specs.declared.supervision.Directive.TheVariants as directive
use Rattle.mb_msg.specs.declared.system.SysMsg.TheVariants as system
use Rattle.mb_actor.specs.ActorList.{is_same, has}
use Rattle.mb_journal.specs.Entry.{Entry}
use Rattle.mb_journal.specs.Entry.Entry.{System}
use Rattle.mb_journal.specs.Entry.Outcome.{Applied}
use Rattle.mb_journal.specs.Identity.{Identity}
use Rattle.mb_journal.specs.Life.{children}
use Rattle.mb_journal.specs.Supervision.{directive_of}

-- the directive is Restart
abbrev pub is_restart_directive : Directive → Bool
is_restart_directive directive.Restart = true
is_restart_directive _ = false

-- how often the child is in a list of requests
abbrev pub times_in : List ActorId → ActorId → ℕ
times_in requests y = count_by (λ z. is_same y z) requests

-- whether a child's request with this number, counted from 1, is permitted: always without a limit, never with a limit
-- below 1, and else up to the limit
abbrev pub permits : ℤ → ℕ → Bool
permits (negsuc n) times = true
permits (pos limit) times = nat_lt 0 limit && nat_le times limit

-- one more request for the child is permitted, after these
abbrev pub is_given : Identity → List ActorId → ActorId → Bool
is_given who requests y = permits who.retries (times_in requests y + 1)

-- the children whom a decision about one is for: that one, or all
abbrev pub meant_by : Identity → List Entry → ActorId → List ActorId
meant_by who before x = if who.all_for_one then children who before else x ∷ []

-- the children up to and with the first whose request is refused
abbrev pub through_refusal : (ActorId → Bool) → List ActorId → List ActorId
through_refusal given [] = []
through_refusal given (y ∷ list) = y ∷ (if given y then through_refusal given list else [])

-- the children for which a restart was requested, in order, each once for each request: those that failures of children
-- were to restart
unfoldable pub requests : Identity → List Entry → List ActorId
requests who [] = []
requests who (System number (system.Failed x c) (Applied answer effects) ∷ before) =
    requests who before
    ++ (if has (children who before) x && is_restart_directive (directive_of who c)
    then through_refusal (is_given who (requests who before)) (meant_by who before x)
    else [])
requests who (e ∷ before) = requests who before

-- how many of a child's requests are counted, where there is a limit to keep to
abbrev pub counted_from : ℤ → ℕ → ℕ
counted_from (negsuc n) times = 0
counted_from (pos limit) times = if nat_lt 0 limit then times else 0

-- the child's count of restarts (`ChildRestartStats.maxNrOfRetriesCount`)
abbrev pub retry_count : Identity → List Entry → ActorId → ℕ
retry_count who journal y = counted_from who.retries (times_in (requests who journal) y)

-- all children that the decision about this one is for may be restarted
abbrev pub may_restart : Identity → List Entry → ActorId → Bool
may_restart who before x = list_all (is_given who (requests who before)) (meant_by who before x)

-- what is carried out about a child that failed: the decided directive, but a stop in place of a restart that is not
-- permitted
abbrev pub carried_out : Identity → List Entry → ActorId → Cause → Directive
carried_out who before x c =
    if is_restart_directive (directive_of who c) && not (may_restart who before x) then directive.Stop else directive_of who c
