-- What a strategy says about a child that failed (`akka.actor.SupervisorStrategy`).
use Rattle.std.specs.Prelude.{◌==◌, Bool, true, false, if◌then◌else◌, List, [], ◌∷◌, ℤ, negsuc}
use Rattle.mb_msg.specs.declared.supervision.Cause.{Cause}
use Rattle.mb_msg.specs.declared.supervision.Cause.TheVariants as cause
use Rattle.mb_msg.specs.declared.supervision.Directive.{Directive}
use Rattle.mb_msg.specs.declared.supervision.Directive.TheVariants as directive
use Rattle.mb_msg.specs.declared.strategy.Pattern.{Pattern}
use Rattle.mb_msg.specs.declared.strategy.Pattern.TheVariants as cases

-- the pattern matches this cause
abbrev pub matches : Pattern → Cause → Bool
matches cases.Any c = true
matches cases.AnyError (cause.Error n) = true
matches (cases.Error m) (cause.Error n) = m == n
matches cases.Init cause.Init = true
matches cases.Killed cause.Killed = true
matches cases.DeathPact cause.DeathPact = true
matches _ _ = false

-- the default directive (`SupervisorStrategy.defaultDecider`): an actor that could not start, was killed, or left a
-- Terminated unhandled is stopped; any other that failed is restarted
abbrev pub default_directive : Cause → Directive
default_directive (cause.Error n) = directive.Restart
default_directive cause.Init = directive.Stop
default_directive cause.Killed = directive.Stop
default_directive cause.DeathPact = directive.Stop

-- the first row that matches the cause decides, and the default where none does (this project's own profile: Akka escalates
-- where a user's decider is not defined at a cause)
abbrev pub decided_by : List (Pattern × Directive) → Cause → Directive
decided_by [] c = default_directive c
decided_by (row ∷ rows) c = if matches row.0 c then row.1 else decided_by rows c

-- no limit of restarts: a negative number (Akka's `maxNrOfRetries = -1`)
abbrev pub no_limit : ℤ
no_limit = negsuc 0
