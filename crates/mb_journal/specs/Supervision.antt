-- What a supervisor decides about a child that failed (`akka.actor.SupervisorStrategy`).
use Rattle.std.specs.Prelude.{if◌then◌else◌}
use Rattle.mb_msg.specs.declared.supervision.Cause.{Cause}
use Rattle.mb_msg.specs.declared.supervision.Directive.{Directive}
use Rattle.mb_msg.specs.Strategy.{decided_by, default_directive}
use Rattle.mb_journal.specs.Identity.{Identity, is_guardian}

-- the directive for a child that failed for this cause; the guardian always decides by the default
abbrev pub directive_of : Identity → Cause → Directive
directive_of who c = if is_guardian who then default_directive c else decided_by who.strategy c
