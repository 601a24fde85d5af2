-- Which message an entry applies.
use Rattle.std.specs.Prelude.{Bool}
use Rattle.mb_msg.specs.declared.supervision.Directive.{Directive}
use Rattle.mb_journal.specs.Effects.{applies}
use Rattle.mb_journal.specs.Entry.{Entry}
use Rattle.mb_journal.specs.Failure.{is_escalate, is_resume_of_failure}
use Rattle.mb_journal.specs.Life.{is_create, is_recreate, is_resume, is_terminate}
use Rattle.mb_journal.specs.Suspension.{is_suspend}

-- it applies a Create
abbrev pub applies_create : Entry → Bool
applies_create e = applies is_create e

-- it applies a Terminate
abbrev pub applies_terminate : Entry → Bool
applies_terminate e = applies is_terminate e

-- it applies a Recreate
abbrev pub applies_recreate : Entry → Bool
applies_recreate e = applies is_recreate e

-- it applies a Suspend
abbrev pub applies_suspend : Entry → Bool
applies_suspend e = applies is_suspend e

-- it applies a Resume
abbrev pub applies_resume : Entry → Bool
applies_resume e = applies is_resume e

-- it applies a Resume for the actor's own failure
abbrev pub applies_resume_of_failure : Entry → Bool
applies_resume_of_failure e = applies is_resume_of_failure e

-- the directive is to pass the failure up
abbrev pub is_passed_up : Directive → Bool
is_passed_up d = is_escalate d
