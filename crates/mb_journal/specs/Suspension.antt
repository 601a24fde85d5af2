-- How often the actor's mailbox is suspended (`akka.dispatch.Mailbox.suspendCount`).
-- In each definition `before` is what came before the entry `e`.
use Rattle.std.specs.Prelude.{ℕ, ◌+◌, ◌-◌, max, Bool, true, false, not, ◌&&◌, ◌||◌, if◌then◌else◌, List, [], ◌∷◌, ◌++◌}
use Rattle.mb_msg.specs.declared.system.SysMsg.{SysMsg}
use Rattle.mb_msg.specs.declared.system.SysMsg.TheVariants as system
use Rattle.mb_journal.specs.Effects.{applies}
use Rattle.mb_journal.specs.Entry.{Entry}
use Rattle.mb_journal.specs.Failure.{is_failure}
use Rattle.mb_journal.specs.Identity.{Identity}
use Rattle.mb_journal.specs.Life.{phase, is_start, is_restart, is_ending, is_last, is_resume, closed}
use Rattle.mb_journal.specs.Phase.{phase_is}
use Rattle.mb_actor.specs.declared.phase.Phase.TheVariants.{Fresh}

-- one suspension more, or one less
pub data Mark : Type 0 where
  Plus : Mark
  Minus : Mark

abbrev pub is_suspend : SysMsg → Bool
is_suspend system.Suspend = true
is_suspend _ = false

-- the mark, where the test holds
abbrev pub mark_if : Bool → Mark → List Mark
mark_if true mark = mark ∷ []
mark_if false mark = []

-- the entry applies a message that passes the test, and the actor was started before
abbrev pub applies_off_fresh : (SysMsg → Bool) → Identity → Entry → List Entry → Bool
applies_off_fresh test who e before = applies test e && not (phase_is (phase who before) Fresh)

-- the marks of an entry: a start takes the first suspension away, a Suspend adds one, a Resume or a restart takes one
-- away; then a failure adds one, and so does an ending that waits for children
abbrev pub marks_of : Identity → Entry → List Entry → List Mark
marks_of who e before =
    mark_if (is_start e before) Minus
    ++ mark_if (applies_off_fresh is_suspend who e before) Plus
    ++ mark_if (applies_off_fresh is_resume who e before || is_restart who e before) Minus
    ++ mark_if (is_failure who e before) Plus
    ++ mark_if (is_ending e before && not (is_last who e before)) Plus

-- the marks of a journal, the earliest first
unfoldable pub marks : Identity → List Entry → List Mark
marks who [] = []
marks who (e ∷ before) = marks who before ++ marks_of who e before

-- how many of the marks add one, and how many take one away
unfoldable pub pluses : List Mark → ℕ
pluses [] = 0
pluses (Plus ∷ marks) = pluses marks + 1
pluses (Minus ∷ marks) = pluses marks

unfoldable pub minuses : List Mark → ℕ
minuses [] = 0
minuses (Plus ∷ marks) = minuses marks
minuses (Minus ∷ marks) = minuses marks + 1

-- what the marks add together, and 0 where they take away more
abbrev pub net : List Mark → ℕ
net marks = pluses marks - minuses marks

-- the most that the marks add from some mark on
unfoldable pub greatest_net : List Mark → ℕ
greatest_net [] = 0
greatest_net (mark ∷ marks) = max (net (mark ∷ marks)) (greatest_net marks)

-- the count after these marks: it begins at 1, each mark changes it by one, and it never falls below 0. So it is the
-- greatest of 0, of what the marks add from some mark on, and of 1 and all of them
abbrev pub count_after : List Mark → ℕ
count_after marks = max (greatest_net marks) (1 + pluses marks - minuses marks)

-- how often the mailbox is suspended: an actor that was not started is suspended once (this project's own profile),
-- and a closed mailbox not at all
unfoldable pub count : Identity → List Entry → ℕ
count who journal = if closed who journal then 0 else count_after (marks who journal)
