-- Which system messages wait until the actor's mailbox is no longer suspended (in Akka `FaultHandling` stashes them in
-- `ActorCell.systemInvoke`; which wait and when is this project's own profile).
use Rattle.std.specs.Prelude.{ℕ, ◌+◌, ◌==◌, nat_lt, Bool, true, false, not, ◌&&◌, ◌||◌, if◌then◌else◌, List, [], ◌∷◌, ◌++◌, filter}
use Rattle.std.specs.Prelude.{Option, Some, None}
use Rattle.mb_msg.specs.declared.system.SysMsg.{SysMsg}
use Rattle.mb_msg.specs.declared.system.SysMsg.TheVariants as system
use Rattle.mb_journal.specs.Entry.{Entry}
use Rattle.mb_journal.specs.Entry.Entry.{System}
use Rattle.mb_journal.specs.Entry.Outcome.{Applied, SetAside}
use Rattle.mb_journal.specs.Identity.{Identity}
use Rattle.mb_journal.specs.Life.{phase, closed}
use Rattle.mb_journal.specs.Phase.{phase_is}
use Rattle.mb_journal.specs.Suspension.{count}
use Rattle.mb_actor.specs.declared.phase.Phase.TheVariants.{Fresh, Ending}

-- the messages that an ending actor does not apply
abbrev pub waits_for_the_end : SysMsg → Bool
waits_for_the_end (system.Failed x c) = true
waits_for_the_end (system.Recreate c) = true
waits_for_the_end system.Suspend = true
waits_for_the_end (system.Resume of_failure) = true
waits_for_the_end _ = false

abbrev pub is_child_failure : SysMsg → Bool
is_child_failure (system.Failed x c) = true
is_child_failure _ = false

-- a message that comes now is set aside: while Ending a Failed, Recreate, Suspend or Resume, and otherwise, once the
-- actor was started, a Failed while the mailbox is suspended
abbrev pub sets_aside : Identity → List Entry → SysMsg → Bool
sets_aside who before message =
    (phase_is (phase who before) Ending && waits_for_the_end message)
    || (is_child_failure message && not (phase_is (phase who before) Fresh) && nat_lt 0 (count who before))

-- the list without the message of this number
abbrev pub without_number : List (ℕ × SysMsg) → ℕ → List (ℕ × SysMsg)
without_number list number = filter (λ m. not (m.0 == number)) list

-- the messages, with their numbers, that were set aside and not applied since, in order
unfoldable pub ever_aside : List Entry → List (ℕ × SysMsg)
ever_aside [] = []
ever_aside (System number message SetAside ∷ before) = ever_aside before ++ (number, message) ∷ []
ever_aside (System number message (Applied answer effects) ∷ before) = without_number (ever_aside before) number
ever_aside (e ∷ before) = ever_aside before

-- the messages that are set aside; none of an actor that ended
unfoldable pub aside : Identity → List Entry → List (ℕ × SysMsg)
aside who journal = if closed who journal then [] else ever_aside journal

abbrev pub first_of_list : List (ℕ × SysMsg) → Option (ℕ × SysMsg)
first_of_list [] = None
first_of_list (m ∷ list) = Some m

-- the system message that is due before all others: the earliest that is set aside, where the mailbox is not suspended and
-- the actor is not Ending
unfoldable pub next_front : Identity → List Entry → Option (ℕ × SysMsg)
next_front who journal =
    if count who journal == 0 && not (phase_is (phase who journal) Ending) then first_of_list (aside who journal) else None

-- the number of the next new system message: those that came so far have the numbers 0, 1, 2, .. in order
unfoldable pub next_number : List Entry → ℕ
next_number [] = 0
next_number (System number message outcome ∷ before) = if number == next_number before then number + 1 else next_number before
next_number (e ∷ before) = next_number before
