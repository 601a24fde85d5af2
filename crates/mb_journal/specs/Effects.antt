-- What the effects that an entry records change of the actor's own lists.
use Rattle.std.specs.Prelude.{Bool, false, ◌&&◌, List, []}
use Rattle.mb_msg.specs.declared.system.SysMsg.{SysMsg}
use Rattle.mb_msg.specs.declared.system.SysMsg.TheVariants as system
use Rattle.mb_actor.specs.declared.effect.Effect.{Effect}
use Rattle.mb_journal.specs.Entry.{Entry, is_applied, outcome_effects, outcome_of}
use Rattle.mb_journal.specs.Entry.Entry.{Handled, System, Dropped}

-- the entry applies a system message that passes the test
abbrev pub applies : (SysMsg → Bool) → Entry → Bool
applies test (Handled envelope reading outcome) = false
applies test (System number message outcome) = test message && is_applied outcome
applies test (Dropped envelope) = false

-- the effects that change the actor's own lists: all but those of `stop`, which an actor is called for when it ends,
-- and of which its tells alone are carried out (this project's own profile)
abbrev pub lasting_effects : Entry → List Effect
lasting_effects (System number system.Terminate outcome) = []
lasting_effects (System number (system.Died x) outcome) = []
lasting_effects e = outcome_effects (outcome_of e)
