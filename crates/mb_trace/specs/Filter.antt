-- Which entries a trace shows (this project's own profile).
use Rattle.std.specs.Prelude.{ℕ, ◌==◌, ◌||◌, ◌&&◌, Bool, true, false, not, List, [], ◌∷◌}
use Rattle.std.specs.List.{list_any}
use Rattle.mb_msg.specs.declared.system.SysMsg.{SysMsg}
use Rattle.mb_msg.specs.declared.system.SysMsg.TheVariants as system
use Rattle.mb_journal.specs.Entry.{Entry, answered_failed}
use Rattle.mb_journal.specs.Entry.Entry.{Handled, System, Dropped}
use Rattle.mb_trace.specs.declared.filter.EntryKinds.{EntryKinds}
use Rattle.mb_trace.specs.declared.filter.EntryKinds.TheVariants as kinds
use Rattle.mb_trace.specs.declared.filter.Filter.{Filter}

-- An envelope came.
abbrev pub is_of_envelope : Entry → Bool
is_of_envelope (Handled envelope reading outcome) = true
is_of_envelope (System number message outcome) = false
is_of_envelope (Dropped envelope) = true

-- The message is about a failure: that of a child, or the one after which the actor is restarted or resumed.
abbrev pub is_about_failure : SysMsg → Bool
is_about_failure (system.Failed child cause) = true
is_about_failure (system.Recreate cause) = true
is_about_failure (system.Resume of_failure) = of_failure
is_about_failure _ = false

-- A message about a failure came.
abbrev pub brings_failure : Entry → Bool
brings_failure (Handled envelope reading outcome) = false
brings_failure (System number message outcome) = is_about_failure message
brings_failure (Dropped envelope) = false

-- The entry is of this kind: of an envelope, of a system message, or of a failure, in which the actor's call failed or which brings one.
abbrev pub is_of_kind : EntryKinds → Entry → Bool
is_of_kind kinds.All e = true
is_of_kind kinds.User e = is_of_envelope e
is_of_kind kinds.System e = not (is_of_envelope e)
is_of_kind kinds.Failures e = answered_failed e || brings_failure e

-- The entries of the actor of this number are shown: it is one of these, or there are none.
abbrev pub shows_actor : List ℕ → ℕ → Bool
shows_actor [] actor = true
shows_actor (number ∷ numbers) actor = list_any (λ k. k == actor) (number ∷ numbers)

-- The entry of the actor of this number is shown, as far as the limit allows it.
abbrev pub shows : Filter → ℕ → Entry → Bool
shows filter actor e = shows_actor filter.actors.now actor && is_of_kind filter.only e
