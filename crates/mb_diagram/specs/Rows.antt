-- The rows of a picture (this project's own profile).
use Rattle.std.specs.Prelude.{◌≡◌, ℕ, ◌==◌, ◌&&◌, Bool, map, pos, true, not, Option, Some, None}
use Rattle.mb_actor.specs.declared.effect.Effect.{Effect}
use Rattle.mb_actor.specs.declared.effect.Effect.TheVariants as effect
use Rattle.mb_journal.specs.Effects.{applies}
use Rattle.mb_journal.specs.Entry.{Entry, Outcome, answered_failed}
use Rattle.mb_journal.specs.Entry.Entry.{Handled, System, Dropped}
use Rattle.mb_journal.specs.Entry.Outcome.{Applied, SetAside}
use Rattle.mb_journal.specs.JournalView.{entry_of}
use Rattle.mb_journal.specs.Life.{is_create}
use Rattle.mb_msg.specs.declared.envelope.Body.{Body}
use Rattle.mb_msg.specs.declared.envelope.Body.TheVariants as body
use Rattle.mb_msg.specs.declared.envelope.Envelope.{Envelope}
use Rattle.mb_diagram.specs.declared.picture.PictureEntry.{PictureEntry}

-- the guardian sent it, or nobody is known to have, as of the guardian's own first message
abbrev pub is_from_guardian : Option ℕ → Bool
is_from_guardian None = true
is_from_guardian (Some id) = id == 0

-- it stands in the row of those that the guardian created: the first entry of its journal, by which a Create from the guardian was applied,
-- and the actor did not fail
abbrev pub is_in_created_row : PictureEntry → Option ℕ → Bool
is_in_created_row shown source =
    ((shown.index == 0) && is_from_guardian source) && (applies is_create (entry_of shown.entry) && not (answered_failed (entry_of shown.entry)))

-- what an envelope carries, without its value
abbrev pub without_value : Body → Body
without_value (body.User kind value) = body.User kind (pos 0)
without_value (body.Control kind value) = body.Control kind (pos 0)
without_value carried = carried

-- an envelope without its number and its value
abbrev pub unnumbered : Envelope → Envelope
unnumbered e = record e { number = 0; body = without_value e.body }

-- an effect without the value that it sends
abbrev pub effect_without_value : Effect → Effect
effect_without_value (effect.Tell to kind value) = effect.Tell to kind (pos 0)
effect_without_value (effect.Control to kind value) = effect.Control to kind (pos 0)
effect_without_value asked = asked

-- what became of a message, without the values that the actor asked to send
abbrev pub outcome_without_values : Outcome → Outcome
outcome_without_values (Applied answer effects) = Applied answer (map effect_without_value effects)
outcome_without_values SetAside = SetAside

-- an entry without its numbers and values: that of the message, the status word that was read before it, and the values in it
abbrev pub without_numbers : Entry → Entry
without_numbers (Handled e reading outcome) = Handled (unnumbered e) 0 (outcome_without_values outcome)
without_numbers (System number message outcome) = System 0 message (outcome_without_values outcome)
without_numbers (Dropped e) = Dropped (unnumbered e)

-- two entries that are drawn as one row are of one actor, from one sender, and alike but for their numbers and values
pub record AreOneRow (one other : PictureEntry) (source sender : Option ℕ) : Type 0 where
  pub same_actor : one.actor ≡ other.actor
  pub same_sender : source ≡ sender
  pub alike : without_numbers (entry_of one.entry) ≡ without_numbers (entry_of other.entry)
