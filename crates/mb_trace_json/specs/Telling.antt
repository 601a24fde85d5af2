-- That the JSON value of an entry tells which entry it is (this project's own profile).
use Rattle.std.specs.Prelude.{◌≡◌, ◌≢◌, ℕ, ◌<◌, ◌≤◌, ◌^◌, List, length, ◌++◌, codes, All, ⊤}
use Rattle.std.specs.Fmt.{decimal}
use Rattle.mb_msg.specs.Limits.{most_actors}
use Rattle.mb_msg.specs.declared.envelope.Body.{Body}
use Rattle.mb_msg.specs.declared.envelope.Body.TheVariants as body
use Rattle.mb_msg.specs.declared.envelope.Envelope.{Envelope}
use Rattle.mb_msg.specs.declared.system.SysMsg.{SysMsg}
use Rattle.mb_msg.specs.declared.system.SysMsg.TheVariants as system
use Rattle.mb_actor.specs.declared.effect.Effect.{Effect}
use Rattle.mb_actor.specs.declared.effect.Effect.TheVariants as effect
use Rattle.mb_journal.specs.Entry.{Entry, outcome_effects}
use Rattle.mb_journal.specs.Entry.Entry.{Handled, System, Dropped}
use Rattle.mb_trace_json.specs.Entries.{entry_data}
use Rattle.mb_trace.specs.declared.actor_snapshot.ActorSnapshot.{ActorSnapshot}
use Rattle.mb_trace_json.specs.Names.{name_of}

-- No two actors have one name, the guardian among them, and none is named as a sender outside the actors.
pub record AreDistinct (names : List (List ℕ)) : Type 0 where
  pub actors : (i j : ℕ) → i ≤ length names → j ≤ length names → name_of names i ≡ name_of names j → i ≡ j
  pub outside : (i n : ℕ) → i ≤ length names → name_of names i ≢ codes "outside " ++ decimal n

-- The number is that of an actor with a name, or of a sender outside the actors.
pub record IsKnown (names : List (List ℕ)) (id : ℕ) : Type 0 where
  pub named : id < most_actors → id ≤ length names
  pub small : id < 2 ^ 32

-- So is each number in what an envelope carries,
abbrev pub IsKnownBody : List (List ℕ) → Body → Type 0
IsKnownBody names (body.Terminated id) = IsKnown names id.0
IsKnownBody names _ = ⊤

-- in an envelope, which is to the actor of this number,
pub record IsKnownEnvelope (names : List (List ℕ)) (actor : ℕ) (e : Envelope) : Type 0 where
  pub to : e.to.0 ≡ actor
  pub by : IsKnown names e.by.0
  pub content : IsKnownBody names e.body

-- in a system message,
abbrev pub IsKnownMessage : List (List ℕ) → SysMsg → Type 0
IsKnownMessage names (system.Watch id) = IsKnown names id.0
IsKnownMessage names (system.Unwatch id) = IsKnown names id.0
IsKnownMessage names (system.Failed id c) = IsKnown names id.0
IsKnownMessage names (system.Died id) = IsKnown names id.0
IsKnownMessage names _ = ⊤

-- in an effect,
abbrev pub IsKnownEffect : List (List ℕ) → Effect → Type 0
IsKnownEffect names (effect.Tell to kind value) = IsKnown names to.0
IsKnownEffect names (effect.Control to kind value) = IsKnown names to.0
IsKnownEffect names (effect.Watch id) = IsKnown names id.0
IsKnownEffect names (effect.Unwatch id) = IsKnown names id.0
IsKnownEffect names (effect.Stop id) = IsKnown names id.0
IsKnownEffect names (effect.Spawn id) = IsKnown names id.0

-- and in an entry of the journal of the actor of this number.
abbrev pub IsKnownEntry : List (List ℕ) → ℕ → Entry → Type 0
IsKnownEntry names actor (Handled e reading outcome) = IsKnownEnvelope names actor e × All (IsKnownEffect names) (outcome_effects outcome)
IsKnownEntry names actor (System n message outcome) = IsKnownMessage names message × All (IsKnownEffect names) (outcome_effects outcome)
IsKnownEntry names actor (Dropped e) = IsKnownEnvelope names actor e

-- With such names, the value of this entry of the journal of the actor of this number, at this place there, is that of no other entry, no
-- other actor and no other place, however the actors stand.
abbrev pub TellsEntry : List (List ℕ) → ℕ → ℕ → ActorSnapshot → Entry → Type 0
TellsEntry names actor place after e =
    AreDistinct names → IsKnown names actor → IsKnownEntry names actor e
    → (other elsewhere : ℕ) (otherwise : ActorSnapshot) (f : Entry) → IsKnown names other → IsKnownEntry names other f
    → entry_data names other elsewhere otherwise f ≡ entry_data names actor place after e → (other ≡ actor) × (elsewhere ≡ place) × (f ≡ e)
