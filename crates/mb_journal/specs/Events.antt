-- The events of a journal: its entries, and the effects that they record, each after its entry.
use Rattle.std.specs.Prelude.{Bool, false, ◌&&◌, ◌||◌, if◌then◌else◌, List, [], ◌∷◌}
use Rattle.mb_msg.specs.declared.envelope.Body.TheVariants as body
use Rattle.mb_msg.specs.declared.envelope.Body.{Body}
use Rattle.mb_msg.specs.declared.id.ActorId.{ActorId}
use Rattle.mb_msg.specs.declared.system.SysMsg.{SysMsg}
use Rattle.mb_msg.specs.declared.system.SysMsg.TheVariants as system
use Rattle.mb_actor.specs.declared.effect.Effect.{Effect}
use Rattle.mb_actor.specs.declared.effect.Effect.TheVariants as effect
use Rattle.mb_actor.specs.ActorList.{is_same, has}
use Rattle.mb_journal.specs.Effects.{applies, lasting_effects}
use Rattle.mb_journal.specs.Entry.{Entry}
use Rattle.mb_journal.specs.Entry.Entry.{Handled}
use Rattle.mb_journal.specs.Identity.{Identity}
use Rattle.mb_journal.specs.Life.{is_ending}
use Rattle.mb_journal.specs.Newest.{Membership, said_if}
use Rattle.mb_journal.specs.Newest.Membership.{Joins, Leaves, Unchanged}
use Rattle.mb_journal.specs.Watching.{watching}

-- an entry, with what came before it; or an effect that an entry records
pub data Event : Type 0 where
  Came : Entry → List Entry → Event
  Asked : Effect → Event

-- these events, and then the effects, one after another
abbrev pub then_asked : List Event → List Effect → List Event
then_asked events [] = events
then_asked events (f ∷ effects) = then_asked (Asked f ∷ events) effects

-- the events of a journal, the newest first
unfoldable pub events : List Entry → List Event
events [] = []
events (e ∷ before) = then_asked (Came e before ∷ events before) (lasting_effects e)

-- the message is the Died of this actor
abbrev pub is_died_of : ActorId → SysMsg → Bool
is_died_of x (system.Died y) = is_same x y
is_died_of x _ = false

-- the entry is a handled Terminated that tells of the end of this actor
abbrev pub tells_end_of : ActorId → Entry → Bool
tells_end_of x (Handled envelope reading outcome) = is_terminated_of envelope.body
  where
    is_terminated_of : Body → Bool
    is_terminated_of (body.Terminated y) = is_same x y
    is_terminated_of _ = false
tells_end_of x _ = false

-- an event says of an actor that it is watched by a `watch` of it, and no longer by an `unwatch`, by its Died that is
-- applied, and by the ending
abbrev pub watching_says : ActorId → Event → Membership
watching_says x (Came e before) = said_if (is_ending e before || applies (is_died_of x) e) Leaves
watching_says x (Asked (effect.Watch y)) = said_if (is_same x y) Joins
watching_says x (Asked (effect.Unwatch y)) = said_if (is_same x y) Leaves
watching_says x (Asked _) = Unchanged

-- an event says of an actor that its end is still to be told by its Died that is applied while it is watched, and no
-- longer by an `unwatch`, by the Terminated that tells of it, and by the ending
abbrev pub due_says : Identity → ActorId → Event → Membership
due_says who x (Came e before) =
    if applies (is_died_of x) e && has (watching who before) x then Joins else said_if (is_ending e before || tells_end_of x e) Leaves
due_says who x (Asked (effect.Unwatch y)) = said_if (is_same x y) Leaves
due_says who x (Asked _) = Unchanged
