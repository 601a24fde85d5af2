-- Who joined and has not left since, in order of joining.
use Rattle.std.specs.Prelude.{not, if◌then◌else◌, List, [], ◌∷◌, filter}
use Rattle.mb_msg.specs.declared.id.ActorId.{ActorId}
use Rattle.mb_msg.specs.declared.system.SysMsg.TheVariants as system
use Rattle.mb_actor.specs.ActorList.{is_same, has}
use Rattle.mb_actor.specs.declared.effect.Effect.TheVariants as effect
use Rattle.mb_journal.specs.Entry.{Entry}
use Rattle.mb_journal.specs.Entry.Entry.{System}
use Rattle.mb_journal.specs.Entry.Outcome.{Applied}
use Rattle.mb_journal.specs.Events.{Event}
use Rattle.mb_journal.specs.Events.Event.{Came, Asked}
use Rattle.mb_journal.specs.Identity.{Identity}
use Rattle.mb_journal.specs.Newest.{Membership, joins, leaves, newest}
use Rattle.mb_journal.specs.Remaining.{remaining}
use Rattle.mb_journal.specs.Watching.{watching}

-- those whom the entries or events ask to join, in order, without those that a later one says to leave. Who is a member by
-- the newest before does not join again
abbrev pub members_in_order : {A : Type 0} → (A → List ActorId) → (ActorId → A → Membership) → List A → List ActorId
members_in_order asked says list =
    remaining (λ a before. filter (λ x. not (joins (newest (says x) before))) (asked a)) (λ x a. leaves (says x a)) [] list

-- the watcher whose Watch the entry applies
abbrev pub watcher_of : Entry → List ActorId
watcher_of (System number (system.Watch w) (Applied answer effects)) = w ∷ []
watcher_of _ = []

-- the actor that a `watch` is of, unless it is this one itself
abbrev pub watched_by : ActorId → Event → List ActorId
watched_by this (Asked (effect.Watch x)) = if is_same this x then [] else x ∷ []
watched_by this _ = []

-- the actor whose Died the entry applies
abbrev pub died_by : Entry → List ActorId
died_by (System number (system.Died x) (Applied answer effects)) = x ∷ []
died_by _ = []

-- the actor whose Died is applied while it is watched
abbrev pub died_while_watched : Identity → Event → List ActorId
died_while_watched who (Came e before) = filter (has (watching who before)) (died_by e)
died_while_watched who (Asked f) = []
