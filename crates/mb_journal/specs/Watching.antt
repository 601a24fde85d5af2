-- Who watches the actor, and whom it watches (`akka.actor.dungeon.DeathWatch`).
-- In each definition `before` is what came before the entry `e`.
use Rattle.std.specs.Prelude.{if◌then◌else◌, List, [], ◌∷◌}
use Rattle.mb_msg.specs.declared.envelope.Body.{Body}
use Rattle.mb_msg.specs.declared.envelope.Body.TheVariants as body
use Rattle.mb_msg.specs.declared.id.ActorId.{ActorId}
use Rattle.mb_msg.specs.declared.system.SysMsg.TheVariants as system
use Rattle.mb_actor.specs.declared.effect.Effect.{Effect}
use Rattle.mb_actor.specs.declared.effect.Effect.TheVariants as effect
use Rattle.mb_actor.specs.ActorList.{is_same, has}
use Rattle.mb_journal.specs.ActorList.{without, joined}
use Rattle.mb_journal.specs.Effects.{lasting_effects}
use Rattle.mb_journal.specs.Entry.{Entry}
use Rattle.mb_journal.specs.Entry.Entry.{Handled, System}
use Rattle.mb_journal.specs.Entry.Outcome.{Applied}
use Rattle.mb_journal.specs.Identity.{Identity}
use Rattle.mb_journal.specs.Life.{is_ending, after_death}

-- who watches the actor, in order of joining: each whose newest Watch or Unwatch that was applied is a Watch
-- (`DeathWatch.watchedBy`; the order is this project's own profile)
unfoldable pub watchers : List Entry → List ActorId
watchers [] = []
watchers (System number (system.Watch w) (Applied answer effects) ∷ before) = joined (watchers before) w
watchers (System number (system.Unwatch w) (Applied answer effects) ∷ before) = without (watchers before) w
watchers (e ∷ before) = watchers before

-- whom the actor watches after these effects, one after another: an actor that watches itself does not
abbrev pub watching_after : ActorId → List ActorId → List Effect → List ActorId
watching_after this list [] = list
watching_after this list (effect.Watch x ∷ effects) = watching_after this (if is_same this x then list else joined list x) effects
watching_after this list (effect.Unwatch x ∷ effects) = watching_after this (without list x) effects
watching_after this list (_ ∷ effects) = watching_after this list effects

-- whom the actor watches, in order of joining: each whose newest among its watch, its unwatch, its Died that was applied
-- and the actor's ending is the watch (`DeathWatch.watching`; the order is this project's own profile)
unfoldable pub watching : Identity → List Entry → List ActorId
watching who [] = []
watching who (e ∷ before) =
    watching_after who.this (if is_ending e before then [] else after_death e (watching who before)) (lasting_effects e)

-- the list after these effects, without those that the actor no longer watches
abbrev pub due_after : List ActorId → List Effect → List ActorId
due_after list [] = list
due_after list (effect.Unwatch x ∷ effects) = due_after (without list x) effects
due_after list (_ ∷ effects) = due_after list effects

-- the list with an actor whose Died the entry applies, if the actor watches it
abbrev pub with_dead : Entry → List ActorId → List ActorId → List ActorId
with_dead (System number (system.Died x) (Applied answer effects)) watched list = if has watched x then joined list x else list
with_dead _ watched list = list

-- the list without an actor whose end the entry tells
abbrev pub after_told : Entry → List ActorId → List ActorId
after_told (Handled envelope reading outcome) list = told envelope.body list
  where
    told : Body → List ActorId → List ActorId
    told (body.Terminated x) list = without list x
    told _ list = list
after_told _ list = list

-- whose end the actor is still to be told, in order of their ends: each whose newest among its Died that was applied while
-- the actor watched it, its unwatch, its handled Terminated and the actor's ending is that Died
-- (`DeathWatch.terminatedQueued`)
unfoldable pub due : Identity → List Entry → List ActorId
due who [] = []
due who (e ∷ before) =
    due_after (if is_ending e before then [] else after_told e (with_dead e (watching who before) (due who before))) (lasting_effects e)
