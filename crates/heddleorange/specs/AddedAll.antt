-- What adding a list of actors to a system comes to (this project's own profile: in Akka actors are added one by one, by their parent's `actorOf`).
use Rattle.std.specs.Prelude.{◌≡◌, ℕ, ◌+◌, ◌<◌, ◌≤◌, nat_le, if◌then◌else◌, List, [], ◌∷◌, ◌++◌, IsErrOf, OnErr, OnOk, codes, Option, None, Some, Result, length}
use Rattle.std.specs.List.{position_from}
use Rattle.std.specs.Str.{bytes_eq}
use Rattle.mb_build.specs.declared.check.PlanError.TheVariants.{Actors, Parent}
use Rattle.mb_msg.specs.declared.actor_plan.ActorPlan.{ActorPlan}
use Rattle.mb_msg.specs.declared.id.ActorId.{ActorId}
use Rattle.heddleorange.specs.Names.{name_by_default, texts_of}
use Rattle.heddleorange.specs.declared.error.Error.{Error}
use Rattle.heddleorange.specs.declared.error.Error.TheVariants.{BadPlan}
use Rattle.heddleorange.specs.declared.planned_system.PlannedSystem.{PlannedSystem}

-- Where there are so many actors already, the number of the first of these whose parent is neither the guardian nor an earlier actor.
abbrev pub first_unfit : ℕ → List ActorPlan → Option ℕ
first_unfit there [] = None
first_unfit there (p ∷ plans) = if nat_le p.parent.0 there then first_unfit (there + 1) plans else Some (there + 1)

-- The names of as many actors as these plans are of, behind so many, if they come without names.
abbrev pub names_behind : ℕ → List ActorPlan → List (List ℕ)
names_behind there [] = []
names_behind there (p ∷ plans) = name_by_default (there + 1) ∷ names_behind (there + 1) plans

-- The number that has this name, where the actors beside the guardian have these.
abbrev pub number_in : List (List ℕ) → List ℕ → Option ℕ
number_in names name = position_from (bytes_eq name) 0 (codes "guardian" ∷ names)

-- The number that was found, or else the other.
abbrev pub found_or : Option ℕ → Option ℕ → Option ℕ
found_or (Some number) other = Some number
found_or None other = other

-- Where the actors beside the guardian have these names, and others follow with those, in order: the number of the actor that already has the name of
-- one of the others, the first of which that is so.
abbrev pub first_taken : List (List ℕ) → List (List ℕ) → Option ℕ
first_taken names [] = None
first_taken names (name ∷ others) = found_or (number_in names name) (first_taken (names ++ name ∷ []) others)

-- All these actors are added behind the others, in order, with their plans and under these names; or none is. None is where there would be more than
-- 63 actors, or one whose parent is neither the guardian nor an earlier actor.
pub record AreAdded {A T : Type 0} (old : PlannedSystem A) (plans : List ActorPlan) (actors : List A) (names : List (List ℕ)) (result : Result T Error)
    (new : PlannedSystem A) : Type 0 where
  pub actors_are : OnOk result (new.actors.items ≡ old.actors.items ++ actors)
  pub planned : OnOk result (new.plan.actors.items ≡ old.plan.actors.items ++ plans)
  pub named : OnOk result (texts_of new.names.texts.items ≡ texts_of old.names.texts.items ++ names)
  pub same : OnErr result ((new.actors.items ≡ old.actors.items) × (new.plan.actors.items ≡ old.plan.actors.items))
  pub same_names : OnErr result (texts_of new.names.texts.items ≡ texts_of old.names.texts.items)
  pub settings : new.plan ≡ record old.plan { actors = new.plan.actors }
  pub fit : OnOk result ((length old.actors.items + length plans ≤ 63) × (first_unfit (length old.actors.items) plans ≡ None))
  pub full : IsErrOf result (BadPlan Actors) → 63 < length old.actors.items + length plans
  pub parent : (id : ActorId) → IsErrOf result (BadPlan (Parent id)) → first_unfit (length old.actors.items) plans ≡ Some id.0
