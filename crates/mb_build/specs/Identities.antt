-- Who the actors of a plan are (`akka.actor.ActorContext`: parent and children; that children are planned is this project's own profile).
use Rattle.std.specs.Prelude.{◌≡◌, ℕ, ◌+◌, ◌<◌, ◌≤◌, ◌==◌, if◌then◌else◌, List, [], ◌∷◌, IfSome, Some, None, negsuc, false}
use Rattle.mb_msg.specs.JournalMode.{retention_of}
use Rattle.mb_msg.specs.Limits.{most_entries}
use Rattle.mb_msg.specs.declared.id.ActorId.{ActorId}
use Rattle.mb_msg.specs.declared.journal_mode.JournalMode.{JournalMode}
use Rattle.mb_msg.specs.declared.strategy.Strategy.{Strategy}
use Rattle.mb_journal.specs.Identity.{Identity, is_guardian}
use Rattle.mb_ghost.specs.Seen.{Each}

-- The identity of this number.
abbrev pub id : ℕ → ActorId
id number = record { 0 = number }

-- Of the actors with these parents, numbered on from this one, those whose parent has this number.
abbrev pub children_from : ℕ → ℕ → List ActorId → List ActorId
children_from number parent [] = []
children_from number parent (p ∷ parents) =
    if p.0 == parent then id number ∷ children_from (number + 1) parent parents else children_from (number + 1) parent parents

-- The guardian of so many actors. It has no rows of a strategy, so the default decider decides.
abbrev pub guardian : ℕ → JournalMode → ℕ → List ActorId → Identity
guardian actors mode limit parents = record {
  this = id 0;
  parent = None;
  actors = actors;
  prepared = children_from 1 0 parents;
  strategy = [];
  retries = negsuc 0;
  all_for_one = false;
  limit = limit;
  retention = retention_of mode;
}

-- The actor of this number, parent and strategy.
abbrev pub planned : ℕ → JournalMode → ℕ → List ActorId → ℕ → ActorId → Strategy → Identity
planned actors mode limit parents number parent strategy = record {
  this = id number;
  parent = Some parent;
  actors = actors;
  prepared = children_from 1 number parents;
  strategy = strategy.rows.items;
  retries = strategy.retries;
  all_for_one = strategy.all_for_one;
  limit = limit;
  retention = retention_of mode;
}

-- The actors of these parents and strategies, numbered on from this one.
abbrev pub planned_from : ℕ → JournalMode → ℕ → List ActorId → ℕ → List ActorId → List Strategy → List Identity
planned_from actors mode limit all number (p ∷ parents) (s ∷ strategies) =
    planned actors mode limit all number p s ∷ planned_from actors mode limit all (number + 1) parents strategies
planned_from actors mode limit all number _ _ = []

-- The guardian and all actors.
abbrev pub identities : ℕ → JournalMode → ℕ → List ActorId → List Strategy → List Identity
identities actors mode limit parents strategies = guardian actors mode limit parents ∷ planned_from actors mode limit parents 1 parents strategies

-- The actor of this number among so many: number 0 is the guardian, the parent and the children are among them, and the limit of the journal is
-- one that a plan may have.
pub record IsPlanned (actors number : ℕ) (who : Identity) : Type 0 where
  pub this : who.this ≡ id number
  pub actors_are : who.actors ≡ actors
  pub guardian_is : is_guardian who ≡ (number == 0)
  pub parent : IfSome who.parent (λ p. p.0 < actors)
  pub prepared : Each (λ (x : ActorId). x.0 < actors) who.prepared
  pub within_limit : who.limit ≤ most_entries

-- Each of these is an actor of its number; they are numbered on from this one.
abbrev pub ArePlanned : ℕ → ℕ → List Identity → Type 0
ArePlanned actors number [] = Unit {0}
ArePlanned actors number (who ∷ all) = IsPlanned actors number who × ArePlanned actors (number + 1) all
