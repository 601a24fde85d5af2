-- Who the actor of a cell is.
use Rattle.std.specs.Prelude.{ℕ, false}
use Rattle.mb_msg.specs.JournalMode.{Retention}
use Rattle.mb_journal.specs.Identity.{Identity}
use Rattle.mb_supervision.specs.declared.identity.ActorIdentity.{ActorIdentity}

-- the identity of an actor whose journal may have `limit` entries and keeps so much of them
abbrev pub identity_of : ActorIdentity → ℕ → Retention → Identity
identity_of place limit retention = record {
  this = place.this;
  parent = place.parent;
  actors = place.actors;
  prepared = place.prepared.items;
  strategy = place.strategy.rows.items;
  retries = place.strategy.retries;
  all_for_one = place.strategy.all_for_one;
  limit = limit;
  retention = retention;
}

-- the same with no word on the journal, on which no change of a cell's state depends
abbrev pub identity_at : ActorIdentity → Identity
identity_at place = identity_of place 0 (record { keeps_all = false; last = 0 })
