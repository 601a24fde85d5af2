-- What each step on a list below a lock does to what a port knows, and what it tells.
use Rattle.std.specs.Prelude.{◌≡◌, ◌≢◌, ℕ, List, [], ◌∷◌, length, drop, Option, Some, None}
use Rattle.atomic_table.specs.Table.{Me, Step, rest}
use Rattle.mb_msg.specs.declared.envelope.Envelope.{Envelope}
use Rattle.mb_queue.specs.declared.known.Known.{Known}
use Rattle.mb_queue.specs.Batches.{pushing_all, taking_all, FoundAll, AccountsBegin}
use Rattle.mb_queue.specs.Rule.{FoundEmpty}
use Rattle.mb_queue.specs.ListRule.{Envelopes, unlocked, having_locked}

-- what the list had when it was locked
abbrev pub had : Option (List Envelope) → List Envelope
had None = []
had (Some items) = items

-- what the list has now
abbrev pub has : List (ℕ × Envelopes) → List Envelope
has [] = []
has (list ∷ others) = list.1.items

-- the port has the list locked
abbrev pub HasLocked : Me Envelopes Known → Me Envelopes Known → Type 0
HasLocked me me' = (list : Envelopes) × (me' ≡ (having_locked list.items me.0, (0, list) ∷ me.1))

-- it has the list locked now, unless the list was locked: then nothing changed
abbrev pub Locks : Step Envelopes → Me Envelopes Known → ℕ → Me Envelopes Known → Type 0
Locks st me n me' = (n ≢ 1 → HasLocked me me') × (n ≡ 1 → me' ≡ me)

-- it pushed what the list has now beyond what it had
abbrev pub Unlocks : Step Envelopes → Me Envelopes Known → ℕ → Me Envelopes Known → Type 0
Unlocks st me n me' = me' ≡ (unlocked (pushing_all me.0.ledger (drop (length (had me.0.locked)) (has me.1))), rest me.1)

-- it took all that the list had
abbrev pub TakesAll : Step Envelopes → Me Envelopes Known → ℕ → Me Envelopes Known → Type 0
TakesAll st me n me' = (me' ≡ (unlocked (taking_all me.0.ledger (had me.0.locked)), rest me.1)) × FoundAll me.0.ledger (had me.0.locked)

-- nothing changed, and the fifo was empty if the word said so
abbrev pub Looks : Step Envelopes → Me Envelopes Known → ℕ → Me Envelopes Known → Type 0
Looks st me n me' = (me' ≡ me) × (n ≡ 0 → FoundEmpty me.0.ledger)

-- nothing changed, and each account that came back begins with what was taken
abbrev pub Learns : Step Envelopes → Me Envelopes Known → ℕ → Me Envelopes Known → Type 0
Learns st me n me' = (me' ≡ me) × AccountsBegin me.0.ledger
