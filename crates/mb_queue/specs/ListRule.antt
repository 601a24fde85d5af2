-- The rule of a list of envelopes below a lock: what holds between any two steps of any threads. Its word is 0 where the list is
-- empty, 1 while a port has it locked, and else 2.
use Rattle.std.specs.Prelude.{◌≡◌, ◌≢◌, ℕ, ◌<◌, List, [], length, map, Some, None, slice_index}
use Rattle.std.specs.Global.{Vec}
use mathlib.Core.Option.{some}
use lib.ListN.{get_elem?}
use Rattle.atomic_table.specs.Table.{State}
use Rattle.mb_msg.specs.declared.envelope.Envelope.{Envelope}
use Rattle.mb_queue.specs.declared.known.Known.{Known}
use Rattle.mb_queue.specs.declared.ledger.Ledger.{Ledger}
use Rattle.mb_queue.specs.Rule.{FifoHolds}

-- the list itself
abbrev pub Envelopes : Type 0
Envelopes = Vec Envelope

abbrev pub ledger_of : Known → Ledger
ledger_of v = v.ledger

-- what a port knows that has the list not locked
abbrev pub unlocked : Ledger → Known
unlocked ledger = record { ledger = ledger; locked = None }

-- what the same port knows once it has locked the list, which had these envelopes
abbrev pub having_locked : List Envelope → Known → Known
having_locked items v = record v { locked = Some items }

-- the list is in its place, and has these envelopes
abbrev pub Lies : State Envelopes Known → List Envelope → Type 0
Lies s items = (list : Envelopes) × (get_elem? s.homes 0 ≡ some (some list)) × (list.items ≡ items)

-- The rule. While the list is locked it is out with one port, which knows what it had; else it is in its place. What it has is
-- what the fifo holds.
pub record ListHolds (s : State Envelopes Known) : Type 0 where
  pub items : List Envelope
  pub locker : ℕ
  pub fifo : FifoHolds items (map ledger_of s.views)
  pub word : 0 < length s.words
  pub free : slice_index s.words 0 ≢ 1 → Lies s items
  pub empty : slice_index s.words 0 ≡ 0 → items ≡ []
  pub locked : (port : ℕ) (v : Known) (had : List Envelope) → get_elem? s.views port ≡ some v → v.locked ≡ Some had
      → (port ≡ locker) × (slice_index s.words 0 ≡ 1) × (had ≡ items)
