-- What the passes of a list below a lock know.
use Rattle.std.specs.Prelude.{◌≡◌, []}
use Rattle.atomic_table.specs.Seated.{TableId}
use Rattle.atomic_table.specs.declared.shared.Seat.{Seat}
use Rattle.mb_queue.specs.declared.known.Known.{Known}
use Rattle.mb_queue.specs.declared.ledger.Ledger.{Ledger}
use Rattle.mb_queue.specs.ListRule.{Envelopes, unlocked}

-- what a pass knows of its fifo
abbrev pub knows : Seat Envelopes Known → Ledger
knows pass = pass.me.0.ledger

-- the pass is of this list, and does not have it locked
abbrev pub IsPassOfList : TableId → Seat Envelopes Known → Type 0
IsPassOfList list pass = (pass.table_id ≡ list) × (pass.me ≡ (unlocked (knows pass), []))
