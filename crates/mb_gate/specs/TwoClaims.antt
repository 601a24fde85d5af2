-- How the gates find that two claims of one actor can't be (this project's own profile).
use Rattle.std.specs.Prelude.{ℕ}
use Rattle.atomic_table.specs.Table.{Me, Step}
use Rattle.mb_gate.specs.declared.slot.Slot.{Slot}
use Rattle.mb_gate.specs.View.{View, blank, writing}

-- What is left of a view that went to another seat as a whole.
abbrev pub moved_out : View → View
moved_out v = blank

-- The view that went to another seat.
abbrev pub moved_in : View → View
moved_in v = v

-- The view of a seat that took in a second claim of its own actor: its claim knows a status word that no mailbox has. No state between two steps has
-- two such seats, so this view is never reached.
abbrev pub twice_claimed : View → View → View
twice_claimed v w = writing 3 v

-- What a seat knows after a load that no state allows.
abbrev pub NeverHappens : {H : Type 0} → Step (Slot H) → Me (Slot H) View → ℕ → Me (Slot H) View → Type 0
NeverHappens st m found m' = ⊥
