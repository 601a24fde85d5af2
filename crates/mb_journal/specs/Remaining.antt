-- What remains of what was added, in order.
use Rattle.std.specs.Prelude.{ℕ, ◌==◌, Bool, false, not, List, [], ◌∷◌, ◌++◌, filter}
use Rattle.std.specs.List.{list_any}
use Rattle.mb_msg.specs.declared.system.SysMsg.{SysMsg}
use Rattle.mb_journal.specs.Entry.{Entry}
use Rattle.mb_journal.specs.Entry.Entry.{System}
use Rattle.mb_journal.specs.Entry.Outcome.{Applied, SetAside}

-- what these entries or events add, the earliest first, without what a later one takes away. The newest is the first in
-- the list, and `later` are those after them all; what one adds may depend on those before it
abbrev pub remaining : {A B : Type 0} → (A → List A → List B) → (B → A → Bool) → List A → List A → List B
remaining adds takes later [] = []
remaining adds takes later (a ∷ before) =
    remaining adds takes (a ∷ later) before ++ filter (λ b. not (list_any (takes b) later)) (adds a before)

-- the message, with its number, that the entry sets aside
abbrev pub set_aside_by : Entry → List (ℕ × SysMsg)
set_aside_by (System number message SetAside) = (number, message) ∷ []
set_aside_by _ = []

-- the entry applies the message of this number
abbrev pub applies_number : ℕ → Entry → Bool
applies_number n (System number message (Applied answer effects)) = n == number
applies_number n _ = false

-- all messages that the entries set aside, with their numbers, in order
abbrev pub all_set_aside : List Entry → List (ℕ × SysMsg)
all_set_aside [] = []
all_set_aside (e ∷ before) = all_set_aside before ++ set_aside_by e

-- an entry applies the message of this number
abbrev pub was_applied : List Entry → ℕ → Bool
was_applied journal number = list_any (applies_number number) journal
