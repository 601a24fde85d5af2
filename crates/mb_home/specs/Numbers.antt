-- The numbers of system messages: which were applied, and how often a number stands in a list.
use Rattle.std.specs.Prelude.{ℕ, ◌+◌, ◌==◌, if◌then◌else◌, List, [], ◌∷◌, map}
use Rattle.mb_msg.specs.declared.system.SysMsg.{SysMsg}
use Rattle.mb_journal.specs.Entry.{Entry}
use Rattle.mb_journal.specs.Entry.Entry.{Handled, System, Dropped}
use Rattle.mb_journal.specs.Entry.Outcome.{Applied, SetAside}

-- The numbers of the system messages that were applied, the newest first.
abbrev pub applied_numbers : List Entry → List ℕ
applied_numbers [] = []
applied_numbers (Handled envelope reading outcome ∷ before) = applied_numbers before
applied_numbers (Dropped envelope ∷ before) = applied_numbers before
applied_numbers (System number m (Applied a effects) ∷ before) = number ∷ applied_numbers before
applied_numbers (System number m SetAside ∷ before) = applied_numbers before

-- The numbers of numbered messages.
abbrev pub numbers_in : List (ℕ × SysMsg) → List ℕ
numbers_in = map (λ (x : ℕ × SysMsg). x.0)

-- How often a number stands in a list.
abbrev pub times : ℕ → List ℕ → ℕ
times n [] = 0
times n (x ∷ list) = (if x == n then 1 else 0) + times n list
