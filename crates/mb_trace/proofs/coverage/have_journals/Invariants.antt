use Rattle.std.proofs.Common.{◌≡◌, ℕ, ◌<◌, length}
use Rattle.mb_causal_order.specs.Places.{journal_of}
use Rattle.mb_trace.specs.Text.{entries_in}
use Rattle.mb_trace.proofs.coverage.have_journals.Given as goal

-- the turns have the entries of the actors so far
abbrev pub invariant-loop-number : goal.invariant-loop-number
invariant-loop-number l = (a : ℕ) → a < l.number → entries_in a l.turns ≡ length (journal_of l.actors a)
