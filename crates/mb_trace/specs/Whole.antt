-- The whole text of a trace (this project's own profile).
use Rattle.std.specs.Prelude.{◌≡◌, List, [], ◌++◌, ℕ, codes, map, reverse, string_bytes, Option, Some, None}
use Rattle.std.specs.Borrow.{Bor}
use Rattle.mb_build.specs.Planned.{actors_in}
use Rattle.mb_causal_order.specs.Coming.{IsByLowest}
use Rattle.mb_causal_order.specs.Merged.{IsMerged}
use Rattle.mb_causal_order.specs.declared.place.Place.{Place}
use Rattle.mb_trace.specs.Coverage.{CoverJournals}
use Rattle.mb_trace.specs.Undelivered.{rest_text}
use Rattle.mb_trace.specs.Steps.{steps_in}
use Rattle.mb_trace.specs.Text.{journal_parts, parts_text, runs_text, shown, steps_at, turn_parts}
use Rattle.mb_trace.specs.declared.filter.Filter.{Filter}
use Rattle.mb_trace.specs.declared.trace.Trace.{Trace}
use Rattle.mb_trace.specs.declared.trace.TurnLength.{TurnLength}

-- the names of the actors beside the guardian
abbrev pub names_in : Trace → List (List ℕ)
names_in trace = map string_bytes trace.names.now

-- the entries of a quiet run, turn by turn
abbrev pub turns_text : Trace → Filter → List TurnLength → List ℕ
turns_text trace f turns = parts_text (names_in trace) (codes "turn") f f.limit (turn_parts (steps_in trace) [] turns)

-- the entries of a run on threads at these places, one after another
abbrev pub order_text : Trace → Filter → List Place → List ℕ
order_text trace f places =
    codes "on threads: one order that agrees with what caused what, not that of the clock\n"
    ++ runs_text (names_in trace) None (shown f f.limit (steps_at (steps_in trace) [] places))

-- the entries actor by actor, below a line that says why
abbrev pub journals_text : Trace → Filter → List ℕ → List ℕ
journals_text trace f why =
    why ++ parts_text (names_in trace) (codes "actor") f f.limit (journal_parts (steps_in trace) 0 trace.report.now.actors.items)

-- of a run on threads there is no order
abbrev pub not_ordered : List ℕ
not_ordered = codes "on threads: there is no order that agrees with what caused what; each actor by itself, in the order of its journal\n"

-- of a run on threads no order was found
abbrev pub not_found : List ℕ
not_found = codes "on threads: no order found that agrees with what caused what; each actor by itself, in the order of its journal\n"

-- the turns of a quiet run do not cover the journals
abbrev pub not_covered : List ℕ
not_covered = codes "quiet run: its turns do not have each entry exactly once; each actor by itself, in the order of its journal\n"

-- the text has the entries of a quiet run: turn by turn exactly if these turns have each entry of each journal once, else actor by actor
pub data HasTurns (trace : Trace) (f : Filter) (turns : List TurnLength) : List ℕ → Type 0 where
  by_turn : CoverJournals turns trace.report.now.actors.items → HasTurns trace f turns (turns_text trace f turns)
  by_actor : (CoverJournals turns trace.report.now.actors.items → ⊥) → HasTurns trace f turns (journals_text trace f not_covered)

-- the text has the entries of a run on threads: in the order of all in which each journal's order is kept, causes come first, and the actor of the
-- lowest number goes first of those whose next entry may come; or actor by actor, below a line that says that there is no order only if there is none
pub data HasEntries (trace : Trace) (f : Filter) : List ℕ → Type 0 where
  in_order : (places : List Place) → IsMerged (actors_in trace.plan.now) trace.sends.now trace.report.now.actors.items (reverse places)
      → IsByLowest (actors_in trace.plan.now) trace.sends.now trace.report.now.actors.items (reverse places)
      → HasEntries trace f (order_text trace f places)
  without_order : ((places : List Place) → IsMerged (actors_in trace.plan.now) trace.sends.now trace.report.now.actors.items places → ⊥)
      → HasEntries trace f (journals_text trace f not_ordered)
  by_actor : HasEntries trace f (journals_text trace f not_found)

-- the text has the entries of the run: of a quiet run by its turns, which a run on threads does not have
abbrev pub IsOfEntries : Trace → Filter → Option (Bor (List TurnLength)) → List ℕ → Type 0
IsOfEntries trace f (Some turns) text = HasTurns trace f turns.now text
IsOfEntries trace f None text = HasEntries trace f text

-- the text of the trace: that of its entries, and then what stands at the end
pub record IsText (trace : Trace) (f : Filter) (text : List ℕ) : Type 0 where
  pub entries : List ℕ
  pub are_entries : IsOfEntries trace f trace.turns entries
  pub text_is : text ≡ entries ++ rest_text (names_in trace) f trace.report.now
