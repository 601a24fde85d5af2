-- The order of the entries of a run (this project's own profile: Akka keeps no journal).
use Rattle.std.specs.Prelude.{ℕ, ◌+◌, nat_lt, Bool, List, [], ◌∷◌, length, reverse, Option, Some, None}
use Rattle.std.specs.Borrow.{Bor}
use Rattle.std.specs.List.{flat_map}
use Rattle.mb_build.specs.Planned.{actors_in}
use Rattle.mb_causal_order.specs.Coming.{IsByLowest}
use Rattle.mb_causal_order.specs.Merged.{IsMerged}
use Rattle.mb_causal_order.specs.declared.place.Place.{Place}
use Rattle.mb_diagram.specs.declared.order.EntryOrder.{EntryOrder}
use Rattle.mb_diagram.specs.declared.order.EntryOrder.TheVariants.{Actors, Causes, Turns, Uncovered, Unordered}
use Rattle.mb_report.specs.declared.report.ActorReport.{ActorReport}
use Rattle.mb_trace.specs.Coverage.{CoverJournals}
use Rattle.mb_trace.specs.Steps.{Step, steps_in}
use Rattle.mb_trace.specs.Text.{Part, journal_parts, steps_at, turn_parts}
use Rattle.mb_trace.specs.declared.trace.Trace.{Trace}
use Rattle.mb_trace.specs.declared.trace.TurnLength.{TurnLength}

-- the entries of these parts, one part after another
abbrev pub all_steps : List Part → List Step
all_steps parts = flat_map (λ (p : Part). p.steps) parts

-- the entries of parts of these lengths: each part has those that follow the ones of the actor's earlier parts
abbrev pub part_steps : Trace → List TurnLength → List Step
part_steps trace parts = all_steps (turn_parts (steps_in trace) [] parts)

-- the entries of a run on threads, with the order that they are said to be in: that of all in which each journal's order is kept, causes come first,
-- and the actor of the lowest number goes first of those whose next entry may come; or actor by actor, said to be so since there is no such order only if
-- there is none
pub data HasOrder (trace : Trace) : EntryOrder → List Step → Type 0 where
  in_order : (places : List Place) → IsMerged (actors_in trace.plan.now) trace.sends.now trace.report.now.actors.items (reverse places)
      → IsByLowest (actors_in trace.plan.now) trace.sends.now trace.report.now.actors.items (reverse places)
      → HasOrder trace Causes (steps_at (steps_in trace) [] places)
  without_order : ((places : List Place) → IsMerged (actors_in trace.plan.now) trace.sends.now trace.report.now.actors.items places → ⊥)
      → HasOrder trace Unordered (all_steps (journal_parts (steps_in trace) 0 trace.report.now.actors.items))
  by_actor : HasOrder trace Actors (all_steps (journal_parts (steps_in trace) 0 trace.report.now.actors.items))

-- the entries of a quiet run, with the order that they are said to be in: turn by turn exactly if these turns have each entry of each journal once, else
-- actor by actor
pub data HasTurnOrder (trace : Trace) (turns : List TurnLength) : EntryOrder → List Step → Type 0 where
  by_turn : CoverJournals turns trace.report.now.actors.items → HasTurnOrder trace turns Turns (part_steps trace turns)
  by_actor : (CoverJournals turns trace.report.now.actors.items → ⊥)
      → HasTurnOrder trace turns Uncovered (all_steps (journal_parts (steps_in trace) 0 trace.report.now.actors.items))

-- these are the entries of the run, in the order of its text, which is said: of a quiet run by its turns, which a run on threads does not have
abbrev pub AreEntries : Trace → Option (Bor (List TurnLength)) → EntryOrder → List Step → Type 0
AreEntries trace (Some turns) order steps = HasTurnOrder trace turns.now order steps
AreEntries trace None order steps = HasOrder trace order steps

-- the place is of one of this many actors
abbrev pub is_among : ℕ → Place → Bool
is_among actors p = nat_lt p.actor actors

-- a place as a part: one entry of its actor
abbrev pub single : Place → TurnLength
single p = record { actor = record { 0 = p.actor }; entries = 1 }

-- the journals of these actors, numbered on from this one, each as a part with all of its entries
abbrev pub journal_lengths : ℕ → List ActorReport → List TurnLength
journal_lengths a [] = []
journal_lengths a (r ∷ reported) =
    record { actor = record { 0 = a }; entries = length r.journal.entries } ∷ journal_lengths (a + 1) reported
