-- The text of a trace (this project's own profile: Akka keeps no journal).
use Rattle.std.specs.Prelude.{ℕ, ◌+◌, ◌-◌, ◌==◌, if◌then◌else◌, Bool, false, List, [], ◌∷◌, ◌++◌, codes, drop, filter, length, sum_by, take}
use Rattle.std.specs.Prelude.{Option, Some, None, option_to_list, slice_get}
use Rattle.std.specs.List.{flat_map}
use Rattle.mb_causal_order.specs.Places.{entries_placed}
use Rattle.mb_causal_order.specs.declared.place.Place.{Place}
use Rattle.mb_report.specs.declared.report.ActorReport.{ActorReport}
use Rattle.mb_trace.specs.Entries.{entry_text}
use Rattle.mb_trace.specs.Filter.{shows}
use Rattle.mb_trace.specs.Steps.{Step}
use Rattle.mb_trace.specs.Words.{name_of}
use Rattle.mb_trace.specs.declared.filter.Filter.{Filter}
use Rattle.mb_trace.specs.declared.trace.TurnLength.{TurnLength}

-- the line above the entries of the actor of this number: a word, and its name
abbrev pub title_text : List (List ℕ) → List ℕ → ℕ → List ℕ
title_text names word actor = word ++ codes " " ++ name_of names actor ++ codes "\n"

-- the lines of an entry
abbrev pub step_text : List (List ℕ) → Step → List ℕ
step_text names s = entry_text names s.before s.after s.entry

-- the filter leaves the entry, as far as its limit allows it
abbrev pub is_shown : Filter → Step → Bool
is_shown filter s = shows filter s.actor s.entry

-- of these entries those that the filter leaves, and of these the first, up to this many
abbrev pub shown : Filter → ℕ → List Step → List Step
shown f limit steps = take limit (filter (is_shown f) steps)

-- entries of one actor, one after another in its journal
pub record Part : Type 0 where
  pub actor : ℕ
  pub steps : List Step

-- the lines of these entries of an actor below its name; nothing where there are none
abbrev pub titled : List (List ℕ) → List ℕ → ℕ → List Step → List ℕ
titled names word actor [] = []
titled names word actor (s ∷ steps) = title_text names word actor ++ flat_map (step_text names) (s ∷ steps)

-- the lines of these parts, of whose entries at most so many are shown
abbrev pub parts_text : List (List ℕ) → List ℕ → Filter → ℕ → List Part → List ℕ
parts_text names word f limit [] = []
parts_text names word f limit (p ∷ parts) =
    titled names word p.actor (shown f limit p.steps)
    ++ parts_text names word f (limit - length (filter (is_shown f) p.steps)) parts

-- how many entries these turns of the actor of this number have
abbrev pub entries_in : ℕ → List TurnLength → ℕ
entries_in actor turns = sum_by (λ (t : TurnLength). if actor == t.actor.0 then t.entries else 0) turns

-- the turns as parts, behind these earlier turns: each has the entries that follow those of the actor's earlier turns
abbrev pub turn_parts : (ℕ → List Step) → List TurnLength → List TurnLength → List Part
turn_parts steps earlier [] = []
turn_parts steps earlier (t ∷ turns) =
    record { actor = t.actor.0; steps = take t.entries (drop (entries_in t.actor.0 earlier) (steps t.actor.0)) }
    ∷ turn_parts steps (earlier ++ t ∷ []) turns

-- the journals of these actors, numbered on from this one, each as a part
abbrev pub journal_parts : (ℕ → List Step) → ℕ → List ActorReport → List Part
journal_parts steps a [] = []
journal_parts steps a (r ∷ reported) = record { actor = a; steps = steps a } ∷ journal_parts steps (a + 1) reported

-- the entries of the parts of the actor of this number, in the order of the parts
abbrev pub joined : ℕ → List Part → List Step
joined actor parts = flat_map (λ (p : Part). if actor == p.actor then p.steps else []) parts

-- of these entries those of the actor of this number, in their order
abbrev pub of_actor : ℕ → List Step → List Step
of_actor actor steps = filter (λ (s : Step). s.actor == actor) steps

-- the actor's name stands above already
abbrev pub is_above : Option ℕ → ℕ → Bool
is_above None actor = false
is_above (Some above) actor = above == actor

-- the lines of these entries, each below the name of its actor, which stands once above those that follow one another; the name that
-- stands above them, if there is one, is that of this actor
abbrev pub runs_text : List (List ℕ) → Option ℕ → List Step → List ℕ
runs_text names above [] = []
runs_text names above (s ∷ steps) =
    (if is_above above s.actor then [] else title_text names (codes "actor") s.actor)
    ++ step_text names s ++ runs_text names (Some s.actor) steps

-- the entries in the order of these places, behind those before, of which the last is first: at each the next of its actor's
abbrev pub steps_at : (ℕ → List Step) → List Place → List Place → List Step
steps_at steps before [] = []
steps_at steps before (p ∷ places) =
    option_to_list (slice_get (steps p.actor) (entries_placed p.actor before)) ++ steps_at steps (p ∷ before) places
