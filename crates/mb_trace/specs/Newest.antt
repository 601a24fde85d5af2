-- The newest entries of each actor, where the journals do not keep all (this project's own profile: Akka keeps no journal).
use Rattle.std.specs.Prelude.{ℕ, ◌+◌, ◌==◌, if◌then◌else◌, List, [], ◌∷◌, ◌++◌, codes, drop, reverse}
use Rattle.std.specs.List.{flat_map}
use Rattle.std.specs.Fmt.{decimal}
use Rattle.mb_journal.specs.Entry.{Entry, outcome_effects, outcome_of}
use Rattle.mb_journal.specs.JournalView.{JournalView, first_kept}
use Rattle.mb_report.specs.declared.report.ActorReport.{ActorReport}
use Rattle.mb_report.specs.declared.report.Report.{Report}
use Rattle.mb_trace.specs.Entries.{arrival_text, effect_lines_text}
use Rattle.mb_trace.specs.Filter.{is_of_kind}
use Rattle.mb_trace.specs.GoneLetters.{gone_dead_letters_text}
use Rattle.mb_trace.specs.Undelivered.{readable_rest_text, where_shown}
use Rattle.mb_trace.specs.Text.{title_text}
use Rattle.mb_trace.specs.declared.filter.EntryKinds.{EntryKinds}
use Rattle.mb_trace.specs.declared.filter.Filter.{Filter}

-- the lines of an entry: what came, what became of it, and the effects. How the actor stands after it is not told, since what came before is not
-- kept
abbrev pub lines_text : List (List ℕ) → Entry → List ℕ
lines_text names e = codes "  " ++ arrival_text names e ++ codes "\n" ++ effect_lines_text names (outcome_effects (outcome_of e))

-- the same, if the entry is of these kinds
abbrev pub entry_text : List (List ℕ) → EntryKinds → Entry → List ℕ
entry_text names only e = if is_of_kind only e then lines_text names e else []

-- the line that says how many entries are not kept
abbrev pub gone_line_text : ℕ → List ℕ
gone_line_text number = codes "  entries before, not kept: " ++ decimal number ++ codes "\n"

-- it, if there are any
abbrev pub gone_text : ℕ → List ℕ
gone_text number = if number == 0 then [] else gone_line_text number

-- the entries of these kinds that a journal keeps: each from the first that is kept on
abbrev pub kept_text : List (List ℕ) → EntryKinds → JournalView → List ℕ
kept_text names only journal = flat_map (entry_text names only) (drop (first_kept journal) (reverse journal.entries))

-- those of the journal of the actor of this number, below its name and how many entries are not kept
abbrev pub journal_text : List (List ℕ) → EntryKinds → ℕ → JournalView → List ℕ
journal_text names only actor journal =
    title_text names (codes "actor") actor ++ gone_text (first_kept journal) ++ kept_text names only journal

-- those of the actor of this number, where it is shown
abbrev pub actor_text : List (List ℕ) → Filter → ℕ → ActorReport → List ℕ
actor_text names f actor reported = where_shown f actor (journal_text names f.only actor reported.journal)

-- those of these actors, numbered on from this one
abbrev pub all_actors_text : List (List ℕ) → Filter → ℕ → List ActorReport → List ℕ
all_actors_text names f actor [] = []
all_actors_text names f actor (r ∷ reported) = actor_text names f actor r ++ all_actors_text names f (actor + 1) reported

-- the newest entries of each actor, then how many dead letters are not kept, and then what of the end can be read
abbrev pub newest_text : List (List ℕ) → Filter → Report → List ℕ
newest_text names f report =
    codes "newest entries: each actor by itself, in the order of its journal\n" ++ all_actors_text names f 0 report.actors.items
    ++ gone_dead_letters_text names f report ++ readable_rest_text names f report
