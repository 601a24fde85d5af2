-- The text of a report, byte for byte (this project's own profile: Akka has no such report).
use Rattle.std.specs.Prelude.{ℕ, ℤ, List, [], ◌∷◌, ◌++◌, ◌+◌, codes, Option, Some, None, sum_by}
use Rattle.std.specs.List.{flat_map}
use Rattle.std.specs.Fmt.{decimal, signed_decimal}
use Rattle.mb_actor.specs.declared.phase.Phase.{Phase}
use Rattle.mb_actor.specs.declared.phase.Phase.TheVariants.{Fresh, Live, Broken, Ending, Ended}
use Rattle.mb_report.specs.Counts.{handled_of, left_of, restarts_of, dead_of}
use Rattle.mb_report.specs.declared.report.ActorReport.{ActorReport}
use Rattle.mb_report.specs.declared.report.Report.{Report}
use Rattle.mb_report.specs.declared.report.SenderReport.{SenderReport}

-- what a line says
pub record LineData : Type 0 where
  pub name : List ℕ
  pub phase : Phase
  pub state : Option ℤ
  pub suspended : ℕ
  pub handled : ℕ
  pub left : ℕ
  pub dead : ℕ
  pub restarts : ℕ

-- what the line of the actor of this number and name says
abbrev pub line_data : List SenderReport → ℕ → List ℕ → ActorReport → LineData
line_data senders id name actor = record {
  name = name;
  phase = actor.phase;
  state = actor.state;
  suspended = actor.count;
  handled = handled_of actor;
  left = left_of actor;
  dead = dead_of id senders actor;
  restarts = restarts_of actor;
}

-- the lines of the actors with these names, whose numbers count on from the first
abbrev pub lines_from : List SenderReport → ℕ → List (List ℕ) → List ActorReport → List LineData
lines_from senders id (name ∷ names) (actor ∷ actors) = line_data senders id name actor ∷ lines_from senders (id + 1) names actors
lines_from senders id _ _ = []

-- a phase as it is printed
abbrev pub phase_text : Phase → List ℕ
phase_text Fresh = codes "fresh"
phase_text Live = codes "live"
phase_text Broken = codes "broken"
phase_text Ending = codes "ending"
phase_text Ended = codes "ended"

-- a state as it is printed: its number, or a dash where there is none
abbrev pub state_text : Option ℤ → List ℕ
state_text None = codes "-"
state_text (Some number) = signed_decimal number

-- what became of envelopes, as it is printed
unfoldable pub counts_text : ℕ → ℕ → ℕ → List ℕ
counts_text handled left dead = codes " handled " ++ decimal handled ++ codes " left " ++ decimal left ++ codes " dead " ++ decimal dead

-- the phase and the state of an actor, as it is printed
unfoldable pub phase_and_state_text : List ℕ → Phase → Option ℤ → List ℕ
phase_and_state_text name phase state = name ++ codes " " ++ phase_text phase ++ codes " state " ++ state_text state

-- how many suspensions there are, and how many restarts there were
unfoldable pub suspended_text : ℕ → List ℕ
suspended_text suspended = codes " suspended " ++ decimal suspended

-- how many restarts there were, as it is printed, with the end of the line
unfoldable pub restarts_text : ℕ → List ℕ
restarts_text restarts = codes " restarts " ++ decimal restarts ++ codes "\n"

-- the line of one actor
abbrev pub line_text : LineData → List ℕ
line_text line = phase_and_state_text line.name line.phase line.state ++ suspended_text line.suspended
    ++ counts_text line.handled line.left line.dead ++ restarts_text line.restarts

-- the line of totals: handled, left and dead are sums over the actors, and sent is the sum of the three
abbrev pub totals_text : ℕ → ℕ → ℕ → List ℕ
totals_text handled left dead = codes "sent " ++ decimal (handled + left + dead) ++ counts_text handled left dead ++ codes "\n"

-- the line of totals: the sums over the lines
abbrev pub totals_of : List LineData → List ℕ
totals_of lines = totals_text (sum_by (λ (line : LineData). line.handled) lines) (sum_by (λ (line : LineData). line.left) lines)
    (sum_by (λ (line : LineData). line.dead) lines)

-- a line for each actor, in order, and then the totals
abbrev pub lines_text : List LineData → List ℕ
lines_text lines = flat_map line_text lines ++ totals_of lines

-- the whole report of the actors with these names, beside the guardian: the guardian is actor 0
abbrev pub report_text_of : List (List ℕ) → Report → List ℕ
report_text_of names report = lines_text (lines_from report.senders.items 0 (codes "guardian" ∷ names) report.actors.items)
