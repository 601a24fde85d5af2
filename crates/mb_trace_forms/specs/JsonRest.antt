-- The lines of JSON of what stands at the end of a trace: dead letters, what is left, and what is set aside (this project's own profile).
use Rattle.std.specs.Prelude.{ℕ, ◌+◌, List, [], ◌∷◌, ◌++◌, if◌then◌else◌}
use Rattle.std.specs.List.{flat_map}
use Rattle.mb_msg.specs.declared.dead_letter.DeadLetter.{DeadLetter}
use Rattle.mb_msg.specs.declared.envelope.Envelope.{Envelope}
use Rattle.mb_msg.specs.declared.system.SysMsg.{SysMsg}
use Rattle.mb_report.specs.declared.report.ActorReport.{ActorReport}
use Rattle.mb_report.specs.declared.report.Report.{Report}
use Rattle.mb_trace.specs.Undelivered.{shows_envelopes, shows_system_messages, where_shown}
use Rattle.mb_trace.specs.declared.filter.Filter.{Filter}
use Rattle.mb_trace_json.specs.Lines.{line_text}
use Rattle.mb_trace_json.specs.Undelivered.{aside_data, left_data, letter_data}
use Rattle.mb_trace_forms.specs.Letters.{letters_in}

-- the line of a dead letter
abbrev pub letter_json : List (List ℕ) → DeadLetter → List ℕ
letter_json names d = line_text (letter_data names d)

-- the line of an envelope that is left, where its receiver is shown
abbrev pub left_json : List (List ℕ) → Filter → Envelope → List ℕ
left_json names f e = where_shown f e.to.0 (line_text (left_data names e))

-- those of the envelopes that are left in an actor's queue
abbrev pub queued_json : List (List ℕ) → Filter → ActorReport → List ℕ
queued_json names f reported = flat_map (left_json names f) reported.left.items

-- the line of a system message that is set aside at the actor of this number
abbrev pub aside_json : List (List ℕ) → ℕ → ℕ × SysMsg → List ℕ
aside_json names actor m = line_text (aside_data names actor m.0 m.1)

-- those of the system messages that are set aside at these actors, numbered on from this one, where the actor is shown
abbrev pub all_aside_json : List (List ℕ) → Filter → ℕ → List ActorReport → List ℕ
all_aside_json names f actor [] = []
all_aside_json names f actor (r ∷ reported) =
    where_shown f actor (flat_map (aside_json names actor) r.aside.items) ++ all_aside_json names f (actor + 1) reported

-- the lines of the envelopes that are left in queues
abbrev pub all_left_json : List (List ℕ) → Filter → List ActorReport → List ℕ
all_left_json names f reported = if shows_envelopes f.only then flat_map (queued_json names f) reported else []

-- those of the system messages that are set aside
abbrev pub set_aside_json : List (List ℕ) → Filter → List ActorReport → List ℕ
set_aside_json names f reported = if shows_system_messages f.only then all_aside_json names f 0 reported else []

-- all of them: dead letters, what is left, and what is set aside
abbrev pub rest_json : List (List ℕ) → Filter → Report → List ℕ
rest_json names f report =
    flat_map (letter_json names) (letters_in f report)
    ++ (all_left_json names f report.actors.items ++ set_aside_json names f report.actors.items)
