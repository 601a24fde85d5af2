-- The text of the lines that were written so far, and of all of them.
use Rattle.std.proofs.Common.{◌≡◌, ℕ, ◌+◌, ◌<◌, ◌≤◌, List, [], ◌∷◌, ◌++◌, length, get_or, map, take, drop, refl, sym}
use Rattle.std.proofs.Common.{ap, ◌∙◌}
use Rattle.std.proofs.lemmas.List.{take_more, flat_map_more, take_all, drop_more}
use Rattle.std.proofs.lemmas.List.Folds.{flat_map-map}
use Rattle.std.specs.List.{flat_map}
use Rattle.mb_report.specs.Kept.{kept}
use Rattle.mb_report.specs.Lines.{line_text, line_data, lines_from, totals_of, lines_text}
use Rattle.mb_report.specs.declared.line.Line.{Line}
use Rattle.mb_report.specs.declared.report.ActorReport.{ActorReport}
use Rattle.mb_report.specs.declared.report.SenderReport.{SenderReport}

-- the line as it is written
abbrev pub written : Line → List ℕ
written line = line_text (kept line)

pub lines_so_far : (lines : List Line) (i : ℕ) (line : Line) → i < length lines → line ≡ get_or lines i line
    → flat_map written (take i lines) ++ written line ≡ flat_map written (take (i + 1) lines)
lines_so_far lines i line lt at =
    flat_map_more written [] (take i lines) line ∙ sym (ap (flat_map written) (rw (take_more lines i line lt, ← at) refl))

pub lines_all : (shown lines : List Line) (i : ℕ) → shown ≡ lines → length shown ≤ i
    → flat_map written (take i shown) ++ totals_of (map kept lines) ≡ lines_text (map kept lines)
lines_all shown lines i same le = rw (take_all i shown le, same, flat_map-map line_text kept lines) refl

-- the lines from an actor on are its line and those after it
pub lines_from-next : (senders : List SenderReport) (i : ℕ) (names : List (List ℕ)) (actors : List ActorReport) (n : List ℕ) (a : ActorReport)
    → i < length names → i < length actors
    → lines_from senders i (drop i names) (drop i actors)
    ≡ line_data senders i (get_or names i n) (get_or actors i a) ∷ lines_from senders (i + 1) (drop (i + 1) names) (drop (i + 1) actors)
lines_from-next senders i names actors n a below_names below_actors = rw (drop_more names i n below_names, drop_more actors i a below_actors) refl
