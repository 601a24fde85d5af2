-- The lines of system messages that are set aside, of one actor more.
use Rattle.std.proofs.Common.{◌≡◌, ℕ, ◌+◌, ◌++◌, ◌<◌, List, ap, drop, get_or, length, sym, ◌∙◌}
use Rattle.std.specs.List.{flat_map}
use Rattle.std.proofs.lemmas.List.{drop_more}
use Rattle.mb_report.specs.declared.report.ActorReport.{ActorReport}
use Rattle.mb_trace.specs.Undelivered.{where_shown}
use Rattle.mb_trace.specs.declared.filter.Filter.{Filter}
use Rattle.mb_trace_forms.specs.JsonRest.{all_aside_json, aside_json}

pub aside-next : (names : List (List ℕ)) (f : Filter) (i number : ℕ) (actors : List ActorReport) (r : ActorReport) → number ≡ i →
    i < length actors → r ≡ get_or actors i r →
    all_aside_json names f i (drop i actors)
    ≡ where_shown f number (flat_map (aside_json names number) r.aside.items) ++ all_aside_json names f (i + 1) (drop (i + 1) actors)
aside-next names f i number actors r same within is =
    ap (all_aside_json names f i) (drop_more actors i r within)
    ∙ (λ j. where_shown f (sym same j) (flat_map (aside_json names (sym same j)) (sym is j).aside.items)
    ++ all_aside_json names f (i + 1) (drop (i + 1) actors))
