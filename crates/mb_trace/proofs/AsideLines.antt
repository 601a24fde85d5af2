-- The lines of system messages that are set aside, of one actor more.
use Rattle.std.proofs.Common.{◌≡◌, ℕ, ◌+◌, ◌++◌, ◌<◌, List, ap, drop, get_or, length, sym, ◌∙◌}
use Rattle.std.proofs.lemmas.List.{drop_more}
use Rattle.mb_report.specs.declared.report.ActorReport.{ActorReport}
use Rattle.mb_trace.specs.Undelivered.{all_aside_text, set_aside_text}
use Rattle.mb_trace.specs.declared.filter.Filter.{Filter}

pub aside-next : (names : List (List ℕ)) (f : Filter) (i number : ℕ) (actors : List ActorReport) (r : ActorReport) → number ≡ i →
    i < length actors → r ≡ get_or actors i r →
    all_aside_text names f i (drop i actors) ≡ set_aside_text names f number r ++ all_aside_text names f (i + 1) (drop (i + 1) actors)
aside-next names f i number actors r same within is =
    ap (all_aside_text names f i) (drop_more actors i r within)
    ∙ (λ j. set_aside_text names f (sym same j) (sym is j) ++ all_aside_text names f (i + 1) (drop (i + 1) actors))
