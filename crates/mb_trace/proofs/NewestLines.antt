-- The lines of the entries that are kept, of one actor more and of one entry more.
use Rattle.std.proofs.Common.{◌≡◌, ℕ, ◌+◌, ◌-◌, ◌++◌, ◌<◌, List, ap, arith, drop, get_or, length, length-drop, reverse, sym, ◌∙◌}
use Rattle.std.specs.Prelude.{Some, slice_get}
use Rattle.std.proofs.lemmas.List.{drop_more, get_or-drop, length-reverse}
use Rattle.std.proofs.lemmas.Option.{get_or_from_slice_get}
use Rattle.mb_journal.specs.Entry.{Entry}
use Rattle.mb_report.specs.declared.report.ActorReport.{ActorReport}
use Rattle.mb_trace.specs.Newest.{actor_text, all_actors_text}
use Rattle.mb_trace.specs.declared.filter.Filter.{Filter}

pub actor-next : (names : List (List ℕ)) (f : Filter) (i number : ℕ) (actors : List ActorReport) (r : ActorReport) → number ≡ i →
    i < length actors → r ≡ get_or actors i r →
    all_actors_text names f i (drop i actors) ≡ actor_text names f number r ++ all_actors_text names f (i + 1) (drop (i + 1) actors)
actor-next names f i number actors r same within is =
    ap (all_actors_text names f i) (drop_more actors i r within)
    ∙ (λ j. actor_text names f (sym same j) (sym is j) ++ all_actors_text names f (i + 1) (drop (i + 1) actors))

-- the entry that was read stands at its place among those that are kept
pub kept-at : (entries : List Entry) (first place : ℕ) (e : Entry) → slice_get (reverse entries) (first + place) ≡ Some e →
    e ≡ get_or (drop first (reverse entries)) place e
kept-at entries first place e read =
    sym (get_or_from_slice_get (reverse entries) (first + place) e e read) ∙ sym (get_or-drop first (reverse entries) place e)

-- there are as many as are kept
pub kept-length : (entries : List Entry) (first : ℕ) → length (drop first (reverse entries)) ≡ length entries - first
kept-length entries first = omega (arith, length-drop first (reverse entries), length-reverse entries)
