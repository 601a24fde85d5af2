-- The lines of dead letters that are not kept, of one sender more and of one actor more.
use Rattle.std.proofs.Common.{◌≡◌, ℕ, ◌+◌, ◌++◌, ◌<◌, List, ap, drop, get_or, length, sym, ◌∙◌}
use Rattle.std.proofs.lemmas.List.{drop_more}
use Rattle.mb_report.specs.declared.report.ActorReport.{ActorReport}
use Rattle.mb_report.specs.declared.report.SenderReport.{SenderReport}
use Rattle.mb_trace.specs.GoneLetters.{actor_gone_text, all_gone_cleaned_text, all_gone_letters_text, gone, gone_letters_text, sender_at, sender_gone_text}
use Rattle.mb_trace.specs.declared.filter.Filter.{Filter}

pub sender-next : (names : List (List ℕ)) (actors i by : ℕ) (senders : List SenderReport) (s : SenderReport) → by ≡ sender_at actors i →
    i < length senders → s ≡ get_or senders i s →
    all_gone_letters_text names actors i (drop i senders)
    ≡ gone_letters_text names by (gone s.dead) ++ all_gone_letters_text names actors (i + 1) (drop (i + 1) senders)
sender-next names actors i by senders s same within is =
    ap (all_gone_letters_text names actors i) (drop_more senders i s within)
    ∙ (λ j. gone_letters_text names (sym same j) (gone (sym is j).dead) ++ all_gone_letters_text names actors (i + 1) (drop (i + 1) senders))

pub actor-next : (names : List (List ℕ)) (f : Filter) (i number : ℕ) (actors : List ActorReport) (r : ActorReport) → number ≡ i →
    i < length actors → r ≡ get_or actors i r →
    all_gone_cleaned_text names f i (drop i actors) ≡ actor_gone_text names f number r ++ all_gone_cleaned_text names f (i + 1) (drop (i + 1) actors)
actor-next names f i number actors r same within is =
    ap (all_gone_cleaned_text names f i) (drop_more actors i r within)
    ∙ (λ j. actor_gone_text names f (sym same j) (sym is j) ++ all_gone_cleaned_text names f (i + 1) (drop (i + 1) actors))
