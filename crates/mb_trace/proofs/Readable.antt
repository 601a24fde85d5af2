-- What can be read of the lists of a report.
use Rattle.std.proofs.Common.{◌≡◌, ◌++◌, Bool, List, ℕ, [], ◌∷◌, ap, false, refl, true}
use Rattle.std.specs.Prelude.{All, if◌then◌else◌}
use Rattle.std.specs.List.{flat_map}
use Rattle.std.proofs.lemmas.List.Elements.{All-head, All-tail}
use Rattle.mb_dead_letters.specs.KeptListView.{KeptListView}
use Rattle.mb_report.specs.Keeps.{KeepsAllIf}
use Rattle.mb_report.specs.declared.report.ActorReport.{ActorReport}
use Rattle.mb_report.specs.declared.report.Report.{Report}
use Rattle.mb_report.specs.declared.report.SenderReport.{SenderReport}
use Rattle.mb_trace.specs.Undelivered.{
  all_aside_text,
  all_cleaned,
  all_letters,
  cleaned_text,
  letters_text,
  queued_text,
  readable,
  readable_cleaned,
  readable_letters,
  readable_rest_text,
  rest_text,
  shows_envelopes,
  shows_system_messages,
}
use Rattle.mb_trace.specs.declared.filter.Filter.{Filter}

-- what a list keeps is what can be read of it
pub readable-kept : {T : Type 0} (list : KeptListView T) → (list.retention.keeps_all ≡ true → list.kept ≡ list.items) → list.kept ≡ readable list
readable-kept list all = by_test list.retention.keeps_all refl
  where
    by_test : (b : Bool) → list.retention.keeps_all ≡ b → list.kept ≡ (if b then list.items else list.kept)
    by_test true is = all is
    by_test false is = refl

-- of a list that keeps all, all can be read
readable-all : {T : Type 0} (list : KeptListView T) → list.retention.keeps_all ≡ true → readable list ≡ list.items
readable-all list is = ap (λ b. if b then list.items else list.kept) is

-- the same text of each item
flat-same : {X : Type 0} (P : X → Type 0) (f g : X → List ℕ) → ((x : X) → P x → f x ≡ g x) → (xs : List X) → All P xs → flat_map f xs ≡ flat_map g xs
flat-same P f g same [] all = refl
flat-same P f g same (x ∷ xs) all = λ i. same x (All-head P x xs all) i ++ flat-same P f g same xs (All-tail P x xs all) i

-- where a report keeps all, all that stands at the end can be read
pub rest-readable : (names : List (List ℕ)) (f : Filter) (report : Report) → KeepsAllIf true report → readable_rest_text names f report ≡ rest_text names f report
rest-readable names f report kept =
    let letters = flat-same (λ (s : SenderReport). s.dead.retention.keeps_all ≡ true)
    (λ s. letters_text names f (readable_letters s)) (λ s. letters_text names f (all_letters s))
    (λ s is. ap (letters_text names f) (readable-all s.dead is)) report.senders.items kept.letters in
    let cleaned = flat-same (λ (r : ActorReport). r.cleaned.retention.keeps_all ≡ true)
    (λ r. cleaned_text names f (readable_cleaned r)) (λ r. cleaned_text names f (all_cleaned r))
    (λ r is. ap (cleaned_text names f) (readable-all r.cleaned is)) report.actors.items kept.cleaned in
    λ i. (if shows_envelopes f.only then (letters i ++ cleaned i ++ flat_map (queued_text names f) report.actors.items) else [])
    ++ (if shows_system_messages f.only then all_aside_text names f 0 report.actors.items else [])
