-- What is put in front: nothing of a closed actor, and nothing more after an envelope.
use Rattle.std.proofs.Common.{◌≡◌, ◌==◌, ℕ, Bool, true, false, List, [], ◌∷◌, refl, sym, ap, ◌∙◌}
use Rattle.std.specs.Prelude.{not, ◌&&◌, if◌then◌else◌, Some, None}
use Rattle.mb_msg.specs.declared.envelope.Envelope.{Envelope}
use Rattle.mb_msg.specs.declared.system.SysMsg.{SysMsg}
use Rattle.mb_actor.specs.Behaviour.{Moment, Reply}
use Rattle.mb_actor.specs.declared.phase.Phase.{Phase}
use Rattle.mb_actor.specs.declared.phase.Phase.TheVariants.{Ending, Live}
use Rattle.mb_journal.specs.Aside.{aside, ever_aside, next_front, first_of_list}
use Rattle.mb_journal.specs.Entry.{Entry}
use Rattle.mb_journal.specs.Entry.Entry.{Handled, System, Dropped}
use Rattle.mb_journal.specs.Identity.{Identity}
use Rattle.mb_journal.specs.Lawful.{AreLawful}
use Rattle.mb_journal.specs.Life.{closed, phase}
use Rattle.mb_journal.specs.Phase.{phase_is}
use Rattle.mb_journal.specs.Suspension.{count}
use Rattle.mb_journal.proofs.LawfulLemmas.{next_front-none}
use Rattle.mb_cell.specs.CellView.{CellView, IsOf}
use Rattle.mb_cell.proofs.OpenLaws.{open-live}
use Rattle.mb_home.specs.Contents.{Contents}
use Rattle.mb_home.specs.Steps.{Begins, HasNoBacklog}

none-first : (l : List (ℕ × SysMsg)) → first_of_list l ≡ None → l ≡ []
none-first [] e = refl
none-first (m ∷ l) e = absurd (let no : Some m ≡ None = e in cc no)

both-tests : (a b : Bool) (l : List (ℕ × SysMsg)) → a ≡ true → b ≡ true → (if a && b then first_of_list l else None) ≡ first_of_list l
both-tests a b l at bt = λ i. if at i && bt i then first_of_list l else None

-- an actor that ended has nothing set aside
pub closed-front : (who : Identity) (journal : List Entry) → closed who journal ≡ true → next_front who journal ≡ None
unfolding next_front aside
closed-front who journal shut =
    ap (λ b. if count who journal == 0 && not (phase_is (phase who journal) Ending) then first_of_list (if b then [] else ever_aside journal) else
    None) shut
    ∙ either (count who journal == 0 && not (phase_is (phase who journal) Ending))
  where
    either : (b : Bool) → (if b then first_of_list [] else None) ≡ None
    either true = refl
    either false = refl

-- an open one that puts nothing in front has nothing set aside
none-aside : (who : Identity) (gives : Moment → Reply → Type 0) (journal : List Entry) → AreLawful who gives journal → count who journal ≡ 0 →
    closed who journal ≡ false → next_front who journal ≡ None → ever_aside journal ≡ []
unfolding next_front aside
none-aside who gives journal lawful none not_closed nothing =
    let live : phase who journal ≡ Live = open-live who gives journal lawful none not_closed in
    let zero : (count who journal == 0) ≡ true = ap (λ n. n == 0) none in
    let not_ending : not (phase_is (phase who journal) Ending) ≡ true = ap (λ (p : Phase). not (phase_is p Ending)) live in
    let all = if closed who journal then [] else ever_aside journal in
    sym (ap (λ b. if b then [] else ever_aside journal) not_closed)
    ∙ none-first all (sym (both-tests (count who journal == 0) (not (phase_is (phase who journal) Ending)) all zero not_ending) ∙ nothing)

same-aside : (before : List Entry) (e : Entry) (envelope : Envelope) (reading : ℕ) → IsOf envelope reading e → ever_aside (e ∷ before)
    ≡ ever_aside before
unfolding ever_aside
same-aside before (Handled x r o) envelope reading of_it = refl
same-aside before (System n m o) envelope reading of_it = absurd of_it
same-aside before (Dropped x) envelope reading of_it = refl

-- nothing is left beside the cell after an envelope, where nothing was before
pub begun-no_backlog : (old new : Contents) (reading : ℕ) (gives : Moment → Reply → Type 0) → AreLawful old.cell.who gives old.cell.journal →
    count old.cell.who old.cell.journal ≡ 0 → closed old.cell.who old.cell.journal ≡ false → Begins old new reading → HasNoBacklog old → HasNoBacklog new
begun-no_backlog old new reading gives lawful none not_closed b r = record {
  no_rest = ap (λ (h : Contents). h.rest) b.same ∙ r.no_rest;
  no_front =
      ap (λ (c : CellView). next_front c.who c.journal) b.taken.adds
      ∙ next_front-none old.cell.who (b.taken.entry ∷ old.cell.journal)
      (same-aside old.cell.journal b.taken.entry b.envelope reading b.taken.of_it
      ∙ none-aside old.cell.who gives old.cell.journal lawful none not_closed r.no_front);
}
