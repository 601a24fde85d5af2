-- A report has a line for each actor.
use Rattle.std.proofs.Common.{◌≡◌, ℕ, suc, ℤ, List, [], ◌∷◌, ◌++◌, length, refl, sym, ap, ◌∙◌, subst, append_assoc, append-nil}
use Rattle.std.proofs.lemmas.List.{length-map}
use Rattle.mb_actor.specs.Behaviour.{Moment, Reply}
use Rattle.mb_actor.specs.declared.message.Message.{Message}
use Rattle.mb_cell.specs.CellView.{CellView}
use Rattle.mb_report.specs.declared.report.ActorReport.{ActorReport}
use Rattle.mb_world.specs.Dispatched.{cell_mark, mark_of}
use Rattle.mb_world.specs.Ending.{AreShown, Shows}
use Rattle.mb_world.specs.MailboxView.{MailboxView}
use Rattle.mb_world.specs.World.{IsAtRest}

-- as many mailboxes as cells
pub same-count : (cells : List CellView) (mailboxes : List MailboxView) → IsAtRest cells mailboxes → length mailboxes ≡ length cells
same-count cells mailboxes rest = sym (length-map mailboxes mark_of) ∙ ap length rest.begun ∙ length-map cells cell_mark

module _ (after : ℕ → List Message → ℤ) (gives : ℕ → Moment → Reply → Type 0) where
  pub shown-count : (cells : List CellView) (mailboxes : List MailboxView) (actors : List ActorReport) → AreShown after gives cells mailboxes actors →
      length actors ≡ length cells
  shown-count [] [] [] shown = refl
  shown-count [] [] (a ∷ actors) shown = absurd shown
  shown-count [] (m ∷ mailboxes) actors shown = absurd shown
  shown-count (c ∷ cells) [] actors shown = absurd shown
  shown-count (c ∷ cells) (m ∷ mailboxes) [] shown = absurd shown
  shown-count (c ∷ cells) (m ∷ mailboxes) (a ∷ actors) shown = ap suc (shown-count cells mailboxes actors shown.1)

  -- what is shown of these is shown of all, behind what is shown already
  abbrev pub IsRestOf : List CellView → List MailboxView → List CellView → List MailboxView → List ActorReport → Type 0
  IsRestOf cells mailboxes all_cells all_mailboxes actors = (rest : List ActorReport) → AreShown after gives cells mailboxes rest
      → AreShown after gives all_cells all_mailboxes (actors ++ rest)

  pub rest-begins : (cells all_cells : List CellView) (mailboxes all_mailboxes : List MailboxView) (actors : List ActorReport) → cells ≡ all_cells →
      mailboxes ≡ all_mailboxes → actors ≡ [] → IsRestOf cells mailboxes all_cells all_mailboxes actors
  rest-begins cells all_cells mailboxes all_mailboxes actors is also none rest shown =
      subst (λ l. AreShown after gives all_cells all_mailboxes (l ++ rest)) (sym none)
      (subst (λ l. AreShown after gives all_cells l rest) also (subst (λ l. AreShown after gives l mailboxes rest) is shown))

  pub rest-more : (c : CellView) (m : MailboxView) (a : ActorReport) (before cells all_cells : List CellView)
      (old mailboxes all_mailboxes : List MailboxView) (actors new : List ActorReport) → before ≡ c ∷ cells → old ≡ m ∷ mailboxes →
      new ≡ actors ++ a ∷ [] → Shows after gives c m a → IsRestOf before old all_cells all_mailboxes actors →
      IsRestOf cells mailboxes all_cells all_mailboxes new
  rest-more c m a before cells all_cells old mailboxes all_mailboxes actors new is also pushed shows all rest shown =
      let here : AreShown after gives (c ∷ cells) (m ∷ mailboxes) (a ∷ rest) = (shows, shown) in
      let at : AreShown after gives before old (a ∷ rest) =
      subst (λ l. AreShown after gives l old (a ∷ rest)) (sym is) (subst (λ l. AreShown after gives (c ∷ cells) l (a ∷ rest)) (sym also) here) in
      subst (AreShown after gives all_cells all_mailboxes) (sym (ap (λ l. l ++ rest) pushed ∙ append_assoc actors (a ∷ []) rest)) (all (a ∷ rest) at)

  pub rest-ends : (cells all_cells : List CellView) (mailboxes all_mailboxes : List MailboxView) (actors : List ActorReport) → cells ≡ [] →
      mailboxes ≡ [] → IsRestOf cells mailboxes all_cells all_mailboxes actors → AreShown after gives all_cells all_mailboxes actors
  rest-ends cells all_cells mailboxes all_mailboxes actors none also all =
      let nothing : AreShown after gives [] [] [] = tt in
      let at : AreShown after gives cells mailboxes [] =
      subst (λ l. AreShown after gives l mailboxes []) (sym none) (subst (λ l. AreShown after gives [] l []) (sym also) nothing) in
      subst (AreShown after gives all_cells all_mailboxes) (append-nil actors) (all [] at)
