-- What is known of each system message that has an entry or is left beside the cell is known so still once the next message came.
use Rattle.std.proofs.Common.{◌≡◌, ◌==◌, ℕ, List, [], ◌∷◌, refl, sym, ap, ◌∙◌, subst}
use Rattle.std.specs.Prelude.{All, not, Option, Some, None}
use Rattle.std.proofs.lemmas.List.Elements.{All-nil, All-push, All-filter}
use Rattle.mb_msg.specs.declared.envelope.Envelope.{Envelope}
use Rattle.mb_msg.specs.declared.system.SysMsg.{SysMsg}
use Rattle.mb_journal.specs.Aside.{ever_aside, next_front}
use Rattle.mb_journal.specs.Entry.{Entry}
use Rattle.mb_journal.specs.Entry.Entry.{Handled, System, Dropped}
use Rattle.mb_journal.specs.Entry.Outcome.{Applied, SetAside}
use Rattle.mb_journal.specs.Identity.{Identity}
use Rattle.mb_ghost.specs.Seen.{Each}
use Rattle.mb_cell.specs.CellView.{IsOf}
use Rattle.mb_home.specs.AtHome.{system_entries}
use Rattle.mb_home.specs.Steps.{IsDue}
use Rattle.mb_home.proofs.CountLemmas.{front-of}

module _ (P : ℕ × SysMsg → Type 0) where
  -- each that was set aside has an entry
  aside-entered : (journal : List Entry) → Each P (system_entries journal) → All P (ever_aside journal)
  unfolding ever_aside
  aside-entered [] each = All-nil P
  aside-entered (Handled envelope reading outcome ∷ before) each = aside-entered before each
  aside-entered (Dropped envelope ∷ before) each = aside-entered before each
  aside-entered (System number m SetAside ∷ before) each = All-push P (ever_aside before) (number, m) (aside-entered before each.1) each.0
  aside-entered (System number m (Applied a effects) ∷ before) each =
      All-filter (λ (x : ℕ × SysMsg). not (x.0 == number)) P (ever_aside before) (aside-entered before each.1)

  -- the message that is due has an entry, or is left beside the cell
  pub due-entered : (who : Identity) (journal : List Entry) (rest left : List (ℕ × SysMsg)) (number : ℕ) (m : SysMsg) →
      Each P (system_entries journal) → Each P rest → IsDue (next_front who journal) rest number m left → Each P ((number, m) ∷ left)
  due-entered who journal rest left number m entered others due = by_front (next_front who journal) refl due
    where
      by_front : (o : Option (ℕ × SysMsg)) → next_front who journal ≡ o → IsDue o rest number m left → Each P ((number, m) ∷ left)
      by_front None none is = subst (Each P) is others
      by_front (Some front) some is = (
        front-of P who journal (number, m) (some ∙ ap (λ (x : ℕ × SysMsg). Some x) is.0) (aside-entered journal entered),
        subst (Each P) (sym is.1) others,
      )

-- an envelope adds none
pub entries-begun : (before : List Entry) (e : Entry) (envelope : Envelope) (reading : ℕ) → IsOf envelope reading e →
    system_entries (e ∷ before) ≡ system_entries before
entries-begun before (Handled x r o) envelope reading of_it = refl
entries-begun before (System n m o) envelope reading of_it = absurd of_it
entries-begun before (Dropped x) envelope reading of_it = refl
