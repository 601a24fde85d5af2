-- At which status words envelopes were begun, step by step.
use Rattle.std.proofs.Common.{◌≡◌, ℕ, List, [], ◌∷◌, refl, sym, ap, subst}
use Rattle.mb_msg.specs.declared.envelope.Envelope.{Envelope}
use Rattle.mb_msg.specs.declared.system.SysMsg.{SysMsg}
use Rattle.mb_cell.specs.CellView.{IsOf}
use Rattle.mb_journal.specs.Entry.{Entry, Outcome}
use Rattle.mb_journal.specs.Entry.Entry.{Handled, System, Dropped}
use Rattle.mb_gate.specs.View.{Observation, Read, Saw, Counted, Looked, Sent, Unsent, Took, Pushed, Drained, Ended}
use Rattle.mb_mailbox.specs.Loaded.{loaded_words, AreBegunAt, BeginsAt}
use Rattle.mb_mailbox.specs.OnlyDrained.{LoadedLast, WasEnded}

-- an envelope that is cleaned up is taken after no load
pub cleaned-loaded : (actor a n : ℕ) (log : List Observation) → WasEnded actor log → loaded_words (Took a n ∷ log) ≡ loaded_words log
cleaned-loaded actor a n [] ended = absurd ended
cleaned-loaded actor a n (Read b word ∷ log) ended = absurd ended
cleaned-loaded actor a n (Saw b journal ∷ log) ended = absurd ended
cleaned-loaded actor a n (Counted b waiting ∷ log) ended = absurd ended
cleaned-loaded actor a n (Looked b has_work ∷ log) ended = absurd ended
cleaned-loaded actor a n (Sent b m ∷ log) ended = absurd ended
cleaned-loaded actor a n (Unsent b m ∷ log) ended = absurd ended
cleaned-loaded actor a n (Took b m ∷ log) ended = refl
cleaned-loaded actor a n (Pushed b number message ∷ log) ended = absurd ended
cleaned-loaded actor a n (Drained b given ∷ log) ended = absurd ended
cleaned-loaded actor a n (Ended b given ∷ log) ended = refl

-- one that is begun is taken after a load of this word
pub taken-loaded : (actor word : ℕ) (log : List Observation) → LoadedLast actor word log → loaded_words (Took actor 1 ∷ log) ≡ word ∷ loaded_words log
taken-loaded actor word log last =
    subst (λ l. loaded_words (Took actor 1 ∷ l) ≡ word ∷ loaded_words l) (sym last.last) refl

-- an entry more of a system message
pub begins-system : (words : List ℕ) (before journal : List Entry) (number : ℕ) (message : SysMsg) (outcome : Outcome) → BeginsAt words before journal →
    BeginsAt words before (System number message outcome ∷ journal)
begins-system words before journal number message outcome b = record {
  newer = System number message outcome ∷ b.newer;
  joined = ap (λ l. System number message outcome ∷ l) b.joined;
  begun_at = b.begun_at;
}

-- and of an envelope
begun-envelope : (words : List ℕ) (newer : List Entry) (entry : Entry) (envelope : Envelope) (reading : ℕ) → IsOf envelope reading entry →
    AreBegunAt words newer → AreBegunAt (reading ∷ words) (entry ∷ newer)
begun-envelope words newer (Handled e r outcome) envelope reading of_it begun = (of_it.1, begun)
begun-envelope words newer (System number message outcome) envelope reading of_it begun = absurd of_it
begun-envelope words newer (Dropped e) envelope reading of_it begun = begun

pub begins-envelope : (words : List ℕ) (before journal : List Entry) (entry : Entry) (envelope : Envelope) (reading : ℕ) → IsOf envelope reading entry →
    BeginsAt words before journal → BeginsAt (reading ∷ words) before (entry ∷ journal)
begins-envelope words before journal entry envelope reading of_it b = record {
  newer = entry ∷ b.newer;
  joined = ap (λ l. entry ∷ l) b.joined;
  begun_at = begun-envelope words b.newer entry envelope reading of_it b.begun_at;
}
