-- At which status words a run begins envelopes (`akka.dispatch.Mailbox.processMailbox`, which asks `shouldProcessMessage` before each).
use Rattle.std.specs.Prelude.{◌≡◌, ℕ, List, [], ◌∷◌, ◌++◌}
use Rattle.mb_journal.specs.Entry.{Entry}
use Rattle.mb_journal.specs.Entry.Entry.{Handled, System, Dropped}
use Rattle.mb_gate.specs.View.{Observation, Read, Took}

-- The status word that was just loaded, if a load is the newest observation.
abbrev pub just_loaded : List Observation → List ℕ
just_loaded [] = []
just_loaded (Read actor word ∷ log) = word ∷ []
just_loaded (_ ∷ log) = []

-- The status words right after whose load an envelope was taken, the newest first.
abbrev pub loaded_words : List Observation → List ℕ
loaded_words [] = []
loaded_words (Took actor n ∷ log) = just_loaded log ++ loaded_words log
loaded_words (_ ∷ log) = loaded_words log

-- The envelopes of these entries were begun at these status words, one at each, the newest first. An entry of an envelope that the cell dropped keeps no
-- word.
abbrev pub AreBegunAt : List ℕ → List Entry → Type 0
AreBegunAt words [] = words ≡ []
AreBegunAt words (System number message outcome ∷ entries) = AreBegunAt words entries
AreBegunAt [] (Handled envelope reading outcome ∷ entries) = ⊥
AreBegunAt (word ∷ words) (Handled envelope reading outcome ∷ entries) = (reading ≡ word) × AreBegunAt words entries
AreBegunAt [] (Dropped envelope ∷ entries) = ⊥
AreBegunAt (word ∷ words) (Dropped envelope ∷ entries) = AreBegunAt words entries

-- The journal grew from the one before by entries whose envelopes were begun at these status words, the newest first.
pub record BeginsAt (words : List ℕ) (before journal : List Entry) : Type 0 where
  pub newer : List Entry
  pub joined : journal ≡ newer ++ before
  pub begun_at : AreBegunAt words newer
