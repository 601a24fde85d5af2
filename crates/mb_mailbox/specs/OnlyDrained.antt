-- In which order a run drains, loads its actor's status, and takes (`akka.dispatch.Mailbox.processMailbox`: before each envelope
-- `shouldProcessMessage`, and after each all system messages).
use Rattle.std.specs.Prelude.{◌≡◌, ℕ, List, [], ◌∷◌, ◌⊎◌, true}
use Rattle.mb_status.specs.Mailbox.{mailbox_of, should_process}
use Rattle.mb_gate.specs.View.{Observation, Read, Unsent, Took, Drained, Ended}

-- The newest thing that the claim saw or did is a drain of the actor's list that gave nothing.
pub record DrainedLast (actor : ℕ) (log : List Observation) : Type 0 where
  pub before : List Observation
  pub last : log ≡ Drained actor [] ∷ before

-- The newest thing that the claim saw or did is a load of the actor's status word, which was this; and it came right after a drain of the actor's list
-- that gave nothing.
pub record LoadedLast (actor word : ℕ) (log : List Observation) : Type 0 where
  pub before : List Observation
  pub last : log ≡ Read actor word ∷ before
  pub drained : DrainedLast actor before

-- The claim just loaded the actor's status word, which was open and not suspended, right after a drain that gave nothing.
pub record LoadedOpenLast (actor : ℕ) (log : List Observation) : Type 0 where
  pub word : ℕ
  pub open_word : should_process (mailbox_of word) ≡ true
  pub read : LoadedLast actor word log

-- The actor's list was ended, and since then the claim did nothing at the gates but take envelopes.
abbrev pub WasEnded : ℕ → List Observation → Type 0
WasEnded actor [] = ⊥
WasEnded actor (Ended a given ∷ log) = a ≡ actor
WasEnded actor (Took a n ∷ log) = WasEnded actor log
WasEnded actor (_ ∷ log) = ⊥

-- Each envelope was taken right after a load of the status word that found it open and not suspended, which came right after a drain that gave nothing;
-- or it was cleaned up once the list was ended. None was given back.
abbrev pub TakesOnlyDrained : ℕ → List Observation → Type 0
TakesOnlyDrained actor [] = Unit {0}
TakesOnlyDrained actor (Took a n ∷ log) = (LoadedOpenLast actor log ⊎ WasEnded actor log) × TakesOnlyDrained actor log
TakesOnlyDrained actor (Unsent a n ∷ log) = ⊥
TakesOnlyDrained actor (_ ∷ log) = TakesOnlyDrained actor log
