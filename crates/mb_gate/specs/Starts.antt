-- The gates' words and slots as they begin: each actor's home with its status word, and an empty list (this project's own profile:
-- in Akka each mailbox has its own, `akka.dispatch.Mailbox`, and begins open).
use Rattle.std.specs.Prelude.{◌≡◌, ℕ, false, IsTrue, List, [], ◌∷◌, ◌++◌}
use Rattle.mb_status.specs.Mailbox.{word_of, is_possible}
use Rattle.mb_syslist.specs.MessageList.{MessageList}
use Rattle.mb_gate.specs.HomeFacts.{HomeFacts}
use Rattle.mb_gate.specs.declared.slot.Slot.{Slot}
use Rattle.mb_gate.specs.declared.slot.Slot.TheVariants.{Empty, Home, List as Listing, Note, First}
use Rattle.mb_gate.specs.Tries.{IsFree}

-- A list in which nothing was ever listed.
abbrev pub no_messages : MessageList
no_messages = record { messages = []; given = 0; closed = false }

-- An actor's thirty-two words: the status word is the seventeenth, and all others are 0.
abbrev pub row_of : ℕ → List ℕ
row_of word = 0 ∷ 0 ∷ 0 ∷ 0 ∷ 0 ∷ 0 ∷ 0 ∷ 0 ∷ 0 ∷ 0 ∷ 0 ∷ 0 ∷ 0 ∷ 0 ∷ 0 ∷ 0 ∷ word ∷ 0 ∷ 0 ∷ 0 ∷ 0 ∷ 0 ∷ 0 ∷ 0 ∷ 0 ∷ 0 ∷ 0 ∷ 0 ∷ 0 ∷ 0 ∷ 0 ∷ 0 ∷ []

module _ {H : Type 0} where
  -- The words with which the gates of these homes begin.
  abbrev pub rows_of : (H → HomeFacts) → List H → List ℕ
  rows_of facts [] = []
  rows_of facts (h ∷ hs) = row_of (word_of (facts h).mailbox) ++ rows_of facts hs

  -- The two slots of each actor: its home and an empty list.
  abbrev pub slots_of : List H → List (Slot H)
  slots_of [] = []
  slots_of (h ∷ hs) = Home h ∷ Listing no_messages ∷ slots_of hs

  -- The homes that lie in these slots.
  abbrev pub homes_in : List (Slot H) → List H
  homes_in [] = []
  homes_in (Home h ∷ slots) = h ∷ homes_in slots
  homes_in (Empty ∷ slots) = homes_in slots
  homes_in (Listing l ∷ slots) = homes_in slots
  homes_in (Note m ∷ slots) = homes_in slots
  homes_in (First f ∷ slots) = homes_in slots

  -- a home with which the gates may begin at this actor: its own, with an empty journal, neither closed nor scheduled, that knows of no message given and of no
  -- actor closed, and with nothing left beside its cell
  pub record IsFresh (is_of : ℕ → H → Type 0) (facts : H → HomeFacts) (actor : ℕ) (h : H) : Type 0 where
    pub of_actor : is_of actor h
    pub not_run : (facts h).journal ≡ []
    pub none_given : (facts h).given ≡ 0
    pub none_closed : (facts h).closed_to ≡ []
    pub none_drained : (facts h).drained ≡ []
    pub possible : IsTrue (is_possible (facts h).mailbox)
    pub free : IsFree (facts h).mailbox
    pub rest : (facts h).no_backlog
