-- What each step at the gates tells the seat that makes it. (The steps are those of `akka.dispatch.Mailbox` and its `SystemMessageQueue`; what a seat
-- knows is this project's own profile.) A step does not know its actor, so the actor is found by the place of the word.
use Rattle.std.specs.Prelude.{◌≡◌, ◌≢◌, ◌⊎◌, ℕ, ◌+◌, ◌*◌, ◌%◌, ◌<◌, Bool, true, false, IsTrue, List, [], ◌∷◌, Some, None, All}
use mathlib.Core.Option.{some}
use Rattle.atomic_table.specs.Table.{Me, Step, rest}
use Rattle.std.specs.declared.snapshot.Snapshot.{Snapshot}
use Rattle.mb_status.specs.Mailbox.{Mailbox, word_of, mailbox_of, is_valid, most_suspensions, suspend, resume, closed_mailbox}
use Rattle.mb_msg.specs.declared.system.SysMsg.{SysMsg}
use Rattle.mb_syslist.specs.MessageList.{MessageList, with_last, listed, pushed, drained, ended}
use Rattle.mb_journal.specs.Entry.{Entry}
use Rattle.mb_ghost.specs.Layout.{word_at, slot_at}
use Rattle.mb_ghost.specs.Seen.{Each}
use Rattle.mb_gate.specs.HomeFacts.{HomeFacts}
use Rattle.mb_gate.specs.declared.slot.Slot.{Slot}
use Rattle.mb_gate.specs.declared.slot.Slot.TheVariants.{Home, List as Listing, Note, First}
use Rattle.mb_gate.specs.View.{
  View,
  Observation,
  Read,
  Saw,
  Counted,
  Looked,
  Sent,
  Unsent,
  Took,
  Pushed,
  Drained,
  Ended,
  Held,
  Lent,
  reading,
  reading_held,
  taking,
  writing,
  idling,
  sending,
  unsending,
  counting_off,
  counting,
  looking,
  lending,
  enlisting,
  refusing,
  draining,
  ending,
}
use Rattle.mb_gate.specs.ClaimCounts.{IsOwnBalance, WasHeldBy}
use Rattle.mb_gate.specs.NamedActors.{NamesBelow}
use Rattle.mb_gate.specs.Rule.{Extends, is_some_item, gate_word}
use Rattle.mb_gate.specs.ListWord.{shows_work}
use Rattle.mb_gate.specs.Claims.{ClaimGoesOn}

-- This observation allows that the actor is taken with this journal: it was not seen closed, its list was not ended, and the journal extends each
-- that was seen.
abbrev pub IsBefore : ℕ → List Entry → Observation → Type 0
IsBefore actor journal (Read a word) = a ≡ actor → word ≢ 1
IsBefore actor journal (Saw a before) = a ≡ actor → Extends journal before
IsBefore actor journal (Ended a given) = a ≢ actor
IsBefore actor journal (Counted a n) = Unit {0}
IsBefore actor journal (Looked a has_work) = Unit {0}
IsBefore actor journal (Sent a n) = Unit {0}
IsBefore actor journal (Unsent a n) = Unit {0}
IsBefore actor journal (Took a n) = Unit {0}
IsBefore actor journal (Pushed a n m) = Unit {0}
IsBefore actor journal (Drained a given) = Unit {0}

-- The journal extends each journal of the actor that the view has seen, and the view has not seen the actor closed.
abbrev pub ExtendsSeen : ℕ → List Entry → View → Type 0
ExtendsSeen actor journal v = Each (IsBefore actor journal) v.log

-- The holder makes one mailbox of another: it suspends it once more, undoes one suspension, or closes it.
abbrev pub IsHolderChange : Mailbox → Mailbox → Type 0
IsHolderChange before after = ((before.count < most_suspensions) × (after ≡ suspend before)) ⊎ ((after ≡ resume before) ⊎ (after ≡ closed_mailbox))

-- The claim, if any, knew another word before it gave the cell back: two more where that is shown by the status word, and the closed one where
-- it is shown by the flag.
abbrev pub IsIdleWord : {S : Type 0} → Step S → ℕ → ℕ → View → Type 0
IsIdleWord st actor n v = (c : Held) → v.claim ≡ Some c → (st.word ≡ word_at actor 16 → c.word ≡ n + 2) × (st.word ≡ word_at actor 7 → c.word ≡ 1)

-- This observation allows that the actor's status is this word: the word is the closed one if the actor was seen closed or its list was ended.
abbrev pub IsWord : ℕ → ℕ → Observation → Type 0
IsWord actor now (Read a word) = a ≡ actor → word ≡ 1 → now ≡ 1
IsWord actor now (Ended a given) = a ≡ actor → now ≡ 1
IsWord actor now (Saw a before) = Unit {0}
IsWord actor now (Counted a n) = Unit {0}
IsWord actor now (Looked a has_work) = Unit {0}
IsWord actor now (Sent a n) = Unit {0}
IsWord actor now (Unsent a n) = Unit {0}
IsWord actor now (Took a n) = Unit {0}
IsWord actor now (Pushed a n m) = Unit {0}
IsWord actor now (Drained a given) = Unit {0}

-- The status word is the closed one if the view has seen the actor closed.
abbrev pub StaysClosed : ℕ → ℕ → View → Type 0
StaysClosed actor word v = Each (IsWord actor word) v.log

module _ {H : Type 0} where
  -- A seat knows that the actor's status word was this one, which is the closed one if it had seen the actor closed.
  abbrev pub HasRead : ℕ → ℕ → Me (Slot H) View → Me (Slot H) View → Type 0
  HasRead actor found m m' = (m' ≡ (reading actor found m.0, m.1)) × IsTrue (is_valid found) × StaysClosed actor found m.0

  -- What a seat knows after it read a status word.
  abbrev pub Reads : Step (Slot H) → Me (Slot H) View → ℕ → Me (Slot H) View → Type 0
  Reads st m found m' = (actor : ℕ) → st.word ≡ word_at actor 16 → HasRead actor found m m'

  -- What a seat knows after its claim read its actor's status word. The word is the one that the claim knows.
  abbrev pub ReadsHeld : Step (Slot H) → Me (Slot H) View → ℕ → Me (Slot H) View → Type 0
  ReadsHeld st m found m' = (actor : ℕ) (c : Held) → st.word ≡ word_at actor 16 → m.0.claim ≡ Some c → c.actor ≡ actor
      → (m' ≡ (reading_held actor found m.0, m.1)) × (found ≡ c.word)

  -- What a seat knows after its claim wrote a status word.
  abbrev pub Writes : Step (Slot H) → Me (Slot H) View → ℕ → Me (Slot H) View → Type 0
  Writes st m n m' = (m' ≡ (writing n m.0, m.1)) × ((c : Held) → m.0.claim ≡ Some c → IsHolderChange (mailbox_of c.word) (mailbox_of n))

  -- What a seat knows after it counted an envelope as waiting.
  abbrev pub CountsSent : Step (Slot H) → Me (Slot H) View → ℕ → Me (Slot H) View → Type 0
  CountsSent st m found m' = (actor : ℕ) → st.word ≡ word_at actor 0 → m' ≡ (sending actor st.first m.0, m.1)

  -- What a seat knows after it took an envelope that was refused off the count.
  abbrev pub UncountsSent : Step (Slot H) → Me (Slot H) View → ℕ → Me (Slot H) View → Type 0
  UncountsSent st m found m' = (actor : ℕ) → st.word ≡ word_at actor 0 → m' ≡ (unsending actor st.first m.0, m.1)

  -- What a seat knows after its claim counted an envelope as taken.
  abbrev pub CountsTaken : Step (Slot H) → Me (Slot H) View → ℕ → Me (Slot H) View → Type 0
  CountsTaken st m found m' = (actor : ℕ) → st.word ≡ word_at actor 0 → m' ≡ (counting_off actor st.first m.0, m.1)

  -- What a seat knows after it read the waiting count.
  abbrev pub ReadsWaiting : Step (Slot H) → Me (Slot H) View → ℕ → Me (Slot H) View → Type 0
  ReadsWaiting st m found m' = (actor : ℕ) → st.word ≡ word_at actor 0 → (m' ≡ (counting actor found m.0, m.1)) × IsOwnBalance actor found m.0

  -- What a seat knows after it read the gate of a list.
  abbrev pub ReadsGate : Step (Slot H) → Me (Slot H) View → ℕ → Me (Slot H) View → Type 0
  ReadsGate st m found m' = (actor : ℕ) → st.word ≡ word_at actor 17 → m' ≡ (looking actor (shows_work found) m.0, m.1)

  -- The list was taken out by an exchange that found this word at its gate; the seat knows what was listed.
  pub record ListLocked (actor found : ℕ) (m m' : Me (Slot H) View) : Type 0 where
    pub listed : MessageList
    pub gave : Bool
    pub word : found ≡ gate_word false listed gave
    pub now : m' ≡ (lending actor listed gave m.0, (slot_at actor 1, Listing listed) ∷ m.1)

  -- What a seat knows after it tried to take a list out: what was listed where its exchange won, and nothing more where it lost.
  abbrev pub LocksList : Step (Slot H) → Me (Slot H) View → ℕ → Me (Slot H) View → Type 0
  LocksList st m found m' = (actor : ℕ) → st.word ≡ word_at actor 17 → (found ≡ st.first → ListLocked actor found m m') × (found ≢ st.first → m' ≡ m)

  -- The list was put back with one message more, which is the last in it.
  abbrev pub Enlists : Step (Slot H) → Me (Slot H) View → ℕ → Me (Slot H) View → Type 0
  Enlists st m n m' = (actor : ℕ) (l : Lent) (message : SysMsg) → m.0.list ≡ Some l → m.1 ≡ (
    slot_at actor 1,
    Listing (with_last l.listed
        message),
  ) ∷ rest m.1
      → (m' ≡ (enlisting actor (pushed l.listed) message m.0, rest m.1)) × (n ≡ gate_word false (with_last l.listed message) l.gave)
      × (l.listed.closed ≡ false)

  -- The list was found ended, so that the actor had been claimed at some time.
  abbrev pub Refuses : Step (Slot H) → Me (Slot H) View → ℕ → Me (Slot H) View → Type 0
  Refuses st m found m' = (actor : ℕ) (message : SysMsg) → st.word ≡ word_at actor 17 → st.said ≡ some (Note message)
      → (found ≡ st.first → (m' ≡ (refusing actor message m.0, m.1)) × WasHeldBy actor m.0) × (found ≢ st.first → m' ≡ m)

  -- What was listed names only actors that exist. A step does not know how many there are, so the number of slots tells it.
  abbrev pub ListNamesActors : Step (Slot H) → MessageList → Type 0
  ListNamesActors st list = (actors : ℕ) → st.slots ≡ 2 * actors → All (NamesBelow actors) list.messages

  -- All that was listed was taken out, with the numbers that go on from how many messages were given before.
  abbrev pub Drains : Step (Slot H) → Me (Slot H) View → ℕ → Me (Slot H) View → Type 0
  Drains st m n m' = (l : Lent) (c : Held) → m.0.list ≡ Some l → m.0.claim ≡ Some c
      → (m' ≡ (draining l.actor (listed l.listed) (is_some_item l.listed.messages) m.0, rest m.1)) × (l.listed.given ≡ c.given)
      × ListNamesActors st l.listed × (m.1 ≡ (slot_at l.actor 1, Listing (drained l.listed)) ∷ rest m.1)

  -- All that was listed was taken out, and the list was ended.
  abbrev pub Ends : Step (Slot H) → Me (Slot H) View → ℕ → Me (Slot H) View → Type 0
  Ends st m n m' = (l : Lent) (c : Held) → m.0.list ≡ Some l → m.0.claim ≡ Some c
      → (m' ≡ (ending l.actor (listed l.listed) c.gave m.0, rest m.1)) × (l.listed.given ≡ c.given) × ListNamesActors st l.listed
      × (m.1 ≡ (slot_at l.actor 1, Listing (ended l.listed)) ∷ rest m.1)

  -- The holder read the gate's word. Where it shows that nothing is listed and that the last drain gave nothing, this counts as a drain that gives
  -- nothing; else as a look that found work. (A list that is out counts as work too, since a message may be on its way into it.)
  abbrev pub ChecksDrained : Step (Slot H) → Me (Slot H) View → ℕ → Me (Slot H) View → Type 0
  ChecksDrained st m found m' = (actor : ℕ) (c : Held) → st.word ≡ word_at actor 17 → m.0.claim ≡ Some c → c.actor ≡ actor → m.0.list ≡ None
      → (found % 8 ≡ 0 → m' ≡ (draining actor [] false m.0, m.1)) × (found % 8 ≢ 0 → m' ≡ (looking actor true m.0, m.1))

module _ {H : Type 0} (is_of : ℕ → H → Type 0) (facts : H → HomeFacts) where
  -- The actor was scheduled by an exchange that found this word, and its cell was taken: it is the actor's own, its journal goes on
  -- from all that was seen, its word is the one found; it knows how many its list gave; and unless the last drain gave something, nothing
  -- is left beside it.
  pub record Won (actor found : ℕ) (m m' : Me (Slot H) View) : Type 0 where
    pub home : H
    pub of_actor : is_of actor home
    pub word : found ≡ word_of (facts home).mailbox
    pub gave : Bool
    pub rest : gave ≡ false → (facts home).no_backlog
    pub seen : ExtendsSeen actor (facts home).journal m.0
    pub now : m' ≡ (taking actor (facts home).journal (facts home).closed_to found gave (facts home).given (facts home).drained m.0, (slot_at actor 0, Home home) ∷ m.1)

module _ {H : Type 0} (is_of : H → ℕ → H → Type 0) (facts : H → HomeFacts) where
  -- a step that knows the first home tried to schedule an actor
  abbrev pub Schedules : Step (Slot H) → Me (Slot H) View → ℕ → Me (Slot H) View → Type 0
  Schedules st m found m' = (actor : ℕ) (first : Snapshot (Snapshot H)) → st.word ≡ word_at actor 16 → st.said ≡ some (First first)
      → (found ≡ st.first → Won (is_of first.value.value) facts actor found m m')
      × (found ≢ st.first → HasRead actor found m m')

-- the cell was given home, which was taken with a journal that goes on from all that the seat has seen
abbrev pub Idles : {H : Type 0} → (H → HomeFacts) → Step (Slot H) → Me (Slot H) View → ℕ → Me (Slot H) View → Type 0
Idles {H} facts st m n m' = (actor : ℕ) (home : H) → m.1 ≡ (slot_at actor 0, Home home) ∷ []
    → (m' ≡ (idling actor (facts home).journal m.0, [])) × IsIdleWord st actor n m.0 × ClaimGoesOn actor m.0
