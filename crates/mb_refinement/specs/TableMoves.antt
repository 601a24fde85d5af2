-- Every kind of step of the gates' table, with the move of the machine that it is (this project's own profile).
use Rattle.std.specs.Prelude.{◌≡◌, ◌≢◌, ◌⊎◌, ℕ, ◌+◌, ◌-◌, ◌/◌, ◌%◌, ◌^◌, ◌<◌, ◌==◌, true, false, IsTrue, List, [], ◌∷◌, ◌++◌, Some, None, slice_index}
use mathlib.Core.Option.{some}
use prog.Atomic.{either}
use Rattle.std.specs.declared.snapshot.Snapshot.{Snapshot}
use Rattle.atomic_table.specs.Table.{State, Me, Step, keeps, takes, gives, rest as tail_of}
use Rattle.mb_status.specs.Mailbox.{Mailbox, word_of, idle, is_valid, mailbox_of, most_suspensions, suspend, resume, closed_mailbox}
use Rattle.mb_msg.specs.declared.system.SysMsg.{SysMsg}
use Rattle.mb_syslist.specs.MessageList.{MessageList, with_last, pushed, drained, ended}
use Rattle.mb_core.specs.declared.event.Step as event
use Rattle.mb_core.specs.declared.event.Step.TheVariants.{Read, Schedule, Idle, Suspend, Resume, Close, Sent, Unsent, Taken, Count, SysAdd, SysRead, SysDrain, SysEnd}
use Rattle.mb_ghost.specs.Layout.{word_at, slot_at}
use Rattle.mb_gate.specs.HomeFacts.{HomeFacts}
use Rattle.mb_gate.specs.declared.slot.Slot.{Slot}
use Rattle.mb_gate.specs.declared.slot.Slot.TheVariants.{Home, List as Listing, Note, First}
use Rattle.mb_gate.specs.View.{blank, View, Held, Lent, obligation_to, claim_alone, without_claim, copied, split_off, halving, taking_over, taking_in}
use Rattle.mb_gate.specs.Together.{ReadsOwnClaim, ReadsFlag, together, came_back}
use Rattle.mb_gate.specs.TwoClaims.{moved_out, moved_in}
use Rattle.mb_gate.specs.ListWord.{shows_work, is_ended}
use Rattle.mb_gate.specs.Rule.{is_some_item, gate_word}
use Rattle.mb_gate.specs.NamedActors.{NamesBelow}
use Rattle.mb_gate.specs.Lists.{may_lock_list}
use Rattle.mb_gate.specs.Claims.{held_in, IsReadyToRelease}
use Rattle.mb_gate.specs.TableSteps.{
  Reads,
  ReadsHeld,
  Writes,
  Schedules,
  Idles,
  CountsSent,
  UncountsSent,
  CountsTaken,
  ReadsWaiting,
  ReadsGate,
  LocksList,
  Enlists,
  Refuses,
  Drains,
  Ends,
  ChecksDrained,
}
use Rattle.mb_refinement.specs.Refines.{IsStep, IsMarked, Rule}
use Rattle.mb_refinement.specs.StatusEvents.{KnowsLastDrain}
use Rattle.mb_refinement.specs.PartyEvents.{IsCut, IsMerge}
use Rattle.mb_refinement.specs.Interleavings.{Move, Made, Still, Split, Part, Join, Rests, Interleaving}

-- the move that is this step of the machine by this party on this actor
abbrev pub by : ℕ → ℕ → event.Step → Move
by party actor step = Made (record { party = party; actor = record { 0 = actor }; step = step })

-- nothing more is left at any actor, or this is left at this one
abbrev pub RestsStay : Rests → Rests → Type 0
RestsStay rests rests' = (a : ℕ) → rests' a ≡ rests a

abbrev pub RestsAre : ℕ → List SysMsg → Rests → Rests → Type 0
RestsAre actor left rests rests' = (rests' actor ≡ left) × ((a : ℕ) → a ≢ actor → rests' a ≡ rests a)

-- the holder, which knew the first word, makes this step of the machine by writing the second one
abbrev pub IsHolderStep : ℕ → ℕ → event.Step → Type 0
IsHolderStep word new Suspend = ((mailbox_of word).count < most_suspensions) × (mailbox_of new ≡ suspend (mailbox_of word))
IsHolderStep word new Resume = mailbox_of new ≡ resume (mailbox_of word)
IsHolderStep word new Close = mailbox_of new ≡ closed_mailbox
IsHolderStep word new _ = ⊥

-- the seat is a pass's: it has a share of the whole
abbrev pub HasShare : View → Type 0
HasShare v = is_some_item v.share ≡ true

-- there is system work: by this word of its gate the list is not ended, and something is listed, or this is left of what was drained
abbrev pub HasSystemWork : ℕ → List SysMsg → Type 0
HasSystemWork gate left = (is_ended gate ≡ false) × ((gate / 2 % 2 ≡ 1) ⊎ IsTrue (is_some_item left))

-- One step of one seat, and the move that it is. It asks for what is so of the seat, of what it writes and of the word that it finds, and for nothing
-- of the table after it. A seat loads a status word; it schedules an actor, or finds another word; as the holder it loads or writes the word, or gives
-- the cell back; it looks whether a claim is out, by the word or by the flag; it counts envelopes, or loads the count; it loads a list's gate, takes the
-- list, puts it back with a message more, or as the holder without what was listed; a seat is split off another, or takes another over. Where two seats
-- look together, the view of the one goes to a new seat, the other takes that over, then of two each has again what it had, and the view comes back.
pub data IsTableStep {H : Type 0} (is_of : H → ℕ → H → Type 0) (first : H) (facts : H → HomeFacts) (n : ℕ) (s : State (Slot H) View) (rests : Rests)
    (move : Move) (s' : State (Slot H) View) (rests' : Rests) : Type 0 where
  loads_status : (actor id : ℕ) (me : Me (Slot H) View) (st : Step (Slot H)) → actor < n → st.word ≡ word_at actor 16
      → IsStep (word_at actor 16) id me (λ k. k) keeps (Reads st me) s s' → move ≡ by id actor Read → RestsStay rests rests'
      → IsTableStep is_of first facts n s rests move s' rests'
  schedules : (actor id : ℕ) (me : Me (Slot H) View) (st : Step (Slot H)) (note : Snapshot (Snapshot H)) (home : H) → actor < n → st.word ≡ word_at actor 16
      → st.said ≡ some (First note) → st.first % 4 ≡ 0 → st.second ≡ st.first + 2 → me.0.claim ≡ None → HasShare me.0
      → slice_index s.words (word_at actor 16) ≡ st.first
      → (made : IsStep (word_at actor 16) id me (λ k. either (k == st.first) st.second k) (takes (slot_at actor 0) (Home home))
      (Schedules is_of facts st me) s s')
      → KnowsLastDrain (slice_index s.words (word_at actor 17)) made.view
      → move ≡ by id actor Schedule → RestsStay rests rests' → IsTableStep is_of first facts n s rests move s' rests'
  misses_status : (actor id : ℕ) (me : Me (Slot H) View) (st : Step (Slot H)) (note : Snapshot (Snapshot H)) → actor < n → st.word ≡ word_at actor 16
      → st.said ≡ some (First note) → slice_index s.words (word_at actor 16) ≢ st.first
      → IsStep (word_at actor 16) id me (λ k. either (k == st.first) st.second k) keeps (Schedules is_of facts st me) s s'
      → move ≡ by id actor Read → RestsStay rests rests' → IsTableStep is_of first facts n s rests move s' rests'
  loads_own_status : (actor id : ℕ) (me : Me (Slot H) View) (st : Step (Slot H)) (c : Held) → actor < n → st.word ≡ word_at actor 16 → me.0.claim ≡ Some c
      → c.actor ≡ actor → IsStep (word_at actor 16) id me (λ k. k) keeps (ReadsHeld st me) s s' → move ≡ Still → RestsStay rests rests'
      → IsTableStep is_of first facts n s rests move s' rests'
  looks_for_claim : (actor id : ℕ) (me : Me (Slot H) View) (st : Step (Slot H)) → actor < n → st.word ≡ word_at actor 16
      → IsStep (word_at actor 16) id me (λ k. k) keeps (ReadsOwnClaim st me) s s' → move ≡ Still → RestsStay rests rests'
      → IsTableStep is_of first facts n s rests move s' rests'
  loads_flag : (actor id : ℕ) (me : Me (Slot H) View) (st : Step (Slot H)) → actor < n → st.word ≡ word_at actor 7
      → IsStep (word_at actor 7) id me (λ k. k) keeps (ReadsFlag st me) s s' → move ≡ Still → RestsStay rests rests'
      → IsTableStep is_of first facts n s rests move s' rests'
  gives_back : (actor id : ℕ) (me : Me (Slot H) View) (st : Step (Slot H)) (status : Mailbox) (left : List SysMsg) → actor < n → st.word ≡ word_at actor 16
      → IsReadyToRelease (is_of first) facts actor status me → status.closed ≡ false → st.first ≡ word_of (idle status)
      → ((held_in me.0).gave ≡ false → left ≡ [])
      → IsStep (word_at actor 16) id me (λ k. st.first) gives (λ k. Idles facts st me st.first) s s'
      → move ≡ by id actor (Idle left) → RestsAre actor (left ++ rests actor) rests rests' → IsTableStep is_of first facts n s rests move s' rests'
  gives_back_closed : (actor id : ℕ) (me : Me (Slot H) View) (st : Step (Slot H)) (status : Mailbox) (left : List SysMsg) → actor < n → st.word ≡ word_at actor 7
      → IsReadyToRelease (is_of first) facts actor status me → status.closed ≡ true → st.first ≡ 1 → ((held_in me.0).gave ≡ false → left ≡ [])
      → IsStep (word_at actor 7) id me (λ k. st.first) gives (λ k. Idles facts st me st.first) s s'
      → move ≡ by id actor (Idle left) → RestsAre actor (left ++ rests actor) rests rests' → IsTableStep is_of first facts n s rests move s' rests'
  counts_sent : (actor id : ℕ) (me : Me (Slot H) View) (st : Step (Slot H)) → actor < n → st.word ≡ word_at actor 0 → st.first ≡ 1 → HasShare me.0
      → IsStep (word_at actor 0) id me (λ k. (k + 1) % 2 ^ 64) keeps (CountsSent st me) s s' → move ≡ by id actor Sent → RestsStay rests rests'
      → IsTableStep is_of first facts n s rests move s' rests'
  takes_count_back : (actor id : ℕ) (me : Me (Slot H) View) (st : Step (Slot H)) → actor < n → st.word ≡ word_at actor 0 → st.first ≡ 1
      → HasShare me.0 → IsTrue (obligation_to actor me.0).sending
      → IsStep (word_at actor 0) id me (λ k. (k + (2 ^ 64 - 1)) % 2 ^ 64) keeps (UncountsSent st me) s s' → move ≡ by id actor Unsent → RestsStay rests rests'
      → IsTableStep is_of first facts n s rests move s' rests'
  counts_taken : (actor id : ℕ) (me : Me (Slot H) View) (st : Step (Slot H)) (c : Held) → actor < n → st.word ≡ word_at actor 0 → st.first ≡ 1
      → me.0.claim ≡ Some c → c.actor ≡ actor
      → IsStep (word_at actor 0) id me (λ k. (k + (2 ^ 64 - 1)) % 2 ^ 64) keeps (CountsTaken st me) s s' → move ≡ by id actor Taken → RestsStay rests rests'
      → IsTableStep is_of first facts n s rests move s' rests'
  loads_count : (actor id : ℕ) (me : Me (Slot H) View) (st : Step (Slot H)) → actor < n → st.word ≡ word_at actor 0
      → IsStep (word_at actor 0) id me (λ k. k) keeps (ReadsWaiting st me) s s' → move ≡ by id actor Count → RestsStay rests rests'
      → IsTableStep is_of first facts n s rests move s' rests'
  looks : (actor id : ℕ) (me : Me (Slot H) View) (st : Step (Slot H)) → actor < n → st.word ≡ word_at actor 17
      → (shows_work (slice_index s.words (word_at actor 17)) ≡ false) ⊎ HasSystemWork (slice_index s.words (word_at actor 17)) (rests actor)
      → IsStep (word_at actor 17) id me (λ k. k) keeps (ReadsGate st me) s s' → move ≡ by id actor SysRead → RestsStay rests rests'
      → IsTableStep is_of first facts n s rests move s' rests'
  finds_mark : (actor id : ℕ) (me : Me (Slot H) View) (st : Step (Slot H)) → actor < n → st.word ≡ word_at actor 17
      → shows_work (slice_index s.words (word_at actor 17)) ≡ true
      → IsStep (word_at actor 17) id me (λ k. k) keeps (ReadsGate st me) s s' → move ≡ Still → RestsStay rests rests'
      → IsTableStep is_of first facts n s rests move s' rests'
  takes_list : (actor id : ℕ) (me : Me (Slot H) View) (st : Step (Slot H)) (list : MessageList) → actor < n → st.word ≡ word_at actor 17
      → st.second ≡ st.first + 1 → me.0.list ≡ None → may_lock_list actor me.0 ≡ true
      → slice_index s.words (word_at actor 17) ≡ st.first
      → IsStep (word_at actor 17) id me (λ k. either (k == st.first) st.second k) (takes (slot_at actor 1) (Listing list)) (LocksList st me) s s'
      → move ≡ Still → RestsStay rests rests' → IsTableStep is_of first facts n s rests move s' rests'
  misses_list : (actor id : ℕ) (me : Me (Slot H) View) (st : Step (Slot H)) → actor < n → st.word ≡ word_at actor 17
      → slice_index s.words (word_at actor 17) ≢ st.first
      → IsStep (word_at actor 17) id me (λ k. either (k == st.first) st.second k) keeps (LocksList st me) s s'
      → move ≡ Still → RestsStay rests rests' → IsTableStep is_of first facts n s rests move s' rests'
  refuses : (actor id : ℕ) (me : Me (Slot H) View) (st : Step (Slot H)) (message : SysMsg) → actor < n → st.word ≡ word_at actor 17 → st.said ≡ some (Note message)
      → st.second ≡ st.first → is_ended st.first ≡ true
      → IsStep (word_at actor 17) id me (λ k. either (k == st.first) st.second k) keeps (Refuses st me) s s'
      → move ≡ Still → RestsStay rests rests' → IsTableStep is_of first facts n s rests move s' rests'
  enlists : (actor id : ℕ) (me : Me (Slot H) View) (st : Step (Slot H)) (l : Lent) (message : SysMsg) → actor < n → st.word ≡ word_at actor 17 → me.0.list ≡ Some l
      → l.actor ≡ actor → me.1 ≡ (slot_at actor 1, Listing (with_last l.listed message)) ∷ tail_of me.1 → NamesBelow n message
      → pushed l.listed + 1 < 2 ^ 64
      → IsStep (word_at actor 17) id me (λ k. st.first) gives (λ k. Enlists st me st.first) s s'
      → move ≡ by id actor (SysAdd message) → RestsStay rests rests' → IsTableStep is_of first facts n s rests move s' rests'
  drains : (actor id : ℕ) (me : Me (Slot H) View) (st : Step (Slot H)) (l : Lent) (c : Held) → actor < n → st.word ≡ word_at actor 17 → me.0.list ≡ Some l
      → l.actor ≡ actor → me.0.claim ≡ Some c → c.actor ≡ actor → st.first ≡ gate_word false (drained l.listed) (is_some_item l.listed.messages)
      → IsStep (word_at actor 17) id me (λ k. st.first) gives (λ k. Drains st me st.first) s s'
      → move ≡ by id actor SysDrain → RestsAre actor [] rests rests' → IsTableStep is_of first facts n s rests move s' rests'
  ends : (actor id : ℕ) (me : Me (Slot H) View) (st : Step (Slot H)) (l : Lent) (c : Held) → actor < n → st.word ≡ word_at actor 17 → me.0.list ≡ Some l
      → l.actor ≡ actor → me.0.claim ≡ Some c → c.actor ≡ actor → c.word ≡ 1 → st.first ≡ gate_word false (ended l.listed) l.gave
      → IsStep (word_at actor 17) id me (λ k. st.first) gives (λ k. Ends st me st.first) s s'
      → move ≡ by id actor SysEnd → RestsAre actor [] rests rests' → IsTableStep is_of first facts n s rests move s' rests'
  finds_drained : (actor id : ℕ) (me : Me (Slot H) View) (st : Step (Slot H)) (c : Held) → actor < n → st.word ≡ word_at actor 17 → me.0.claim ≡ Some c → c.actor ≡
      actor → me.0.list ≡ None → slice_index s.words (word_at actor 17) % 8 ≡ 0
      → IsStep (word_at actor 17) id me (λ k. k) keeps (ChecksDrained st me) s s' → move ≡ by id actor SysDrain → RestsStay rests rests'
      → IsTableStep is_of first facts n s rests move s' rests'
  finds_undrained : (actor id : ℕ) (me : Me (Slot H) View) (st : Step (Slot H)) (c : Held) → actor < n → st.word ≡ word_at actor 17 → me.0.claim ≡ Some c → c.actor
      ≡ actor → me.0.list ≡ None → slice_index s.words (word_at actor 17) % 8 ≢ 0
      → IsStep (word_at actor 17) id me (λ k. k) keeps (ChecksDrained st me) s s' → move ≡ Still → RestsStay rests rests'
      → IsTableStep is_of first facts n s rests move s' rests'
  copies_pass : (id : ℕ) (v : View) → HasShare v → v.list ≡ None → v.claim ≡ None → IsCut id v (halving v) (copied v) s s'
      → move ≡ Split id → RestsStay rests rests'
      → IsTableStep is_of first facts n s rests move s' rests'
  splits_pass : (id : ℕ) (v : View) → HasShare v → v.list ≡ None → v.claim ≡ None → IsCut id v (split_off v) (halving v) s s'
      → move ≡ Split id → RestsStay rests rests'
      → IsTableStep is_of first facts n s rests move s' rests'
  splits_claim : (id : ℕ) (v : View) → HasShare v → v.list ≡ None → IsCut id v (claim_alone v) (without_claim v) s s'
      → move ≡ Split id → RestsStay rests rests'
      → IsTableStep is_of first facts n s rests move s' rests'
  joins : (id other : ℕ) (v w : View) → HasShare w → w.claim ≡ None → w.list ≡ None
      → IsMerge id other v w (taking_over v w) s s' ⊎ IsMerge id other v w (taking_in v w) s s'
      → move ≡ Join id other → RestsStay rests rests' → IsTableStep is_of first facts n s rests move s' rests'
  moves_pass : (id : ℕ) (v : View) → v.list ≡ None → v.claim ≡ None → IsCut id v (moved_out v) (moved_in v) s s' → move ≡ Split id
      → RestsStay rests rests' → IsTableStep is_of first facts n s rests move s' rests'
  joins_passes : (id other : ℕ) (v w : View) → HasShare w → w.claim ≡ None → w.list ≡ None → IsMerge id other v w (together v w) s s'
      → move ≡ Join id other → RestsStay rests rests' → IsTableStep is_of first facts n s rests move s' rests'
  parts_passes : (id : ℕ) (v w : View) → HasShare v → HasShare w → w.claim ≡ None → w.list ≡ None → IsCut id (together v w) v w s s'
      → move ≡ Part id → RestsStay rests rests' → IsTableStep is_of first facts n s rests move s' rests'
  comes_back : (id other : ℕ) (v w : View) → v ≡ blank → w.claim ≡ None → w.list ≡ None → IsMerge id other v w (came_back v w) s s'
      → move ≡ Join id other → RestsStay rests rests' → IsTableStep is_of first facts n s rests move s' rests'
  writes : (actor id : ℕ) (me : Me (Slot H) View) (st : Step (Slot H)) (c : Held) (step : event.Step) → actor < n → st.word ≡ word_at actor 16 → me.0.claim ≡ Some c
      → c.actor ≡ actor → IsTrue (is_valid st.first) → IsHolderStep c.word st.first step
      → IsStep (word_at actor 16) id me (λ k. st.first) keeps (λ k. Writes st me st.first) s s'
      → move ≡ by id actor step → RestsStay rests rests' → IsTableStep is_of first facts n s rests move s' rests'

-- nothing of what was drained is left at any actor, unless its last drain gave something
abbrev pub AreMarked : {H : Type 0} (is_of : ℕ → H → Type 0) (facts : H → HomeFacts) (n : ℕ) (s : State (Slot H) View) → Rule is_of facts n s → Rests → Type 0
AreMarked is_of facts n s r rests = (a : ℕ) → a < n → IsMarked (r.ghosts a) (rests a)

-- Any list of steps of the table, by any seats.
abbrev pub TableSteps : {H : Type 0} (is_of : H → ℕ → H → Type 0) (first : H) (facts : H → HomeFacts) (n : ℕ) (s : State (Slot H) View) → Rests
    → List Move → State (Slot H) View → Rests → Type 0
TableSteps is_of first facts n s rests [] s' rests' = (s' ≡ s) × RestsStay rests rests'
TableSteps {H} is_of first facts n s rests (move ∷ moves) s' rests' =
    (t : State (Slot H) View) × (kept : Rests) × IsTableStep is_of first facts n s rests move t kept
    × TableSteps is_of first facts n t kept moves s' rests'

-- Any list of steps of the table, from one that meets the rule, leads to one that meets it. The steps are an interleaving of the machine's moves, so
-- each table between them meets it too; and what is left then is marked as it was.
abbrev pub TableStepsAreMoves : {H : Type 0} → (H → ℕ → H → Type 0) → H → (H → HomeFacts) → Type 0
TableStepsAreMoves {H} is_of first facts =
    (n : ℕ) (s s' : State (Slot H) View) (r : Rule (is_of first) facts n s) (rests rests' : Rests) (moves : List Move)
    → AreMarked (is_of first) facts n s r rests → TableSteps is_of first facts n s rests moves s' rests'
    → (r' : Rule (is_of first) facts n s') × Interleaving (is_of first) facts n s r rests moves s' r' rests'
    × AreMarked (is_of first) facts n s' r' rests'
