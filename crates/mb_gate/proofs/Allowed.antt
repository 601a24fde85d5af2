-- Each step of the gates is one that the table allows.
use Rattle.std.proofs.Common.{
  ◌≡◌,
  ◌≢◌,
  ℕ,
  ◌+◌,
  ◌/◌,
  ◌%◌,
  ◌==◌,
  ◌<◌,
  if◌then◌else◌,
  ◌⊎◌,
  inl,
  inr,
  ⊎_elim,
  Bool,
  true,
  false,
  ◌||◌,
  IsTrue,
  List,
  [],
  ◌∷◌,
  ◌++◌,
  sym,
  refl,
  ap,
  ◌∙◌,
  subst,
  Option,
  Some,
  None,
  length,
  ◌*◌,
  ◌^◌,
  arith,
  All,
}
use mathlib.Core.Option as maybe
use mathlib.Core.Logic.{dite}
use native.Mathlib.Decide.{ℕ_discrete}
use mathlib.Core.Option.{none, some}
use lib.ListN.{get_elem?}
use prog.Atomic.{either}
use Rattle.std.specs.declared.snapshot.Snapshot.{Snapshot}
use Rattle.mb_status.specs.Mailbox.{word_of, mailbox_of, is_valid}
use Rattle.mb_msg.specs.declared.system.SysMsg.{SysMsg}
use Rattle.mb_syslist.specs.MessageList.{MessageList, with_last, listed, pushed, drained, ended}
use Rattle.atomic_table.specs.Table.{State, Me, Step, step, Allows, Splits, Joins}
use Rattle.atomic_table.specs.Table.{rest as tail_of}
use Rattle.atomic_table.proofs.Lists.{exchanged}
use Rattle.mb_ghost.specs.Layout.{Spot, word_at, slot_at}
use Rattle.mb_ghost.specs.Ruled.{Ruled, RuledStep}
use Rattle.mb_ghost.proofs.RuledLemmas.{allows, splits, joins}
use Rattle.mb_ghost.proofs.SeenLemmas.{each_weaker}
use Rattle.mb_gate.specs.HomeFacts.{HomeFacts}
use Rattle.mb_gate.specs.declared.slot.Slot.{Slot}
use Rattle.mb_gate.specs.declared.slot.Slot.TheVariants.{Home, List as Listing, Note, First}
use Rattle.mb_gate.specs.View.{
  View,
  Read,
  Saw,
  Counted,
  Looked,
  Sent,
  Unsent,
  Took,
  Pushed,
  Drained,
  Ended,
  Held,
  Lent,
  reading,
  taking,
  idling,
  sending,
  unsending,
  counting_off,
  counting,
  looking,
  lending,
  enlisting,
  refusing,
  draining,
  ending,
  blank,
  claim_alone,
  without_claim,
  copied,
  halving,
  split_off,
  taking_over,
  taking_in,
  given_after,
}
use Rattle.mb_gate.specs.Rule.{
  Word,
  Status,
  Flag,
  Gate,
  Waiting,
  word_offset,
  SlotName,
  CellSlot,
  ListSlot,
  slot_offset,
  Ghost,
  Extends,
  IsAmong,
  ObservationHolds,
  Knows,
  has_work,
  is_some_item,
  gate_word,
  all_numbered,
  ListPlace,
  Fact,
}
use Rattle.mb_gate.specs.ListWord.{shows_work}
use Rattle.mb_gate.specs.TableSteps.{
  IsBefore,
  ExtendsSeen,
  IsWord,
  StaysClosed,
  IsHolderChange,
  IsIdleWord,
  Reads,
  Writes,
  CountsSent,
  UncountsSent,
  CountsTaken,
  ReadsWaiting,
  ReadsGate,
  ListLocked,
  LocksList,
  Enlists,
  Refuses,
  Drains,
  Ends,
  ChecksDrained,
  Won,
  Schedules,
  Idles,
}
use Rattle.mb_ghost.specs.Seen.{Each}
use Rattle.mb_gate.specs.Returned.{GoesOn}
use Rattle.mb_gate.specs.Claims.{held_or, ClaimGoesOn, IsKnownClosed}
use Rattle.mb_gate.proofs.Numbers.{length_numbered}
use Rattle.mb_gate.proofs.Views.{drained_nothing}
use Rattle.mb_gate.proofs.StatusSteps.{reads, is_home, is_held, schedules, writes, idles, idles_closed}
use Rattle.mb_gate.proofs.WaitingSteps.{sends, unsends, takes_some, counts, looks, sees, glances}
use Rattle.mb_gate.proofs.ListSteps.{is_shelved, is_lent, grips, enlists, unloads, refuses}
use Rattle.mb_gate.proofs.SplitsAndJoins.{parts, takes_over, each_without, no_counts_on, no_counts_off, no_puts, vouches_without}
use Rattle.mb_gate.specs.Waiting.{on_by, off_by}
use Rattle.mb_gate.specs.PutIn.{put_by}
use Rattle.mb_gate.specs.Releases.{taken_by, back_by}
use Rattle.mb_gate.specs.ClaimCounts.{claims_got, claims_returned, IsOwnBalance, WasHeldBy}
use Rattle.mb_gate.proofs.Whole.{own_balance, was_held}
use Rattle.mb_gate.specs.Lists.{may_lock_list}
use Rattle.mb_gate.specs.NamedActors.{NamesBelow}
use Rattle.mb_ghost.specs.Shares.{halved, half_of, amount}
use Rattle.mb_ghost.proofs.SharesLemmas.{halves_fit, halves_amount}
use Rattle.mb_gate.proofs.Facts.{no_share}

pub some_halved : (share : List ℕ) → is_some_item share ≡ true → is_some_item (halved share) ≡ true
some_halved [] has = has
some_halved (d ∷ ds) has = refl

pub some_half : (share : List ℕ) → is_some_item share ≡ true → is_some_item (half_of share) ≡ true
some_half [] has = has
some_half (d ∷ ds) has = refl

no_more : (m k : ℕ) → k ≡ 0 → m + k ≡ m
no_more m k is_none = omega arith

swapped : (a b c : ℕ) → b + a ≡ c → a + b ≡ c
swapped a b c e = omega arith

none_more : (m : ℕ) → 0 + m ≡ m
none_more m = omega arith

pub words_few : (w : Word) → word_offset w < 32
words_few Status = omega arith
words_few Flag = omega arith
words_few Gate = omega arith
words_few Waiting = omega arith

pub slots_few : (p : SlotName) → slot_offset p < 2
slots_few CellSlot = omega arith
slots_few ListSlot = omega arith

first_same : {A : Type 0} (a b : A) → a ∷ [] ≡ b ∷ [] → a ≡ b
first_same a b e = cc

rest_same : {A : Type 0} (a b : A) (xs ys : List A) → a ∷ xs ≡ b ∷ ys → xs ≡ ys
rest_same a b xs ys e = cc

head_same : {A : Type 0} (a b : A) (xs ys : List A) → a ∷ xs ≡ b ∷ ys → a ≡ b
head_same a b xs ys e = cc

home_same : {H : Type 0} (a b : H) → Home a ≡ Home b → a ≡ b
home_same a b e = cc

list_same : {H : Type 0} (a b : MessageList) → (let x : Slot H = Listing a in x ≡ Listing b) → a ≡ b
list_same a b e = cc

first_same_home : {H : Type 0} (a b : Snapshot (Snapshot H)) → (let x : maybe.Option (Slot H) = some (First a) in x ≡ some (First b)) → a ≡ b
first_same_home a b e = cc

note_same : {H : Type 0} (a b : SysMsg) → (let x : maybe.Option (Slot H) = some (Note a) in x ≡ some (Note b)) → a ≡ b
note_same a b e = cc

some_same : {A : Type 0} (a b : A) → Some a ≡ Some b → a ≡ b
some_same a b e = cc

snoc_same : {A : Type 0} (l : List A) (a b : A) → l ++ a ∷ [] ≡ l ++ b ∷ [] → a ≡ b
snoc_same [] a b e = first_same a b e
snoc_same (x ∷ xs) a b e = snoc_same xs a b (rest_same x x (xs ++ a ∷ []) (xs ++ b ∷ []) e)

same_actor : (a b k : ℕ) → word_at a k ≡ word_at b k → a ≡ b
same_actor a b k e = omega arith

marks : (a b c d : Bool) → shows_work ((if d then 1 else 0) + (if a then 2 else 0) + (if b then 4 else 0) + (if c then 8 else 0)) ≡ (a || b)
marks true true true true = refl
marks true true true false = refl
marks true true false true = refl
marks true true false false = refl
marks true false true true = refl
marks true false true false = refl
marks true false false true = refl
marks true false false false = refl
marks false true true true = refl
marks false true true false = refl
marks false true false true = refl
marks false true false false = refl
marks false false true true = refl
marks false false true false = refl
marks false false false true = refl
marks false false false false = refl

end_mark : (a b c d : Bool) → ((if d then 1 else 0) + (if a then 2 else 0) + (if b then 4 else 0) + (if c then 8 else 0)) / 8 % 2 ≡ 1 → IsTrue c
end_mark a b true d e = refl
end_mark true true false true e = absurd (cc)
end_mark true true false false e = absurd (cc)
end_mark true false false true e = absurd (cc)
end_mark true false false false e = absurd (cc)
end_mark false true false true e = absurd (cc)
end_mark false true false false e = absurd (cc)
end_mark false false false true e = absurd (cc)
end_mark false false false false e = absurd (cc)

no_marks : (a b c d : Bool) → ((if d then 1 else 0) + (if a then 2 else 0) + (if b then 4 else 0) + (if c then 8 else 0)) % 8 ≡ 0 → (a ≡ false) ×
    (b ≡ false)
no_marks true true true true e = absurd (cc)
no_marks true true false true e = absurd (cc)
no_marks true false true true e = absurd (cc)
no_marks true false false true e = absurd (cc)
no_marks false true true true e = absurd (cc)
no_marks false true false true e = absurd (cc)
no_marks false false true true e = absurd (cc)
no_marks false false false true e = absurd (cc)
no_marks true true true false e = absurd (cc)
no_marks true true false false e = absurd (cc)
no_marks true false true false e = absurd (cc)
no_marks true false false false e = absurd (cc)
no_marks false true true false e = absurd (cc)
no_marks false true false false e = absurd (cc)
no_marks false false true false e = (refl, refl)
no_marks false false false false e = (refl, refl)

-- all that is listed counts as given once it is taken out
given_listed : (l : MessageList) → (l.given + length l.messages) % 2 ^ 64 ≡ given_after l.given (listed l)
given_listed l = ap (λ k. (l.given + k) % 2 ^ 64) (sym (length_numbered l.given l.messages))

-- a gate's word shows whether there is system work, also while the list is out
pub marked : (out : Bool) (l : MessageList) (gave : Bool) → shows_work (gate_word out l gave) ≡ (is_some_item l.messages || gave)
marked out l gave = marks (is_some_item l.messages) gave l.closed out

module _ {H : Type 0} (is_of : ℕ → H → Type 0) (facts : H → HomeFacts) where
  abbrev F : ℕ → ℕ → Spot Word SlotName (Slot H) Ghost → List View → Type 0
  F n = Fact is_of facts n

  abbrev M : Type 0
  M = Me (Slot H) View

  abbrev Place : Type 0
  Place = Spot Word SlotName (Slot H) Ghost

  abbrev Rule : ℕ → State (Slot H) View → Type 0
  Rule n = Ruled word_offset slot_offset n (F n)

  still_closed : (actor : ℕ) (x : Place) (v : View) → (IsTrue x.ghost.listed.closed → x.row Status ≡ 1) → Knows actor x v → StaysClosed actor
      (x.row Status) v
  still_closed actor x v ended k = each_weaker (ObservationHolds actor x) (IsWord actor (x.row Status)) v.log
      (λ s. elim s as (λ z. ObservationHolds actor x z → IsWord actor (x.row Status) z) [
        | Read a word ↦ (λ h. h)
        | Saw a j ↦ (λ h. tt)
        | Counted a n ↦ (λ h. h)
        | Looked a b ↦ (λ h. h)
        | Sent a n ↦ (λ h. h)
        | Unsent a n ↦ (λ h. h)
        | Took a n ↦ (λ h. h)
        | Pushed a n m ↦ (λ h. tt)
        | Drained a given ↦ (λ h. tt)
        | Ended a given ↦ (λ h e. ended (h e).0)
      ]) k.seen

  goes_further : (actor : ℕ) (x : Place) (v : View) → (IsTrue x.ghost.listed.closed → x.row Status ≡ 1) → x.row Status ≢ 1
      → Knows actor x v → ExtendsSeen actor x.ghost.journal v
  goes_further actor x v ended unshut k = each_weaker (ObservationHolds actor x) (IsBefore actor x.ghost.journal) v.log
      (λ s. elim s as (λ z. ObservationHolds actor x z → IsBefore actor x.ghost.journal z) [
        | Read a word ↦ (λ h e one. unshut (h e one))
        | Saw a j ↦ (λ h. h)
        | Counted a n ↦ (λ h. h)
        | Looked a b ↦ (λ h. h)
        | Sent a n ↦ (λ h. h)
        | Unsent a n ↦ (λ h. h)
        | Took a n ↦ (λ h. h)
        | Pushed a n m ↦ (λ h. tt)
        | Drained a given ↦ (λ h. tt)
        | Ended a given ↦ (λ h e. unshut (ended (h e).0))
      ]) k.seen

  goes_on_from : (actor : ℕ) (x : Place) (v : View) → Knows actor x v → Each (GoesOn actor x.ghost.journal) v.log
  goes_on_from actor x v k = each_weaker (ObservationHolds actor x) (GoesOn actor x.ghost.journal) v.log
      (λ s. elim s as (λ z. ObservationHolds actor x z → GoesOn actor x.ghost.journal z) [
        | Read a word ↦ (λ h. tt)
        | Saw a j ↦ (λ h. h)
        | Counted a n ↦ (λ h. h)
        | Looked a b ↦ (λ h. h)
        | Sent a n ↦ (λ h. h)
        | Unsent a n ↦ (λ h. h)
        | Took a n ↦ (λ h. h)
        | Pushed a n m ↦ (λ h. tt)
        | Drained a given ↦ (λ h. tt)
        | Ended a given ↦ (λ h. tt)
      ]) k.seen

  shown_by : (x : Place) (lent_to : Option (ℕ × Lent)) → ListPlace is_of facts x lent_to
      → has_work x.ghost ≡ shows_work (x.row Gate)
  shown_by x None k = sym (ap shows_work k.word ∙ marked false x.ghost.listed x.ghost.gave)
  shown_by x (Some h) k = sym (ap shows_work k.word ∙ marked true x.ghost.listed x.ghost.gave)

  ends_by : (x : Place) (lent_to : Option (ℕ × Lent)) → ListPlace is_of facts x lent_to → x.row Gate / 8 % 2 ≡ 1
      → IsTrue
      x.ghost.listed.closed
  ends_by x None k e = end_mark (is_some_item x.ghost.listed.messages) x.ghost.gave x.ghost.listed.closed false (ap (λ z. z / 8 % 2)
      (sym k.word) ∙ e)
  ends_by x (Some h) k e = end_mark (is_some_item x.ghost.listed.messages) x.ghost.gave x.ghost.listed.closed true (ap (λ z. z / 8 % 2) (sym
      k.word) ∙ e)

  gave_by : (x : Place) (lent_to : Option (ℕ × Lent)) → ListPlace is_of facts x lent_to → x.row Gate % 8 ≡ 0
      → (is_some_item
      x.ghost.listed.messages ≡ false) × (x.ghost.gave ≡ false)
  gave_by x None k e = no_marks (is_some_item x.ghost.listed.messages) x.ghost.gave x.ghost.listed.closed false (ap (λ z. z % 8) (sym k.word) ∙ e)
  gave_by x (Some h) k e = no_marks (is_some_item x.ghost.listed.messages) x.ghost.gave x.ghost.listed.closed true (ap (λ z. z % 8) (sym k.word) ∙ e)

  -- the claim knows how many were given of the list that is out
  same_given : (n actor id : ℕ) (me : M) (x : Place) (vs : List View) (c : Held) (l : Lent) → F n actor x vs → get_elem? vs id ≡ some me.0
      → me.0.claim ≡ Some c → c.actor ≡ actor → me.0.list ≡ Some l → l.actor ≡ actor → (l' : Lent) (c' : Held) → me.0.list ≡ Some l' → me.0.claim
      ≡ Some c' → l'.listed.given ≡ c'.given
  same_given n actor id me x vs c l f at has of keeps of_list l' c' list' claim' =
      ap (λ (h : Lent). h.listed.given) (some_same l' l (sym list' ∙ keeps))
      ∙ (ap (λ (z : MessageList). z.given)
      (is_lent is_of facts n actor id x vs me.0 l f at keeps of_list).1.taken
      ∙ (sym (is_held is_of facts n actor id x vs me.0 c f at has of).1.count ∙ ap (λ (h : Held). h.given)
      (some_same c c' (sym has ∙ claim'))))

  -- what is listed in the list that is out names actors alone, of which the table has so many
  same_named : (n slots actor id : ℕ) (me : M) (x : Place) (vs : List View) (l : Lent) → slots ≡ 2 * n → F n actor x vs → get_elem? vs id ≡ some me.0
      → me.0.list ≡ Some l → l.actor ≡ actor → (l' : Lent) → me.0.list ≡ Some l' → (actors : ℕ) → slots ≡ 2 * actors
      → All (NamesBelow actors) l'.listed.messages
  same_named n slots actor id me x vs l slot_count f at keeps of_list l' list' actors slot_count' =
      let taken : l.listed ≡ x.ghost.listed = (is_lent is_of facts n actor id x vs me.0 l f at keeps
      of_list).1.taken in
      let many : n ≡ actors = omega arith in
      subst (λ (k : ℕ). All (NamesBelow k) l'.listed.messages) many (subst (λ (z : Lent). All (NamesBelow n) z.listed.messages) (some_same l l'
      (sym keeps ∙ list')) (subst (λ (z : MessageList). All (NamesBelow n) z.messages) (sym taken) f.named))

  module _ (n slots id : ℕ) (me : M) (actor i : ℕ) (inside : actor < n) where
    told_read : (x : Place) (vs : List View) → F n actor x vs → get_elem? vs id ≡ some me.0 → (a : ℕ) → word_at actor 16 ≡ word_at a 16
        → (let now : M = (reading actor (x.row Status) me.0, me.1) in (now ≡ (reading a (x.row Status) me.0, me.1)) × IsTrue (is_valid (x.row
        Status)) × StaysClosed a (x.row Status) me.0)
    told_read x vs f at a e = subst (λ (b : ℕ). (let now : M = (reading actor (x.row Status) me.0, me.1) in (now ≡ (
      reading b (x.row Status)
          me.0,
      me.1,
    )) × IsTrue (is_valid (x.row Status)) × StaysClosed b (x.row Status) me.0))
        (same_actor actor a 16 e) (refl, f.valid, still_closed actor x me.0 f.ended (f.seen id me.0 at))

    pub reads_allowed : i ≡ word_at actor 16 → Allows (Rule n) slots id me i (λ k. k) (Reads (step slots i 0 0 none) me)
    reads_allowed e = subst (λ j. Allows (Rule n) slots id me j (λ k. k) (Reads (step slots j 0 0 none) me)) (sym e)
        (allows word_offset slot_offset words_few slots_few n (F n) slots id me actor Status (λ k. k) (Reads (step slots (word_at actor 16) 0 0 none)
        me) inside
        (λ x vs f at fits. reads is_of facts n actor id me (Reads (step slots (word_at actor 16) 0 0 none) me
        (x.row Status)) x vs
        f at (told_read x vs f at)))

    pub writes_allowed : (c : Held) (new : ℕ) → i ≡ word_at actor 16 → me.0.claim ≡ Some c → c.actor ≡ actor → IsTrue (is_valid new) → (new % 4 ≡
        2) ⊎ (new ≡ 1) → (c.word ≡ 1 → new ≡ 1) → IsHolderChange (mailbox_of c.word) (mailbox_of new)
        → Allows (Rule n) slots id me i (λ _. new) (λ _. Writes (step slots i new 0 none) me new)
    writes_allowed c new e has of valid busy closed change = subst (λ j. Allows (Rule n) slots id me j (λ _. new) (λ _. Writes (step slots j new 0 none)
        me new)) (sym e)
        (allows word_offset slot_offset words_few slots_few n (F n) slots id me actor Status (λ _. new) (λ _. Writes (step slots (word_at actor 16)
        new 0 none) me new) inside
        (λ x vs f at fits. writes is_of facts n actor id me c new (Writes (step slots
        (word_at actor 16) new 0 none) me new) x vs f
        at has of valid busy closed (
          refl,
          (λ c' has'. subst (λ (h : Held). IsHolderChange (mailbox_of h.word) (mailbox_of new)) (some_same c c' (sym has ∙ has'))
              change),
        )))

    claim_goes_on : (c : Held) (x : Place) (vs : List View) → F n actor x vs → get_elem? vs id ≡ some me.0 → me.0.claim ≡ Some c → c.actor ≡ actor
        → ClaimGoesOn actor me.0
    claim_goes_on c x vs f at has of = subst (λ j. Each (GoesOn actor j) me.0.log)
        (sym (ap (λ z. (held_or z).journal) has ∙ (is_held is_of facts n actor id x vs me.0 c f at has of).1.taken))
        (goes_on_from actor x me.0 (f.seen id me.0 at))

    told_idle : (home : H) (st : Step (Slot H)) (k : ℕ) → me.1 ≡ (slot_at actor 0, Home home) ∷ [] → IsIdleWord st actor k me.0 → ClaimGoesOn actor me.0
        → Idles facts st me k (idling actor (facts home).journal me.0, [])
    told_idle home st k carried bit further a other other_carried =
        let same : (slot_at actor 0, Home home) ≡ (slot_at a 0, Home other) = first_same _ _ (sym carried ∙ other_carried) in
        let where_is : slot_at actor 0 ≡ slot_at a 0 = ap (λ (z : ℕ × Slot H). z.0) same in
        let what : home ≡ other = home_same home other (ap (λ (z : ℕ × Slot H). z.1) same) in
        let who : actor ≡ a = omega arith in (
          (λ z. (idling (who z) (facts (what z)).journal me.0, [])),
          subst (λ b. IsIdleWord st b k me.0) who bit,
          subst (λ b. ClaimGoesOn b me.0) who further,
        )

    pub idles_allowed : (c : Held) (home : H) (new : ℕ) → i ≡ word_at actor 16 → me.0.claim ≡ Some c → c.actor ≡ actor → me.1 ≡ (
      slot_at actor 0,
      Home home,
    ) ∷ [] → is_of actor home → Extends (facts home).journal c.journal → (facts home).given ≡ c.given
        → Each (λ b. IsKnownClosed b c.closed_to me.0) (facts home).closed_to → Each (λ m. IsAmong m c.drained) (facts home).drained
        → (c.word % 4 ≡ 2 → c.word ≡ new + 2) → c.word ≢ 1 → IsTrue (is_valid new) → new % 4 ≡ 0 → new ≡ word_of (facts home).mailbox → (c.gave ≡ false → (facts home).no_backlog)
        → is_some_item me.0.share ≡ true
        → Allows (Rule n) slots id me i (λ _. new) (λ _. Idles facts (step slots i new 0 none) me new)
    idles_allowed c home new e has of carried of_actor longer count known gave bit unshut valid free word rest share = subst (λ j. Allows (Rule n) slots id me j
        (λ _. new) (λ _.
        Idles facts (step slots j new 0 none) me new)) (sym e)
        (allows word_offset slot_offset words_few slots_few n (F n) slots id me actor Status (λ _. new) (λ _. Idles facts
        (step slots (word_at actor 16) new 0 none) me new) inside
        (λ x vs f at fits. idles is_of facts n actor id me c home new (Idles facts (step slots (word_at
        actor 16) new 0 none) me new) x vs f at has of carried of_actor longer count known gave unshut valid free word rest share
        (told_idle home (step slots (word_at actor 16) new 0 none) new carried (λ c' has'. (
          (λ _. ap (λ (h : Held). h.word) (some_same c' c (sym has' ∙ has)) ∙ bit (let h = (is_held is_of facts n actor id x vs me.0 c f at has of).1 in
              ⊎_elim (λ two. ap (λ k. k % 4) (sym h.word) ∙ two) (λ one. absurd (unshut (sym h.word ∙ one))) h.busy)),
          (λ flag. absurd (omega arith)),
        )) (claim_goes_on c x vs f at has of))))

    pub idles_closed_allowed : (c : Held) (home : H) → i ≡ word_at actor 7 → me.0.claim ≡ Some c → c.actor ≡ actor → me.1 ≡ (
      slot_at actor 0,
      Home home,
    ) ∷ [] → is_of actor home → Extends (facts home).journal c.journal → (facts home).given ≡ c.given
        → Each (λ b. IsKnownClosed b c.closed_to me.0) (facts home).closed_to → Each (λ m. IsAmong m c.drained) (facts home).drained
        → c.word ≡ 1 → 1 ≡ word_of (facts home).mailbox → (facts home).no_backlog → is_some_item me.0.share ≡ true
        → Allows (Rule n) slots id me i (λ _. 1) (λ _. Idles facts (step slots i 1 0 none) me 1)
    idles_closed_allowed c home e has of carried of_actor longer count known gave closed word rest share = subst (λ j. Allows (Rule n) slots id me j (λ _. 1)
        (λ _. Idles facts (step slots j 1 0 none) me 1)) (sym e)
        (allows word_offset slot_offset words_few slots_few n (F n) slots id me actor Flag (λ _. 1) (λ _. Idles facts (step
        slots (word_at actor 7) 1 0 none) me 1) inside
        (λ x vs f at fits. idles_closed is_of facts n actor id me c home (Idles facts (step slots (word_at
        actor 7) 1 0 none) me 1) x vs f at has of carried of_actor longer count known gave closed word rest share
        (told_idle home (step slots (word_at actor 7) 1 0 none) 1 carried (λ c' has'. (
          (λ status. absurd (omega arith)),
          (λ _. ap (λ (h : Held). h.word) (some_same c' c (sym has' ∙ has)) ∙ closed),
        )) (claim_goes_on c x vs f at has of))))

    pub sends_allowed : (g : ℕ → ℕ) (k : ℕ) → ((w : ℕ) → g w % 2 ^ 64 ≡ (w + k) % 2 ^ 64) → is_some_item me.0.share ≡ true → i ≡ word_at actor 0
        → Allows (Rule n) slots id me i g (CountsSent (step slots i k 0 none) me)
    sends_allowed g k more share e = subst (λ j. Allows (Rule n) slots id me j g (CountsSent (step slots j k 0 none) me)) (sym e)
        (allows word_offset slot_offset words_few slots_few n (F n) slots id me actor Waiting g (CountsSent (step slots (word_at actor 0) k 0 none) me)
        inside
        (λ x vs f at fits. sends is_of facts n actor id (g (x.row Waiting)) k me (CountsSent (step slots
        (word_at actor 0) k 0 none) me
        (x.row Waiting)) x vs f at share (more (x.row Waiting))
        (λ a w z. (sending (same_actor actor a 0 w z) k me.0, me.1))))

    pub unsends_allowed : (g : ℕ → ℕ) (k : ℕ) → ((w : ℕ) → (g w + k) % 2 ^ 64 ≡ w % 2 ^ 64) → is_some_item me.0.share ≡ true → i ≡ word_at actor 0
        → Allows (Rule n) slots id me i g (UncountsSent (step slots i k 0 none) me)
    unsends_allowed g k less share e = subst (λ j. Allows (Rule n) slots id me j g (UncountsSent (step slots j k 0 none) me)) (sym e)
        (allows word_offset slot_offset words_few slots_few n (F n) slots id me actor Waiting g (UncountsSent (step slots (word_at actor 0) k 0 none) me)
        inside
        (λ x vs f at fits. unsends is_of facts n actor id (g (x.row Waiting)) k me (UncountsSent (step slots
        (word_at actor 0) k 0 none)
        me (x.row Waiting)) x vs f at share (less (x.row Waiting))
        (λ a w z. (unsending (same_actor actor a 0 w z) k me.0, me.1))))

    pub takes_allowed : (c : Held) (g : ℕ → ℕ) (k : ℕ) → ((w : ℕ) → (g w + k) % 2 ^ 64 ≡ w % 2 ^ 64) → i ≡ word_at actor 0 → me.0.claim ≡ Some c
        → c.actor ≡ actor → Allows (Rule n) slots id
        me i g (CountsTaken (step slots i k 0 none) me)
    takes_allowed c g k less e has of = subst (λ j. Allows (Rule n) slots id me j g (CountsTaken (step slots j k 0 none) me)) (sym e)
        (allows word_offset slot_offset words_few slots_few n (F n) slots id me actor Waiting g (CountsTaken (step slots
        (word_at actor 0) k 0 none) me) inside
        (λ x vs f at fits. takes_some is_of facts n actor id (g (x.row Waiting)) k me c (CountsTaken
        (step slots (word_at actor 0) k 0
        none) me (x.row Waiting)) x vs f at has of (less (x.row Waiting)) (λ a w z. (counting_off (same_actor actor a 0 w z) k me.0, me.1))))

    pub counts_allowed : i ≡ word_at actor 0 → Allows (Rule n) slots id me i (λ k. k) (ReadsWaiting (step slots i 0 0 none) me)
    counts_allowed e = subst (λ j. Allows (Rule n) slots id me j (λ k. k) (ReadsWaiting (step slots j 0 0 none) me)) (sym e)
        (allows word_offset slot_offset words_few slots_few n (F n) slots id me actor Waiting (λ k. k) (ReadsWaiting (step slots (word_at actor 0) 0 0
        none) me) inside
        (λ x vs f at fits. counts is_of facts n actor id me (ReadsWaiting (step slots (word_at actor 0) 0 0 none) me
        (x.row Waiting)) x
        vs f at
        (λ a w. (
          (λ z. (counting (same_actor actor a 0 w z) (x.row Waiting) me.0, me.1)),
          subst (λ b. IsOwnBalance b (x.row Waiting) me.0) (same_actor actor a 0 w)
              (λ whole. own_balance is_of facts n actor x vs id me.0 f at whole whole),
        ))))

    pub looks_allowed : i ≡ word_at actor 17 → Allows (Rule n) slots id me i (λ k. k) (ReadsGate (step slots i 0 0 none) me)
    looks_allowed e = subst (λ j. Allows (Rule n) slots id me j (λ k. k) (ReadsGate (step slots j 0 0 none) me)) (sym e)
        (allows word_offset slot_offset words_few slots_few n (F n) slots id me actor Gate (λ k. k) (ReadsGate (step slots (word_at actor 17) 0 0 none)
        me) inside
        (λ x vs f at fits. looks is_of facts n actor id me (shows_work (x.row Gate)) (ReadsGate (step slots
        (word_at actor 17) 0 0
        none) me (x.row Gate)) x vs (shown_by x x.ghost.lent_to f.list_place) f at
        (λ a w z. (looking (same_actor actor a 17 w z) (shows_work (x.row Gate)) me.0, me.1))))

    pub grips_allowed : (old new : ℕ) → i ≡ word_at actor 17 → old % 2 ≡ 0 → new ≡ old + 1 → me.0.list ≡ None → may_lock_list actor me.0 ≡ true
        → Allows (Rule n) slots id me i (λ
        k. either (k == old) new k) (LocksList (step slots i old new none) me)
    grips_allowed old new e even is_new bare may = subst (λ j. Allows (Rule n) slots id me j (λ k. either (k == old) new k) (LocksList (step slots j old
        new none) me)) (sym e)
        (allows word_offset slot_offset words_few slots_few n (F n) slots id me actor Gate (λ k. either (k == old) new k) (LocksList (step slots (word_at
        actor 17) old new none) me) inside
        (λ x vs f at fits. let tell = LocksList (step slots (word_at actor 17) old new none) me (x.row Gate) in
        exchanged (x.row Gate) old new (λ k. RuledStep word_offset slot_offset (F n) actor id me Gate k tell x vs)
        (λ hit. let here : x.row Gate % 2 ≡ 0 = ap (λ k. k % 2) hit ∙ even in
        subst (λ k. RuledStep word_offset slot_offset (F n) actor id me Gate k tell x vs) (sym is_new)
        (grips is_of facts n actor id me old tell x vs f at here hit bare may
        (λ a w. subst (λ (b : ℕ). (let now : M = (
          lending actor x.ghost.listed x.ghost.gave me.0,
          (slot_at actor 1, Listing x.ghost.listed) ∷ me.1,
        ) in
        (x.row Gate ≡ old → ListLocked b (x.row Gate) me now) × (x.row Gate ≢ old → now ≡ me))) (same_actor actor a 17 w) (
          (λ _. record {
            listed = x.ghost.listed;
            gave = x.ghost.gave;
            word = (is_shelved is_of facts n actor x vs f here).1.word;
            now = refl;
          }),
          (λ miss. absurd (miss hit)),
        ))))
        (λ miss. glances is_of facts n actor id Gate me tell x vs f at (λ a w. (
          (λ hit. absurd (miss hit)),
          (λ _. refl),
        )))))

    told_enlist : (l : Lent) (m : SysMsg) (st : Step (Slot H)) (k : ℕ) → me.0.list ≡ Some l → l.actor ≡ actor → me.1 ≡ (
      slot_at actor 1,
      Listing
          (with_last l.listed m),
    ) ∷ tail_of me.1
        → k ≡ gate_word false (with_last l.listed m) l.gave → l.listed.closed ≡ false
        → Enlists st me k (enlisting actor (pushed l.listed) m me.0, tail_of me.1)
    told_enlist l m st k has of carried word unended a l' m' has' carried' =
        let same : (slot_at actor 1, Listing (with_last l.listed m)) ≡ (slot_at a 1, Listing (with_last l'.listed m')) = head_same _ _ _ _ (sym
        carried ∙ carried') in
        let where_is : slot_at actor 1 ≡ slot_at a 1 = ap (λ (z : ℕ × Slot H). z.0) same in
        let who : actor ≡ a = omega arith in
        let lent : l ≡ l' = some_same l l' (sym has ∙ has') in
        let lists : with_last l.listed m ≡ with_last l.listed m' = list_same {H = H} (with_last l.listed m) (with_last l.listed m') (ap (λ (z : ℕ
        × Slot H). z.1) same ∙ (λ z. Listing (with_last (sym lent z).listed m'))) in
        let what : m ≡ m' = snoc_same l.listed.messages m m' (ap (λ (z : MessageList). z.messages) lists) in (
          (λ z. (
            enlisting (who z) (pushed (lent z).listed) (what z)
                me.0,
            tail_of me.1,
          )),
          word ∙ (λ z. gate_word false (with_last (lent z).listed (what z)) (lent z).gave),
          subst (λ (z : Lent). z.listed.closed ≡ false) lent unended,
        )

    pub enlists_allowed : (l : Lent) (m : SysMsg) (new : ℕ) → i ≡ word_at actor 17 → me.0.list ≡ Some l → l.actor ≡ actor → me.1 ≡ (
      slot_at actor
          1,
      Listing (with_last l.listed m),
    ) ∷ tail_of me.1
        → new ≡ gate_word false (with_last l.listed m) l.gave → l.listed.closed ≡ false → NamesBelow n m → pushed l.listed + 1 < 2 ^ 64
        → Allows (Rule n) slots id me i (λ _. new) (λ _. Enlists (step slots i
        new 0 none) me new)
    enlists_allowed l m new e has of carried word unended names few =
        subst (λ j. Allows (Rule n) slots id me j (λ _. new) (λ _. Enlists (step slots j new 0 none) me new)) (sym e)
        (allows word_offset slot_offset words_few slots_few n (F n) slots id me actor Gate (λ _. new) (λ _. Enlists (step slots (word_at actor 17) new
        0 none) me new) inside
        (λ x vs f at fits. enlists is_of facts n actor id new me l m (Enlists (step slots
        (word_at actor 17) new 0 none) me new) x
        vs f at has of carried word names few
        (told_enlist l m (step slots (word_at actor 17) new 0 none) new has of carried word unended)))

    pub drains_allowed : (c : Held) (l : Lent) (new : ℕ) → i ≡ word_at actor 17 → slots ≡ 2 * n → me.0.claim ≡ Some c → c.actor ≡ actor
        → me.0.list ≡ Some l → l.actor ≡ actor
        → me.1 ≡ (slot_at actor 1, Listing (drained l.listed)) ∷ tail_of me.1 → new ≡ gate_word false (drained l.listed) (is_some_item
        l.listed.messages)
        → Allows (Rule n) slots id me i (λ _. new) (λ _. Drains (step slots i new 0 none) me new)
    drains_allowed c l new e slot_count has of keeps of_list carried word = subst (λ j. Allows (Rule n) slots id me j (λ _. new) (λ _. Drains (step slots j
        new 0 none) me new)) (sym e)
        (allows word_offset slot_offset words_few slots_few n (F n) slots id me actor Gate (λ _. new) (λ _. Drains (step slots (word_at actor 17) new
        0 none) me new) inside
        (λ x vs f at fits. unloads is_of facts n actor id new (Drained actor (listed l.listed)) me c l
        (drained l.listed) (is_some_item l.listed.messages) (Drains (step slots (word_at actor 17) new 0 none) me new) x vs f at
        has of keeps of_list carried word refl (λ e. e) (λ e. inl e) (given_listed l.listed) (λ a. (refl, refl, λ q. refl)) (λ a z e w. (e (sym w)).1)
        (λ l' c' has' claim'. (
          (λ z. (
            draining ((sym of_list ∙ ap (λ (h : Lent). h.actor) (some_same l l' (sym keeps
                ∙ has'))) z) (listed (some_same l l' (sym keeps ∙ has') z).listed) (is_some_item (some_same l l' (sym keeps ∙ has')
                z).listed.messages) me.0,
            tail_of me.1,
          )),
          same_given n actor id me x vs c l f at has of keeps of_list l' c' has' claim',
          same_named n slots actor id me x vs l slot_count f at keeps of_list l' has',
          subst (λ (z : Lent). me.1 ≡ (slot_at z.actor 1, Listing (drained z.listed)) ∷ tail_of me.1) (some_same l l' (sym keeps ∙ has')) (subst (λ b. me.1 ≡ (
            slot_at b 1,
            Listing (drained l.listed),
          ) ∷ tail_of me.1) (sym of_list) carried),
        ))))

    pub ends_allowed : (c : Held) (l : Lent) (new : ℕ) → i ≡ word_at actor 17 → slots ≡ 2 * n → me.0.claim ≡ Some c → c.actor ≡ actor
        → me.0.list ≡ Some l → l.actor ≡ actor
        → me.1 ≡ (slot_at actor 1, Listing (ended l.listed)) ∷ tail_of me.1 → new ≡ gate_word false (ended l.listed) l.gave → c.word ≡ 1
        → Allows (Rule n) slots id me i (λ _. new) (λ _. Ends (step slots i new 0 none) me new)
    ends_allowed c l new e slot_count has of keeps of_list carried word closed =
        subst (λ j. Allows (Rule n) slots id me j (λ _. new) (λ _. Ends (step slots j new 0 none) me new)) (sym e)
        (allows word_offset slot_offset words_few slots_few n (F n) slots id me actor Gate (λ _. new) (λ _. Ends (step slots (word_at actor 17) new 0
        none) me new) inside
        (λ x vs f at fits.
        let gave : l.gave ≡ c.gave = (is_lent is_of facts n actor id x vs me.0 l f at keeps of_list).1.gave
        ∙ sym (is_held is_of
        facts n actor id x vs me.0 c f at has of).1.gave in
        unloads is_of facts n actor id new (Ended actor (listed l.listed)) me c l (ended l.listed)
        l.gave (Ends (step slots (word_at actor 17) new 0 none) me new) x vs f at
        has of keeps of_list carried word refl (λ e. refl) (λ e. inr closed) (given_listed l.listed) (λ a. (refl, refl, λ q. refl))
        (λ a z e w. (ap (λ (m : MessageList). m.closed) (e (sym w)).0, (e (sym w)).1))
        (λ l' c' list' claim'. (
          (λ z. (
            ending ((sym of_list ∙ ap (λ (h : Lent). h.actor) (some_same l l' (sym keeps ∙ list'))) z) (listed (some_same l l' (sym keeps
                ∙ list') z).listed) ((gave ∙ ap (λ (h : Held). h.gave) (some_same c
                c' (sym has ∙ claim'))) z) me.0,
            tail_of me.1,
          )),
          same_given n actor id me x vs c l f at has of keeps of_list l' c' list' claim',
          same_named n slots actor id me x vs l slot_count f at keeps of_list l' list',
          subst (λ (z : Lent). me.1 ≡ (slot_at z.actor 1, Listing (ended z.listed)) ∷ tail_of me.1) (some_same l l' (sym keeps ∙ list')) (subst (λ b. me.1 ≡ (
            slot_at b 1,
            Listing (ended l.listed),
          ) ∷ tail_of me.1) (sym of_list) carried),
        ))))

    pub glances_allowed : i ≡ word_at actor 17 → Allows (Rule n) slots id me i (λ k. k) (ChecksDrained (step slots i 0 0 none) me)
    glances_allowed e = subst (λ j. Allows (Rule n) slots id me j (λ k. k) (ChecksDrained (step slots j 0 0 none) me)) (sym e)
        (allows word_offset slot_offset words_few slots_few n (F n) slots id me actor Gate (λ k. k) (ChecksDrained (step slots (word_at actor 17) 0 0 none)
        me) inside
        (λ x vs f at fits. let tell = ChecksDrained (step slots (word_at actor 17) 0 0 none) me (x.row Gate) in
        dite (ℕ_discrete (x.row Gate % 8) 0)
        (λ hit. sees is_of facts n actor id Gate (Drained actor []) me tell x vs
        (λ a y e. record { before = []; after = all_numbered y.ghost; joined = refl }) (λ a. (refl, refl, λ q. refl)) f at
        (λ a c w has of bare. let who : actor ≡ a = same_actor actor a 17 w in
        let gave : c.gave ≡ false = (is_held is_of facts n actor id x vs me.0 c f at has (of ∙ sym who)).1.gave
        ∙ (gave_by x
        x.ghost.lent_to f.list_place hit).1 in
        let small : c.given < 2 ^ 64 = (let one = (is_held is_of facts n actor id x vs me.0 c f at has (of ∙ sym
        who)).1.count in let two = f.listing.counted in omega arith) in (
          (λ _ z. ((drained_nothing actor c me.0 has bare gave small ∙ (λ j. draining (who j) [] false me.0)) z, me.1)),
          (λ miss. absurd
              (miss hit)),
        )))
        (λ miss. sees is_of facts n actor id Gate (Looked actor true) me tell x vs (λ a y. tt) (λ a. (refl, refl, λ q. refl)) f at (λ a c w has of bare. (
          (λ hit. absurd (miss hit)),
          (λ _ z. (looking (same_actor actor a 17 w z) true me.0, me.1)),
        )))))

    pub refuses_allowed : (old : ℕ) (m : SysMsg) → i ≡ word_at actor 17 → old / 8 % 2 ≡ 1 → Allows (Rule n) slots id me i (λ k. either (k == old)
        old k) (Refuses (step slots i old old (some (Note m))) me)
    refuses_allowed old m e shut = subst (λ j. Allows (Rule n) slots id me j (λ k. either (k == old) old k) (Refuses (step slots j old old (some
        (Note m))) me)) (sym e)
        (allows word_offset slot_offset words_few slots_few n (F n) slots id me actor Gate (λ k. either (k == old) old k) (Refuses (step slots
        (word_at actor 17) old old (some (Note m))) me) inside
        (λ x vs f at fits. let tell = Refuses (step slots (word_at actor 17) old old (some (Note m))) me (x.row Gate) in
        exchanged (x.row Gate) old old (λ k. RuledStep word_offset slot_offset (F n) actor id me Gate k tell x vs)
        (λ hit. subst (λ k. RuledStep word_offset slot_offset (F n) actor id me Gate k tell x vs) hit
        (let ended = ends_by x x.ghost.lent_to f.list_place (ap (λ k. k / 8 % 2) hit ∙ shut) in
        refuses is_of facts n actor id me m tell x vs f at ended
        (λ a m' w sent_system. let who : actor ≡ a = same_actor actor a 17 w in let what : m ≡ m' = note_same {H = H} m m' sent_system in
        let had : WasHeldBy actor me.0 = (λ whole. was_held is_of facts n actor x vs id me.0 f at whole
        (f.ended ended)) in
        ((λ _. ((λ z. (refusing (who z) (what z) me.0, me.1)), subst (λ b. WasHeldBy b me.0) who had)), (λ miss. absurd (miss hit))))))
        (λ miss. glances is_of facts n actor id Gate me tell x vs f at (λ a m' w sent_system. (
          (λ hit. absurd
              (miss hit)),
          (λ _. refl),
        )))))

  module _ (n id : ℕ) where
    -- a view is copied for a seat more, which has a half of its share
    pub copies_allowed : (v : View) → v.claim ≡ None → v.list ≡ None → is_some_item v.share ≡ true → Splits (Rule n) id v (halving v) (copied v)
    copies_allowed v bare no_list share = splits word_offset slot_offset words_few slots_few n (F n) id v (halving v) (copied v)
        (parts is_of facts n id v (halving v) (copied v) refl bare no_list no_list no_list refl
        (λ a. record {
          on = no_more (on_by a v) _ (no_counts_on a v.log);
          off = no_more (off_by a v) _ (no_counts_off a v.log);
          put = λ q. no_more (put_by a q v) _ (no_puts a q v.log);
          got = no_more (claims_got a v) 0 refl;
          back = no_more (claims_returned a v) 0 refl;
          releases = λ q. (no_more (taken_by a q v) 0 refl, no_more (back_by a q v) 0 refl);
        })
        (λ e l r. record { fits = halves_fit e v.share l; amounts = halves_amount e v.share l })
        (λ a bare. absurd (no_share (halved v.share) (some_halved v.share share) bare)) (λ a bare. absurd (no_share (half_of v.share) (some_half
        v.share share) bare))
        (λ b. vouches_without b v.log) (λ a x k. record { seen = k.seen; sent_system = k.sent_system }) (λ a x k. record {
          seen = each_without (ObservationHolds a x) v.log
              k.seen;
          sent_system = k.sent_system;
        }))

    -- a pass that knows nothing is split off, with a half of the share
    pub parts_allowed : (v : View) → v.claim ≡ None → v.list ≡ None → is_some_item v.share ≡ true → Splits (Rule n) id v (split_off v) (halving v)
    parts_allowed v bare no_list share = splits word_offset slot_offset words_few slots_few n (F n) id v (split_off v) (halving v) (parts is_of
        facts n id v (split_off v) (halving v) (sym bare) bare no_list refl no_list refl
        (λ a. record {
          on = none_more (on_by a v);
          off = none_more (off_by a v);
          put = λ q. none_more (put_by a q v);
          got = none_more (claims_got a v);
          back = none_more (claims_returned a v);
          releases = λ q. (none_more (taken_by a q v), none_more (back_by a q v));
        })
        (λ e l r. record {
          fits = halves_fit e v.share r;
          amounts = swapped (amount e (half_of v.share)) (amount e (halved v.share)) (amount e v.share) (halves_amount e v.share r);
        })
        (λ a bare. absurd (no_share (half_of v.share) (some_half v.share share) bare)) (λ a bare. absurd (no_share (halved v.share) (some_halved
        v.share share) bare))
        (λ b p. p) (λ a x k. record { seen = tt; sent_system = tt }) (λ a x k. record { seen = k.seen; sent_system = k.sent_system }))

    -- the claim gets a view of its own
    pub claims_allowed : (v : View) → v.list ≡ None → is_some_item v.share ≡ true → Splits (Rule n) id v (claim_alone v) (without_claim v)
    claims_allowed v no_list share = splits word_offset slot_offset words_few slots_few n (F n) id v (claim_alone v) (without_claim v)
        (parts is_of facts n id v (claim_alone v) (without_claim v) refl refl no_list refl no_list refl
        (λ a. record {
          on = none_more (on_by a v);
          off = none_more (off_by a v);
          put = λ q. none_more (put_by a q v);
          got = none_more (claims_got a v);
          back = none_more (claims_returned a v);
          releases = λ q. (none_more (taken_by a q v), none_more (back_by a q v));
        })
        (λ e l r. record { fits = r; amounts = none_more (amount e v.share) })
        (λ a bare. record { got = refl; back = refl; releases = λ q. (refl, refl); on = refl; rest = λ _. (refl, refl, λ q. refl) }) (λ a bare. absurd (no_share v.share share bare))
        (λ b p. p) (λ a x k. record { seen = tt; sent_system = tt }) (λ a x k. record { seen = k.seen; sent_system = k.sent_system }))

    pub joins_allowed : (v : View) (other : ℕ) (w : View) → w.claim ≡ None → w.list ≡ None → is_some_item w.share ≡ true → Joins (Rule n) id v other
        w (taking_over v w) blank
    joins_allowed v other w bare no_list share = joins word_offset slot_offset words_few slots_few n (F n) id v other w (taking_over v w) blank
        (takes_over is_of facts n id v other w v.sent_system (λ _ mine theirs. mine) bare no_list share)

    -- and a claim's seat takes in a pass
    pub takes_in_allowed : (v : View) (other : ℕ) (w : View) → w.claim ≡ None → w.list ≡ None → is_some_item w.share ≡ true
        → Joins (Rule n) id v other w (taking_in v w) blank
    takes_in_allowed v other w bare no_list share = joins word_offset slot_offset words_few slots_few n (F n) id v other w (taking_in v w) blank
        (takes_over
        is_of facts n id v other w w.sent_system (λ _ mine theirs. theirs) bare no_list share)

module _ {H : Type 0} (all_of : H → ℕ → H → Type 0) (first : Snapshot (Snapshot H)) (facts : H → HomeFacts) where
  abbrev G : ℕ → ℕ → Spot Word SlotName (Slot H) Ghost → List View → Type 0
  G n = Fact (all_of first.value.value) facts n

  abbrev N : Type 0
  N = Me (Slot H) View

  module _ (n slots id : ℕ) (me : N) (actor i : ℕ) (inside : actor < n) where
    -- a seat that knows the first home tries to schedule the actor
    pub schedules_allowed : (old new : ℕ) (note : Slot H) → note ≡ First first → i ≡ word_at actor 16 → old % 4 ≡ 0 → new ≡ old + 2
        → me.0.claim ≡ None → is_some_item me.0.share ≡ true
        → Allows (Ruled word_offset slot_offset n (G n)) slots id me i (λ k. either (k == old) new k) (Schedules all_of facts (step slots i old new
        (some note)) me)
    schedules_allowed old new note is_note e free is_new bare share = subst (λ j. Allows (Ruled word_offset slot_offset n (G n)) slots id me j
        (λ k. either (k == old) new k) (Schedules all_of facts (step slots j old new (some note)) me)) (sym e)
        (allows word_offset slot_offset words_few slots_few n (G n) slots id me actor Status (λ k. either (k == old) new k)
        (Schedules all_of facts (step slots (word_at actor 16) old new (some note)) me) inside
        (λ x vs f at fits. let tell = Schedules all_of facts (step slots (word_at actor 16) old new
        (some note)) me (x.row Status) in
        exchanged (x.row Status) old new (λ k. RuledStep word_offset slot_offset (G n) actor id me Status k tell x vs)
        (λ hit. let here : x.row Status % 4 ≡ 0 = ap (λ k. k % 4) hit ∙ free in let h = is_home
        (all_of first.value.value) facts n actor x vs f here in
        subst (λ k. RuledStep word_offset slot_offset (G n) actor id me Status k tell x vs) (sym is_new)
        (schedules (all_of first.value.value) facts n actor id me old tell x vs f at here hit bare share
        (λ a other w sent_system. subst (λ (b : ℕ × Snapshot (Snapshot H)). (let now : N = (
          taking actor x.ghost.journal x.ghost.closed_to old x.ghost.gave
              x.ghost.listed.given x.ghost.drained me.0,
          (slot_at actor 0, Home h.1.home) ∷ me.1,
        ) in
        (x.row Status ≡ old → Won (all_of b.1.value.value) facts b.0 (x.row Status) me now)
        × (x.row Status ≢ old → (now ≡ (reading b.0 (x.row Status) me.0, me.1)) × IsTrue (is_valid (x.row Status)) × StaysClosed b.0 (x.row Status)
        me.0))) (λ z. (same_actor actor a 16 w z, first_same_home first other (sym (ap (λ (y : Slot H). some y) is_note) ∙ sent_system) z)) (
          (λ _. record {
            home = h.1.home;
            of_actor = h.1.of_actor;
            word = h.1.word;
            gave = x.ghost.gave;
            rest = λ no. h.1.rest (inr no);
            seen = subst (λ j. ExtendsSeen actor j me.0) (sym h.1.fold) (goes_further (all_of first.value.value) facts
                actor x me.0 f.ended (λ one. omega arith) (f.seen id me.0 at));
            now = λ z. (
              taking actor (sym h.1.fold z) (sym h.1.known_closed z) (sym hit z) x.ghost.gave (sym h.1.count z) (sym h.1.drained z) me.0,
              (slot_at actor 0, Home h.1.home) ∷ me.1,
            );
          }),
          (λ miss. absurd (miss hit)),
        ))))
        (λ miss. reads (all_of first.value.value) facts n actor id me tell x vs f at (λ a other w sent_system. (
          (λ hit. absurd (miss hit)),
          (λ _. told_read (all_of first.value.value) facts n slots id me actor i inside x vs f at a
              w),
        )))))
