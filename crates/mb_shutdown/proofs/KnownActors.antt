-- What is known of each actor once the gates ended, by its home.
use Rattle.std.proofs.Common.{◌≡◌, ℕ, ◌+◌, ◌*◌, ◌%◌, ◌^◌, ◌<◌, Bool, true, false, List, [], ◌∷◌, ◌++◌, length, map, refl, sym, ap, ◌∙◌, subst}
use Rattle.std.proofs.Common.{arith, append-nil, Option, Some}
use Rattle.std.specs.Prelude.{if◌then◌else◌, slice_get}
use Rattle.std.specs.Global.{Box}
use Rattle.mb_status.specs.Mailbox.{word_of}
use Rattle.mb_msg.specs.declared.system.SysMsg.{SysMsg}
use Rattle.mb_syslist.specs.MessageList.{numbered}
use Rattle.mb_actor.specs.Behaviour.{Moment, Reply}
use Rattle.mb_journal.specs.Entry.{Entry}
use Rattle.mb_journal.specs.Identity.{Identity}
use Rattle.mb_journal.specs.Life.{closed}
use Rattle.mb_journal.specs.Suspension.{count}
use Rattle.mb_ghost.specs.Layout.{Spot, spot_of}
use Rattle.mb_ghost.specs.Seen.{Each}
use Rattle.mb_ghost.specs.Shares.{IsWhole}
use Rattle.mb_ghost.specs.Summed.{total}
use Rattle.mb_ghost.proofs.SeenLemmas.{each_weaker}
use Rattle.mb_gate.specs.declared.slot.Slot.{Slot}
use Rattle.mb_gate.specs.PutIn.{put_by}
use Rattle.mb_gate.specs.Returned.{IsKept}
use Rattle.mb_gate.specs.Rule.{Ghost, IsAmong, WasPushed, ObservationHolds, SlotName, Word, is_some_item, slot_offset, word_offset}
use Rattle.mb_gate.specs.View.{View, Observation, Read, Saw, Counted, Looked, Sent, Unsent, Took, Pushed, Drained, Ended}
use Rattle.mb_home.specs.AtHome.{IsHomeOf, closed_receivers, given_of, mailbox_at, system_entries}
use Rattle.mb_home.specs.Contents.{Contents}
use Rattle.mb_shutdown.specs.Homes.{AreHomes, ReturnedHome}
use Rattle.mb_shutdown.specs.CompleteReport.{IsPutAmong}
use Rattle.mb_shutdown.proofs.Lists.{length-mapped, mapped-to, within}

-- the word of a journal's mailbox
abbrev pub own_word : Contents → ℕ
own_word h = word_of (mailbox_at h.cell.who h.cell.journal)

-- only a closed mailbox has the word 1
pub closed-by-word : (who : Identity) (journal : List Entry) → word_of (mailbox_at who journal) ≡ 1 → closed who journal ≡ true
closed-by-word who journal word = by_test (closed who journal) word
  where
    by_test : (b : Bool) → (if b then 1 else 4 * count who journal + 0) ≡ 1 → b ≡ true
    by_test true e = refl
    by_test false e = absurd (omega (arith, e))

-- what holds of each of two lists holds of each of the first
each-left : {A : Type 0} (P : A → Type 0) (a b : List A) → Each P (a ++ b) → Each P a
each-left P [] b all = tt
each-left P (x ∷ a) b all = (all.0, each-left P a b all.1)

-- what was put into the list, as the rule says it
so-put : (actor : ℕ) (x : Spot Word SlotName (Slot (Box Contents)) Ghost) (s : Observation) → ObservationHolds actor x s → IsPutAmong actor x.ghost.pushed s
so-put actor x (Pushed a n m) so = so
so-put actor x (Read a word) so = tt
so-put actor x (Saw a journal) so = tt
so-put actor x (Counted a n) so = tt
so-put actor x (Looked a has_work) so = tt
so-put actor x (Sent a n) so = tt
so-put actor x (Unsent a n) so = tt
so-put actor x (Took a n) so = tt
so-put actor x (Drained a given) so = tt
so-put actor x (Ended a given) so = tt

no-item : (messages : List SysMsg) → is_some_item messages ≡ false → messages ≡ []
no-item [] none = refl
no-item (m ∷ messages) none = absurd (cc none)

module _ (gives : ℕ → Moment → Reply → Type 0) (first : Contents) where
  -- the home is the actor's own, and goes on from all that was seen of it; and what was ever put into its list is as many as its home knows
  pub record Stands (log : List Observation) (actor : ℕ) (h : Contents) : Type 0 where
    pub is_home_of : IsHomeOf (gives actor) first actor h
    pub kept : Each (IsKept actor h.cell.journal (own_word h)) log
    pub pushed : List SysMsg
    pub known : Each (IsPutAmong actor pushed) log
    pub entered : Each (λ m. IsAmong m (numbered 0 pushed)) (system_entries h.cell.journal)
    pub given : given_of h ≡ length pushed % 2 ^ 64
    pub few : length pushed < 2 ^ 64

  module _ (actors : ℕ) (v : View) (all : List (Option ReturnedHome)) (lefts : List ReturnedHome) (left : AreHomes gives first actors v all)
      (are : all ≡ map (λ (l : ReturnedHome). Some l) lefts) where
    at : (actor : ℕ) (l : ReturnedHome) → slice_get lefts actor ≡ Some l → slice_get all actor ≡ Some (Some l)
    at actor l there = mapped-to (λ (x : ReturnedHome). Some x) lefts all actor l (sym are) there

    pub many-left : length lefts ≡ actors
    many-left = sym (ap length are ∙ length-mapped (λ (l : ReturnedHome). Some l) lefts) ∙ left.same_count

    inside : (actor : ℕ) (l : ReturnedHome) → slice_get lefts actor ≡ Some l → actor < actors
    inside actor l there = let lt = within lefts actor l there in let m = many-left in omega (arith, lt, m)

    abbrev spot : ℕ → Spot Word SlotName (Slot (Box Contents)) Ghost
    spot actor = spot_of word_offset slot_offset left.state left.rule.ghosts actor

    -- and if this pass is the only one, what was ever put into its list is what the pass put there
    pub stands-put : (actor : ℕ) (l : ReturnedHome) → slice_get lefts actor ≡ Some l → l.listed ≡ false
        → (is : Stands v.log actor l.home.value)
        × (IsWhole v.share → (measure : ℕ × SysMsg → ℕ) → put_by actor measure v ≡ total measure (numbered 0 is.pushed))
    stands-put actor l there none =
        let lt = inside actor l there in
        let is = left.each actor (Some l) lt (at actor l there) in
        let fact = left.rule.each actor lt in
        let known = fact.seen left.seat v left.known in
        let empty : (spot actor).ghost.listed.messages ≡ [] = no-item (spot actor).ghost.listed.messages (sym is.4 ∙ none) in
        let all_given : (spot actor).ghost.pushed ≡ fact.listing.given
        = fact.listing.joined ∙ ap (λ m. fact.listing.given ++ m) empty ∙ append-nil fact.listing.given in (
          record {
            is_home_of = is.0;
            kept = subst (λ w. Each (IsKept actor l.home.value.cell.journal w) v.log) is.1 is.2;
            pushed = (spot actor).ghost.pushed;
            known = each_weaker (ObservationHolds actor (spot actor)) (IsPutAmong actor (spot actor).ghost.pushed) v.log (so-put actor (spot actor)) known.seen;
            entered = each-left (WasPushed (spot actor).ghost) (system_entries l.home.value.cell.journal) l.home.value.rest
                (left.pushed actor l lt (at actor l there));
            given = is.5 ∙ is.3 ∙ fact.listing.counted ∙ ap (λ (g : List SysMsg). length g % 2 ^ 64) (sym all_given);
            few = fact.listing.few;
          },
          λ whole measure. left.put whole actor l lt (at actor l there) measure,
        )

    pub stands : (actor : ℕ) (l : ReturnedHome) → slice_get lefts actor ≡ Some l → l.listed ≡ false → Stands v.log actor l.home.value
    stands actor l there none = (stands-put actor l there none).0

    -- an actor of which a home says that it is closed is closed
    pub shut : (actor other : ℕ) (l m : ReturnedHome) → slice_get lefts actor ≡ Some l → slice_get lefts other ≡ Some m
        → IsAmong other (closed_receivers l.home.value.dead) → closed m.home.value.cell.who m.home.value.cell.journal ≡ true
    shut actor other l m there found says =
        let is = left.each other (Some m) (inside other m found) (at other m found) in
        closed-by-word m.home.value.cell.who m.home.value.cell.journal
        (sym is.1 ∙ left.closed actor other l (inside actor l there) (inside other m found) (at actor l there) says)
