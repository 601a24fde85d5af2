-- A step at one actor does not change what a view says of the others.
use Rattle.std.proofs.Common.{
  ◌≡◌,
  ◌≢◌,
  ℕ,
  ◌+◌,
  ◌%◌,
  ◌^◌,
  ◌<◌,
  length,
  subst,
  arith,
  ◌==◌,
  if◌then◌else◌,
  Bool,
  true,
  IsTrue,
  false,
  List,
  [],
  ◌∷◌,
  ◌++◌,
  sym,
  refl,
  ap,
  ◌∙◌,
  Some,
  None,
  eq-eqb,
  ne_eqb,
  append_assoc,
  append-nil,
}
use Rattle.mb_ghost.specs.Summed.{total}
use Rattle.mb_journal.specs.Entry.{Entry}
use Rattle.mb_core.specs.declared.wake_obligation.WakeObligation.{WakeObligation}
use Rattle.mb_core.specs.Actor.{nothing}
use Rattle.mb_core.specs.Run.{after_reading}
use Rattle.mb_status.specs.Mailbox.{mailbox_of}
use Rattle.mb_ghost.specs.Layout.{Spot}
use Rattle.mb_ghost.specs.Seen.{Each}
use Rattle.mb_ghost.proofs.SeenLemmas.{each_weaker}
use Rattle.mb_msg.specs.declared.system.SysMsg.{SysMsg}
use Rattle.mb_syslist.specs.MessageList.{numbered}
use Rattle.mb_gate.proofs.Numbers.{among_more, among_left, part_left, numbered_append}
use Rattle.mb_gate.specs.declared.slot.Slot.{Slot}
use Rattle.mb_gate.specs.View.{
  View,
  Observation,
  Read,
  Saw,
  Counted,
  Looked,
  Sent,
  Unsent,
  Took,
  Pushed,
  Drained,
  Ended,
  Held,
  Lent,
  Release,
  SentSystem,
  obligation_to,
  with_obligation,
  seeing,
  reading,
  taking,
  rewritten,
  writing,
  taken_journal,
  idling,
  counting,
  looking,
  regiven,
  draining,
}
use Rattle.mb_gate.specs.Waiting.{counted_on, counted_off, on_by, off_by}
use Rattle.mb_gate.specs.PutIn.{put_in, put_by}
use Rattle.mb_gate.specs.Releases.{taken_in_release, back_in_release, taken_by, back_by}
use Rattle.mb_gate.specs.ClaimCounts.{times, claims_got, claims_returned}
use Rattle.mb_gate.specs.Rule.{
  Word,
  SlotName,
  Ghost,
  Status,
  held_of,
  lent_of,
  claim_for,
  list_for,
  Extends,
  IsPart,
  HasSeenClosed,
  ObservationHolds,
  IsAmong,
  SentSystemHolds,
  all_numbered,
  WasPushed,
  Knows,
}

pub held_here : (actor : ℕ) (c : Held) → c.actor ≡ actor → held_of actor (Some c) ≡ Some c
held_here actor c e = ap (λ b. if b then Some c else None) (eq-eqb c.actor actor e)

pub held_else : (actor : ℕ) (c : Held) → c.actor ≢ actor → held_of actor (Some c) ≡ None
held_else actor c n = ap (λ b. if b then Some c else None) (ne_eqb c.actor actor n)

pub lent_here : (actor : ℕ) (l : Lent) → l.actor ≡ actor → lent_of actor (Some l) ≡ Some l
lent_here actor l e = ap (λ b. if b then Some l else None) (eq-eqb l.actor actor e)

pub lent_else : (actor : ℕ) (l : Lent) → l.actor ≢ actor → lent_of actor (Some l) ≡ None
lent_else actor l n = ap (λ b. if b then Some l else None) (ne_eqb l.actor actor n)

pub owes_here : (actor : ℕ) (d : WakeObligation) (v : View) → obligation_to actor (with_obligation actor d v) ≡ d
owes_here actor d v = ap (λ b. if b then d else obligation_to actor v) (eq-eqb actor actor refl)

pub owes_else : (actor other : ℕ) (d : WakeObligation) (v : View) → other ≢ actor → obligation_to other (with_obligation actor d v) ≡ obligation_to other v
owes_else actor other d v n = ap (λ b. if b then d else obligation_to other v) (ne_eqb actor other (λ e. n (sym e)))

-- the journal goes on from itself, and from what it goes on from
pub extends_self : (j : List Entry) → Extends j j
extends_self j = record { newer = []; joined = refl }

pub extends_more : (j k l : List Entry) → Extends j k → Extends k l → Extends j l
extends_more j k l a b = record {
  newer = a.newer ++ b.newer;
  joined = a.joined ∙ (ap (λ z. a.newer ++ z) b.joined ∙ sym (append_assoc a.newer
      b.newer l));
}

-- a drain of nothing is seen alone, where the last drain gave nothing
pub drained_nothing : (actor : ℕ) (c : Held) (v : View) → v.claim ≡ Some c → v.list ≡ None → c.gave ≡ false → c.given < 2 ^ 64
    → seeing (Drained actor []) v ≡
    draining actor [] false v
drained_nothing actor c v has no_list gave small i = record v { log = Drained actor [] ∷ v.log; list = no_list i; claim = same i }
  where
    fits : c.given ≡ (c.given + 0) % 2 ^ 64
    fits = omega arith

    same : v.claim ≡ regiven [] false v.claim
    same = has ∙ ((λ k. Some (record c { gave = gave k; given = fits k; drained = sym (append-nil c.drained) k })) ∙ sym (ap (regiven [] false) has))

-- w gave this actor's cell back as v did
abbrev pub SameReleases : ℕ → View → View → Type 0
SameReleases actor v w = (measure : List Entry → ℕ) → (taken_by actor measure w ≡ taken_by actor measure v) × (back_by actor measure w ≡ back_by actor
    measure v)

-- w did of this actor what v did, and has the same share
pub record SameAccount (actor : ℕ) (v w : View) : Type 0 where
  pub on : on_by actor w ≡ on_by actor v
  pub off : off_by actor w ≡ off_by actor v
  pub put : (measure : ℕ × SysMsg → ℕ) → put_by actor measure w ≡ put_by actor measure v
  pub share : w.share ≡ v.share
  pub got : claims_got actor w ≡ claims_got actor v
  pub back : claims_returned actor w ≡ claims_returned actor v
  pub releases : SameReleases actor v w

-- the observation counts nothing of this actor, and put nothing into its list
abbrev pub CountsNothing : ℕ → Observation → Type 0
CountsNothing actor s = (counted_on actor s ≡ 0) × (counted_off actor s ≡ 0) × ((measure : ℕ × SysMsg → ℕ) → put_in actor measure s ≡ 0)

none_more : (m n : ℕ) → m ≡ 0 → m + n ≡ n
none_more m n none = omega arith

pub counts_no_more : (actor : ℕ) (s : Observation) (v w : View) → w.log ≡ s ∷ v.log → CountsNothing actor s → w.share ≡ v.share → claims_got actor w ≡ claims_got
    actor v → claims_returned actor w ≡ claims_returned actor v → SameReleases actor v w → SameAccount actor v w
counts_no_more actor s v w is none share got back releases = record {
  on = ap (total (counted_on actor)) is ∙ none_more (counted_on actor s) (on_by actor v) none.0;
  off = ap (total (counted_off actor)) is ∙ none_more (counted_off actor s) (off_by actor v) none.1;
  put = λ q. ap (total (put_in actor q)) is ∙ none_more (put_in actor q s) (put_by actor q v) (none.2 q);
  share = share;
  got = got;
  back = back;
  releases = releases;
}

-- one more of an actor is none of another
pub times_else : (actor other : ℕ) (actors : List ℕ) → other ≢ actor → times other (actor ∷ actors) ≡ times other actors
times_else actor other actors n = none_more (if actor == other then 1 else 0) (times other actors) (ap (λ (b : Bool). if b then 1 else 0) (ne_eqb
    actor other (λ e. n (sym e))))

pub times_here : (actor : ℕ) (actors : List ℕ) → times actor (actor ∷ actors) ≡ 1 + times actor actors
times_here actor actors = ap (λ (b : Bool). (if b then 1 else 0) + times actor actors) (eq-eqb actor actor refl)

-- a cell given back of an actor is none of another
released_else : (actor other : ℕ) (j : List Entry) (v : View) → other ≢ actor → SameReleases other v (idling actor j v)
released_else actor other j v n q =
    let r : Release = record { actor = actor; taken = taken_journal v.claim; back = j } in
    let another : (actor == other) ≡ false = ne_eqb actor other (λ e. n (sym e)) in (
      none_more (taken_in_release other q r) (taken_by other q v) (ap (λ (b : Bool). if b then q r.taken else 0) another),
      none_more (back_in_release other q r) (back_by other q v) (ap (λ (b : Bool). if b then q j else 0) another),
    )

-- Towards this actor, w is as v: of its cell, its list and what is owed; what it has seen is so where what v has seen is; and it has seen
-- closed whom v has.
pub record Elsewhere (H : Type 0) (actor : ℕ) (v w : View) : Type 0 where
  pub claim : claim_for actor w ≡ claim_for actor v
  pub list : list_for actor w ≡ list_for actor v
  pub obligation : obligation_to actor w ≡ obligation_to actor v
  pub account : SameAccount actor v w
  pub vouches : (other : ℕ) → HasSeenClosed other v → HasSeenClosed other w
  pub knows : (x : Spot Word SlotName (Slot H) Ghost) → Knows actor x v → Knows actor x w

-- an observation that holds of every actor, whatever its place is like
abbrev pub IsQuiet : Type 0 → Observation → Type 0
IsQuiet H s = (a : ℕ) (x : Spot Word SlotName (Slot H) Ghost) → ObservationHolds a x s

module _ {H : Type 0} where
  pub seeing_elsewhere : (other : ℕ) (s : Observation) (v : View) → IsQuiet H s → CountsNothing other s → Elsewhere H other v (seeing s v)
  seeing_elsewhere other s v so none = record {
    claim = refl;
    list = refl;
    obligation = refl;
    account = counts_no_more other s v (seeing s v) refl none refl refl refl (λ q. (refl, refl));
    vouches = λ a. among_more (Read a 1) s v.log;
    knows = λ x k. record {
      seen = (so other x, k.seen);
      sent_system =
          k.sent_system;
    };
  }

  pub owing_elsewhere : (actor other : ℕ) (d : WakeObligation) (s : Observation) (v : View) → other ≢ actor → IsQuiet H s → CountsNothing other s → Elsewhere H
      other v (with_obligation actor d (seeing s v))
  owing_elsewhere actor other d s v n so none = record {
    claim = refl;
    list = refl;
    obligation = owes_else actor other d v n;
    account = counts_no_more other s v (with_obligation actor d (seeing s v)) refl none refl refl refl (λ q. (refl, refl));
    vouches = λ a. among_more (Read a 1) s v.log;
    knows = λ x k. record {
      seen =
          (so other x, k.seen);
      sent_system = k.sent_system;
    };
  }

  pub reading_elsewhere : (actor other word : ℕ) (v : View) → other ≢ actor → Elsewhere H other v (reading actor word v)
  reading_elsewhere actor other word v n = record {
    claim = refl;
    list = refl;
    obligation = owes_else actor other (after_reading (mailbox_of word) (obligation_to actor v)) v n;
    account = counts_no_more other (Read actor word) v (reading actor word v) refl (refl, refl, λ q. refl) refl refl refl
        (λ q. (refl, refl));
    vouches = λ a. among_more (Read a 1) (Read actor word) v.log;
    knows = λ x k. record { seen = ((λ e _. absurd (n (sym e))), k.seen); sent_system = k.sent_system };
  }

  pub taking_elsewhere : (actor other word given : ℕ) (j : List Entry) (shut : List ℕ) (gave : Bool) (drained : List (ℕ × SysMsg)) (v : View) → other ≢ actor → v.claim ≡ None
      → Elsewhere H other v
      (taking actor j shut word gave given drained v)
  taking_elsewhere actor other word given j shut gave drained v n bare = record {
    claim = held_else other (record { actor = actor; journal = j; closed_to = shut; word = word + 2; gave = gave; given = given; drained = drained })
        (λ e. n (sym e)) ∙ sym (ap
        (held_of other) bare);
    list = refl;
    obligation = owes_else actor other nothing v n;
    account = record { on = refl; off = refl; put = λ q. refl; share = refl; got = times_else actor other v.got n; back = refl; releases = λ q. (refl, refl) };
    vouches = λ a k. k;
    knows = λ x k. record { seen = k.seen; sent_system = k.sent_system };
  }

  pub writing_elsewhere : (actor other word : ℕ) (c : Held) (v : View) → other ≢ actor → v.claim ≡ Some c → c.actor ≡ actor → Elsewhere H other v
      (writing word v)
  writing_elsewhere actor other word c v n has of = record {
    claim = ap (λ z. held_of other (rewritten word z)) has ∙ (held_else other (record c { word = word }) (λ e. n (sym e ∙ of)) ∙ sym (ap (held_of
        other) has ∙ held_else other c (λ e. n (sym e ∙ of))));
    list = refl;
    obligation = refl;
    account = record { on = refl; off = refl; put = λ q. refl; share = refl; got = refl; back = refl; releases = λ q. (refl, refl) };
    vouches = λ a k. k;
    knows = λ x k. record { seen = k.seen; sent_system = k.sent_system };
  }

  pub idling_elsewhere : (actor other : ℕ) (j : List Entry) (c : Held) (v : View) → other ≢ actor → v.claim ≡ Some c → c.actor ≡ actor →
      Elsewhere H other v (idling actor j v)
  idling_elsewhere actor other j c v n has of = record {
    claim = sym (ap (held_of other) has ∙ held_else other c (λ e. n (sym e ∙ of)));
    list = refl;
    obligation = owes_else actor other (record (obligation_to actor v) { system = true; message = true }) v n;
    account = counts_no_more other (Saw actor j) v (idling actor j v) refl (refl, refl, λ q. refl) refl refl (times_else actor other v.returned n)
        (released_else actor other j v n);
    vouches = λ a. among_more (Read a 1) (Saw actor j) v.log;
    knows = λ x k. record { seen = ((λ e. absurd (n (sym e))), k.seen); sent_system = k.sent_system };
  }

  -- The place goes on: what was closed is closed, its journal goes on, and so does what was ever listed.
  pub record Grown (x y : Spot Word SlotName (Slot H) Ghost) : Type 0 where
    pub still : IsTrue x.ghost.listed.closed → IsTrue y.ghost.listed.closed
    pub closed : x.row Status ≡ 1 → y.row Status ≡ 1
    pub longer : Extends y.ghost.journal x.ghost.journal
    pub more : List SysMsg
    pub pushed : y.ghost.pushed ≡ x.ghost.pushed ++ more

  -- with nothing more listed
  pub grown : (x y : Spot Word SlotName (Slot H) Ghost) → (IsTrue x.ghost.listed.closed → IsTrue y.ghost.listed.closed) → (x.row Status ≡ 1 →
      y.row Status ≡ 1) → Extends y.ghost.journal x.ghost.journal → y.ghost.pushed ≡ x.ghost.pushed → Grown x y
  grown x y still closed longer same = record {
    still = still;
    closed = closed;
    longer = longer;
    more = [];
    pushed = same ∙ sym (append-nil
        x.ghost.pushed);
  }

  numbers_go_on : (x y : Spot Word SlotName (Slot H) Ghost) (g : Grown x y) → all_numbered y.ghost ≡ all_numbered x.ghost ++ numbered ((0 + length
      x.ghost.pushed) % 2 ^ 64) g.more
  numbers_go_on x y g = ap (numbered 0) g.pushed ∙ numbered_append 0 x.ghost.pushed g.more (omega arith)

  told_on : (actor : ℕ) (x y : Spot Word SlotName (Slot H) Ghost) → Grown x y → (s : SentSystem) → SentSystemHolds actor x s → SentSystemHolds actor y s
  told_on actor x y g s t e = (
    (λ ended. g.still ((t e).0 ended)),
    (λ listed. subst (IsAmong s.message) (sym g.pushed) (among_left s.message x.ghost.pushed g.more ((t e).1 listed))),
  )

  seen_on : (actor : ℕ) (x y : Spot Word SlotName (Slot H) Ghost) → Grown x y → (s : Observation) → ObservationHolds actor x s → ObservationHolds actor y s
  seen_on actor x y g (Read a word) h = λ e one. g.closed (h e one)
  seen_on actor x y g (Saw a j) h = λ e. extends_more y.ghost.journal x.ghost.journal j g.longer (h e)
  seen_on actor x y g (Counted a n) h = h
  seen_on actor x y g (Looked a b) h = h
  seen_on actor x y g (Sent a n) h = h
  seen_on actor x y g (Unsent a n) h = h
  seen_on actor x y g (Took a n) h = h
  seen_on actor x y g (Pushed a n m) h = λ e. subst (IsAmong (n, m)) (sym (numbers_go_on x y g)) (among_left (n, m) (all_numbered x.ghost)
      (numbered ((0 + length x.ghost.pushed) % 2 ^ 64) g.more) (h e))
  seen_on actor x y g (Drained a given) h = λ e. subst (IsPart given) (sym (numbers_go_on x y g)) (part_left given (all_numbered x.ghost)
      (numbered ((0 + length x.ghost.pushed) % 2 ^ 64) g.more) (h e))
  seen_on actor x y g (Ended a given) h = λ e. (
    g.still (h e).0,
    subst (IsPart given) (sym (numbers_go_on x y g)) (part_left given
        (all_numbered x.ghost) (numbered ((0 + length x.ghost.pushed) % 2 ^ 64) g.more) (h e).1),
  )

  -- what was put into the list was put into it where the place goes on
  pub pushed_on : (x y : Spot Word SlotName (Slot H) Ghost) → Grown x y → (messages : List (ℕ × SysMsg)) → Each (WasPushed x.ghost) messages
      → Each (WasPushed y.ghost) messages
  pushed_on x y g messages all = each_weaker (WasPushed x.ghost) (WasPushed y.ghost) messages
      (λ m is. subst (IsAmong m) (sym (numbers_go_on x y g)) (among_left m (all_numbered x.ghost) (numbered ((0 + length x.ghost.pushed) % 2 ^ 64) g.more) is))
      all

  -- what was known of a place is so where the place goes on
  pub goes_on : (actor : ℕ) (x y : Spot Word SlotName (Slot H) Ghost) (v : View) → Grown x y → Knows actor x v → Knows actor y v
  goes_on actor x y v g k = record {
    seen = each_weaker (ObservationHolds actor x) (ObservationHolds actor y) v.log (seen_on actor x y g) k.seen;
    sent_system = each_weaker (SentSystemHolds actor x) (SentSystemHolds actor y) v.sent_system (told_on actor x y g) k.sent_system;
  }

chosen_rest : (b : Bool) (v w u : View) → (w.claim ≡ v.claim) × (w.list ≡ v.list) → (u.claim ≡ v.claim) × (u.list ≡ v.list)
    → (let z = if b then w else u in (z.claim ≡ v.claim) × (z.list ≡ v.list))
chosen_rest true v w u e f = e
chosen_rest false v w u e f = f

-- a look at the waiting number or the list's gate leaves the claim and the list
pub counting_rest : (actor n : ℕ) (v : View) → ((counting actor n v).claim ≡ v.claim) × ((counting actor n v).list ≡ v.list)
counting_rest actor n v = chosen_rest (n == 0) v (with_obligation actor (record (obligation_to actor v) { message = false }) (seeing (Counted actor n) v)) (seeing
    (Counted actor n) v) (refl, refl) (refl, refl)

pub looking_rest : (actor : ℕ) (b : Bool) (v : View) → ((looking actor b v).claim ≡ v.claim) × ((looking actor b v).list ≡ v.list)
looking_rest actor true v = (refl, refl)
looking_rest actor false v = (refl, refl)
