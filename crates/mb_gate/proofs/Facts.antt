-- The facts about an actor stay true where only a view changes, or where the words that they are about do not.
use Rattle.std.proofs.Common.{
  ◌≡◌,
  ℕ,
  ◌+◌,
  ◌<◌,
  ◌%◌,
  ◌^◌,
  ◌==◌,
  if◌then◌else◌,
  ◌⊎◌,
  inl,
  inr,
  ⊎_elim,
  true,
  false,
  ◌||◌,
  IsTrue,
  List,
  [],
  ◌∷◌,
  ◌++◌,
  set,
  sym,
  refl,
  ap,
  ◌∙◌,
  subst,
  Option,
  Some,
  None,
  is_some,
  eq-eqb,
  Bool,
  arith,
}
use mathlib.Core.Option.{some}
use lib.ListN.{get_elem?}
use Rattle.mb_msg.specs.declared.system.SysMsg.{SysMsg}
use Rattle.mb_journal.specs.Entry.{Entry}
use Rattle.mb_syslist.specs.MessageList.{MessageList, numbered}
use Rattle.mb_gate.specs.HomeFacts.{HomeFacts}
use Rattle.mb_gate.specs.declared.slot.Slot.TheVariants.{List as Listing}
use Rattle.mb_core.specs.declared.wake_obligation.WakeObligation.{WakeObligation}
use Rattle.mb_ghost.specs.Layout.{Spot, write}
use Rattle.mb_ghost.proofs.LockedLemmas.{stays_locked}
use Rattle.mb_ghost.proofs.OwedLemmas.{still_owed}
use Rattle.mb_ghost.proofs.SeenLemmas.{learns}
use Rattle.mb_ghost.specs.Summed.{total}
use Rattle.mb_ghost.proofs.SummedLemmas.{total_append, total_set, total_stays}
use Rattle.mb_ghost.proofs.SharesLemmas.{shares_stay}
use Rattle.mb_gate.specs.declared.slot.Slot.{Slot}
use Rattle.mb_gate.specs.View.{View, Pushed, Held, Lent}
use Rattle.mb_gate.specs.PutIn.{put_in, put_by, IsAllPut}
use Rattle.mb_gate.specs.Releases.{taken_by, back_by, taken_in_release, back_in_release, ReleasesAddUp}
use Rattle.mb_gate.specs.Rule.{
  Word,
  Status,
  Flag,
  Gate,
  Waiting,
  word_offset,
  SlotName,
  CellSlot,
  ListSlot,
  Ghost,
  claim_for,
  list_for,
  Knows,
  IsAmong,
  HasSeenClosed,
  MessageDue,
  SystemDue,
  HasMessageObligation,
  HasSystemObligation,
  held_of,
  is_some_item,
  IsBare,
  EachBare,
  ClaimsBalance,
  WasHeld,
  gate_word,
  CellPlace,
  ListPlace,
  Fact,
}
use Rattle.mb_gate.specs.Waiting.{counted_on, on_by, off_by, IsBalance}
use Rattle.mb_gate.specs.Lists.{may_lock_list}
use Rattle.mb_gate.specs.ClaimCounts.{times, claims_got, claims_returned, claims_out}
use Rattle.mb_gate.proofs.Views.{SameReleases, SameAccount, Elsewhere}

-- a word that is written as it was leaves the row as it was
same_word : (row : Word → ℕ) (name w : Word) → write word_offset row name (row name) w ≡ row w
same_word row Status Status = refl
same_word row Status Flag = refl
same_word row Status Gate = refl
same_word row Status Waiting = refl
same_word row Flag Status = refl
same_word row Flag Flag = refl
same_word row Flag Gate = refl
same_word row Flag Waiting = refl
same_word row Gate Status = refl
same_word row Gate Flag = refl
same_word row Gate Gate = refl
same_word row Gate Waiting = refl
same_word row Waiting Status = refl
same_word row Waiting Flag = refl
same_word row Waiting Gate = refl
same_word row Waiting Waiting = refl

pub same_row : (row : Word → ℕ) (name : Word) → write word_offset row name (row name) ≡ row
same_row row name i w = same_word row name w i

-- the waiting count stays that of all seats where one changes that counted no more
pub same_balance : (actor n : ℕ) (vs : List View) (id : ℕ) (v w : View) → get_elem? vs id ≡ some v → on_by actor w ≡ on_by actor v → off_by actor w
    ≡ off_by actor v → IsBalance actor n vs → IsBalance actor n (set vs id w)
same_balance actor n vs id v w at on off b = ap (λ k. (n + k) % 2 ^ 64) (total_stays (off_by actor) vs id v w at off) ∙ (b ∙ sym (ap (λ k. k % 2 ^
    64) (total_stays (on_by actor) vs id v w at on)))

pub still_balanced : (actor n : ℕ) (vs : List View) (id : ℕ) (v w : View) → get_elem? vs id ≡ some v → SameAccount actor v w → IsBalance actor n
    vs → IsBalance actor n (set vs id w)
still_balanced actor n vs id v w at same b = same_balance actor n vs id v w at same.on same.off b

-- and so do the claims that are out
pub still_claims : (actor : ℕ) (old new : Option (ℕ × Held)) (vs : List View) (id : ℕ) (v w : View) → get_elem? vs id ≡ some v → claims_got actor w ≡
    claims_got actor v → claims_returned actor w ≡ claims_returned actor v → claims_out new ≡ claims_out old → ClaimsBalance actor old vs → ClaimsBalance actor new (set vs id w)
still_claims actor old new vs id v w at got back same t = total_stays (claims_got actor) vs id v w at got ∙ (t ∙ sym (ap (λ n. n + claims_out new)
    (total_stays (claims_returned actor) vs id v w at back) ∙ ap (λ n. total (claims_returned actor) vs + n) same))

one_more : (got got' back k m m' : ℕ) → got' + m ≡ got + m' → m' ≡ 1 + m → k ≡ 0 → got ≡ back + k → got' ≡ back + 1
one_more got got' back k m m' e more none t = omega arith

one_less : (got back back' k m m' : ℕ) → back' + m ≡ back + m' → m' ≡ 1 + m → k ≡ 1 → got ≡ back + k → got ≡ back' + 0
one_less got back back' k m m' e more one t = omega arith

-- a seat gets a claim, where none was out
pub claims_more : (actor : ℕ) (old : Option (ℕ × Held)) (h : ℕ × Held) (vs : List View) (id : ℕ) (v w : View) → get_elem? vs id ≡ some v → claims_got
    actor w ≡ 1 + claims_got actor v → claims_returned actor w ≡ claims_returned actor v → claims_out old ≡ 0 → ClaimsBalance actor old vs → ClaimsBalance actor (Some h) (set vs
    id w)
claims_more actor old h vs id v w at more same none t = one_more (total (claims_got actor) vs) (total (claims_got actor) (set vs id w)) (total (claims_returned
    actor) vs) (claims_out old) (claims_got actor v) (claims_got actor w) (total_set (claims_got actor) vs id v w at) more none t ∙ ap (λ n. n + 1) (sym
    (total_stays (claims_returned actor) vs id v w at same))

-- and given back
pub claims_less : (actor : ℕ) (old : Option (ℕ × Held)) (vs : List View) (id : ℕ) (v w : View) → get_elem? vs id ≡ some v → claims_got actor w ≡ claims_got
    actor v → claims_returned actor w ≡ 1 + claims_returned actor v → claims_out old ≡ 1 → ClaimsBalance actor old vs → ClaimsBalance actor None (set vs id w)
claims_less actor old vs id v w at same more one t = total_stays (claims_got actor) vs id v w at same ∙ one_less (total (claims_got actor) vs) (total
    (claims_returned actor) vs) (total (claims_returned actor) (set vs id w)) (claims_out old) (claims_returned actor v) (claims_returned actor w) (total_set (claims_returned actor) vs id v
    w at) more one t

-- a closed actor was held still, where the one that changes got no claim, and the actor was closed before
pub still_held : (actor old new : ℕ) (vs : List View) (id : ℕ) (v w : View) → get_elem? vs id ≡ some v → claims_got actor w ≡ claims_got actor v
    → (new ≡ 1 → old ≡ 1) → WasHeld actor old vs → WasHeld actor new (set vs id w)
still_held actor old new vs id v w at same before was one =
    subst (λ k. 0 < k) (sym (total_stays (claims_got actor) vs id v w at same)) (was (before one))

-- and who is held now was held
pub now_held : (actor new : ℕ) (holder : Option (ℕ × Held)) (vs : List View) (id : ℕ) (v w : View) → get_elem? vs id ≡ some v → claims_got actor w ≡
    claims_got actor v → claims_out holder ≡ 1 → ClaimsBalance actor holder vs → WasHeld actor new (set vs id w)
now_held actor new holder vs id v w at same out claims_balance one =
    some_got (total (claims_got actor) vs) (total (claims_got actor) (set vs id w)) (total (claims_returned actor) vs) (claims_out holder)
    (total_stays (claims_got actor) vs id v w at same) out claims_balance
  where
    some_got : (got now back k : ℕ) → now ≡ got → k ≡ 1 → got ≡ back + k → 0 < now
    some_got got now back k is out t = omega arith

-- and what was put into the list
pub still_put : (actor : ℕ) (pushed : List SysMsg) (vs : List View) (id : ℕ) (v w : View) → get_elem? vs id ≡ some v
    → ((measure : ℕ × SysMsg → ℕ) → put_by actor measure w ≡ put_by actor measure v) → IsAllPut actor pushed vs → IsAllPut actor pushed (set vs id w)
still_put actor pushed vs id v w at same all q = total_stays (put_by actor q) vs id v w at (same q) ∙ all q

sum_more : (s t n k a b c : ℕ) → s + b ≡ t + c → c ≡ k + b → t ≡ n → a ≡ n + (k + 0) → s ≡ a
sum_more s t n k a b c sum more same all = omega arith

-- which one seat put one more into
pub puts_more : (actor : ℕ) (pushed : List SysMsg) (n : ℕ) (m : SysMsg) (vs : List View) (id : ℕ) (v w : View) → get_elem? vs id ≡ some v
    → w.log ≡ Pushed actor n m ∷ v.log → numbered 0 (pushed ++ m ∷ []) ≡ numbered 0 pushed ++ (n, m) ∷ [] → IsAllPut actor pushed vs
    → IsAllPut actor (pushed ++ m ∷ []) (set vs id w)
puts_more actor pushed n m vs id v w at log last all q = sum_more (total (put_by actor q) (set vs id w)) (total (put_by actor q) vs) (total q
    (numbered 0 pushed)) (q (n, m)) (total q (numbered 0 (pushed ++ m ∷ []))) (put_by actor q v) (put_by actor q w) (total_set (put_by actor q) vs
    id v w at) (ap (total (put_in actor q)) log ∙ ap (λ (b : Bool). (if b then q (n, m) else 0) + put_by actor q v) (eq-eqb actor actor refl)) (all q)
    (ap (total q) last ∙ total_append q (numbered 0 pushed) ((n, m) ∷ []))

-- the releases add up still, where the one that changes gave back no cell
pub still_released : (actor : ℕ) (journal : List Entry) (vs : List View) (id : ℕ) (v w : View) → get_elem? vs id ≡ some v → SameReleases actor v w
    → ReleasesAddUp actor journal vs → ReleasesAddUp actor journal (set vs id w)
still_released actor journal vs id v w at same all q = ap (λ n. n + q []) (total_stays (back_by actor q) vs id v w at (same q).1)
    ∙ (all q ∙ ap (λ n. n + q journal) (sym (total_stays (taken_by actor q) vs id v w at (same q).0)))

released_sum : (b b' t t' bv bw tv tw none old new : ℕ) → b' + bv ≡ b + bw → t' + tv ≡ t + tw → bw ≡ new + bv → tw ≡ old + tv → b + none ≡ t + old
    → b' + none ≡ t' + new
released_sum b b' t t' bv bw tv tw none old new backs takes back taken all = omega arith

-- and where it gave it back with another journal
pub releases_more : (actor : ℕ) (old new : List Entry) (vs : List View) (id : ℕ) (v w : View) → get_elem? vs id ≡ some v
    → w.releases ≡ record { actor = actor; taken = old; back = new } ∷ v.releases → ReleasesAddUp actor old vs → ReleasesAddUp actor new (set vs id w)
releases_more actor old new vs id v w at more all q = released_sum (total (back_by actor q) vs) (total (back_by actor q) (set vs id w)) (total (taken_by
    actor q) vs) (total (taken_by actor q) (set vs id w)) (back_by actor q v) (back_by actor q w) (taken_by actor q v) (taken_by actor q w) (q []) (q
    old) (q new) (total_set (back_by actor q) vs id v w at) (total_set (taken_by actor q) vs id v w at)
    (ap (total (back_in_release actor q)) more ∙ ap (λ (b : Bool). (if b then q new else 0) + back_by actor q v) (eq-eqb actor actor refl))
    (ap (total (taken_in_release actor q)) more ∙ ap (λ (b : Bool). (if b then q old else 0) + taken_by actor q v) (eq-eqb actor actor refl)) (all q)

-- and what a seat without a share has, where the one that changes has no more
pub still_bare : (actor : ℕ) (vs : List View) (id : ℕ) (v w : View) → get_elem? vs id ≡ some v → SameAccount actor v w
    → (claim_for actor w ≡ None → claim_for actor v ≡ None) → (list_for actor v ≡ None → list_for actor w ≡ None) → EachBare actor vs
    → EachBare actor
    (set vs id w)
still_bare actor vs id v w at same claim list bare = learns (λ (u : View). u.share ≡ [] → IsBare actor u) (λ (u : View). u.share ≡ [] → IsBare actor
    u) vs id w (λ u k. k) (λ none. let b = bare id v at (sym same.share ∙ none) in record {
      got = same.got ∙ b.got;
      back = same.back ∙ b.back;
      releases = λ q. ((same.releases q).0 ∙ (b.releases q).0, (same.releases q).1 ∙ (b.releases q).1);
      on = same.on ∙ b.on;
      rest = λ c. (list (b.rest (claim c)).0, same.off ∙ (b.rest (claim c)).1, λ q. same.put q ∙ (b.rest (claim c)).2 q);
    }) bare

-- a seat with a claim may have done more to its actor
pub claimed_bare : (actor : ℕ) (vs : List View) (id : ℕ) (v w : View) (c : Held) → get_elem? vs id ≡ some v → claim_for actor w ≡ Some c → w.share ≡
    v.share → claims_got actor w ≡ claims_got actor v → claims_returned actor w ≡ claims_returned actor v → SameReleases actor v w → on_by actor w ≡ on_by actor v
    → EachBare actor vs → EachBare actor (set vs id w)
claimed_bare actor vs id v w c at has share got back releases on bare = learns (λ (u : View). u.share ≡ [] → IsBare actor u) (λ (u : View). u.share ≡ [] →
    IsBare actor u) vs id w (λ u k. k) (λ none. let b = bare id v at (sym share ∙ none) in record {
      got = got ∙ b.got;
      back = back ∙ b.back;
      releases = λ q. ((releases q).0 ∙ (b.releases q).0, (releases q).1 ∙ (b.releases q).1);
      on = on ∙ b.on;
      rest = λ n. absurd (some_none c (sym has ∙ n));
    }) bare
  where
    some_none : (c : Held) → Some c ≡ None → ⊥
    some_none c e = cc

-- and so may one that has the list, which has a share or the claim
pub lister_bare : (actor : ℕ) (vs : List View) (id : ℕ) (v w : View) (l : Lent) → get_elem? vs id ≡ some v → list_for actor v ≡ Some l → claim_for
    actor w ≡ claim_for actor v → w.share ≡ v.share → claims_got actor w ≡ claims_got actor v → claims_returned actor w ≡ claims_returned actor v
    → SameReleases actor v w → on_by actor w ≡ on_by actor v → EachBare actor vs → EachBare actor (set vs id w)
lister_bare actor vs id v w l at has claim share got back releases on bare = learns (λ (u : View). u.share ≡ [] → IsBare actor u) (λ (u : View). u.share ≡ []
    → IsBare actor u) vs id w (λ u k. k) (λ none. let b = bare id v at (sym share ∙ none) in record {
      got = got ∙ b.got;
      back = back ∙ b.back;
      releases = λ q. ((releases q).0 ∙ (b.releases q).0, (releases q).1 ∙ (b.releases q).1);
      on = on ∙ b.on;
      rest = λ n. absurd (none_some l (sym (b.rest (sym claim ∙ n)).0 ∙ has));
    }) bare
  where
    none_some : (l : Lent) → None ≡ Some l → ⊥
    none_some l e = cc

pub no_share : (share : List ℕ) → is_some_item share ≡ true → share ≡ [] → ⊥
no_share share has none = false_true (sym (ap is_some_item none) ∙ has)
  where
    false_true : false ≡ true → ⊥
    false_true e = cc

-- and one that has a share or the claim may have the list
pub gripper_bare : (actor : ℕ) (vs : List View) (id : ℕ) (v w : View) → get_elem? vs id ≡ some v → w.claim ≡ v.claim → w.log ≡ v.log → w.share ≡
    v.share → (w.got ≡ v.got) × (w.returned ≡ v.returned) → w.releases ≡ v.releases → may_lock_list actor v ≡ true → EachBare actor vs → EachBare actor (set vs id w)
gripper_bare actor vs id v w at claim log share claims_balance releases may bare = learns (λ (u : View). u.share ≡ [] → IsBare actor u) (λ (u : View). u.share ≡ [] →
    IsBare actor u) vs id w (λ u k. k) (λ none. let b = bare id v at (sym share ∙ none) in record {
      got = ap (times actor) claims_balance.0 ∙ b.got;
      back = ap (times actor) claims_balance.1 ∙ b.back;
      releases = λ q. (ap (total (taken_in_release actor q)) releases ∙ (b.releases q).0, ap (total (back_in_release actor q)) releases ∙ (b.releases q).1);
      on = ap (total (counted_on actor)) log ∙ b.on;
      rest = λ n. absurd (no_claim (ap (held_of actor) (sym claim) ∙ n) (sym share ∙ none));
    }) bare
  where
    false_true : false ≡ true → ⊥
    false_true e = cc

    no_claim : claim_for actor v ≡ None → v.share ≡ [] → ⊥
    no_claim n none = false_true (sym (ap (λ (z : Option Held). is_some_item v.share || is_some z) n ∙ ap (λ (l : List ℕ). is_some_item l || false)
        none) ∙ may)

-- and one with a share anything
pub sharer_bare : (actor : ℕ) (vs : List View) (id : ℕ) (w : View) → is_some_item w.share ≡ true → EachBare actor vs → EachBare actor (set vs id w)
sharer_bare actor vs id w has bare = learns (λ (u : View). u.share ≡ [] → IsBare actor u) (λ (u : View). u.share ≡ [] → IsBare actor u) vs id w (λ u
    k. k) (λ none. absurd (no_share w.share has none)) bare

module _ {H : Type 0} (is_of : ℕ → H → Type 0) (facts : H → HomeFacts) (actors actor : ℕ) where
  abbrev Place : Type 0
  Place = Spot Word SlotName (Slot H) Ghost

  abbrev Facts : Place → List View → Type 0
  Facts = Fact is_of facts actors actor

  pub still_kept : (x y : Place) → y.row Status ≡ x.row Status → y.row Flag ≡ x.row Flag → y.slot CellSlot ≡ x.slot CellSlot → y.ghost.journal
      ≡ x.ghost.journal → y.ghost.closed_to ≡ x.ghost.closed_to → y.ghost.drained ≡ x.ghost.drained → y.ghost.listed.given ≡ x.ghost.listed.given → y.ghost.gave ≡ x.ghost.gave
      → (holder : Option (ℕ × Held)) → CellPlace is_of facts actor x holder
      → CellPlace is_of facts actor y holder
  still_kept x y status flag slot tale shut drained count gave None k = record {
    home = k.home;
    present = slot ∙ k.present;
    of_actor = k.of_actor;
    fold = k.fold ∙ sym tale;
    count = k.count ∙ sym count;
    known_closed = k.known_closed ∙ sym shut;
    drained = k.drained ∙ sym drained;
    word = status ∙ k.word;
    idle = subst (λ n. (n % 4 ≡ 0) ⊎ (n ≡ 1)) (sym status) k.idle;
    flag = flag ∙ (k.flag ∙ ap (λ n. if n == 1 then 1 else 0) (sym status));
    rest = λ r. k.rest (⊎_elim (λ h. inl (sym status ∙ h)) (λ h. inr (sym gave ∙ h)) r);
  }
  still_kept x y status flag slot tale shut drained count gave (Some h) k = record {
    of_actor = k.of_actor;
    taken = k.taken ∙ sym tale;
    known_closed = k.known_closed ∙ sym shut;
    drained = k.drained ∙ sym drained;
    count = k.count ∙ sym count;
    gave = k.gave ∙ sym gave;
    word = status ∙ k.word;
    busy = subst (λ n. (n % 4 ≡ 2) ⊎ (n ≡ 1)) (sym status) k.busy;
    flag = flag ∙ k.flag;
    out = slot ∙ k.out;
  }

  pub still_shelved : (x y : Place) → y.row Gate ≡ x.row Gate → y.slot ListSlot ≡ x.slot ListSlot → y.ghost.listed ≡ x.ghost.listed →
      y.ghost.gave ≡ x.ghost.gave
      → (lent_to : Option (ℕ × Lent)) → ListPlace is_of facts x lent_to
      → ListPlace is_of facts y lent_to
  still_shelved x y gate slot items gave None k = record {
    present = slot ∙ (k.present ∙ ap (λ (l : MessageList). some (some (Listing l))) (sym items));
    word = gate ∙ (k.word ∙ (λ i. gate_word false (sym items i) (sym gave i)));
  }
  still_shelved x y gate slot items gave (Some h) k = record {
    taken = k.taken ∙ sym items;
    gave = k.gave ∙ sym gave;
    word = gate ∙ (k.word ∙ (λ i. gate_word true (sym items i) (sym gave i)));
  }

  -- only the view of one seat changes
  pub views_change : (x : Place) (vs : List View) (id : ℕ) (v w : View) → get_elem? vs id ≡ some v → claim_for actor w ≡ claim_for actor v →
      list_for actor w ≡ list_for actor v → SameAccount actor v w
      → (MessageDue x → HasMessageObligation actor v → HasMessageObligation actor w) → (SystemDue x → HasSystemObligation actor v → HasSystemObligation actor w) → (Knows actor x v →
      Knows actor x w) → ((other : ℕ) → HasSeenClosed other v → HasSeenClosed other w) → Facts x vs → Facts x (set vs id w)
  views_change x vs id v w at claim list account message system knows vouches f = record {
    valid = f.valid;
    claims = stays_locked (claim_for actor) x.ghost.holder vs id v w at claim f.claims;
    cell = f.cell;
    lists = stays_locked (list_for actor) x.ghost.lent_to vs id v w at list f.lists;
    list_place = f.list_place;
    ended = f.ended;
    listing = f.listing;
    named = f.named;
    put = still_put actor x.ghost.pushed vs id v w at account.put f.put;
    releases = still_released actor x.ghost.journal vs id v w at account.releases f.releases;
    was_pushed = f.was_pushed;
    balance = still_balanced actor (x.row Waiting) vs id v w at account f.balance;
    claims_balance = still_claims actor x.ghost.holder x.ghost.holder vs id v w at account.got account.back refl f.claims_balance;
    held = still_held actor (x.row Status) (x.row Status) vs id v w at account.got (λ one. one) f.held;
    shares = shares_stay (λ (u : View). u.share) vs id v w at account.share f.shares;
    bare = still_bare actor vs id v w at account (λ c. sym claim ∙ c) (λ c. list ∙ c) f.bare;
    was_seen_closed = λ other. still_owed (HasSeenClosed other) (IsAmong other x.ghost.closed_to) (IsAmong other x.ghost.closed_to) vs id v w at (λ d. d) (λ _.
        vouches other) (f.was_seen_closed other);
    message = still_owed (HasMessageObligation actor) (MessageDue x) (MessageDue x) vs id v w at (λ d. d) message f.message;
    system = still_owed (HasSystemObligation actor) (SystemDue x) (SystemDue x) vs id v w at (λ d. d) system f.system;
    seen = learns (Knows actor x) (Knows actor x) vs id w (λ u k. k) (knows (f.seen id v at)) f.seen;
  }

  -- the view of a seat that made a step elsewhere
  pub elsewhere : (x : Place) (vs : List View) (id : ℕ) (v w : View) → get_elem? vs id ≡ some v → Elsewhere H actor v w → Facts x vs → Facts x
      (set vs id w)
  elsewhere x vs id v w at same = views_change x vs id v w at same.claim same.list same.account
      (λ _. subst (λ (d : WakeObligation). IsTrue (d.message || d.sending)) (sym same.obligation)) (λ _. subst (λ (d : WakeObligation). IsTrue d.system) (sym same.obligation))
      (same.knows x) same.vouches

  -- a load changes nothing but the view
  pub load_here : (x : Place) (vs : List View) (name : Word) → Facts x vs → Facts (record {
    row = write word_offset x.row name (x.row name);
    slot
        = x.slot;
    ghost = x.ghost;
  }) vs
  load_here x vs name f = subst (λ (z : Place). Facts z vs) (λ i. record { row = sym (same_row x.row name) i; slot = x.slot; ghost = x.ghost }) f
