-- A seat that has all that two had, and each of two that has again what it had: both keep the rule. And what the only pass knows of a claim.
use Rattle.std.proofs.Common.{
  ◌≡◌,
  ℕ,
  ◌+◌,
  ◌-◌,
  ◌≤◌,
  ◌<◌,
  ◌/◌,
  ◌%◌,
  ◌==◌,
  ◌^◌,
  if◌then◌else◌,
  ◌⊎◌,
  inl,
  inr,
  ⊎_elim,
  Bool,
  true,
  false,
  ◌||◌,
  IsTrue,
  List,
  [],
  ◌∷◌,
  ◌++◌,
  set,
  sym,
  refl,
  ap,
  ◌∙◌,
  subst,
  Option,
  Some,
  None,
  append-nil,
  eq-eqb,
  arith,
}
use mathlib.Core.Option.{none, some}
use lib.ListN.{get_elem?}
use denote.RattleType.{RattleType}
use denote.Struct.Cover.{Cover-one}
use Rattle.mb_gate.specs.contracts.pass.Pass as pass
use Rattle.mb_gate.specs.declared.pass.Pass.{Pass}
use Rattle.atomic_table.specs.Table.{State, Me, step, Allows, Splits, Joins}
use Rattle.atomic_table.specs.declared.shared.Seat.{Seat}
use Rattle.atomic_table.proofs.Lists.{set_else}
use Rattle.mb_status.specs.Mailbox.{mailbox_of, is_valid}
use Rattle.mb_msg.specs.declared.system.SysMsg.{SysMsg}
use Rattle.mb_core.specs.declared.wake_obligation.WakeObligation.{WakeObligation}
use Rattle.mb_ghost.specs.Layout.{Spot, word_at}
use Rattle.mb_ghost.specs.Ruled.{Ruled}
use Rattle.mb_ghost.specs.Seen.{Each}
use Rattle.mb_ghost.specs.Shares.{FitsIn, IsWhole, amount}
use Rattle.mb_ghost.specs.Summed.{total}
use Rattle.mb_ghost.proofs.LockedLemmas.{splits_locked, joins_locked}
use Rattle.mb_ghost.proofs.OwedLemmas.{splits_owed, joins_owed}
use Rattle.mb_ghost.proofs.RuledLemmas.{allows, splits, joins}
use Rattle.mb_ghost.proofs.SeenLemmas.{splits_seen, joins_seen, each_append}
use Rattle.mb_ghost.proofs.SharesLemmas.{splits_shares, joins_shares}
use Rattle.mb_ghost.proofs.SummedLemmas.{total_append, total_splits, total_joins}
use Rattle.mb_gate.specs.HomeFacts.{HomeFacts}
use Rattle.mb_gate.specs.ClaimCounts.{claims_got, claims_returned, claims_out}
use Rattle.mb_gate.specs.PutIn.{put_in, put_by}
use Rattle.mb_gate.specs.Releases.{taken_in_release, back_in_release, taken_by, back_by}
use Rattle.mb_gate.specs.Together.{together, came_back, NoClaimIsOut, ShowsOwnClaim, ReadsOwnClaim, ReadsFlag}
use Rattle.mb_gate.specs.Waiting.{counted_on, counted_off, on_by, off_by}
use Rattle.mb_gate.specs.declared.slot.Slot.{Slot}
use Rattle.mb_gate.specs.View.{View, Observation, Read, Held, obligation_of, obligation_to, blank, either_obligation, added_obligations}
use Rattle.mb_gate.specs.Rule.{
  Word,
  Status,
  Flag,
  Waiting,
  word_offset,
  SlotName,
  slot_offset,
  Ghost,
  held_of,
  lent_of,
  claim_for,
  list_for,
  ObservationHolds,
  SentSystemHolds,
  Knows,
  IsAmong,
  HasSeenClosed,
  MessageDue,
  SystemDue,
  HasMessageObligation,
  HasSystemObligation,
  is_some_item,
  IsBare,
  CellPlace,
  Fact,
}
use Rattle.mb_gate.proofs.Allowed.{words_few, slots_few}
use Rattle.mb_gate.proofs.Facts.{no_share}
use Rattle.mb_gate.proofs.Numbers.{among_first, among_more}
use Rattle.mb_gate.proofs.SplitsAndJoins.{same_balance, same_releases, obligation_by-added, takes_over}
use Rattle.mb_gate.proofs.WaitingSteps.{glances}
use Rattle.mb_gate.proofs.Whole.{own_claims}

abbrev one_if : Bool → ℕ
one_if b = if b then 1 else 0

same_first : {A : Type 0} (a b : A) (xs ys : List A) → a ∷ xs ≡ b ∷ ys → a ≡ b
same_first a b xs ys e = cc

same_rest : {A : Type 0} (a b : A) (xs ys : List A) → a ∷ xs ≡ b ∷ ys → xs ≡ ys
same_rest a b xs ys e = cc

-- seats are the same, of which all is that clauses name
pub same_seat : {S V : Type 0} (a b : Seat S V) → a.table_id ≡ b.table_id → a.id ≡ b.id → a.me ≡ b.me → a ≡ b
same_seat a b table id me = λ i. record { marker = record {}; table_id = table i; id = id i; me = me i }

-- and so are passes with one seat
pub same_pass : (H : RattleType) (p q : Pass H.Denot) → p.seat ≡ q.seat → p ≡ q
same_pass H p q seat = let T = pass.the_type H in Cover-one T.cover T.propositions p q (ap (λ (s : Seat (Slot H.Denot) View). (s, tt)) seat)

-- what stands in two lists joined stands in one of them
among_either : {A : Type 0} (m : A) (xs ys : List A) → IsAmong m (xs ++ ys) → IsAmong m xs ⊎ IsAmong m ys
among_either m xs ys is = from xs is.before is.joined
  where
    from : (xs before : List _) → xs ++ ys ≡ before ++ m ∷ is.after → IsAmong m xs ⊎ IsAmong m ys
    from [] before e = inr (record { before = before; after = is.after; joined = e })
    from (x ∷ xs) [] e = inl (subst (λ z. IsAmong m (z ∷ xs)) (sym (same_first x m (xs ++ ys) is.after e)) (among_first m xs))
    from (x ∷ xs) (b ∷ before) e = ⊎_elim (λ l. inl (among_more m x xs l)) (λ r. inr r)
        (from xs before (same_rest x b (xs ++ ys) (before ++ m ∷ is.after) e))

none_among : {A : Type 0} (m : A) → IsAmong m [] → ⊥
none_among m is = from is.before is.joined
  where
    from : (before : List _) → [] ≡ before ++ m ∷ is.after → ⊥
    from [] e = cc
    from (b ∷ before) e = cc

-- what holds of two lists joined holds of each
each_split : {A : Type 0} (P : A → Type 0) (xs ys : List A) → Each P (xs ++ ys) → Each P xs × Each P ys
each_split P [] ys h = (tt, h)
each_split P (x ∷ xs) ys h = let rest = each_split P xs ys h.1 in ((h.0, rest.0), rest.1)

-- what two have is what the one had
two_of : {A : Type 0} (f : A → ℕ) (mine theirs : List A) → total f mine + total f theirs ≡ total f (theirs ++ mine)
two_of f mine theirs = let e = total_append f theirs mine in omega arith

all_of : (n : ℕ) → n + 0 ≡ 0 + n
all_of n = omega arith

message_of_either : (a b : WakeObligation) → IsTrue ((either_obligation a b).message || (either_obligation a b).sending)
    → IsTrue (b.message || b.sending) ⊎ IsTrue (a.message || a.sending)
message_of_either a b h = cases a.message a.sending b.message b.sending h
  where
    cases : (p q r s : Bool) → IsTrue ((p || r) || (q || s)) → IsTrue (r || s) ⊎ IsTrue (p || q)
    cases true q r s h = inr refl
    cases false true r s h = inr refl
    cases false false true s h = inl refl
    cases false false false true h = inl refl
    cases false false false false h = inl h

system_of_either : (a b : WakeObligation) → IsTrue (either_obligation a b).system → IsTrue b.system ⊎ IsTrue a.system
system_of_either a b h = cases a.system b.system h
  where
    cases : (p q : Bool) → IsTrue (p || q) → IsTrue q ⊎ IsTrue p
    cases true q h = inr refl
    cases false true h = inl refl
    cases false false h = inl h

module _ {H : Type 0} (is_of : ℕ → H → Type 0) (facts : H → HomeFacts) (actors : ℕ) where
  abbrev F : ℕ → Spot Word SlotName (Slot H) Ghost → List View → Type 0
  F = Fact is_of facts actors

  abbrev Place : Type 0
  Place = Spot Word SlotName (Slot H) Ghost

  abbrev Rule : State (Slot H) View → Type 0
  Rule = Ruled word_offset slot_offset actors F

  knows_first : (actor : ℕ) (x : Place) (v w : View) → Knows actor x (together v w) → Knows actor x v
  knows_first actor x v w k = record {
    seen = (each_split (ObservationHolds actor x) w.log v.log k.seen).1;
    sent_system = (each_split (SentSystemHolds actor x) w.sent_system v.sent_system k.sent_system).1;
  }

  knows_second : (actor : ℕ) (x : Place) (v w : View) → Knows actor x (together v w) → Knows actor x w
  knows_second actor x v w k = record {
    seen = (each_split (ObservationHolds actor x) w.log v.log k.seen).0;
    sent_system = (each_split (SentSystemHolds actor x) w.sent_system v.sent_system k.sent_system).0;
  }

  -- one had all that two had, and each has again what it had
  parts_again : (id : ℕ) (v w : View) → w.claim ≡ None → w.list ≡ None → is_some_item v.share ≡ true → is_some_item w.share ≡ true
      → (actor : ℕ) (x : Place) (vs : List View) → get_elem? vs id ≡ some (together v w) → F actor x vs → F actor x (set vs id v ++ w ∷ [])
  parts_again id v w bare bare_list mine theirs actor x vs at f =
      let u : View = together v w in
      let owed = obligation_by-added actor w.obligations v.obligations in record {
        valid = f.valid;
        claims = splits_locked (claim_for actor) x.ghost.holder vs id u v w at refl (ap (held_of actor) bare) f.claims;
        cell = f.cell;
        lists = splits_locked (list_for actor) x.ghost.lent_to vs id u v w at refl (ap (lent_of actor) bare_list) f.lists;
        list_place = f.list_place;
        ended = f.ended;
        listing = f.listing;
        named = f.named;
        put = λ q. total_splits (put_by actor q) vs id u v w at (two_of (put_in actor q) v.log w.log) ∙ f.put q;
        releases = λ q. same_releases actor x.ghost.journal q vs (set vs id v ++ w ∷ [])
            (total_splits (taken_by actor q) vs id u v w at (two_of (taken_in_release actor q) v.releases w.releases))
            (total_splits (back_by actor q) vs id u v w at (two_of (back_in_release actor q) v.releases w.releases)) (f.releases q);
        was_pushed = f.was_pushed;
        balance = same_balance actor (x.row Waiting) vs (set vs id v ++ w ∷ [])
            (total_splits (on_by actor) vs id u v w at (two_of (counted_on actor) v.log w.log))
            (total_splits (off_by actor) vs id u v w at (two_of (counted_off actor) v.log w.log)) f.balance;
        claims_balance = total_splits (claims_got actor) vs id u v w at (two_of (λ a. if a == actor then 1 else 0) v.got w.got)
            ∙ (f.claims_balance ∙ sym (ap (λ n. n + claims_out x.ghost.holder)
            (total_splits (claims_returned actor) vs id u v w at (two_of (λ a. if a == actor then 1 else 0) v.returned w.returned))));
        held = λ one. subst (λ k. 0 < k)
            (sym (total_splits (claims_got actor) vs id u v w at (two_of (λ a. if a == actor then 1 else 0) v.got w.got))) (f.held one);
        shares = splits_shares (λ (z : View). z.share) vs id u v w at
            (λ e l r. (each_append (λ d. d ≤ e) w.share v.share r l, two_of (λ d. 2 ^ (e - d)) v.share w.share)) f.shares;
        bare = splits_seen (λ (z : View). z.share ≡ [] → IsBare actor z) vs id v w (λ bare_share. absurd (no_share v.share mine bare_share))
            (λ bare_share. absurd (no_share w.share theirs bare_share)) f.bare;
        was_seen_closed = λ b. splits_owed (HasSeenClosed b) (IsAmong b x.ghost.closed_to) vs id u v w at
            (λ p. ⊎_elim (λ l. inr l) (λ r. inl r) (among_either (Read b 1) w.log v.log p)) (f.was_seen_closed b);
        message = splits_owed (HasMessageObligation actor) (MessageDue x) vs id u v w at
            (λ p. message_of_either (obligation_to actor w) (obligation_to actor v)
            (subst (λ (d : WakeObligation). IsTrue (d.message || d.sending)) owed p)) f.message;
        system = splits_owed (HasSystemObligation actor) (SystemDue x) vs id u v w at
            (λ p. system_of_either (obligation_to actor w) (obligation_to actor v) (subst (λ (d : WakeObligation). IsTrue d.system) owed p)) f.system;
        seen = splits_seen (Knows actor x) vs id v w (knows_first actor x v w (f.seen id u at)) (knows_second actor x v w (f.seen id u at)) f.seen;
      }

  -- a view comes to a seat that knows nothing
  comes_back : (id other : ℕ) (w : View) → w.claim ≡ None → w.list ≡ None → (actor : ℕ) (x : Place) (vs : List View)
      → get_elem? vs id ≡ some blank → ¬ (other ≡ id) → get_elem? (set vs id w) other ≡ some w → F actor x vs
      → F actor x (set (set vs id w) other blank)
  comes_back id other w bare bare_list actor x vs at apart there f =
      let v : View = blank in
      let at_other : get_elem? vs other ≡ some w = sym (set_else vs id other w apart) ∙ there in record {
        valid = f.valid;
        claims = joins_locked (claim_for actor) x.ghost.holder vs id other v w w blank at there (ap (held_of actor) bare) (ap (held_of actor) bare)
            refl f.claims;
        cell = f.cell;
        lists = joins_locked (list_for actor) x.ghost.lent_to vs id other v w w blank at there (ap (lent_of actor) bare_list)
            (ap (lent_of actor) bare_list) refl f.lists;
        list_place = f.list_place;
        ended = f.ended;
        listing = f.listing;
        named = f.named;
        put = λ q. total_joins (put_by actor q) vs id other v w w blank at there (all_of (put_by actor q w)) ∙ f.put q;
        releases = λ q. same_releases actor x.ghost.journal q vs (set (set vs id w) other blank)
            (total_joins (taken_by actor q) vs id other v w w blank at there (all_of (taken_by actor q w)))
            (total_joins (back_by actor q) vs id other v w w blank at there (all_of (back_by actor q w))) (f.releases q);
        was_pushed = f.was_pushed;
        balance = same_balance actor (x.row Waiting) vs (set (set vs id w) other blank)
            (total_joins (on_by actor) vs id other v w w blank at there (all_of (on_by actor w)))
            (total_joins (off_by actor) vs id other v w w blank at there (all_of (off_by actor w))) f.balance;
        claims_balance = total_joins (claims_got actor) vs id other v w w blank at there (all_of (claims_got actor w))
            ∙ (f.claims_balance ∙ sym (ap (λ n. n + claims_out x.ghost.holder)
            (total_joins (claims_returned actor) vs id other v w w blank at there (all_of (claims_returned actor w)))));
        held = λ one. subst (λ k. 0 < k) (sym (total_joins (claims_got actor) vs id other v w w blank at there (all_of (claims_got actor w)))) (f.held one);
        shares = joins_shares (λ (z : View). z.share) vs id other v w w blank at apart there (sym (append-nil w.share)) refl f.shares;
        bare = joins_seen (λ (z : View). z.share ≡ [] → IsBare actor z) vs id other w blank (f.bare other w at_other)
            (λ _. record { got = refl; back = refl; releases = λ q. (refl, refl); on = refl; rest = λ _. (refl, refl, λ q. refl) }) f.bare;
        was_seen_closed = λ b. joins_owed (HasSeenClosed b) (IsAmong b x.ghost.closed_to) vs id other v w w blank at apart there
            (λ p. absurd (none_among (Read b 1) p)) (λ p. p) (f.was_seen_closed b);
        message = joins_owed (HasMessageObligation actor) (MessageDue x) vs id other v w w blank at apart there (λ p. absurd (let no = p in cc)) (λ p. p)
            f.message;
        system = joins_owed (HasSystemObligation actor) (SystemDue x) vs id other v w w blank at apart there (λ p. absurd (let no = p in cc)) (λ p. p)
            f.system;
        seen = joins_seen (Knows actor x) vs id other w blank (f.seen other w at_other) (record { seen = tt; sent_system = tt }) f.seen;
      }

  module _ (id : ℕ) where
    pub together_allowed : (v : View) (other : ℕ) (w : View) → w.claim ≡ None → w.list ≡ None → is_some_item w.share ≡ true
        → Joins Rule id v other w (together v w) blank
    together_allowed v other w bare no_list share = joins word_offset slot_offset words_few slots_few actors F id v other w (together v w) blank
        (takes_over is_of facts actors id v other w (w.sent_system ++ v.sent_system)
        (λ P mine theirs. each_append P w.sent_system v.sent_system theirs mine) bare no_list share)

    pub again_allowed : (u v w : View) → u ≡ together v w → w.claim ≡ None → w.list ≡ None → is_some_item v.share ≡ true → is_some_item w.share ≡ true
        → Splits Rule id u v w
    again_allowed u v w is bare no_list mine theirs = subst (λ (z : View). Splits Rule id z v w) (sym is)
        (splits word_offset slot_offset words_few slots_few actors F id (together v w) v w (parts_again id v w bare no_list mine theirs))

    pub again_chosen : (u first second v w : View) → first ≡ v → second ≡ w → u ≡ together v w → w.claim ≡ None → w.list ≡ None
        → is_some_item v.share ≡ true → is_some_item w.share ≡ true → Splits Rule id u first second
    again_chosen u first second v w one other is bare no_list mine theirs = subst (λ (z : View). Splits Rule id u z second) (sym one)
        (subst (λ (z : View). Splits Rule id u v z) (sym other) (again_allowed u v w is bare no_list mine theirs))

    pub comes_back_allowed : (v : View) (other : ℕ) (w : View) → v ≡ blank → w.claim ≡ None → w.list ≡ None → Joins Rule id v other w (came_back v w) blank
    comes_back_allowed v other w is bare no_list = subst (λ (z : View). Joins Rule id z other w (came_back z w) blank) (sym is)
        (joins word_offset slot_offset words_few slots_few actors F id blank other w w blank (comes_back id other w bare no_list))

  -- the word of an open actor that is held says that it is scheduled, and of one that is not held that it is not
  shows_holder : (actor : ℕ) (x : Place) (holder : Option (ℕ × Held)) → CellPlace is_of facts actor x holder → (mailbox_of (x.row Status)).closed ≡ false
      → claims_out holder ≡ (if (mailbox_of (x.row Status)).scheduled then 1 else 0)
  shows_holder actor x None kept unshut = ⊎_elim (λ idle. sym (ap one_if (even_bit (x.row Status) idle))) (λ one. absurd (not_open (x.row Status) one unshut))
      kept.idle
    where
      even_bit : (w : ℕ) → w % 4 ≡ 0 → (w / 2 % 2 == 1) ≡ false
      even_bit w e = let clear : w / 2 % 2 ≡ 0 = omega arith in ap (λ k. k == 1) clear

      not_open : (w : ℕ) → w ≡ 1 → (w == 1) ≡ false → ⊥
      not_open w one unshut = false_true (sym unshut ∙ eq-eqb w 1 one)
        where
          false_true : false ≡ true → ⊥
          false_true e = cc
  shows_holder actor x (Some h) kept unshut = ⊎_elim (λ busy. sym (ap one_if (odd_bit (x.row Status) busy)))
      (λ one. absurd (not_open (x.row Status) one unshut)) kept.busy
    where
      odd_bit : (w : ℕ) → w % 4 ≡ 2 → (w / 2 % 2 == 1) ≡ true
      odd_bit w e = let one : w / 2 % 2 ≡ 1 = omega arith in ap (λ k. k == 1) one

      not_open : (w : ℕ) → w ≡ 1 → (w == 1) ≡ false → ⊥
      not_open w one unshut = false_true (sym unshut ∙ eq-eqb w 1 one)
        where
          false_true : false ≡ true → ⊥
          false_true e = cc

  -- a set flag says that the actor is not held
  flag_holder : (actor : ℕ) (x : Place) (holder : Option (ℕ × Held)) → CellPlace is_of facts actor x holder → x.row Flag ≡ 1 → claims_out holder ≡ 0
  flag_holder actor x None kept one = refl
  flag_holder actor x (Some h) kept one = absurd (differ (x.row Flag) kept.flag one)
    where
      differ : (k : ℕ) → k ≡ 0 → k ≡ 1 → ⊥
      differ k clear one = omega arith

  module _ (slots id : ℕ) (me : Me (Slot H) View) (actor i : ℕ) (inside : actor < actors) where
    told_claim : (x : Place) (vs : List View) → F actor x vs → get_elem? vs id ≡ some me.0 → ShowsOwnClaim actor (mailbox_of (x.row Status)) me.0
    told_claim x vs f at whole unshut = own_claims is_of facts actors actor x vs id me.0 f at whole
        ∙ ap (λ k. claims_returned actor me.0 + k) (shows_holder actor x x.ghost.holder f.cell unshut)

    told_flag : (x : Place) (vs : List View) → F actor x vs → get_elem? vs id ≡ some me.0 → x.row Flag ≡ 1 → NoClaimIsOut actor me.0
    told_flag x vs f at one whole = own_claims is_of facts actors actor x vs id me.0 f at whole
        ∙ (ap (λ k. claims_returned actor me.0 + k) (flag_holder actor x x.ghost.holder f.cell one) ∙ none_more (claims_returned actor me.0))
      where
        none_more : (m : ℕ) → m + 0 ≡ m
        none_more m = omega arith

    same_place : (a k : ℕ) → word_at actor k ≡ word_at a k → actor ≡ a
    same_place a k e = omega arith

    pub own_claim_allowed : i ≡ word_at actor 16 → Allows Rule slots id me i (λ k. k) (ReadsOwnClaim (step slots i 0 0 none) me)
    own_claim_allowed e = subst (λ j. Allows Rule slots id me j (λ k. k) (ReadsOwnClaim (step slots j 0 0 none) me)) (sym e)
        (allows word_offset slot_offset words_few slots_few actors F slots id me actor Status (λ k. k)
        (ReadsOwnClaim (step slots (word_at actor 16) 0 0 none) me) inside
        (λ x vs f at fits. glances is_of facts actors actor id Status me (ReadsOwnClaim (step slots (word_at actor 16) 0 0 none) me (x.row Status)) x vs f at
        (λ a z. (refl, f.valid, subst (λ b. ShowsOwnClaim b (mailbox_of (x.row Status)) me.0) (same_place a 16 z) (told_claim x vs f at)))))

    pub flag_allowed : i ≡ word_at actor 7 → Allows Rule slots id me i (λ k. k) (ReadsFlag (step slots i 0 0 none) me)
    flag_allowed e = subst (λ j. Allows Rule slots id me j (λ k. k) (ReadsFlag (step slots j 0 0 none) me)) (sym e)
        (allows word_offset slot_offset words_few slots_few actors F slots id me actor Flag (λ k. k)
        (ReadsFlag (step slots (word_at actor 7) 0 0 none) me) inside
        (λ x vs f at fits. glances is_of facts actors actor id Flag me (ReadsFlag (step slots (word_at actor 7) 0 0 none) me (x.row Flag)) x vs f at
        (λ a z. (refl, (λ one. subst (λ b. NoClaimIsOut b me.0) (same_place a 7 z) (told_flag x vs f at one))))))
