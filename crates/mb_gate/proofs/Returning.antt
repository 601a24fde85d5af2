-- What is taken out of the table at its end is what is left of each actor.
use Rattle.std.proofs.Common.{
  ◌≡◌,
  ◌≢◌,
  ℕ,
  zero,
  suc,
  ◌+◌,
  ◌*◌,
  ◌%◌,
  ◌<◌,
  ◌≤◌,
  if◌then◌else◌,
  ◌⊎◌,
  ◌↔◌,
  inl,
  inr,
  ⊎_elim,
  Bool,
  true,
  false,
  not,
  IsTrue,
  List,
  [],
  ◌∷◌,
  ◌++◌,
  length,
  slice_get,
  slice_index,
  get_or,
  set,
  sym,
  refl,
  ap,
  ◌∙◌,
  subst,
  Option,
  Some,
  None,
  eq-eqb,
  get_or-set_other,
  get_or-set_same,
  length-set,
  arith,
}
use mathlib.Core.Logic.{dite}
use mathlib.Core.Option.{some, some-ne-none, some-injective}
use native.Mathlib.Decide.{ℕ_discrete}
use lib.ListN.{get_elem?}
use Rattle.atomic_table.specs.Table.{State, Final, Seen}
use Rattle.mb_status.specs.Mailbox.{word_of}
use Rattle.mb_msg.specs.declared.system.SysMsg.{SysMsg}
use Rattle.mb_syslist.specs.MessageList.{MessageList}
use Rattle.mb_ghost.specs.Layout.{Spot, spot_of, word_at, slot_at}
use Rattle.mb_ghost.specs.Ruled.{Ruled}
use Rattle.mb_ghost.specs.Seen.{Each}
use Rattle.mb_ghost.proofs.SeenLemmas.{each_weaker}
use Rattle.mb_gate.specs.HomeFacts.{HomeFacts}
use Rattle.mb_gate.specs.declared.slot.Slot.{Slot}
use Rattle.mb_gate.specs.declared.slot.Slot.TheVariants.{Home, List as Listing}
use Rattle.mb_gate.specs.declared.returned_actor.ReturnedActor.{ReturnedActor}
use Rattle.mb_gate.specs.View.{View, Read, Saw, Counted, Looked, Sent, Unsent, Took, Pushed, Drained, Ended, Held, Lent}
use Rattle.mb_gate.specs.Rule.{
  Word,
  Status,
  Flag,
  Gate,
  word_offset,
  SlotName,
  slot_offset,
  Ghost,
  ObservationHolds,
  IsAmong,
  WasPushed,
  IsHome,
  CellPlace,
  ListPlace,
  Fact,
  is_some_item,
}
use Rattle.mb_gate.specs.Returned.{IsTakenOut, IsKept, IsReturned, AreReturned}
use Rattle.mb_gate.specs.Releases.{taken_by}
use Rattle.mb_gate.proofs.Whole.{is_out, is_back, own_put, own_releases}
use Rattle.mb_gate.proofs.ListSteps.{is_shelved, gate_even}
use Rattle.mb_gate.proofs.Shows.{shows_closed}

some_same : {A : Type 0} (a b : A) → Some a ≡ Some b → a ≡ b
some_same a b e = cc

home_same : {H : Type 0} (a b : H) → Home a ≡ Home b → a ≡ b
home_same a b e = cc

list_same : {H : Type 0} (a b : MessageList) → (let x : Slot H = Listing a in x ≡ Listing b) → a ≡ b
list_same a b e = cc

word_here : (ws : List ℕ) (i n : ℕ) → get_elem? ws i ≡ some n → slice_index ws i ≡ n
word_here [] i n e = absurd (some-ne-none n (sym e))
word_here (w ∷ ws) zero n e = some-injective w n e
word_here (w ∷ ws) (suc i) n e = word_here ws i n e

word_there : (ws : List ℕ) (i : ℕ) → i < length ws → get_elem? ws i ≡ some (slice_index ws i)
word_there [] i l = absurd (omega arith)
word_there (w ∷ ws) zero l = refl
word_there (w ∷ ws) (suc i) l = word_there ws i (omega arith)

-- whether something is listed
pub listed-tells : (messages : List SysMsg) (empty : Bool) → IsTrue empty ↔ (messages ≡ []) → not empty ≡ is_some_item messages
listed-tells [] true tells = refl
listed-tells [] false tells = let e = tells.1 refl in absurd (cc)
listed-tells (m ∷ ms) true tells = let e = tells.0 refl in absurd (cc)
listed-tells (m ∷ ms) false tells = refl

none_some : {A : Type 0} (y : A) → None ≡ Some y → ⊥
none_some y e = cc

pub no_item : {A : Type 0} (xs : List A) → xs ≡ [] → (a : ℕ) (y : A) → slice_get xs a ≡ Some y → ⊥
no_item xs e a y at = none_some y (sym (ap (λ z. slice_get z a) e) ∙ at)

-- what holds of each holds with one more
pub each_more : {A : Type 0} (P : ℕ → A → Type 0) (xs : List A) (x : A) → ((a : ℕ) (y : A) → slice_get xs a ≡ Some y → P a y) → P (length xs) x
    → (a : ℕ) (y : A) → slice_get (xs ++ x ∷ []) a ≡ Some y → P a y
each_more P [] x all last zero y e = subst (P 0) (some_same x y e) last
each_more P [] x all last (suc a) y e = absurd (cc)
each_more P (z ∷ zs) x all last zero y e = all zero y e
each_more P (z ∷ zs) x all last (suc a) y e = each_more (λ n. P (suc n)) zs x (λ n w q. all (suc n) w q) last a y e

-- the two slots of an actor are emptied
module _ (fs : List Bool) (a : ℕ) (inside : 2 * a + 2 ≤ length fs) where
  pub emptied : ((k : ℕ) → k < 2 * a → get_or fs k false ≡ false) → (k : ℕ) → k < 2 * (a + 1) → get_or (set (set fs (slot_at a 0) false) (slot_at
      a 1) false) k false ≡ false
  emptied below k l = dite (ℕ_discrete k (slot_at a 1))
      (λ e. subst (λ j. get_or (set (set fs (slot_at a 0) false) (slot_at a 1) false) j false ≡ false) (sym e) (get_or-set_same (set fs (slot_at a
      0) false) (slot_at a 1) false false (let n = length-set fs (slot_at a 0) false in omega arith)))
      (λ n. get_or-set_other (set fs (slot_at a 0) false) (slot_at a 1) k false false n ∙ dite (ℕ_discrete k (slot_at a 0))
      (λ e. subst (λ j. get_or (set fs (slot_at a 0) false) j false ≡ false) (sym e) (get_or-set_same fs (slot_at a 0) false false (omega arith)))
      (λ m. get_or-set_other fs (slot_at a 0) k false false m ∙ below k (omega arith)))

  pub still_filled : (k : ℕ) → 2 * (a + 1) ≤ k → get_or fs k false ≡ true → get_or (set (set fs (slot_at a 0) false) (slot_at a 1) false) k false ≡
      true
  still_filled k l e = get_or-set_other (set fs (slot_at a 0) false) (slot_at a 1) k false false (λ n. omega arith) ∙ (get_or-set_other fs
      (slot_at a 0) k false false (λ n. omega arith) ∙ e)

module _ {H : Type 0} (is_of : ℕ → H → Type 0) (facts : H → HomeFacts) where
  abbrev Place : Type 0
  Place = Spot Word SlotName (Slot H) Ghost

  at_home : (actor : ℕ) (x : Place) (holder : Option (ℕ × Held)) → CellPlace is_of facts actor x holder
      → (x.row Status % 4 ≡ 0) ⊎
      (x.row Flag ≡ 1) → IsHome is_of facts actor x
  at_home actor x None k c = k
  at_home actor x (Some h) k c = absurd (⊎_elim (λ z. ⊎_elim (λ b. omega arith) (λ b. omega arith) k.busy) (λ o. let g = k.flag in omega arith) c)

  no_holder : (actor : ℕ) (x : Place) (holder : Option (ℕ × Held)) → CellPlace is_of facts actor x holder →
      (x.row Status % 4 ≡ 0) ⊎ (x.row Flag ≡ 1) → holder ≡ None
  no_holder actor x None k c = refl
  no_holder actor x (Some h) k c = absurd (⊎_elim (λ z. ⊎_elim (λ b. omega arith) (λ b. omega arith) k.busy) (λ o. let g = k.flag in omega arith) c)

  home_tells : (actor : ℕ) (x : Place) → IsHome is_of facts actor x → (x.row Status % 4 ≡ 0) ⊎ (x.row Flag ≡ 1)
  home_tells actor x k = ⊎_elim (λ z. inl z) (λ one. inr (k.flag ∙ ap (λ b. if b then 1 else 0) (eq-eqb (x.row Status) 1 one))) k.idle

  module _ (n : ℕ) (v : View) (id : ℕ) (ws : List ℕ) (xs : List (Slot H)) (s : State (Slot H) View) (r : Ruled word_offset slot_offset n (Fact is_of
      facts n) s) (known : get_elem? s.views id ≡ some v) (words : s.words ≡ ws)
      (same : (k : ℕ) (y : Slot H) → get_elem? s.homes k ≡ some (some y) → get_elem? xs k ≡ some y) (actor : ℕ) (inside : actor < n) where
    abbrev here : Place
    here = spot_of word_offset slot_offset s r.ghosts actor

    found : (k m : ℕ) → get_elem? ws k ≡ some m → slice_index s.words k ≡ m
    found k m e = ap (λ z. slice_index z k) words ∙ word_here ws k m e

    some_left : (left : ReturnedActor H) → IsTakenOut ws xs actor (Some left) → IsReturned is_of facts actor here v
        (Some left)
    some_left left t =
        let f = r.each actor inside in
        let status = found (word_at actor 16) t.0.status t.0.status_is in
        let flag = found (word_at actor 7) t.0.flag t.0.flag_is in
        let gate = found (word_at actor 17) t.0.gate t.0.gate_is in
        let k = at_home actor here here.ghost.holder f.cell (⊎_elim (λ z. inl (ap (λ w. w % 4) status ∙ z)) (λ o. inr (flag ∙ o)) t.0.cell) in
        let l = (is_shelved is_of facts n actor here s.views f (ap (λ w. w % 2) gate ∙ t.0.list)).1 in
        let home : k.home ≡ left.home = home_same k.home left.home (some-injective _ _ (sym (same (slot_at actor 0) (Home k.home) k.present) ∙ t.1)) in
        let list : here.ghost.listed ≡ t.2.0 = list_same {H = H} here.ghost.listed t.2.0 (some-injective _ _ (sym (same (slot_at actor 1) (Listing
        here.ghost.listed) l.present) ∙ t.2.1)) in
        let given : left.given ≡ here.ghost.listed.given = t.2.2 ∙ ap (λ (z : MessageList). z.given) (sym list) in (
          subst (is_of actor) home k.of_actor,
          k.word ∙ ap (λ h. word_of (facts h).mailbox) home,
          subst (λ j. Each (IsKept actor j (here.row Status)) v.log) (sym k.fold
              ∙ ap (λ (h : H). (facts h).journal) home) (each_weaker (ObservationHolds actor here) (IsKept actor
              here.ghost.journal (here.row Status)) v.log
              (λ z. elim z as (λ q. ObservationHolds actor here q → IsKept actor here.ghost.journal (here.row Status) q) [
                | Read a w ↦ (λ h. h)
                | Saw a j ↦ (λ h. h)
                | Counted a m ↦ (λ h. h)
                | Looked a b ↦ (λ h. h)
                | Sent a m ↦ (λ h. h)
                | Unsent a m ↦ (λ h. h)
                | Took a m ↦ (λ h. h)
                | Pushed a m k ↦ (λ h. tt)
                | Drained a given ↦ (λ h. tt)
                | Ended a given ↦ (λ h e. f.ended (h e).0)
              ]) (f.seen id v known).seen),
          given,
          t.2.3 ∙ ap (λ (z : MessageList). is_some_item z.messages) (sym list),
          ap (λ (h : H). (facts h).given) (sym home) ∙ (k.count ∙ sym given),
          (λ why. subst (λ (h : H). (facts h).no_backlog) home (k.rest why)),
        )

    -- and nobody holds the actor
    none_holds : (left : ReturnedActor H) → IsTakenOut ws xs actor (Some left) → here.ghost.holder ≡ None
    none_holds left t =
        let f = r.each actor inside in
        let status = found (word_at actor 16) t.0.status t.0.status_is in
        let flag = found (word_at actor 7) t.0.flag t.0.flag_is in
        no_holder actor here here.ghost.holder f.cell (⊎_elim (λ z. inl (ap (λ w. w % 4) status ∙ z)) (λ o. inr (flag ∙ o)) t.0.cell)

    -- whom the home that is left says to be closed the rule says so
    says_closed : (left : ReturnedActor H) → IsTakenOut ws xs actor (Some left) → (other : ℕ) → IsAmong other (facts left.home).closed_to → IsAmong other
        here.ghost.closed_to
    says_closed left t other is =
        let f = r.each actor inside in
        let status = found (word_at actor 16) t.0.status t.0.status_is in
        let flag = found (word_at actor 7) t.0.flag t.0.flag_is in
        let k = at_home actor here here.ghost.holder f.cell (⊎_elim (λ z. inl (ap (λ w. w % 4) status ∙ z)) (λ o. inr (flag ∙ o)) t.0.cell) in
        let home : k.home ≡ left.home = home_same k.home left.home (some-injective _ _ (sym (same (slot_at actor 0) (Home k.home) k.present) ∙ t.1)) in
        subst (IsAmong other) k.known_closed (subst (λ h. IsAmong other (facts h).closed_to) (sym home) is)

    -- and what it says its list gave was put into the list
    says_drained : (left : ReturnedActor H) → IsTakenOut ws xs actor (Some left) → Each (WasPushed here.ghost) (facts left.home).drained
    says_drained left t =
        let f = r.each actor inside in
        let status = found (word_at actor 16) t.0.status t.0.status_is in
        let flag = found (word_at actor 7) t.0.flag t.0.flag_is in
        let k = at_home actor here here.ghost.holder f.cell (⊎_elim (λ z. inl (ap (λ w. w % 4) status ∙ z)) (λ o. inr (flag ∙ o)) t.0.cell) in
        let home : k.home ≡ left.home = home_same k.home left.home (some-injective _ _ (sym (same (slot_at actor 0) (Home k.home) k.present) ∙ t.1)) in
        subst (λ (h : H). Each (WasPushed here.ghost) (facts h).drained) home (subst (Each (WasPushed here.ghost)) (sym k.drained) f.was_pushed)

    -- its journal is the one that the rule keeps
    says_journal : (left : ReturnedActor H) → IsTakenOut ws xs actor (Some left) → here.ghost.journal ≡ (facts left.home).journal
    says_journal left t =
        let f = r.each actor inside in
        let status = found (word_at actor 16) t.0.status t.0.status_is in
        let flag = found (word_at actor 7) t.0.flag t.0.flag_is in
        let k = at_home actor here here.ghost.holder f.cell (⊎_elim (λ z. inl (ap (λ w. w % 4) status ∙ z)) (λ o. inr (flag ∙ o)) t.0.cell) in
        let home : k.home ≡ left.home = home_same k.home left.home (some-injective _ _ (sym (same (slot_at actor 0) (Home k.home) k.present) ∙ t.1)) in
        sym k.fold ∙ ap (λ (h : H). (facts h).journal) home

    none_left : IsTakenOut ws xs actor None → IsReturned is_of facts actor here v None
    none_left t = let f = r.each actor inside in cases here.ghost.holder here.ghost.lent_to f.cell f.list_place
      where
        at : (k : ℕ) → k < 32 * n → get_elem? ws k ≡ some (slice_index s.words k)
        at k l = subst (λ z. get_elem? z k ≡ some (slice_index s.words k)) words (word_there s.words k (let word_count = r.word_count in omega arith))

        cases : (holder : Option (ℕ × Held)) (lent_to : Option (ℕ × Lent)) → CellPlace is_of facts actor here
            holder → ListPlace is_of
            facts here lent_to → (holder ≢ None) ⊎ (lent_to ≢ None)
        cases (Some h) lent_to k l = inl (λ e. cc)
        cases None (Some h) k l = inr (λ e. cc)
        cases None None k l = absurd (t k.home here.ghost.listed (record {
          status = here.row Status;
          flag = here.row Flag;
          gate = here.row Gate;
          status_is = at (word_at actor 16) (omega arith);
          flag_is = at (word_at actor 7) (omega arith);
          gate_is = at (word_at actor 17) (omega arith);
          cell = home_tells actor here k;
          list = ap (λ w. w % 2) l.word ∙ gate_even here.ghost.listed here.ghost.gave;
        }) (same (slot_at actor 0) (Home k.home) k.present) (same (slot_at actor 1) (Listing here.ghost.listed) l.present))

    is_left : (left : Option (ReturnedActor H)) → IsTakenOut ws xs actor left → IsReturned is_of facts actor here v left
    is_left (Some left) t = some_left left t
    is_left None t = none_left t

  -- what was taken out of each is what is left of it
  pub are_left : (n : ℕ) (v : View) (id : ℕ) (ws : List ℕ) (xs : List (Slot H)) (all : List (Option (ReturnedActor H))) → v.list ≡ None
      → Final (Seen (Ruled word_offset slot_offset n (Fact is_of facts n)) id v) ws xs → length all ≡ n
      → ((a : ℕ) (left : Option (ReturnedActor H)) → slice_get all a ≡ Some left → IsTakenOut ws xs a left)
      → AreReturned is_of facts n v all
  are_left n v id ws xs all bare_list final many each = record {
    state = final.0;
    rule = final.1.0;
    seat = id;
    known = final.1.1;
    same_count = many;
    each = λ a left inside at. is_left n v id ws xs final.0 final.1.0 final.1.1 final.2 final.4 a inside left (each a left at);
    out = λ whole a inside at. is_out is_of facts n a _ final.0.views id v (final.1.0.each a inside) final.1.1
        whole bare_list (none_left n v id ws xs final.0 final.1.0 final.1.1 final.2 final.4 a inside (each a None at));
    back = λ whole a left inside at. is_back is_of facts n a _ final.0.views id v
        (final.1.0.each a inside) final.1.1 whole
        (none_holds n v id ws xs final.0 final.1.0 final.1.1 final.2 final.4 a inside left (each a (Some left) at));
    closed = λ a other left inside there at is. shows_closed is_of facts n final.0 final.1.0 a other inside there
        (says_closed n v id ws xs final.0 final.1.0 final.1.1 final.2 final.4 a inside left (each a (Some left) at) other is);
    pushed = λ a left inside at. says_drained n v id ws xs final.0 final.1.0 final.1.1 final.2 final.4 a inside left (each a (Some left) at);
    put = λ whole a left inside at. own_put is_of facts n a _ final.0.views id v (final.1.0.each a inside) final.1.1 whole
        (none_holds n v id ws xs final.0 final.1.0 final.1.1 final.2 final.4 a inside left (each a (Some left) at));
    releases = λ whole a left inside at q. own_releases is_of facts n a _ final.0.views id v (final.1.0.each a inside) final.1.1 whole q
        ∙ ap (λ j. taken_by a q v + q j) (says_journal n v id ws xs final.0 final.1.0 final.1.1 final.2 final.4 a inside left (each a (Some left) at));
  }
