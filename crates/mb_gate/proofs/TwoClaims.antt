-- Two claims of one actor can't be: the view of one goes to a seat that has nothing out, and no state allows that this seat is joined with the other.
use Rattle.std.proofs.Common.{
  ◌≡◌,
  ◌≢◌,
  ℕ,
  zero,
  suc,
  ◌+◌,
  ◌<◌,
  ◌==◌,
  if◌then◌else◌,
  inr,
  Bool,
  true,
  false,
  IsTrue,
  List,
  [],
  ◌∷◌,
  ◌++◌,
  length,
  set,
  sym,
  refl,
  ap,
  ◌∙◌,
  subst,
  Option,
  Some,
  None,
  eq-eqb,
  ne_eqb,
  arith,
  length-set,
}
use mathlib.Core.Logic.{dite}
use native.Mathlib.Decide.{ℕ_discrete}
use mathlib.Core.Option.{some}
use lib.ListN.{get_elem?}
use Rattle.mb_status.specs.Mailbox.{is_valid}
use Rattle.atomic_table.specs.Table.{State, Me, Allows, Splits, Joins}
use Rattle.atomic_table.proofs.Lists.{set_else}
use Rattle.mb_ghost.specs.Layout.{Spot, spot_of}
use Rattle.mb_ghost.specs.Ruled.{Ruled}
use Rattle.mb_ghost.specs.Locked.{ticket_at, held_by, Locked}
use Rattle.mb_ghost.specs.Summed.{total}
use Rattle.mb_ghost.specs.Shares.{amount}
use Rattle.mb_ghost.proofs.LockedLemmas.{ticket_here, puts_back, splits_locked}
use Rattle.mb_ghost.proofs.OwedLemmas.{splits_owed}
use Rattle.mb_ghost.proofs.SeenLemmas.{splits_seen}
use Rattle.mb_ghost.proofs.SummedLemmas.{total_splits}
use Rattle.mb_ghost.proofs.SharesLemmas.{splits_shares}
use Rattle.mb_gate.specs.HomeFacts.{HomeFacts}
use Rattle.mb_gate.specs.declared.slot.Slot.{Slot}
use Rattle.mb_gate.specs.View.{View, Held, blank}
use Rattle.mb_gate.specs.Waiting.{on_by, off_by}
use Rattle.mb_gate.specs.PutIn.{put_by}
use Rattle.mb_gate.specs.Releases.{taken_by, back_by}
use Rattle.mb_gate.specs.ClaimCounts.{claims_got, claims_returned, claims_out}
use Rattle.mb_gate.specs.TwoClaims.{moved_out, moved_in, twice_claimed}
use Rattle.mb_gate.specs.Rule.{
  Word,
  Waiting,
  word_offset,
  SlotName,
  slot_offset,
  Ghost,
  lent_of,
  claim_for,
  list_for,
  Knows,
  IsAmong,
  HasSeenClosed,
  MessageDue,
  SystemDue,
  HasMessageObligation,
  HasSystemObligation,
  IsBare,
  CellPlace,
  Fact,
}
use Rattle.mb_gate.proofs.Facts.{still_kept, still_shelved}
use Rattle.mb_gate.proofs.SplitsAndJoins.{same_balance, same_releases}
use Rattle.mb_gate.proofs.StatusSteps.{is_held}
use Rattle.mb_gate.proofs.Views.{extends_self, grown, goes_on}

none_more : (m : ℕ) → 0 + m ≡ m
none_more m = omega arith

-- The holder, where the view of the seat `id` went to the seat `new`.
abbrev reseated : {T : Type 0} → ℕ → ℕ → Option (ℕ × T) → Option (ℕ × T)
reseated id new None = None
reseated id new (Some h) = if h.0 == id then Some (new, h.1) else Some h

module _ {V T : Type 0} (ticket : V → Option T) where
  ticket_last : (vs : List V) (v : V) → ticket_at ticket (vs ++ v ∷ []) (length vs) ≡ ticket v
  ticket_last [] v = refl
  ticket_last (x ∷ xs) v = ticket_last xs v

  ticket_before : (vs : List V) (v : V) (q : ℕ) → q ≢ length vs → ticket_at ticket (vs ++ v ∷ []) q ≡ ticket_at ticket vs q
  ticket_before [] v zero n = absurd (n refl)
  ticket_before [] v (suc q) n = refl
  ticket_before (x ∷ xs) v zero n = refl
  ticket_before (x ∷ xs) v (suc q) n = ticket_before xs v q (λ e. n (ap suc e))

  -- a new seat comes with the only ticket
  comes_with : (vs : List V) (v : V) (t : T) → ticket v ≡ Some t → Locked ticket None vs → Locked ticket (Some (length vs, t)) (vs ++ v ∷ [])
  comes_with vs v t has locked q = dite (ℕ_discrete q (length vs))
      (λ same. let here : held_by (Some (length vs, t)) q ≡ Some t = ap (λ b. if b then Some t else None) (eq-eqb (length vs) q (sym same)) in
      ap (ticket_at ticket (vs ++ v ∷ [])) same ∙ (ticket_last vs v ∙ (has ∙ sym here)))
      (λ other. ticket_before vs v q other ∙ (locked q ∙ sym (ap (λ b. if b then Some t else None) (ne_eqb (length vs) q (λ e. other (sym e))))))

  -- a view goes to a new seat as a whole, with its ticket
  moves_locked : (holder : Option (ℕ × T)) (vs : List V) (id : ℕ) (v empty : V) → get_elem? vs id ≡ some v → ticket empty ≡ None
      → Locked ticket holder vs → Locked ticket (reseated id (length vs) holder) (set vs id empty ++ v ∷ [])
  moves_locked None vs id v empty at bare locked =
      let none : ticket v ≡ None = sym (ticket_here ticket vs id v at) ∙ locked id in
      splits_locked ticket None vs id v empty v at (bare ∙ sym none) none locked
  moves_locked (Some h) vs id v empty at bare locked = dite (ℕ_discrete h.0 id)
      (λ same. let mine : Locked ticket (Some (id, h.1)) vs = subst (λ n. Locked ticket (Some (n, h.1)) vs) same locked in
      let has : ticket v ≡ Some h.1 = sym (ticket_here ticket vs id v at) ∙ (mine id ∙ ap (λ b. if b then Some h.1 else None) (eq-eqb id id refl)) in
      subst (λ o. Locked ticket o (set vs id empty ++ v ∷ []))
      (ap (λ n. Some (n, h.1)) (length-set vs id empty) ∙ sym (ap (λ b. if b then Some (length vs, h.1) else Some h) (eq-eqb h.0 id same)))
      (comes_with (set vs id empty) v h.1 has (puts_back ticket vs id v empty h.1 at bare mine)))
      (λ other. let none : ticket v ≡ None = sym (ticket_here ticket vs id v at) ∙ (locked id ∙ ap (λ b. if b then Some h.1 else None) (ne_eqb h.0 id other)) in
      subst (λ o. Locked ticket o (set vs id empty ++ v ∷ [])) (sym (ap (λ b. if b then Some (length vs, h.1) else Some h) (ne_eqb h.0 id other)))
      (splits_locked ticket (Some h) vs id v empty v at (bare ∙ sym none) none locked))

reseated_out : (id new : ℕ) (holder : Option (ℕ × Held)) → claims_out (reseated id new holder) ≡ claims_out holder
reseated_out id new None = refl
reseated_out id new (Some h) = cases (h.0 == id)
  where
    cases : (b : Bool) → claims_out (if b then Some (new, h.1) else Some h) ≡ 1
    cases true = refl
    cases false = refl

module _ {H : Type 0} (is_of : ℕ → H → Type 0) (facts : H → HomeFacts) (n : ℕ) where
  abbrev F : ℕ → Spot Word SlotName (Slot H) Ghost → List View → Type 0
  F = Fact is_of facts n

  abbrev Place : Type 0
  Place = Spot Word SlotName (Slot H) Ghost

  abbrev Rule : State (Slot H) View → Type 0
  Rule = Ruled word_offset slot_offset n F

  reseated_place : (actor id new : ℕ) (x : Place) (holder : Option (ℕ × Held)) → CellPlace is_of facts actor x holder
      → CellPlace is_of facts actor x (reseated id new holder)
  reseated_place actor id new x None kept = kept
  reseated_place actor id new x (Some h) kept = cases (h.0 == id)
    where
      cases : (b : Bool) → CellPlace is_of facts actor x (if b then Some (new, h.1) else Some h)
      cases true = kept
      cases false = kept

  -- a view without a list goes to a new seat as a whole
  moves : (id : ℕ) (v : View) → v.list ≡ None → (actor : ℕ) (x : Place) (vs : List View) → get_elem? vs id ≡ some v → F actor x vs
      → F actor (record x { ghost = record x.ghost { holder = reseated id (length vs) x.ghost.holder } }) (set vs id blank ++ v ∷ [])
  moves id v no_list actor x vs at f =
      let holder = reseated id (length vs) x.ghost.holder in
      let y : Place = record x { ghost = record x.ghost { holder = holder } } in
      let none : list_for actor v ≡ None = ap (lent_of actor) no_list in
      let knows : (u : View) → Knows actor x u → Knows actor y u = (λ u. goes_on actor x y u (grown x y (λ e. e) (λ e. e) (extends_self x.ghost.journal) refl)) in
      record {
        valid = f.valid;
        claims = moves_locked (claim_for actor) x.ghost.holder vs id v blank at refl f.claims;
        cell = reseated_place actor id (length vs) y x.ghost.holder (still_kept is_of facts n actor x y refl refl refl refl refl refl refl refl x.ghost.holder f.cell);
        lists = splits_locked (list_for actor) x.ghost.lent_to vs id v blank v at (sym none) none f.lists;
        list_place = still_shelved is_of facts n actor x y refl refl refl refl x.ghost.lent_to f.list_place;
        ended = f.ended;
        listing = f.listing;
        named = f.named;
        put = λ q. total_splits (put_by actor q) vs id v blank v at (none_more (put_by actor q v)) ∙ f.put q;
        releases = λ q. same_releases actor x.ghost.journal q vs (set vs id blank ++ v ∷ [])
            (total_splits (taken_by actor q) vs id v blank v at (none_more (taken_by actor q v)))
            (total_splits (back_by actor q) vs id v blank v at (none_more (back_by actor q v))) (f.releases q);
        was_pushed = f.was_pushed;
        balance = same_balance actor (x.row Waiting) vs (set vs id blank ++ v ∷ []) (total_splits (on_by actor) vs id v blank v at (none_more (on_by actor v)))
            (total_splits (off_by actor) vs id v blank v at (none_more (off_by actor v))) f.balance;
        claims_balance = total_splits (claims_got actor) vs id v blank v at (none_more (claims_got actor v)) ∙ (f.claims_balance ∙ sym
            (ap (λ k. k + claims_out holder) (total_splits (claims_returned actor) vs id v blank v at (none_more (claims_returned actor v)))
            ∙ ap (λ k. total (claims_returned actor) vs + k) (reseated_out id (length vs) x.ghost.holder)));
        held = λ one. subst (λ k. 0 < k) (sym (total_splits (claims_got actor) vs id v blank v at (none_more (claims_got actor v)))) (f.held one);
        shares = splits_shares (λ (u : View). u.share) vs id v blank v at (λ e l r. (r, none_more (amount e v.share))) f.shares;
        bare = splits_seen (λ (u : View). u.share ≡ [] → IsBare actor u) vs id blank v (λ _. record { got = refl; back = refl; releases = λ q. (refl, refl); on = refl; rest = λ _. (refl, refl, λ q. refl) })
            (f.bare id v at) f.bare;
        was_seen_closed = λ b. splits_owed (HasSeenClosed b) (IsAmong b x.ghost.closed_to) vs id v blank v at (λ p. inr p) (f.was_seen_closed b);
        message = splits_owed (HasMessageObligation actor) (MessageDue x) vs id v blank v at (λ p. inr p) f.message;
        system = splits_owed (HasSystemObligation actor) (SystemDue x) vs id v blank v at (λ p. inr p) f.system;
        seen = splits_seen (Knows actor y) vs id blank v (record { seen = tt; sent_system = tt }) (knows v (f.seen id v at)) (λ q u there. knows u (f.seen q u there));
      }

  pub moves_allowed : (id : ℕ) (v : View) → v.list ≡ None → Splits Rule id v (moved_out v) (moved_in v)
  moves_allowed id v no_list s r at = record {
    ghosts = λ a. record (r.ghosts a) { holder = reseated id (length s.views) (r.ghosts a).holder };
    word_count = r.word_count;
    slot_count = r.slot_count;
    each = λ a l. moves id v no_list a _ s.views at (r.each a l);
  }

  module _ (actor : ℕ) (inside : actor < n) where
    -- no state has two seats with a claim of one actor, so whatever they come to keeps the rule
    pub joins_claims_allowed : (id : ℕ) (v : View) (other : ℕ) (w : View) (c d : Held) → v.claim ≡ Some c → c.actor ≡ actor → w.claim ≡ Some d
        → d.actor ≡ actor → Joins Rule id v other w (twice_claimed v w) blank
    joins_claims_allowed id v other w c d has of has_too of_too s r at apart there =
        let f = r.each actor inside in
        let x = spot_of word_offset slot_offset s r.ghosts actor in
        let first : x.ghost.holder ≡ Some (id, c) = (is_held is_of facts n actor id x s.views v c f at has of).0 in
        let at_other : get_elem? s.views other ≡ some w = sym (set_else s.views id other (twice_claimed v w) apart) ∙ there in
        let second : x.ghost.holder ≡ Some (other, d) = (is_held is_of facts n actor other x s.views w d f at_other has_too of_too).0 in
        absurd (apart (ap seat_of (sym second ∙ first)))
      where
        seat_of : Option (ℕ × Held) → ℕ
        seat_of None = 0
        seat_of (Some h) = h.0

    -- nor one in which a claim knows a word that no mailbox has
    pub never_allowed : (slots id i : ℕ) (me : Me (Slot H) View) (c : Held) → me.0.claim ≡ Some c → c.actor ≡ actor → c.word ≡ 3
        → Allows Rule slots id me i (λ k. k) (λ found after. ⊥)
    never_allowed slots id i me c has of three s r deep at fits =
        let f = r.each actor inside in
        let held = (is_held is_of facts n actor id _ s.views me.0 c f at has of).1 in
        absurd (no_word (subst (λ k. IsTrue (is_valid k)) (held.word ∙ three) f.valid))
      where
        no_word : IsTrue (is_valid 3) → ⊥
        no_word e = cc
