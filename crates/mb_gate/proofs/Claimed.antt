-- Who has a claim of an actor, where its cell is, and that what was seen of it holds.
use Rattle.std.proofs.Common.{◌≡◌, ℕ, zero, suc, if◌then◌else◌, IsNone, List, [], ◌∷◌, Option, Some, None, sym, refl, ap, ◌∙◌, subst, eq-eqb, IsTrue}
use mathlib.Core.Option.{some, none, some-ne-none, some-injective}
use lib.ListN.{get_elem?}
use Rattle.mb_status.specs.Mailbox.{word_of}
use Rattle.mb_ghost.specs.Layout.{Spot, spot_of}
use Rattle.mb_ghost.specs.Locked.{ticket_at, Locked}
use Rattle.mb_ghost.specs.Seen.{Each}
use Rattle.mb_ghost.proofs.LockedLemmas.{is_holder}
use Rattle.mb_ghost.proofs.SeenLemmas.{each_weaker}
use Rattle.mb_gate.specs.HomeFacts.{HomeFacts}
use Rattle.mb_gate.specs.declared.slot.Slot.{Slot}
use Rattle.mb_gate.specs.declared.slot.Slot.TheVariants.{Home}
use Rattle.mb_gate.specs.View.{View, Read, Saw, Counted, Looked, Sent, Unsent, Took, Pushed, Drained, Ended, Held}
use Rattle.mb_gate.specs.Rule.{Word, Status, word_offset, SlotName, CellSlot, slot_offset, Ghost, claim_for, CellPlace, IsHeld, ObservationHolds, Knows}
use Rattle.mb_gate.specs.Returned.{IsKept}
use Rattle.mb_gate.specs.Shown.{IsAtHome, ShowsClaims, ShowsSeen, holder_of}

-- who is named by the holder has a view with that claim
ticket_there : (ticket : View → Option Held) (vs : List View) (q : ℕ) (t : Held) → ticket_at ticket vs q ≡ Some t
    → (v : View) × (get_elem? vs q ≡ some v) × (ticket v ≡ Some t)
ticket_there ticket [] q t e = absurd (cc)
ticket_there ticket (v ∷ vs) zero t e = (v, refl, e)
ticket_there ticket (v ∷ vs) (suc q) t e = ticket_there ticket vs q t e

same_home : {H : Type 0} (a b : H) → Home a ≡ Home b → a ≡ b
same_home a b e = cc

same_seat : (a b : ℕ) → Some a ≡ Some b → a ≡ b
same_seat a b e = cc

module _ {H : Type 0} (is_of : ℕ → H → Type 0) (facts : H → HomeFacts) where
  abbrev Place : Type 0
  Place = Spot Word SlotName (Slot H) Ghost

  abbrev Kept : ℕ → Place → Option (ℕ × Held) → Type 0
  Kept = CellPlace is_of facts

  not_home : (x : Place) (home : H) → x.slot CellSlot ≡ some none → x.slot CellSlot ≡ some (some (Home home)) → ⊥
  not_home x home out there = some-ne-none (Home home) (sym (some-injective none (some (Home home)) (sym out ∙ there)))

  holds : (actor : ℕ) (x : Place) (vs : List View) (holder : Option (ℕ × Held)) → Locked (claim_for actor) holder vs → Kept actor x holder
      → (p : ℕ) (v : View) (claim : Held) → get_elem? vs p ≡ some v → claim_for actor v ≡ Some claim
      → (holder_of holder ≡ Some p) × (x.row Status ≡ claim.word)
  holds actor x vs holder locked kept p v claim at has =
      let is : holder ≡ Some (p, claim) = is_holder (claim_for actor) holder vs p v claim at has locked in
      let held : IsHeld is_of facts actor x claim = subst (Kept actor x) is kept in
      (ap holder_of is, held.word)

  holder_has : (actor : ℕ) (vs : List View) (holder : Option (ℕ × Held)) → Locked (claim_for actor) holder vs
      → (p : ℕ) → holder_of holder ≡ Some p → (v : View) × (claim : Held) × (get_elem? vs p ≡ some v) × (claim_for actor v ≡ Some claim)
  holder_has actor vs None locked p e = absurd (cc)
  holder_has actor vs (Some h) locked p e =
      let at : ticket_at (claim_for actor) vs h.0 ≡ Some h.1 = locked h.0 ∙ ap (λ b. if b then Some h.1 else None) (eq-eqb h.0 h.0 refl) in
      let found = ticket_there (claim_for actor) vs h.0 h.1 at in
      (found.0, h.1, subst (λ q. get_elem? vs q ≡ some found.0) (same_seat h.0 p e) found.1, found.2)

  at_home : (actor : ℕ) (x : Place) (holder : Option (ℕ × Held)) → Kept actor x holder → IsNone (holder_of holder) → IsAtHome x
  at_home actor x None kept free = (kept.home, kept.present)
  at_home actor x (Some h) kept free = absurd (cc)

  nobody : (actor : ℕ) (x : Place) (holder : Option (ℕ × Held)) → Kept actor x holder → IsAtHome x → IsNone (holder_of holder)
  nobody actor x None kept there = refl
  nobody actor x (Some h) kept there = absurd (not_home x there.0 kept.out there.1)

  home_there : (actor : ℕ) (x : Place) (kept : Kept actor x None) (home : H) → x.slot CellSlot ≡ some (some (Home home)) → kept.home ≡ home
  home_there actor x kept home there = same_home kept.home home (some-injective (Home kept.home) (Home home)
      (some-injective (some (Home kept.home)) (some (Home home)) (sym kept.present ∙ there)))

  -- the journal that the rule keeps of the actor is the one of its home, and the one with which its claim was taken
  at_home_journal : (actor : ℕ) (x : Place) (holder : Option (ℕ × Held)) → Kept actor x holder → (home : H)
      → x.slot CellSlot ≡ some (some (Home home))
      → x.ghost.journal ≡ (facts home).journal
  at_home_journal actor x None kept home there = sym kept.fold ∙ ap (λ (h : H). (facts h).journal) (home_there actor x kept home there)
  at_home_journal actor x (Some h) kept home there = absurd (not_home x home kept.out there)

  taken_journal : (actor : ℕ) (x : Place) (vs : List View) (holder : Option (ℕ × Held)) → Locked (claim_for actor) holder vs → Kept actor x holder
      → (q : ℕ) (w : View) (claim : Held) → get_elem? vs q ≡ some w → claim_for actor w ≡ Some claim → x.ghost.journal ≡ claim.journal
  taken_journal actor x vs holder locked kept q w claim at has =
      let is : holder ≡ Some (q, claim) = is_holder (claim_for actor) holder vs q w claim at has locked in
      let held : IsHeld is_of facts actor x claim = subst (Kept actor x) is kept in
      sym held.taken

  as_kept : (actor : ℕ) (x : Place) (v : View) → (IsTrue x.ghost.listed.closed → x.row Status ≡ 1) → Knows actor x v
      → Each (IsKept actor x.ghost.journal (x.row Status)) v.log
  as_kept actor x v ended knows = each_weaker (ObservationHolds actor x) (IsKept actor x.ghost.journal (x.row Status)) v.log
      (λ z. elim z as (λ q. ObservationHolds actor x q → IsKept actor x.ghost.journal (x.row Status) q) [
        | Read a w ↦ (λ h. h)
        | Saw a j ↦ (λ h. h)
        | Counted a m ↦ (λ h. h)
        | Looked a b ↦ (λ h. h)
        | Sent a m ↦ (λ h. h)
        | Unsent a m ↦ (λ h. h)
        | Took a m ↦ (λ h. h)
        | Pushed a m k ↦ (λ h. tt)
        | Drained a given ↦ (λ h. tt)
        | Ended a given ↦ (λ h e. ended (h e).0)
      ]) knows.seen

  its_own : (actor : ℕ) (x : Place) (holder : Option (ℕ × Held)) → Kept actor x holder → (home : H) → x.slot CellSlot ≡ some (some (Home home))
      → is_of actor home × (x.row Status ≡ word_of (facts home).mailbox)
  its_own actor x None kept home there =
      let same : kept.home ≡ home = home_there actor x kept home there in
      (subst (is_of actor) same kept.of_actor, kept.word ∙ ap (λ (h : H). word_of (facts h).mailbox) same)
  its_own actor x (Some h) kept home there = absurd (not_home x home kept.out there)

  pub shows_claims : ShowsClaims is_of facts
  shows_claims n s r actor inside =
      let x = spot_of word_offset slot_offset s r.ghosts actor in
      let f = r.each actor inside in (
        holds actor x s.views x.ghost.holder f.claims f.cell,
        holder_has actor s.views x.ghost.holder f.claims,
        (at_home actor x x.ghost.holder f.cell, nobody actor x x.ghost.holder f.cell),
        its_own actor x x.ghost.holder f.cell,
      )

  pub shows_seen : ShowsSeen is_of facts
  shows_seen n s r actor inside p v at =
      let x = spot_of word_offset slot_offset s r.ghosts actor in
      let f = r.each actor inside in
      let kept = as_kept actor x v f.ended (f.seen p v at) in (
        (λ home there. subst (λ j. Each (IsKept actor j (x.row Status)) v.log) (at_home_journal actor x x.ghost.holder f.cell home there) kept),
        (λ q w claim here has. subst (λ j. Each (IsKept actor j (x.row Status)) v.log)
            (taken_journal actor x s.views x.ghost.holder f.claims f.cell q w claim here has) kept),
      )
