-- What holds of an actor of which the seat with the whole share got no claim.
use Rattle.std.proofs.Common.{◌≡◌, ◌≢◌, ℕ, ◌<◌, Bool, true, false, IsTrue, Option, None, refl, subst, arith}
use Rattle.mb_ghost.specs.Layout.{Spot, spot_of}
use Rattle.mb_gate.specs.HomeFacts.{HomeFacts}
use Rattle.mb_gate.specs.declared.slot.Slot.{Slot}
use Rattle.mb_gate.specs.View.{Held}
use Rattle.mb_gate.specs.Rule.{Word, Status, word_offset, SlotName, slot_offset, Ghost, IsHome, CellPlace}
use Rattle.mb_gate.specs.Shown.{ShowsUnclaimed}
use Rattle.mb_gate.proofs.Whole.{unheld, was_held}

not_true : (b : Bool) → (IsTrue b → ⊥) → b ≡ false
not_true true never = absurd (never refl)
not_true false never = refl

no_more_than_none : (n : ℕ) → n ≡ 0 → 0 < n → ⊥
no_more_than_none n is more = omega arith

module _ {H : Type 0} (is_of : ℕ → H → Type 0) (facts : H → HomeFacts) where
  home_of : (actor : ℕ) (x : Spot Word SlotName (Slot H) Ghost) (holder : Option (ℕ × Held)) → holder ≡ None
      → CellPlace is_of facts actor x holder → IsHome is_of facts actor x
  home_of actor x holder free kept = subst (CellPlace is_of facts actor x) free kept

  pub shows_unclaimed : ShowsUnclaimed is_of facts
  shows_unclaimed n s r actor inside p v at whole unclaimed =
      let x = spot_of word_offset slot_offset s r.ghosts actor in
      let f = r.each actor inside in
      let home = home_of actor x x.ghost.holder
      (unheld is_of facts n actor x s.views p v f at whole unclaimed) f.cell in
      let open_yet : x.row Status ≢ 1 = (λ one. no_more_than_none _ unclaimed
      (was_held is_of facts n actor x s.views p v f at whole one)) in
      ((home.home, home.present, home.of_actor, home.word), open_yet, not_true x.ghost.listed.closed (λ ended. open_yet (f.ended ended)))
