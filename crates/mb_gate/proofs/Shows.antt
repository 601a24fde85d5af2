-- The table shows a state of the abstract machine, and the machine's facts hold of it.
use Rattle.std.proofs.Common.{
  ◌≡◌,
  ◌≢◌,
  ℕ,
  zero,
  suc,
  ◌/◌,
  ◌%◌,
  ◌==◌,
  ◌<◌,
  if◌then◌else◌,
  ◌⊎◌,
  inl,
  inr,
  ⊎_elim,
  Bool,
  true,
  false,
  ◌||◌,
  IsTrue,
  IsFalse,
  IsSome,
  IsNone,
  List,
  [],
  ◌∷◌,
  ◌++◌,
  map,
  length,
  get_or,
  sym,
  refl,
  ap,
  ◌∙◌,
  subst,
  Option,
  Some,
  None,
  eq-eqb,
  arith,
  Any,
}
use Rattle.std.proofs.lemmas.Bool.Decides.{nat_tests}
use mathlib.Core.Option.{some, some-ne-none, some-injective}
use lib.ListN.{get_elem?, length-map}
use Rattle.mb_status.specs.Mailbox.{mailbox_of, is_valid, is_possible}
use Rattle.mb_status.specs.WordLemmas.{word_of-mailbox_of}
use Rattle.mb_msg.specs.declared.system.SysMsg.{SysMsg}
use Rattle.mb_core.specs.declared.wake_obligation.WakeObligation.{WakeObligation}
use Rattle.mb_core.specs.Actor as machine
use Rattle.mb_ghost.specs.Layout.{Spot, spot_of}
use Rattle.mb_ghost.specs.Locked.{ticket_at, Locked}
use Rattle.mb_ghost.specs.Owed.{ObligedParty}
use Rattle.mb_gate.specs.HomeFacts.{HomeFacts}
use Rattle.mb_gate.specs.declared.slot.Slot.{Slot}
use Rattle.mb_gate.specs.View.{View, Read, Pushed, Drained, Ended, Held, obligation_to}
use Rattle.mb_gate.specs.Rule.{Word, Status, word_offset, SlotName, slot_offset, Ghost, is_some_item, has_work, claim_for, ObservationHolds, all_numbered, CellPlace}
use Rattle.mb_gate.proofs.Numbers.{each_among}
use Rattle.mb_gate.specs.Shown.{ShowsClosed, ShowsBalance, ShowsNumbers, holder_of, work_of, ShowsMachine}
use Rattle.mb_gate.proofs.OneNumber.{one_message, among_part}

valid_possible : (w : ℕ) → IsTrue (is_valid w) → IsTrue (is_possible (mailbox_of w))
valid_possible w v = grind (arith, nat_tests)

inside_of : {T : Type 0} (ticket : View → Option T) (vs : List View) (q : ℕ) (t : T) → ticket_at ticket vs q ≡ Some t → q < length vs
inside_of ticket [] q t e = absurd (cc)
inside_of ticket (v ∷ vs) zero t e = omega arith
inside_of ticket (v ∷ vs) (suc q) t e = let i = inside_of ticket vs q t e in omega arith

place_of : {A B : Type 0} (f : A → B) (xs : List A) (q : ℕ) (x : A) (d : B) → get_elem? xs q ≡ some x → (q < length (map f xs)) × (get_or (map f
    xs) q d ≡ f x)
place_of f [] q x d e = absurd (some-ne-none x (sym e))
place_of f (y ∷ ys) zero x d e = (omega arith, ap f (some-injective y x e))
place_of f (y ∷ ys) (suc q) x d e = let p = place_of f ys q x d e in (omega arith, p.1)

-- a seat with the obligation is among those that owe
pays_among : (P : WakeObligation → Type 0) (actor : ℕ) (vs : List View) → ObligedParty (λ v. P (obligation_to actor v)) vs → Any P (map (obligation_to actor) vs)
pays_among P actor vs p = let at = place_of (obligation_to actor) vs p.seat p.view (obligation_to actor p.view) p.present in (
  p.seat,
  obligation_to actor p.view,
  at.0,
  at.1,
  p.pays,
)

work_there : (g : Ghost) (rest : List SysMsg) → (g.gave ≡ false → rest ≡ []) → IsTrue (machine.has_work (work_of g rest)) → IsTrue (has_work g)
work_there g rest quiet h = cases g.listed.closed g.listed.messages g.gave rest quiet h
  where
    cases : (ended : Bool) (ms : List SysMsg) (b : Bool) (r : List SysMsg) → (b ≡ false → r ≡ [])
        → IsTrue (machine.has_work (if ended then None else Some (r ++ ms))) → IsTrue (is_some_item ms || b)
    cases true ms b r q k = absurd (cc)
    cases false (m ∷ ms) b r q k = refl
    cases false [] true r q k = refl
    cases false [] false [] q k = k
    cases false [] false (x ∷ xs) q k = absurd (let no = q refl in cc)

unclosed : (w : ℕ) → (w == 1) ≡ false → w ≢ 1
unclosed w e one = let t : (w == 1) ≡ true = eq-eqb w 1 one in absurd (cc)

free_mod : (w : ℕ) → IsTrue (is_valid w) → IsFalse (mailbox_of w).closed → IsFalse (mailbox_of w).scheduled → w % 4 ≡ 0
free_mod w v c s = grind (arith, nat_tests)

scheduled_not_free : (w : ℕ) → IsTrue (mailbox_of w).scheduled → (w % 4 ≡ 0) ⊎ (w ≡ 1) → ⊥
scheduled_not_free w s (inl z) = grind (arith, nat_tests)
scheduled_not_free w s (inr z) = grind (arith, nat_tests)

module _ {H : Type 0} (is_of : ℕ → H → Type 0) (facts : H → HomeFacts) where
  held : (actor : ℕ) (x : Spot Word SlotName (Slot H) Ghost) (holder : Option (ℕ × Held)) → CellPlace is_of facts
      actor x holder →
      IsTrue (mailbox_of (x.row Status)).scheduled → IsSome (holder_of holder)
  held actor x None k s = absurd (scheduled_not_free (x.row Status) s k.idle)
  held actor x (Some h) k s = refl

  free : (actor : ℕ) (x : Spot Word SlotName (Slot H) Ghost) (holder : Option (ℕ × Held)) → CellPlace is_of facts
      actor x holder →
      x.row Status % 4 ≡ 0 → IsNone (holder_of holder)
  free actor x None k z = refl
  free actor x (Some h) k z = absurd (⊎_elim (λ b. omega arith) (λ b. omega arith) k.busy)

  there : (actor : ℕ) (vs : List View) (holder : Option (ℕ × Held)) → Locked (claim_for actor) holder vs → (p : ℕ) → holder_of holder ≡ Some p →
      p < length (map (obligation_to actor) vs)
  there actor vs None l p e = absurd (cc)
  there actor vs (Some h) l p e =
      let same : h.0 ≡ p = some_same h.0 p e in
      let at : ticket_at (claim_for actor) vs h.0 ≡ Some h.1 = l h.0 ∙ ap (λ b. if b then Some h.1 else None) (eq-eqb h.0 h.0 refl) in
      let i = inside_of (claim_for actor) vs h.0 h.1 at in
      let n : length (map (obligation_to actor) vs) ≡ length vs = length-map vs (obligation_to actor) in omega arith
    where
      some_same : {A : Type 0} (a b : A) → Some a ≡ Some b → a ≡ b
      some_same a b q = cc

  pub shows : ShowsMachine is_of facts
  shows n s r actor inside rest quiet =
      let x = spot_of word_offset slot_offset s r.ghosts actor in
      let f = r.each actor inside in (
        record {
          possible = valid_possible (x.row Status) f.valid;
          word_valid = subst (λ w. IsTrue (is_valid w)) (sym (word_of-mailbox_of (x.row
              Status) f.valid)) f.valid;
        },
        record {
          scheduled = held actor x x.ghost.holder f.cell;
          free = λ c z. free actor x x.ghost.holder f.cell (free_mod (x.row Status) f.valid c z);
          present = there actor s.views x.ghost.holder f.claims;
        },
        record {
          system = λ c z work. pays_among (λ d. IsTrue d.system) actor s.views (f.system (
            free_mod (x.row Status) f.valid c z,
            work_there x.ghost
                rest quiet work,
          ));
          message = λ c z quiet_yet waits. pays_among (λ d. IsTrue (d.message || d.sending)) actor s.views (f.message (
            (let m = free_mod (x.row
                Status) f.valid c z in let k : x.row Status / 4 ≡ 0 = quiet_yet in omega arith),
            waits,
          ));
        },
      )

  -- whom a home says to be closed some seat has seen closed, so it is
  pub shows_closed : ShowsClosed is_of facts
  shows_closed n s r actor other inside there is =
      let p = (r.each actor inside).was_seen_closed other is in
      let k = (r.each other there).seen p.seat p.view p.present in
      each_among (ObservationHolds other (spot_of word_offset slot_offset s r.ghosts other)) (Read other 1) p.view.log k.seen p.pays refl refl

  pub shows_balance : ShowsBalance is_of facts
  shows_balance n s r actor inside = (r.each actor inside).balance

  pub shows_numbers : ShowsNumbers is_of facts
  shows_numbers n s r actor inside p q v w number put given all at there pushes gives in_all =
      let x = spot_of word_offset slot_offset s r.ghosts actor in
      let f = r.each actor inside in
      let listed = each_among (ObservationHolds actor x) (Pushed actor number put) v.log (f.seen p v at).seen pushes refl in
      let part = ⊎_elim (λ d. each_among (ObservationHolds actor x) (Drained actor all) w.log (f.seen q w there).seen d refl)
      (λ e. (each_among (ObservationHolds actor x) (Ended actor all) w.log (f.seen q w there).seen e refl).1) gives in
      one_message x.ghost.pushed number put given (let few = f.listing.few in omega arith) listed (among_part (number, given) all (all_numbered x.ghost) part in_all)
