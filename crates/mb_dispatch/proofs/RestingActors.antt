-- Where no claim is out, each actor is at rest.
use Rattle.std.proofs.Common.{◌≡◌, ◌≢◌, ◌⊎◌, ℕ, zero, suc, ◌+◌, ◌<◌, ◌%◌, ◌||◌, Bool, true, false, IsTrue, List, [], ◌∷◌, set, sym, refl, ap, ◌∙◌, subst, ⊎_elim, None, arith}
use Rattle.std.proofs.lemmas.Bool.{false≢true}
use mathlib.Core.Logic.{dite}
use mathlib.Core.Option.{some, some-injective}
use native.Mathlib.Decide.{ℕ_discrete}
use lib.ListN.{get_elem?}
use Rattle.atomic_table.proofs.Lists.{set_else}
use Rattle.mb_core.specs.declared.wake_obligation.WakeObligation.{WakeObligation}
use Rattle.mb_ghost.specs.Layout.{Spot, spot_of}
use Rattle.mb_ghost.specs.Owed.{ObligedParty}
use Rattle.mb_ghost.specs.Seen.{Each}
use Rattle.mb_ghost.specs.Shares.{IsWhole}
use Rattle.mb_ghost.specs.Summed.{total}
use Rattle.mb_ghost.proofs.OwedLemmas.{set_at}
use Rattle.mb_ghost.proofs.SummedLemmas.{total_set}
use Rattle.mb_gate.specs.ClaimCounts.{claims_got, claims_returned}
use Rattle.mb_gate.specs.HomeFacts.{HomeFacts}
use Rattle.mb_gate.specs.NotRun.{AreSeats, shares_in}
use Rattle.mb_gate.specs.Rule.{Word, Status, Waiting, word_offset, SlotName, slot_offset, Ghost, CellPlace, Fact, HasMessageObligation, HasSystemObligation, IsBare, IsHome, has_work}
use Rattle.mb_gate.specs.View.{View, blank}
use Rattle.mb_gate.specs.declared.slot.Slot.{Slot}
use Rattle.mb_gate.proofs.NotRun.{no_other_share}
use Rattle.mb_gate.proofs.Whole.{none_out}
use Rattle.mb_dispatch.specs.AtRest.{NoClaimIsLeft}
use Rattle.mb_dispatch.specs.RestingActors.{IsOwedNothing, RestsAt, ShowsRest}

-- the seat is none of these
abbrev IsOther : ℕ → List ℕ → Type 0
IsOther q seats = Each (λ (seat : ℕ). q ≢ seat) seats

-- ---- a sum over the views of some seats, where no other seat has any

total-none : (f : View → ℕ) (vs : List View) → ((q : ℕ) (u : View) → get_elem? vs q ≡ some u → f u ≡ 0) → total f vs ≡ 0
total-none f [] none = refl
total-none f (x ∷ xs) none = let here = none zero x refl in let rest = total-none f xs (λ q u there. none (suc q) u there) in omega arith

still-seats : (seats : List ℕ) (known vs : List View) (seat : ℕ) (w : View) → Each (λ (other : ℕ). other ≢ seat) seats → AreSeats seats known vs
    → AreSeats seats known (set vs seat w)
still-seats [] [] vs seat w apart are = tt
still-seats [] (v ∷ known) vs seat w apart are = absurd are
still-seats (q ∷ seats) [] vs seat w apart are = absurd are
still-seats (q ∷ seats) (v ∷ known) vs seat w apart are =
    (set_else vs seat q w apart.0 ∙ are.0, are.1, still-seats seats known vs seat w apart.1 are.2)

total-known : (f : View → ℕ) → f blank ≡ 0 → (seats : List ℕ) (known vs : List View) → AreSeats seats known vs
    → ((q : ℕ) (u : View) → IsOther q seats → get_elem? vs q ≡ some u → f u ≡ 0) → total f vs ≡ total f known
total-known f none [] [] vs are others = total-none f vs (λ q u there. others q u tt there)
total-known f none [] (v ∷ known) vs are others = absurd are
total-known f none (seat ∷ seats) [] vs are others = absurd are
total-known f none (seat ∷ seats) (v ∷ known) vs are others =
    let less = total_set f vs seat v blank are.0 in
    let rest = total-known f none seats known (set vs seat blank) (still-seats seats known vs seat blank are.1 are.2) (λ q u other there.
    dite (ℕ_discrete q seat)
    (λ same. ap f (some-injective u blank (sym there ∙ (ap (get_elem? (set vs seat blank)) same ∙ set_at vs seat v blank are.0))) ∙ none)
    (λ apart. others q u (apart, other) (sym (set_else vs seat q blank apart) ∙ there))) in omega arith

-- ---- nothing is due of which nobody owes a look

not-true : (b : Bool) → (IsTrue b → ⊥) → b ≡ false
not-true true never = absurd (never refl)
not-true false never = refl

none-waits : (n : ℕ) → (0 < n → ⊥) → n ≡ 0
none-waits zero never = refl
none-waits (suc n) never = absurd (never (omega arith))

no-part : (got back out : ℕ) → got ≡ back + out → got ≡ back → out ≡ 0
no-part got back out sum same = omega (arith, sum, same)

module _ (actor : ℕ) (vs : List View) (none : IsOwedNothing actor vs) where
  owes-no-message : ObligedParty (HasMessageObligation actor) vs → ⊥
  owes-no-message party =
      false≢true (subst (λ (o : WakeObligation). IsTrue (o.message || o.sending)) (none party.seat party.view party.present) party.pays)

  owes-no-system : ObligedParty (HasSystemObligation actor) vs → ⊥
  owes-no-system party =
      false≢true (subst (λ (o : WakeObligation). IsTrue o.system) (none party.seat party.view party.present) party.pays)

module _ {H : Type 0} (is_of : ℕ → H → Type 0) (facts : H → HomeFacts) where
  home-of : (actor : ℕ) (x : Spot Word SlotName (Slot H) Ghost) → x.ghost.holder ≡ None → CellPlace is_of facts actor x x.ghost.holder
      → IsHome is_of facts actor x
  home-of actor x free kept = subst (CellPlace is_of facts actor x) free kept

  module _ (n actor : ℕ) (x : Spot Word SlotName (Slot H) Ghost) (vs : List View) (f : Fact is_of facts n actor x vs) (seats : List ℕ) (known : List View)
      (are : AreSeats seats known vs) (whole : IsWhole (shares_in known)) (left : NoClaimIsLeft n known) (inside : actor < n) where
    bare : (q : ℕ) (u : View) → IsOther q seats → get_elem? vs q ≡ some u → IsBare actor u
    bare q u other there = f.bare q u there (no_other_share seats known vs are whole f.shares q u other there)

    all-back : total (claims_got actor) vs ≡ total (claims_returned actor) vs
    all-back = total-known (claims_got actor) refl seats known vs are (λ q u other there. (bare q u other there).got)
        ∙ left whole actor inside
        ∙ sym (total-known (claims_returned actor) refl seats known vs are (λ q u other there. (bare q u other there).back))

    unheld : x.ghost.holder ≡ None
    unheld = none_out x.ghost.holder (no-part _ _ _ f.claims_balance all-back)

    open-word : x.row Status ≢ 1 → (x.row Status % 4 ≡ 0) ⊎ (x.row Status ≡ 1) → x.row Status % 4 ≡ 0
    open-word not idle = ⊎_elim (λ free. free) (λ one. absurd (not one)) idle

    rests : RestsAt is_of facts actor x vs
    rests = let home = home-of actor x unheld f.cell in record {
      home = home.home;
      present = home.present;
      of_actor = home.of_actor;
      word = home.word;
      unscheduled = home.idle;
      no_system_work = λ none not. not-true (has_work x.ghost) (λ work. owes-no-system actor vs none (f.system (open-word not home.idle, work)));
      no_envelope = λ none free. none-waits (x.row Waiting) (λ some. owes-no-message actor vs none (f.message (free, some)));
    }

  pub shows-rest : ShowsRest is_of facts
  shows-rest n known whole left s r seats are actor inside =
      rests n actor (spot_of word_offset slot_offset s r.ghosts actor) s.views (r.each actor inside) seats known are whole left inside
