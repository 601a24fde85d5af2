-- New gates show the state in which a run of the machine begins.
use Rattle.std.proofs.Common.{◌≡◌, ℕ, zero, suc, ◌+◌, ◌%◌, ◌<◌, IsTrue, All, List, [], ◌∷◌, ◌++◌, map, length, get_or, sym, refl, ap, ◌∙◌, subst, Option, Some, None, slice_get, arith}
use Rattle.std.proofs.lemmas.Bool.Decides.{nat_tests}
use Rattle.std.proofs.lemmas.List.{length-map}
use mathlib.Core.Option as maybe
use mathlib.Core.Option.{some, some-injective}
use lib.ListN.{get_elem?}
use Rattle.atomic_table.specs.Table.{opening}
use Rattle.mb_status.specs.Mailbox.{mailbox_of, word_of, is_valid}
use Rattle.mb_syslist.specs.MessageList.{MessageList}
use Rattle.mb_core.specs.Actor.{nothing, at_start}
use Rattle.mb_core.specs.Run.{start, can_start}
use Rattle.mb_ghost.specs.Layout.{word_at, slot_at, Spot, spot_of}
use Rattle.mb_ghost.specs.Locked.{Locked}
use Rattle.mb_gate.specs.HomeFacts.{HomeFacts}
use Rattle.mb_gate.specs.declared.slot.Slot.{Slot}
use Rattle.mb_gate.specs.declared.slot.Slot.TheVariants.{Home, List as Listing}
use Rattle.mb_gate.specs.View.{View, alone}
use Rattle.mb_gate.specs.Rule.{Word, word_offset, SlotName, ListSlot, slot_offset, Ghost, claim_for, list_for, ListPlace}
use Rattle.mb_gate.specs.Starts.{no_messages, rows_of, row_of, slots_of, IsFresh}
use Rattle.mb_gate.specs.Shown.{holder_of, work_of}
use Rattle.mb_gate.proofs.Wins.{free_mod, valid_word}
use Rattle.mb_refinement.specs.Refines.{shows}
use Rattle.mb_refinement.specs.Interleavings.{tabulated, NewGatesBegin}
use Rattle.mb_refinement.proofs.Places.{locked_once}
use Rattle.mb_refinement.proofs.Interleavings.{tabulated_same}

nobody_has : {T : Type 0} (ticket : View → Option T) → ticket alone ≡ None → Locked ticket None (alone ∷ [])
nobody_has ticket bare zero = bare
nobody_has ticket bare (suc q) = refl

listing_same : {H : Type 0} (a b : MessageList) → (let x : Slot H = Listing a in x ≡ Listing b) → a ≡ b
listing_same a b e = cc

not_scheduled : (w : ℕ) → w % 4 ≡ 0 → IsTrue (is_valid w) → IsTrue (can_start w)
not_scheduled w free valid = grind (arith, nat_tests)

module _ {H : Type 0} (facts : H → HomeFacts) where
  abbrev word_for : H → ℕ
  word_for h = word_of (facts h).mailbox

  next_row : (w : ℕ) (rest : List ℕ) (i j : ℕ) → i ≡ j + 32 → get_or (row_of w ++ rest) i 0 ≡ get_or rest j 0
  next_row w rest i j e = ap (λ k. get_or (row_of w ++ rest) k 0) (let n : i ≡ suc (suc (suc (suc (suc (suc (suc (suc (suc (suc (suc (suc (suc (suc (suc (suc (suc (suc (suc (suc (suc (suc (suc (suc (suc (suc (suc (suc (suc (suc (suc (suc j))))))))))))))))))))))))))))))) = omega arith in n)

  next_shelves : (h : H) (rest : List (maybe.Option (Slot H))) (i j : ℕ) → i ≡ j + 2 → get_elem? (some (Home h) ∷ some (Listing no_messages) ∷
      rest) i ≡ get_elem? rest j
  next_shelves h rest i j e = ap (λ k. get_elem? (some (Home h) ∷ some (Listing no_messages) ∷ rest) k) (let n : i ≡ suc (suc j) = omega arith in n)

  -- an actor's words and its list, as they begin
  record Begins (hs : List H) (a : ℕ) : Type 0 where
    status : get_or (rows_of facts hs) (word_at a 16) 0 ≡ get_or (map word_for hs) a 0
    waiting : get_or (rows_of facts hs) (word_at a 0) 0 ≡ 0
    list : get_elem? (map some (slots_of hs)) (slot_at a 1) ≡ some (some (Listing no_messages))

  begins : (hs : List H) (a : ℕ) → a < length hs → Begins hs a
  begins [] a l = absurd (omega arith)
  begins (h ∷ hs) zero l = record { status = refl; waiting = refl; list = refl }
  begins (h ∷ hs) (suc a) l = let b = begins hs a (omega arith) in record {
    status = next_row (word_for h) (rows_of facts hs) (word_at (suc a) 16) (word_at a 16) (omega arith) ∙ b.status;
    waiting = next_row (word_for h) (rows_of facts hs) (word_at (suc a) 0) (word_at a 0) (omega arith) ∙ b.waiting;
    list = next_shelves h (map some (slots_of hs)) (slot_at (suc a) 1) (slot_at a 1) (omega arith) ∙ b.list;
  }

  starts_tabulated : (words : List ℕ) → start words 1 ≡ tabulated (length words) (λ a. at_start 1 (get_or words a 0))
  starts_tabulated [] = refl
  starts_tabulated (w ∷ ws) = ap (λ l. at_start 1 w ∷ l) (starts_tabulated ws)

module _ {H : Type 0} (is_of : ℕ → H → Type 0) (facts : H → HomeFacts) where
  abbrev Place : Type 0
  Place = Spot Word SlotName (Slot H) Ghost

  in_slot : (x : Place) (l : MessageList) → ListPlace is_of facts x None → x.slot ListSlot ≡ some (some (Listing l)) → x.ghost.listed ≡ l
  in_slot x l k there = listing_same {H = H} x.ghost.listed l (some-injective _ _ (some-injective _ _ (sym k.present ∙ there)))

  can_all : (from : ℕ) (hs : List H) → ((a : ℕ) (h : H) → slice_get hs a ≡ Some h → IsFresh is_of facts (from + a) h) → All (λ word. IsTrue (can_start word)) (map
      (λ h. word_of (facts h).mailbox) hs)
  can_all from [] fresh k d l = absurd (omega arith)
  can_all from (h ∷ hs) fresh zero d l = let f = fresh 0 h refl in not_scheduled (word_of (facts h).mailbox) (free_mod (facts h).mailbox f.free) (valid_word (facts
      h).mailbox f.possible)
  can_all from (h ∷ hs) fresh (suc k) d l = can_all (from + 1) hs (λ a g at. subst (λ z. IsFresh is_of facts z g) (let e : from + suc a ≡ from + 1 + a = omega arith
      in e) (fresh (suc a) g at)) k d (omega arith)

  pub new_gates_begin : NewGatesBegin is_of facts
  new_gates_begin hs r = (
    tabulated_same (length hs) (λ a. at_start 1 (get_or (map (λ h. word_of (facts h).mailbox) hs) a 0)) (λ a. shows is_of facts (length hs) (opening (rows_of facts
        hs) (slots_of hs) alone) r a [])
        (λ a l.
        let x : Place = spot_of word_offset slot_offset (opening (rows_of facts hs) (slots_of hs) alone) r.ghosts a in
        let f = r.each a l in
        let b = begins facts hs a l in
        let holder = locked_once (claim_for a) None x.ghost.holder (alone ∷ []) (nobody_has (claim_for a) refl) f.claims in
        let lender = locked_once (list_for a) None x.ghost.lent_to (alone ∷ []) (nobody_has (list_for a) refl) f.lists in
        let listed = in_slot x no_messages (subst (ListPlace is_of facts x) lender f.list_place) b.list in
        λ i. record {
          mailbox = mailbox_of (b.status i);
          envelopes = [];
          waiting = b.waiting i;
          system = work_of (record x.ghost { listed = listed i }) [];
          holder = holder_of (holder i);
          owed = nothing ∷ [];
        })
        ∙ (ap (λ k. tabulated k (λ a. at_start 1 (get_or (map (λ h. word_of (facts h).mailbox) hs) a 0))) (sym (length-map hs (λ h. word_of (facts h).mailbox)))
        ∙ sym (starts_tabulated facts (map (λ h. word_of (facts h).mailbox) hs))),
    (λ fresh. can_all 0 hs (λ a h at. subst (λ z. IsFresh is_of facts z h) (let e : a ≡ 0 + a = omega arith in e) (fresh a h at))),
  )
