-- What the rule says of one actor before and after a change of one view says what the table shows of it.
use Rattle.std.proofs.Common.{◌≡◌, ℕ, zero, suc, ◌==◌, if◌then◌else◌, Bool, true, false, List, [], ◌∷◌, ◌++◌, map, get_or, set, sym, refl, ap, ◌∙◌, subst, Option, Some, None, eq-eqb, ne_eqb, arith}
use Rattle.std.proofs.lemmas.List.{map-set, set-get_or}
use mathlib.Core.Logic.{dite}
use mathlib.Core.Option.{some, some-ne-none, some-injective}
use native.Mathlib.Decide.{ℕ_discrete}
use lib.ListN.{get_elem?}
use Rattle.mb_status.specs.Mailbox.{mailbox_of}
use Rattle.mb_msg.specs.declared.system.SysMsg.{SysMsg}
use Rattle.mb_syslist.specs.MessageList.{MessageList}
use Rattle.mb_core.specs.declared.wake_obligation.WakeObligation.{WakeObligation}
use Rattle.mb_core.specs.Actor.{nothing, obligation_by, owing}
use Rattle.mb_ghost.specs.Layout.{Spot}
use Rattle.mb_ghost.specs.Locked.{Locked, held_by}
use Rattle.mb_ghost.proofs.LockedLemmas.{stays_locked, takes_up, changes_ticket, puts_back}
use Rattle.mb_gate.specs.HomeFacts.{HomeFacts}
use Rattle.mb_gate.specs.declared.slot.Slot.{Slot}
use Rattle.mb_gate.specs.declared.slot.Slot.TheVariants.{List as Listing}
use Rattle.mb_gate.specs.View.{View, Held, Lent, obligation_to}
use Rattle.mb_gate.specs.Rule.{Word, Status, Gate, Waiting, SlotName, ListSlot, Ghost, gate_word, claim_for, list_for, ListPlace, Fact}
use Rattle.mb_gate.specs.Shown.{holder_of, work_of, shown}

-- The actor is towards w as it was towards v: w has no claim of it and no list that v had not, and owes it what v owed.
pub record Aside (actor : ℕ) (v w : View) : Type 0 where
  pub claim : claim_for actor w ≡ claim_for actor v
  pub list : list_for actor w ≡ list_for actor v
  pub obligation : obligation_to actor w ≡ obligation_to actor v

some_same : {A : Type 0} (a b : A) → Some a ≡ Some b → a ≡ b
some_same a b e = cc

some_none : {A : Type 0} (a : A) → Some a ≡ None → ⊥
some_none a e = cc

held_alike : {T : Type 0} (b : Bool) (t u : T) → Some t ≡ (if b then Some u else None) → (b ≡ true) × (t ≡ u)
held_alike true t u e = (refl, some_same t u e)
held_alike false t u e = absurd (some_none t e)

eqb_same : (a b : ℕ) → (a == b) ≡ true → a ≡ b
eqb_same a b e = dite (ℕ_discrete a b) (λ same. same) (λ other. absurd (no (sym (ne_eqb a b other) ∙ e)))
  where
    no : false ≡ true → ⊥
    no e = cc

-- one holder at most gives each seat what it has
pub locked_once : {T : Type 0} (ticket : View → Option T) (h h' : Option (ℕ × T)) (vs : List View) → Locked ticket h vs → Locked ticket h' vs → h' ≡ h
locked_once {T} ticket h h' vs l l' = cases h h' (λ q. sym (l' q) ∙ l q)
  where
    here : (k : ℕ × T) → held_by (Some k) k.0 ≡ Some k.1
    here k = ap (λ b. if b then Some k.1 else None) (eq-eqb k.0 k.0 refl)

    cases : (k k' : Option (ℕ × T)) → ((q : ℕ) → held_by k' q ≡ held_by k q) → k' ≡ k
    cases None None e = refl
    cases None (Some k') e = absurd (some_none k'.1 (sym (here k') ∙ e k'.0))
    cases (Some k) None e = absurd (some_none k.1 (sym (here k) ∙ sym (e k.0)))
    cases (Some k) (Some k') e = let both = held_alike (k.0 == k'.0) k'.1 k.1 (sym (here k') ∙ e k'.0) in let who = eqb_same k.0 k'.0 both.0 in
        λ i. Some (sym who i, both.1 i)

listing_same : {H : Type 0} (a b : MessageList) → (let x : Slot H = Listing a in x ≡ Listing b) → a ≡ b
listing_same a b e = cc

-- the mark of a gate's word
pub gate_mark : (out : Bool) (l : MessageList) (g h : Bool) → gate_word out l g ≡ gate_word out l h → g ≡ h
gate_mark out l true true e = refl
gate_mark out l false false e = refl
gate_mark out l true false e = absurd (let z : gate_word out l true ≡ gate_word out l false = e in omega arith)
gate_mark out l false true e = absurd (let z : gate_word out l false ≡ gate_word out l true = e in omega arith)

-- what a seat owes, as it is shown
pub obligation_at : {H : Type 0} (actor : ℕ) (x : Spot Word SlotName (Slot H) Ghost) (vs : List View) (id : ℕ) (v : View) → get_elem? vs id ≡ some v → (rest : List
    SysMsg) → obligation_by (shown actor x vs rest) id ≡ obligation_to actor v
obligation_at actor x vs id v at rest = there vs id at
  where
    there : (us : List View) (k : ℕ) → get_elem? us k ≡ some v → get_or (map (obligation_to actor) us) k nothing ≡ obligation_to actor v
    there [] k e = absurd (some-ne-none v (sym e))
    there (u ∷ us) zero e = ap (obligation_to actor) (some-injective u v e)
    there (u ∷ us) (suc k) e = there us k e

-- what is owed stays where a seat owes what it owed
pub owed_back : {H : Type 0} (actor : ℕ) (x : Spot Word SlotName (Slot H) Ghost) (vs : List View) (id : ℕ) (v : View) → get_elem? vs id ≡ some v
    → set (map (obligation_to actor) vs) id (obligation_to actor v) ≡ map (obligation_to actor) vs
owed_back actor x vs id v at = ap (set (map (obligation_to actor) vs) id) (sym (obligation_at actor x vs id v at [])) ∙ set-get_or (map (obligation_to actor) vs) id
    nothing

module _ {H : Type 0} (is_of : ℕ → H → Type 0) (facts : H → HomeFacts) where
  abbrev Place : Type 0
  Place = Spot Word SlotName (Slot H) Ghost

  -- what is listed, where the list lies in its slot still, or is still with the same seat
  pub listed_stays : (x x' : Place) (l : Option (ℕ × Lent)) → ListPlace is_of facts x l → ListPlace is_of facts x' l → x'.slot ListSlot ≡ x.slot
      ListSlot → x'.ghost.listed ≡ x.ghost.listed
  listed_stays x x' None k k' e = listing_same {H = H} x'.ghost.listed x.ghost.listed (some-injective _ _ (some-injective _ _ (sym k'.present ∙ (e ∙ k.present))))
  listed_stays x x' (Some h) k k' e = sym k'.taken ∙ k.taken

  -- and whether the last drain gave something
  pub gave_stays : (x x' : Place) (l : Option (ℕ × Lent)) → ListPlace is_of facts x l → ListPlace is_of facts x' l → x'.ghost.listed ≡
      x.ghost.listed → x'.row Gate ≡ x.row Gate → x'.ghost.gave ≡ x.ghost.gave
  gave_stays x x' None k k' e gate = gate_mark false x.ghost.listed x'.ghost.gave x.ghost.gave
      (ap (λ (l : MessageList). gate_word false l x'.ghost.gave) (sym e) ∙ (sym k'.word ∙ (gate ∙ k.word)))
  gave_stays x x' (Some h) k k' e gate = sym k'.gave ∙ k.gave

  -- one view changes
  module _ (n actor : ℕ) (x x' : Place) (vs : List View) (id : ℕ) (v w : View) (at : get_elem? vs id ≡ some v) (f : Fact is_of facts n actor x vs)
      (f' : Fact is_of facts n actor x' (set vs id w)) where
    pub holder_stays : claim_for actor w ≡ claim_for actor v → x'.ghost.holder ≡ x.ghost.holder
    holder_stays same = locked_once (claim_for actor) x.ghost.holder x'.ghost.holder (set vs id w)
        (stays_locked (claim_for actor) x.ghost.holder vs id v w at same f.claims) f'.claims

    pub lender_stays : list_for actor w ≡ list_for actor v → x'.ghost.lent_to ≡ x.ghost.lent_to
    lender_stays same = locked_once (list_for actor) x.ghost.lent_to x'.ghost.lent_to (set vs id w)
        (stays_locked (list_for actor) x.ghost.lent_to vs id v w at same f.lists) f'.lists

    -- the seat comes to hold the actor, holds it still with another claim, or gives it back
    pub holder_taken : (c : Held) → x.ghost.holder ≡ None → claim_for actor w ≡ Some c → x'.ghost.holder ≡ Some (id, c)
    holder_taken c free has = locked_once (claim_for actor) (Some (id, c)) x'.ghost.holder (set vs id w)
        (takes_up (claim_for actor) vs id v w c at has (subst (λ h. Locked (claim_for actor) h vs) free f.claims)) f'.claims

    pub holder_changes : (c c' : Held) → x.ghost.holder ≡ Some (id, c) → claim_for actor w ≡ Some c' → x'.ghost.holder ≡ Some (id, c')
    holder_changes c c' held has = locked_once (claim_for actor) (Some (id, c')) x'.ghost.holder (set vs id w)
        (changes_ticket (claim_for actor) vs id v w c c' at has (subst (λ h. Locked (claim_for actor) h vs) held f.claims)) f'.claims

    pub holder_left : (c : Held) → x.ghost.holder ≡ Some (id, c) → claim_for actor w ≡ None → x'.ghost.holder ≡ None
    holder_left c held has = locked_once (claim_for actor) None x'.ghost.holder (set vs id w)
        (puts_back (claim_for actor) vs id v w c at has (subst (λ h. Locked (claim_for actor) h vs) held f.claims)) f'.claims

    -- and so with the list
    pub lender_taken : (l : Lent) → x.ghost.lent_to ≡ None → list_for actor w ≡ Some l → x'.ghost.lent_to ≡ Some (id, l)
    lender_taken l free has = locked_once (list_for actor) (Some (id, l)) x'.ghost.lent_to (set vs id w)
        (takes_up (list_for actor) vs id v w l at has (subst (λ h. Locked (list_for actor) h vs) free f.lists)) f'.lists

    pub lender_left : (l : Lent) → x.ghost.lent_to ≡ Some (id, l) → list_for actor w ≡ None → x'.ghost.lent_to ≡ None
    lender_left l held has = locked_once (list_for actor) None x'.ghost.lent_to (set vs id w)
        (puts_back (list_for actor) vs id v w l at has (subst (λ h. Locked (list_for actor) h vs) held f.lists)) f'.lists

    -- the list stays, and its mark
    pub list_stays : list_for actor w ≡ list_for actor v → x'.slot ListSlot ≡ x.slot ListSlot → x'.ghost.listed ≡ x.ghost.listed
    list_stays same slot = listed_stays x x' x.ghost.lent_to f.list_place (subst (ListPlace is_of facts x') (lender_stays same) f'.list_place) slot

    pub mark_stays : list_for actor w ≡ list_for actor v → x'.slot ListSlot ≡ x.slot ListSlot → x'.row Gate ≡ x.row Gate → x'.ghost.gave ≡ x.ghost.gave
    mark_stays same slot gate = gave_stays x x' x.ghost.lent_to f.list_place (subst (ListPlace is_of facts x') (lender_stays same) f'.list_place)
        (list_stays same slot) gate

    -- what all owe then
    pub owed_now : map (obligation_to actor) (set vs id w) ≡ set (map (obligation_to actor) vs) id (obligation_to actor w)
    owed_now = map-set (obligation_to actor) vs id w

    -- what is owed stays where this seat owes the same
    pub owed_stays : obligation_to actor w ≡ obligation_to actor v → map (obligation_to actor) (set vs id w) ≡ map (obligation_to actor) vs
    owed_stays same = owed_now ∙ (ap (set (map (obligation_to actor) vs) id) same ∙ owed_back actor x vs id v at)

    -- the actor as it is shown then
    pub shown_now : (status waiting : ℕ) (system : Option (List SysMsg)) (holder : Option ℕ) (obligation : WakeObligation) (rest : List SysMsg) → x'.row Status ≡ status → x'.row
        Waiting ≡ waiting → work_of x'.ghost rest ≡ system → holder_of x'.ghost.holder ≡ holder → obligation_to actor w ≡ obligation
        → shown actor x' (set vs id w) rest ≡ record {
          mailbox = mailbox_of status;
          envelopes = [];
          waiting = waiting;
          system = system;
          holder = holder;
          owed = set (map (obligation_to actor) vs) id obligation;
        }
    shown_now status waiting system holder obligation rest s wt y h d i = record {
      mailbox = mailbox_of (s i);
      envelopes = [];
      waiting = wt i;
      system = y i;
      holder = h i;
      owed = (owed_now ∙ ap (set (map (obligation_to actor) vs) id) d) i;
    }

    pub work_stays : x'.ghost.listed ≡ x.ghost.listed → (rest : List SysMsg) → work_of x'.ghost rest ≡ work_of x.ghost rest
    work_stays same rest = ap (λ (l : MessageList). if l.closed then None else Some (rest ++ l.messages)) same

    -- nothing of the actor changes, where its list is as it was, wherever it is
    pub shown_listed : claim_for actor w ≡ claim_for actor v → obligation_to actor w ≡ obligation_to actor v → x'.row Status ≡ x.row Status → x'.row Waiting ≡
        x.row Waiting → x'.ghost.listed ≡ x.ghost.listed → (rest : List SysMsg) → shown actor x' (set vs id w) rest ≡ shown actor x vs rest
    shown_listed claim obligation s wt listed rest i = record {
      mailbox = mailbox_of (s i);
      envelopes = [];
      waiting = wt i;
      system = work_stays listed rest i;
      holder = holder_of (holder_stays claim i);
      owed = owed_stays obligation i;
    }

    -- what is listed in a list that was put back
    pub list_put : (l : Lent) (new : MessageList) → x.ghost.lent_to ≡ Some (id, l) → list_for actor w ≡ None → x'.slot ListSlot ≡ some (some (Listing new))
        → x'.ghost.listed ≡ new
    list_put l new lent none put =
        let k = subst (ListPlace is_of facts x') (lender_left l lent none) f'.list_place in
        listing_same {H = H} x'.ghost.listed new (some-injective _ _ (some-injective _ _ (sym k.present ∙ put)))

    -- and its mark
    pub mark_put : (l : Lent) (new : MessageList) (gave : Bool) → x.ghost.lent_to ≡ Some (id, l) → list_for actor w ≡ None → x'.ghost.listed ≡ new
        → x'.row Gate ≡ gate_word false new gave → x'.ghost.gave ≡ gave
    mark_put l new gave lent none listed word =
        let k = subst (ListPlace is_of facts x') (lender_left l lent none) f'.list_place in
        gate_mark false new x'.ghost.gave gave (ap (λ (m : MessageList). gate_word false m x'.ghost.gave) (sym listed) ∙ (sym k.word ∙ word))

    -- what is listed in a list that was taken out, and its mark
    pub list_out : (l : Lent) → x.ghost.lent_to ≡ None → list_for actor w ≡ Some l → (x'.ghost.listed ≡ l.listed) × (x'.ghost.gave ≡ l.gave)
    list_out l free has =
        let k = subst (ListPlace is_of facts x') (lender_taken l free has) f'.list_place in (sym k.taken, sym k.gave)

    -- nothing of the actor changes
    pub shown_same : Aside actor v w → x'.row Status ≡ x.row Status → x'.row Waiting ≡ x.row Waiting → x'.slot ListSlot ≡ x.slot ListSlot → (rest : List SysMsg)
        → shown actor x' (set vs id w) rest ≡ shown actor x vs rest
    shown_same a s wt slot rest i = record {
      mailbox = mailbox_of (s i);
      envelopes = [];
      waiting = wt i;
      system = work_stays (list_stays a.list slot) rest i;
      holder = holder_of (holder_stays a.claim i);
      owed = owed_stays a.obligation i;
    }

    -- only what this seat owes the actor changes
    pub owes_now : (obligation : WakeObligation) → claim_for actor w ≡ claim_for actor v → list_for actor w ≡ list_for actor v → obligation_to actor w ≡ obligation
        → x'.row Status ≡ x.row Status → x'.row Waiting ≡ x.row Waiting → x'.slot ListSlot ≡ x.slot ListSlot → (rest : List SysMsg)
        → shown actor x' (set vs id w) rest ≡ owing (shown actor x vs rest) id obligation
    owes_now obligation claim list owes s wt slot rest = shown_now (x.row Status) (x.row Waiting) (work_of x.ghost rest) (holder_of x.ghost.holder) obligation rest s wt
        (work_stays (list_stays list slot) rest) (ap holder_of (holder_stays claim)) owes
