-- What a seat with the whole share knows of an actor: no other seat has anything of it, but its claim.
use Rattle.std.proofs.Common.{◌≡◌, ◌≢◌, ◌⊎◌, ⊎_elim, ℕ, zero, suc, ◌+◌, ◌<◌, ◌%◌, ◌^◌, if◌then◌else◌, Bool, List, [], ◌∷◌, sym, refl}
use Rattle.std.proofs.Common.{ap, ◌∙◌, subst, Option, Some, None, eq-eqb, arith}
use mathlib.Core.Logic.{dite}
use mathlib.Core.Option.{some, some-injective}
use native.Mathlib.Decide.{ℕ_discrete}
use lib.ListN.{get_elem?}
use Rattle.mb_ghost.specs.Layout.{Spot}
use Rattle.mb_ghost.specs.Locked.{ticket_at, held_by, Locked}
use Rattle.mb_ghost.specs.Shares.{IsWhole}
use Rattle.mb_ghost.proofs.LockedLemmas.{ticket_here}
use Rattle.mb_ghost.proofs.SharesLemmas.{alone, total_alone}
use Rattle.mb_gate.specs.HomeFacts.{HomeFacts}
use Rattle.mb_gate.specs.declared.slot.Slot.{Slot}
use Rattle.mb_gate.specs.View.{View, Held, Lent}
use Rattle.mb_msg.specs.declared.system.SysMsg.{SysMsg}
use Rattle.mb_syslist.specs.MessageList.{numbered}
use Rattle.mb_journal.specs.Entry.{Entry}
use Rattle.mb_ghost.specs.Summed.{total}
use Rattle.mb_gate.specs.PutIn.{put_by}
use Rattle.mb_gate.specs.Releases.{taken_by, back_by}
use Rattle.mb_gate.specs.Waiting.{on_by, off_by}
use Rattle.mb_gate.specs.ClaimCounts.{claims_got, claims_returned, claims_out, IsOwnBalance}
use Rattle.mb_gate.specs.Rule.{Word, Status, Waiting, SlotName, Ghost, IsBare, lent_of, claim_for, list_for, Fact}

-- who has a ticket is a seat that is there
ticket_has : {T : Type 0} (ticket : View → Option T) (vs : List View) (q : ℕ) (t : T) → ticket_at ticket vs q ≡ Some t → (u : View) × (get_elem? vs q
    ≡ some u) × (ticket u ≡ Some t)
ticket_has ticket [] q t e = absurd (cc)
ticket_has ticket (v ∷ vs) zero t e = (v, refl, e)
ticket_has ticket (v ∷ vs) (suc q) t e = ticket_has ticket vs q t e

one_out : (holder : Option (ℕ × Held)) → holder ≢ None → claims_out holder ≡ 1
one_out None held = absurd (held refl)
one_out (Some h) held = refl

pub none_out : (holder : Option (ℕ × Held)) → claims_out holder ≡ 0 → holder ≡ None
none_out None none = refl
none_out (Some h) none = absurd (let one : 1 ≡ 0 = none in omega arith)

no_more : (m k : ℕ) → m ≡ m + k → k ≡ 0
no_more m k e = omega arith

plus_none : (m : ℕ) → m + 0 ≡ m
plus_none m = omega arith

module _ {H : Type 0} (is_of : ℕ → H → Type 0) (facts : H → HomeFacts) (actors actor : ℕ) (x : Spot Word SlotName (Slot H) Ghost) (vs : List View)
    (id : ℕ) (v : View)
    (f : Fact is_of facts actors actor x vs) (at : get_elem? vs id ≡ some v) (whole : IsWhole v.share) where
  others_bare : (q : ℕ) (u : View) → q ≢ id → get_elem? vs q ≡ some u → IsBare actor u
  others_bare q u other there = f.bare q u there (alone (λ (z : View). z.share) vs id v at whole f.shares q u other there)

  -- its own account is the account of all
  pub own_claims : claims_got actor v ≡ claims_returned actor v + claims_out x.ghost.holder
  own_claims = sym (total_alone (claims_got actor) vs id v at (λ q u other there. (others_bare q u other there).got))
      ∙ (f.claims_balance ∙ ap (λ k. k + claims_out x.ghost.holder) (total_alone (claims_returned actor) vs id v at (λ q u other there. (others_bare q u other
      there).back)))

  unclaimed : x.ghost.holder ≡ None → (q : ℕ) (u : View) → get_elem? vs q ≡ some u → claim_for actor u ≡ None
  unclaimed free q u there = sym (ticket_here (claim_for actor) vs q u there) ∙ (f.claims q ∙ ap (λ (h : Option (ℕ × Held)). held_by h q) free)

  no_list_out : v.list ≡ None → x.ghost.holder ≡ None → (lent_to : Option (ℕ × Lent)) → Locked (list_for actor) lent_to vs → lent_to ≡ None
  no_list_out bare free None lists = refl
  no_list_out bare free (Some k) lists =
      let has = ticket_has (list_for actor) vs k.0 k.1 (lists k.0 ∙ ap (λ (b : Bool). if b then Some k.1 else None) (eq-eqb k.0 k.0 refl)) in
      absurd (dite (ℕ_discrete k.0 id)
      (λ same. none_some k.1 (sym (ap (lent_of actor) bare) ∙ (ap (list_for actor) (some-injective v has.0 (sym at ∙ (ap (get_elem? vs) (sym same)
      ∙ has.1))) ∙ has.2)))
      (λ other. none_some k.1 (sym ((others_bare k.0 has.0 other has.1).rest (unclaimed free k.0 has.0 has.1)).0 ∙ has.2)))
    where
      none_some : (l : Lent) → None ≡ Some l → ⊥
      none_some l e = cc

  -- an actor of which there is no home left has a claim out
  pub is_out : v.list ≡ None → (x.ghost.holder ≢ None) ⊎ (x.ghost.lent_to ≢ None) → claims_got actor v ≡ claims_returned actor v + 1
  is_out bare why = own_claims ∙ ap (λ k. claims_returned actor v + k) (one_out x.ghost.holder (λ free. ⊎_elim (λ h. h free) (λ k. k (no_list_out bare free
      x.ghost.lent_to f.lists)) why))

  -- and one that nobody holds has none
  pub is_back : x.ghost.holder ≡ None → claims_got actor v ≡ claims_returned actor v
  is_back free = own_claims ∙ (ap (λ h. claims_returned actor v + claims_out h) free ∙ plus_none (claims_returned actor v))

  -- with no claim out, how many are waiting is what the seat itself counted
  pub own_balance : IsOwnBalance actor (x.row Waiting) v
  own_balance all back =
      let free = none_out x.ghost.holder (no_more (claims_returned actor v) (claims_out x.ghost.holder) (sym back ∙ own_claims)) in
      let on = total_alone (on_by actor) vs id v at (λ q u other there. (others_bare q u other there).on) in
      let off = total_alone (off_by actor) vs id v at (λ q u other there. ((others_bare q u other there).rest (unclaimed free q u there)).1) in
      ap (λ k. (x.row Waiting + k) % 2 ^ 64) (sym off) ∙ (f.balance ∙ ap (λ k. k % 2 ^ 64) on)

  -- and all that was put into the list is what the seat itself put into it
  pub own_put : x.ghost.holder ≡ None → (measure : ℕ × SysMsg → ℕ) → put_by actor measure v ≡ total measure (numbered 0 x.ghost.pushed)
  own_put free q =
      sym (total_alone (put_by actor q) vs id v at (λ p u other there. ((others_bare p u other there).rest (unclaimed free p u there)).2 q)) ∙ f.put q

  -- and the journal is what came of an empty one in the seat's own releases
  pub own_releases : (measure : List Entry → ℕ) → back_by actor measure v + measure [] ≡ taken_by actor measure v + measure x.ghost.journal
  own_releases q =
      let back = total_alone (back_by actor q) vs id v at (λ p u other there. ((others_bare p u other there).releases q).1) in
      let taken = total_alone (taken_by actor q) vs id v at (λ p u other there. ((others_bare p u other there).releases q).0) in
      ap (λ k. k + q []) (sym back) ∙ (f.releases q ∙ ap (λ k. k + q x.ghost.journal) taken)

  -- a closed actor was held by a claim that the seat itself got
  pub was_held : x.row Status ≡ 1 → 0 < claims_got actor v
  was_held one = subst (λ k. 0 < k) (total_alone (claims_got actor) vs id v at (λ q u other there. (others_bare q u other there).got)) (f.held one)

  -- nobody holds an actor of which it got no claim
  pub unheld : claims_got actor v ≡ 0 → x.ghost.holder ≡ None
  unheld none = none_out x.ghost.holder (no_part (claims_got actor v) (claims_returned actor v) (claims_out x.ghost.holder) none own_claims)
    where
      no_part : (all back k : ℕ) → all ≡ 0 → all ≡ back + k → k ≡ 0
      no_part all back k is sum = omega arith
