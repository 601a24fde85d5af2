-- What seats that have the whole share together know: no other seat has anything of an actor, but its claim.
use Rattle.std.proofs.Common.{◌≡◌, ◌≢◌, ℕ, zero, suc, ◌+◌, ◌-◌, ◌^◌, ◌≤◌, ◌%◌, List, [], ◌∷◌, length, set, sym, refl, ap, ◌∙◌, subst, ⊎_elim, Option, None, arith}
use Rattle.std.proofs.lemmas.Nat.{pow_pos}
use mathlib.Core.Logic.{dite}
use mathlib.Core.Option.{some, some-ne-none, some-injective}
use native.Mathlib.Decide.{ℕ_discrete}
use lib.ListN.{get_elem?}
use Rattle.atomic_table.proofs.Lists.{set_else}
use Rattle.mb_journal.specs.Entry.{Entry}
use Rattle.mb_ghost.specs.Layout.{Spot, spot_of}
use Rattle.mb_ghost.specs.Locked.{held_by}
use Rattle.mb_ghost.specs.Seen.{EachView, Each}
use Rattle.mb_ghost.specs.Shares.{FitsIn, amount, IsWhole, AreShares}
use Rattle.mb_ghost.specs.Summed.{total}
use Rattle.mb_ghost.proofs.LockedLemmas.{ticket_here}
use Rattle.mb_ghost.proofs.OwedLemmas.{set_at}
use Rattle.mb_ghost.proofs.SeenLemmas.{each_weaker, each_append}
use Rattle.mb_ghost.proofs.SummedLemmas.{total_append, total_set}
use Rattle.mb_gate.specs.HomeFacts.{HomeFacts}
use Rattle.mb_gate.specs.declared.slot.Slot.{Slot}
use Rattle.mb_gate.specs.View.{View, Held, blank}
use Rattle.mb_gate.specs.PutIn.{put_by}
use Rattle.mb_gate.specs.Waiting.{on_by, off_by}
use Rattle.mb_gate.specs.Releases.{taken_in_release, back_in_release, taken_by, back_by}
use Rattle.mb_gate.specs.ClaimCounts.{times, claims_got}
use Rattle.mb_gate.specs.Rule.{Word, Status, Waiting, word_offset, SlotName, slot_offset, Ghost, WasPushed, IsBare, claim_for, IsHome, CellPlace, Fact}
use Rattle.mb_gate.specs.NotRun.{AreSeats, shares_in, RanNobody, IsNotRun, ShowsNotRun}
use Rattle.mb_gate.proofs.Whole.{none_out}

-- the seat is none of these
abbrev IsOther : ℕ → List ℕ → Type 0
IsOther q seats = Each (λ (seat : ℕ). q ≢ seat) seats

-- ---- sums over the views of some seats

one_of : (f : View → ℕ) (vs : List View) (q : ℕ) (u : View) → get_elem? vs q ≡ some u → f u ≤ total f vs
one_of f [] q u there = absurd (some-ne-none u (sym there))
one_of f (x ∷ xs) zero u there = let here = ap f (some-injective x u there) in omega arith
one_of f (x ∷ xs) (suc q) u there = let one = one_of f xs q u there in omega arith

total_none : {A : Type 0} (f : A → ℕ) (vs : List A) → ((q : ℕ) (u : A) → get_elem? vs q ≡ some u → f u ≡ 0) → total f vs ≡ 0
total_none f [] none = refl
total_none f (x ∷ xs) none = let here = none zero x refl in let rest = total_none f xs (λ q u there. none (suc q) u there) in omega arith

total_each : {A : Type 0} (f : A → ℕ) (P : A → Type 0) (xs : List A) → ((x : A) → P x → f x ≡ 0) → Each P xs → total f xs ≡ 0
total_each f P [] none all = refl
total_each f P (x ∷ xs) none all = let here = none x all.0 in let rest = total_each f P xs none all.1 in omega arith

-- other seats stay as one is emptied
still_seats : (seats : List ℕ) (known vs : List View) (seat : ℕ) (w : View) → Each (λ (other : ℕ). other ≢ seat) seats → AreSeats seats known vs
    → AreSeats seats known (set vs seat w)
still_seats [] [] vs seat w apart are = tt
still_seats [] (v ∷ known) vs seat w apart are = absurd are
still_seats (q ∷ seats) [] vs seat w apart are = absurd are
still_seats (q ∷ seats) (v ∷ known) vs seat w apart are =
    (set_else vs seat q w apart.0 ∙ are.0, are.1, still_seats seats known vs seat w apart.1 are.2)

-- the views of some seats and one more have no more than all
no_more : (f : View → ℕ) → f blank ≡ 0 → (seats : List ℕ) (known vs : List View) → AreSeats seats known vs → (q : ℕ) (u : View) → IsOther q seats
    → get_elem? vs q ≡ some u → total f known + f u ≤ total f vs
no_more f none [] [] vs are q u other there = let one = one_of f vs q u there in omega arith
no_more f none [] (v ∷ known) vs are q u other there = absurd are
no_more f none (seat ∷ seats) [] vs are q u other there = absurd are
no_more f none (seat ∷ seats) (v ∷ known) vs are q u other there =
    let less = total_set f vs seat v blank are.0 in
    let rest = no_more f none seats known (set vs seat blank) (still_seats seats known vs seat blank are.1 are.2) q u other.1
    (set_else vs seat q blank other.0 ∙ there) in omega arith

-- where no other seat has any, the views of these have all
total_known : (f : View → ℕ) → f blank ≡ 0 → (seats : List ℕ) (known vs : List View) → AreSeats seats known vs
    → ((q : ℕ) (u : View) → IsOther q seats → get_elem? vs q ≡ some u → f u ≡ 0) → total f vs ≡ total f known
total_known f none [] [] vs are others = total_none f vs (λ q u there. others q u tt there)
total_known f none [] (v ∷ known) vs are others = absurd are
total_known f none (seat ∷ seats) [] vs are others = absurd are
total_known f none (seat ∷ seats) (v ∷ known) vs are others =
    let less = total_set f vs seat v blank are.0 in
    let rest = total_known f none seats known (set vs seat blank) (still_seats seats known vs seat blank are.1 are.2) (λ q u other there.
    dite (ℕ_discrete q seat)
    (λ same. ap f (some-injective u blank (sym there ∙ (ap (get_elem? (set vs seat blank)) same ∙ set_at vs seat v blank are.0))) ∙ none)
    (λ apart. others q u (apart, other) (sym (set_else vs seat q blank apart) ∙ there))) in omega arith

-- ---- shares

fits_more : (e f : ℕ) (share : List ℕ) → e ≤ f → FitsIn e share → FitsIn f share
fits_more e f share more fits = each_weaker (λ d. d ≤ e) (λ d. d ≤ f) share (λ d fit. omega arith) fits

fits_some : (share : List ℕ) → (e : ℕ) × FitsIn e share
fits_some [] = (0, tt)
fits_some (d ∷ ds) = let rest = fits_some ds in (d + rest.0, ((omega arith), fits_more rest.0 (d + rest.0) ds (omega arith) rest.1))

-- there is a whole that is large enough for all
fits_all : (vs : List View) → (e : ℕ) × EachView (λ (u : View). FitsIn e u.share) vs
fits_all [] = (0, (λ q u there. absurd (some-ne-none u (sym there))))
fits_all (x ∷ xs) = let here = fits_some x.share in let rest = fits_all xs in (here.0 + rest.0, each here rest)
  where
    each : (here : (e : ℕ) × FitsIn e x.share) (rest : (e : ℕ) × EachView (λ (u : View). FitsIn e u.share) xs)
        → EachView (λ (u : View). FitsIn (here.0 + rest.0) u.share) (x ∷ xs)
    each here rest zero u there = subst (λ (z : View). FitsIn (here.0 + rest.0) z.share) (some-injective x u there)
        (fits_more here.0 (here.0 + rest.0) x.share (omega arith) here.1)
    each here rest (suc q) u there = fits_more rest.0 (here.0 + rest.0) u.share (omega arith) (rest.1 q u there)

fits_known : (e : ℕ) (seats : List ℕ) (known vs : List View) → EachView (λ (u : View). FitsIn e u.share) vs → AreSeats seats known vs
    → FitsIn e (shares_in known)
fits_known e [] [] vs fits are = tt
fits_known e [] (v ∷ known) vs fits are = absurd are
fits_known e (seat ∷ seats) [] vs fits are = absurd are
fits_known e (seat ∷ seats) (v ∷ known) vs fits are =
    each_append (λ d. d ≤ e) v.share (shares_in known) (fits seat v are.0) (fits_known e seats known vs fits are.2)

amount_known : (e : ℕ) (known : List View) → amount e (shares_in known) ≡ total (λ (u : View). amount e u.share) known
amount_known e [] = refl
amount_known e (v ∷ known) =
    total_append (λ d. 2 ^ (e - d)) v.share (shares_in known) ∙ ap (λ k. amount e v.share + k) (amount_known e known)

none_amount : (e : ℕ) (share : List ℕ) → amount e share ≡ 0 → share ≡ []
none_amount e [] none = refl
none_amount e (d ∷ ds) none = absurd (let some = pow_pos (e - d) in omega arith)

-- seats that have the whole together know that no other seat has any
pub no_other_share : (seats : List ℕ) (known vs : List View) → AreSeats seats known vs → IsWhole (shares_in known)
    → AreShares (λ (u : View). u.share) vs → (q : ℕ) (u : View) → IsOther q seats → get_elem? vs q ≡ some u → u.share ≡ []
no_other_share seats known vs are whole shares q u other there =
    let fits = fits_all vs in
    let all = shares fits.0 fits.1 in
    let mine = sym (amount_known fits.0 known) ∙ whole fits.0 (fits_known fits.0 seats known vs fits.1 are) in
    let more = no_more (λ (z : View). amount fits.0 z.share) refl seats known vs are q u other there in
    none_amount fits.0 u.share (omega arith)

-- ---- nobody was run

no_entry : (journal : List Entry) → length journal ≡ 0 → journal ≡ []
no_entry [] none = refl
no_entry (e ∷ before) none = absurd (omega arith)

none_over : (got back out : ℕ) → got ≡ 0 → got ≡ back + out → out ≡ 0
none_over got back out none sum = omega arith

same_length : (back taken one : ℕ) → back ≡ 0 → taken ≡ 0 → back + 0 ≡ taken + one → one ≡ 0
same_length back taken one no_back no_taken sum = omega arith

module _ {H : Type 0} (is_of : ℕ → H → Type 0) (facts : H → HomeFacts) where
  home_of : (actor : ℕ) (x : Spot Word SlotName (Slot H) Ghost) (holder : Option (ℕ × Held)) → holder ≡ None
      → CellPlace is_of facts actor x holder → IsHome is_of facts actor x
  home_of actor x holder free kept = subst (CellPlace is_of facts actor x) free kept

  module _ (n actor : ℕ) (x : Spot Word SlotName (Slot H) Ghost) (vs : List View) (f : Fact is_of facts n actor x vs) (seats : List ℕ) (known : List View)
      (are : AreSeats seats known vs) (whole : IsWhole (shares_in known)) (ran : Each RanNobody known) where
    bare : (q : ℕ) (u : View) → IsOther q seats → get_elem? vs q ≡ some u → IsBare actor u
    bare q u other there = f.bare q u there (no_other_share seats known vs are whole f.shares q u other there)

    none_got : total (claims_got actor) vs ≡ 0
    none_got = total_known (claims_got actor) refl seats known vs are (λ q u other there. (bare q u other there).got)
        ∙ total_each (claims_got actor) RanNobody known (λ v none. ap (times actor) none.0) ran

    unheld : x.ghost.holder ≡ None
    unheld = none_out x.ghost.holder (none_over _ _ _ none_got f.claims_balance)

    unclaimed : (q : ℕ) (u : View) → get_elem? vs q ≡ some u → claim_for actor u ≡ None
    unclaimed q u there =
        sym (ticket_here (claim_for actor) vs q u there) ∙ (f.claims q ∙ ap (λ (h : Option (ℕ × Held)). held_by h q) unheld)

    none_back : total (back_by actor length) vs ≡ 0
    none_back = total_known (back_by actor length) refl seats known vs are (λ q u other there. ((bare q u other there).releases length).1)
        ∙ total_each (back_by actor length) RanNobody known (λ v none. ap (total (back_in_release actor length)) none.1) ran

    none_taken : total (taken_by actor length) vs ≡ 0
    none_taken = total_known (taken_by actor length) refl seats known vs are (λ q u other there. ((bare q u other there).releases length).0)
        ∙ total_each (taken_by actor length) RanNobody known (λ v none. ap (total (taken_in_release actor length)) none.1) ran

    no_journal : x.ghost.journal ≡ []
    no_journal = no_entry x.ghost.journal (same_length _ _ _ none_back none_taken (f.releases length))

    not_closed : x.row Status ≢ 1
    not_closed one = let some = f.held one in let none = none_got in omega (arith, some, none)

    not_run : IsNotRun is_of facts actor x known
    not_run = let home = home_of actor x x.ghost.holder unheld f.cell in record {
      home = home.home;
      present = home.present;
      of_actor = home.of_actor;
      journal = home.fold ∙ no_journal;
      word = home.word;
      free = ⊎_elim (λ idle. idle) (λ one. absurd (not_closed one)) home.idle;
      balance = ap (λ k. (x.row Waiting + k) % 2 ^ 64) (sym (total_known (off_by actor) refl seats known vs are
          (λ q u other there. ((bare q u other there).rest (unclaimed q u there)).1)))
          ∙ (f.balance ∙ ap (λ k. k % 2 ^ 64) (total_known (on_by actor) refl seats known vs are (λ q u other there. (bare q u other there).on)));
      put = λ measure. sym (total_known (put_by actor measure) refl seats known vs are
          (λ q u other there. ((bare q u other there).rest (unclaimed q u there)).2 measure)) ∙ f.put measure;
      drained = subst (Each (WasPushed x.ghost)) (sym home.drained) f.was_pushed;
    }

  pub shows_not_run : ShowsNotRun is_of facts
  shows_not_run n known whole ran s r seats are actor inside =
      not_run n actor (spot_of word_offset slot_offset s r.ghosts actor) s.views (r.each actor inside) seats known are whole ran
