-- What a change of one mailbox makes of the marks of all.
use Rattle.std.proofs.Common.{◌≡◌, ℕ, suc, zero, ◌<◌, List, [], ◌∷◌, ◌++◌, length, refl, sym, ap, ◌∙◌}
use Rattle.std.specs.Prelude.{slice_get, slice_set, slice_index_or, Some}
use Rattle.std.proofs.lemmas.List.{map-set}
use Rattle.std.proofs.lemmas.Option.{slice_get_read, slice_get-map}
use Rattle.std.specs.Prelude.{option_map}
use Rattle.mb_msg.specs.declared.envelope.Envelope.{Envelope}
use Rattle.mb_world.specs.Dispatched.{mark_of, marks_of, GivesTo}
use Rattle.mb_world.specs.MailboxView.{MailboxView}

-- a set of what is there already
pub set-there : {X : Type 0} (l : List X) (i : ℕ) (x : X) → slice_get l i ≡ Some x → slice_set l i x ≡ l
set-there [] i x is = refl
set-there (y ∷ l) zero x is = let e : y ≡ x = cc is in ap (λ z. z ∷ l) (sym e)
set-there (y ∷ l) (suc i) x is = ap (λ z. y ∷ z) (set-there l i x is)

-- what was set is there
pub there-set : {X : Type 0} (l : List X) (i : ℕ) (x y : X) → slice_get l i ≡ Some x → slice_get (slice_set l i y) i ≡ Some y
there-set [] i x y is = absurd (cc is)
there-set (z ∷ l) zero x y is = refl
there-set (z ∷ l) (suc i) x y is = there-set l i x y is

-- a mailbox is changed, but its mark stays
pub marks-stay : (l : List MailboxView) (i : ℕ) (x y : MailboxView) → x ≡ slice_index_or l i x → mark_of y ≡ mark_of x →
    marks_of (slice_set l i y) ≡ marks_of l
marks-stay [] i x y is same = refl
marks-stay (z ∷ l) zero x y is same = ap (λ w. w ∷ marks_of l) (same ∙ ap mark_of is)
marks-stay (z ∷ l) (suc i) x y is same = ap (λ w. mark_of z ∷ w) (marks-stay l i x y is same)

-- a mailbox gives an envelope to its cell
pub gives-to : (l : List MailboxView) (i : ℕ) (x y : MailboxView) (e : Envelope) → i < length l → x ≡ slice_index_or l i x →
    mark_of y ≡ (x.actor, x.given ++ e ∷ []) → e.to ≡ x.actor → GivesTo (marks_of l) (marks_of (slice_set l i y)) i e
gives-to l i x y e within is same here = record {
  actor = x.actor;
  before = x.given;
  was = slice_get-map mark_of l i ∙ ap (option_map mark_of) (slice_get_read l (length l) i x refl within is);
  is = map-set mark_of l i y ∙ ap (slice_set (marks_of l) i) same;
  addressed = here;
}
