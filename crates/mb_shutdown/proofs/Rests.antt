-- What is left, taken out of all queues.
use Rattle.std.proofs.Common.{◌≡◌, ◌≢◌, inl, inr, ℕ, zero, suc, ◌+◌, ◌-◌, ◌<◌, false, List, [], ◌∷◌, ◌++◌, length, map, take, drop, refl, sym, ap, ◌∙◌, subst}
use Rattle.std.proofs.Common.{arith, append-nil, Option, Some, None}
use Rattle.std.specs.Global.{Global}
use Rattle.std.specs.Prelude.{All, Vec, is_some, option_to_list, remove, slice_get, slice_index_or, true}
use Rattle.std.proofs.lemmas.List.{drop_all, take_all}
use Rattle.std.proofs.lemmas.List.Elements.{All-head, All-nil, All-tail}
use Rattle.std.proofs.lemmas.Option.{none-some, same_Some}
use borrow.Rule.Slice.PartMut.{post_of}
use Rattle.mb_msg.specs.declared.envelope.Envelope.{Envelope}
use Rattle.mb_queue.specs.Passes.{IsOfQueue, Queue, SendPassView, TakePassView, control_first}
use Rattle.mb_shutdown.specs.AllArrived.{AllArrived}
use Rattle.mb_shutdown.specs.Joined.{AreOfAllSenders, column}
use Rattle.mb_shutdown.specs.Parts.{IsControlsFirst}
use Rattle.mb_shutdown.specs.LeftInQueues.{IsOverfull}
use Rattle.mb_shutdown.specs.Mismatched.{IsTooMuchFor}
use Rattle.mb_shutdown.specs.Taken.{AreTaken}

pub none-listed : {A : Type 0} (o : Option A) → is_some o ≡ false → option_to_list o ≡ []
none-listed None is = refl
none-listed (Some x) is = absurd (cc is)

module _ {R : Type 0} where
  -- the first and all others
  pub first-removed : (xs : List R) (r : R) → 0 < length xs → r ≡ slice_index_or xs 0 r → xs ≡ r ∷ remove xs 0
  first-removed [] r some is = absurd (omega (arith, some))
  first-removed (x ∷ xs) r some is = ap (λ y. y ∷ xs) (sym is)

  -- a list of which all but the first were lent
  pub lent : (now old rooms : List R) (count : ℕ) → now ≡ old → 0 < length now → count ≡ length now → length rooms + 1 ≡ length now
      → take count ((take 1 now ++ (rooms ++ post_of 1 (length now - 1) now))
      ++ drop (length (take 1 now ++ (rooms ++ post_of 1 (length now - 1) now))) old) ≡ take 1 now ++ rooms
  lent [] old rooms count base some many fewer = absurd (omega (arith, some))
  lent (x ∷ xs) old rooms count base some many fewer =
      let none : post_of 1 (length (x ∷ xs) - 1) (x ∷ xs) ≡ [] = drop_all (length (x ∷ xs) - 1) xs (omega arith) in
      let same : rooms ++ post_of 1 (length (x ∷ xs) - 1) (x ∷ xs) ≡ rooms = ap (λ l. rooms ++ l) none ∙ append-nil rooms in
      let over : drop (length (x ∷ rooms)) old ≡ []
      = ap (drop (length (x ∷ rooms))) (sym base) ∙ drop_all (length (x ∷ rooms)) (x ∷ xs) (omega (arith, fewer)) in
      ap (λ l. take count ((x ∷ l) ++ drop (length (x ∷ l)) old)) same
      ∙ ap (λ l. take count ((x ∷ rooms) ++ l)) over
      ∙ ap (take count) (append-nil (x ∷ rooms))
      ∙ take_all count (x ∷ rooms) (omega (arith, many, fewer))

  -- what is lent is all but the first
  pub lent-rooms : (now : List R) → take (length now - 1) (drop 1 now) ≡ drop 1 now
  lent-rooms [] = refl
  lent-rooms (x ∷ xs) = take_all (length (x ∷ xs) - 1) xs (omega arith)

  all-but-first : (P : R → Type 0) (xs : List R) → All P xs → All P (drop 1 xs)
  all-but-first P [] all = All-nil P
  all-but-first P (x ∷ xs) all = All-tail P x xs all

  pub lent-empty : (P : R → Type 0) (old now : List R) → now ≡ old → All P old → All P (take (length now - 1) (drop 1 now))
  lent-empty P old now same all =
      subst (All P) (sym (lent-rooms now)) (all-but-first P now (subst (All P) (sym same) all))

-- the rooms of all, of which the first stays empty
pub rooms-of : {R : Type 0} (items : R → List Envelope) (now rooms : List R) → 0 < length now → All (λ r. items r ≡ []) now
    → map items (take 1 now ++ rooms) ≡ [] ∷ map items rooms
rooms-of items [] rooms some empty = absurd (omega (arith, some))
rooms-of items (x ∷ xs) rooms some empty = ap (λ e. e ∷ map items rooms) (All-head (λ r. items r ≡ []) x xs empty)

pub are-taken : (takes ts : List TakePassView) (guardian last : TakePassView) (rows : List (List SendPassView)) (lefts lents : List (List Envelope))
    (es : List Envelope) → takes ≡ guardian ∷ ts → last.queue ≡ guardian.queue → last.taken ≡ guardian.taken
    → All (IsOfQueue last.queue) last.taken → lefts ≡ es ∷ lents → es ≡ [] → length lents ≡ length ts
    → ((place : ℕ) (take : TakePassView) (left : List Envelope) → slice_get ts place ≡ Some take → slice_get lents place ≡ Some left
    → All (AllArrived take.discipline (take.taken ++ left)) (column place rows))
    → ((place : ℕ) (take : TakePassView) (left : List Envelope) → slice_get ts place ≡ Some take → slice_get lents place ≡ Some left
    → All (IsOfQueue take.queue) (take.taken ++ left))
    → ((place : ℕ) (take : TakePassView) (left : List Envelope) → slice_get ts place ≡ Some take → slice_get lents place ≡ Some left
    → take.discipline ≡ control_first → AreOfAllSenders take.queue (column place rows) → IsControlsFirst left) → AreTaken takes rows lefts
are-taken takes ts guardian last rows lefts lents es takes_are queue taken own lefts_are empty many came known ordered = record {
  same_count = ap length lefts_are ∙ ap suc many ∙ sym (ap length takes_are);
  none_first = λ left is. same_Some left es (sym is ∙ ap (λ l. slice_get l 0) lefts_are) ∙ empty;
  known = λ place take left is found.
      known-at place take left (sym (ap (λ l. slice_get l place) takes_are) ∙ is) (sym (ap (λ l. slice_get l place) lefts_are) ∙ found);
  came = λ place take left is found. came place take left (take-next place take is) (left-next place left found);
  ordered = λ place take left is found. ordered place take left (take-next place take is) (left-next place left found);
}
  where
    take-next : (place : ℕ) (take : TakePassView) → slice_get takes (place + 1) ≡ Some take → slice_get ts place ≡ Some take
    take-next place take is =
        let next : place + 1 ≡ suc place = omega arith in
        sym (ap (λ l. slice_get l (place + 1)) takes_are ∙ ap (slice_get (guardian ∷ ts)) next) ∙ is

    left-next : (place : ℕ) (left : List Envelope) → slice_get lefts (place + 1) ≡ Some left → slice_get lents place ≡ Some left
    left-next place left found =
        let next : place + 1 ≡ suc place = omega arith in
        sym (ap (λ l. slice_get l (place + 1)) lefts_are ∙ ap (slice_get (es ∷ lents)) next) ∙ found

    first : All (IsOfQueue guardian.queue) (guardian.taken ++ es)
    first =
        subst (λ (x : Queue × List Envelope). All (IsOfQueue x.0) x.1)
        (λ i. (queue i, (taken ∙ sym (append-nil guardian.taken) ∙ ap (λ l. guardian.taken ++ l) (sym empty)) i)) own

    known-at : (place : ℕ) (take : TakePassView) (left : List Envelope) → slice_get (guardian ∷ ts) place ≡ Some take
        → slice_get (es ∷ lents) place ≡ Some left → All (IsOfQueue take.queue) (take.taken ++ left)
    known-at zero take left is found =
        subst (λ (x : TakePassView × List Envelope). All (IsOfQueue x.0.queue) (x.0.taken ++ x.1))
        (λ i. (same_Some guardian take is i, same_Some es left found i)) first
    known-at (suc place) take left is found = known place take left is found

-- ---- what is too much

some-listed : {A : Type 0} (o : Option A) → is_some o ≡ true → option_to_list o ≢ []
some-listed None is = absurd (cc is)
some-listed (Some x) is = λ none. absurd (cc none)

-- the guardian was left one
pub guardian-given : (takes ts : List TakePassView) (guardian last : TakePassView) (rows : List (List SendPassView)) (rooms : List (Vec Envelope Global))
    (given : Option Envelope) → takes ≡ guardian ∷ ts → last.queue ≡ guardian.queue → last.taken ≡ guardian.taken ++ option_to_list given
    → All (IsOfQueue last.queue) last.taken → is_some given ≡ true → IsTooMuchFor takes rows rooms 0
guardian-given takes ts guardian last rows rooms given takes_are queue taken own some = record {
  take = guardian;
  left = option_to_list given;
  present = ap (λ l. slice_get l 0) takes_are;
  was = record {
    known = subst (λ (x : Queue × List Envelope). All (IsOfQueue x.0) x.1) (λ i. (queue i, taken i)) own;
    came = All-nil (AllArrived guardian.discipline (guardian.taken ++ option_to_list given));
  };
  over = inl (refl, some-listed given some);
}

-- more was left for another than its room holds
pub rest-over : (takes ts : List TakePassView) (guardian : TakePassView) (rows : List (List SendPassView)) (rooms lent_out : List (Vec Envelope Global)) (place : ℕ)
    → takes ≡ guardian ∷ ts → lent_out ≡ drop 1 rooms → IsOverfull ts rows lent_out place → IsTooMuchFor takes rows rooms (suc place)
rest-over takes ts guardian rows rooms lent_out place takes_are lent_are over = record {
  take = over.take;
  left = over.left;
  present = ap (λ l. slice_get l (suc place)) takes_are ∙ over.present;
  was = over.was;
  over = inr (over.room, dropped rooms place over.room (ap (λ l. slice_get l place) (sym lent_are) ∙ over.lies), over.over);
}
  where
    dropped : (rs : List (Vec Envelope Global)) (i : ℕ) (r : Vec Envelope Global) → slice_get (drop 1 rs) i ≡ Some r → slice_get rs (suc i) ≡ Some r
    dropped [] i r is = absurd (none-some r is)
    dropped (x ∷ rs) i r is = is
