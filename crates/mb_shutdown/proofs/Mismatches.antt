-- What does not agree, from the calls that find it to the whole.
use Rattle.std.proofs.Common.{◌≡◌, ◌≢◌, ◌⊎◌, inl, inr, ⊎_elim, ℕ, zero, suc, ◌+◌, ◌<◌, ◌≤◌, List, [], ◌∷◌, ◌++◌, length, map}
use Rattle.std.proofs.Common.{refl, sym, ap, ◌∙◌, subst, arith, Option, Some, None}
use Rattle.std.specs.Prelude.{Vec, slice_get, vec_capacity}
use Rattle.std.specs.List.{AllZip}
use Rattle.std.specs.Global.{Global}
use Rattle.std.proofs.lemmas.List.Elements.{All-nil}
use Rattle.std.proofs.lemmas.Option.{none-some, same_Some}
use Rattle.mb_msg.specs.JournalMode.{Retention}
use Rattle.mb_msg.specs.declared.envelope.Envelope.{Envelope}
use Rattle.mb_cell.specs.CellView.{CellView}
use Rattle.mb_queue.specs.Passes.{SendPassView, TakePassView}
use Rattle.mb_shutdown.specs.AllArrived.{AllArrived}
use Rattle.mb_shutdown.specs.LeftInQueues.{WasLeft}
use Rattle.mb_gate.specs.View.{View}
use Rattle.mb_actor.specs.Behaviour.{Moment, Reply}
use Rattle.mb_home.specs.Contents.{Contents}
use Rattle.mb_shutdown.specs.HomeParts.{end_of, ended_of}
use Rattle.mb_shutdown.specs.Homes.{AreHomes, Disagrees, HasClaimOutIfHeld, ReturnedHome}
use Rattle.mb_shutdown.specs.Mismatched.{
  CanHandle,
  IsNotReturned,
  IsMiscounted,
  IsMismatch,
  DiffersFromCount,
  DiffersFromCountFor,
  IsTooMuch,
  IsTooMuchFor,
  IsUnopened,
  of_whom,
  passes_to,
}
use Rattle.mb_shutdown.specs.Rooms.{IsEmptyWithRoom}
use Rattle.mb_shutdown.specs.Taken.{AreTaken}
use Rattle.mb_shutdown.specs.declared.mismatch.Mismatch.{Mismatch}
use Rattle.mb_shutdown.specs.declared.mismatch.Mismatch.TheVariants.{Held, List as Listed, Waiting}
use Rattle.mb_shutdown.specs.declared.room.Ended.{Ended}
use Rattle.mb_shutdown.proofs.Lists.{alike, from-mapped, length-mapped, mapped, there, within}

-- the home of one actor among all
pub did-not-come : (all : List (Option ReturnedHome)) (left : Option ReturnedHome) (id : ℕ) (what : Mismatch) → slice_get all id ≡ Some left
    → IsUnopened left id what → IsNotReturned all what
did-not-come all left id (Held w) is un = (left, ap (slice_get all) un.0 ∙ is, (refl, un.1))
did-not-come all left id (Listed w) is un = (left, ap (slice_get all) un.0 ∙ is, (refl, un.1))
did-not-come all left id (Waiting w) is un = absurd un

pub next-of : {X : Type 0} (xs rest all : List X) (x : X) → xs ++ x ∷ rest ≡ all → slice_get all (length xs) ≡ Some x
next-of xs rest all x joined = ap (λ l. slice_get l (length xs)) (sym joined) ∙ here xs
  where
    here : (ys : List _) → slice_get (ys ++ x ∷ rest) (length ys) ≡ Some x
    here [] = refl
    here (y ∷ ys) = here ys

not-come : (all : List (Option ReturnedHome)) (outside : List (List SendPassView)) (waiting : List ℕ) (what : Mismatch) → IsNotReturned all what
    → IsMismatch all outside waiting what
not-come all outside waiting (Held w) d = d.1 ∙ ap Some d.2.1
not-come all outside waiting (Listed w) d = (d.2.1.0, d.1 ∙ ap Some d.2.1.1, d.2.1.2)
not-come all outside waiting (Waiting w) d = absurd d.2

-- a claim is out of the actor whose home did not come
out-if-held : (gives : ℕ → Moment → Reply → Type 0) (first : Contents) (n : ℕ) (v : View) (all : List (Option ReturnedHome))
    (outside : List (List SendPassView)) (waiting : List ℕ) (what : Mismatch) → AreHomes gives first n v all
    → IsMismatch all outside waiting what → HasClaimOutIfHeld v what
out-if-held gives first n v all outside waiting (Held w) left is = λ whole.
    left.out whole w.0 (let lt = within all w.0 None is in let m = left.same_count in omega (arith, lt, m)) is
out-if-held gives first n v all outside waiting (Listed w) left is = tt
out-if-held gives first n v all outside waiting (Waiting w) left is = tt

disagrees : (gives : ℕ → Moment → Reply → Type 0) (first : Contents) (n : ℕ) (v : View) (all : List (Option ReturnedHome))
    (outside : List (List SendPassView)) (waiting : List ℕ) (what : Mismatch) → AreHomes gives first n v all
    → IsMismatch all outside waiting what → Disagrees gives first n v outside waiting what
disagrees gives first n v all outside waiting what left why =
    record { all = all; left = left; why = why; held = out-if-held gives first n v all outside waiting what left why }

-- ---- what was left

zip-at : (ns : List ℕ) (rooms : List (Vec Envelope Global)) (i n : ℕ) (room : Vec Envelope Global) → AllZip IsEmptyWithRoom ns rooms
    → slice_get ns i ≡ Some n → slice_get rooms i ≡ Some room → n ≤ vec_capacity room
zip-at [] rooms i n room all is found = absurd (none-some n is)
zip-at (m ∷ ns) [] i n room all is found = absurd all
zip-at (m ∷ ns) (r ∷ rooms) zero n room all is found =
    subst (λ (x : ℕ × Vec Envelope Global). x.0 ≤ vec_capacity x.1) (λ j. (same_Some m n is j, same_Some r room found j)) all.0.1
zip-at (m ∷ ns) (r ∷ rooms) (suc i) n room all is found = zip-at ns rooms i n room all.1 is found

-- what was taken was left
was-left : (takes : List TakePassView) (rows : List (List SendPassView)) (lefts : List (List Envelope)) (id : ℕ) (take : TakePassView) (left : List Envelope)
    → AreTaken takes rows lefts → slice_get takes id ≡ Some take → slice_get lefts id ≡ Some left → WasLeft take (passes_to id rows) left
was-left takes rows lefts zero take left taken is found =
    record { known = taken.known zero take left is found; came = All-nil (AllArrived take.discipline (take.taken ++ left)) }
was-left takes rows lefts (suc k) take left taken is found =
    let e : k + 1 ≡ suc k = omega arith in
    record {
      known = taken.known (suc k) take left is found;
      came = taken.came k take left (ap (slice_get takes) e ∙ is) (ap (slice_get lefts) e ∙ found);
    }

module _ (all : List (Option ReturnedHome)) (lefts : List ReturnedHome) (are : all ≡ map (λ (l : ReturnedHome). Some l) lefts) (outside : List (List
    SendPassView)) (takes : List TakePassView) (takes_are : takes ≡ map (λ (l : ReturnedHome). l.home.value.take) lefts) (rows : List (List SendPassView))
    (rows_are : rows ≡ map (λ (l : ReturnedHome). l.home.value.sends) lefts ++ outside) (waiting : List ℕ) (counted : length waiting ≡ length all) where
  many : length all ≡ length lefts
  many = ap length are ∙ length-mapped (λ (l : ReturnedHome). Some l) lefts

  back : (id : ℕ) (take : TakePassView) (l : ReturnedHome) (left : List Envelope) → l.home.value.take ≡ take → WasLeft take (passes_to id rows) left
      → WasLeft l.home.value.take (passes_to id (map (λ (l : ReturnedHome). l.home.value.sends) lefts ++ outside)) left
  back id take l left same was =
      subst (λ (x : TakePassView × List (List SendPassView)). WasLeft x.0 (passes_to id x.1) left) (λ i. (sym same i, rows_are i)) was

  over-counted : (rooms : List (Vec Envelope Global)) (id : ℕ) → AllZip IsEmptyWithRoom waiting rooms → IsTooMuchFor takes rows rooms id
      → IsMiscounted all outside waiting id
  over-counted rooms id enough too =
      let l = from-mapped (λ (l : ReturnedHome). l.home.value.take) lefts id too.take (ap (λ x. slice_get x id) (sym takes_are) ∙ too.present) in
      let n = there waiting id (let lt = within lefts id l.0 l.1 in omega (arith, lt, counted, many)) in
      record {
        lefts = lefts;
        are = are;
        one = l.0;
        count = n.0;
        left = too.left;
        present = l.1;
        counted = n.1;
        was = back id too.take l.0 too.left l.2 too.was;
        differs = ⊎_elim (λ guardian. inr (guardian.1, inl guardian.0))
            (λ over. inl (λ same.
            let le = zip-at waiting rooms id n.0 over.0 enough n.1 over.1 in let lt = over.2 in absurd (omega (arith, le, lt, same))))
            too.over;
      }

  too-much : (rooms : List (Vec Envelope Global)) (what : Mismatch) → AllZip IsEmptyWithRoom waiting rooms → IsTooMuch takes rows rooms what
      → IsMismatch all outside waiting what
  too-much rooms (Waiting w) enough too = over-counted rooms w.0 enough too
  too-much rooms (Held w) enough too = absurd too
  too-much rooms (Listed w) enough too = absurd too

  otherwise-for : {A K : Type 0} (ended : List (Ended A K)) (envelopes : List (List Envelope)) (id : ℕ)
      → map ended_of ended ≡ map (λ (l : ReturnedHome). end_of l.home.value) lefts → AreTaken takes rows envelopes
      → DiffersFromCountFor ended envelopes waiting id → IsMiscounted all outside waiting id
  otherwise-for {A} {K} ended envelopes id ended_are taken other =
      let a = ap length ended_are in let b = length-mapped ended_of ended in let c = length-mapped (λ (l : ReturnedHome). end_of l.home.value) lefts in
      let l = there lefts id (let lt = within ended id other.end other.present in omega (arith, lt, a, b, c)) in
      let same = alike ended_of (λ (l : ReturnedHome). end_of l.home.value) ended lefts id other.end l.0 ended_are other.present l.1 in
      let cell : other.end.cell ≡ l.0.home.value.cell = ap (λ (x : CellView × List Envelope × ℕ × Retention). x.0) same in
      let take : slice_get takes id ≡ Some l.0.home.value.take
      = ap (λ x. slice_get x id) takes_are ∙ mapped (λ (l : ReturnedHome). l.home.value.take) lefts id l.0 l.1 in
      record {
        lefts = lefts;
        are = are;
        one = l.0;
        count = other.count;
        left = other.left;
        present = l.1;
        counted = other.counted;
        was = back id l.0.home.value.take l.0 other.left refl (was-left takes rows envelopes id l.0.home.value.take other.left taken take other.lies);
        differs = ⊎_elim (λ differs. inl differs) (λ kept. inr (kept.0, inr (subst CanHandle cell kept.1))) other.differs;
      }

  otherwise : {A K : Type 0} (ended : List (Ended A K)) (envelopes : List (List Envelope)) (what : Mismatch)
      → map ended_of ended ≡ map (λ (l : ReturnedHome). end_of l.home.value) lefts → AreTaken takes rows envelopes
      → DiffersFromCount ended envelopes waiting what → IsMismatch all outside waiting what
  otherwise ended envelopes (Waiting w) ended_are taken other = otherwise-for ended envelopes w.0 ended_are taken other
  otherwise ended envelopes (Held w) ended_are taken other = absurd other
  otherwise ended envelopes (Listed w) ended_are taken other = absurd other

whom-counted : (all : List (Option ReturnedHome)) (outside : List (List SendPassView)) (waiting : List ℕ) (what : Mismatch)
    → IsMismatch all outside waiting what → of_whom what < length all
whom-counted all outside waiting (Held w) is = within all w.0 None is
whom-counted all outside waiting (Listed w) is = within all w.0 (Some is.0) is.1
whom-counted all outside waiting (Waiting w) is =
    let lt = within is.lefts w.0 is.one is.present in let a = ap length is.are in let b = length-mapped (λ (l : ReturnedHome). Some l) is.lefts in
    omega (arith, lt, a, b)

pub otherwise-at : {A K : Type 0} (ended : List (Ended A K)) (lefts : List (Vec Envelope Global)) (waiting : List ℕ) (k : ℕ) (one : Ended A K)
    (left : Vec Envelope Global) (count : ℕ) → slice_get ended k ≡ Some one → slice_get lefts k ≡ Some left → slice_get waiting k ≡ Some count
    → (length left.items ≢ count) ⊎ ((left.items ≢ []) × CanHandle one.cell)
    → DiffersFromCountFor ended (map (λ (l : Vec Envelope Global). l.items) lefts) waiting k
otherwise-at ended lefts waiting k one left count is lies counted differs = record {
  end = one;
  left = left.items;
  count = count;
  present = is;
  lies = mapped (λ (l : Vec Envelope Global). l.items) lefts k left lies;
  counted = counted;
  differs = differs;
}

-- ---- at the end

module _ (gives : ℕ → Moment → Reply → Type 0) (first : Contents) (n : ℕ) (v : View) (all : List (Option ReturnedHome))
    (left : AreHomes gives first n v all) (outside : List (List SendPassView)) (waiting : List ℕ) (counted : length waiting ≡ n) where
  abbrev IsWhy : Mismatch → Type 0
  IsWhy what = (of_whom what < n) × Disagrees gives first n v outside waiting what

  is-why : (what : Mismatch) → IsMismatch all outside waiting what → IsWhy what
  is-why what why =
      let lt = whom-counted all outside waiting what why in let m = left.same_count in
      ((omega (arith, lt, m)), disagrees gives first n v all outside waiting what left why)

  pub why-not-come : (what : Mismatch) → IsNotReturned all what → IsWhy what
  why-not-come what d = is-why what (not-come all outside waiting what d)

  module _ (lefts : List ReturnedHome) (are : all ≡ map (λ (l : ReturnedHome). Some l) lefts) (takes : List TakePassView)
      (takes_are : takes ≡ map (λ (l : ReturnedHome). l.home.value.take) lefts) (rows before : List (List SendPassView)) (joined : rows ≡ before ++ outside)
      (rows_are : before ≡ map (λ (l : ReturnedHome). l.home.value.sends) lefts) where
    joined_are : rows ≡ map (λ (l : ReturnedHome). l.home.value.sends) lefts ++ outside
    joined_are = joined ∙ ap (λ l. l ++ outside) rows_are

    as_many : length waiting ≡ length all
    as_many = counted ∙ sym left.same_count

    pub why-too-much : (rooms : List (Vec Envelope Global)) (what : Mismatch) → AllZip IsEmptyWithRoom waiting rooms → IsTooMuch takes rows rooms what
        → IsWhy what
    why-too-much rooms what enough too =
        is-why what (too-much all lefts are outside takes takes_are rows joined_are waiting as_many rooms what enough too)

    pub why-otherwise : {A K : Type 0} (ended : List (Ended A K)) (envelopes : List (List Envelope)) (what : Mismatch)
        → map ended_of ended ≡ map (λ (l : ReturnedHome). end_of l.home.value) lefts → AreTaken takes rows envelopes
        → DiffersFromCount ended envelopes waiting what → IsWhy what
    why-otherwise ended envelopes what ended_are taken other =
        is-why what
        (otherwise all lefts are outside takes takes_are rows joined_are waiting as_many ended envelopes what ended_are taken other)
