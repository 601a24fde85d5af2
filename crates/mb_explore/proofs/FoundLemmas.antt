-- What is found.
use Rattle.std.proofs.Common.{◌≡◌, ◌≢◌, ℕ, zero, suc, ◌<◌, List, [], ◌∷◌, length, get_or, map, take, refl, sym, ap, subst, ◌∙◌, arith, ⊎_elim}
use Rattle.std.proofs.lemmas.Bool.{eqb-true}
use Rattle.std.specs.Prelude.{◌==◌, true, ℤ, Some, slice_get, slice_set}
use Rattle.std.proofs.lemmas.Option.{slice_get-map}
use Rattle.std.specs.List.{All, Contains}
use Rattle.std.specs.Prelude.{option_map}
use Rattle.std.proofs.lemmas.List.{get_or-take, length-take, map-set, nil_from_length}
use Rattle.std.proofs.lemmas.List.Elements.{All-contains_itself, All-nil, All-push, All-set, All-take}
use Rattle.std.proofs.lemmas.List.Quantifiers.{all_pairs_push}
use Rattle.mb_actor.specs.Behaviour.{Moment, Reply}
use Rattle.mb_actor.specs.declared.message.Message.{Message}
use Rattle.mb_world.specs.Choices.{AreChoices}
use Rattle.mb_world.specs.World.{WorldView}
use Rattle.mb_world.specs.declared.choice.Choice.{Choice}
use Rattle.mb_explore.specs.Added.{IsAdded, IsShorter, found_of, text_of}
use Rattle.mb_explore.specs.Orders.{IsOver}
use Rattle.mb_explore.specs.Outcomes.{AreFound, EndsIn}
use Rattle.mb_explore.specs.Search.{AreKept}
use Rattle.mb_explore.specs.Ways.{IsFoundWithin}
use Rattle.mb_explore.specs.declared.outcome.Outcome.{Outcome}
use Rattle.mb_explore.proofs.ListLemmas.{All-last, All-left, All-there, All-unset, firsts-differ, there-set}
use Rattle.mb_explore.proofs.WayLemmas.{found-longer}

-- ---- lists

-- the text of one outcome
pub text-at : (l : List Outcome) (i : ℕ) (x : Outcome) → i < length l → x ≡ get_or l i x → slice_get (map text_of l) i ≡ Some (text_of x)
text-at [] i x within is = absurd (omega arith)
text-at (z ∷ l) zero x within is = ap Some (ap text_of (sym is))
text-at (z ∷ l) (suc i) x within is = text-at l i x (omega arith) is

-- the outcome at some place
pub outcome-at : (l : List Outcome) (i : ℕ) (x : Outcome) → i < length l → x ≡ get_or l i x → slice_get l i ≡ Some x
outcome-at [] i x within is = absurd (omega arith)
outcome-at (z ∷ l) zero x within is = ap Some (sym is)
outcome-at (z ∷ l) (suc i) x within is = outcome-at l i x (omega arith) is

-- the texts
pub texts-are : (l : List Outcome) → map text_of l ≡ map (λ (f : List ℕ × List Choice). f.0) (map found_of l)
texts-are [] = refl
texts-are (x ∷ l) = ap (λ w. text_of x ∷ w) (texts-are l)

-- the text of what stands in the list is one of the texts
text-there : (l : List Outcome) (k : ℕ) (d : List ℕ × List Choice) → k < length (map found_of l) →
    Contains (map text_of l) (get_or (map found_of l) k d).0
text-there [] k d lt = absurd (omega arith)
text-there (x ∷ l) zero d lt = (0, omega arith, refl)
text-there (x ∷ l) (suc k) d lt =
    let later = text-there l k d (omega arith) in let within = later.1 in (suc later.0, omega arith, later.2)

-- there is none, by the count
pub none-there : {X : Type 0} (l : List X) (n : ℕ) → n ≡ length l → (n == 0) ≡ true → l ≡ []
none-there l n same is = nil_from_length l (sym same ∙ eqb-true n 0 is)

-- where no step is listed, none is possible
pub is-over : (world : WorldView) (choices : List Choice) → AreChoices world choices → length choices ≡ 0 → IsOver world
is-over world choices are none choice possible =
    let there = are.each choice possible in let within = there.1 in omega (arith, within, none)

-- ---- what is found in the end

-- what was found with the shorter of two orders was found with both
found-both : (final : List (List ℕ × List Choice)) (old new : Outcome) (order : List Choice) → IsShorter old new order →
    IsFoundWithin final (found_of new).0 (length (found_of new).1) →
    IsFoundWithin final (text_of old) (length old.schedule.items) × IsFoundWithin final (text_of old) (length order)
found-both final old new order shorter there = ⊎_elim
    (λ less.
    let here = subst (λ (f : List ℕ × List Choice). IsFoundWithin final f.0 (length f.1)) less.0 there in let more = less.1 in
    (found-longer final (text_of old) (length order) (length old.schedule.items) (omega (arith, more)) here, here))
    (λ same.
    let here = subst (λ (f : List ℕ × List Choice). IsFoundWithin final f.0 (length f.1)) same.0 there in
    (here, found-longer final (text_of old) (length old.schedule.items) (length order) same.1 here))
    shorter

found-at : (l : List Outcome) (i : ℕ) (x : Outcome) → slice_get l i ≡ Some x → slice_get (map found_of l) i ≡ Some (found_of x)
found-at l i x is = slice_get-map found_of l i ∙ ap (option_map found_of) is

pub kept-more : (before now : List Outcome) (text : List ℕ) (order : List Choice) (final : List (List ℕ × List Choice)) →
    IsAdded before now text order → AreKept (map found_of now) final →
    AreKept (map found_of before) final × IsFoundWithin final text (length order)
kept-more before now text order final added kept =
    let P = λ (f : List ℕ × List Choice). IsFoundWithin final f.0 (length f.1) in ⊎_elim
    (λ known.
    let all = subst (All P) (ap (map found_of) known.is ∙ map-set found_of before known.place known.new) kept in
    let was = found-at before known.place known.old known.was in
    let here = All-there P (slice_set (map found_of before) known.place (found_of known.new)) known.place (found_of known.new)
    (there-set (map found_of before) known.place (found_of known.old) (found_of known.new) was) all in
    let both = found-both final known.old known.new order known.shorter here in (
      All-unset P (map found_of before) known.place (found_of known.old) (found_of known.new) was both.0 all,
      subst (λ t. IsFoundWithin final t (length order)) known.same both.1,
    ))
    (λ new.
    let all = subst (All P) new.0 kept in
    (All-left P (map found_of before) ((text, order) ∷ []) all, All-last P (map found_of before) (text, order) all))
    added

-- what is found is found
pub kept-itself : (found : List (List ℕ × List Choice)) → AreKept found found
kept-itself found k d lt = record {
  order = (get_or found k d).1;
  there = All-contains_itself found k d lt;
  short = omega arith;
}

module _ (starts : WorldView → Type 0) (after : ℕ → List Message → ℤ) (gives : ℕ → Moment → Reply → Type 0) (names : List (List ℕ)) where
  abbrev Ends : List ℕ × List Choice → Type 0
  Ends f = EndsIn starts after gives names f.1 f.0

  -- the order of one text is changed
  found-set : (found : List (List ℕ × List Choice)) (i : ℕ) (old new : List ℕ × List Choice) → AreFound starts after gives names found →
      slice_get found i ≡ Some old → new.0 ≡ old.0 → Ends new → AreFound starts after gives names (slice_set found i new)
  found-set found i old new is was same ends_so = record {
    each = All-set Ends found i new ends_so is.each;
    once = firsts-differ found i old new was same is.once;
  }

  pub found-more : (before now : List Outcome) (text : List ℕ) (order : List Choice) → AreFound starts after gives names (map found_of before) →
      EndsIn starts after gives names order text → IsAdded before now text order → AreFound starts after gives names (map found_of now)
  found-more before now text order found ends_so added = ⊎_elim
      (λ known.
      let was = found-at before known.place known.old known.was in
      let same : (found_of known.new).0 ≡ (found_of known.old).0 = ⊎_elim
      (λ less. ap (λ (f : List ℕ × List Choice). f.0) less.0)
      (λ as_before. ap (λ (f : List ℕ × List Choice). f.0) as_before.0)
      known.shorter in
      let here : Ends (found_of known.new) = ⊎_elim
      (λ less.
      subst Ends (sym less.0) (subst (λ t. EndsIn starts after gives names order t) (sym known.same) ends_so))
      (λ as_before.
      subst Ends (sym as_before.0) (All-there Ends (map found_of before) known.place (found_of known.old) was found.each))
      known.shorter in
      subst (AreFound starts after gives names) (sym (map-set found_of before known.place known.new) ∙ ap (map found_of) (sym known.is))
      (found-set (map found_of before) known.place (found_of known.old) (found_of known.new) found was same here))
      (λ more. subst (AreFound starts after gives names) (sym more.0) (record {
        each = All-push Ends (map found_of before) (text, order) found.each ends_so;
        once = all_pairs_push (λ (f g : List ℕ × List Choice). f.0 ≢ g.0) (map found_of before) (text, order) found.once
            (λ k d lt same. more.1 (subst (Contains (map text_of before)) same (text-there before k d lt)));
      }))
      added

  -- none is found yet
  pub found-none : AreFound starts after gives names []
  found-none = record { each = All-nil Ends; once = λ i j d lt within. absurd (omega arith) }

  -- the first of them
  pub found-take : (n : ℕ) (found : List (List ℕ × List Choice)) → AreFound starts after gives names found →
      AreFound starts after gives names (take n found)
  found-take n found is = record {
    each = All-take Ends n found is.each;
    once = λ i j d lt within.
        let short = length-take n found in let high : j < n = omega (arith, short, within) in let low : i < n = omega (arith, high, lt) in
        let inside : j < length found = omega (arith, short, within) in
        rw (get_or-take n found i d low, get_or-take n found j d high) (is.once i j d lt inside);
  }
