-- Sources that are asked for one order after another.
use Rattle.std.proofs.Common.{◌≡◌, ◌∙◌, ℕ, true, false, List, [], ◌∷◌, ◌++◌, Some, None, append_assoc, drop, length, refl, sym, ap, subst}
use Rattle.std.specs.Prelude.{Option, not, cond}
use Rattle.std.specs.Iterator.{Yields}
use Rattle.std.proofs.lemmas.List.{append-nil}
use Rattle.std.proofs.lemmas.List.Elements.{filter-append}
use Rattle.mb_msg.specs.declared.order.Order.{Order}
use Rattle.mb_source.specs.Given.{GaveAll, GaveSome, WasAsked, given_since, sendable}
use Rattle.mb_source.specs.Receivers.{has_nobody}
use Rattle.mb_source.specs.RecordedSource.{RecordedSource}

-- what can go to an actor is carried out, and what can go to none is not
pub sendable-one : (actors : ℕ) (o : Order) → has_nobody actors o ≡ false → sendable actors (o ∷ []) ≡ o ∷ []
sendable-one actors o is = ap (λ b. cond (not b) (o ∷ []) []) is

pub sendable-none : (actors : ℕ) (o : Order) → has_nobody actors o ≡ true → sendable actors (o ∷ []) ≡ []
sendable-none actors o is = ap (λ b. cond (not b) (o ∷ []) []) is

pub sendable-append : (actors : ℕ) (xs ys : List Order) → sendable actors (xs ++ ys) ≡ sendable actors xs ++ sendable actors ys
sendable-append actors xs ys = filter-append (λ x. not (has_nobody actors x)) xs ys

-- one more came
yields-more : {S A : Type 0} (steps : S → Option A → S → Type 0) (s t u : S) (xs : List A) (x : A) → Yields steps s xs t → steps t (Some x) u
    → Yields steps s (xs ++ x ∷ []) u
yields-more steps s t u [] x same one = (u, subst (λ v. steps v (Some x) u) (sym same) one, refl)
yields-more steps s t u (y ∷ xs) x (j, first, rest) one = (j, first, yields-more steps j t u xs x rest one)

-- what stands behind a list is left when the list is dropped
behind : {A : Type 0} (xs ys : List A) → drop (length xs) (xs ++ ys) ≡ ys
behind [] ys = refl
behind (x ∷ xs) ys = behind xs ys

module _ {S : Type 0} where
  pub since-none : (old : RecordedSource S) → given_since old old ≡ []
  since-none old = ap (drop (length old.given)) (sym (append-nil old.given)) ∙ behind old.given []

  -- what was given since, where this much more was given
  pub since-more : (old mid new : RecordedSource S) (more : List Order) → mid.given ≡ old.given ++ given_since old mid → new.given ≡ mid.given ++ more
      → given_since old new ≡ given_since old mid ++ more
  since-more old mid new more first then =
      ap (drop (length old.given)) (then ∙ ap (λ l. l ++ more) first ∙ append_assoc old.given (given_since old mid) more)
      ∙ behind old.given (given_since old mid ++ more)

  longer-more : (old mid new : RecordedSource S) (more : List Order) → mid.given ≡ old.given ++ given_since old mid → new.given ≡ mid.given ++ more
      → new.given ≡ old.given ++ given_since old new
  longer-more old mid new more first then =
      then ∙ ap (λ l. l ++ more) first ∙ append_assoc old.given (given_since old mid) more ∙ ap (λ l. old.given ++ l) (sym (since-more old mid new more first then))

module _ {S : Type 0} (gives : S → Option Order → S → Type 0) (takes_back : S → Order → S → Type 0) (actors : ℕ) where
  -- nothing was asked
  pub gave-none : (source : RecordedSource S) → GaveSome gives takes_back actors source source
  gave-none source = record {
    more = sym (ap (λ l. source.given ++ l) (since-none source) ∙ append-nil source.given);
    one_by_one = subst (λ l. Yields (WasAsked gives takes_back actors) source.source l source.source) (sym (since-none source)) refl;
  }

  -- one more order was given
  pub gave-more : (old mid new : RecordedSource S) (order : Order) → GaveSome gives takes_back actors old mid → new.given ≡ mid.given ++ order ∷ []
      → WasAsked gives takes_back actors mid.source (Some order) new.source → GaveSome gives takes_back actors old new
  gave-more old mid new order gave then asked = record {
    more = longer-more old mid new (order ∷ []) gave.more then;
    one_by_one =
        subst (λ l. Yields (WasAsked gives takes_back actors) old.source l new.source) (sym (since-more old mid new (order ∷ []) gave.more then))
        (yields-more (WasAsked gives takes_back actors) old.source mid.source new.source (given_since old mid) order gave.one_by_one asked);
  }

  -- there was no more
  pub gave-all : (old mid new : RecordedSource S) → GaveSome gives takes_back actors old mid → new.given ≡ mid.given ++ []
      → gives mid.source None new.source → GaveAll gives takes_back actors old new
  gave-all old mid new gave then asked = record {
    more = longer-more old mid new [] gave.more then;
    last = mid.source;
    one_by_one =
        subst (λ l. Yields (WasAsked gives takes_back actors) old.source l mid.source)
        (sym (since-more old mid new [] gave.more then ∙ append-nil (given_since old mid))) gave.one_by_one;
    no_more = asked;
  }

  -- then nothing more was given since
  pub since-all : (old mid new : RecordedSource S) → GaveSome gives takes_back actors old mid → new.given ≡ mid.given ++ []
      → given_since old new ≡ given_since old mid
  since-all old mid new gave then = since-more old mid new [] gave.more then ∙ append-nil (given_since old mid)
