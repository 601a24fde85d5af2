-- What was seen is part of what is known once all that was seen is taken over.
use Rattle.std.proofs.Common.{◌≡◌, List, [], ◌∷◌, ◌++◌, append-nil, refl, sym, ap, subst}
use Rattle.std.specs.Prelude.{All}
use Rattle.std.proofs.lemmas.List.Elements.{All-push, All-weaker}
use Rattle.mb_gate.specs.Rule.{IsPart}
use Rattle.mb_gate.specs.View.{Observation}
use Rattle.mb_ghost.specs.Seen.{Each}
pub use Rattle.mb_system.proofs.Saw.{saw-same as part-same, saw-then as part-trans}

module _ {A : Type 0} where
  pub part-front : (xs ys : List A) → IsPart xs (xs ++ ys)
  part-front xs ys = record { before = []; after = ys; joined = refl }

  pub part-back : (xs ys : List A) → IsPart ys (xs ++ ys)
  part-back xs ys = record { before = xs; after = []; joined = ap (λ l. xs ++ l) (sym (append-nil ys)) }

  each-back : (P : A → Type 0) (xs ys : List A) → Each P (xs ++ ys) → Each P ys
  each-back P [] ys all = all
  each-back P (x ∷ xs) ys all = each-back P xs ys all.1

  each-front : (P : A → Type 0) (xs ys : List A) → Each P (xs ++ ys) → Each P xs
  each-front P [] ys all = tt
  each-front P (x ∷ xs) ys all = (all.0, each-front P xs ys all.1)

  pub each-part : (P : A → Type 0) (xs ys : List A) → IsPart xs ys → Each P ys → Each P xs
  each-part P xs ys part all = each-front P xs part.after (each-back P part.before (xs ++ part.after) (subst (Each P) part.joined all))

-- what these have seen is a part of this
module _ {X : Type 0} (log : X → List Observation) where
  abbrev pub AllSeen : List X → List Observation → Type 0
  AllSeen xs all = All (λ (x : X). IsPart (log x) all) xs

  pub seen-by : (xs : List X) (old new : List Observation) → IsPart old new → AllSeen xs old → AllSeen xs new
  seen-by xs old new part all = All-weaker (λ x. IsPart (log x) old) (λ x. IsPart (log x) new) (λ x p. part-trans (log x) old new p part) xs all

  pub seen-more : (xs : List X) (x : X) (old new : List Observation) → new ≡ log x ++ old → AllSeen xs old → AllSeen (xs ++ x ∷ []) new
  seen-more xs x old new is all =
      All-push (λ y. IsPart (log y) new) xs x
      (seen-by xs old new (subst (IsPart old) (sym is) (part-back (log x) old)) all)
      (subst (IsPart (log x)) (sym is) (part-front (log x) old))
