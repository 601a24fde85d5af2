-- What holds of each task, or of one of them, holds of all tasks that are done in parallel, or of one; and the first of two errors.
use Rattle.std.proofs.Common.{◌≡◌, suc, List, [], ◌∷◌, length, get_or, map, set, refl, sym, ap, subst, inl, inr, arith}
use Rattle.std.specs.Prelude.{All, Err, IfNone, MatchResult, None, Ok, OnErr, OnOk, Option, Result, Some}
use Rattle.std.specs.Global.{Box}
use Rattle.std.specs.List.{AllZip}
use Rattle.std.proofs.lemmas.List.Elements.{All-cons, All-nil, All-set}
use Rattle.mb_gate.specs.declared.gates.Gates.{Gates}
use Rattle.mb_home.specs.Contents.{Contents}
use Rattle.mb_system.specs.Members.{AreHandlesOf, IsHandleOf, handle_numbers}
use Rattle.mb_system.specs.declared.handle.WorkerHandle.{WorkerHandle}
use Rattle.mb_dispatch.specs.Parallel.{FirstZip}

module _ {T : Type 0} where
  pub all_after : (R : T → T → Type 0) (Q : T → Type 0) → ((x y : T) → R x y → Q y) → (xs ys : List T) → AllZip R xs ys → All Q ys
  all_after R Q f [] [] each = All-nil Q
  all_after R Q f [] (y ∷ ys) each = absurd each
  all_after R Q f (x ∷ xs) [] each = absurd each
  all_after R Q f (x ∷ xs) (y ∷ ys) each = All-cons Q y ys (f x y each.0) (all_after R Q f xs ys each.1)

  pub same_after : {X : Type 0} (R : T → T → Type 0) (of : T → X) → ((x y : T) → R x y → of y ≡ of x) → (xs ys : List T) → AllZip R xs ys
      → map of ys ≡ map of xs
  same_after R of f [] [] each = refl
  same_after R of f [] (y ∷ ys) each = absurd each
  same_after R of f (x ∷ xs) [] each = absurd each
  same_after R of f (x ∷ xs) (y ∷ ys) each = λ i. f x y each.0 i ∷ same_after R of f xs ys each.1 i

  pub as_many_after : (R : T → T → Type 0) (xs ys : List T) → AllZip R xs ys → length ys ≡ length xs
  as_many_after R [] [] each = refl
  as_many_after R [] (y ∷ ys) each = absurd each
  as_many_after R (x ∷ xs) [] each = absurd each
  as_many_after R (x ∷ xs) (y ∷ ys) each = ap suc (as_many_after R xs ys each.1)

  -- one thing after another was done with each
  pub zip_then : (R S Q : T → T → Type 0) → ((x y z : T) → R x y → S y z → Q x z) → (xs ys zs : List T) → AllZip R xs ys → AllZip S ys zs
      → AllZip Q xs zs
  zip_then R S Q f [] [] [] p q = tt
  zip_then R S Q f [] [] (z ∷ zs) p q = absurd q
  zip_then R S Q f [] (y ∷ ys) zs p q = absurd p
  zip_then R S Q f (x ∷ xs) [] zs p q = absurd p
  zip_then R S Q f (x ∷ xs) (y ∷ ys) [] p q = absurd q
  zip_then R S Q f (x ∷ xs) (y ∷ ys) (z ∷ zs) p q = (f x y z p.0 q.0, zip_then R S Q f xs ys zs p.1 q.1)

  -- what was done with each was also this
  pub zip_weaker : (R Q : T → T → Type 0) → ((x y : T) → R x y → Q x y) → (xs ys : List T) → AllZip R xs ys → AllZip Q xs ys
  zip_weaker R Q f [] [] p = tt
  zip_weaker R Q f [] (y ∷ ys) p = absurd p
  zip_weaker R Q f (x ∷ xs) [] p = absurd p
  zip_weaker R Q f (x ∷ xs) (y ∷ ys) p = (f x y p.0, zip_weaker R Q f xs ys p.1)

  -- nothing was, or something with the first
  pub zip_same : (R : T → T → Type 0) → ((x : T) → R x x) → (xs : List T) → AllZip R xs xs
  zip_same R f [] = tt
  zip_same R f (x ∷ xs) = (f x, zip_same R f xs)

  pub zip_first : (R : T → T → Type 0) → ((x : T) → R x x) → (xs : List T) (other new : T) → R (get_or xs 0 other) new → AllZip R xs (set xs 0 new)
  zip_first R f [] other new did = tt
  zip_first R f (x ∷ xs) other new did = (did, zip_same R f xs)

  -- another stands first, of which this is the same
  pub same_first : {X : Type 0} (of : T → X) (xs : List T) (other new : T) → of new ≡ of (get_or xs 0 other) → map of (set xs 0 new) ≡ map of xs
  same_first of [] other new same = refl
  same_first of (x ∷ xs) other new same = λ i. same i ∷ map of xs

  -- the first that failed, after one thing was done with each
  pub first_then : (R D F : T → T → Type 0) → ((x y z : T) → R x y → D y z → D x z) → ((x y z : T) → R x y → F y z → F x z) → (xs ys zs : List T)
      → AllZip R xs ys → FirstZip D F ys zs → FirstZip D F xs zs
  first_then R D F d f [] [] zs p failed = absurd failed
  first_then R D F d f [] (y ∷ ys) zs p failed = absurd p
  first_then R D F d f (x ∷ xs) [] zs p failed = absurd p
  first_then R D F d f (x ∷ xs) (y ∷ ys) [] p failed = absurd failed
  first_then R D F d f (x ∷ xs) (y ∷ ys) (z ∷ zs) p (inl here) = inl (f x y z p.0 here)
  first_then R D F d f (x ∷ xs) (y ∷ ys) (z ∷ zs) p (inr there) = inr (d x y z p.0 there.0, first_then R D F d f xs ys zs p.1 there.1)

-- another handle stands first, with the same number
module _ {A K : Type 0} (gates : Gates (Box Contents)) where
  pub first_changed : (handles : List (WorkerHandle A K)) (other new : WorkerHandle A K) → AreHandlesOf gates handles → IsHandleOf gates new.registrar
      → new.number ≡ (get_or handles 0 other).number → AreHandlesOf gates (set handles 0 new) × (handle_numbers (set handles 0 new) ≡ handle_numbers handles)
  first_changed handles other new all ours same = (
    All-set (λ (e : WorkerHandle A K). IsHandleOf gates e.registrar) handles 0 new ours all,
    same_first (λ (e : WorkerHandle A K). e.number) handles other new same,
  )

-- r is the first fault of a and b
module _ {E : Type 0} where
  pub on_ok : {P : Type 0} (r : Result (Unit {0}) E) → P → OnOk r P
  on_ok (Ok x) p = p
  on_ok (Err e) p = tt

  pub on_err : {P : Type 0} (r : Result (Unit {0}) E) → P → OnErr r P
  on_err (Ok x) p = tt
  on_err (Err e) p = p

  pub on_ok_and : {T : Type 0} (P Q : Type 0) (r : Result T E) → OnOk r P → OnOk r Q → OnOk r (P × Q)
  on_ok_and P Q (Ok x) p q = (p, q)
  on_ok_and P Q (Err e) p q = tt

  pub ok_first : (P : Type 0) (a b r : Result (Unit {0}) E) → MatchResult a (λ _. r ≡ b) (λ _. r ≡ a) → OnOk a P → OnOk r P
  ok_first P (Ok x) b r is p = on_ok r p
  ok_first P (Err e) b r is p = subst (λ (q : Result (Unit {0}) E). OnOk q P) (sym is) tt

  pub ok_rest : (P : Type 0) (a b r : Result (Unit {0}) E) → MatchResult a (λ _. r ≡ b) (λ _. r ≡ a) → OnOk b P → OnOk r P
  ok_rest P (Ok x) b r is p = subst (λ (q : Result (Unit {0}) E). OnOk q P) (sym is) p
  ok_rest P (Err e) b r is p = subst (λ (q : Result (Unit {0}) E). OnOk q P) (sym is) tt

-- it holds, and of an answer of none also this
pub if_none_and : {T : Type 0} (P Q : Type 0) (r : Option T) → P → IfNone r Q → IfNone r (P × Q)
if_none_and P Q None p q = (p, q)
if_none_and P Q (Some x) p q = tt

-- what holds of none holds of these, of which there is none
pub none-there : {T : Type 0} (xs : List T) → length xs ≡ 0 → (P : List T → Type 0) → P [] → P xs
none-there [] none P p = p
none-there (x ∷ xs) none P p = absurd (omega (arith, none))
