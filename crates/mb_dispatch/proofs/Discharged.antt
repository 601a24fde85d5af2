-- Who had in its set all to which it owed something, forgot nothing and has an empty set, owes nothing.
use Rattle.std.proofs.Common.{◌≡◌, ◌⊎◌, inl, inr, ◌<◌, false, ℕ, List, [], ◌∷◌, ◌∙◌, map}
use Rattle.std.specs.Prelude.{All, Err, Ok, OnOk, Result}
use Rattle.std.specs.List.{AllZip}
use Rattle.std.proofs.lemmas.List.Elements.{All-cons, All-head, All-nil, All-tail}
use Rattle.mb_core.specs.Actor.{nothing}
use Rattle.mb_gate.specs.View.{obligation_to}
use Rattle.mb_register.specs.ActorSet.{has_actor}
use Rattle.mb_register.specs.Caller.{Caller, IsDischargedOrOwed}
use Rattle.mb_system.specs.Obligations.{AreDischargedOrOwed, HasNoObligationTo, KeepsObligations}

pub none-owed : {H : Type 0} (actors : ℕ) (old new : Caller H) → KeepsObligations actors old new → AreDischargedOrOwed actors old
    → ((id : ℕ) → id < actors → has_actor new.account.owed id ≡ false) → HasNoObligationTo actors new
none-owed {H} actors old new keeps before none id less = by_now (keeps id less)
  where
    not_in_set : (caller : Caller H) → has_actor caller.account.owed id ≡ false → IsDischargedOrOwed id caller → obligation_to id caller.view ≡ nothing
    not_in_set caller out (inl discharged) = discharged
    not_in_set caller out (inr there) = absurd (cc (out, there))

    by_now : IsDischargedOrOwed id new ⊎ ((has_actor old.account.owed id ≡ false) × (obligation_to id new.view ≡ obligation_to id old.view))
        → obligation_to id new.view ≡ nothing
    by_now (inl discharged) = not_in_set new (none id less) discharged
    by_now (inr (out, same)) = same ∙ not_in_set old out (before id less)

-- of each, by what was done with it, what held of it before and what holds of it now
pub all-by : {T : Type 0} (R : T → T → Type 0) (P N Q : T → Type 0) → ((x y : T) → R x y → P x → N y → Q y) → (xs ys : List T) → AllZip R xs ys
    → All P xs → All N ys → All Q ys
all-by R P N Q f [] [] zip p n = All-nil Q
all-by R P N Q f [] (y ∷ ys) zip p n = absurd zip
all-by R P N Q f (x ∷ xs) [] zip p n = absurd zip
all-by R P N Q f (x ∷ xs) (y ∷ ys) zip p n =
    All-cons Q y ys (f x y zip.0 (All-head P x xs p) (All-head N y ys n)) (all-by R P N Q f xs ys zip.1 (All-tail P x xs p) (All-tail N y ys n))

-- where only what was done says what holds now
pub all-done : {T : Type 0} (R : T → T → Type 0) (P Q : T → Type 0) → ((x y : T) → R x y → P x → Q y) → (xs ys : List T) → AllZip R xs ys → All P xs → All Q ys
all-done R P Q f [] [] zip p = All-nil Q
all-done R P Q f [] (y ∷ ys) zip p = absurd zip
all-done R P Q f (x ∷ xs) [] zip p = absurd zip
all-done R P Q f (x ∷ xs) (y ∷ ys) zip p = All-cons Q y ys (f x y zip.0 (All-head P x xs p)) (all-done R P Q f xs ys zip.1 (All-tail P x xs p))

-- of what was answered well, both
pub both-ok : {T E A B C : Type 0} (r : Result T E) → (A → B → C) → OnOk r A → OnOk r B → OnOk r C
both-ok (Ok x) f a b = f a b
both-ok (Err e) f a b = tt

-- the same of what each has
pub all-done-of : {T U : Type 0} (f : T → U) (R : T → T → Type 0) (P Q : U → Type 0) → ((x y : T) → R x y → P (f x) → Q (f y)) → (xs ys : List T)
    → AllZip R xs ys → All P (map f xs) → All Q (map f ys)
all-done-of f R P Q go [] [] zip p = All-nil Q
all-done-of f R P Q go [] (y ∷ ys) zip p = absurd zip
all-done-of f R P Q go (x ∷ xs) [] zip p = absurd zip
all-done-of f R P Q go (x ∷ xs) (y ∷ ys) zip p =
    All-cons Q (f y) (map f ys) (go x y zip.0 (All-head P (f x) (map f xs) p)) (all-done-of f R P Q go xs ys zip.1 (All-tail P (f x) (map f xs) p))
