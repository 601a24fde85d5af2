-- What a call with the first item of a slice and the others asks, and what it came to.
use Rattle.std.specs.Prelude.{◌≡◌, Bool, List, ◌∷◌}
use Rattle.std.specs.Borrow.{MutBor}
use Rattle.std.specs.Fn.{Called, Mut}

module _ {F T : Type 0} (calls : Mut F (MutBor T × (MutBor (List T) × Unit {0})) (Bool × (MutBor T × (MutBor (List T) × Unit {0})))) where
  -- The call may be made with the first of these items and the others.
  abbrev pub MayCall : F → List T → Type 0
  MayCall call items =
      (first : MutBor T) (others : MutBor (List T)) → items ≡ (first.now ∷ others.now) → calls.pre call (first, (others, tt))

  -- The call leaves all items as they were.
  abbrev pub LeavesBoth : F → Type 0
  LeavesBoth call = (first left : MutBor T) (others rest : MutBor (List T)) (answer : Bool) (after : F)
      → Called calls call (first, (others, tt)) (answer, (left, (rest, tt))) after → (left.now ≡ first.now) × (rest.now ≡ others.now)

  -- The call was made with the first of these items and the others, and gave this answer.
  pub record WasCalled (call : F) (items : List T) (answer : Bool) (after : F) : Type 0 where
    pub first : MutBor T
    pub left : MutBor T
    pub others : MutBor (List T)
    pub rest : MutBor (List T)
    pub are : items ≡ (first.now ∷ others.now)
    pub called : Called calls call (first, (others, tt)) (answer, (left, (rest, tt))) after
