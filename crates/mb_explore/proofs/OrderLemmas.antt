-- Orders of steps that go on.
use Rattle.std.proofs.Common.{Some, slice_get, ◌≡◌, List, [], ◌∷◌, ◌++◌, ℕ, ◌<◌, zero, suc, ◌+◌, length, map, get_or, take, refl, sym, ap, subst, ◌∙◌, arith}
use Rattle.std.specs.List.{Contains}
use Rattle.std.proofs.lemmas.List.{take_more}
use Rattle.std.proofs.lemmas.Option.{slice_get-get_or}
use Rattle.mb_world.specs.Choices.{IsPossible}
use Rattle.mb_world.specs.World.{Steps, WorldView}
use Rattle.mb_world.specs.declared.choice.Choice.{Choice}
use Rattle.mb_explore.specs.Orders.{LeadsTo}

-- one step more
pub leads-more : (first last next : WorldView) (order : List Choice) (choice : Choice) → LeadsTo first order last → IsPossible last choice →
    Steps last choice next → LeadsTo first (order ++ choice ∷ []) next
leads-more first last next [] choice leads possible steps =
    (next, subst (λ (w : WorldView). IsPossible w choice) leads possible, subst (λ (w : WorldView). Steps w choice next) leads steps, refl)
leads-more first last next (made ∷ order) choice leads possible steps =
    (leads.0, leads.1, leads.2, leads-more leads.0 last next order choice leads.3 possible steps)

-- the step at this place of a list
pub leads-along : (first last next : WorldView) (order : List Choice) (place : ℕ) → place < length order → (choice : Choice) →
    choice ≡ get_or order place choice → LeadsTo first (take place order) last → IsPossible last choice → Steps last choice next →
    LeadsTo first (take (place + 1) order) next
leads-along first last next order place within choice at leads possible steps =
    subst (λ (l : List Choice). LeadsTo first l next)
    (ap (λ (c : Choice). take place order ++ c ∷ []) at ∙ sym (take_more order place choice within))
    (leads-more first last next (take place order) choice leads possible steps)

-- a step of an order that is not listed is not possible, where all that are possible are listed
pub stops-at : (last : WorldView) (order choices listed : List Choice) (place : ℕ) (d : Choice) → place < length order → listed ≡ choices →
    ((c : Choice) → IsPossible last c → Contains choices c) → (Contains listed (get_or order place d) → ⊥) →
    (next : Choice) × (slice_get order place ≡ Some next) × (IsPossible last next → ⊥)
stops-at last order choices listed place d within is each none = (
  get_or order place d,
  slice_get-get_or order place d within,
  λ possible. none (subst (λ l. Contains l (get_or order place d)) (sym is) (each (get_or order
      place d) possible)),
)

contains-map-at : {X Y : Type 0} (f : X → Y) (xs : List X) (k : ℕ) (x : X) → k < length xs → get_or xs k x ≡ x → Contains (map f xs) (f x)
contains-map-at f [] k x lt is = absurd (omega arith)
contains-map-at f (y ∷ xs) zero x lt is = (0, omega arith, ap f is)
contains-map-at f (y ∷ xs) (suc k) x lt is =
    let later = contains-map-at f xs k x (omega arith) is in let within = later.1 in (suc later.0, omega arith, later.2)

-- what is made of an element is among what is made of all
pub contains-map : {X Y : Type 0} (f : X → Y) (xs : List X) (x : X) → Contains xs x → Contains (map f xs) (f x)
contains-map f xs x there = contains-map-at f xs there.0 x there.1 there.2
