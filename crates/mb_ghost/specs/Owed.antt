-- What is due is owed by some seat.
use Rattle.std.specs.Prelude.{◌≡◌, ℕ, List}
use mathlib.Core.Option.{some}
use lib.ListN.{get_elem?}

-- a seat whose view says that it owes it
pub record ObligedParty {V : Type 0} (Pays : V → Type 0) (vs : List V) : Type 0 where
  pub seat : ℕ
  pub view : V
  pub present : get_elem? vs seat ≡ some view
  pub pays : Pays view

abbrev pub Owed : {V : Type 0} → Type 0 → (V → Type 0) → List V → Type 0
Owed Due Pays vs = Due → ObligedParty Pays vs
