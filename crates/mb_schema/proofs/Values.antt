-- The numbers that digits write.
use Rattle.std.proofs.Common.{◌≡◌, ℕ, ◌+◌, ◌-◌, ◌*◌, ◌^◌, ◌≤◌, List, [], ◌∷◌, nat_lt, if◌then◌else◌}
use Rattle.std.proofs.Common.{Some, None, arith, length, refl}
use Rattle.toml.specs.View.{items_view}
use Rattle.toml.specs.declared.value.Value.{Value}
use Rattle.mb_schema.specs.Value.{item_count}
use Rattle.std.proofs.lemmas.Bool.Decides.{nat_tests}
use Rattle.mb_schema.specs.Number.{value_from}

-- digits that follow never make it less
pub value_from-grows : (n : ℕ) (digits : List ℕ) → n ≤ value_from n digits
value_from-grows n [] = omega arith
value_from-grows n (digit ∷ digits) = let more = value_from-grows (n * 10 + (digit - 48)) digits in omega arith

pub too_great : (n all : ℕ) (digits : List ℕ) → 2 ^ 32 ≤ n → value_from n digits ≡ all
    → None ≡ (if nat_lt all (2 ^ 32) then Some all else None)
too_great n all digits great same = let more = value_from-grows n digits in grind (arith, nat_tests)

-- there are as many items as values
pub item_count-view : (values : List Value) → item_count (items_view values) ≡ length values
item_count-view [] = refl
item_count-view (v ∷ values) = let rest = item_count-view values in omega arith
