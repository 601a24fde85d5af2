-- Numbers in the text of operations and causes (this project's own profile).
use Rattle.std.specs.Prelude.{ℕ, ◌+◌, ◌-◌, ◌*◌, ◌^◌, ◌==◌, List, [], ◌∷◌, Bool, false, not, ◌&&◌, nat_lt, Option}
use Rattle.std.specs.Prelude.{Some, None, if◌then◌else◌}
use Rattle.std.specs.List.{list_all}
use Rattle.mb_schema.specs.Name.{is_digit}

-- the number of these digits after those of n
abbrev pub value_from : ℕ → List ℕ → ℕ
value_from n [] = n
value_from n (digit ∷ digits) = value_from (n * 10 + (digit - 48)) digits

-- decimal digits without a leading zero
abbrev pub is_decimal : List ℕ → Bool
is_decimal [] = false
is_decimal (digit ∷ []) = is_digit digit
is_decimal (first ∷ second ∷ digits) = list_all is_digit (first ∷ second ∷ digits) && not (first == 48)

-- the number from 0 to 4294967295 that a text is in decimal without leading zeros
abbrev pub number_of : List ℕ → Option ℕ
number_of text = if is_decimal text && nat_lt (value_from 0 text) (2 ^ 32) then Some (value_from 0 text) else None
