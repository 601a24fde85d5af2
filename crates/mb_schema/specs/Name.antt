-- Names (this project's own profile).
use Rattle.std.specs.Prelude.{ℕ, List, [], ◌∷◌, length, codes, Bool, false, not, ◌&&◌, ◌||◌, ◌==◌, nat_le}
use Rattle.std.specs.List.{list_all}
use Rattle.std.specs.Str.{bytes_eq}

-- a byte from a to z
abbrev pub is_letter : ℕ → Bool
is_letter b = nat_le 97 b && nat_le b 122

-- a byte from 0 to 9
abbrev pub is_digit : ℕ → Bool
is_digit b = nat_le 48 b && nat_le b 57

-- a byte from a to z or from 0 to 9, or an underscore
abbrev pub is_name_byte : ℕ → Bool
is_name_byte b = (is_letter b || is_digit b) || b == 95

-- the word guardian
abbrev pub is_guardian : List ℕ → Bool
is_guardian text = bytes_eq text (codes "guardian")

-- a name: 1 to 32 such bytes, the first a letter, and not the word guardian
abbrev pub is_name : List ℕ → Bool
is_name [] = false
is_name (first ∷ rest) = ((is_letter first && list_all is_name_byte rest) && nat_le (length rest) 31) && not (is_guardian (first ∷ rest))
