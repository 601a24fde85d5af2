-- The numbers of names among the actors of a document.
use Rattle.std.proofs.Common.{◌≡◌, ℕ, zero, suc, ◌+◌, ◌<◌, ◌≤◌, ◌^◌, Bool, true, false, not, cond, ◌&&◌, ◌||◌, List, [], ◌∷◌}
use Rattle.std.proofs.Common.{length, take, refl, sym, ap, ◌∙◌, subst, arith, codes}
use Rattle.std.specs.Str.{bytes_eq}
use Rattle.std.specs.Prelude.{nat_le}
use Rattle.std.specs.List.{list_all}
use Rattle.std.specs.Bool.{Decides}
use Rattle.std.proofs.lemmas.Slice.Eq.{bytes_eq-Decides}
use Rattle.mb_schema.specs.Context.{ActorEntryData, knows}
use Rattle.mb_schema.specs.Name.{is_guardian, is_letter, is_name, is_name_byte}
use Rattle.mb_scenario.specs.Fields.{number_from, short}
use Rattle.mb_scenario.proofs.Checks.{short-is, short-le}

-- a number is at most the place of the last actor
pub number-below : (n : ℕ) (actor_entries : List ActorEntryData) (name : List ℕ) → 0 < n → number_from n actor_entries name < n + length actor_entries
number-below n [] name some = omega (arith, some)
number-below n (k ∷ actor_entries) name some = by_test (bytes_eq k.name name) (number-below (n + 1) actor_entries name (omega arith))
  where
    by_test : (b : Bool) → number_from (n + 1) actor_entries name < n + 1 + length actor_entries
        → cond b (short n) (number_from (n + 1) actor_entries name) < n + length (k ∷ actor_entries)
    by_test true later = let le = short-le n in omega (arith, le)
    by_test false later = omega (arith, later)

-- that of one of the first actors is one of the first
pub number-earlier : (i n : ℕ) (actor_entries : List ActorEntryData) (name : List ℕ) → knows (take i actor_entries) name ≡ true → number_from n actor_entries name < n + i
number-earlier zero n actor_entries name known = absurd (cc)
number-earlier (suc i) n [] name known = absurd (cc)
number-earlier (suc i) n (k ∷ actor_entries) name known = by_test (bytes_eq k.name name) refl (λ known. number-earlier i (n + 1) actor_entries name known)
  where
    by_test : (b : Bool) → bytes_eq k.name name ≡ b → (knows (take i actor_entries) name ≡ true → number_from (n + 1) actor_entries name < n + 1 + i)
        → cond b (short n) (number_from (n + 1) actor_entries name) < n + suc i
    by_test true is later = let le = short-le n in omega (arith, le)
    by_test false is later = let lt = later (ap (λ b. b || knows (take i actor_entries) name) (sym is) ∙ known) in omega (arith, lt)

-- that of an actor is not the guardian's
pub number-known : (n : ℕ) (actor_entries : List ActorEntryData) (name : List ℕ) → 0 < n → n + length actor_entries < 2 ^ 16 → knows actor_entries name ≡ true
    → 0 < number_from n actor_entries name
number-known n [] name some few known = absurd (cc)
number-known n (k ∷ actor_entries) name some few known =
    by_test (bytes_eq k.name name) refl (λ known. number-known (n + 1) actor_entries name (omega arith) (omega (arith, few)) known)
  where
    by_test : (b : Bool) → bytes_eq k.name name ≡ b → (knows actor_entries name ≡ true → 0 < number_from (n + 1) actor_entries name)
        → 0 < cond b (short n) (number_from (n + 1) actor_entries name)
    by_test true is later = let same = short-is n (omega (arith, few)) in omega (arith, same, some)
    by_test false is later = later (ap (λ b. b || knows actor_entries name) (sym is) ∙ known)

-- each has a name
abbrev pub Named : List ActorEntryData → Type 0
Named [] = Unit {0}
Named (k ∷ actor_entries) = (is_name k.name ≡ true) × Named actor_entries

second : (a b : Bool) → (a && b) ≡ true → b ≡ true
second true b is = is
second false b is = absurd (cc)

denied : (b : Bool) → not b ≡ true → b ≡ false
denied true is = sym is
denied false is = refl

-- the guardian has none
pub no-guardian : (name : List ℕ) → is_name name ≡ true → is_guardian name ≡ false
no-guardian [] is = absurd (cc)
no-guardian (b ∷ bytes) is =
    denied (is_guardian (b ∷ bytes))
    (second ((is_letter b && list_all is_name_byte bytes) && nat_le (length bytes) 31) (not (is_guardian (b ∷ bytes))) is)

pub same-bytes : (xs ys : List ℕ) → bytes_eq xs ys ≡ true → xs ≡ ys
same-bytes xs ys is = (bytes_eq-Decides xs ys).0 is

pub number-guardian : (n : ℕ) (actor_entries : List ActorEntryData) (name : List ℕ) → Named actor_entries → is_guardian name ≡ true → number_from n actor_entries name ≡ 0
number-guardian n [] name named is = refl
number-guardian n (k ∷ actor_entries) name named is =
    let other : bytes_eq k.name name ≡ false = ap (bytes_eq k.name) (same-bytes name (codes "guardian") is) ∙ no-guardian k.name named.0 in
    ap (λ b. cond b (short n) (number_from (n + 1) actor_entries name)) other ∙ number-guardian (n + 1) actor_entries name named.1 is

-- the guardian's and an earlier actor's are below an actor's own
pub number-of-parent : (i : ℕ) (actor_entries : List ActorEntryData) (name : List ℕ) → Named actor_entries → (is_guardian name || knows (take i actor_entries) name) ≡ true
    → number_from 1 actor_entries name < 1 + i
number-of-parent i actor_entries name named may = by_test (is_guardian name) refl
  where
    by_test : (b : Bool) → is_guardian name ≡ b → number_from 1 actor_entries name < 1 + i
    by_test true is = let zero_is = number-guardian 1 actor_entries name named is in omega (arith, zero_is)
    by_test false is = number-earlier i 1 actor_entries name (ap (λ b. b || knows (take i actor_entries) name) (sym is) ∙ may)
