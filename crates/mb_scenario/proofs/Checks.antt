-- What is so of a table in which no check finds anything.
use Rattle.std.proofs.Common.{◌≡◌, ℕ, ◌+◌, ◌<◌, ◌≤◌, ◌^◌, ℤ, pos, negsuc, Bool, true, false, not, cond, List, [], ◌∷◌, ◌++◌}
use Rattle.std.proofs.Common.{refl, sym, ap, subst, arith, codes, Option, Some, None}
use Rattle.std.specs.Prelude.{option_map, nat_le, nat_lt, ◌&&◌}
use Rattle.std.specs.Str.{bytes_eq}
use Rattle.std.proofs.lemmas.Bool.Decides.{nat_tests}
use Rattle.std.proofs.lemmas.Option.{none-some}
use Rattle.toml.specs.Data.{Data, Items, no_items, item, Members, get_member, as_integer}
use Rattle.mb_schema.specs.Check.{at, each_from, entry_check, key_check, ops_check}
use Rattle.mb_schema.specs.Context.{ContextData}
use Rattle.mb_schema.specs.Format.{KeyData, optional, required}
use Rattle.mb_schema.specs.Location.{FindingData, entry_text, first, when}
use Rattle.mb_schema.specs.Value.{has_type, is_few, is_fresh, is_from_to, is_in_range, is_known, key_reason, mailbox_word, may_stand, value_reason}
use Rattle.mb_schema.specs.declared.finding.Reason.TheVariants.{Missing, WrongType, NotAllowed, OutOfRange, TooMany, UnknownName, RepeatedName}
use Rattle.mb_schema.specs.declared.form.Form.TheVariants.{Whole}
use Rattle.mb_schema.specs.declared.form.Only.TheVariants.{Always, Bounded}
use Rattle.mb_scenario.specs.Fields.{number_of_integer, number_or, short, small}

module _ {A : Type 0} where
  -- where the first of the checks finds nothing, each does
  pub first-none : (c : Option A) (checks : List (Option A)) → first (c ∷ checks) ≡ None → (c ≡ None) × (first checks ≡ None)
  first-none None checks none = (refl, none)
  first-none (Some fault) checks none = absurd (none-some fault (sym none))

  pub when-none : (b : Bool) (x : A) → when b x ≡ None → b ≡ false
  when-none true x none = absurd (none-some x (sym none))
  when-none false x none = refl

  -- the check of each item, by how many come before it, finds nothing
  abbrev pub Checked : (ℕ → Data → Option A) → ℕ → Items → Type 0
  Checked check earlier no_items = Unit {0}
  Checked check earlier (item d ds) = (check earlier d ≡ None) × Checked check (earlier + 1) ds

  pub each-none : (check : ℕ → Data → Option A) (earlier : ℕ) (items : Items) → first (each_from earlier check items) ≡ None
      → Checked check earlier items
  each-none check earlier no_items none = tt
  each-none check earlier (item d ds) none =
      let both = first-none (check earlier d) (each_from (earlier + 1) check ds) none in (both.0, each-none check (earlier + 1) ds both.1)

pub mapped-none : {A B : Type 0} (f : A → B) (o : Option A) → option_map f o ≡ None → o ≡ None
mapped-none f None none = refl
mapped-none f (Some x) none = absurd (none-some (f x) (sym none))

holds : (b : Bool) → not b ≡ false → b ≡ true
holds true is = refl
holds false is = sym is

-- an entry is a table, in which nothing is found
pub entry-none : (check : List ℕ → Members → Option FindingData) (before : List ℕ) (earlier : ℕ) (o : Option Members)
    → entry_check check before earlier o ≡ None → (ms : Members) × (o ≡ Some ms) × (check (entry_text before (earlier + 1) ++ codes " ") ms ≡ None)
entry-none check before earlier None none = absurd (none-some (at (entry_text before (earlier + 1)) WrongType) (sym none))
entry-none check before earlier (Some ms) none = (ms, refl, none)

-- nothing is wrong with a value
pub record IsFit (a : ContextData) (ms : Members) (key : KeyData) (d : Data) : Type 0 where
  pub stands : may_stand key.only ms ≡ true
  pub in_range : is_in_range key.form ms d ≡ true
  pub within_limit : is_few key.form d ≡ true
  pub known : is_known key.form a d ≡ true

pub fit : (a : ContextData) (ms : Members) (key : KeyData) (d : Data) → value_reason a ms key d ≡ None → IsFit a ms key d
fit a ms key d none =
    let c6 = when (not (is_fresh key.form a d)) RepeatedName ∷ [] in
    let c5 = when (not (is_known key.form a d)) UnknownName ∷ c6 in
    let c4 = when (not (is_few key.form d)) TooMany ∷ c5 in
    let c3 = when (not (is_in_range key.form ms d)) OutOfRange ∷ c4 in
    let c2 = when (not (may_stand key.only ms)) NotAllowed ∷ c3 in
    let p1 = first-none (when (not (has_type key.form d)) WrongType) c2 none in
    let p2 = first-none (when (not (may_stand key.only ms)) NotAllowed) c3 p1.1 in
    let p3 = first-none (when (not (is_in_range key.form ms d)) OutOfRange) c4 p2.1 in
    let p4 = first-none (when (not (is_few key.form d)) TooMany) c5 p3.1 in
    let p5 = first-none (when (not (is_known key.form a d)) UnknownName) c6 p4.1 in
    record {
      stands = holds (may_stand key.only ms) (when-none (not (may_stand key.only ms)) NotAllowed p2.0);
      in_range = holds (is_in_range key.form ms d) (when-none (not (is_in_range key.form ms d)) OutOfRange p3.0);
      within_limit = holds (is_few key.form d) (when-none (not (is_few key.form d)) TooMany p4.0);
      known = holds (is_known key.form a d) (when-none (not (is_known key.form a d)) UnknownName p5.0);
    }

-- nothing is wrong with a key
pub key-none : (prefix : List ℕ) (a : ContextData) (ms : Members) (key : KeyData) → key_check prefix a ms key ≡ None
    → key_reason a ms key (get_member key.name ms) ≡ None
key-none prefix a ms key none =
    let reason = key_reason a ms key (get_member key.name ms) in
    mapped-none (at (prefix ++ key.name)) reason
    (first-none (option_map (at (prefix ++ key.name)) reason) (ops_check a (prefix ++ key.name) key.form (get_member key.name ms) ∷ []) none).0

-- ---- numbers

pub small-is : (n : ℕ) → n < 2 ^ 32 → small n ≡ n
small-is n lt = let e : nat_lt n (2 ^ 32) ≡ true = grind (arith, nat_tests) in ap (λ b. cond b n 0) e

pub short-le : (n : ℕ) → short n ≤ n
short-le n = by_test (nat_lt n (2 ^ 16))
  where
    by_test : (b : Bool) → cond b n 0 ≤ n
    by_test true = omega arith
    by_test false = omega arith

pub short-is : (n : ℕ) → n < 2 ^ 16 → short n ≡ n
short-is n lt = let e : nat_lt n (2 ^ 16) ≡ true = grind (arith, nat_tests) in ap (λ b. cond b n 0) e

both : (a b : Bool) → (a && b) ≡ true → (a ≡ true) × (b ≡ true)
both true b is = (refl, is)
both false b is = absurd (cc)

pub at-most : (a b : ℕ) → nat_le a b ≡ true → a ≤ b
at-most a b is = grind (arith, nat_tests)

number-in : (low high : ℕ) (i : Option ℤ) → is_from_to low high i ≡ true → high < 2 ^ 32
    → (low ≤ number_of_integer i) × (number_of_integer i ≤ high)
number-in low high None is few = absurd (cc)
number-in low high (Some (pos n)) is few =
    let ends = both (nat_le low n) (nat_le n high) is in
    let least = at-most low n ends.0 in
    let most = at-most n high ends.1 in
    let same = small-is n (omega (arith, most, few)) in (omega (arith, least, same), omega (arith, most, same))
number-in low high (Some (negsuc n)) is few = absurd (cc)

-- a number that may be absent is within its bounds, if what stands for it is
pub number-within : (a : ContextData) (ms : Members) (name : List ℕ) (low high default : ℕ) → low ≤ default → default ≤ high → high < 2 ^ 32
    → (o : Option Data) → key_reason a ms (optional name Always (Whole low high)) o ≡ None → (low ≤ number_or default o) × (number_or default o ≤ high)
number-within a ms name low high default least most few None none = (least, most)
number-within a ms name low high default least most few (Some d) none =
    number-in low high (as_integer d) (fit a ms (optional name Always (Whole low high)) d none).in_range few

-- a bound is there where the mailbox has one, and within its bounds
pub bound-within : (a : ContextData) (ms : Members) (o : Option Data) → key_reason a ms (required (codes "capacity") Bounded (Whole 1 65536)) o ≡ None
    → bytes_eq (mailbox_word ms) (codes "bounded") ≡ true → (1 ≤ number_or 0 o) × (number_or 0 o ≤ 65536)
bound-within a ms None none is = absurd (none-some Missing (sym (subst (λ b. when b Missing ≡ None) is none)))
bound-within a ms (Some d) none is =
    number-in 1 65536 (as_integer d) (fit a ms (required (codes "capacity") Bounded (Whole 1 65536)) d none).in_range (omega arith)
