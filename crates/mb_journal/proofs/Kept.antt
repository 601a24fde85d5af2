-- Lists that are kept by joining and leaving have whom the newest says.
use Rattle.std.proofs.Common.{◌≡◌, ℕ, ◌+◌, Bool, true, false, cond, not, ◌||◌, if◌then◌else◌, List, []}
use Rattle.std.proofs.Common.{◌∷◌, ◌++◌, refl, sym, ap, ◌∙◌, arith}
use Rattle.std.specs.Prelude.{nat_lt}
use Rattle.std.proofs.lemmas.List.Sums.{sum_by-cons, sum_by-append}
use Rattle.std.proofs.lemmas.Bool.{eqb-true}
use Rattle.std.proofs.lemmas.Bool.Decides.{nat_tests}
use Rattle.mb_msg.specs.declared.id.ActorId.{ActorId}
use Rattle.mb_actor.specs.ActorList.{is_same, has}
use Rattle.mb_journal.specs.ActorList.{without, joined}
use Rattle.mb_journal.specs.Newest.{Membership, joins, said_if, or_older, newest, times_in, once_if}
use Rattle.mb_journal.proofs.TestLemmas.{if_same}
use Rattle.mb_journal.specs.Newest.Membership.{Joins, Leaves, Unchanged}

-- what happens to a list: an actor joins or leaves it, all leave, or nothing
pub data Change : Type 0 where
  Join : ActorId → Change
  Leave : ActorId → Change
  Clear : Change
  Keep : Change

abbrev pub changed : Change → List ActorId → List ActorId
changed (Join w) list = joined list w
changed (Leave w) list = without list w
changed Clear list = []
changed Keep list = list

-- what the change says of an actor
abbrev pub change_says : ActorId → Change → Membership
change_says x (Join w) = said_if (is_same x w) Joins
change_says x (Leave w) = said_if (is_same x w) Leaves
change_says x Clear = Leaves
change_says x Keep = Unchanged

-- ---- actors by their numbers

pub same-is : (a b : ActorId) → is_same a b ≡ true → a ≡ b
same-is a b same = let e : a.0 ≡ b.0 = eqb-true a.0 b.0 same in λ i. record { 0 = e i }

pub self-same : (a : ActorId) → is_same a a ≡ true
self-same a = grind (arith, nat_tests)

-- the list has whom it has once or more
pub times-has : (x : ActorId) (list : List ActorId) → has list x ≡ nat_lt 0 (times_in list x)
times-has x [] = refl
times-has x (y ∷ list) =
    step (is_same x y) (has list x) (times_in list x) (times-has x list)
    ∙ ap (λ n. nat_lt 0 n) (sym (sum_by-cons (λ z. cond (is_same x z) 1 0) y list))
  where
    step : (b h : Bool) (n : ℕ) → h ≡ nat_lt 0 n → (b || h) ≡ nat_lt 0 (cond b 1 0 + n)
    step true h n is = grind (arith, nat_tests)
    step false h n is = is ∙ ap (λ k. nat_lt 0 k) (omega arith)

pub has-once : (x : ActorId) (list : List ActorId) (b : Bool) → times_in list x ≡ once_if b → has list x ≡ b
has-once x list b is = times-has x list ∙ ap (λ n. nat_lt 0 n) is ∙ test b
  where
    test : (b : Bool) → nat_lt 0 (once_if b) ≡ b
    test true = refl
    test false = refl

times-more : (x : ActorId) (list : List ActorId) (w : ActorId) → times_in (list ++ w ∷ []) x ≡ times_in list x + cond (is_same x w) 1 0
times-more x list w =
    let test : ActorId → ℕ = λ z. cond (is_same x z) 1 0 in
    let a = sum_by-append test list (w ∷ []) in
    let b = sum_by-cons test w [] in
    omega (arith, a, b)

times-without : (x : ActorId) (list : List ActorId) (w : ActorId) → times_in (without list w) x ≡ (if is_same x w then 0 else times_in list x)
times-without x [] w = sym (if_same (is_same x w) 0)
times-without x (y ∷ list) w =
    step (is_same w y) refl (times-without x list w) ∙ ap (λ n. if is_same x w then 0 else n) (sym (sum_by-cons (λ z. cond (is_same x z) 1 0) y list))
  where
    same : (s p : Bool) (r t : ℕ) → p ≡ s → r ≡ (if s then 0 else t) → r ≡ (if s then 0 else cond p 1 0 + t)
    same true p r t is e = e
    same false p r t is e = let none : t ≡ 0 + t = omega arith in e ∙ none ∙ ap (λ b. cond b 1 0 + t) (sym is)

    other : (s p : Bool) (r t : ℕ) → (s ≡ true → p ≡ false) → r ≡ (if s then 0 else t) → cond p 1 0 + r ≡ (if s then 0 else cond p 1 0 + t)
    other true p r t apart e = let none : 0 + r ≡ r = omega arith in ap (λ b. cond b 1 0 + r) (apart refl) ∙ none ∙ e
    other false p r t apart e = ap (λ n. cond p 1 0 + n) e

    step : (b : Bool) → is_same w y ≡ b → times_in (without list w) x ≡ (if is_same x w then 0 else times_in list x) →
        times_in (cond (not b) (y ∷ without list w) (without list w)) x
        ≡ (if is_same x w then 0 else cond (is_same x y) 1 0 + times_in list x)
    step true is rest = same (is_same x w) (is_same x y) _ _ (ap (λ z. is_same x z) (sym (same-is w y is))) rest
    step false is rest =
        sum_by-cons (λ z. cond (is_same x z) 1 0) y (without list w)
        ∙ other (is_same x w) (is_same x y) _ _ (λ x_is. ap (λ z. is_same z y) (same-is x w x_is) ∙ is) rest

-- ---- a change

abbrev pub Stands : List ActorId → (ActorId → Membership) → Type 0
Stands list m = (x : ActorId) → times_in list x ≡ once_if (joins (m x))

joined-stands : (w : ActorId) (list : List ActorId) (m : ActorId → Membership) → Stands list m → (x : ActorId) → (h s : Bool) →
    has list w ≡ h → is_same x w ≡ s →
    times_in (if h then list else list ++ w ∷ []) x ≡ once_if (joins (or_older (said_if s Joins) (m x)))
joined-stands w list m stands x true true is same =
    let here : joins (m w) ≡ true = sym (has-once w list (joins (m w)) (stands w)) ∙ is in
    stands x ∙ ap (λ z. once_if (joins (m z))) (same-is x w same) ∙ ap once_if here
joined-stands w list m stands x true false is same = stands x
joined-stands w list m stands x false true is same =
    let away : joins (m w) ≡ false = sym (has-once w list (joins (m w)) (stands w)) ∙ is in
    let none : times_in list x ≡ 0 = stands x ∙ ap (λ z. once_if (joins (m z))) (same-is x w same) ∙ ap once_if away in
    times-more x list w ∙ (λ i. none i + cond (same i) 1 0)
joined-stands w list m stands x false false is same =
    let none : times_in list x + 0 ≡ times_in list x = omega arith in
    times-more x list w ∙ ap (λ b. times_in list x + cond b 1 0) same ∙ none ∙ stands x

left-stands : (s : Bool) (m : Membership) → (if s then 0 else once_if (joins m)) ≡ once_if (joins (or_older (said_if s Leaves) m))
left-stands true m = refl
left-stands false m = refl

changed-stands : (c : Change) (list : List ActorId) (m : ActorId → Membership) → Stands list m → (x : ActorId) →
    times_in (changed c list) x ≡ once_if (joins (or_older (change_says x c) (m x)))
changed-stands (Join w) list m stands x = joined-stands w list m stands x (has list w) (is_same x w) refl refl
changed-stands (Leave w) list m stands x =
    times-without x list w ∙ ap (λ n. if is_same x w then 0 else n) (stands x) ∙ left-stands (is_same x w) (m x)
changed-stands Clear list m stands x = refl
changed-stands Keep list m stands x = stands x

-- ---- a list that is kept by changes, the newest first

abbrev pub kept : {A : Type 0} → (A → Change) → List A → List ActorId
kept change [] = []
kept change (a ∷ older) = changed (change a) (kept change older)

pub kept-stands : {A : Type 0} (change : A → Change) (list : List A) (x : ActorId) →
    times_in (kept change list) x ≡ once_if (joins (newest (λ a. change_says x (change a)) list))
kept-stands change [] x = refl
kept-stands change (a ∷ older) x =
    changed-stands (change a) (kept change older) (λ y. newest (λ b. change_says y (change b)) older) (kept-stands change older) x

-- what says the same gives the same
pub newest-same : {A : Type 0} (f g : A → Membership) → ((a : A) → f a ≡ g a) → (list : List A) → newest f list ≡ newest g list
newest-same f g same list = λ i. newest (λ a. same a i) list

-- what never says that an actor joins
or-never : (m older : Membership) → joins m ≡ false → joins older ≡ false → joins (or_older m older) ≡ false
or-never Joins older a b = a
or-never Leaves older a b = refl
or-never Unchanged older a b = b

pub newest-never : {A : Type 0} (says : A → Membership) → ((a : A) → joins (says a) ≡ false) → (list : List A) → joins (newest says list) ≡ false
newest-never says never [] = refl
newest-never says never (a ∷ older) = or-never (says a) (newest says older) (never a) (newest-never says never older)
