-- What each sender is to send, of orders that stand in one row.
use Rattle.std.proofs.Common.{◌≡◌, ℕ, zero, suc, ◌+◌, ◌<◌, ◌≤◌, ◌==◌, Bool, true, false, cond, List, [], ◌∷◌, ◌++◌, length, map, refl, sym, ap, ◌∙◌}
use Rattle.std.proofs.Common.{◌⊎◌, inl, inr, arith, eq-eqb, get_or, Some, take, zero-add}
use Rattle.std.specs.Prelude.{◌≢◌, ◌||◌, All, nat_le, slice_get}
use Rattle.std.specs.List.{list_any}
use Rattle.std.proofs.lemmas.Bool.{cases_eq, ne_eqb}
use Rattle.std.proofs.lemmas.Bool.Decides.{nat_tests}
use Rattle.std.proofs.lemmas.List.{append-nil, map-append, take_more}
use Rattle.std.proofs.lemmas.List.Elements.{All-cons, All-head, All-nil, All-tail, filter-append}
use Rattle.std.proofs.lemmas.Option.{same_Some}
use Rattle.mb_build.specs.Numbers.{numbers}
use Rattle.mb_msg.specs.declared.order.Order.{Order}
use Rattle.mb_msg.specs.declared.order.SenderOrder.{SenderOrder}
use Rattle.mb_shutdown.proofs.Lists.{from-mapped, length-mapped, mapped, within}
use Rattle.mb_startup.proofs.There.{length-numbers, number-at}
use Rattle.heddleorange.specs.NoReport.{has_nobody, has_one_for_nobody}
use Rattle.heddleorange.specs.Orders.{is_from_nobody, lists_of, orders_of, senders_for, sends_by}
use Rattle.heddleorange.proofs.Recipients.{any-mapped, none-passes}

-- ---- the orders of one sender

-- those of two rows stand one after another
pub orders-append : (from : ℕ) (xs ys : List SenderOrder) → orders_of from (xs ++ ys) ≡ orders_of from xs ++ orders_of from ys
orders-append from xs ys =
    ap (map (λ (s : SenderOrder). s.order)) (filter-append (λ (s : SenderOrder). s.from == from) xs ys)
    ∙ map-append (λ (s : SenderOrder). s.order) (sends_by from xs) (sends_by from ys)

pub orders-next : (from : ℕ) (sends : List SenderOrder) (i : ℕ) (d : SenderOrder) → i < length sends
    → orders_of from (take (i + 1) sends) ≡ orders_of from (take i sends) ++ orders_of from (get_or sends i d ∷ [])
orders-next from sends i d lt = ap (orders_of from) (take_more sends i d lt) ∙ orders-append from (take i sends) (get_or sends i d ∷ [])

one : (from : ℕ) (s : SenderOrder) (own : Bool) → (s.from == from) ≡ own
    → orders_of from (s ∷ []) ≡ map (λ (x : SenderOrder). x.order) (cond own (s ∷ []) [])
one from s own is = ap (λ b. map (λ (x : SenderOrder). x.order) (cond b (s ∷ []) [])) is

-- it is the sender's own, or it is not
pub orders-own : (from : ℕ) (s : SenderOrder) → s.from ≡ from → orders_of from (s ∷ []) ≡ s.order ∷ []
orders-own from s same = one from s true (eq-eqb s.from from same)

pub orders-other : (from : ℕ) (s : SenderOrder) → (s.from ≡ from → ⊥) → orders_of from (s ∷ []) ≡ []
orders-other from s other = one from s false (ne_eqb s.from from other)

-- the sender of the next order is to send that too, and the others what they were to
pub own-next : (from : ℕ) (sends : List SenderOrder) (i : ℕ) (d : SenderOrder) → i < length sends → (get_or sends i d).from ≡ from
    → orders_of from (take i sends) ++ (get_or sends i d).order ∷ [] ≡ orders_of from (take (i + 1) sends)
own-next from sends i d lt same =
    sym (orders-next from sends i d lt ∙ ap (λ l. orders_of from (take i sends) ++ l) (orders-own from (get_or sends i d) same))

pub others-next : (from : ℕ) (sends : List SenderOrder) (i : ℕ) (d : SenderOrder) → i < length sends → ((get_or sends i d).from ≡ from → ⊥)
    → orders_of from (take i sends) ≡ orders_of from (take (i + 1) sends)
others-next from sends i d lt other =
    sym (orders-next from sends i d lt ∙ ap (λ l. orders_of from (take i sends) ++ l) (orders-other from (get_or sends i d) other)
    ∙ append-nil (orders_of from (take i sends)))

-- ---- how many senders there are

pub many-from : (senders : ℕ) (sends : List SenderOrder) → All (λ (s : SenderOrder). s.from < senders) sends → senders_for senders sends ≡ senders
many-from senders [] all = refl
many-from senders (s ∷ sends) all =
    let rest = many-from senders sends (All-tail (λ (x : SenderOrder). x.from < senders) s sends all) in
    let lt = All-head (λ (x : SenderOrder). x.from < senders) s sends all in omega (arith, rest, lt)

pub from-many : (senders : ℕ) (sends : List SenderOrder) → senders_for senders sends ≤ senders → All (λ (s : SenderOrder). s.from < senders) sends
from-many senders [] most = All-nil (λ (s : SenderOrder). s.from < senders)
from-many senders (s ∷ sends) most =
    All-cons (λ (x : SenderOrder). x.from < senders) s sends (omega (arith, most)) (from-many senders sends (omega (arith, most)))

pub length-lists : (senders : ℕ) (sends : List SenderOrder) → length (lists_of senders sends) ≡ senders_for senders sends
length-lists senders sends =
    length-mapped (λ number. orders_of number sends) (numbers 0 (senders_for senders sends)) ∙ length-numbers 0 (senders_for senders sends)

-- none is from a sender that there is not
pub none-from : (senders : ℕ) (sends : List SenderOrder) → list_any (is_from_nobody senders) sends ≡ false
    → All (λ (s : SenderOrder). s.from < senders) sends
none-from senders [] none = All-nil (λ (s : SenderOrder). s.from < senders)
none-from senders (s ∷ sends) none =
    let all = none-passes (is_from_nobody senders) (s ∷ sends) none in
    let first : nat_le senders s.from ≡ false = All-head (λ x. is_from_nobody senders x ≡ false) s sends all in
    All-cons (λ (x : SenderOrder). x.from < senders) s sends (below senders s.from first) (none-from senders sends (rest (nat_le senders s.from) _ none))
  where
    below : (a b : ℕ) → nat_le a b ≡ false → b < a
    below a b less = grind (arith, nat_tests)

    rest : (a b : Bool) → (a || b) ≡ false → b ≡ false
    rest true b is = absurd (cc)
    rest false b is = is

all-from : (senders : ℕ) (sends : List SenderOrder) → All (λ (s : SenderOrder). s.from < senders) sends
    → list_any (is_from_nobody senders) sends ≡ false
all-from senders [] all = refl
all-from senders (s ∷ sends) all =
    let P = λ (x : SenderOrder). x.from < senders in
    λ i. above senders s.from (All-head P s sends all) i || all-from senders sends (All-tail P s sends all) i
  where
    above : (a b : ℕ) → b < a → nat_le a b ≡ false
    above a b lt = grind (arith, nat_tests)

-- one is, and so it takes more senders
pub one-from : (senders : ℕ) (sends : List SenderOrder) → list_any (is_from_nobody senders) sends ≡ true → length (lists_of senders sends) ≢ senders
one-from senders sends some same =
    let many = length-lists senders sends in
    let none = all-from senders sends (from-many senders sends (omega (arith, many, same))) in absurd (cc (some, none))

-- ---- the orders of each

-- the orders at a place are those of the sender of that number
pub at-list : (senders : ℕ) (sends : List SenderOrder) (place : ℕ) (of : List Order) → slice_get (lists_of senders sends) place ≡ Some of
    → orders_of place sends ≡ of
at-list senders sends place of is =
    let many = senders_for senders sends in
    let from = from-mapped (λ number. orders_of number sends) (numbers 0 many) place of is in
    let lt : place < many = let w = within (numbers 0 many) place from.0 from.1 in let l = length-numbers 0 many in omega (arith, w, l) in
    let same : place ≡ from.0 = sym (zero-add place) ∙ same_Some (0 + place) from.0 (sym (number-at 0 many place lt) ∙ from.1) in
    ap (λ n. orders_of n sends) same ∙ from.2

pub list-at : (senders : ℕ) (sends : List SenderOrder) (place : ℕ) → place < senders_for senders sends
    → slice_get (lists_of senders sends) place ≡ Some (orders_of place sends)
list-at senders sends place lt =
    mapped (λ number. orders_of number sends) (numbers 0 (senders_for senders sends)) place (0 + place) (number-at 0 (senders_for senders sends) place lt)
    ∙ ap (λ n. Some (orders_of n sends)) (zero-add place)

-- ---- one of all the orders

any-none : {X : Type 0} (test : X → Bool) (xs : List X) → ((x : X) → test x ≡ false) → list_any test xs ≡ false
any-none test [] none = refl
any-none test (x ∷ xs) none = λ i. none x i || any-none test xs none i

any-same : {X : Type 0} (test other : X → Bool) (xs : List X) → ((x : X) → test x ≡ other x) → list_any test xs ≡ list_any other xs
any-same test other [] same = refl
any-same test other (x ∷ xs) same = λ i. same x i || any-same test other xs same i

either : (a b : Bool) → b ≡ true → (a || b) ≡ true
either true b is = refl
either false b is = is

any-at : (test : ℕ → Bool) (first count n : ℕ) → first ≤ n → n < first + count → test n ≡ true → list_any test (numbers first count) ≡ true
any-at test first zero n least most is = absurd (omega (arith, least, most))
any-at test first (suc count) n least most is =
    at (cases_eq n first) (λ other. any-at test (first + 1) count n (omega (arith, least, other)) (omega (arith, most)) is)
  where
    at : (n ≡ first) ⊎ (n ≡ first → ⊥) → ((n ≡ first → ⊥) → list_any test (numbers (first + 1) count) ≡ true)
        → list_any test (numbers first (suc count)) ≡ true
    at (inl same) later = ap (λ b. b || list_any test (numbers (first + 1) count)) (ap test (sym same) ∙ is)
    at (inr other) later = either (test first) (list_any test (numbers (first + 1) count)) (later other)

module _ (test : Order → Bool) where
  first-of : (n : ℕ) (s : SenderOrder) (sends : List SenderOrder) → test s.order ≡ false
      → list_any test (orders_of n (s ∷ sends)) ≡ list_any test (orders_of n sends)
  first-of n s sends fails = at (cases_eq s.from n)
    where
      split : orders_of n (s ∷ sends) ≡ orders_of n (s ∷ []) ++ orders_of n sends
      split = orders-append n (s ∷ []) sends

      at : (s.from ≡ n) ⊎ (s.from ≡ n → ⊥) → list_any test (orders_of n (s ∷ sends)) ≡ list_any test (orders_of n sends)
      at (inl own) =
          ap (list_any test) (split ∙ ap (λ l. l ++ orders_of n sends) (orders-own n s own)) ∙ ap (λ b. b || list_any test (orders_of n sends)) fails
      at (inr other) = ap (list_any test) (split ∙ ap (λ l. l ++ orders_of n sends) (orders-other n s other))

  -- one of the lists has such an order, where the row has
  any-list : (senders : ℕ) (sends : List SenderOrder) → All (λ (s : SenderOrder). s.from < senders) sends
      → list_any (λ n. list_any test (orders_of n sends)) (numbers 0 senders) ≡ list_any (λ (s : SenderOrder). test s.order) sends
  any-list senders [] all = any-none (λ n. list_any test (orders_of n [])) (numbers 0 senders) (λ n. refl)
  any-list senders (s ∷ sends) all =
      by (test s.order) refl (any-list senders sends (All-tail (λ (x : SenderOrder). x.from < senders) s sends all))
    where
      P : SenderOrder → Type 0
      P x = x.from < senders

      own : test s.order ≡ true → list_any test (orders_of s.from (s ∷ sends)) ≡ true
      own is =
          ap (list_any test) (orders-append s.from (s ∷ []) sends ∙ ap (λ l. l ++ orders_of s.from sends) (orders-own s.from s refl))
          ∙ ap (λ b. b || list_any test (orders_of s.from sends)) is

      by : (b : Bool) → test s.order ≡ b
          → list_any (λ n. list_any test (orders_of n sends)) (numbers 0 senders) ≡ list_any (λ (x : SenderOrder). test x.order) sends
          → list_any (λ n. list_any test (orders_of n (s ∷ sends))) (numbers 0 senders) ≡ list_any (λ (x : SenderOrder). test x.order) (s ∷ sends)
      by true is rest =
          let lt = All-head P s sends all in
          any-at (λ n. list_any test (orders_of n (s ∷ sends))) 0 senders s.from (omega arith) (omega (arith, lt)) (own is)
          ∙ sym (ap (λ b. b || list_any (λ (x : SenderOrder). test x.order) sends) is)
      by false is rest =
          any-same (λ n. list_any test (orders_of n (s ∷ sends))) (λ n. list_any test (orders_of n sends)) (numbers 0 senders) (λ n. first-of n s sends is)
          ∙ rest
          ∙ sym (ap (λ b. b || list_any (λ (x : SenderOrder). test x.order) sends) is)

-- one of the senders' orders is for nobody, where one of the row is
pub for-nobody : (actors senders : ℕ) (sends : List SenderOrder) → All (λ (s : SenderOrder). s.from < senders) sends
    → has_one_for_nobody actors (lists_of senders sends) ≡ list_any (λ (s : SenderOrder). has_nobody actors s.order) sends
for-nobody actors senders sends all =
    any-mapped (list_any (has_nobody actors)) (λ number. orders_of number sends) (numbers 0 (senders_for senders sends))
    ∙ ap (λ m. list_any (λ n. list_any (has_nobody actors) (orders_of n sends)) (numbers 0 m)) (many-from senders sends all)
    ∙ any-list (has_nobody actors) senders sends all
