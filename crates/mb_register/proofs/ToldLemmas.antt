-- The actors that a run told something are registered, one after another.
use Rattle.std.proofs.Common.{◌≡◌, ◌≢◌, ◌⊎◌, inl, inr, ℕ, zero, suc, ◌+◌, ◌<◌, ◌≤◌, ◌==◌, ◌||◌, if◌then◌else◌, Bool, true, false, List, [], ◌∷◌, ◌++◌, length}
use Rattle.std.proofs.Common.{refl, sym, ap, ◌∙◌, subst, append_assoc, append-nil, arith}
use Rattle.std.specs.Prelude.{All}
use Rattle.std.proofs.lemmas.Bool.Decides.{nat_tests}
use Rattle.std.proofs.lemmas.List.Elements.{All-append, All-cons, All-head, All-nil, All-tail, All-weaker}
use Rattle.mb_msg.specs.declared.id.ActorId.{ActorId}
use Rattle.mb_core.specs.Actor.{nothing}
use Rattle.mb_gate.specs.View.{View, obligation_to}
use Rattle.mb_gate.specs.Accessors.{held_actor}
use Rattle.mb_gate.specs.declared.claim.Claim.{Claim}
use Rattle.mb_register.specs.declared.actor_set.ActorSet.{ActorSet}
use Rattle.mb_register.specs.Caller.{OwesForRefusals}
use Rattle.mb_register.specs.ActorSet.{has_actor}
use Rattle.mb_register.specs.Registering.{QueueAccount, IsRegistered}
use Rattle.mb_register.specs.Told.{ToldView, AreDistinct, AreInOrderOf, GoInOrder, IsSetOf, is_among}
use Rattle.mb_register.specs.Told.AreInOrderOf.{none, goes, stays}
use Rattle.mb_register.specs.Views.{LooksAfter, LooksAmong}
use Rattle.mb_register.proofs.Bits.{same_or_other}
use Rattle.mb_register.proofs.CallerLemmas.{account-none, account-then}
use Rattle.mb_register.proofs.Retries.{among-none, among-then, never-both}

-- ---- the list and the set

itself : (id : ℕ) → (id == id) ≡ true
itself id = grind (arith, nat_tests)

or-true : (b : Bool) → (b || true) ≡ true
or-true true = refl
or-true false = refl

or-none : (a b : Bool) → (a || b) ≡ false → (a ≡ false) × (b ≡ false)
or-none true b is = absurd (cc)
or-none false b is = (refl, is)

or-moved : (a b c : Bool) → (a || (b || c)) ≡ (b || (a || c))
or-moved true true c = refl
or-moved true false c = refl
or-moved false true c = refl
or-moved false false c = refl

-- one more at the end
pub among-last : (order : List ActorId) (actor : ActorId) (id : ℕ) → is_among (order ++ actor ∷ []) id ≡ (id == actor.0 || is_among order id)
among-last [] actor id = refl
among-last (first ∷ order) actor id =
    ap (λ b. id == first.0 || b) (among-last order actor id) ∙ or-moved (id == first.0) (id == actor.0) (is_among order id)

all-among-more : (first : ActorId) (order ids : List ActorId) → All (λ (a : ActorId). is_among order a.0 ≡ true) ids →
    All (λ (a : ActorId). is_among (first ∷ order) a.0 ≡ true) ids
all-among-more first order ids all =
    All-weaker (λ (a : ActorId). is_among order a.0 ≡ true) (λ (a : ActorId). is_among (first ∷ order) a.0 ≡ true)
    (λ a there. ap (λ b. a.0 == first.0 || b) there ∙ or-true (a.0 == first.0)) ids all

-- each is among them
pub all-among : (order : List ActorId) → All (λ (a : ActorId). is_among order a.0 ≡ true) order
all-among [] = All-nil (λ (a : ActorId). is_among [] a.0 ≡ true)
all-among (a ∷ order) =
    All-cons (λ (x : ActorId). is_among (a ∷ order) x.0 ≡ true) a order (ap (λ b. b || is_among order a.0) (itself a.0))
    (all-among-more a order order (all-among order))

module _ (P : ℕ → Type 0) where
  holds-one : (a : ActorId) (order : List ActorId) (id : ℕ) → (id ≡ a.0) ⊎ (id ≢ a.0) → P a.0 → (is_among order id ≡ true → P id) →
      is_among (a ∷ order) id ≡ true → P id
  holds-one a order id (inl same) here later there = subst P (sym same) here
  holds-one a order id (inr ne) here later there =
      let miss : (id == a.0) ≡ false = grind (arith, nat_tests) in
      later (ap (λ b. b || is_among order id) (sym miss) ∙ there)

  -- what holds of each holds of one that is among them
  pub holds-among : (order : List ActorId) (id : ℕ) → All (λ (a : ActorId). P a.0) order → is_among order id ≡ true → P id
  holds-among [] id all there = absurd (cc)
  holds-among (a ∷ order) id all there =
      holds-one a order id (same_or_other id a.0) (All-head (λ (x : ActorId). P x.0) a order all)
      (holds-among order id (All-tail (λ (x : ActorId). P x.0) a order all)) there

-- ---- each once

distinct-one : (first : ActorId) (order : List ActorId) (actor : ActorId) → (first.0 ≡ actor.0) ⊎ (first.0 ≢ actor.0) → is_among order first.0 ≡ false →
    (is_among order actor.0 ≡ false → AreDistinct (order ++ actor ∷ [])) → is_among (first ∷ order) actor.0 ≡ false →
    AreDistinct (first ∷ order ++ actor ∷ [])
distinct-one first order actor (inl same) here later out =
    let here : (actor.0 == first.0) ≡ true = grind (arith, nat_tests) in
    never-both (is_among (first ∷ order) actor.0) (ap (λ b. b || is_among order actor.0) here) out
distinct-one first order actor (inr ne) here later out =
    let miss : (first.0 == actor.0) ≡ false = grind (arith, nat_tests) in
    let apart : (actor.0 == first.0) ≡ false = grind (arith, nat_tests) in (
      among-last order actor first.0 ∙ ap (λ b. b || is_among order first.0) miss ∙ here,
      later (ap (λ b. b || is_among order actor.0) (sym apart) ∙ out),
    )

distinct-last : (order : List ActorId) (actor : ActorId) → AreDistinct order → is_among order actor.0 ≡ false → AreDistinct (order ++ actor ∷ [])
distinct-last [] actor distinct out = (refl, tt)
distinct-last (first ∷ order) actor distinct out =
    distinct-one first order actor (same_or_other first.0 actor.0) distinct.0 (distinct-last order actor distinct.1) out

-- the actors but that of this number
abbrev but : ℕ → List ActorId → List ActorId
but n [] = []
but n (a ∷ order) = if n == a.0 then but n order else a ∷ but n order

-- of distinct actors below the next number, those but the one of this number are distinct, below it, and at most one fewer
record Leaves (n : ℕ) (order : List ActorId) : Type 0 where
  distinct : AreDistinct (but n order)
  among : (id : ℕ) → is_among order id ≡ false → is_among (but n order) id ≡ false
  below : All (λ (a : ActorId). a.0 < n) (but n order)
  count : length order ≤ length (but n order) + 1
  none : is_among order n ≡ false → length (but n order) ≡ length order

leaves-one : (n : ℕ) (a : ActorId) (order : List ActorId) → (n ≡ a.0) ⊎ (n ≢ a.0) → a.0 < suc n → is_among order a.0 ≡ false → Leaves n order →
    Leaves n (a ∷ order)
leaves-one n a order (inl same) less out l =
    let here : (n == a.0) ≡ true = grind (arith, nat_tests) in
    let is : but n (a ∷ order) ≡ but n order = ap (λ b. if b then but n order else a ∷ but n order) here in
    let gone = l.none (ap (is_among order) same ∙ out) in
    let size = ap (λ (x : List ActorId). length x) is in
    record {
      distinct = subst AreDistinct (sym is) l.distinct;
      among = λ id not_in. ap (λ x. is_among x id) is ∙ l.among id (or-none (id == a.0) (is_among order id) not_in).1;
      below = subst (All (λ (x : ActorId). x.0 < n)) (sym is) l.below;
      count = omega (arith, size, gone);
      none = λ not_in. never-both (n == a.0) here (or-none (n == a.0) (is_among order n) not_in).0;
    }
leaves-one n a order (inr ne) less out l =
    let miss : (n == a.0) ≡ false = grind (arith, nat_tests) in
    let is : but n (a ∷ order) ≡ a ∷ but n order = ap (λ b. if b then but n order else a ∷ but n order) miss in
    let size = ap (λ (x : List ActorId). length x) is in
    let under : a.0 < n = omega (arith, less, ne) in
    let fewer = l.count in
    record {
      distinct = subst AreDistinct (sym is) (l.among a.0 out, l.distinct);
      among = λ id not_in. ap (λ x. is_among x id) is ∙ ap (λ b. b || is_among (but n order) id) (or-none (id == a.0) (is_among order id) not_in).0
          ∙ l.among id (or-none (id == a.0) (is_among order id) not_in).1;
      below = subst (All (λ (x : ActorId). x.0 < n)) (sym is) (All-cons (λ (x : ActorId). x.0 < n) a (but n order) under l.below);
      count = omega (arith, size, fewer);
      none = λ not_in. (let rest = l.none (or-none (n == a.0) (is_among order n) not_in).1 in omega (arith, size, rest));
    }

leaves : (n : ℕ) (order : List ActorId) → AreDistinct order → All (λ (a : ActorId). a.0 < suc n) order → Leaves n order
leaves n [] distinct all = record {
  distinct = tt;
  among = λ id not_in. refl;
  below = All-nil (λ (a : ActorId). a.0 < n);
  count = omega arith;
  none = λ not_in. refl;
}
leaves n (a ∷ order) distinct all =
    leaves-one n a order (same_or_other n a.0) (All-head (λ (x : ActorId). x.0 < suc n) a order all) distinct.0
    (leaves n order distinct.1 (All-tail (λ (x : ActorId). x.0 < suc n) a order all))

-- there are no more of them than numbers below this one
at-most : (n : ℕ) (order : List ActorId) → AreDistinct order → All (λ (a : ActorId). a.0 < n) order → length order ≤ n
at-most zero [] distinct all = omega arith
at-most zero (a ∷ order) distinct all = let less = All-head (λ (x : ActorId). x.0 < 0) a order all in absurd (omega (arith, less))
at-most (suc n) order distinct all =
    let l = leaves n order distinct all in
    let fewer = at-most n (but n order) l.distinct l.below in
    let one = l.count in
    omega (arith, fewer, one)

pub set-none : (set : ActorSet) → ((id : ℕ) → has_actor set id ≡ false) → IsSetOf set []
set-none set empty = record { same = empty; distinct = tt; within_limit = All-nil (λ (a : ActorId). a.0 < 64) }

-- an actor that is not there has a place
pub has-place : (set : ActorSet) (order : List ActorId) (actor : ActorId) → actor.0 < 64 → IsSetOf set order → has_actor set actor.0 ≡ false → length order < 64
has-place set order actor few is out =
    let all = at-most 64 (actor ∷ order) (sym (is.same actor.0) ∙ out, is.distinct)
    (All-cons (λ (a : ActorId). a.0 < 64) actor order few is.within_limit) in
    omega (arith, all)

pub set-last : (before now : ActorSet) (order : List ActorId) (actor : ActorId) → actor.0 < 64 → IsSetOf before order → has_actor before actor.0 ≡ false →
    ((other : ℕ) → has_actor now other ≡ (other == actor.0 || has_actor before other)) → IsSetOf now (order ++ actor ∷ [])
set-last before now order actor few is out more = record {
  same = λ id. more id ∙ ap (λ b. id == actor.0 || b) (is.same id) ∙ sym (among-last order actor id);
  distinct = distinct-last order actor is.distinct (sym (is.same actor.0) ∙ out);
  within_limit = All-append (λ (a : ActorId). a.0 < 64) order (actor ∷ []) is.within_limit
      (All-cons (λ (a : ActorId). a.0 < 64) actor [] few (All-nil (λ (a : ActorId). a.0 < 64)));
}

module _ {H : Type 0} where
  -- ---- one after another

  -- nothing is owed to the actor, or a look since its claim was refused
  abbrev IsSettled : ℕ → QueueAccount H → View → Type 0
  IsSettled id account view = (obligation_to id view ≡ nothing) ⊎ (has_actor account.owed id ≡ true)

  -- these were registered
  pub record AreRegistered (done : List ActorId) (told : ToldView) (a b : QueueAccount H) (old new : View) : Type 0 where
    pub looks : LooksAmong (has_actor told.set) old new
    pub beyond : (id : ℕ) → 64 ≤ id → obligation_to id new ≡ obligation_to id old
    pub settled : All (λ (actor : ActorId). IsSettled actor.0 b new) done
    pub account : OwesForRefusals a b

  pub registered-none : (told : ToldView) (a : QueueAccount H) (v : View) → AreRegistered [] told a a v v
  registered-none told a v = record {
    looks = among-none (has_actor told.set) v;
    beyond = λ id above. refl;
    settled = All-nil (λ (actor : ActorId). IsSettled actor.0 a v);
    account = account-none a;
  }

  module _ (actor : ActorId) (done : List ActorId) (told : ToldView) (a b c : QueueAccount H) (u v w : View) (few : actor.0 < 64)
      (there : has_actor told.set actor.0 ≡ true) (p : AreRegistered done told a b u v) (looks : LooksAfter actor.0 v w) (account : OwesForRefusals b c)
      (here : IsSettled actor.0 c w) where
    settled-still : (id : ActorId) → (id.0 ≡ actor.0) ⊎ (id.0 ≢ actor.0) → IsSettled id.0 b v → IsSettled id.0 c w
    settled-still id (inl same) was = subst (λ i. IsSettled i c w) (sym same) here
    settled-still id (inr ne) (inl owes_nothing) = inl (looks.others id.0 ne ∙ owes_nothing)
    settled-still id (inr ne) (inr owed) = inr (account.still id.0 owed)

    pub registered-next : AreRegistered (done ++ actor ∷ []) told a c u w
    registered-next = record {
      looks = among-then (has_actor told.set) actor.0 u v w there p.looks looks;
      beyond = λ other above. looks.others other (λ same. omega (arith, same, above, few)) ∙ p.beyond other above;
      settled = All-append (λ (id : ActorId). IsSettled id.0 c w) done (actor ∷ [])
          (All-weaker (λ (id : ActorId). IsSettled id.0 b v) (λ (id : ActorId). IsSettled id.0 c w)
          (λ id. settled-still id (same_or_other id.0 actor.0)) done p.settled)
          (All-cons (λ (id : ActorId). IsSettled id.0 c w) actor [] here (All-nil (λ (id : ActorId). IsSettled id.0 c w)));
      account = account-then a b c p.account account;
    }

  pub registered-as : (order done : List ActorId) (told : ToldView) (a b : QueueAccount H) (u v : View) → order ≡ done → AreRegistered done told a b u v →
      AreRegistered order told a b u v
  registered-as order done told a b u v same p = subst (λ (l : List ActorId). AreRegistered l told a b u v) (sym same) p

  -- ---- in order

  pub order-as : (order done : List ActorId) (a b : List (Claim H)) → order ≡ done → GoInOrder done a b → GoInOrder order a b
  order-as order done a b same p = subst (λ (l : List ActorId). GoInOrder l a b) (sym same) p

  one-stays : (actor : ActorId) (claims : List (Claim H)) (ids : List ActorId) → AreInOrderOf claims ids → AreInOrderOf claims (ids ++ actor ∷ [])
  one-stays actor claims ids none = stays actor [] [] none
  one-stays actor claims ids (goes claim id cs is of rest) = goes claim id cs (is ++ actor ∷ []) of (one-stays actor cs is rest)
  one-stays actor claims ids (stays id cs is rest) = stays id cs (is ++ actor ∷ []) (one-stays actor cs is rest)

  one-goes : (actor : ActorId) (one : Claim H) (claims : List (Claim H)) (ids : List ActorId) → held_actor one ≡ actor.0 → AreInOrderOf claims ids →
      AreInOrderOf (claims ++ one ∷ []) (ids ++ actor ∷ [])
  one-goes actor one claims ids here none = goes one actor [] [] here none
  one-goes actor one claims ids here (goes claim id cs is of rest) =
      goes claim id (cs ++ one ∷ []) (is ++ actor ∷ []) of (one-goes actor one cs is here rest)
  one-goes actor one claims ids here (stays id cs is rest) = stays id (cs ++ one ∷ []) (is ++ actor ∷ []) (one-goes actor one cs is here rest)

  pub order-none : (pushed : List (Claim H)) → GoInOrder [] pushed pushed
  order-none pushed = ([], sym (append-nil pushed), none)

  pub order-next : (actor : ActorId) (done : List ActorId) (a : List (Claim H)) (b c : QueueAccount H) (result : Bool) → GoInOrder done a b.pushed →
      IsRegistered actor.0 b c result → GoInOrder (done ++ actor ∷ []) a c.pushed
  order-next actor done a b c true was r = (
    was.0 ++ r.claim ∷ [],
    r.pushed ∙ ap (λ l. l ++ r.claim ∷ []) was.1 ∙ append_assoc a was.0 (r.claim ∷ []),
    one-goes actor r.claim was.0 done r.of was.2,
  )
  order-next actor done a b c false was (inl same) =
      (was.0, ap (λ (q : QueueAccount H). q.pushed) same ∙ was.1, one-stays actor was.0 done was.2)
  order-next actor done a b c false was (inr refused) = (was.0, refused.pushed ∙ was.1, one-stays actor was.0 done was.2)

-- one more was told something
module _ (id : ℕ) (before now : ActorSet) (more : (other : ℕ) → has_actor now other ≡ (other == id || has_actor before other)) where
  pub told-here : has_actor now id ≡ true
  told-here = let itself : (id == id) ≡ true = grind (arith, nat_tests) in more id ∙ ap (λ b. b || has_actor before id) itself

  pub told-still : (other : ℕ) → has_actor before other ≡ true → has_actor now other ≡ true
  told-still other still = more other ∙ either (other == id) (has_actor before other) still
    where
      either : (x y : Bool) → y ≡ true → (x || y) ≡ true
      either true y is = refl
      either false y is = is

  pub told-only : (other : ℕ) → has_actor now other ≡ true → (other ≡ id) ⊎ (has_actor before other ≡ true)
  told-only other there = by_place (same_or_other other id)
    where
      by_place : (other ≡ id) ⊎ (other ≢ id) → (other ≡ id) ⊎ (has_actor before other ≡ true)
      by_place (inl same) = inl same
      by_place (inr ne) =
          let miss : (other == id) ≡ false = grind (arith, nat_tests) in
          inr (ap (λ b. b || has_actor before other) (sym miss) ∙ sym (more other) ∙ there)

  pub told-within : (n : ℕ) → id < n → ((other : ℕ) → other < 64 → has_actor before other ≡ true → other < n) →
      (other : ℕ) → other < 64 → has_actor now other ≡ true → other < n
  told-within n here before_within other few told = by_place (same_or_other other id)
    where
      by_place : (other ≡ id) ⊎ (other ≢ id) → other < n
      by_place (inl same) = omega (arith, same, here)
      by_place (inr ne) =
          let miss : (other == id) ≡ false = grind (arith, nat_tests) in
          before_within other few (ap (λ b. b || has_actor before other) (sym miss) ∙ sym (more other) ∙ told)

-- whoever is noted is an actor, where the one that may have been added is
pub only-within : (id : ℕ) (before now : ActorSet) → ((other : ℕ) → has_actor now other ≡ true → (other ≡ id) ⊎ (has_actor before other ≡ true)) → (n : ℕ) →
    id < n → ((other : ℕ) → other < 64 → has_actor before other ≡ true → other < n) → (other : ℕ) → other < 64 → has_actor now other ≡ true → other < n
only-within id before now only n here before_within other few told = by_place (only other told)
  where
    by_place : (other ≡ id) ⊎ (has_actor before other ≡ true) → other < n
    by_place (inl same) = omega (arith, same, here)
    by_place (inr still) = before_within other few still
