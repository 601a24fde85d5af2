-- The steps that are possible, as they are listed.
use Rattle.std.proofs.Common.{◌≡◌, ◌≢◌, ℕ, zero, suc, ◌+◌, ◌<◌, ◌≤◌, List, [], ◌∷◌, ◌++◌, length, get_or, map, refl, sym, ap, subst, ◌∙◌, arith, ⊎_elim}
use Rattle.std.specs.Prelude.{Some, slice_get}
use Rattle.std.specs.List.{All, AllPairs, Contains}
use Rattle.std.proofs.lemmas.Bool.{cases_lt}
use Rattle.std.proofs.lemmas.List.{map-append}
use Rattle.std.proofs.lemmas.List.Elements.{All-nil, All-cons, All-head, All-tail, All-append, All-push, All-contains_itself, Contains-append_left, Contains-append_right, Contains-push}
use Rattle.std.proofs.lemmas.List.Quantifiers.{all_pairs_push}
use Rattle.mb_msg.specs.declared.id.ActorId.{ActorId}
use Rattle.mb_world.specs.Choices.{HasLeft, IsPossible, AreSends, AreChoices}
use Rattle.mb_world.specs.World.{Sender, WorldView}
use Rattle.mb_world.specs.declared.choice.Choice.{Choice}
use Rattle.mb_world.specs.declared.choice.Choice.TheVariants.{Send, Run}

-- ---- lists

all-map : {X Y : Type 0} (P : Y → Type 0) (f : X → Y) (xs : List X) → All (λ (x : X). P (f x)) xs → All P (map f xs)
all-map P f [] all = All-nil P
all-map {X = X} P f (x ∷ xs) all =
    All-cons P (f x) (map f xs) (All-head (λ (y : X). P (f y)) x xs all) (all-map P f xs (All-tail (λ (y : X). P (f y)) x xs all))

contains-map-at : {X Y : Type 0} (f : X → Y) (xs : List X) (k : ℕ) (x : X) → k < length xs → get_or xs k x ≡ x → Contains (map f xs) (f x)
contains-map-at f [] k x lt is = absurd (omega arith)
contains-map-at f (y ∷ xs) zero x lt is = (0, omega arith, ap f is)
contains-map-at f (y ∷ xs) (suc k) x lt is =
    let later = contains-map-at f xs k x (omega arith) is in let within = later.1 in (suc later.0, omega arith, later.2)

contains-map : {X Y : Type 0} (f : X → Y) (xs : List X) (x : X) → Contains xs x → Contains (map f xs) (f x)
contains-map f xs x there = contains-map-at f xs there.0 x there.1 there.2

pairs-cons : {X : Type 0} (R : X → X → Type 0) (x : X) (xs : List X) → All (R x) xs → AllPairs R xs → AllPairs R (x ∷ xs)
pairs-cons R x xs first rest zero zero d lt within = absurd (omega arith)
pairs-cons R x xs first rest zero (suc j) d lt within = first j d (omega arith)
pairs-cons R x xs first rest (suc i) zero d lt within = absurd (omega arith)
pairs-cons R x xs first rest (suc i) (suc j) d lt within = rest i j d (omega arith) (omega arith)

pairs-head : {X : Type 0} (R : X → X → Type 0) (x : X) (xs : List X) → AllPairs R (x ∷ xs) → All (R x) xs
pairs-head R x xs all k d within = all zero (suc k) d (omega arith) (omega arith)

pairs-tail : {X : Type 0} (R : X → X → Type 0) (x : X) (xs : List X) → AllPairs R (x ∷ xs) → AllPairs R xs
pairs-tail R x xs all i j d lt within = all (suc i) (suc j) d (omega arith) (omega arith)

pairs-nil : {X : Type 0} (R : X → X → Type 0) → AllPairs R []
pairs-nil R i j d lt within = absurd (omega arith)

-- each pair of one list, each of another, and each of the one with each of the other
pairs-append : {X : Type 0} (R : X → X → Type 0) (xs ys : List X) → AllPairs R xs → AllPairs R ys → All (λ (x : X). All (R x) ys) xs →
    AllPairs R (xs ++ ys)
pairs-append R [] ys left right across = right
pairs-append {X = X} R (x ∷ xs) ys left right across =
    pairs-cons R x (xs ++ ys)
    (All-append (R x) xs ys (pairs-head R x xs left) (All-head (λ (z : X). All (R z) ys) x xs across))
    (pairs-append R xs ys (pairs-tail R x xs left) right (All-tail (λ (z : X). All (R z) ys) x xs across))

all-weaker : {X : Type 0} (P Q : X → Type 0) → ((x : X) → P x → Q x) → (xs : List X) → All P xs → All Q xs
all-weaker P Q f xs all k d within = f (get_or xs k d) (all k d within)

pairs-map : {X Y : Type 0} (R : X → X → Type 0) (S : Y → Y → Type 0) (f : X → Y) → ((a b : X) → R a b → S (f a) (f b)) → (xs : List X) →
    AllPairs R xs → AllPairs S (map f xs)
pairs-map R S f keeps [] all = pairs-nil S
pairs-map R S f keeps (x ∷ xs) all =
    pairs-cons S (f x) (map f xs)
    (all-map (S (f x)) f xs (all-weaker (R x) (λ y. S (f x) (f y)) (λ y. keeps x y) xs (pairs-head R x xs all)))
    (pairs-map R S f keeps xs (pairs-tail R x xs all))

-- ---- the sends

-- those of the first senders, so many
pub record AreSendsBelow (senders : List Sender) (high : ℕ) (choices : List Choice) : Type 0 where
  pub numbers : List ℕ
  pub are : choices ≡ map Send numbers
  pub increasing : AllPairs (λ (m n : ℕ). m < n) numbers
  pub below : All (λ (n : ℕ). n < high) numbers
  pub possible : All (HasLeft senders) numbers
  pub each : (n : ℕ) → n < high → HasLeft senders n → Contains numbers n

pub sends-none : (senders : List Sender) → AreSendsBelow senders 0 []
sends-none senders = record {
  numbers = [];
  are = refl;
  increasing = pairs-nil (λ (m n : ℕ). m < n);
  below = All-nil (λ (n : ℕ). n < 0);
  possible = All-nil (HasLeft senders);
  each = λ n lt has. absurd (omega arith);
}

pub sends-end : (senders : List Sender) (choices : List Choice) → AreSendsBelow senders (length senders) choices → AreSends senders choices
sends-end senders choices is = record {
  numbers = is.numbers;
  are = is.are;
  increasing = is.increasing;
  possible = is.possible;
  each = λ n has. is.each n (within senders n has.0 has.1) has;
}
  where
    within : (l : List Sender) (n : ℕ) (s : Sender) → slice_get l n ≡ Some s → n < length l
    within [] n s is = absurd (cc is)
    within (x ∷ l) zero s is = omega arith
    within (x ∷ l) (suc n) s is = let later = within l n s is in omega (arith, later)

-- one that has an order left
pub sends-more : (senders : List Sender) (high : ℕ) (s : Sender) (choices : List Choice) → AreSendsBelow senders high choices →
    slice_get senders high ≡ Some s → s.place < length s.orders → AreSendsBelow senders (high + 1) (choices ++ Send high ∷ [])
sends-more senders high s choices is at left = record {
  numbers = is.numbers ++ high ∷ [];
  are = ap (λ l. l ++ Send high ∷ []) is.are ∙ sym (map-append Send is.numbers (high ∷ []));
  increasing = all_pairs_push (λ (m n : ℕ). m < n) is.numbers high is.increasing is.below;
  below = All-push (λ (n : ℕ). n < high + 1) is.numbers high (λ k d within. let lt = is.below k d within in omega (arith, lt)) (omega arith);
  possible = All-push (HasLeft senders) is.numbers high is.possible (s, at, left);
  each = λ n lt has. ⊎_elim
      (λ below. Contains-append_left is.numbers (high ∷ []) n (is.each n below has))
      (λ above. let same : high ≡ n = omega arith in
      subst (λ m. Contains (is.numbers ++ high ∷ []) m) same (Contains-push is.numbers high))
      (cases_lt n high);
}

-- one that has none left
pub sends-same : (senders : List Sender) (high : ℕ) (s : Sender) (choices : List Choice) → AreSendsBelow senders high choices →
    slice_get senders high ≡ Some s → length s.orders ≤ s.place → AreSendsBelow senders (high + 1) choices
sends-same senders high s choices is at over = record {
  numbers = is.numbers;
  are = is.are;
  increasing = is.increasing;
  below = λ k d within. let lt = is.below k d within in omega (arith, lt);
  possible = is.possible;
  each = λ n lt has. ⊎_elim
      (λ below. is.each n below has)
      (λ above. let same : n ≡ high = omega arith in absurd (none n has.0 has.1 has.2 same))
      (cases_lt n high);
}
  where
    none : (n : ℕ) (t : Sender) → slice_get senders n ≡ Some t → t.place < length t.orders → n ≡ high → ⊥
    none n t is lt same =
        let both : Some t ≡ Some s = sym is ∙ ap (slice_get senders) same ∙ at in let e : t ≡ s = cc in
        let orders = ap (λ (x : Sender). length x.orders) e in let place = ap (λ (x : Sender). x.place) e in omega (arith, orders, place, lt, over)

-- ---- all steps

send-run : (n : ℕ) (a : ActorId) → Send n ≢ Run a
send-run n a same = cc

pub choices-are : (world : WorldView) (sends choices : List Choice) → AllPairs (λ (a b : ActorId). a ≢ b) world.registered →
    AreSends world.senders sends → choices ≡ sends ++ map Run world.registered → AreChoices world choices
choices-are world sends choices once are order = record {
  possible = subst (All (IsPossible world)) (sym whole)
      (All-append (IsPossible world) (map Send are.numbers) (map Run world.registered)
      (all-map (IsPossible world) Send are.numbers are.possible)
      (all-map (IsPossible world) Run world.registered (All-contains_itself world.registered)));
  each = λ c is. subst (λ l. Contains l c) (sym whole) (contained c is);
  once = subst (AllPairs (λ (a b : Choice). a ≢ b)) (sym whole)
      (pairs-append (λ (a b : Choice). a ≢ b) (map Send are.numbers) (map Run world.registered)
      (pairs-map (λ (m n : ℕ). m < n) (λ (a b : Choice). a ≢ b) Send apart are.numbers are.increasing)
      (pairs-map (λ (a b : ActorId). a ≢ b) (λ (a b : Choice). a ≢ b) Run (λ a b differ same. differ (cc same)) world.registered once)
      (all-map (λ (c : Choice). All (λ (d : Choice). c ≢ d) (map Run world.registered)) Send are.numbers
      (λ k d within. all-map (λ (e : Choice). Send (get_or are.numbers k d) ≢ e) Run world.registered
      (λ j a lt. send-run (get_or are.numbers k d) (get_or world.registered j a)))));
  sends = sends;
  by_number = are;
  in_order = order;
}
  where
    whole : choices ≡ map Send are.numbers ++ map Run world.registered
    whole = order ∙ ap (λ l. l ++ map Run world.registered) are.are

    apart : (m n : ℕ) → m < n → Send m ≢ Send n
    apart m n lt same = let e : m ≡ n = cc in omega (arith, e)

    contained : (c : Choice) → IsPossible world c → Contains (map Send are.numbers ++ map Run world.registered) c
    contained (Send n) is =
        Contains-append_left (map Send are.numbers) (map Run world.registered) (Send n) (contains-map Send are.numbers n (are.each n is))
    contained (Run a) is =
        Contains-append_right (map Send are.numbers) (map Run world.registered) (Run a) (contains-map Run world.registered a is)
