-- What is split off a pass makes the whole with the rest.
use Rattle.std.proofs.Common.{◌≡◌, ℕ, ◌+◌, ◌-◌, ◌^◌, ◌<◌, ◌≤◌, List, [], ◌∷◌, ◌++◌, length, get_or, set, sym, ap, ◌∙◌, subst}
use Rattle.std.proofs.Common.{append-nil, append_assoc, arith}
use Rattle.std.specs.List.{flat_map}
use Rattle.std.specs.Global.{Box}
use Rattle.mb_ghost.specs.Seen.{Each}
use Rattle.mb_ghost.specs.Shares.{FitsIn, IsWhole, amount, half_of, halved}
use Rattle.mb_ghost.proofs.SeenLemmas.{each_append}
use Rattle.mb_ghost.proofs.SharesLemmas.{halves_amount, halves_fit}
use Rattle.mb_ghost.proofs.SummedLemmas.{total_append}
use Rattle.mb_gate.specs.Accessors.{pass_view}
use Rattle.mb_gate.specs.declared.pass.Pass.{Pass}
use Rattle.mb_home.specs.Contents.{Contents}
use Rattle.mb_startup.specs.Shared.{KeepsWhole}
use Rattle.mb_system.specs.Shares.{share_of_handle, shares_of_handles}
use Rattle.mb_system.specs.declared.handle.WorkerHandle.{WorkerHandle}

each-first : {A : Type 0} (P : A → Type 0) (xs ys : List A) → Each P (xs ++ ys) → Each P xs
each-first P [] ys all = tt
each-first P (x ∷ xs) ys all = (all.0, each-first P xs ys all.1)

each-last : {A : Type 0} (P : A → Type 0) (xs ys : List A) → Each P (xs ++ ys) → Each P ys
each-last P [] ys all = all
each-last P (x ∷ xs) ys all = each-last P xs ys all.1

both : (e : ℕ) (a b : List ℕ) → amount e (a ++ b) ≡ amount e a + amount e b
both e a b = total_append (λ d. 2 ^ (e - d)) a b

-- with nothing split off
pub keeps-none : (share : List ℕ) → KeepsWhole share share []
keeps-none share others whole = whole

sums : (a g h o s now gh go old all : ℕ) → now ≡ a + (gh + o) → gh ≡ g + h → old ≡ s + go → go ≡ g + o → a + h ≡ s → old ≡ all → now ≡ all
sums a g h o s now gh go old all first second third fourth halves is = omega arith

-- with a half more
keeps-half : (before share given : List ℕ) → KeepsWhole before share given → KeepsWhole before (halved share) (given ++ half_of share)
keeps-half before share given keeps others whole e fits =
    let a = halved share in let h = half_of share in
    let mine : FitsIn e a = each-first (λ d. d ≤ e) a ((given ++ h) ++ others) fits in
    let theirs = each-last (λ d. d ≤ e) a ((given ++ h) ++ others) fits in
    let split = each-first (λ d. d ≤ e) (given ++ h) others theirs in
    let was : FitsIn e (share ++ (given ++ others)) = each_append (λ d. d ≤ e) share (given ++ others) (halves_fit e share mine)
    (each_append (λ d. d ≤ e) given others (each-first (λ d. d ≤ e) given h split) (each-last (λ d. d ≤ e) (given ++ h) others theirs)) in
    sums (amount e a) (amount e given) (amount e h) (amount e others) (amount e share) (amount e (a ++ ((given ++ h) ++ others)))
    (amount e (given ++ h)) (amount e (given ++ others)) (amount e (share ++ (given ++ others))) (2 ^ e)
    (both e a ((given ++ h) ++ others) ∙ ap (λ n. amount e a + n) (both e (given ++ h) others)) (both e given h)
    (both e share (given ++ others)) (both e given others) (halves_amount e share mine) (keeps others whole e was)

flat-more : {X : Type 0} (f : X → List ℕ) (xs : List X) (x : X) → flat_map f (xs ++ x ∷ []) ≡ flat_map f xs ++ f x
flat-more f [] x = append-nil (f x)
flat-more f (y ∷ ys) x = ap (λ l. f y ++ l) (flat-more f ys x) ∙ sym (append_assoc (f y) (flat_map f ys) (f x))

-- one more has a half of what the pass had
module _ {X : Type 0} (f : X → List ℕ) where
  pub keeps-next : (before share now : List ℕ) (xs new : List X) (x : X) → now ≡ halved share → new ≡ xs ++ x ∷ [] → f x ≡ half_of share
      → KeepsWhole before share (flat_map f xs) → KeepsWhole before now (flat_map f new)
  keeps-next before share now xs new x is pushed half keeps =
      let more : flat_map f new ≡ flat_map f xs ++ half_of share =
      ap (flat_map f) pushed ∙ flat-more f xs x ∙ ap (λ l. flat_map f xs ++ l) half in
      subst (λ s. KeepsWhole before s (flat_map f new)) (sym is)
      (subst (λ l. KeepsWhole before (halved share) l) (sym more) (keeps-half before share (flat_map f xs) keeps))

-- the whole is with the handles, of which the first took over the pass, and with the senders
pub whole-with : (share sent mine outside handles lent new : List ℕ) → IsWhole share → KeepsWhole share sent outside → KeepsWhole sent mine handles
    → new ≡ mine ++ lent → lent ≡ handles → IsWhole (new ++ outside)
whole-with share sent mine outside handles lent new whole senders led is same =
    let first : IsWhole (sent ++ (outside ++ [])) = senders [] (subst IsWhole (sym (append-nil share)) whole) in
    let all : IsWhole (mine ++ (handles ++ outside)) =
    led outside (subst (λ l. IsWhole (sent ++ l)) (append-nil outside) first) in
    subst IsWhole (sym (append_assoc mine handles outside) ∙ ap (λ l. l ++ outside) (sym (is ∙ ap (λ l. mine ++ l) same))) all

module _ {A K : Type 0} where
  -- the first handle has its share and that of the pass
  pub first-shares : (handles : List (WorkerHandle A K)) (d e : WorkerHandle A K) (p : Pass (Box Contents)) (share : List ℕ) → e ≡ get_or handles 0 d
      → 0 < length handles → (pass_view p).share ≡ share ++ share_of_handle e
      → shares_of_handles (set handles 0 (record e { registrar = record e.registrar { pass = p } })) ≡ share ++ shares_of_handles handles
  first-shares [] d e p share is some has = absurd (omega (arith, some))
  first-shares (x ∷ others) d e p share is some has =
      ap (λ l. l ++ shares_of_handles others) (has ∙ ap (λ z. share ++ share_of_handle z) is)
      ∙ append_assoc share (share_of_handle x) (shares_of_handles others)
