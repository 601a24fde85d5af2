-- The handles and senders of a new system, made one after another.
use Rattle.std.proofs.Common.{◌≡◌, ◌<◌, ℕ, zero, suc, ◌+◌, List, [], ◌∷◌, ◌++◌, length, map, drop, take, sym, ap, ◌∙◌, subst, arith}
use Rattle.std.specs.Global.{Box}
use Rattle.std.proofs.lemmas.List.{length-append, length-drop, length_push, map_push}
use Rattle.mb_msg.specs.declared.system.SysMsg.{SysMsg}
use Rattle.mb_msg.specs.declared.system.SysMsg.TheVariants.{Create}
use Rattle.mb_ghost.specs.Shares.{IsWhole}
use Rattle.mb_gate.specs.ClaimCounts.{claims_got, times}
use Rattle.mb_gate.specs.View.{Pushed, View, enlisting}
use Rattle.mb_gate.specs.declared.gates.Gates.{Gates}
use Rattle.mb_home.specs.Contents.{Contents}
use Rattle.mb_queue.specs.Passes.{Queue, SendPassView}
use Rattle.mb_build.proofs.DirectoryLemmas.{take-next}
use Rattle.mb_startup.specs.Begun.{AreNewHandles, AreNewSenders, AreUnused, IsCreated, IsNewHandle, IsNewSender, IsUnused}
use Rattle.mb_system.specs.declared.handle.WorkerHandle.{WorkerHandle}
use Rattle.mb_system.specs.Members.{OutsideSender}

module _ (gates : Gates (Box Contents)) where
  -- one sender more
  pub senders-more : (number : ℕ) (rows : List (List SendPassView)) (senders : List OutsideSender) (row : List SendPassView) (s : OutsideSender)
      → AreNewSenders gates number rows senders → IsNewSender gates (number + length senders) row s
      → AreNewSenders gates number (rows ++ row ∷ []) (senders ++ s ∷ [])
  senders-more number [] [] row s are is = let sum : number + 0 ≡ number = omega arith in (subst (λ n. IsNewSender gates n row s) sum is, tt)
  senders-more number [] (x ∷ senders) row s are is = absurd are
  senders-more number (r ∷ rows) [] row s are is = absurd are
  senders-more number (r ∷ rows) (x ∷ senders) row s are is =
      let sum : number + suc (length senders) ≡ (number + 1) + length senders = omega arith in
      (are.0, senders-more (number + 1) rows senders row s are.1 (subst (λ n. IsNewSender gates n row s) sum is))

module _ {A K : Type 0} (gates : Gates (Box Contents)) where
  -- one handle more
  pub handles-more : (number : ℕ) (handles : List (WorkerHandle A K)) (e : WorkerHandle A K) → AreNewHandles gates number handles
      → IsNewHandle gates (number + length handles) e → AreNewHandles gates number (handles ++ e ∷ [])
  handles-more number [] e are is = let sum : number + 0 ≡ number = omega arith in (subst (λ n. IsNewHandle gates n e) sum is, tt)
  handles-more number (x ∷ handles) e are is =
      let sum : number + suc (length handles) ≡ (number + 1) + length handles = omega arith in
      (are.0, handles-more (number + 1) handles e are.1 (subst (λ n. IsNewHandle gates n e) sum is))

-- the passes of the sender in this place
pub unused-there : (queues : List Queue) (actors number : ℕ) (rows : List (List SendPassView)) (place : ℕ) (row : List SendPassView)
    (rest : List (List SendPassView)) → AreUnused queues actors number rows → drop place rows ≡ row ∷ rest
    → IsUnused queues actors (number + place) row
unused-there queues actors number [] zero row rest are here = absurd (cc)
unused-there queues actors number [] (suc place) row rest are here = absurd (cc)
unused-there queues actors number (r ∷ rows) zero row rest are here =
    let is : r ≡ row = cc in let sum : number ≡ number + 0 = omega arith in
    subst (λ n. IsUnused queues actors n row) sum (subst (IsUnused queues actors number) is are.0)
unused-there queues actors number (r ∷ rows) (suc place) row rest are here =
    let sum : (number + 1) + place ≡ number + suc place = omega arith in
    subst (λ n. IsUnused queues actors n row) sum (unused-there queues actors (number + 1) rows place row rest are.1 here)

-- a handle is opened, and nothing else was
module _ {A K : Type 0} (gates : Gates (Box Contents)) where
  pub handles-next : (handles new : List (WorkerHandle A K)) (e : WorkerHandle A K) → new ≡ handles ++ e ∷ [] → AreNewHandles gates 0 handles
      → IsNewHandle gates (length handles) e → AreNewHandles gates 0 new
  handles-next handles new e pushed are is =
      let sum : length handles ≡ 0 + length handles = omega arith in
      subst (AreNewHandles gates 0) (sym pushed) (handles-more gates 0 handles e are (subst (λ n. IsNewHandle gates n e) sum is))

-- what was put first into the guardian's list
pub created : (number : ℕ) (node : SysMsg) (v w : View) → w ≡ enlisting 0 number node v → node ≡ Create → v.log ≡ [] → IsCreated w
created number node v w is made none =
    (number, ap (λ (x : View). x.log) is ∙ (λ i. Pushed 0 number (made i) ∷ none i))

-- nobody got a claim of the guardian, who got none
pub nobody-got : (v : View) → v.got ≡ [] → 0 < claims_got 0 v → ⊥
nobody-got v none some = let zero_got : claims_got 0 v ≡ 0 = ap (times 0) none in omega (arith, some, zero_got)

-- who put it there got no claim by that, gave no cell back, and has the share that it had
pub kept-whole : (number : ℕ) (node : SysMsg) (v w : View) → w ≡ enlisting 0 number node v → v.got ≡ [] → v.releases ≡ [] → IsWhole v.share
    → (w.got ≡ []) × IsWhole w.share × (w.releases ≡ [])
kept-whole number node v w is none none_released whole = (
  ap (λ (x : View). x.got) is ∙ none,
  subst IsWhole (sym (ap (λ (x : View). x.share) is)) whole,
  ap (λ (x : View). x.releases) is ∙ none_released,
)

-- there is one in this place for each that came before this one
module _ {X Y : Type 0} where
  pub place-left : (before rest all : List X) (x : X) (rows : List Y) (place : ℕ) → before ++ x ∷ rest ≡ all → place ≡ length before
      → length all ≡ length rows → place < length rows
  place-left before rest all x rows place whole count many =
      let is = ap length whole in let split : length (before ++ x ∷ rest) ≡ length before + suc (length rest) = length-append before (x ∷ rest) in
      omega (arith, is, split, count, many)

module _ {Y : Type 0} where
  pub none-left : (rows : List Y) (place : ℕ) → drop place rows ≡ [] → place < length rows → ⊥
  none-left rows place none lt = let is = ap length none in let left = length-drop place rows in omega (arith, is, left, lt)

module _ {R : Type 0} (items : R → List SendPassView) (gates : Gates (Box Contents)) where
  pub senders-next : (number : ℕ) (senders new : List OutsideSender) (s : OutsideSender) (outside : List R) (row : R)
      (rest : List R) → new ≡ senders ++ s ∷ [] → drop (length senders) outside ≡ row ∷ rest
      → AreNewSenders gates number (map items (take (length senders) outside)) senders
      → IsNewSender gates (number + length senders) (items row) s → AreNewSenders gates number (map items (take (length new) outside)) new
  senders-next number senders new s outside row rest pushed here are is =
      let longer : length new ≡ suc (length senders) = let next = ap length pushed ∙ length_push senders s in omega (arith, next) in
      let rows : map items (take (length new) outside) ≡ map items (take (length senders) outside) ++ items row ∷ [] =
      ap (λ n. map items (take n outside)) longer ∙ ap (map items) (take-next (length senders) outside row rest here)
      ∙ map_push items (take (length senders) outside) row in
      subst (λ l. AreNewSenders gates number l new) (sym rows) (subst (λ l. AreNewSenders gates number
      (map items (take (length senders) outside) ++ items row ∷ []) l) (sym pushed)
      (senders-more gates number (map items (take (length senders) outside)) senders (items row) s are is))
