-- Queues that are made one by one.
use Rattle.std.proofs.Common.{◌≡◌, ℕ, suc, ◌+◌, List, [], ◌∷◌, ◌++◌, length, map, take, drop, replicate, refl, sym, ap, ◌∙◌, subst, arith}
use Rattle.mb_queue.specs.Ledger.{lent}
use Rattle.mb_msg.specs.declared.mailbox_type.MailboxType.{MailboxType}
use Rattle.mb_msg.specs.declared.mailbox_type.MailboxType.TheVariants.{Unbounded}
use Rattle.mb_queue.specs.Made.{IsEmpty, unused}
use Rattle.mb_queue.specs.Passes.{SendPassView, TakePassView}
use Rattle.mb_build.specs.Handed.{handed, passes_of}
use Rattle.mb_build.specs.Made.{AreAllMade, AreEmpty}
use Rattle.mb_build.proofs.HandedLemmas.{handed-queue}

-- nothing is handed out yet
pub unhanded : (senders : List ℕ) (rows : List (List SendPassView)) (count : ℕ) → rows ≡ replicate count [] → count ≡ length senders
    → rows ≡ map (passes_of []) senders
unhanded senders rows count are many = are ∙ ap (λ n. replicate n []) many ∙ none senders
  where
    none : (all : List ℕ) → replicate (length all) [] ≡ map (passes_of []) all
    none [] = refl
    none (s ∷ all) = ap (λ l. [] ∷ l) (none all)

-- one queue more
pub empty-more : (kinds : List MailboxType) (k : MailboxType) (to : ℕ) (senders : List ℕ) (takes : List TakePassView) (t : TakePassView) → AreEmpty kinds to senders takes
    → IsEmpty k (to + length kinds) senders t → t.accounts ≡ map lent senders → AreEmpty (kinds ++ k ∷ []) to senders (takes ++ t ∷ [])
empty-more [] k to senders [] t are is accounts =
    let here : to + 0 ≡ to = omega arith in
    ((subst (λ n. IsEmpty k n senders t) here is, accounts), tt)
empty-more [] k to senders (x ∷ takes) t are is accounts = absurd are
empty-more (y ∷ kinds) k to senders [] t are is accounts = absurd are
empty-more (y ∷ kinds) k to senders (x ∷ takes) t are is accounts =
    let there : to + suc (length kinds) ≡ (to + 1) + length kinds = omega arith in
    (are.0, empty-more kinds k (to + 1) senders takes t are.1 (subst (λ n. IsEmpty k n senders t) there is) accounts)

-- there are as many as kinds
pub as-many : (kinds : List MailboxType) (to : ℕ) (senders : List ℕ) (takes : List TakePassView) → AreEmpty kinds to senders takes
    → length takes ≡ length kinds
as-many [] to senders [] are = refl
as-many [] to senders (x ∷ takes) are = absurd are
as-many (y ∷ kinds) to senders [] are = absurd are
as-many (y ∷ kinds) to senders (x ∷ takes) are = ap suc (as-many kinds (to + 1) senders takes are.1)

-- and its passes are handed out
pub handed-more : (old new : List (List SendPassView)) (sends : List SendPassView) (takes takes' : List TakePassView) (t : TakePassView) (senders : List ℕ)
    → new ≡ handed old sends → old ≡ map (passes_of takes) senders → sends ≡ map (unused t.queue) senders → takes' ≡ takes ++ t ∷ []
    → new ≡ map (passes_of takes') senders
handed-more old new sends takes takes' t senders is before are pushed =
    is ∙ ap (λ l. handed l sends) before ∙ ap (handed (map (passes_of takes) senders)) are ∙ handed-queue takes t senders
    ∙ ap (λ l. map (passes_of l) senders) (sym pushed)

take-front : {X : Type 0} (new rest : List X) → take (length new) (new ++ rest) ≡ new
take-front [] rest = refl
take-front (x ∷ new) rest = ap (λ l. x ∷ l) (take-front new rest)

-- a whole list that was lent is what it was made
pub refilled : {X : Type 0} (count : ℕ) (old new : List X) → length new ≡ count → take count (new ++ drop (length new) old) ≡ new
refilled count old new e = ap (λ (n : ℕ). take n (new ++ drop (length new) old)) (sym e) ∙ take-front new (drop (length new) old)

-- the guardian's queue, and then the others'
pub all-made-of : (kinds : List MailboxType) (senders numbers : List ℕ) (guardian : TakePassView) (all_takes takes : List TakePassView) (rows : List (List SendPassView))
    → all_takes ≡ guardian ∷ takes → IsEmpty Unbounded 0 [] guardian → AreEmpty kinds 1 senders takes → rows ≡ map (passes_of takes) senders
    → senders ≡ numbers → AreAllMade kinds numbers all_takes rows
all-made-of kinds senders numbers guardian all_takes takes rows are nobody empty passes same =
    subst (λ n. AreAllMade kinds n all_takes rows) same (subst (λ w. AreAllMade kinds senders w rows) (sym are) (record {
      nobody = nobody;
      empty = empty;
      passes = passes;
    }))
