-- Passes that are handed out.
use Rattle.std.proofs.Common.{◌≡◌, ◌<◌, ℕ, List, [], ◌∷◌, ◌++◌, length, map, get_or, refl, sym, ap, ◌∙◌, arith}
use Rattle.std.specs.Prelude.{slice_set}
use Rattle.std.proofs.lemmas.List.{map-append}
use Rattle.mb_queue.specs.Made.{unused}
use Rattle.mb_queue.specs.Passes.{SendPassView, TakePassView}
use Rattle.mb_build.specs.Handed.{handed, passes_of}

pub handed-none : (rows : List (List SendPassView)) → handed rows [] ≡ rows
handed-none [] = refl
handed-none (row ∷ rows) = refl

-- the last of the passes first
pub handed-last : {R : Type 0} (items : R → List SendPassView) (rows : List R) (sends : List SendPassView) (p : SendPassView) (row d : R)
    → length sends < length rows → items row ≡ items (get_or rows (length sends) d) ++ p ∷ []
    → handed (map items (slice_set rows (length sends) row)) sends ≡ handed (map items rows) (sends ++ p ∷ [])
handed-last items [] sends p row d lt is = absurd (omega (arith, lt))
handed-last items (r ∷ rows) [] p row d lt is =
    ap (λ l. l ∷ map items rows) is ∙ ap (λ l. (items r ++ p ∷ []) ∷ l) (sym (handed-none (map items rows)))
handed-last items (r ∷ rows) (q ∷ sends) p row d lt is =
    ap (λ l. (items r ++ q ∷ []) ∷ l) (handed-last items rows sends p row d (omega (arith, lt)) is)

-- each sender gets its pass into one queue more
pub handed-queue : (takes : List TakePassView) (t : TakePassView) (senders : List ℕ)
    → handed (map (passes_of takes) senders) (map (unused t.queue) senders) ≡ map (passes_of (takes ++ t ∷ [])) senders
handed-queue takes t [] = refl
handed-queue takes t (s ∷ senders) =
    ap (λ l. l ∷ handed (map (passes_of takes) senders) (map (unused t.queue) senders))
    (sym (map-append (λ (x : TakePassView). unused x.queue s) takes (t ∷ [])))
    ∙ ap (λ l. passes_of (takes ++ t ∷ []) s ∷ l) (handed-queue takes t senders)
