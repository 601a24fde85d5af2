use Rattle.std.proofs.Common.{◌+◌, ◌++◌, ◌∷◌, [], length, length-append, map, ap, ◌∙◌}
use Rattle.std.proofs.lemmas.List.{map-append, replicate_more}
use Rattle.std.proofs.lemmas.Result.{IfOk-from_err}
use Rattle.mb_build.proofs.queues.rows.Goals as goal

pub loop-row-init : goal.loop-row-init
loop-row-init c =
    let none = c.in_ok-rows.ensures.items in (ap (map (λ row. row.items)) none, ap length none, c.in_ok-rows.ensures.exact)

pub loop-row-preserved : goal.loop-row-preserved
loop-row-preserved c =
    let at = c.loop-row in (
      ap (map (λ row. row.items)) c.push_reserved.ensures.items ∙ map-append (λ row. row.items) at.rows.items (c.new.result ∷ [])
          ∙ (λ i. at.invariant.0 i ++ c.new.ensures.items i ∷ []) ∙ replicate_more at._row [],
      ap length c.push_reserved.ensures.items ∙ length-append at.rows.items (c.new.result ∷ []) ∙ ap (λ n. n + 1) at.invariant.1,
      c.push_reserved.ensures.capacity ∙ at.invariant.2,
    )

pub returns-in_err-rows : goal.returns-in_err-rows
returns-in_err-rows c = IfOk-from_err c.from_residual.result _ c.from_residual.ensures.0
