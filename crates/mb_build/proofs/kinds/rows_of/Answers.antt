use Rattle.std.proofs.Common.{◌+◌, ◌++◌, ◌∷◌, [], get_or, length, length-append, sym, ap, ◌∙◌}
use Rattle.std.proofs.lemmas.List.{take_more}
use Rattle.std.proofs.lemmas.Result.{IfOk-from_err}
use Rattle.mb_build.proofs.kinds.rows_of.Goals as goal

pub loop-rank-init : goal.loop-rank-init
loop-rank-init c = (c.in_ok-rows.ensures.items, ap length c.in_ok-rows.ensures.items, c.in_ok-rows.ensures.exact)

pub loop-rank-preserved : goal.loop-rank-preserved
loop-rank-preserved c =
    let at = c.loop-rank in let ranks = c.args.ranks.now in let rank = get_or ranks at.rank-index (record { kind = 0; rank = 0 }) in (
      c.push_reserved.ensures.items ∙ ap (λ l. l ++ rank ∷ []) at.invariant.0
          ∙ sym (take_more ranks at.rank-index (record { kind = 0; rank = 0 }) c.loop-rank-test.true),
      ap length c.push_reserved.ensures.items ∙ length-append at.rows.items (rank ∷ []) ∙ ap (λ n. n + 1) at.invariant.1,
      c.push_reserved.ensures.capacity ∙ at.invariant.2,
    )

pub returns-in_err-rows : goal.returns-in_err-rows
returns-in_err-rows c = IfOk-from_err c.from_residual.result _ c.from_residual.ensures.0
