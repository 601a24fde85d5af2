use Rattle.std.proofs.Common.{sym, ◌∙◌}
use Rattle.mb_causal_order.proofs.Counting.{found, has-one, no_row}
use Rattle.mb_causal_order.proofs.outstanding.Outstanding.has.Goals as goal

pub returns-clause-some : goal.returns-clause-some
returns-clause-some c = λ yes test.
    let at = found c.place_of.result _ (sym c.is_some.ensures ∙ yes) c.place_of.ensures.some in
    let row = at.1.1 no_row in
    has-one c.args.self.now.rows.items at.0 c.args.to c.args.message test at.1.0 row.0 row.1 row.2
