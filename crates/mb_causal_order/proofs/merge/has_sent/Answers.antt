use Rattle.std.proofs.Common.{arith}
use Rattle.std.proofs.lemmas.Bool.{ltb-false}
use Rattle.mb_causal_order.proofs.Accounted.{sent-at}
use Rattle.mb_causal_order.proofs.Unready.{unsent-at}
use Rattle.mb_causal_order.proofs.merge.has_sent.Goals as goal

pub returns-clause-sent : goal.returns-clause-sent
returns-clause-sent c = λ who sends order accounted yes.
    sent-at who sends c.args.actors.now order c.args.replay.now.cells.items c.args.replay.now.outstanding.rows.items c.args.envelope c.told.result
    accounted c.told.ensures.most yes

pub returns-clause-unsent : goal.returns-clause-unsent
returns-clause-unsent c = λ no who sends before order accounted fewer sent.
    unsent-at who sends c.args.actors.now before order c.args.replay.now.cells.items c.args.replay.now.outstanding.rows.items c.args.envelope c.told.result
    accounted fewer (omega arith) (omega arith) c.told.ensures.least (ltb-false c.args.envelope.number c.told.result no) sent
