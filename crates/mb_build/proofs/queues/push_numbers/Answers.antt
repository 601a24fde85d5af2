use Rattle.std.proofs.Common.{arith}
use Rattle.std.proofs.lemmas.Result.{IfOk-from_err}
use Rattle.mb_build.proofs.NumberLemmas.{one-number-more}
use Rattle.mb_build.proofs.queues.push_numbers.Goals as goal

pub loop-number-preserved : goal.loop-number-preserved
loop-number-preserved c =
    let at = c.loop-number in let le = at.invariant.1 in (
      one-number-more c.args.senders.now.items at.senders.items c.push.new.self.items c.args.first at.number le at.invariant.0
          c.in_ok-push.ensures.items,
      omega (arith, le),
    )

pub returns-in_err-push : goal.returns-in_err-push
returns-in_err-push c = IfOk-from_err c.from_residual.result _ c.from_residual.ensures.0
