use Rattle.std.proofs.Common.{rules, ◌≡◌, length, refl, arith}
use Rattle.std.proofs.lemmas.Result.{IfOk-from_err}
use Rattle.mb_build.proofs.queues.add_queue.Goals as goal

pub overflow_cast-to : goal.overflow_cast-to
overflow_cast-to c =
    let here : c.len.result ≡ length c.args.takes.now.items = search rules in let few = c.requires.within_limit in omega (arith, here, few)

pub returns-in_err-take-clause-same_count : goal.returns-in_err-take-clause-same_count
returns-in_err-take-clause-same_count c = refl

pub returns-in_err-push-clause-same_count : goal.returns-in_err-push-clause-same_count
returns-in_err-push-clause-same_count c = refl

pub returns-in_err-take-clause-made : goal.returns-in_err-take-clause-made
returns-in_err-take-clause-made c = IfOk-from_err c.from_residual.result _ c.from_residual.ensures.0

pub returns-in_err-push-clause-made : goal.returns-in_err-push-clause-made
returns-in_err-push-clause-made c = IfOk-from_err c.from_residual-in_err-push.result _ c.from_residual-in_err-push.ensures.0
