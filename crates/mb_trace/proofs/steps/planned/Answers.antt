use Rattle.std.proofs.Common.{sym, arith}
use Rattle.std.proofs.lemmas.List.{take_all}
use Rattle.mb_trace.proofs.steps.planned.Goals as goal

pub returns-then-actors-lt63-clause-value : goal.returns-then-actors-lt63-clause-value
returns-then-actors-lt63-clause-value c = sym (take_all 63 c.args.actors.now (omega (arith, c.if-actors-lt63.true)))
