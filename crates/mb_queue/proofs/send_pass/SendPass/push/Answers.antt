use Rattle.std.proofs.Common.{sym, subst}
use Rattle.mb_queue.specs.Pushes.{IsReasonToRefuse}
use Rattle.mb_queue.proofs.RefusedLemmas.{refusal-of}
use Rattle.mb_queue.proofs.send_pass.SendPass.push.Goals as goal

pub returns-in-Err-clause-refused : goal.returns-in-Err-clause-refused
returns-in-Err-clause-refused g c =
    refusal-of c.args.self.now c.of.result (subst (IsReasonToRefuse c.args.self.now) (sym c.of.ensures.1) c.in-Err.ensures.refused)
