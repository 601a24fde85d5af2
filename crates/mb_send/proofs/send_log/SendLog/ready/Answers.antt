use Rattle.std.proofs.Common.{◌+◌, ◌^◌, ◌<◌, List, IsOk, length, ap, subst, arith}
use Rattle.mb_msg.specs.declared.dead_letter.DeadLetter.{DeadLetter}
use Rattle.mb_send.proofs.Posting.{letters-few}
use Rattle.mb_send.proofs.send_log.SendLog.ready.Goals as goal

pub returns-in-Err-clause-never_short : goal.returns-in-Err-clause-never_short
returns-in-Err-clause-never_short c none few =
    let log = c.args.self.now in let dead = ap (λ (l : List DeadLetter). length l) log.dead_are in let le = letters-few log.posted in
    let counted = log.counted in
    let fits : length log.dead.items + 1 < 2 ^ 64 = omega (arith, few, dead, le, counted) in
    subst (λ r. IsOk r) c.in-Err.is (c.reserve.ensures.never_short none fits)
