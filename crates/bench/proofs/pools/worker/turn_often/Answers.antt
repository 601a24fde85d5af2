use Rattle.std.proofs.Common.{◌∙◌, subst, sym}
use Rattle.mb_gate.specs.Untouched.{IsUntouched}
use Rattle.mb_pool.proofs.SameGates.{same_gates}
use Rattle.bench.proofs.pools.worker.turn_often.Goals as goal

pub push-requires : goal.push-requires
push-requires g c =
    record {
      untouched = subst (λ o. IsUntouched g.H.MailboxState.is_of g.H.MailboxState.facts o c.loop.claim) (sym c.loop.invariant.1) c.loop.invariant.2;
    }

pub loop-preserved : goal.loop-preserved
loop-preserved g c =
    let pushed = same_gates c.loop.handle c.push.new.self c.push.ensures.same ∙ c.loop.invariant.1 in (
      c.loop.invariant.0,
      same_gates c.push.new.self c.take.new.self c.take.ensures.same ∙ pushed,
      subst (λ o. IsUntouched g.H.MailboxState.is_of g.H.MailboxState.facts o c.in-Some-take.next) pushed c.in-Some-take.ensures.untouched,
    )
