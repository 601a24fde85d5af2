use Rattle.std.proofs.Common.{All, Some, [], ◌∷◌, arith, subst, ◌∙◌}
use Rattle.mb_gate.specs.Untouched.{origin_of, IsUntouched}
use Rattle.mb_pool.proofs.Alike.{all_front, all_last}
use Rattle.mb_gate_tests.proofs.pools.left.are_of.Goals as goal

pub loop-claim-init : goal.loop-claim-init
loop-claim-init g c = (c.requires.same_gates, c.requires.untouched)

pub give-requires-clause-same_gates : goal.give-requires-clause-same_gates
give-requires-clause-same_gates g c = c.loop-claim.invariant.0

pub give-requires-clause-untouched : goal.give-requires-clause-untouched
give-requires-clause-untouched g c =
    let ours = IsUntouched g.H.MailboxState.is_of g.H.MailboxState.facts (Some (origin_of c.args.gates.now)) in
    all_last ours c.pop.new.self.items c.in-Some.claim (subst (All ours) c.in-Some.ensures.items c.loop-claim.invariant.1)

pub loop-claim-smaller : goal.loop-claim-smaller
loop-claim-smaller g c = let fewer = c.in-Some.ensures.len in omega (arith, fewer)

pub loop-claim-preserved : goal.loop-claim-preserved
loop-claim-preserved g c =
    let ours = IsUntouched g.H.MailboxState.is_of g.H.MailboxState.facts (Some (origin_of c.args.gates.now)) in (
      c.give.ensures.same_gates ∙ c.loop-claim.invariant.0,
      all_front ours c.pop.new.self.items (c.in-Some.claim ∷ []) (subst (All ours) c.in-Some.ensures.items c.loop-claim.invariant.1),
    )

pub destroy_empty-requires : goal.destroy_empty-requires
destroy_empty-requires g c = c.in_default.ensures.cases.1

pub returns-then-are_those : goal.returns-then-are_those
returns-then-are_those g c = record { same_gates = c.loop-claim.invariant.0 }

pub returns-else-are_those : goal.returns-else-are_those
returns-else-are_those g c = record { same_gates = c.loop-claim.invariant.0 }
