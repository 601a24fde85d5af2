use Rattle.std.proofs.Common.{◌≡◌, drop}
use Rattle.mb_msg.specs.Strategy.{decided_by}
use Rattle.mb_msg.proofs.strategy.Strategy.decide.Given as goal

abbrev pub invariant-loop-pattern : goal.invariant-loop-pattern
invariant-loop-pattern l = decided_by l.pattern-items l.cause ≡ decided_by (drop l.pattern-index l.pattern-items) l.cause
