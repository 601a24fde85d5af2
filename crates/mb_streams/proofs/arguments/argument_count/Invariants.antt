use Rattle.std.proofs.Common.{◌≤◌}
use Rattle.std.specs.Prelude.{IfSome}
use Rattle.mb_streams.proofs.arguments.argument_count.Given as goal

abbrev pub invariant-loop-count : goal.invariant-loop-count
invariant-loop-count g l = IfSome (g.A.Arguments.count l.arguments) (λ given. l.count ≤ given)
