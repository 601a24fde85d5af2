use denote.Shadow.{shadow}
use denote.Text.{Utf8}
use Rattle.mb_dispatch_tests.proofs.refused.tell_each.Given as goal

abbrev pub invariant-loop-payload : goal.invariant-loop-payload
invariant-loop-payload g l = shadow (Utf8 l.due)
