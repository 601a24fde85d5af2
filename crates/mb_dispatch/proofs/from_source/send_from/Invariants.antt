use Rattle.mb_dispatch.proofs.FromSource.{IsUpTo}
use Rattle.mb_dispatch.proofs.from_source.send_from.Given as goal

abbrev pub invariant-loop : goal.invariant-loop
invariant-loop g l = IsUpTo l.system.gates g.S.Source.gives g.S.Source.takes_back l.fn.sender l.fn.source l.sender l.source
