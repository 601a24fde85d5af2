use Rattle.std.proofs.Common.{sym, subst}
use Rattle.mb_gate.specs.NamedActors.{NamesBelow}
use Rattle.mb_gate.specs.Accessors.{actors_of}
use Rattle.bench.proofs.gates.held.put_back.Goals as goal

pub sys_enqueue-requires-clause-named : goal.sys_enqueue-requires-clause-named
sys_enqueue-requires-clause-named g c = subst (NamesBelow (actors_of c.args.gates.now)) (sym c.set.ensures) tt
