use Rattle.mb_gate.specs.Accessors.{pass_view, actors_of}
use Rattle.mb_startup.proofs.HandlesAndSenders.{created, kept-whole, nobody-got}
use Rattle.mb_startup.proofs.Obligations.{owes-first}
use Rattle.std.proofs.Common.{refl, subst, sym}
use Rattle.mb_gate.specs.NamedActors.{NamesBelow}
use Rattle.mb_startup.proofs.handles_and_senders.start.Goals as goal

pub unreachable-requires : goal.unreachable-requires
unreachable-requires g c = nobody-got (pass_view c.args.pass.now) c.requires.pass.nothing_done.1 (c.in-Err.ensures.held c.requires.pass.whole)

pub returns-clause-started : goal.returns-clause-started
returns-clause-started g c =
    let nothing = c.requires.pass.nothing_done in let listed = c.in-Ok.ensures.listed in
    let kept = kept-whole _ _ (pass_view c.args.pass.now) _ listed nothing.1 nothing.3 c.requires.pass.whole in record {
      created = created _ _ (pass_view c.args.pass.now) _ listed c.in_ok-node.ensures nothing.0;
      settled = owes-first _ _ (pass_view c.args.pass.now) _ listed nothing.2;
      unclaimed = kept.0;
      none_released = kept.2;
    }

pub returns-clause-whole : goal.returns-clause-whole
returns-clause-whole g c =
    let nothing = c.requires.pass.nothing_done in
    (kept-whole _ _ (pass_view c.args.pass.now) _ c.in-Ok.ensures.listed nothing.1 nothing.3 c.requires.pass.whole).1

pub sys_enqueue-requires-clause-same_gates : goal.sys_enqueue-requires-clause-same_gates
sys_enqueue-requires-clause-same_gates g c = c.requires.pass.same_gates

pub sys_enqueue-requires-clause-present : goal.sys_enqueue-requires-clause-present
sys_enqueue-requires-clause-present g c = c.requires.not_empty

pub returns-in_err-node-clause-same_gates : goal.returns-in_err-node-clause-same_gates
returns-in_err-node-clause-same_gates g c = refl

pub sys_enqueue-requires-clause-named : goal.sys_enqueue-requires-clause-named
sys_enqueue-requires-clause-named g c = subst (NamesBelow (actors_of c.args.gates.now)) (sym c.in_ok-node.ensures) tt
