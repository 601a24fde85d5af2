use Rattle.mb_gate.specs.Accessors.{actors_of, pass_view}
use Rattle.mb_shutdown.proofs.ComingBack.{first-ours, match-read, read-again, read_by}
use Rattle.mb_shutdown.proofs.ending.first_busy_of.Goals as goal

pub first_busy-requires-clause-same_gates : goal.first_busy-requires-clause-same_gates
first_busy-requires-clause-same_gates g c =
    first-ours c.args.built.now c.index_mut.result.now c.requires.not_empty c.index_mut.ensures.value c.requires.same_gates

pub returns : goal.returns
returns g c =
    let built = c.args.built.now in let first = c.index_mut.result.now in let pass = c.first_busy.new.pass in
    match-read c.first_busy.result (actors_of built.system.gates) built (read_by built first pass) (pass_view first.registrar.pass)
    (pass_view pass) (read-again built first pass c.requires.not_empty c.index_mut.ensures.value c.first_busy.ensures.same_gates)
    c.first_busy.ensures.settled
