use Rattle.std.proofs.Common.{arith, ℕ, length-take, rules}
use Rattle.mb_streams.proofs.InputLemmas.{read_in_full, read_to_the_end, takes_more}
use Rattle.mb_streams.proofs.input.read_input.Goals as goal

pub returns-then-count-eq0-clause-text : goal.returns-then-count-eq0-clause-text
returns-then-count-eq0-clause-text g c =
    read_to_the_end _ _ _ _ _ 1048577 _ c.loop-chunk.invariant.read c.in-Ok.ensures.bytes.0 c.if-count-eq0.true
    (c.in-Ok.ensures.bytes.1 c.if-count-eq0.true (omega (arith, length-take {A = ℕ}))) (omega arith)

pub returns-clause-text : goal.returns-clause-text
returns-clause-text g c = read_in_full _ _ _ 1048577 c.loop-chunk.invariant.read (omega arith)

pub returns-in_err-extend_from_slice-clause-taken : goal.returns-in_err-extend_from_slice-clause-taken
returns-in_err-extend_from_slice-clause-taken g c =
    let bound = c.in-Ok.ensures.bound in
    takes_more 1048577 _ _ _ _ _ c.loop-chunk.invariant.read c.in-Ok.ensures.bytes.0 (omega (arith, bound, length-take {A = ℕ}))

pub returns-in-Err-clause-failure : goal.returns-in-Err-clause-failure
returns-in-Err-clause-failure g c = search rules

pub returns-in-Err-clause-taken : goal.returns-in-Err-clause-taken
returns-in-Err-clause-taken g c = search rules

pub returns-clause-taken : goal.returns-clause-taken
returns-clause-taken g c = search rules
