use Rattle.std.proofs.Common.{◌-◌, List, ap, arith, drop, length, length-drop, length-take, take, ℕ}
use Rattle.std.proofs.lemmas.List.{take_all, take_rest}
use Rattle.mb_trace.proofs.Written.{appends-kept, appends-none, appends-same, appends-some, err-written}
use Rattle.mb_trace.proofs.output.write_whole.Goals as goal

pub loop-turn-init : goal.loop-turn-init
loop-turn-init g c = record { within = omega arith; so_far = appends-none (g.W.Write.contents c.args.out.now) }

pub loop-turn-preserved : goal.loop-turn-preserved
loop-turn-preserved g c =
    let bytes = c.args.bytes.now in
    let written = c.loop-turn.written in
    record {
      within = let bound = c.in_ok-written.ensures.bound in omega (arith, bound, length-take (length bytes - written) (drop written bytes), length-drop written bytes, c.loop-turn.invariant.within);
      so_far = appends-some _ _ _ bytes written _ c.loop-turn.invariant.so_far
          (appends-same _ _ _ _ (ap (λ (l : List ℕ). take c.in_ok-written.field-0 l) (take_rest bytes written)) c.in_ok-written.ensures.bytes);
    }

pub returns-then-written-bytes : goal.returns-then-written-bytes
returns-then-written-bytes g c =
    appends-same _ _ _ _ (take_all c.loop-turn.written c.args.bytes.now (omega (arith, c.if-written-bytes.true))) c.loop-turn.invariant.so_far

pub returns-in_err-written : goal.returns-in_err-written
returns-in_err-written g c =
    err-written _ _ _ c.from_residual.result c.args.bytes.now c.from_residual.ensures.1
    (c.loop-turn.written, appends-kept _ _ _ _ c.loop-turn.invariant.so_far c.in_err-written.ensures.bytes)

pub returns : goal.returns
returns g c = (c.loop-turn.written, c.loop-turn.invariant.so_far)
