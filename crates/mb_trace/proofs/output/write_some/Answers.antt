use Rattle.std.proofs.Common.{◌≡◌, ap, rules, take}
use Rattle.mb_trace.proofs.Written.{appends-nothing, appends-same, keeps-none}
use Rattle.mb_trace.proofs.output.write_some.Goals as goal

pub returns-in-Ok-eq0-clause-bytes : goal.returns-in-Ok-eq0-clause-bytes
returns-in-Ok-eq0-clause-bytes g c =
    let none : c.in-Ok-eq0.field-0 ≡ 0 = c.in-Ok-eq0.field-0-test in
    keeps-none _ _ (appends-same _ _ _ _ (ap (λ n. take n c.args.bytes.now) none) c.in-Ok-eq0.ensures.bytes)

pub returns-in-Ok-clause-bytes : goal.returns-in-Ok-clause-bytes
returns-in-Ok-clause-bytes g c = search rules

pub returns-then-eq-clause-bytes : goal.returns-then-eq-clause-bytes
returns-then-eq-clause-bytes g c = appends-nothing _ _ c.in-Err.ensures.bytes

pub returns-else-eq-clause-bytes : goal.returns-else-eq-clause-bytes
returns-else-eq-clause-bytes g c = c.in-Err.ensures.bytes
