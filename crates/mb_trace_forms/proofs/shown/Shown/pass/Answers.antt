use Rattle.std.proofs.Common.{None, refl, take}
use Rattle.mb_trace.specs.Cursors.{left_of}
use Rattle.mb_trace_forms.proofs.Passed.{next-is, shows-none}
use Rattle.mb_trace_forms.proofs.shown.Shown.pass.Goals as goal

pub returns-in_default : goal.returns-in_default
returns-in_default c =
    let s = c.args.self.now in
    let xs = left_of s.steps c.args.actor.0 in
    let nothing = shows-none s.filter s.left (take 1 xs) (next-is xs _ None c.in_default.is c.in_ok-step.ensures.found) in
    record { found = nothing.0; past = record { steps = c.in_ok-step.ensures.left; left = nothing.1; same_filter = refl } }
