use Rattle.mb_trace.proofs.Written.{shown-all, shown-begun, shown-none}
use Rattle.mb_trace.proofs.output.write_lines.Goals as goal

pub returns : goal.returns
returns g c =
    shown-all (g.L.Display.output c.args.lines.now) _ _ _ _ c.as_bytes.ensures.value c.in_ok-text.ensures.ok c.in_ok-write_whole.ensures

pub returns-in_err-write_whole : goal.returns-in_err-write_whole
returns-in_err-write_whole g c =
    shown-begun _ (g.L.Display.output c.args.lines.now) _ _ c.from_residual-in_err-write_whole.result c.from_residual-in_err-write_whole.ensures.1
    _ _ c.as_bytes.ensures.value c.in_ok-text.ensures.ok c.in_err-write_whole.ensures

pub returns-in_err-text : goal.returns-in_err-text
returns-in_err-text g c = shown-none _ (g.L.Display.output c.args.lines.now) _ c.from_residual.result c.from_residual.ensures.1
