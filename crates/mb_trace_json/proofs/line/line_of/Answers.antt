use Rattle.std.proofs.Common.{rules}
use Rattle.mb_trace_json.proofs.Lines.{reads-as}
use Rattle.mb_trace_json.proofs.line.line_of.Goals as goal

pub returns-clause-value : goal.returns-clause-value
returns-clause-value c = λ shallow. reads-as _ _ _ (search rules) (c.in_ok-line.ensures.reads_back shallow)
