use Rattle.std.proofs.Common.{arith, map, string_bytes}
use Rattle.std.proofs.lemmas.Result.{IfOk-weaker}
use Rattle.mb_trace_json.proofs.Lines.{text-of, value-of}
use Rattle.mb_trace_json.proofs.Plain.{plain-left}
use Rattle.mb_trace_json.proofs.line.left_line.Goals as goal

pub returns-clause-text : goal.returns-clause-text
returns-clause-text c =
    IfOk-weaker c.line_of.result _ _ (λ line h. text-of 2 _ _ _ c.in_ok-left_value.ensures (plain-left (map string_bytes c.args.names.now) c.args.envelope.now) h) c.line_of.ensures.text

pub returns-clause-value : goal.returns-clause-value
returns-clause-value c =
    IfOk-weaker c.line_of.result _ _ (λ line h. value-of 2 _ _ _ c.in_ok-left_value.ensures (plain-left (map string_bytes c.args.names.now) c.args.envelope.now) (omega arith) h)
    c.line_of.ensures.value
