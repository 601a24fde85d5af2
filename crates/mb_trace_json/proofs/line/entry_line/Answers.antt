use Rattle.std.proofs.Common.{arith, map, string_bytes}
use Rattle.std.proofs.lemmas.Result.{IfOk-weaker}
use Rattle.mb_journal.specs.JournalView.{entry_of}
use Rattle.mb_trace_json.proofs.Lines.{text-of, value-of}
use Rattle.mb_trace_json.proofs.Plain.{plain-entry}
use Rattle.mb_trace_json.proofs.Told.{tells-entry}
use Rattle.mb_trace_json.proofs.line.entry_line.Goals as goal

pub returns-clause-text : goal.returns-clause-text
returns-clause-text c =
    IfOk-weaker c.line_of.result _ _ (λ line h. text-of 3 _ _ _ c.in_ok-entry_value.ensures (plain-entry (map string_bytes c.args.names.now) c.args.actor.0 c.args.place c.args.after (entry_of c.args.entry.now)) h) c.line_of.ensures.text

pub returns-clause-value : goal.returns-clause-value
returns-clause-value c =
    IfOk-weaker c.line_of.result _ _ (λ line h. value-of 3 _ _ _ c.in_ok-entry_value.ensures (plain-entry (map string_bytes c.args.names.now) c.args.actor.0 c.args.place c.args.after (entry_of c.args.entry.now)) (omega arith) h)
    c.line_of.ensures.value

pub returns-clause-entry : goal.returns-clause-entry
returns-clause-entry c = tells-entry (map string_bytes c.args.names.now) c.args.actor.0 c.args.place c.args.after (entry_of c.args.entry.now)

pub returns-in_err-entry_value-clause-entry : goal.returns-in_err-entry_value-clause-entry
returns-in_err-entry_value-clause-entry c = tells-entry (map string_bytes c.args.names.now) c.args.actor.0 c.args.place c.args.after (entry_of c.args.entry.now)
