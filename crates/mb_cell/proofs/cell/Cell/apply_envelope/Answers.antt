use Rattle.std.proofs.Common.{rules}
use Rattle.mb_status.specs.Mailbox.{word_of}
use Rattle.mb_cell.proofs.EnvelopeNewest.{envelope-by_newest}
use Rattle.mb_cell.proofs.cell.Cell.apply_envelope.Goals as goal

pub returns-in-User-clause-taken : goal.returns-in-User-clause-taken
returns-in-User-clause-taken g c = search rules

pub apply_message-requires-clause-may_handle : goal.apply_message-requires-clause-may_handle
apply_message-requires-clause-may_handle g c = search rules

pub apply_message-requires-then-is_due-clause-expected : goal.apply_message-requires-then-is_due-clause-expected
apply_message-requires-then-is_due-clause-expected g c = search rules

pub apply_message-requires-in-Control-clause-calls : goal.apply_message-requires-in-Control-clause-calls
apply_message-requires-in-Control-clause-calls g c = search rules

pub apply_message-requires-in-Control-clause-carries : goal.apply_message-requires-in-Control-clause-carries
apply_message-requires-in-Control-clause-carries g c = search rules

pub returns-in-Kill-clause-by_newest : goal.returns-in-Kill-clause-by_newest
returns-in-Kill-clause-by_newest g c =
    envelope-by_newest g.K.Behaviours.gives c.args.self.now c.apply_kill.new.self c.args.envelope (word_of c.args.reading)
    c.apply_kill.ensures.taken c.apply_kill.ensures.lawful

pub returns-then-is_due-clause-by_newest : goal.returns-then-is_due-clause-by_newest
returns-then-is_due-clause-by_newest g c =
    envelope-by_newest g.K.Behaviours.gives c.args.self.now c.apply_message-then-is_due.new.self c.args.envelope (word_of c.args.reading)
    c.apply_message-then-is_due.ensures.taken c.apply_message-then-is_due.ensures.lawful

pub returns-else-is_due-clause-by_newest : goal.returns-else-is_due-clause-by_newest
returns-else-is_due-clause-by_newest g c =
    envelope-by_newest g.K.Behaviours.gives c.args.self.now c.drop_envelope.new.self c.args.envelope (word_of c.args.reading)
    c.drop_envelope.ensures.taken c.drop_envelope.ensures.lawful
