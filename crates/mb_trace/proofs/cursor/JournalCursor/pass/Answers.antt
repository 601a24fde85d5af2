use Rattle.std.proofs.Common.{arith}
use Rattle.mb_trace.proofs.Passed.{found-step, no-step, passed}
use Rattle.mb_trace.proofs.cursor.JournalCursor.pass.Goals as goal

pub returns-clause-at : goal.returns-clause-at
returns-clause-at c = λ who are at.
    passed who _ _ c.args.self.now _ c.make_room.new.self c.apply.new.self at c.get-entry.ensures c.in_ok-make_room.ensures.kept
    c.in_ok-make_room.ensures.children (λ before f. c.apply.ensures.follows who before are f) c.apply.ensures.few

pub returns-clause-found : goal.returns-clause-found
returns-clause-found c = λ who are at.
    found-step c.args.actor.0 who _ _ c.args.self.now _ c.make_room.new.self c.apply.new.self _ _ at c.get-entry.ensures
    c.in_ok-make_room.ensures.kept c.in_ok-make_room.ensures.children (λ before f. c.apply.ensures.follows who before are f)
    c.snapshot-before.ensures c.snapshot-after.ensures

pub returns-then-index-len-clause-found : goal.returns-then-index-len-clause-found
returns-then-index-len-clause-found c = λ who are at.
    no-step c.args.actor.0 who _ c.args.journal.now.entries c.args.self.now.next (omega (arith, c.if-index-len.true, c.len.ensures.value))
