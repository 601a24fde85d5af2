use Rattle.std.proofs.Common.{arith}
use Rattle.mb_trace.proofs.cursor.JournalCursor.new.Goals as goal

pub returns-clause-at : goal.returns-clause-at
returns-clause-at c = λ who journal. record {
  within = omega arith;
  follows = c.new.ensures.follows who;
  few = omega (arith, c.new.ensures.few);
}
