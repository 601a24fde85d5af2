use Rattle.std.proofs.Common.{[], refl, sym}
use Rattle.mb_journal.specs.Failure.{failed}
use Rattle.mb_journal.specs.Incarnation.{messages}
use Rattle.mb_journal.specs.Life.{children, has_ending, has_start, phase}
use Rattle.mb_journal.specs.Suspension.{marks}
use Rattle.mb_journal.proofs.CountLemmas.{count_after-running}
use Rattle.mb_trace.proofs.life.Life.new.Goals as goal

pub returns-clause-follows : goal.returns-clause-follows
unfolding phase has_start has_ending failed children marks messages
returns-clause-follows c = λ who. record {
  phase = refl;
  started = refl;
  ending = refl;
  failed = refl;
  children = c.new.ensures.items;
  suspended = sym (count_after-running []);
  state = c.initial_of.ensures;
}
