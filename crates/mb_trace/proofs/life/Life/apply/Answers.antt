use Rattle.std.proofs.Common.{◌+◌, ◌-◌, ap, ◌∙◌}
use Rattle.std.specs.Prelude.{if◌then◌else◌}
use Rattle.mb_journal.specs.Incarnation.{messages}
use Rattle.mb_journal.specs.JournalView.{entry_of}
use Rattle.mb_trace.specs.Lives.{script_read}
use Rattle.mb_trace.proofs.Lives.{IsKind, phase-next, failed-next, children-next, suspended-next, started-next, ending-next, state-next}
use Rattle.mb_trace.proofs.life.Life.apply.Goals as goal

pub returns-clause-follows : goal.returns-clause-follows
returns-clause-follows c = λ who before are f.
    let e = entry_of c.args.entry.now in
    let rules = c.args.rules.now in
    let script = script_read rules.script in
    let life = c.args.self.now in
    let k = c.kind_of-kind.result in
    let is = c.kind_of-kind.ensures in
    let m = c.marks_of-marks.result in
    let marks = c.marks_of-marks.ensures in
    let kinds : IsKind rules life e k = record {
      starts = is.starts;
      restarts = is.restarts;
      ends = is.ends;
      is_last = is.is_last;
      has_failed = is.has_failed;
      fails = is.fails;
    } in
    record {
      phase = phase-next who script before e rules life k are f kinds _ c.phase_after-self.ensures;
      started = started-next who script before e rules life k are f kinds _ _ c.applies_create.ensures c.either-self.ensures;
      ending = ending-next who script before e rules life k are f kinds _ _ c.applies_terminate.ensures c.either-self-2.ensures;
      failed = failed-next who script before e rules life k are f kinds _ c.failed_after-self.ensures;
      children = children-next who script before e rules life k are f kinds _ _ c.lose.ensures.items c.add.ensures;
      suspended =
          suspended-next who script before e rules life k are f kinds _ _ _ _ _ marks.suspends marks.resumes marks.fails marks.waits
          (c.count_after-self.ensures.value
          ∙ ap (λ b. life.suspended - (if b then 1 else 0) + (if m.suspends then 1 else 0) - (if m.resumes then 1 else 0) + (if m.fails then 1 else 0)
          + (if m.waits then 1 else 0)) marks.starts);
      state = state-next who script before e rules life k are f kinds _ (c.state_with-self.ensures (messages who before) f.state);
    }
