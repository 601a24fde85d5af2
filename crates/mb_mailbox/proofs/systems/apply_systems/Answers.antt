use Rattle.std.proofs.Common.{inr, refl, ap, ◌∙◌}
use Rattle.mb_cell.specs.CellView.{CellView}
use Rattle.mb_gate.specs.Accessors.{pass_view}
use Rattle.mb_register.proofs.CallerLemmas.{further-none}
use Rattle.mb_mailbox.proofs.InRunLemmas.{advances-then, stops-none}
use Rattle.mb_mailbox.proofs.RunCountLemmas.{run_counts-keeps}
use Rattle.mb_mailbox.proofs.RecordedLemmas.{alike-still}
use Rattle.mb_mailbox.proofs.RunSendsLemmas.{entries-none}
use Rattle.mb_mailbox.specs.RunState.{run_state}
use Rattle.mb_mailbox.proofs.systems.apply_systems.Goals as goal

pub has_no_system_work-requires : goal.has_no_system_work-requires
has_no_system_work-requires g c = record {
  between = record {
    running = ((pass_view c.args.registrar.now.pass).log, c.requires.in_run.running);
    backlog = c.requires.in_run.backlog;
    carried_out = c.requires.in_run.carried_out;
  };
}

-- ---- no system message is due

pub returns-then-has_no_system_work-clause-in_run : goal.returns-then-has_no_system_work-clause-in_run
returns-then-has_no_system_work-clause-in_run g c =
    let before = c.requires.in_run in let quiet = c.has_no_system_work.ensures in record {
      same_gates = before.same_gates;
      running = quiet.keeps.running (pass_view c.args.registrar.now.pass).log before.running;
      backlog = quiet.backlog;
      carried_out = ap (λ (x : CellView). x.acts) quiet.keeps.left ∙ before.carried_out;
      run_counts = run_counts-keeps _ _ _ quiet.keeps.same before.run_counts;
    }

pub returns-then-has_no_system_work-clause-advances : goal.returns-then-has_no_system_work-clause-advances
returns-then-has_no_system_work-clause-advances g c =
    let quiet = c.has_no_system_work.ensures in
    record {
      same = quiet.keeps.same.same;
      cleared = quiet.cleared;
      caller_advances = further-none _;
      sends = alike-still _ _ _ _ quiet.keeps.recorded refl;
      entries = entries-none (run_state c.args.claim.now) (run_state c.has_no_system_work.new.claim) quiet.keeps.same.journal quiet.due;
    }

pub returns-then-has_no_system_work-clause-stops : goal.returns-then-has_no_system_work-clause-stops
returns-then-has_no_system_work-clause-stops g c = stops-none tt c.has_no_system_work.new.claim

pub returns-then-has_no_system_work-clause-whole : goal.returns-then-has_no_system_work-clause-whole
returns-then-has_no_system_work-clause-whole g c = inr (c.has_no_system_work.ensures.drained c.if-has_no_system_work.true)

-- ---- there may be one

pub apply_all-requires : goal.apply_all-requires
apply_all-requires g c =
    let before = c.requires.in_run in let quiet = c.has_no_system_work.ensures in record {
      in_run = record {
        same_gates = before.same_gates;
        running = quiet.keeps.running (pass_view c.args.registrar.now.pass).log before.running;
        backlog = quiet.backlog;
        carried_out = ap (λ (x : CellView). x.acts) quiet.keeps.left ∙ before.carried_out;
        run_counts = run_counts-keeps _ _ _ quiet.keeps.same before.run_counts;
      };
    }

pub returns-clause-in_run : goal.returns-clause-in_run
returns-clause-in_run g c = c.apply_all.ensures.in_run

pub returns-clause-advances : goal.returns-clause-advances
returns-clause-advances g c =
    advances-then c.apply_all.result c.args.registrar.now c.args.registrar.now c.apply_all.new.registrar c.args.claim.now c.has_no_system_work.new.claim
    c.apply_all.new.claim c.has_no_system_work.ensures.keeps.same.same c.has_no_system_work.ensures.cleared (further-none _)
    (alike-still _ _ _ _ c.has_no_system_work.ensures.keeps.recorded refl)
    (entries-none (run_state c.args.claim.now) (run_state c.has_no_system_work.new.claim) c.has_no_system_work.ensures.keeps.same.journal
    c.has_no_system_work.ensures.due) c.apply_all.ensures.advances

pub returns-clause-stops : goal.returns-clause-stops
returns-clause-stops g c = c.apply_all.ensures.stops

pub returns-clause-envelopes : goal.returns-clause-envelopes
returns-clause-envelopes g c = c.apply_all.ensures.envelopes

pub returns-clause-whole : goal.returns-clause-whole
returns-clause-whole g c = c.apply_all.ensures.whole
