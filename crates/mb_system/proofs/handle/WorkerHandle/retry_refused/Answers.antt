use Rattle.mb_gate.specs.Accessors.{actors_of}
use Rattle.mb_system.specs.Members.{handle_caller}
use Rattle.mb_system.proofs.Obligations.{obligations-discharged}
use Rattle.mb_system.proofs.Looking.{only-among}
use Rattle.mb_system.proofs.Saw.{saw-more}
use Rattle.std.proofs.Common.{◌∙◌, refl}
use Rattle.mb_register.proofs.Retries.{on-failure}
use Rattle.mb_system.proofs.RunErrors.{no-memory}
use Rattle.mb_system.proofs.handle.WorkerHandle.retry_refused.Goals as goal

pub retry_refused-requires-clause-same_gates : goal.retry_refused-requires-clause-same_gates
retry_refused-requires-clause-same_gates g c = (c.requires.same_gates.0, c.requires.same_gates.1)

pub retry_refused-requires-clause-within_limit : goal.retry_refused-requires-clause-within_limit
retry_refused-requires-clause-within_limit g c = c.requires.same_gates.2

pub returns-clause-same_handle : goal.returns-clause-same_handle
returns-clause-same_handle g c =
    let did = c.retry_refused.ensures in let ours = c.requires.same_gates in record {
      same_gates = (did.registers.same_gates.0 ∙ ours.0, did.registers.same_gates.1 ∙ ours.1, ours.2);
      number = refl;
      log_kept = saw-more did.registers.looks.looks _ _ did.registers.looks.log;
    }

pub returns-clause-retried : goal.returns-clause-retried
returns-clause-retried g c = record { discharged = c.in_ok-retry_refused.ensures.discharged; done = c.in_ok-retry_refused.ensures.done }

pub returns-clause-forgets_nothing : goal.returns-clause-forgets_nothing
returns-clause-forgets_nothing g c = record {
  obligations = obligations-discharged (actors_of c.args.system.now.gates) (handle_caller c.args.self.now.registrar) (handle_caller c.retry_refused.new.self) c.requires.same_gates.2
      c.retry_refused.ensures.registers.looks c.retry_refused.ensures.owed.kept;
  handed = c.retry_refused.ensures.registers.handed;
}

pub returns-clause-stops : goal.returns-clause-stops
returns-clause-stops g c = c.in_ok-retry_refused.ensures.refused

pub returns-clause-refused : goal.returns-clause-refused
returns-clause-refused g c = tt

pub returns-clause-looks_for_work : goal.returns-clause-looks_for_work
returns-clause-looks_for_work g c = record { looks = only-among _ _ _ c.retry_refused.ensures.registers.looks; due = c.retry_refused.ensures.registers.due }

pub returns-in_err-retry_refused-clause-same_handle : goal.returns-in_err-retry_refused-clause-same_handle
returns-in_err-retry_refused-clause-same_handle g c =
    let did = c.retry_refused.ensures in let ours = c.requires.same_gates in record {
      same_gates = (did.registers.same_gates.0 ∙ ours.0, did.registers.same_gates.1 ∙ ours.1, ours.2);
      number = refl;
      log_kept = saw-more did.registers.looks.looks _ _ did.registers.looks.log;
    }

pub returns-in_err-retry_refused-clause-forgets_nothing : goal.returns-in_err-retry_refused-clause-forgets_nothing
returns-in_err-retry_refused-clause-forgets_nothing g c = record {
  obligations = obligations-discharged (actors_of c.args.system.now.gates) (handle_caller c.args.self.now.registrar) (handle_caller c.retry_refused.new.self) c.requires.same_gates.2
      c.retry_refused.ensures.registers.looks c.retry_refused.ensures.owed.kept;
  handed = c.retry_refused.ensures.registers.handed;
}

pub returns-in_err-retry_refused-clause-stops : goal.returns-in_err-retry_refused-clause-stops
returns-in_err-retry_refused-clause-stops g c =
    on-failure _ _ _ c.from_residual.result c.from_residual.ensures.1 c.in_err-retry_refused.ensures.refused

pub returns-in_err-retry_refused-clause-refused : goal.returns-in_err-retry_refused-clause-refused
returns-in_err-retry_refused-clause-refused g c = no-memory c.from_residual.result c.from_residual.ensures.1

pub returns-in_err-retry_refused-clause-looks_for_work : goal.returns-in_err-retry_refused-clause-looks_for_work
returns-in_err-retry_refused-clause-looks_for_work g c = record { looks = only-among _ _ _ c.retry_refused.ensures.registers.looks; due = c.retry_refused.ensures.registers.due }

pub returns-clause-log : goal.returns-clause-log
returns-clause-log g c = refl

pub returns-in_err-retry_refused-clause-log : goal.returns-in_err-retry_refused-clause-log
returns-in_err-retry_refused-clause-log g c = refl
