use Rattle.std.proofs.Common.{◌≡◌, List, true, subst, sym, refl}
use Rattle.mb_journal.specs.Accepted.{dead_letters}
use Rattle.mb_gate.specs.Accessors.{actors_of, pass_view}
use Rattle.mb_gate.specs.View.{Observation}
use Rattle.mb_send.specs.SeenClosed.{were_seen_closed}
use Rattle.mb_send.proofs.SeenClosed.{was_seen_closed-more}
use Rattle.mb_system.specs.Members.{sender_caller}
use Rattle.mb_system.proofs.Obligations.{obligations-discharged}
use Rattle.mb_register.proofs.Retries.{on-failure}
use Rattle.mb_system.proofs.RunErrors.{no-memory}
use Rattle.mb_system.proofs.Looking.{only-among}
use Rattle.mb_system.proofs.Saw.{saw-more}
use Rattle.mb_system.proofs.Senders.{sender-same}
use Rattle.mb_system.proofs.sender.retry_refused.Goals as goal

pub invariant_of-sender : goal.invariant_of-sender
invariant_of-sender g c =
    let old = c.args.sender.now in
    let dead = dead_letters old.send_log.posted in
    record {
      routes = old.routes;
      was_seen_closed = subst (λ (l : List Observation). were_seen_closed l dead ≡ true) (sym c.retry_refused.ensures.registers.looks.log)
          (was_seen_closed-more c.retry_refused.ensures.registers.looks.looks (pass_view old.registrar.pass).log dead old.was_seen_closed);
      bounded = old.bounded;
    }

pub retry_refused-requires-clause-same_gates : goal.retry_refused-requires-clause-same_gates
retry_refused-requires-clause-same_gates g c = (c.requires.same_gates.same_gates.0, c.requires.same_gates.same_gates.1)

pub retry_refused-requires-clause-within_limit : goal.retry_refused-requires-clause-within_limit
retry_refused-requires-clause-within_limit g c = c.requires.same_gates.same_gates.2

pub returns-clause-sends_nothing : goal.returns-clause-sends_nothing
returns-clause-sends_nothing g c =
    let did = c.retry_refused.ensures in record {
      same_gates = sender-same _ _ _ c.requires.same_gates did.registers.same_gates.0 did.registers.same_gates.1 refl;
      same_sender = refl;
      same = (did.registers.looks.sent_system, refl, refl);
      share = did.registers.looks.share;
      gives_back = did.registers.looks.gives_back;
      log_kept = saw-more did.registers.looks.looks _ _ did.registers.looks.log;
    }

pub returns-clause-retried : goal.returns-clause-retried
returns-clause-retried g c = record { discharged = c.in_ok-retry_refused.ensures.discharged; done = c.in_ok-retry_refused.ensures.done }

pub returns-clause-forgets_nothing : goal.returns-clause-forgets_nothing
returns-clause-forgets_nothing g c = record {
  obligations = obligations-discharged (actors_of c.args.system.now.gates) (sender_caller c.args.sender.now.registrar) (sender_caller c.retry_refused.new.self) c.requires.same_gates.same_gates.2
      c.retry_refused.ensures.registers.looks c.retry_refused.ensures.owed.kept;
  handed = c.retry_refused.ensures.registers.handed;
}

pub returns-clause-stops : goal.returns-clause-stops
returns-clause-stops g c = c.in_ok-retry_refused.ensures.refused

pub returns-clause-refused : goal.returns-clause-refused
returns-clause-refused g c = tt

pub returns-clause-looks_for_work : goal.returns-clause-looks_for_work
returns-clause-looks_for_work g c = record { looks = only-among _ _ _ c.retry_refused.ensures.registers.looks; due = c.retry_refused.ensures.registers.due }

pub returns-in_err-retry_refused-clause-sends_nothing : goal.returns-in_err-retry_refused-clause-sends_nothing
returns-in_err-retry_refused-clause-sends_nothing g c =
    let did = c.retry_refused.ensures in record {
      same_gates = sender-same _ _ _ c.requires.same_gates did.registers.same_gates.0 did.registers.same_gates.1 refl;
      same_sender = refl;
      same = (did.registers.looks.sent_system, refl, refl);
      share = did.registers.looks.share;
      gives_back = did.registers.looks.gives_back;
      log_kept = saw-more did.registers.looks.looks _ _ did.registers.looks.log;
    }

pub returns-in_err-retry_refused-clause-forgets_nothing : goal.returns-in_err-retry_refused-clause-forgets_nothing
returns-in_err-retry_refused-clause-forgets_nothing g c = record {
  obligations = obligations-discharged (actors_of c.args.system.now.gates) (sender_caller c.args.sender.now.registrar) (sender_caller c.retry_refused.new.self) c.requires.same_gates.same_gates.2
      c.retry_refused.ensures.registers.looks c.retry_refused.ensures.owed.kept;
  handed = c.retry_refused.ensures.registers.handed;
}

pub returns-in_err-retry_refused-clause-stops : goal.returns-in_err-retry_refused-clause-stops
returns-in_err-retry_refused-clause-stops g c =
    on-failure _ _ _ c.from_residual.result c.from_residual.ensures.1 c.in_err-retry_refused.ensures.refused

pub returns-in_err-retry_refused-clause-refused : goal.returns-in_err-retry_refused-clause-refused
returns-in_err-retry_refused-clause-refused g c = no-memory c.from_residual.result c.from_residual.ensures.1

pub returns-in_err-retry_refused-clause-looks_for_work : goal.returns-in_err-retry_refused-clause-looks_for_work
returns-in_err-retry_refused-clause-looks_for_work g c = record { looks = only-among _ _ _ c.retry_refused.ensures.registers.looks; due = c.retry_refused.ensures.registers.due }
