use Rattle.std.proofs.Common.{[]}
use Rattle.mb_gate.specs.Untouched.{origin_of}
use Rattle.mb_mailbox.specs.RunState.{run_state}
use Rattle.mb_register.proofs.CallerLemmas.{further-then}
use Rattle.mb_mailbox.proofs.RecordedLemmas.{alike-looks, alike-then}
use Rattle.mb_mailbox.proofs.SendSystemLemmas.{running-caller_advances}
use Rattle.mb_mailbox.proofs.run.run_claim.Goals as goal

pub apply_all-outcome-requires-clause-in_run : goal.apply_all-outcome-requires-clause-in_run
apply_all-outcome-requires-clause-in_run g c = c.requires.in_run

pub apply_all-outcome-requires-clause-none_taken : goal.apply_all-outcome-requires-clause-none_taken
apply_all-outcome-requires-clause-none_taken g c = c.requires.none_taken

-- ---- nobody is to be registered

pub returns-then-is_empty-clause-in_run : goal.returns-then-is_empty-clause-in_run
returns-then-is_empty-clause-in_run g c = c.apply_all-outcome.ensures.in_run

pub returns-then-is_empty-clause-advances : goal.returns-then-is_empty-clause-advances
returns-then-is_empty-clause-advances g c = c.apply_all-outcome.ensures.advances

pub returns-then-is_empty-clause-stops : goal.returns-then-is_empty-clause-stops
returns-then-is_empty-clause-stops g c = c.apply_all-outcome.ensures.stops

pub returns-then-is_empty-clause-ended : goal.returns-then-is_empty-clause-ended
returns-then-is_empty-clause-ended g c = c.apply_all-outcome.ensures.ended

pub returns-then-is_empty-clause-none_left : goal.returns-then-is_empty-clause-none_left
returns-then-is_empty-clause-none_left g c id few = c.is_empty.ensures.nobody c.if-is_empty.true id

-- ---- those whom it told something are registered

pub register_told-requires : goal.register_told-requires
register_told-requires g c = record { same_gates = c.apply_all-outcome.ensures.in_run.same_gates }

pub returns-clause-in_run : goal.returns-clause-in_run
returns-clause-in_run g c =
    let before = c.apply_all-outcome.ensures.in_run in record {
      same_gates = c.register_told.ensures.same_gates;
      running = running-caller_advances g.K.Behaviours.gives (origin_of c.args.gates.now) [] _ _ (run_state c.apply_all-outcome.new.claim)
          c.register_told.ensures.caller_advances before.running;
      backlog = before.backlog;
      carried_out = before.carried_out;
      run_counts = before.run_counts;
    }

pub returns-clause-advances : goal.returns-clause-advances
returns-clause-advances g c =
    let before = c.apply_all-outcome.ensures.advances in record {
      same = before.same;
      cleared = before.cleared;
      caller_advances = further-then _ _ _ before.caller_advances c.register_told.ensures.caller_advances;
      sends = alike-then _ _ _ _ _ _ before.sends (alike-looks _ _ _ c.register_told.ensures.looks _);
      entries = before.entries;
    }

pub returns-clause-stops : goal.returns-clause-stops
returns-clause-stops g c = c.apply_all-outcome.ensures.stops

pub returns-clause-ended : goal.returns-clause-ended
returns-clause-ended g c = c.apply_all-outcome.ensures.ended

pub returns-clause-none_left : goal.returns-clause-none_left
returns-clause-none_left g c = c.register_told.ensures.none_left
