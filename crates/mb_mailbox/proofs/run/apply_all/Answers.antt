use Rattle.std.proofs.Common.{refl, ◌∙◌, arith}
use Rattle.mb_mailbox.specs.RunState.{run_state}
use Rattle.mb_register.proofs.CallerLemmas.{further-none}
use Rattle.mb_mailbox.proofs.BacklogLemmas.{keeps-same}
use Rattle.mb_mailbox.proofs.EnvelopeLemmas.{stopped-from}
use Rattle.mb_mailbox.proofs.InRunLemmas.{advances-passed, advances-then, stops-passed}
use Rattle.mb_mailbox.proofs.RecordedLemmas.{alike-still}
use Rattle.mb_mailbox.proofs.RunSendsLemmas.{entries-same}
use Rattle.mb_mailbox.proofs.run.apply_all.Goals as goal

pub apply_systems-requires : goal.apply_systems-requires
apply_systems-requires g c = record { in_run = c.requires.in_run }

-- ---- the system messages stopped the run

pub returns-in_err-apply_systems-clause-in_run : goal.returns-in_err-apply_systems-clause-in_run
returns-in_err-apply_systems-clause-in_run g c = c.apply_systems.ensures.in_run

pub returns-in_err-apply_systems-clause-advances : goal.returns-in_err-apply_systems-clause-advances
returns-in_err-apply_systems-clause-advances g c =
    advances-passed c.apply_systems.result c.from_residual.result c.in_err-apply_systems.field-0.0 c.args.registrar.now c.args.registrar.now
    c.apply_systems.new.registrar c.args.claim.now c.args.claim.now c.apply_systems.new.claim c.from_residual.ensures.1
    (keeps-same (run_state c.args.claim.now)).same (further-none _) (alike-still _ _ _ _ refl refl)
    (entries-same (run_state c.args.claim.now)) c.apply_systems.ensures.advances

pub returns-in_err-apply_systems-clause-stops : goal.returns-in_err-apply_systems-clause-stops
returns-in_err-apply_systems-clause-stops g c =
    stops-passed c.apply_systems.result c.from_residual.result c.in_err-apply_systems.field-0.0 c.apply_systems.new.claim c.in_err-apply_systems.was
    c.from_residual.ensures.1 c.apply_systems.ensures.stops

pub returns-in_err-apply_systems-clause-within_limit : goal.returns-in_err-apply_systems-clause-within_limit
returns-in_err-apply_systems-clause-within_limit g c = omega (arith, c.apply_systems.ensures.envelopes, c.requires.none_taken)

-- ---- and then the envelopes

pub apply_envelopes-requires-clause-in_run : goal.apply_envelopes-requires-clause-in_run
apply_envelopes-requires-clause-in_run g c = c.apply_systems.ensures.in_run

pub apply_envelopes-requires-clause-none_taken : goal.apply_envelopes-requires-clause-none_taken
apply_envelopes-requires-clause-none_taken g c = c.apply_systems.ensures.envelopes ∙ c.requires.none_taken

pub apply_envelopes-requires-clause-whole : goal.apply_envelopes-requires-clause-whole
apply_envelopes-requires-clause-whole g c = c.in_ok-apply_systems.ensures.whole

pub returns-clause-in_run : goal.returns-clause-in_run
returns-clause-in_run g c = c.apply_envelopes.ensures.in_run

pub returns-clause-advances : goal.returns-clause-advances
returns-clause-advances g c =
    let first = c.in_ok-apply_systems.ensures.advances in
    advances-then c.apply_envelopes.result c.args.registrar.now c.apply_systems.new.registrar c.apply_envelopes.new.registrar c.args.claim.now
    c.apply_systems.new.claim c.apply_envelopes.new.claim first.same first.cleared first.caller_advances first.sends first.entries
    c.apply_envelopes.ensures.advances

pub returns-clause-stops : goal.returns-clause-stops
returns-clause-stops g c = c.apply_envelopes.ensures.stops

-- where it stopped since none was there, the run's takes begin with those of its first block
pub returns-clause-ended : goal.returns-clause-ended
returns-clause-ended g c =
    stopped-from c.args.claim.now.home.value.take _ (run_state c.apply_envelopes.new.claim) c.args.throughput c.apply_envelopes.new.turn.envelopes
    c.apply_systems.ensures.advances.same.takes c.apply_envelopes.result c.apply_envelopes.ensures.ended
