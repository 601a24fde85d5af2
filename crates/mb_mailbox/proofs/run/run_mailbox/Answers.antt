use Rattle.std.proofs.Common.{refl}
use Rattle.mb_register.proofs.Retries.{never-both}
use Rattle.mb_mailbox.proofs.LaterLemmas.{leaves-settled}
use Rattle.mb_mailbox.proofs.run.run_mailbox.Goals as goal

pub run_and_release-requires-clause-same_gates : goal.run_and_release-requires-clause-same_gates
run_and_release-requires-clause-same_gates g c = (
  c.requires.same_gates.0,
  c.requires.same_gates.1,
  c.requires.same_gates.2,
  λ id few told. never-both _ told (c.clear.ensures.nobody id),
)

pub returns-clause-same_gates : goal.returns-clause-same_gates
returns-clause-same_gates g c = let here = c.run_and_release.ensures.same_gates in (here.0, here.1, here.2)

pub returns-clause-caller_advances : goal.returns-clause-caller_advances
returns-clause-caller_advances g c =
    leaves-settled _ _ _ refl refl c.run_and_release.ensures.none_left c.run_and_release.ensures.caller_advances

pub returns-clause-back : goal.returns-clause-back
returns-clause-back g c = let back = c.run_and_release.ensures.back in record { claims = back.claims; discharged = back.discharged }

pub returns-clause-answer : goal.returns-clause-answer
returns-clause-answer g c = c.run_and_release.ensures.answer
