use Rattle.mb_gate.specs.Untouched.{origin_of}
use Rattle.mb_gate.proofs.Got.{untouched}
use Rattle.mb_testkit.proofs.claims.attempt.Goals as goal

pub returns-in-Got-clause-untouched : goal.returns-in-Got-clause-untouched
returns-in-Got-clause-untouched g c =
    let got = c.in-Got.ensures.answer in
    untouched g.H.MailboxState.is_of g.H.MailboxState.facts
    (origin_of c.args.gates.now) c.args.id.0 _ _ got.0 c.in-Got.claim got.1 c.in-Got.ensures.same_gates.1 c.requires.present
