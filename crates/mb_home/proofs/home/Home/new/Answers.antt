use Rattle.std.proofs.Common.{[], sym, subst, refl}
use Rattle.mb_home.specs.Contents.{Contents}
use Rattle.mb_home.specs.AgreesWithJournal.{AgreesWithJournal}
use Rattle.mb_home.specs.Steps.{HasNoBacklog}
use Rattle.mb_home.proofs.StepLemmas.{settled-first, no_backlog-first}
use Rattle.mb_home.proofs.home.Home.new.Goals as goal

pub returns-clause-settled : goal.returns-clause-settled
returns-clause-settled g c =
    subst (λ (x : Contents). AgreesWithJournal (g.K.Behaviours.gives c.args.cell.who.this.0) [] x) (sym c.unused.ensures)
    (settled-first (g.K.Behaviours.gives c.args.cell.who.this.0) c.args.cell c.args.take c.args.sends.items c.unused.result.room _
    c.requires.unused.untouched.0 c.requires.unused.none_taken c.requires.unused.none_pushed c.requires.owner c.journal-journal.ensures.lawful)

pub returns-clause-no_backlog : goal.returns-clause-no_backlog
returns-clause-no_backlog g c =
    subst (λ (x : Contents). HasNoBacklog x) (sym c.unused.ensures)
    (record { no_rest = refl; no_front = no_backlog-first c.args.cell c.requires.unused.untouched.0 })
