use Rattle.heddleorange.proofs.new_system.NewSystem.run.Goals as goal

pub returns-clause-report : goal.returns-clause-report
returns-clause-report g c = c.run.ensures.report

pub returns-clause-failure : goal.returns-clause-failure
returns-clause-failure g c = c.run.ensures.failure

pub returns-clause-names : goal.returns-clause-names
returns-clause-names g c = c.run.ensures.names

pub returns-clause-conserved : goal.returns-clause-conserved
returns-clause-conserved g c = c.run.ensures.conserved
