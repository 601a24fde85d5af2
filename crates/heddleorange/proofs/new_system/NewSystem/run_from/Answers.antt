use Rattle.heddleorange.proofs.new_system.NewSystem.run_from.Goals as goal

pub returns-clause-report : goal.returns-clause-report
returns-clause-report g c = c.run_from.ensures.report

pub returns-clause-failure : goal.returns-clause-failure
returns-clause-failure g c = c.run_from.ensures.failure

pub returns-clause-gave : goal.returns-clause-gave
returns-clause-gave g c = c.run_from.ensures.gave

pub returns-clause-gave_all : goal.returns-clause-gave_all
returns-clause-gave_all g c = c.run_from.ensures.gave_all

pub returns-clause-names : goal.returns-clause-names
returns-clause-names g c = c.run_from.ensures.names

pub returns-clause-conserved : goal.returns-clause-conserved
returns-clause-conserved g c = c.run_from.ensures.conserved
