use Rattle.mb_dispatch.proofs.working.work.Goals as goal

pub returns-clause-keeps : goal.returns-clause-keeps
returns-clause-keeps g c = c.work_on-outcome.ensures.keeps

pub returns-clause-done : goal.returns-clause-done
returns-clause-done g c = c.work_on-outcome.ensures.done

pub returns-clause-fault : goal.returns-clause-fault
returns-clause-fault g c = c.work_on-outcome.ensures.fault
