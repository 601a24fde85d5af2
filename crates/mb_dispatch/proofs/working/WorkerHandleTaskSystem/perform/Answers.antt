use Rattle.mb_dispatch.proofs.working.WorkerHandleTaskSystem.perform.Goals as goal

pub returns-clause-keeps : goal.returns-clause-keeps
returns-clause-keeps g c = c.work.ensures.keeps

pub returns-clause-done : goal.returns-clause-done
returns-clause-done g c = c.work.ensures.done

pub returns-clause-fails : goal.returns-clause-fails
returns-clause-fails g c = c.work.ensures.fault
