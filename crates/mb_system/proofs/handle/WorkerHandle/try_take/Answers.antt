use Rattle.std.proofs.Common.{refl}
use Rattle.mb_system.proofs.Looking.{none-with}
use Rattle.mb_system.proofs.handle.WorkerHandle.try_take.Goals as goal

pub returns-clause-none : goal.returns-clause-none
returns-clause-none g c =
    none-with _ _ _ c.try_take-next.result (λ same noted. (
      λ i. record c.args.self.now { registrar = record c.args.self.now.registrar { run_queue = same.0 i }; taken = noted i },
      same.1,
    ))
    c.try_take-next.ensures.none c.note_taken.ensures.none

pub returns-clause-untouched : goal.returns-clause-untouched
returns-clause-untouched g c = c.try_take-next.ensures.untouched

pub returns-clause-same : goal.returns-clause-same
returns-clause-same g c = (refl, refl, c.try_take-next.ensures.same.0, refl)

pub returns-clause-taken : goal.returns-clause-taken
returns-clause-taken g c = c.try_take-next.ensures.taken

pub returns-clause-log : goal.returns-clause-log
returns-clause-log g c = c.note_taken.ensures.log

pub returns-clause-account : goal.returns-clause-account
returns-clause-account g c =
    let same = c.try_take-next.ensures.same in λ i. record { pushed = same.1 i; refused = same.2 i; owed = c.args.self.now.registrar.owed }
