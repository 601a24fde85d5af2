use Rattle.std.proofs.Common.{rules, of_calls, ◌≡◌, [], All, ◌<◌, length, suc, subst, List, ◌∷◌, sym, arith}
use Rattle.std.specs.List.{AllZip}
use Rattle.mb_dispatch.proofs.Ended.{both-ended}
use Rattle.mb_dispatch.proofs.parallel.+tasks.Goals as goal

none-zip : {T : Type 0} (R : T → T → Type 0) (xs : List T) → length xs ≡ 0 → AllZip R xs xs
none-zip R [] none = tt
none-zip R (x ∷ xs) none = absurd (omega (arith, none))

pub each_in_parallel-one_beside_others-first-requires : goal.each_in_parallel-one_beside_others-first-requires
each_in_parallel-one_beside_others-first-requires g t c κs within =
    let all : All (g.T.Task.ready c.args.shared.now) (c.in-Some.task.now ∷ c.in-Some.others.now) =
    subst (λ (xs : List g.row.T.Denot). All (g.T.Task.ready c.args.shared.now) xs) c.in-Some.ensures.cases.0 c.requires in
    let first = all 0 c.in-Some.task.now (omega arith) in
    let rest : All (g.T.Task.ready c.args.shared.now) c.in-Some.others.now = λ k d h. all (suc k) d (omega arith) in
    let shorter : length c.in-Some.others.now < length c.args.tasks.now = omega (arith, c.in-Some.ensures.cases.1) in
    (omega (arith, shorter, c.decreases), (within.0, (within.1.0, (within.1.1, (search rules, (search rules, (search rules, (first, rest))))))))

pub each_in_parallel-returns-clause-fails : goal.each_in_parallel-returns-clause-fails
each_in_parallel-returns-clause-fails g t c =
    let did = c.one_beside_others-first in let shared = c.args.shared.now in
    (both-ended (g.T.Task.keeps shared) (g.T.Task.done shared) (g.T.Task.fails shared) c.in-Some.task.now did.new.one c.in-Some.others.now
    did.new.others c.args.tasks.now did.result.0 did.result.1 c.first_error.result c.in-Some.ensures.cases.0 c.first_error.ensures
    did.ensures.one did.ensures.others).fails

pub each_in_parallel-returns-clause-done : goal.each_in_parallel-returns-clause-done
each_in_parallel-returns-clause-done g t c =
    let did = c.one_beside_others-first in let shared = c.args.shared.now in
    (both-ended (g.T.Task.keeps shared) (g.T.Task.done shared) (g.T.Task.fails shared) c.in-Some.task.now did.new.one c.in-Some.others.now
    did.new.others c.args.tasks.now did.result.0 did.result.1 c.first_error.result c.in-Some.ensures.cases.0 c.first_error.ensures
    did.ensures.one did.ensures.others).done

pub each_in_parallel-returns-clause-keeps : goal.each_in_parallel-returns-clause-keeps
each_in_parallel-returns-clause-keeps g t c =
    let did = c.one_beside_others-first in
    subst (λ (l : List g.row.T.Denot). AllZip (g.T.Task.keeps c.args.shared.now) l (did.new.one ∷ did.new.others)) (sym c.in-Some.ensures.cases.0)
    (did.ensures.one.keeps, did.ensures.others.keeps)

pub each_in_parallel-returns-in_default-clause-keeps : goal.each_in_parallel-returns-in_default-clause-keeps
each_in_parallel-returns-in_default-clause-keeps g t c =
    none-zip (g.T.Task.keeps c.args.shared.now) c.args.tasks.now c.in_default.ensures.cases

pub each_in_parallel-returns-in_default-clause-done : goal.each_in_parallel-returns-in_default-clause-done
each_in_parallel-returns-in_default-clause-done g t c =
    none-zip (g.T.Task.done c.args.shared.now) c.args.tasks.now c.in_default.ensures.cases

pub each_in_parallel-returns-in_default-clause-fails : goal.each_in_parallel-returns-in_default-clause-fails
each_in_parallel-returns-in_default-clause-fails g t c = tt

pub one_beside_others-returns-clause-one : goal.one_beside_others-returns-clause-one
one_beside_others-returns-clause-one g t c = search of_calls

pub one_beside_others-returns-clause-others : goal.one_beside_others-returns-clause-others
one_beside_others-returns-clause-others g t c = search of_calls

pub one_beside_others-join_mut+arg2-each_in_parallel-requires : goal.one_beside_others-join_mut+arg2-each_in_parallel-requires
one_beside_others-join_mut+arg2-each_in_parallel-requires g t c κs within =
    let asked = c.requires in
    (omega (arith, c.decreases), (within.0, (within.1.0, (within.1.1, (asked.2, (asked.0, (asked.1, asked.3)))))))

pub fn::one_beside_others::join_mut+arg2+FnMut::call_mut-join_mut+arg2-requires : goal.fn::one_beside_others::join_mut+arg2+FnMut::call_mut-join_mut+arg2-requires
fn::one_beside_others::join_mut+arg2+FnMut::call_mut-join_mut+arg2-requires g t c κs within =
    let asked = c.requires.1.1.1.0 in (omega (arith, c.decreases), (within.0, (within.1.0, (within.1.1, (asked.2, (asked.0, (asked.1, asked)))))))

pub fn::one_beside_others::join_mut+arg2+FnOnce::call_once-join_mut+arg2-requires : goal.fn::one_beside_others::join_mut+arg2+FnOnce::call_once-join_mut+arg2-requires
fn::one_beside_others::join_mut+arg2+FnOnce::call_once-join_mut+arg2-requires g t c κs within =
    let asked = c.requires.1.1.1.0 in (omega (arith, c.decreases), (within.0, (within.1.0, (within.1.1, (asked.2, (asked.0, (asked.1, asked)))))))
