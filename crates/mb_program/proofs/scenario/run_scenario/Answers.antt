use Rattle.std.proofs.Common.{List, length, map, refl, sym, subst, arith, string_bytes}
use Rattle.mb_scenario.specs.View.{scenario_data}
use Rattle.mb_msg.specs.declared.order.SenderOrder.{SenderOrder}
use Rattle.heddleorange.specs.NoReport.{IsErrorOfRun, IsRight}
use Rattle.heddleorange.specs.Orders.{lists_of}
use Rattle.heddleorange.specs.RunHeadline.{RunHeadline}
use Rattle.heddleorange.specs.WholeRun.{IsReportOfRun}
use Rattle.mb_program.specs.Scripts.{after_by_scripts, gives_by_scripts}
use Rattle.mb_program.proofs.Actors.{all-unused}
use Rattle.mb_program.proofs.Runnable.{as-many-names, can-run, fault-of-run}
use Rattle.mb_program.proofs.scenario.run_scenario.Goals as goal

pub run-requires-clause-unused : goal.run-requires-clause-unused
run-requires-clause-unused g c κs within = all-unused c.args.text.now (scenario_data c.in_ok-plan.field-0) c.in_ok-plan.ensures.read

pub run-requires-clause-right : goal.run-requires-clause-right
run-requires-clause-right g c κs within =
    let read = c.in_ok-plan.field-0 in let plan = record read.plan { journal = c.args.journal } in
    subst (λ (l : List SenderOrder). IsRight plan (length read.scripts.items) (lists_of plan.senders l)) (sym c.deref.ensures.value)
    (can-run c.args.text.now (scenario_data read) plan c.in_ok-plan.ensures.read refl)

pub fault_of-requires : goal.fault_of-requires
fault_of-requires g c =
    let read = c.in_ok-plan.field-0 in let plan = record read.plan { journal = c.args.journal } in
    let right = can-run c.args.text.now (scenario_data read) plan c.in_ok-plan.ensures.read refl in
    fault-of-run (gives_by_scripts (scenario_data read).scripts) plan (length read.scripts.items) _ c.in-Err.failed
    (subst (λ (l : List SenderOrder). IsRight plan (length read.scripts.items) (lists_of plan.senders l)) (sym c.deref.ensures.value) right)
    c.in-Err.ensures.fault

pub returns-in-Err-clause-refused : goal.returns-in-Err-clause-refused
returns-in-Err-clause-refused g c =
    let read = c.in_ok-plan.field-0 in let plan = record read.plan { journal = c.args.journal } in let scenario = scenario_data read in (
      scenario,
      c.in_ok-plan.ensures.read,
      record {
        plan = plan;
        planned = refl;
        failed = c.in-Err.failed;
        of_run = subst (λ (l : List SenderOrder). IsErrorOfRun (gives_by_scripts scenario.scripts) plan (length read.scripts.items)
            (lists_of plan.senders l) c.in-Err.failed) c.deref.ensures.value c.in-Err.ensures.fault;
        told = c.fault_of.ensures;
      },
    )

pub returns-in-Ok-clause-run_of : goal.returns-in-Ok-clause-run_of
returns-in-Ok-clause-run_of g c =
    let read = c.in_ok-plan.field-0 in let plan = record read.plan { journal = c.args.journal } in
    let scenario = scenario_data read in
    let run = c.in-Ok.run' in
    let names = map string_bytes read.names.items in
    let told = c.in-Ok.ensures.report in let many = told.lines in
    let same = as-many-names c.args.text.now scenario names c.in_ok-plan.ensures.read refl in
    let ran : IsReportOfRun (after_by_scripts scenario.scripts) (gives_by_scripts scenario.scripts) plan
    (lists_of plan.senders scenario.sends) run.report =
    subst (λ (l : List SenderOrder). IsReportOfRun (after_by_scripts scenario.scripts) (gives_by_scripts scenario.scripts) plan
    (lists_of plan.senders l) run.report) c.deref.ensures.value told.story in
    let headline : RunHeadline plan (lists_of plan.senders scenario.sends) run.report =
    subst (λ (l : List SenderOrder). RunHeadline plan (lists_of plan.senders l) run.report) c.deref.ensures.value told.headline in
    record {
      scenario = scenario;
      read = c.in_ok-plan.ensures.read;
      named = refl;
      ran = record { plan = plan; planned = refl; ran = ran; headline = headline };
      same_count = omega (arith, many, same);
      quiet = c.in-Ok.ensures.turns;
      covers = c.in-Ok.ensures.covers;
    }

pub returns-in-Ok-clause-kept : goal.returns-in-Ok-clause-kept
returns-in-Ok-clause-kept g c = c.in-Ok.ensures.report.kept
