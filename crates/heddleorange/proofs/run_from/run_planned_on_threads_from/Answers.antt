use Rattle.std.proofs.Common.{[], length, refl, subst, sym, ◌∙◌}
use Rattle.std.specs.List.{AllZip}
use Rattle.mb_source.specs.Given.{Gave, GaveAll}
use Rattle.mb_startup.proofs.There.{senders-there, some-handle}
use Rattle.heddleorange.specs.FromSources.{orders_given}
use Rattle.heddleorange.specs.GivesNoReport.{GivesNoReport}
use Rattle.heddleorange.proofs.BrokenOff.{together-from-to-last}
use Rattle.heddleorange.proofs.FromSources.{all-for-somebody, broke-from, many-given, none-asked, right-given}
use Rattle.heddleorange.proofs.PassedOn.{none-of-err}
use Rattle.heddleorange.proofs.RunEnds.{all-there, broke-as-given, broken-failure, ended-failure, ended-story, journal-seen, not-for-nobody, ran-as-given, still-its-own, within-limit}
use Rattle.heddleorange.proofs.Sent.{err-of, on-ok}
use Rattle.heddleorange.proofs.run_from.run_planned_on_threads_from.Goals as goal

pub run_from_together-requires-clause-same_count : goal.run_from_together-requires-clause-same_count
run_from_together-requires-clause-same_count g c κs within =
    (senders-there g.K.Behaviours.gives c.args.plan c.in_ok-built.built c.in_ok-built.ensures.begun).0 ∙ sym c.in_ok-built.ensures.right.1

pub run_from_together-requires-clause-not_empty : goal.run_from_together-requires-clause-not_empty
run_from_together-requires-clause-not_empty g c κs within = some-handle g.K.Behaviours.gives c.args.plan c.in_ok-built.built c.in_ok-built.ensures.begun

pub finish_at_rest-requires : goal.finish_at_rest-requires
finish_at_rest-requires g c =
    let begun = c.in_ok-built.ensures in let went = c.in_default.ensures in let gives = g.K.Behaviours.gives in let plan = c.args.plan in
    let actors = c.args.actors.items in let was = c.args.sources.now in let is = c.run_from_together.new.sources in
    let orders = orders_given (length actors) was is in let first = c.in_ok-built.built in let now = c.run_from_together.new.built in
    let right = right-given (length actors) plan was is begun.right.0 begun.right.1 c.run_from_together.auto.sources in
    let ran = ran-as-given gives first now (length actors) was is begun.others went.ran in record {
      together = went.ran.together;
      complete = all-there gives plan actors orders first now begun.begun right went.same_system ran;
      ran = within-limit gives plan actors orders first now begun.begun right went.same_system ran;
    }

pub returns : goal.returns
returns g c =
    let begun = c.in_ok-built.ensures in let went = c.in_default.ensures in let gives = g.K.Behaviours.gives in let plan = c.args.plan in
    let actors = c.args.actors.items in let was = c.args.sources.now in let is = c.run_from_together.new.sources in let S = g.S.Source in
    let orders = orders_given (length actors) was is in let first = c.in_ok-built.built in let now = c.run_from_together.new.built in
    let right = right-given (length actors) plan was is begun.right.0 begun.right.1 c.run_from_together.auto.sources in
    let ran = ran-as-given gives first now (length actors) was is begun.others went.ran in let ended = c.finish_at_rest in record {
      story = ended-story gives plan actors orders first now begun.begun right went.same_system ran g.K.Behaviours.after ended.result ended.ensures.story;
      right = on-ok ended.result right;
      failure = ended-failure gives plan actors orders first now begun.begun right went.same_system ran ended.result ended.ensures.refused
          ended.ensures.back;
      gave = subst (λ k. AllZip (Gave S.gives S.takes_back k) was is) begun.others went.gave;
      gave_all = on-ok ended.result (subst (λ k. AllZip (GaveAll S.gives S.takes_back k) was is) begun.others went.gave_all);
    }

pub broken_off-requires : goal.broken_off-requires
broken_off-requires g c =
    let begun = c.in_ok-built.ensures in let went = c.in-Err.ensures in let gives = g.K.Behaviours.gives in let plan = c.args.plan in
    let actors = c.args.actors.items in let was = c.args.sources.now in let is = c.run_from_together.new.sources in
    let orders = orders_given (length actors) was is in let first = c.in_ok-built.built in let now = c.run_from_together.new.built in
    let right = right-given (length actors) plan was is begun.right.0 begun.right.1 c.run_from_together.auto.sources in let error = c.in-Err.error in
    let S = g.S.Source in
    let off = broke-from first.system.gates S.gives S.takes_back gives first.system refl first.handles.items now.handles.items
    first.senders.items now.senders.items was is error went.fault.breaks in
    let fault = broke-as-given gives first now (length actors) was is error begun.others off in record {
      own_handles = still-its-own gives plan actors orders first now begun.begun right went.same_system;
      somebody = not-for-nobody gives plan actors orders first now begun.begun right went.same_system error fault;
      full = journal-seen gives plan actors orders first now begun.begun right went.same_system error fault;
    }

pub returns-in-Err-clause-failure : goal.returns-in-Err-clause-failure
returns-in-Err-clause-failure g c =
    let begun = c.in_ok-built.ensures in let went = c.in-Err.ensures in let gives = g.K.Behaviours.gives in let plan = c.args.plan in
    let actors = c.args.actors.items in let was = c.args.sources.now in let is = c.run_from_together.new.sources in
    let orders = orders_given (length actors) was is in let first = c.in_ok-built.built in let now = c.run_from_together.new.built in
    let right = right-given (length actors) plan was is begun.right.0 begun.right.1 c.run_from_together.auto.sources in let error = c.in-Err.error in
    let S = g.S.Source in
    let off = broke-from first.system.gates S.gives S.takes_back gives first.system refl first.handles.items now.handles.items
    first.senders.items now.senders.items was is error went.fault.breaks in
    let fault = broke-as-given gives first now (length actors) was is error begun.others off in
    broken-failure gives plan actors orders first now begun.begun right went.same_system error fault
    (together-from-to-last gives first now error S.gives S.takes_back was is went.fault) c.broken_off.result c.broken_off.ensures.left
    c.broken_off.ensures.back

pub returns-in-Err-clause-gave : goal.returns-in-Err-clause-gave
returns-in-Err-clause-gave g c =
    let S = g.S.Source in
    subst (λ k. AllZip (Gave S.gives S.takes_back k) c.args.sources.now c.run_from_together.new.sources) c.in_ok-built.ensures.others c.in-Err.ensures.gave

pub returns-in_err-built : goal.returns-in_err-built
returns-in_err-built g c =
    let result = c.from_residual.result in let failed = c.in_err-built.field-0.0 in let passed = c.from_residual.ensures.1 in
    let actors = length c.args.actors.items in let sources = c.args.sources.now in let orders = orders_given actors sources sources in
    let refused = c.in_err-built.ensures in let failure : GivesNoReport g.K.Behaviours.gives c.args.plan c.args.actors.items [] orders failed = record {
      refused = refused.refused orders (many-given actors sources sources refl) (all-for-somebody actors sources sources);
      which = refused.which orders;
      back = refused.back;
    } in record {
      story = none-of-err _ result failed passed;
      right = none-of-err _ result failed passed;
      failure = err-of (GivesNoReport g.K.Behaviours.gives c.args.plan c.args.actors.items [] orders) result failed passed failure;
      gave = none-asked g.S.Source.gives g.S.Source.takes_back actors sources;
      gave_all = none-of-err _ result failed passed;
    }
