use Rattle.std.proofs.Common.{[], Vec, sym, ◌∙◌}
use Rattle.std.specs.Global.{Global}
use Rattle.mb_shutdown.proofs.Lists.{length-mapped}
use Rattle.mb_msg.specs.declared.order.Order.{Order}
use Rattle.mb_startup.proofs.There.{senders-there, some-handle}
use Rattle.heddleorange.specs.GivesNoReport.{GivesNoReport}
use Rattle.heddleorange.proofs.BrokenOff.{together-to-last, off-together}
use Rattle.heddleorange.proofs.PassedOn.{none-of-err}
use Rattle.heddleorange.proofs.RunEnds.{all-there, broken-failure, ended-failure, ended-story, journal-seen, not-for-nobody, still-its-own, within-limit}
use Rattle.heddleorange.proofs.Sent.{err-of, on-ok, orders_of}
use Rattle.heddleorange.proofs.run.run_planned_on_threads.Goals as goal

pub run_together-requires-clause-same_count : goal.run_together-requires-clause-same_count
run_together-requires-clause-same_count g c κs within =
    (senders-there g.K.Behaviours.gives c.args.plan c.in_ok-built.built c.in_ok-built.ensures.begun).0 ∙ sym c.in_ok-built.ensures.right.1
    ∙ length-mapped (λ (v : Vec Order Global). v.items) c.args.sends.now

pub run_together-requires-clause-not_empty : goal.run_together-requires-clause-not_empty
run_together-requires-clause-not_empty g c κs within = some-handle g.K.Behaviours.gives c.args.plan c.in_ok-built.built c.in_ok-built.ensures.begun

pub finish_at_rest-requires : goal.finish_at_rest-requires
finish_at_rest-requires g c =
    let begun = c.in_ok-built.ensures in let went = c.in_default.ensures in let gives = g.K.Behaviours.gives in let plan = c.args.plan in
    let actors = c.args.actors.items in let orders = orders_of c.args.sends.now in let first = c.in_ok-built.built in let now = c.run_together.new.built in record {
      together = went.ran.together;
      complete = all-there gives plan actors orders first now begun.begun begun.right went.same_system went.ran;
      ran = within-limit gives plan actors orders first now begun.begun begun.right went.same_system went.ran;
    }

pub returns : goal.returns
returns g c =
    let begun = c.in_ok-built.ensures in let went = c.in_default.ensures in let gives = g.K.Behaviours.gives in let plan = c.args.plan in
    let actors = c.args.actors.items in let orders = orders_of c.args.sends.now in let first = c.in_ok-built.built in let now = c.run_together.new.built in
    let ended = c.finish_at_rest in record {
      story = ended-story gives plan actors orders first now begun.begun begun.right went.same_system went.ran g.K.Behaviours.after ended.result
          ended.ensures.story;
      right = on-ok ended.result begun.right;
      failure = ended-failure gives plan actors orders first now begun.begun begun.right went.same_system went.ran ended.result ended.ensures.refused
          ended.ensures.back;
    }

pub broken_off-requires : goal.broken_off-requires
broken_off-requires g c =
    let begun = c.in_ok-built.ensures in let went = c.in-Err.ensures in let gives = g.K.Behaviours.gives in let plan = c.args.plan in
    let actors = c.args.actors.items in let orders = orders_of c.args.sends.now in let first = c.in_ok-built.built in let now = c.run_together.new.built in
    let off = off-together gives first now c.in-Err.error orders (some-handle gives plan first begun.begun) went.fault in record {
      own_handles = still-its-own gives plan actors orders first now begun.begun begun.right went.same_system;
      somebody = not-for-nobody gives plan actors orders first now begun.begun begun.right went.same_system c.in-Err.error off;
      full = journal-seen gives plan actors orders first now begun.begun begun.right went.same_system c.in-Err.error off;
    }

pub returns-in-Err-clause-failure : goal.returns-in-Err-clause-failure
returns-in-Err-clause-failure g c =
    let begun = c.in_ok-built.ensures in let went = c.in-Err.ensures in let broken = c.broken_off in let gives = g.K.Behaviours.gives in
    let plan = c.args.plan in let orders = orders_of c.args.sends.now in let first = c.in_ok-built.built in let now = c.run_together.new.built in
    let off = off-together gives first now c.in-Err.error orders (some-handle gives plan first begun.begun) went.fault in
    broken-failure gives plan c.args.actors.items orders first now begun.begun begun.right went.same_system c.in-Err.error off
    (together-to-last gives orders first now c.in-Err.error went.fault) broken.result broken.ensures.left broken.ensures.back

pub returns-in_err-built : goal.returns-in_err-built
returns-in_err-built g c =
    let result = c.from_residual.result in let failed = c.in_err-built.field-0.0 in let passed = c.from_residual.ensures.1 in record {
      story = none-of-err _ result failed passed;
      right = none-of-err _ result failed passed;
      failure = err-of (GivesNoReport g.K.Behaviours.gives c.args.plan c.args.actors.items [] (orders_of c.args.sends.now)) result failed passed
          c.in_err-built.ensures.failure;
    }
