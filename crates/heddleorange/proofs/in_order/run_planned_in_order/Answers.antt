use Rattle.std.proofs.Common.{[], length, refl, sym, subst}
use Rattle.std.proofs.lemmas.Result.{IfErr-weaker}
use Rattle.mb_dispatch.specs.Runs.{turns_in}
use Rattle.mb_gate.specs.Untouched.{origin_of}
use Rattle.mb_msg.specs.Limits.{most_actors}
use Rattle.mb_startup.proofs.There.{senders-there, some-handle}
use Rattle.heddleorange.specs.Orders.{lists_of}
use Rattle.heddleorange.specs.RanQuietly.{OnlyFirstMade}
use Rattle.heddleorange.specs.SentAndRun.{HasSentAndRun}
use Rattle.heddleorange.proofs.AnyBreak.{BreaksOff}
use Rattle.heddleorange.proofs.Breaking.{may-break}
use Rattle.heddleorange.proofs.BrokenOff.{from-first, in-order-to-last, off-in-order}
use Rattle.heddleorange.specs.GivesBack.{GivesBack}
use Rattle.heddleorange.specs.NamedOrder.{NamesInRow}
use Rattle.heddleorange.proofs.GivesBack.{begun-in-row, none-back}
use Rattle.heddleorange.proofs.Sent.{err-of, ok-each, on-ok}
use Rattle.heddleorange.proofs.InTurn.{new-owe-nobody}
use Rattle.heddleorange.proofs.LastRun.{have-run-by}
use Rattle.heddleorange.proofs.RunEnds.{all-there, journal-seen, not-for-nobody, still-its-own, this-run, within-limit}
use Rattle.heddleorange.proofs.in_order.run_planned_in_order.Goals as goal

pub send_in_order_and_run-requires-clause-not_empty : goal.send_in_order_and_run-requires-clause-not_empty
send_in_order_and_run-requires-clause-not_empty g c = some-handle g.K.Behaviours.gives c.args.plan c.in_ok-built.built c.in_ok-built.ensures.begun

pub send_in_order_and_run-requires-clause-owes_nobody : goal.send_in_order_and_run-requires-clause-owes_nobody
send_in_order_and_run-requires-clause-owes_nobody g c =
    let built = c.in_ok-built.built in let begun = c.in_ok-built.ensures.begun in
    new-owe-nobody built.system.gates most_actors begun.outside built.senders.items begun.senders

pub send_in_order_and_run-requires-clause-from : goal.send_in_order_and_run-requires-clause-from
send_in_order_and_run-requires-clause-from g c =
    let begun = c.in_ok-built.ensures in
    from-first g.K.Behaviours.gives c.args.plan c.in_ok-built.built c.args.sends.now begun.begun begun.right.1

pub finish_with_turns-requires : goal.finish_with_turns-requires
finish_with_turns-requires g c =
    let begun = c.in_ok-built.ensures in let went = c.in-Ok.ensures in let gives = g.K.Behaviours.gives in let plan = c.args.plan in
    let actors = c.args.actors.items in let sends = c.args.sends.now in let orders = lists_of plan.senders sends in
    let first = c.in_ok-built.built in let now = c.send_in_order_and_run.new.built in
    let ran = subst (λ n. HasSentAndRun gives (lists_of n sends) first now) (senders-there gives plan first begun.begun).0 went.ran in record {
      together = ran.together;
      complete = all-there gives plan actors orders first now begun.begun begun.right went.same_system ran;
      ran = within-limit gives plan actors orders first now begun.begun begun.right went.same_system ran;
    }

pub returns-in-Ok : goal.returns-in-Ok
returns-in-Ok g c =
    let begun = c.in_ok-built.ensures in let went = c.in-Ok.ensures in let gives = g.K.Behaviours.gives in let plan = c.args.plan in
    let actors = c.args.actors.items in let sends = c.args.sends.now in let orders = lists_of plan.senders sends in
    let first = c.in_ok-built.built in let now = c.send_in_order_and_run.new.built in
    let ran = subst (λ n. HasSentAndRun gives (lists_of n sends) first now) (senders-there gives plan first begun.begun).0 went.ran in
    let this = this-run gives plan actors orders first now begun.begun begun.right went.same_system ran in
    let ended = c.finish_with_turns.ensures in let result = c.finish_with_turns.result in record {
      story = ok-each result ended.story (λ run all. all plan orders begun.right.1 this);
      right = on-ok result begun.right;
      refused = IfErr-weaker result _ _ (λ failed all. all plan (length actors) orders begun.right refl this) ended.refused;
      which = IfErr-weaker result _ _ (λ failed none. begun-in-row plan.senders (length actors) sends failed.error none.was_begun) ended.back;
      back = IfErr-weaker result _ _ (λ failed none. none-back plan actors failed none) ended.back;
      turns = ok-each result ended.turns (λ run all. all plan orders begun.right.1 (record {
        first = first;
        begun = begun.begun;
        system = went.same_system.system;
        sent = ran.sent;
        made = subst (λ n. OnlyFirstMade gives (origin_of first.system.gates) n first.handles.items now.handles.items (turns_in c.in-Ok.turns))
            begun.begun.numbers.2 went.quiet.made;
        kept = went.quiet.kept;
      }));
    }

pub broken_off-requires : goal.broken_off-requires
broken_off-requires g c =
    let begun = c.in_ok-built.ensures in let went = c.in-Err.ensures in let gives = g.K.Behaviours.gives in let plan = c.args.plan in
    let actors = c.args.actors.items in let sends = c.args.sends.now in let orders = lists_of plan.senders sends in
    let first = c.in_ok-built.built in let now = c.send_in_order_and_run.new.built in let error = c.in-Err.error in
    let off = off-in-order gives first now error sends (from-first gives plan first sends begun.begun begun.right.1) went.fault in
    let fault = subst (λ n. BreaksOff gives first.system now.handles.items (lists_of n sends) error) (senders-there gives plan first begun.begun).0 off in record {
      own_handles = still-its-own gives plan actors orders first now begun.begun begun.right went.same_system;
      somebody = not-for-nobody gives plan actors orders first now begun.begun begun.right went.same_system error fault;
      full = journal-seen gives plan actors orders first now begun.begun begun.right went.same_system error fault;
    }

pub returns-in-Err-clause-refused : goal.returns-in-Err-clause-refused
returns-in-Err-clause-refused g c =
    let begun = c.in_ok-built.ensures in let went = c.in-Err.ensures in let gives = g.K.Behaviours.gives in let plan = c.args.plan in
    let actors = c.args.actors.items in let sends = c.args.sends.now in let orders = lists_of plan.senders sends in
    let first = c.in_ok-built.built in let now = c.send_in_order_and_run.new.built in let error = c.in-Err.error in
    let off = off-in-order gives first now error sends (from-first gives plan first sends begun.begun begun.right.1) went.fault in
    let fault = subst (λ n. BreaksOff gives first.system now.handles.items (lists_of n sends) error) (senders-there gives plan first begun.begun).0 off in
    may-break gives plan first now begun.begun went.same_system.system (length actors) orders begun.right
    (have-run-by gives plan first now begun.begun went.same_system.system (in-order-to-last gives first now error sends went.fault)) error c.broken_off.result fault
    c.broken_off.ensures.left

pub returns-in-Err-clause-which : goal.returns-in-Err-clause-which
returns-in-Err-clause-which g c =
    begun-in-row c.args.plan.senders (length c.args.actors.items) c.args.sends.now c.broken_off.result.error c.broken_off.ensures.back.was_begun

pub returns-in-Err-clause-back : goal.returns-in-Err-clause-back
returns-in-Err-clause-back g c = none-back c.args.plan c.args.actors.items c.broken_off.result c.broken_off.ensures.back

pub returns-in_err-built-clause-which : goal.returns-in_err-built-clause-which
returns-in_err-built-clause-which g c =
    err-of (λ failed. NamesInRow c.args.plan.senders (length c.args.actors.items) c.args.sends.now failed.error) c.from_residual.result
    c.in_err-built.field-0.0 c.from_residual.ensures.1 c.in_err-built.ensures.which

pub returns-in_err-built-clause-back : goal.returns-in_err-built-clause-back
returns-in_err-built-clause-back g c =
    err-of (GivesBack c.args.plan c.args.actors.items []) c.from_residual.result c.in_err-built.field-0.0 c.from_residual.ensures.1
    c.in_err-built.ensures.back
