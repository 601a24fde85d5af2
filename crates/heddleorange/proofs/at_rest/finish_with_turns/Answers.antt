use Rattle.std.proofs.Common.{ap, subst, sym, ◌∙◌}
use Rattle.mb_gate.specs.Accessors.{actors_of}
use Rattle.mb_shutdown.proofs.Wholly.{of-whole}
use Rattle.heddleorange.specs.Remains.{IsBrokenOff}
use Rattle.heddleorange.proofs.AnyBreak.{off-first}
use Rattle.heddleorange.proofs.Answered.{all-watches-answered}
use Rattle.heddleorange.proofs.AskedFor.{all-get-asked, all-notices-true, all-put-counted, all-released}
use Rattle.heddleorange.proofs.GoingOn.{busy-of, complete-on, complete-read, full-broke, gone-on, not-empty, own-some, somebody-broke, together-on, together-read, told-broken, within-gone}
use Rattle.heddleorange.proofs.Breaking.{own-handles}
use Rattle.heddleorange.proofs.FirstMade.{tells-turns, turns-on}
use Rattle.heddleorange.proofs.LastRun.{first-to-last}
use Rattle.heddleorange.proofs.NoReport.{brings-own-handles, untold}
use Rattle.heddleorange.proofs.WholeRun.{story}
use Rattle.heddleorange.proofs.at_rest.finish_with_turns.Goals as goal

pub returns-in-Ok-clause-story : goal.returns-in-Ok-clause-story
returns-in-Ok-clause-story g c = λ plan orders right was.
    (let handle = c.in-Ok.ensures in let gives = g.K.Behaviours.gives in let ran = c.loop.invariant.3 plan orders was in
    story gives plan ran.first ran.begun orders c.loop.built right ran.system ran.handles ran.sent g.K.Behaviours.after
    c.in-Ok.report handle.report.whole.0 handle.report.whole.2.0 ran.log_kept ran.runs handle.report.whole.1 handle.report.whole.2.1 handle.report.whole.2.2 handle.report.letters handle.report.seen.0 handle.report.seen.1 handle.adds_up.home
    (all-released gives plan orders ran.first c.loop.built ran.begun ran.system right ran.sent ran.runs c.in-Ok.report handle.adds_up.releases)
    (all-put-counted gives plan orders ran.first c.loop.built ran.begun ran.system right ran.sent ran.runs c.in-Ok.report handle.adds_up.put)
    (all-get-asked gives plan orders ran.first c.loop.built ran.begun ran.system right ran.sent ran.runs c.in-Ok.report
    handle.report.whole.2.2.same_count.0 handle.adds_up.put handle.adds_up.releases (λ id e a is here. (handle.report.whole.2.2.actors id e a is here).0.phase_is) handle.report.seen.0 handle.report.seen.1)
    (all-notices-true gives plan orders ran.first c.loop.built ran.begun ran.system right ran.sent ran.runs g.K.Behaviours.after
    c.in-Ok.report handle.report.whole.2.2.same_count.0 handle.adds_up.put (λ id e a is here. (handle.report.whole.2.2.actors id e a is here).0) handle.report.seen.0)
    (all-watches-answered gives plan orders ran.first c.loop.built ran.begun ran.system right ran.sent ran.runs c.in-Ok.report
    handle.report.whole.2.2.same_count.0 handle.adds_up.releases handle.report.seen.0 handle.report.seen.1))

pub left_to_run-requires-clause-whole : goal.left_to_run-requires-clause-whole
left_to_run-requires-clause-whole g c =
    (actors_of c.loop.built.system.gates, of-whole c.loop.built c.in-Err.error c.loop.invariant.1 c.in-Err.ensures.refused)

pub left_to_run-requires-clause-own_handles : goal.left_to_run-requires-clause-own_handles
left_to_run-requires-clause-own_handles g c =
    brings-own-handles c.loop.built c.in-Err.error c.loop.invariant.0.handles c.in-Err.ensures.refused

pub returns-in-Err-left_to_run-clause-refused : goal.returns-in-Err-left_to_run-clause-refused
returns-in-Err-left_to_run-clause-refused g c = λ plan actors orders right limit was.
    (let ran = c.loop.invariant.3 plan orders was in
    untold g.K.Behaviours.gives plan ran.first ran.begun c.loop.built ran.system ran.runs actors orders c.in-Err.error c.in-Err-left_to_run.failed right
    c.loop.invariant.0.handles c.in-Err.ensures.refused c.in-Err.ensures.disagreement c.in-Err-left_to_run.ensures.why)

pub continue_first-requires : goal.continue_first-requires
continue_first-requires g c =
    let left = c.in-Ok-left_to_run.left in let again = c.in-Ok-left_to_run.ensures.again in
    let busy = busy-of c.loop.built left c.in-Err.error again.0 again.1 c.in-Err.ensures.refused in
    let together = together-read again.0.0 c.loop.built left busy c.loop.invariant.0 in
    let complete = complete-read again.0.0 c.loop.built left busy c.loop.invariant.1 in
    record { same_gates = together.handles; senders = together.senders; not_empty = not-empty left.handles.items (own-some left together complete).1 }

pub broken_off-requires : goal.broken_off-requires
broken_off-requires g c =
    let left = c.in-Ok-left_to_run.left in let again = c.in-Ok-left_to_run.ensures.again in
    let busy = busy-of c.loop.built left c.in-Err.error again.0 again.1 c.in-Err.ensures.refused in
    let together = together-read again.0.0 c.loop.built left busy c.loop.invariant.0 in
    let complete = complete-read again.0.0 c.loop.built left busy c.loop.invariant.1 in
    let gives = g.K.Behaviours.gives in let now = c.continue_first.new.built in let broke = c.in-Err-continue_first.ensures in let same = broke.same_system in
    let fault = c.in-Err-continue_first.fault in let within = c.loop.invariant.2 in
    let off = off-first gives left.system left.handles.items now.handles.items fault broke.fault in record {
      own_handles = own-handles left now same.system (not-empty left.handles.items (own-some left together complete).1) same.handles same.same_gates;
      somebody = somebody-broke gives again.0.0 c.loop.built left now busy same.system fault off c.args.limit within;
      full = full-broke gives again.0.0 c.loop.built left now busy same.system fault off c.args.limit within;
    }

pub returns-in-Err-continue_first-clause-refused : goal.returns-in-Err-continue_first-clause-refused
returns-in-Err-continue_first-clause-refused g c = λ plan actors orders right limit was.
    (let left = c.in-Ok-left_to_run.left in let again = c.in-Ok-left_to_run.ensures.again in let broke = c.in-Err-continue_first.ensures in
    let now = c.continue_first.new.built in let fault = c.in-Err-continue_first.fault in let gives = g.K.Behaviours.gives in
    let busy = busy-of c.loop.built left c.in-Err.error again.0 again.1 c.in-Err.ensures.refused in
    let off = off-first gives left.system left.handles.items now.handles.items fault broke.fault in
    told-broken gives again.0.0 c.loop.built left now busy broke.same_system.system fault off plan orders (c.loop.invariant.3 plan orders was)
    (first-to-last gives left.system left.handles.items now.handles.items fault broke.fault) actors right
    c.broken_off.result (subst (λ n. IsBrokenOff gives now fault n c.broken_off.result) (sym limit) c.broken_off.ensures.left))

pub returns-in-Ok-clause-turns : goal.returns-in-Ok-clause-turns
returns-in-Ok-clause-turns g c = λ plan orders right was.
    (let handle = c.in-Ok.ensures in let built = c.loop.built in
    tells-turns g.K.Behaviours.gives plan orders built c.loop.turns right (c.loop.invariant.4 plan orders was) c.in-Ok.report
    (handle.report.whole.2.2.same_count.0 ∙ built.system.directory) handle.report.seen.0 handle.adds_up.releases)

pub loop-preserved : goal.loop-preserved
loop-preserved g c =
    let left = c.in-Ok-left_to_run.left in let again = c.in-Ok-left_to_run.ensures.again in let ran = c.in-Ok-continue_first.ensures in
    let now = c.continue_first.new.built in let gives = g.K.Behaviours.gives in let old = c.loop.built in let id = again.0.0 in
    let busy = busy-of old left c.in-Err.error again.0 again.1 c.in-Err.ensures.refused in
    let senders = ran.senders in (
      together-on left now ran.same_system.system ran.same_system.handles senders ran.same_system.same_gates (together-read id old left busy c.loop.invariant.0),
      complete-on left now ran.same_system.system ran.same_system.handles senders (complete-read id old left busy c.loop.invariant.1),
      within-gone gives id old left now busy ran.same_system.system ran.same_system.handles senders ran.log_kept ran.runs c.args.limit c.loop.invariant.2,
      λ plan orders was.
          gone-on gives id old left now busy ran.same_system.system ran.same_system.handles senders ran.log_kept ran.runs plan orders (c.loop.invariant.3 plan orders was),
      λ plan orders was.
          turns-on gives plan orders id old left now c.loop.turns c.in-Ok-continue_first.all busy ran.same_system.system senders ran.adds
          (c.loop.invariant.4 plan orders was),
    )
