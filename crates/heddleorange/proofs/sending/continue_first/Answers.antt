use Rattle.std.proofs.Common.{◌≡◌, ◌∙◌, ap, length, refl, subst, sym}
use Rattle.std.specs.Prelude.{All}
use Rattle.std.proofs.lemmas.List.{with_items_is}
use Rattle.std.proofs.lemmas.Result.{on_ok_weaker}
use Rattle.mb_dispatch.proofs.Alone.{alone-ours, alone-weaker}
use Rattle.mb_dispatch.specs.Runs.{turns_in}
use Rattle.mb_gate.specs.Accessors.{pass_view}
use Rattle.mb_gate.specs.Untouched.{origin_of}
use Rattle.mb_system.specs.Members.{AreHandlesOf, IsSenderOf, StillSee, handle_numbers}
use Rattle.heddleorange.specs.BrokenOff.{BreaksFirst}
use Rattle.heddleorange.specs.RanQuietly.{OnlyFirstMade}
use Rattle.heddleorange.specs.Sent.{FoundNothing}
use Rattle.heddleorange.specs.Workers.{AllOnlyRuns}
use Rattle.heddleorange.proofs.AnyBreak.{breaks-first}
use Rattle.heddleorange.proofs.FirstMade.{adds-made}
use Rattle.heddleorange.proofs.Sent.{all-ok, err-weaker, first-number, found-nothing, ok-gives, on-ok, ran-on, see-on}
use Rattle.heddleorange.proofs.sending.continue_first.Goals as goal

pub continue_quietly-requires-clause-handles : goal.continue_quietly-requires-clause-handles
continue_quietly-requires-clause-handles g c = subst (AreHandlesOf c.args.built.now.system.gates) (sym c.deref_mut.ensures.value) c.requires.same_gates

pub continue_quietly-requires-clause-senders : goal.continue_quietly-requires-clause-senders
continue_quietly-requires-clause-senders g c = subst (All (λ s. IsSenderOf c.args.built.now.system.gates s)) (sym c.deref_mut-2.ensures.value) c.requires.senders

pub returns-clause-same_system : goal.returns-clause-same_system
returns-clause-same_system g c =
    let old = c.args.built.now in let ran = c.continue_quietly in
    let handles = with_items_is old.handles ran.new.handles (ran.auto.handles ∙ ap length c.deref_mut.ensures.value ∙ sym old.handles.ok.0) in record {
      system = refl;
      handles = ap handle_numbers handles ∙ first-number old.system c.deref_mut.result.now ran.new.handles ran.ensures.alone
          ∙ ap handle_numbers c.deref_mut.ensures.value;
      same_gates =
          subst (AreHandlesOf old.system.gates) (sym handles)
          (alone-ours old.system c.deref_mut.result.now ran.new.handles
          (subst (AreHandlesOf old.system.gates) (sym c.deref_mut.ensures.value) c.requires.same_gates) ran.ensures.alone);
    }

pub returns-clause-senders : goal.returns-clause-senders
returns-clause-senders g c =
    let old = c.args.built.now in let ran = c.continue_quietly in
    with_items_is old.senders ran.new.senders (ran.auto.senders ∙ ap length c.deref_mut-2.ensures.value ∙ sym old.senders.ok.0)
    ∙ ran.ensures.senders ∙ c.deref_mut-2.ensures.value

pub returns-clause-log_kept : goal.returns-clause-log_kept
returns-clause-log_kept g c =
    let old = c.args.built.now in let ran = c.continue_quietly in
    let handles = with_items_is old.handles ran.new.handles (ran.auto.handles ∙ ap length c.deref_mut.ensures.value ∙ sym old.handles.ok.0) in
    subst (StillSee old.handles.items) (sym handles)
    (subst (λ l. StillSee l ran.new.handles) c.deref_mut.ensures.value (see-on old.system c.deref_mut.result.now ran.new.handles ran.ensures.alone))

pub returns-clause-fault : goal.returns-clause-fault
returns-clause-fault g c =
    let old = c.args.built.now in let ran = c.continue_quietly in let gives = g.K.Behaviours.gives in
    let handles = with_items_is old.handles ran.new.handles (ran.auto.handles ∙ ap length c.deref_mut.ensures.value ∙ sym old.handles.ok.0) in
    err-weaker _ (BreaksFirst gives old.system old.handles.items _) ran.result
    (λ error broken. subst (λ l. BreaksFirst gives old.system old.handles.items l error) (sym handles)
    (subst (λ l. BreaksFirst gives old.system l ran.new.handles error) c.deref_mut.ensures.value
    (breaks-first gives old.system c.deref_mut.result.now ran.new.handles error broken))) ran.ensures.fault

pub returns-clause-runs : goal.returns-clause-runs
returns-clause-runs g c =
    let old = c.args.built.now in let ran = c.continue_quietly in let gives = g.K.Behaviours.gives in let origin = origin_of old.system.gates in
    let throughput = old.system.throughput in let first = c.deref_mut.result.now in
    let handles = with_items_is old.handles ran.new.handles (ran.auto.handles ∙ ap length c.deref_mut.ensures.value ∙ sym old.handles.ok.0) in
    ok-gives _ _ ran.result
    (λ all did. subst (AllOnlyRuns gives origin throughput old.handles.items) (sym handles)
    (subst (λ l. AllOnlyRuns gives origin throughput l ran.new.handles) c.deref_mut.ensures.value
    (ran-on gives origin throughput first ran.new.handles
    (alone-weaker _ _ (λ x y made. record { turns = made.later; made = made.made }) first ran.new.handles did)))) ran.ensures.runs

pub returns-clause-adds : goal.returns-clause-adds
returns-clause-adds g c =
    let old = c.args.built.now in let ran = c.continue_quietly in let gives = g.K.Behaviours.gives in let origin = origin_of old.system.gates in
    let throughput = old.system.throughput in let first = c.deref_mut.result.now in
    let handles = with_items_is old.handles ran.new.handles (ran.auto.handles ∙ ap length c.deref_mut.ensures.value ∙ sym old.handles.ok.0) in
    let nothing : Unit {0} = tt in
    all-ok ran.result (on-ok ran.result nothing) ran.ensures.runs ran.ensures.kept
    (λ all none more kept. (
    let made = adds-made gives origin throughput first ran.new.handles (turns_in c.args.turns) (turns_in all) more in record {
      later = made.0;
      joined = made.1;
      made =
          subst (λ l. OnlyFirstMade gives origin throughput old.handles.items l made.0) (sym handles)
          (subst (λ l. OnlyFirstMade gives origin throughput l ran.new.handles made.0) c.deref_mut.ensures.value made.2);
      kept = kept;
    }
    ))
