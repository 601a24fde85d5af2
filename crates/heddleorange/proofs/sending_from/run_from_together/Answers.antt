use Rattle.std.proofs.Common.{◌∙◌, ap, length, refl, subst, sym}
use Rattle.std.specs.Prelude.{All}
use Rattle.std.proofs.lemmas.List.{with_items_is}
use Rattle.mb_dispatch.specs.Sources.{others_of}
use Rattle.mb_gate.specs.Untouched.{origin_of}
use Rattle.mb_source.specs.Given.{Gave, GaveAll}
use Rattle.mb_system.specs.Members.{AreHandlesOf, IsSenderOf, OutsideSender, StillSee, handle_numbers}
use Rattle.heddleorange.specs.FromSources.{orders_given}
use Rattle.heddleorange.specs.Sent.{HaveSent}
use Rattle.heddleorange.specs.Workers.{AllOnlyRuns}
use Rattle.heddleorange.proofs.BrokenOff.{same-break, same-runs}
use Rattle.mb_dispatch.proofs.Pairs.{of-firsts}
use Rattle.heddleorange.proofs.FromSources.{many-given, of-seconds, ok-then, pairs-sent}
use Rattle.heddleorange.proofs.Sent.{err-weaker, ok-both}
use Rattle.heddleorange.proofs.SentAndRun.{sent-and-run}
use Rattle.heddleorange.proofs.sending_from.run_from_together.Goals as goal

pub run_from-requires-clause-handles : goal.run_from-requires-clause-handles
run_from-requires-clause-handles g c κs within =
    subst (AreHandlesOf c.args.built.now.system.gates) (sym c.deref_mut.ensures.value) c.requires.together.handles

pub run_from-requires-clause-same_count : goal.run_from-requires-clause-same_count
run_from-requires-clause-same_count g c κs within =
    ap length c.deref_mut-2.ensures.value ∙ c.requires.same_count

pub run_from-requires-clause-same_gates : goal.run_from-requires-clause-same_gates
run_from-requires-clause-same_gates g c κs within =
    subst (All (λ s. IsSenderOf c.args.built.now.system.gates s)) (sym c.deref_mut-2.ensures.value) c.requires.together.senders

pub returns-clause-same_system : goal.returns-clause-same_system
returns-clause-same_system g c =
    let old = c.args.built.now in let ran = c.run_from in
    let handles = with_items_is old.handles ran.new.handles (ran.auto.handles ∙ ap length c.deref_mut.ensures.value ∙ sym old.handles.ok.0) in record {
      system = refl;
      handles = ap handle_numbers handles ∙ ran.ensures.keeps_handles.handles.1 ∙ ap handle_numbers c.deref_mut.ensures.value;
      same_gates = subst (AreHandlesOf old.system.gates) (sym handles) ran.ensures.keeps_handles.handles.0;
    }

pub returns-clause-ran : goal.returns-clause-ran
returns-clause-ran g c =
    let old = c.args.built.now in let gates = old.system.gates in let ran = c.run_from in let S = g.S.Source in
    let first = c.args.sources.now in let last = ran.new.sources in
    let lent = ap length c.deref_mut-2.ensures.value ∙ c.requires.same_count in let same = ran.auto.senders in let long = ran.auto.sources in
    let handles = with_items_is old.handles ran.new.handles (ran.auto.handles ∙ ap length c.deref_mut.ensures.value ∙ sym old.handles.ok.0) in
    let senders = with_items_is old.senders ran.new.senders (same ∙ ap length c.deref_mut-2.ensures.value ∙ sym old.senders.ok.0) in
    let orders = orders_given (others_of gates) first last in let runs = AllOnlyRuns g.K.Behaviours.gives (origin_of gates) old.system.throughput in
    ok-both ran.result ran.ensures.done ran.ensures.worked (λ done worked.
    sent-and-run g.K.Behaviours.gives orders old _ ran.new.senders (c.requires.same_count ∙ sym (many-given (others_of gates) first last long))
    c.requires.together
    (subst (λ l. HaveSent gates orders l ran.new.senders) c.deref_mut-2.ensures.value (pairs-sent gates S.gives S.takes_back _ _ _ _ lent same long done))
    (of-firsts _ (λ (s : OutsideSender). IsSenderOf gates s) (λ a b kept. kept.same_gates) _ _ _ _ lent same ran.ensures.keeps) senders refl
    (subst (AreHandlesOf gates) (sym handles) ran.ensures.keeps_handles.handles.0)
    (subst (StillSee old.handles.items) (sym handles) (subst (λ l. StillSee l ran.new.handles) c.deref_mut.ensures.value ran.ensures.keeps_handles.log_kept))
    (subst (runs old.handles.items) (sym handles) (subst (λ l. runs l ran.new.handles) c.deref_mut.ensures.value worked.ran)))

pub returns-clause-fault : goal.returns-clause-fault
returns-clause-fault g c =
    let old = c.args.built.now in let ran = c.run_from in let S = g.S.Source in let first = c.args.sources.now in let last = ran.new.sources in
    let handles = with_items_is old.handles ran.new.handles (ran.auto.handles ∙ ap length c.deref_mut.ensures.value ∙ sym old.handles.ok.0) in
    let senders = with_items_is old.senders ran.new.senders (ran.auto.senders ∙ ap length c.deref_mut-2.ensures.value ∙ sym old.senders.ok.0) in
    err-weaker _ _ ran.result (λ error broken. record {
      breaks = same-break old.system.gates S.gives S.takes_back g.K.Behaviours.gives old.system first last _ _ _ _ _ _ _ _ error c.deref_mut.ensures.value
          (sym handles) c.deref_mut-2.ensures.value (sym senders) broken;
      runs = same-runs g.K.Behaviours.gives old.system _ _ _ _ c.deref_mut.ensures.value (sym handles) ran.ensures.keeps_handles.runs;
    }) ran.ensures.fault

pub returns-clause-gave : goal.returns-clause-gave
returns-clause-gave g c =
    let old = c.args.built.now in let gates = old.system.gates in let ran = c.run_from in let S = g.S.Source in
    let first = c.args.sources.now in let last = ran.new.sources in
    let lent = ap length c.deref_mut-2.ensures.value ∙ c.requires.same_count in let same = ran.auto.senders in let long = ran.auto.sources in
    let handles = with_items_is old.handles ran.new.handles (ran.auto.handles ∙ ap length c.deref_mut.ensures.value ∙ sym old.handles.ok.0) in
    let senders = with_items_is old.senders ran.new.senders (same ∙ ap length c.deref_mut-2.ensures.value ∙ sym old.senders.ok.0) in
    of-seconds _ (Gave S.gives S.takes_back (others_of gates)) (λ a b kept. kept.gave) _ _ _ _ lent same long ran.ensures.keeps

pub returns-clause-gave_all : goal.returns-clause-gave_all
returns-clause-gave_all g c =
    let old = c.args.built.now in let gates = old.system.gates in let ran = c.run_from in let S = g.S.Source in
    let first = c.args.sources.now in let last = ran.new.sources in
    let lent = ap length c.deref_mut-2.ensures.value ∙ c.requires.same_count in let same = ran.auto.senders in let long = ran.auto.sources in
    let handles = with_items_is old.handles ran.new.handles (ran.auto.handles ∙ ap length c.deref_mut.ensures.value ∙ sym old.handles.ok.0) in
    let senders = with_items_is old.senders ran.new.senders (same ∙ ap length c.deref_mut-2.ensures.value ∙ sym old.senders.ok.0) in
    ok-then ran.result ran.ensures.done (of-seconds _ (GaveAll S.gives S.takes_back (others_of gates)) (λ a b did. did.gave) _ _ _ _ lent same long)
