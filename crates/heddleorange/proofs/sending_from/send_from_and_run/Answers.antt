use Rattle.std.proofs.Common.{◌∙◌, ap, inl, inr, length, refl, subst, sym, List}
use Rattle.std.specs.Prelude.{All}
use Rattle.std.specs.List.{AllZip}
use Rattle.std.specs.Vec.{with_items}
use Rattle.std.proofs.lemmas.List.{with_items_is}
use Rattle.mb_dispatch.specs.Paired.{pairs}
use Rattle.mb_dispatch.specs.Parallel.{FirstZip}
use Rattle.mb_dispatch.specs.Sources.{BreaksPair, IsPairDone, others_of}
use Rattle.mb_system.specs.Members.{IsSenderOf, OutsideSender}
use Rattle.mb_source.specs.Given.{Gave, GaveAll}
use Rattle.heddleorange.specs.FromSources.{orders_given}
use Rattle.heddleorange.specs.BrokenOff.{BreaksHereFrom}
use Rattle.heddleorange.specs.Sent.{HaveSent}
use Rattle.mb_dispatch.proofs.Pairs.{of-firsts}
use Rattle.heddleorange.proofs.FromSources.{many-given, of-seconds, pairs-sent}
use Rattle.heddleorange.proofs.PassedOn.{none-of-err}
use Rattle.heddleorange.proofs.Sent.{err-of}
use Rattle.heddleorange.proofs.SentAndRun.{sent-and-run}
use Rattle.heddleorange.proofs.sending_from.send_from_and_run.Goals as goal

pub send_from_each-requires : goal.send_from_each-requires
send_from_each-requires g c = record {
  same_count = ap length c.deref_mut.ensures.value ∙ c.requires.same_count;
  same_gates = subst (All (λ s. IsSenderOf c.args.built.now.system.gates s)) (sym c.deref_mut.ensures.value) c.requires.together.senders;
}

pub run_first-requires : goal.run_first-requires
run_first-requires g c =
    let old = c.args.built.now in let gates = old.system.gates in let sent = c.send_from_each in let now = sent.new.senders in
    let lent = ap length c.deref_mut.ensures.value ∙ c.requires.same_count in
    record {
      same_gates = c.requires.together.handles;
      senders =
          subst (All (λ s. IsSenderOf gates s)) (sym (with_items_is old.senders now (sent.auto.senders ∙ ap length c.deref_mut.ensures.value ∙ sym old.senders.ok.0)))
          (of-firsts _ (λ (s : OutsideSender). IsSenderOf gates s) (λ a b kept. kept.same_gates) _ _ _ _ lent sent.auto.senders sent.ensures.ended.keeps);
      not_empty = c.requires.not_empty;
    }

pub returns-clause-ran : goal.returns-clause-ran
returns-clause-ran g c =
    let old = c.args.built.now in let gates = old.system.gates in let was = old.senders in let sent = c.send_from_each in let now = sent.new.senders in
    let first = c.args.sources.now in let last = sent.new.sources in let S = g.S.Source in
    let lent = ap length c.deref_mut.ensures.value ∙ c.requires.same_count in let same = sent.auto.senders in let long = sent.auto.sources in
    let orders = orders_given (others_of gates) first last in let ended = c.in_ok-send_from_each.ensures.ended in
    let did = subst (λ l. HaveSent gates orders l now) c.deref_mut.ensures.value
    (pairs-sent gates S.gives S.takes_back _ _ _ _ lent same long ended.done) in let ran = c.run_first.ensures in
    let is = ran.senders ∙ with_items_is was now (did.same_count ∙ sym was.ok.0) in
    sent-and-run g.K.Behaviours.gives orders old c.run_first.new.built now (c.requires.same_count ∙ sym (many-given (others_of gates) first last long))
    c.requires.together did (of-firsts _ (λ (s : OutsideSender). IsSenderOf gates s) (λ a b kept. kept.same_gates) _ _ _ _ lent same ended.keeps) is
    ran.same_system.system ran.same_system.same_gates ran.log_kept c.in_ok-run_first.ensures.runs

pub returns-clause-gave : goal.returns-clause-gave
returns-clause-gave g c =
    let old = c.args.built.now in let gates = old.system.gates in let was = old.senders in let sent = c.send_from_each in let now = sent.new.senders in
    let first = c.args.sources.now in let last = sent.new.sources in let S = g.S.Source in
    let lent = ap length c.deref_mut.ensures.value ∙ c.requires.same_count in let same = sent.auto.senders in let long = sent.auto.sources in
    of-seconds _ (Gave S.gives S.takes_back (others_of gates)) (λ a b kept. kept.gave) _ _ _ _ lent same long sent.ensures.ended.keeps

pub returns-in_err-run_first-clause-gave : goal.returns-in_err-run_first-clause-gave
returns-in_err-run_first-clause-gave g c =
    let old = c.args.built.now in let gates = old.system.gates in let was = old.senders in let sent = c.send_from_each in let now = sent.new.senders in
    let first = c.args.sources.now in let last = sent.new.sources in let S = g.S.Source in
    let lent = ap length c.deref_mut.ensures.value ∙ c.requires.same_count in let same = sent.auto.senders in let long = sent.auto.sources in
    of-seconds _ (Gave S.gives S.takes_back (others_of gates)) (λ a b kept. kept.gave) _ _ _ _ lent same long sent.ensures.ended.keeps

pub returns-in_err-send_from_each-clause-gave : goal.returns-in_err-send_from_each-clause-gave
returns-in_err-send_from_each-clause-gave g c =
    let old = c.args.built.now in let gates = old.system.gates in let was = old.senders in let sent = c.send_from_each in let now = sent.new.senders in
    let first = c.args.sources.now in let last = sent.new.sources in let S = g.S.Source in
    let lent = ap length c.deref_mut.ensures.value ∙ c.requires.same_count in let same = sent.auto.senders in let long = sent.auto.sources in
    of-seconds _ (Gave S.gives S.takes_back (others_of gates)) (λ a b kept. kept.gave) _ _ _ _ lent same long sent.ensures.ended.keeps

pub returns-clause-gave_all : goal.returns-clause-gave_all
returns-clause-gave_all g c =
    let old = c.args.built.now in let gates = old.system.gates in let was = old.senders in let sent = c.send_from_each in let now = sent.new.senders in
    let first = c.args.sources.now in let last = sent.new.sources in let S = g.S.Source in
    let lent = ap length c.deref_mut.ensures.value ∙ c.requires.same_count in let same = sent.auto.senders in let long = sent.auto.sources in
    of-seconds _ (GaveAll S.gives S.takes_back (others_of gates)) (λ a b did. did.gave) _ _ _ _ lent same long
    c.in_ok-send_from_each.ensures.ended.done

pub returns-clause-same_system : goal.returns-clause-same_system
returns-clause-same_system g c =
    let same = c.run_first.ensures.same_system in record { system = same.system; handles = same.handles; same_gates = same.same_gates }

pub returns-in_err-run_first-clause-same_system : goal.returns-in_err-run_first-clause-same_system
returns-in_err-run_first-clause-same_system g c =
    let same = c.run_first.ensures.same_system in record { system = same.system; handles = same.handles; same_gates = same.same_gates }

pub returns-in_err-send_from_each-clause-same_system : goal.returns-in_err-send_from_each-clause-same_system
returns-in_err-send_from_each-clause-same_system g c = record { system = refl; handles = refl; same_gates = c.requires.together.handles }

pub returns-in_err-run_first-clause-ran : goal.returns-in_err-run_first-clause-ran
returns-in_err-run_first-clause-ran g c =
    none-of-err _ c.from_residual-in_err-run_first.result c.in_err-run_first.field-0.0 c.from_residual-in_err-run_first.ensures.1

pub returns-in_err-run_first-clause-gave_all : goal.returns-in_err-run_first-clause-gave_all
returns-in_err-run_first-clause-gave_all g c =
    none-of-err _ c.from_residual-in_err-run_first.result c.in_err-run_first.field-0.0 c.from_residual-in_err-run_first.ensures.1

pub returns-in_err-send_from_each-clause-ran : goal.returns-in_err-send_from_each-clause-ran
returns-in_err-send_from_each-clause-ran g c =
    none-of-err _ c.from_residual.result c.in_err-send_from_each.field-0.0 c.from_residual.ensures.1

pub returns-in_err-send_from_each-clause-gave_all : goal.returns-in_err-send_from_each-clause-gave_all
returns-in_err-send_from_each-clause-gave_all g c =
    none-of-err _ c.from_residual.result c.in_err-send_from_each.field-0.0 c.from_residual.ensures.1

pub returns-in_err-send_from_each-clause-fault : goal.returns-in_err-send_from_each-clause-fault
returns-in_err-send_from_each-clause-fault g c =
    let old = c.args.built.now in let gates = old.system.gates in let sent = c.send_from_each in let now = sent.new.senders in
    let first = c.args.sources.now in let last = sent.new.sources in let S = g.S.Source in let error = c.in_err-send_from_each.field-0.0 in
    let items = with_items_is old.senders now (sent.auto.senders ∙ ap length c.deref_mut.ensures.value ∙ sym old.senders.ok.0) in
    err-of (BreaksHereFrom g.K.Behaviours.gives S.gives S.takes_back first last old (record old { senders = with_items old.senders now }))
    c.from_residual.result error c.from_residual.ensures.1 (inl (
      subst (λ (p : List OutsideSender × List OutsideSender). FirstZip (IsPairDone gates S.gives S.takes_back) (λ o n. BreaksPair gates o n error)
          (pairs p.0 first) (pairs p.1 last)) (λ i. (c.deref_mut.ensures.value i, sym items i)) c.in_err-send_from_each.ensures.ended.fails,
      refl,
    ))

pub returns-in_err-run_first-clause-fault : goal.returns-in_err-run_first-clause-fault
returns-in_err-run_first-clause-fault g c =
    let old = c.args.built.now in let gates = old.system.gates in let sent = c.send_from_each in let now = sent.new.senders in
    let first = c.args.sources.now in let last = sent.new.sources in let S = g.S.Source in let error = c.in_err-run_first.field-0.0 in
    let items = with_items_is old.senders now (sent.auto.senders ∙ ap length c.deref_mut.ensures.value ∙ sym old.senders.ok.0) in
    let is = c.run_first.ensures.senders ∙ items in
    err-of (BreaksHereFrom g.K.Behaviours.gives S.gives S.takes_back first last old c.run_first.new.built) c.from_residual-in_err-run_first.result error
    c.from_residual-in_err-run_first.ensures.1 (inr (
      subst (λ (p : List OutsideSender × List OutsideSender). AllZip (IsPairDone gates S.gives S.takes_back) (pairs p.0 first) (pairs p.1 last))
          (λ i. (c.deref_mut.ensures.value i, sym is i)) c.in_ok-send_from_each.ensures.ended.done,
      c.in_err-run_first.ensures.fault,
    ))
