use Rattle.std.proofs.Common.{◌∙◌, ◌-◌, ◌++◌, ap, subst, sym}
use Rattle.std.specs.Prelude.{option_to_list}
use Rattle.std.proofs.lemmas.Result.{on_ok_weaker}
use Rattle.mb_source.specs.Receivers.{has_nobody}
use Rattle.mb_gate.specs.Accessors.{actors_of}
use Rattle.mb_system.specs.Members.{sender_caller}
use Rattle.mb_system.specs.Obligations.{HasRetried}
use Rattle.mb_dispatch.specs.Sources.{IsPairDone, orders_since}
use Rattle.mb_dispatch.proofs.Sending.{sent-still}
use Rattle.mb_dispatch.proofs.FromSource.{keeps-done, keeps-stopped, pair-done, up-to-none, up-to-returned, up-to-sent}
use Rattle.mb_dispatch.proofs.from_source.send_from.Goals as goal

pub loop-init : goal.loop-init
loop-init g c = up-to-none _ _ _ _ _ c.requires.same_gates

pub retry_refused-requires : goal.retry_refused-requires
retry_refused-requires g c = record { same_gates = c.loop.invariant.same_gates }

pub send_all-requires : goal.send_all-requires
send_all-requires g c = record { same_gates = c.loop.invariant.same_gates }

pub loop-preserved-then-has_nobody : goal.loop-preserved-then-has_nobody
loop-preserved-then-has_nobody g c =
    let order = c.in-Some-next.order in let asked = c.next-in-loop in
    let is = c.has_nobody.ensures ∙ ap (λ n. has_nobody n order) (c.saturating_sub.ensures ∙ ap (λ n. n - 1) c.actors.ensures) in
    up-to-returned _ _ _ c.args.sender.now c.loop.sender c.args.source.now c.loop.source asked.new.self order c.loop.invariant
    (asked.ensures.recorded ∙ ap (λ o. c.loop.source.given ++ option_to_list o) c.in-Some-next.is)
    (subst (λ o. g.S.Source.gives c.loop.source.source o asked.new.self.source) c.in-Some-next.is asked.ensures.gives) c.take_back.new.self
    (sym is ∙ c.if-has_nobody.true) c.take_back.ensures.took c.take_back.ensures.same

pub loop-preserved : goal.loop-preserved
loop-preserved g c =
    let order = c.in-Some-next.order in let asked = c.next-in-loop in let one = c.in_ok-send_all.ensures.done in
    let is = c.has_nobody.ensures ∙ ap (λ n. has_nobody n order) (c.saturating_sub.ensures ∙ ap (λ n. n - 1) c.actors.ensures) in
    up-to-sent _ _ _ c.args.sender.now c.loop.sender c.args.source.now c.loop.source asked.new.self order c.loop.invariant
    (asked.ensures.recorded ∙ ap (λ o. c.loop.source.given ++ option_to_list o) c.in-Some-next.is)
    (subst (λ o. g.S.Source.gives c.loop.source.source o asked.new.self.source) c.in-Some-next.is asked.ensures.gives)
    (sym is ∙ c.if-has_nobody.false) c.send_all.new.sender c.send_all.ensures.keeps.same_gates one.sent one.obligations c.send_all.ensures.keeps.claims

pub returns-in_err-send_all-clause-keeps : goal.returns-in_err-send_all-clause-keeps
returns-in_err-send_all-clause-keeps g c =
    let order = c.in-Some-next.order in let asked = c.next-in-loop in
    let is = c.has_nobody.ensures ∙ ap (λ n. has_nobody n order) (c.saturating_sub.ensures ∙ ap (λ n. n - 1) c.actors.ensures) in
    keeps-stopped _ _ _ c.args.sender.now c.loop.sender c.args.source.now c.loop.source asked.new.self order c.loop.invariant
    (asked.ensures.recorded ∙ ap (λ o. c.loop.source.given ++ option_to_list o) c.in-Some-next.is)
    (subst (λ o. g.S.Source.gives c.loop.source.source o asked.new.self.source) c.in-Some-next.is asked.ensures.gives)
    (sym is ∙ c.if-has_nobody.false) c.send_all.new.sender c.send_all.ensures.keeps.same_gates c.send_all.ensures.keeps.same_sender
    c.in_err-send_all.ensures.stopped c.send_all.ensures.keeps.claims

pub returns-in_default-clause-keeps : goal.returns-in_default-clause-keeps
returns-in_default-clause-keeps g c =
    let asked = c.next-in-loop in let did = c.retry_refused.ensures in
    keeps-done _ _ _ c.args.sender.now c.loop.sender c.retry_refused.new.sender c.args.source.now c.loop.source asked.new.self c.loop.invariant
    (asked.ensures.recorded ∙ ap (λ o. c.loop.source.given ++ option_to_list o) c.in_default.is)
    (subst (λ o. g.S.Source.gives c.loop.source.source o asked.new.self.source) c.in_default.is asked.ensures.gives)
    (sent-still (orders_since c.args.system.now.gates c.args.source.now c.loop.source) c.args.sender.now c.loop.sender c.retry_refused.new.sender
    did.sends_nothing.same.1 did.looks_for_work.looks c.loop.invariant.sent) did.sends_nothing.same_gates did.sends_nothing.same_sender
    did.forgets_nothing.handed

pub returns-in_default-clause-done : goal.returns-in_default-clause-done
returns-in_default-clause-done g c =
    let asked = c.next-in-loop in let did = c.retry_refused.ensures in let gates = c.args.system.now.gates in
    let done : HasRetried (actors_of gates) (sender_caller c.loop.sender.registrar) (sender_caller c.retry_refused.new.sender.registrar)
    → IsPairDone gates g.S.Source.gives g.S.Source.takes_back (c.args.sender.now, c.args.source.now)
    (c.retry_refused.new.sender, asked.new.self) =
    λ retried. pair-done _ _ _ c.args.sender.now c.loop.sender c.retry_refused.new.sender c.args.source.now c.loop.source asked.new.self c.loop.invariant
    (asked.ensures.recorded ∙ ap (λ o. c.loop.source.given ++ option_to_list o) c.in_default.is)
    (subst (λ o. g.S.Source.gives c.loop.source.source o asked.new.self.source) c.in_default.is asked.ensures.gives)
    (sent-still (orders_since gates c.args.source.now c.loop.source) c.args.sender.now c.loop.sender c.retry_refused.new.sender
    did.sends_nothing.same.1 did.looks_for_work.looks c.loop.invariant.sent) did.forgets_nothing.obligations retried.done in
    on_ok_weaker _ done did.retried
