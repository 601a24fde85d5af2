-- An event that is not allowed ends every run, and at the end the state is the one that the events lead to.
use Rattle.mb_core.proofs.HeldLemmas.{held_run}
use Rattle.mb_core.proofs.MailboxLemmas.{mailbox_run}
use Rattle.mb_core.proofs.RunLemmas.{begins_here, exactly_here, goes_on, leads_here, no_run}
use Rattle.mb_core.proofs.SettledLemmas.{settled_run}
use Rattle.mb_core.specs.Run.{LeadsTo}
use Rattle.mb_core.proofs.run.replay.Goals as goal

pub returns-then-not-branch-clause-exact : goal.returns-then-not-branch-clause-exact
returns-then-not-branch-clause-exact c = λ state. (
  λ is. cc,
  λ leads. absurd (no_run _ c.loop-event.model c.make.new.self c.args.events.now c.loop-event.event-index c.event-item.result
      c.in_ok-make.field-0 c.loop-event-test.true c.event-item.is c.in_ok-make.ensures c.if-not-branch.true c.loop-event.invariant
      state leads.run),
)

leads : (c : goal.After-loop-event) → LeadsTo c.args.words.now c.args.parties c.args.events.now c.loop-event.model
leads c =
    leads_here c.args.words.now c.args.parties c.args.events.now c.in_ok-model.field-0 c.in-Some.model c.loop-event.model
    c.loop-event.event-index c.in_ok-model.ensures.starts.0 c.in-Some.is c.loop-event-test.false c.loop-event.invariant

pub loop-event-init : goal.loop-event-init
loop-event-init c =
    begins_here c.args.words.now c.args.parties c.args.events.now c.in_ok-model.field-0 c.in-Some.model
    c.in_ok-model.ensures.at_start c.in-Some.is

pub loop-event-preserved : goal.loop-event-preserved
loop-event-preserved c =
    goes_on _ c.loop-event.model c.make.new.self c.args.events.now c.loop-event.event-index c.event-item.result
    c.in_ok-make.field-0 c.loop-event-test.true c.event-item.is c.in_ok-make.ensures c.if-not-branch.false
    c.loop-event.invariant

pub returns-clause-exact : goal.returns-clause-exact
returns-clause-exact c =
    exactly_here c.args.words.now c.args.parties c.args.events.now c.loop-event.model c.loop-event.event-index (leads c)
    c.loop-event-test.false c.loop-event.invariant

pub returns-clause-held : goal.returns-clause-held
returns-clause-held c = held_run _ _ _ _ (leads c)

pub returns-clause-possible : goal.returns-clause-possible
returns-clause-possible c = mailbox_run _ _ _ _ (leads c)

pub returns-clause-settled : goal.returns-clause-settled
returns-clause-settled c = settled_run _ _ _ _ (leads c)
