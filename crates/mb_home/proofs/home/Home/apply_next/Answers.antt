use Rattle.mb_home.proofs.StepLemmas.{settled-applied, applies-next, may-take}
use Rattle.mb_home.proofs.LeadLemmas.{applied-leads}
use Rattle.mb_home.proofs.home.Home.apply_next.Goals as goal

pub apply-requires : goal.apply-requires
apply-requires g c =
    record {
      may_take =
          may-take c.args.self.now (g.K.Behaviours.gives c.args.self.now.cell.who.this.0) c.requires.settled c.requires.not_ended
          c.next_due-number.new.self
          c.next_due-number.result.0 c.next_due-number.result.1 c.requires.ready c.requires.carried_out c.next_due-number.ensures.due
          c.next_due-number.ensures.same;
    }

pub returns-clause-applied : goal.returns-clause-applied
returns-clause-applied g c =
    applies-next c.args.self.now c.next_due-number.new.self c.apply.new.self c.next_due-number.result.0 c.next_due-number.result.1
    c.next_due-number.ensures.due c.next_due-number.ensures.same c.apply.ensures.taken c.apply.ensures.same

pub returns-clause-settled : goal.returns-clause-settled
returns-clause-settled g c =
    settled-applied c.args.self.now c.next_due-number.new.self c.apply.new.self g.K.Behaviours.gives c.next_due-number.result.0
    c.next_due-number.result.1
    c.requires.settled c.requires.not_ended c.requires.room c.next_due-number.ensures.due c.next_due-number.ensures.same
    c.apply.ensures.taken c.apply.ensures.lawful c.apply.ensures.aside c.apply.ensures.same

pub returns-clause-leads : goal.returns-clause-leads
returns-clause-leads g c =
    applied-leads c.args.self.now c.next_due-number.new.self c.apply.new.self (g.K.Behaviours.gives c.args.self.now.cell.who.this.0)
    (g.K.Behaviours.gives c.apply.new.self.cell.who.this.0) c.next_due-number.result.0 c.next_due-number.result.1
    c.requires.settled c.next_due-number.ensures.same c.apply.ensures.taken c.apply.ensures.lawful
