use Rattle.std.proofs.Common.{[], ◌++◌, ◌∙◌, refl, inl}
use Rattle.mb_gate.specs.Accessors.{pass_view}
use Rattle.mb_register.proofs.Joining.{joins-none}
use Rattle.mb_register.proofs.Views.{looks-then}
use Rattle.mb_register.proofs.ClaimCounts.{hands-after}
use Rattle.mb_register.proofs.Dues.{due-later, got-none, got-handed}
use Rattle.mb_register.proofs.registrar.Registrar.register.Goals as goal

pub returns-then-not-can_be_scheduled-clause-registers : goal.returns-then-not-can_be_scheduled-clause-registers
returns-then-not-can_be_scheduled-clause-registers g c =
    let read = c.can_be_scheduled.ensures.only_reads in record { same_gates = (read.same_gates, refl); looks = read.looks; told = refl }

pub returns-clause-registers : goal.returns-clause-registers
returns-clause-registers g c =
    let read = c.can_be_scheduled.ensures.only_reads in let then = c.register_due.ensures.registers in record {
      same_gates = (then.same_gates.0 ∙ read.same_gates, then.same_gates.1);
      looks = looks-then c.args.id.0 (pass_view c.args.self.now.pass) (pass_view c.can_be_scheduled.new.pass) (pass_view c.register_due.new.self.pass) read.looks
          then.looks;
      told = then.told;
    }

pub returns-then-not-can_be_scheduled-clause-handed : goal.returns-then-not-can_be_scheduled-clause-handed
returns-then-not-can_be_scheduled-clause-handed g c = inl (refl, c.can_be_scheduled.ensures.only_reads.claims)

pub returns-clause-handed : goal.returns-clause-handed
returns-clause-handed g c =
    hands-after c.args.id.0 _ _ (pass_view c.args.self.now.pass) (pass_view c.can_be_scheduled.new.pass) (pass_view c.register_due.new.self.pass) c.register_due.result
    c.can_be_scheduled.ensures.only_reads.claims c.register_due.ensures.handed

pub returns-then-not-can_be_scheduled-clause-due : goal.returns-then-not-can_be_scheduled-clause-due
returns-then-not-can_be_scheduled-clause-due g c = got-none c.args.hint _ _ c.can_be_scheduled.ensures.only_reads.claims.got

pub returns-clause-due : goal.returns-clause-due
returns-clause-due g c =
    let id = c.args.id.0 in let hint = c.args.hint in
    let a = pass_view c.args.self.now.pass in let b = pass_view c.can_be_scheduled.new.pass in let d = pass_view c.register_due.new.self.pass in
    let looks = c.register_due.ensures.registers.looks in
    got-handed hint id _ _ a b d c.register_due.result
    (due-later a b d (looks.looks ++ []) hint id looks.log (c.can_be_scheduled.ensures.due c.if-not-can_be_scheduled.false))
    c.can_be_scheduled.ensures.only_reads.claims.got c.register_due.ensures.handed

pub returns-then-not-can_be_scheduled-clause-owes : goal.returns-then-not-can_be_scheduled-clause-owes
returns-then-not-can_be_scheduled-clause-owes g c = joins-none _ _ (pass_view c.can_be_scheduled.new.pass) refl

pub returns-clause-owes : goal.returns-clause-owes
returns-clause-owes g c = c.register_due.ensures.owes
