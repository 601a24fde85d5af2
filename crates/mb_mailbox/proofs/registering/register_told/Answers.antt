use Rattle.std.proofs.Common.{◌∙◌}
use Rattle.mb_gate.specs.Accessors.{pass_view}
use Rattle.mb_register.proofs.DueLemmas.{got-unhinted}
use Rattle.mb_register.proofs.MoveLemmas.{further-told}
use Rattle.mb_register.proofs.Retries.{never-both}
use Rattle.mb_mailbox.proofs.registering.register_told.Goals as goal

pub register_told-requires : goal.register_told-requires
register_told-requires g c = record {
  same_gates = (c.requires.same_gates.0, c.requires.same_gates.1);
  present = c.requires.same_gates.3;
}

pub returns-clause-same_gates : goal.returns-clause-same_gates
returns-clause-same_gates g c = (
  c.register_told.ensures.registers.same_gates.0 ∙ c.requires.same_gates.0,
  c.register_told.ensures.registers.same_gates.1 ∙ c.requires.same_gates.1,
  c.requires.same_gates.2,
  λ id few told. never-both _ told (c.register_told.ensures.none_left id few),
)

pub returns-clause-caller_advances : goal.returns-clause-caller_advances
returns-clause-caller_advances g c =
    let did = c.register_told.ensures in
    further-told _ _ did.registers.looks did.beyond did.discharged did.owed did.registers.handed
    (got-unhinted (pass_view c.args.registrar.now.pass) (pass_view c.register_told.new.self.pass) did.registers.due)

pub returns-clause-in_order : goal.returns-clause-in_order
returns-clause-in_order g c = c.register_told.ensures.in_order

pub returns-clause-looks : goal.returns-clause-looks
returns-clause-looks g c = c.register_told.ensures.registers.looks
