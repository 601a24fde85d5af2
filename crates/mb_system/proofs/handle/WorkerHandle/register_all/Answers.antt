use Rattle.std.proofs.Common.{◌≡◌, ◌++◌, [], arith, refl, subst, ◌∙◌}
use Rattle.mb_system.specs.Members.{handle_caller}
use Rattle.mb_system.proofs.Obligations.{discharged-more}
use Rattle.mb_gate.specs.Accessors.{actors_of, pass_view}
use Rattle.mb_register.specs.declared.hint.Hint.TheVariants as hint
use Rattle.mb_register.proofs.Dues.{got-none, got-then}
use Rattle.mb_system.specs.Registered.{AreRegistered, nobody, one_more}
use Rattle.mb_system.proofs.Looking.{leaves-none, leaves-registered, leaves-then, only-after, only-none}
use Rattle.mb_system.proofs.handle.WorkerHandle.register_all.Goals as goal

pub loop-number-init : goal.loop-number-init
loop-number-init g c = (
  c.requires.same_gates,
  refl,
  leaves-none (handle_caller c.args.self.now.registrar),
  λ id lt. absurd (omega (arith, lt)),
  only-none (pass_view c.args.self.now.registrar.pass),
  nobody,
  got-none hint.None (pass_view c.args.self.now.registrar.pass) (pass_view c.args.self.now.registrar.pass) refl,
  refl,
)

pub loop-number-preserved : goal.loop-number-preserved
loop-number-preserved g c =
    let at = c.loop-number in let did = c.register.ensures in let ours = at.invariant.0 in
    let first = handle_caller c.args.self.now.registrar in let old = handle_caller at.self.registrar in let new = handle_caller c.register.new.self in
    let left = leaves-registered at.number old new c.register.result did.registers.looks did.registered did.discharged in (
      (did.registers.same_gates.0 ∙ ours.0, did.registers.same_gates.1 ∙ ours.1, ours.2),
      at.invariant.1,
      leaves-then first old new at.invariant.2 left,
      discharged-more at.number old new at.invariant.3 left did.discharged,
      only-after at.number first.view old.view new.view at.invariant.4 did.registers.looks,
      one_more at.number old new c.register.result at.invariant.5 did.handed,
      got-then hint.None first.view old.view new.view at.invariant.4.looks (did.registers.looks.looks ++ []) at.invariant.4.log did.registers.looks.log at.invariant.6 did.due,
      at.invariant.7,
    )

pub returns-clause-discharged : goal.returns-clause-discharged
returns-clause-discharged g c = λ id lt. c.loop-number.invariant.3 id (omega (arith, lt, c.loop-number-test.false))

pub returns-clause-leaves : goal.returns-clause-leaves
returns-clause-leaves g c = c.loop-number.invariant.2

pub returns-clause-looks_for_work : goal.returns-clause-looks_for_work
returns-clause-looks_for_work g c = record { looks = c.loop-number.invariant.4; due = c.loop-number.invariant.6 }

pub returns-clause-same_handle : goal.returns-clause-same_handle
returns-clause-same_handle g c =
    let at = c.loop-number.invariant in record { same_gates = at.0; number = at.1; log_kept = at.2.log }

pub register-requires-clause-same_gates : goal.register-requires-clause-same_gates
register-requires-clause-same_gates g c = let ours = c.loop-number.invariant.0 in (ours.0, ours.1)

pub returns-clause-registered : goal.returns-clause-registered
returns-clause-registered g c =
    let at = c.loop-number in
    let all : at.number ≡ actors_of c.args.system.now.gates = omega (arith, c.loop-number-test.false, at.auto.number-end) in
    subst (λ n. AreRegistered (handle_caller c.args.self.now.registrar) n (handle_caller at.self.registrar)) all at.invariant.5

pub returns-clause-log : goal.returns-clause-log
returns-clause-log g c = c.loop-number.invariant.7
