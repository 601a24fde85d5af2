use Rattle.std.proofs.Common.{◌<◌, ap, sym, subst, ◌∙◌, arith, refl, [], ◌∷◌, ◌++◌}
use Rattle.mb_gate.specs.Accessors.{pass_view}
use Rattle.mb_register.specs.declared.hint.Hint.TheVariants as hint
use Rattle.mb_register.specs.declared.registrar.Registrar.{Registrar}
use Rattle.mb_register.specs.Registering.{OwesALook}
use Rattle.mb_register.proofs.ClaimCounts.{loses-none, loses-then}
use Rattle.mb_register.proofs.Dues.{got-none, got-then}
use Rattle.mb_register.proofs.Joining.{on-failed}
use Rattle.mb_register.proofs.Retries.{kept-below, kept-on, looked-on, no-more, out-below, on-failure, discharged-next, discharged-none, stops}
use Rattle.mb_register.proofs.registrar.Registrar.retry_refused.Goals as goal

pub loop-number-init : goal.loop-number-init
loop-number-init g c =
    let v = pass_view c.args.self.now.pass in
    (refl, refl, discharged-none c.args.self.now.owed v, refl, loses-none _ v, got-none hint.None v v refl)

pub loop-number-preserved : goal.loop-number-preserved
loop-number-preserved g c =
    let old = c.args.self.now in let mid = c.loop-number.self in let now = c.retry_one.new.self in
    let n = c.loop-number.number in
    let few : n < 64 = omega (arith, c.loop-number-test.true) in
    let discharged = c.retry_one.ensures in (
      discharged.registers.same_gates.0 ∙ c.loop-number.invariant.0,
      discharged.registers.same_gates.1 ∙ c.loop-number.invariant.1,
      discharged-next n old.owed mid.owed now.owed (pass_view old.pass) (pass_view mid.pass) (pass_view now.pass) few c.loop-number.invariant.2
          (λ out. (ap (λ (w : Registrar _ _). w.owed) (discharged.alone.none out), ap (λ (w : Registrar _ _). pass_view w.pass) (discharged.alone.none out))) discharged.registers.looks discharged.alone.others
          c.in_ok-retry_one.ensures.done discharged.discharged,
      c.in_ok-retry_one.ensures.refused ∙ c.loop-number.invariant.3,
      loses-then _ _ _ _ _ _ c.loop-number.invariant.4 discharged.registers.handed,
      got-then hint.None (pass_view old.pass) (pass_view mid.pass) (pass_view now.pass) _ _ c.loop-number.invariant.2.looks.log discharged.registers.looks.log
          c.loop-number.invariant.5 discharged.registers.due,
    )

pub returns-then-number-actors-clause-owed : goal.returns-then-number-actors-clause-owed
returns-then-number-actors-clause-owed g c =
    let old = c.args.self.now in let at = c.loop-number in record {
      no_more = out-below at.number old.owed at.self.owed (pass_view old.pass) (pass_view at.self.pass) at.invariant.2;
      kept = kept-below at.number old.owed at.self.owed (pass_view old.pass) (pass_view at.self.pass) at.invariant.2;
    }

pub returns-clause-owed : goal.returns-clause-owed
returns-clause-owed g c =
    let old = c.args.self.now in let at = c.loop-number in record {
      no_more = out-below at.number old.owed at.self.owed (pass_view old.pass) (pass_view at.self.pass) at.invariant.2;
      kept = kept-below at.number old.owed at.self.owed (pass_view old.pass) (pass_view at.self.pass) at.invariant.2;
    }

pub returns-in_err-retry_one-clause-owed : goal.returns-in_err-retry_one-clause-owed
returns-in_err-retry_one-clause-owed g c =
    let old = c.args.self.now in let mid = c.loop-number.self in let now = c.retry_one.new.self in
    let n = c.loop-number.number in
    let few : n < 64 = omega (arith, c.loop-number-test.true) in
    let discharged = c.retry_one.ensures in
    record {
      no_more = no-more n old.owed mid.owed now.owed (pass_view old.pass) (pass_view mid.pass) (pass_view now.pass) few c.loop-number.invariant.2
          (λ out. (ap (λ (w : Registrar _ _). w.owed) (discharged.alone.none out), ap (λ (w : Registrar _ _). pass_view w.pass) (discharged.alone.none out)))
          discharged.registers.looks discharged.alone.others;
      kept = kept-on n old.owed mid.owed now.owed (pass_view old.pass) (pass_view mid.pass) (pass_view now.pass) few c.loop-number.invariant.2
          (λ out. (ap (λ (w : Registrar _ _). w.owed) (discharged.alone.none out), ap (λ (w : Registrar _ _). pass_view w.pass) (discharged.alone.none out)))
          discharged.registers.looks discharged.alone.others discharged.discharged;
    }

pub returns-in_err-retry_one-clause-refused : goal.returns-in_err-retry_one-clause-refused
returns-in_err-retry_one-clause-refused g c =
    let old = c.args.self.now in let mid = c.loop-number.self in let now = c.retry_one.new.self in
    let n = c.loop-number.number in
    let few : n < 64 = omega (arith, c.loop-number-test.true) in
    let discharged = c.retry_one.ensures in let failed = c.in_err-retry_one.ensures in let one = failed.refused in
    on-failure _ _ _ c.from_residual.result c.from_residual.ensures.1
    (stops n old.owed mid.owed now.owed (pass_view old.pass) (pass_view mid.pass) (pass_view now.pass) few c.loop-number.invariant.2
    (λ out. (ap (λ (w : Registrar _ _). w.owed) (discharged.alone.none out), ap (λ (w : Registrar _ _). pass_view w.pass) (discharged.alone.none out))) discharged.registers.looks discharged.alone.others
    _ _ _ _ failed.still.left (one.0, one.1, one.2 ∙ ap (λ l. l ++ one.0 ∷ []) c.loop-number.invariant.3))

pub returns-in_err-retry_one-clause-registers : goal.returns-in_err-retry_one-clause-registers
returns-in_err-retry_one-clause-registers g c =
    let old = c.args.self.now in let mid = c.loop-number.self in let now = c.retry_one.new.self in
    let n = c.loop-number.number in
    let few : n < 64 = omega (arith, c.loop-number-test.true) in
    let at = c.loop-number.invariant in let discharged = c.retry_one.ensures in
    record {
      same_gates = (discharged.registers.same_gates.0 ∙ at.0, discharged.registers.same_gates.1 ∙ at.1);
      looks = looked-on n old.owed mid.owed now.owed (pass_view old.pass) (pass_view mid.pass) (pass_view now.pass) few at.2
          (λ out. (ap (λ (w : Registrar _ _). w.owed) (discharged.alone.none out), ap (λ (w : Registrar _ _). pass_view w.pass) (discharged.alone.none out)))
          discharged.registers.looks discharged.alone.others;
      handed = loses-then _ _ _ _ _ _ at.4 discharged.registers.handed;
      due = got-then hint.None (pass_view old.pass) (pass_view mid.pass) (pass_view now.pass) _ _ at.2.looks.log discharged.registers.looks.log at.5
          discharged.registers.due;
    }

pub returns-then-number-actors-clause-registers : goal.returns-then-number-actors-clause-registers
returns-then-number-actors-clause-registers g c =
    let at = c.loop-number.invariant in record { same_gates = (at.0, at.1); looks = at.2.looks; handed = at.4; due = at.5 }

pub returns-clause-registers : goal.returns-clause-registers
returns-clause-registers g c =
    let at = c.loop-number.invariant in record { same_gates = (at.0, at.1); looks = at.2.looks; handed = at.4; due = at.5 }

pub returns-in_err-retry_one-clause-owes : goal.returns-in_err-retry_one-clause-owes
returns-in_err-retry_one-clause-owes g c =
    let now = c.retry_one.new.self in
    let failed = c.in_err-retry_one.ensures in let one = failed.refused in
    on-failed _ _ c.from_residual.result c.from_residual.ensures.1
    (one.0, one.2 ∙ ap (λ l. l ++ one.0 ∷ []) c.loop-number.invariant.3, subst (λ n. OwesALook n (pass_view now.pass)) (sym one.1) failed.still.owes)
