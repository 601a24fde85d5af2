use Rattle.std.proofs.Common.{◌∙◌, sym, refl}
use Rattle.mb_gate.specs.Accessors.{pass_view}
use Rattle.mb_register.proofs.ClaimCounts.{loses-none, loses-aside, loses-handed}
use Rattle.mb_register.proofs.Dues.{got-none}
use Rattle.mb_register.proofs.Joining.{joined-owed}
use Rattle.mb_register.proofs.Retries.{never-both, others-kept, others-out, refused-none, refused-one, taken-out}
use Rattle.mb_register.proofs.Views.{looks-none}
use Rattle.mb_register.proofs.registrar.Registrar.retry_one.Goals as goal

-- ---- no look is owed to it

pub returns-then-not-contains : goal.returns-then-not-contains
returns-then-not-contains g c =
    let v = pass_view c.args.self.now.pass in
    let out = sym c.contains.ensures ∙ c.if-not-contains.true in
    record {
      registers = record { same_gates = (refl, refl); looks = looks-none c.args.id.0 v; handed = loses-none _ v; due = got-none _ _ _ refl };
      discharged = λ has. never-both _ has out;
      done = out;
      still = tt;
      refused = refl;
      alone = record { none = λ _. refl; others = λ other below ne. refl };
    }

-- ---- the run queue refused its claim again

pub returns-then-contains : goal.returns-then-contains
returns-then-contains g c =
    let id = c.args.id.0 in
    let did = c.register.ensures in
    let had = sym c.contains.ensures ∙ c.if-not-contains.false in
    let has = sym c.contains-2.ensures ∙ c.if-contains.true in
    let out = taken-out id _ _ (c.remove.ensures id c.requires.present.1) in
    record {
      registers = record {
        same_gates = did.registers.same_gates;
        looks = did.registers.looks;
        handed = loses-aside _ _ _ _ _ _ _ (loses-handed id _ _ _ _ c.register.result did.handed);
        due = did.due;
      };
      discharged = λ _. did.discharged;
      done = tt;
      still = record { left = (had, has); owes = joined-owed _ _ (pass_view c.register.new.self.pass) id did.owes out has };
      refused = refused-one id _ _ c.register.result did.registered out has;
      alone = record {
        none = λ none. never-both _ had none;
        others = λ other below ne. others-kept id _ _ c.register.result did.registered other ne
            ∙ others-out id other _ _ ne (c.remove.ensures other below);
      };
    }

-- ---- it did not

pub returns : goal.returns
returns g c =
    let id = c.args.id.0 in
    let did = c.register.ensures in
    let had = sym c.contains.ensures ∙ c.if-not-contains.false in
    let out = sym c.contains-2.ensures ∙ c.if-contains.false in
    record {
      registers = record {
        same_gates = did.registers.same_gates;
        looks = did.registers.looks;
        handed = loses-aside _ _ _ _ _ _ _ (loses-handed id _ _ _ _ c.register.result did.handed);
        due = did.due;
      };
      discharged = λ _. did.discharged;
      done = out;
      still = tt;
      refused = refused-none id _ _ c.register.result did.registered out;
      alone = record {
        none = λ none. never-both _ had none;
        others = λ other below ne. others-kept id _ _ c.register.result did.registered other ne
            ∙ others-out id other _ _ ne (c.remove.ensures other below);
      };
    }
