use Rattle.std.proofs.Common.{OnOk, sym, subst}
use Rattle.std.specs.Prelude.{Contains, IsErrOf}
use Rattle.mb_world.specs.Choices.{IsPossible}
use Rattle.mb_world.specs.World.{WorldView}
use Rattle.mb_world.specs.declared.choice.Choice.{Choice}
use Rattle.mb_world.specs.declared.step_error.StepError.TheVariants.{NotPossible}
use Rattle.mb_world.proofs.world.World.step.Goals as goal

pub returns-in-Run-clause-possible : goal.returns-in-Run-clause-possible
returns-in-Run-clause-possible g c =
    subst (λ (choice : Choice). OnOk c.run_once.result (IsPossible c.args.self.now choice)) (sym c.in-Run.is)
    (subst (λ (w : WorldView). OnOk c.run_once.result (Contains w.registered c.in-Run.actor)) c.self.view_is c.run_once.ensures.possible)

pub returns-in-Run-clause-refused : goal.returns-in-Run-clause-refused
returns-in-Run-clause-refused g c =
    subst (λ (choice : Choice). IsErrOf c.run_once.result NotPossible → IsPossible c.args.self.now choice → ⊥) (sym c.in-Run.is)
    (subst (λ (w : WorldView). IsErrOf c.run_once.result NotPossible → Contains w.registered c.in-Run.actor → ⊥) c.self.view_is
    c.run_once.ensures.refused)
