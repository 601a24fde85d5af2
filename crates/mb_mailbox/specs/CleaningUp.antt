-- The clean-up of an actor that ends (`akka.dispatch.Mailbox.cleanUp`).
use Rattle.std.specs.Prelude.{◌≡◌, ℕ, true, [], Option}
use Rattle.std.specs.Global.{Box}
use Rattle.mb_actor.specs.Behaviour.{Moment, Reply}
use Rattle.mb_gate.specs.declared.claim.Claim.{Claim}
use Rattle.mb_gate.specs.declared.gates.Gates.{Gates}
use Rattle.mb_gate.specs.Accessors.{pass_view, status_of}
use Rattle.mb_gate.specs.Untouched.{Origin, origin_of}
use Rattle.mb_home.specs.Contents.{Contents}
use Rattle.mb_register.specs.declared.registrar.Registrar.{Registrar}
use Rattle.mb_mailbox.specs.RunRegistrar.{IsRunRegistrarOf}
use Rattle.mb_mailbox.specs.RunState.{run_state}
use Rattle.mb_mailbox.specs.Running.{IsRunning}

-- A run that cleans up: its registrar has a pass and a port of the run queue, both of these gates; the mailbox is closed; and the claim is as it is
-- between two steps, but for the acts that its cell has, which are still to be carried out.
pub record InCleanUp {W : Type 0} (gives : ℕ → Moment → Reply → Type 0) (origin : W → Option (Origin (Box Contents))) (gates : Gates (Box Contents))
    (registrar : Registrar (Box Contents) W) (claim : Claim (Box Contents)) : Type 0 where
  pub same_gates : IsRunRegistrarOf origin gates registrar
  pub closed : (status_of claim).closed ≡ true
  pub running : IsRunning gives (origin_of gates) claim.home.value.cell.acts (pass_view registrar.pass).log (run_state claim)

-- The mailbox is closed, and nothing that was drained is left beside the cell.
pub record HasDroppedAll (claim : Claim (Box Contents)) : Type 0 where
  pub closed : (status_of claim).closed ≡ true
  pub none : claim.home.value.rest ≡ []
