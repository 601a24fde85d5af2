use Rattle.mb_gate.specs.Accessors.{pass_view}
use Rattle.mb_gate.specs.Rule.{IsPart}
use Rattle.mb_gate.specs.View.{View}
use Rattle.mb_system.specs.Members.{IsHandleOf}
use Rattle.mb_shutdown.specs.Unfinished.{GivesBack}
use Rattle.mb_shutdown.proofs.unfinished.give_back.Given as goal

abbrev pub invariant-loop : goal.invariant-loop
invariant-loop g l =
    IsHandleOf l.fn.gates l.handle.registrar × IsPart (pass_view l.fn.handle.registrar.pass).log (pass_view l.handle.registrar.pass).log
    × ((after : View) → GivesBack g.K.Behaviours.gives l.handle.registrar.run_queue (pass_view l.handle.registrar.pass) after
    → GivesBack g.K.Behaviours.gives l.fn.handle.registrar.run_queue (pass_view l.fn.handle.registrar.pass) after)
