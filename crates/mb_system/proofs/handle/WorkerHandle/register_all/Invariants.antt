use Rattle.std.proofs.Common.{◌≡◌}
use Rattle.mb_gate.specs.Accessors.{pass_view}
use Rattle.mb_register.specs.Caller.{LeavesCaller}
use Rattle.mb_register.specs.Due.{GotOnlyDue}
use Rattle.mb_register.specs.declared.hint.Hint.TheVariants as hint
use Rattle.mb_system.specs.Obligations.{AreDischargedOrOwed}
use Rattle.mb_system.specs.Members.{IsHandleOf, handle_caller}
use Rattle.mb_system.specs.OnlyLooks.{OnlyLooks}
use Rattle.mb_system.specs.Registered.{AreRegistered}
use Rattle.mb_system.proofs.handle.WorkerHandle.register_all.Given as goal

abbrev pub invariant-loop-number : goal.invariant-loop-number
invariant-loop-number g l =
    IsHandleOf l.system.gates l.self.registrar × (l.self.number ≡ l.fn.self.number)
    × LeavesCaller (handle_caller l.fn.self.registrar) (handle_caller l.self.registrar) × AreDischargedOrOwed l.number (handle_caller l.self.registrar)
    × OnlyLooks (pass_view l.fn.self.registrar.pass) (pass_view l.self.registrar.pass)
    × AreRegistered (handle_caller l.fn.self.registrar) l.number (handle_caller l.self.registrar)
    × GotOnlyDue hint.None (pass_view l.fn.self.registrar.pass) (pass_view l.self.registrar.pass) × (l.self.taken ≡ l.fn.self.taken)
