use Rattle.std.proofs.Common.{◌≡◌, take}
use Rattle.mb_gate.specs.Accessors.{pass_id, pass_view}
use Rattle.mb_register.specs.declared.hint.Hint.TheVariants as hint
use Rattle.mb_register.specs.Due.{GotOnlyDue}
use Rattle.mb_register.specs.Registering.{LosesNoClaim}
use Rattle.mb_register.specs.Registers.{account_of}
use Rattle.mb_register.specs.Told.{GoInOrder}
use Rattle.mb_register.proofs.ToldLemmas.{AreRegistered}
use Rattle.mb_register.proofs.registrar.Registrar.register_told.Given as goal

abbrev pub invariant-loop-index : goal.invariant-loop-index
invariant-loop-index g l =
    (pass_id l.self.pass ≡ pass_id l.initial.self.pass) × (g.W.RunQueue.origin l.self.run_queue ≡ g.W.RunQueue.origin l.initial.self.run_queue)
    × LosesNoClaim
    (account_of g.W.RunQueue.pushed g.W.RunQueue.refused l.initial.self) (account_of g.W.RunQueue.pushed g.W.RunQueue.refused l.self)
    (pass_view l.initial.self.pass) (pass_view l.self.pass)
    × GotOnlyDue hint.None (pass_view l.initial.self.pass) (pass_view l.self.pass)
    × AreRegistered (take l.index l.initial.self.told.order) l.initial.self.told
    (account_of g.W.RunQueue.pushed g.W.RunQueue.refused l.initial.self) (account_of g.W.RunQueue.pushed g.W.RunQueue.refused l.self)
    (pass_view l.initial.self.pass) (pass_view l.self.pass)
    × GoInOrder (take l.index l.initial.self.told.order) (g.W.RunQueue.pushed l.initial.self.run_queue) (g.W.RunQueue.pushed l.self.run_queue)
    × (l.self.told ≡ l.initial.self.told)
