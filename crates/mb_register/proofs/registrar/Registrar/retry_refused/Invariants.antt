use Rattle.std.proofs.Common.{◌≡◌}
use Rattle.mb_gate.specs.Accessors.{pass_id, pass_view}
use Rattle.mb_register.specs.declared.hint.Hint.TheVariants as hint
use Rattle.mb_register.specs.Due.{GotOnlyDue}
use Rattle.mb_register.specs.Registering.{LosesNoClaim}
use Rattle.mb_register.specs.Registers.{account_of}
use Rattle.mb_register.proofs.Retries.{IsPaidBelow}
use Rattle.mb_register.proofs.registrar.Registrar.retry_refused.Given as goal

abbrev pub invariant-loop-number : goal.invariant-loop-number
invariant-loop-number g l =
    (pass_id l.self.pass ≡ pass_id l.initial.self.pass) × (g.W.RunQueue.origin l.self.run_queue ≡ g.W.RunQueue.origin l.initial.self.run_queue)
    × IsPaidBelow l.number l.initial.self.owed l.self.owed (pass_view l.initial.self.pass) (pass_view l.self.pass)
    × (g.W.RunQueue.refused l.self.run_queue ≡ g.W.RunQueue.refused l.initial.self.run_queue)
    × LosesNoClaim
    (account_of g.W.RunQueue.pushed g.W.RunQueue.refused l.initial.self) (account_of g.W.RunQueue.pushed g.W.RunQueue.refused l.self)
    (pass_view l.initial.self.pass) (pass_view l.self.pass)
    × GotOnlyDue hint.None (pass_view l.initial.self.pass) (pass_view l.self.pass)
