use Rattle.std.proofs.Common.{◌≡◌}
use Rattle.mb_causal_order.proofs.journal_actor.JournalActor.answer.Given as goal

abbrev pub invariant-loop-index : goal.invariant-loop-index
invariant-loop-index l = record { same_journal : l.self.journal.now ≡ l.initial.self.journal.now; same_out : l.out ≡ l.initial.out }
