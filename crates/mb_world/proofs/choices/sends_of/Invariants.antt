use Rattle.mb_world.proofs.ChoiceLemmas.{AreSendsBelow}
use Rattle.mb_world.proofs.choices.sends_of.Given as goal

abbrev pub invariant-loop-number : goal.invariant-loop-number
invariant-loop-number l = AreSendsBelow l.senders l.number l.choices.items
