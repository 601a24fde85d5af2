use Rattle.std.proofs.Common.{◌≡◌, ◌+◌, ◌≤◌, ◌++◌, drop}
use Rattle.mb_journal.specs.Acts.{stop_acts}
use Rattle.mb_supervision.proofs.effects.carry_out_last.Given as goal

abbrev pub invariant-loop-effect : goal.invariant-loop-effect
invariant-loop-effect l = record {
  acts : l.acts.acts ++ stop_acts (drop l.effect-index l.effects) ≡ l.fn.acts.acts ++ stop_acts l.effects;
  few_acts : l.fn.acts.room ≤ l.acts.room + l.effect-index;
}
