use Rattle.std.proofs.Common.{◌≡◌, ◌+◌, ◌≤◌, ◌++◌, drop, vec_len, vec_capacity}
use Rattle.mb_actor.specs.OutboxView.{spawns_of}
use Rattle.mb_journal.specs.Acts.{effect_acts}
use Rattle.mb_journal.specs.Watching.{watching_after, due_after}
use Rattle.mb_supervision.proofs.effects.carry_out.Given as goal

-- what is done and what is left make the whole
abbrev pub invariant-loop-effect : goal.invariant-loop-effect
invariant-loop-effect l = record {
  acts :
      l.acts.acts ++ effect_acts l.this l.watching.items (drop l.effect-index l.effects)
      ≡ l.fn.acts.acts ++ effect_acts l.this l.fn.watching.items l.effects;
  children : l.children.items ++ spawns_of (drop l.effect-index l.effects) ≡ l.fn.children.items ++ spawns_of l.effects;
  watching : watching_after l.this l.watching.items (drop l.effect-index l.effects) ≡ watching_after l.this l.fn.watching.items l.effects;
  due : due_after l.due.items (drop l.effect-index l.effects) ≡ due_after l.fn.due.items l.effects;
  few_acts : l.fn.acts.room ≤ l.acts.room + l.effect-index;
  few_children : vec_len l.children ≤ vec_len l.fn.children + l.effect-index;
  few_watched : vec_len l.watching ≤ vec_len l.fn.watching + l.effect-index;
  children_capacity : vec_capacity l.fn.children ≤ vec_capacity l.children;
  watching_capacity : vec_capacity l.fn.watching ≤ vec_capacity l.watching;
}
