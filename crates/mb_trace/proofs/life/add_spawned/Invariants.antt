use Rattle.std.proofs.Common.{◌≡◌, ◌+◌, ◌≤◌, ◌++◌, take, vec_len, vec_capacity}
use Rattle.mb_actor.specs.OutboxView.{spawns_of}
use Rattle.mb_trace.proofs.life.add_spawned.Given as goal

abbrev pub invariant-loop-effect : goal.invariant-loop-effect
invariant-loop-effect l = record {
  items : l.children.items ≡ l.fn.children.items ++ spawns_of (take l.effect-index l.effects);
  len : vec_len l.children ≤ vec_len l.fn.children + l.effect-index;
  capacity : vec_capacity l.children ≡ vec_capacity l.fn.children;
}
