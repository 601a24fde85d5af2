use Rattle.std.proofs.Common.{◌≡◌, ◌+◌, ◌++◌, take, vec_len, vec_capacity}
use Rattle.mb_journal.proofs.kept_entries.add_all.Given as goal

abbrev pub invariant-loop-effect : goal.invariant-loop-effect
invariant-loop-effect l = record {
  items : l.list.items ≡ l.fn.list.items ++ take l.effect-index l.effects;
  len : vec_len l.list ≡ vec_len l.fn.list + l.effect-index;
  capacity : vec_capacity l.list ≡ vec_capacity l.fn.list;
}
