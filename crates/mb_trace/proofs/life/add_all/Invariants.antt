use Rattle.std.proofs.Common.{◌≡◌, ◌+◌, ◌++◌, take, vec_len, vec_capacity}
use Rattle.mb_trace.proofs.life.add_all.Given as goal

abbrev pub invariant-loop-id : goal.invariant-loop-id
invariant-loop-id l = record {
  items : l.children.items ≡ l.fn.children.items ++ take l.id-index l.more;
  len : vec_len l.children ≡ vec_len l.fn.children + l.id-index;
  capacity : vec_capacity l.children ≡ vec_capacity l.fn.children;
}
