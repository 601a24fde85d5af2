use Rattle.std.proofs.Common.{◌≤◌, ◌<◌, vec_len}
use Rattle.std.specs.List.{All}
use Rattle.mb_msg.specs.Limits.{most_actors}
use Rattle.mb_cell_tests.proofs.headers.children_of.Given as goal

abbrev pub invariant-loop-id : goal.invariant-loop-id
invariant-loop-id l = record {
  within_limit : vec_len l.children ≤ l.id;
  numbered : All (λ x. x.0 < most_actors) l.children.items;
}
