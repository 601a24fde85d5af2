use Rattle.std.proofs.Common.{◌≡◌, All, length}
use Rattle.std.specs.BTreeMap.{IsEmpty}
use Rattle.mb_script.proofs.index.empty_maps.Given as goal

-- each map so far is without an entry
abbrev pub invariant-loop : goal.invariant-loop
invariant-loop l = record {
  count : length l.index.items ≡ l.counter;
  empty : All IsEmpty l.index.items;
}
