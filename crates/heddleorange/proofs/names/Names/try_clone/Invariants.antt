use Rattle.std.proofs.Common.{◌≡◌, ◌++◌, drop, length}
use Rattle.heddleorange.specs.Names.{texts_of}
use Rattle.heddleorange.proofs.names.Names.try_clone.Given as goal

-- the names so far, and those that are left, are all names
abbrev pub invariant-loop-text : goal.invariant-loop-text
invariant-loop-text l = record {
  same : texts_of l.texts.items ++ texts_of (drop l.text-index l.self.texts.items) ≡ texts_of l.self.texts.items;
  count : length l.texts.items ≡ l.text-index;
}
