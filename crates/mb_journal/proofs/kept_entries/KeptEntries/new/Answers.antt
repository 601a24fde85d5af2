use Rattle.std.proofs.Common.{refl, arith}
use Rattle.std.proofs.lemmas.List.Elements.{All-nil}
use Rattle.mb_journal.specs.Stored.{listed, StandInOrder}
use Rattle.mb_journal.proofs.kept_entries.KeptEntries.new.Goals as goal

pub invariant_of-result : goal.invariant_of-result
unfolding StandInOrder listed
invariant_of-result c = record {
  in_order = rw (c.new.ensures.items, c.new-2.ensures.items) refl;
  there = rw c.new.ensures.items (All-nil _);
  row_room = omega arith;
  wide_room = omega arith;
  effect_room = omega arith;
  reserved_rows = omega arith;
  reserved_wide = omega arith;
  reserved_effects = omega arith;
}

pub returns : goal.returns
unfolding listed
returns c = rw c.new.ensures.items refl
