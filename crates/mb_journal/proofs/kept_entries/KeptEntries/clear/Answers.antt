use Rattle.std.proofs.Common.{refl, arith}
use Rattle.std.proofs.lemmas.List.Elements.{All-nil}
use Rattle.mb_journal.specs.Stored.{listed, StandInOrder}
use Rattle.mb_journal.proofs.kept_entries.KeptEntries.clear.Goals as goal

pub invariant_of-self : goal.invariant_of-self
unfolding StandInOrder listed
invariant_of-self c = record {
  in_order = rw (c.clear.ensures.items, c.clear-2.ensures.items) refl;
  there = rw c.clear.ensures.items (All-nil _);
  row_room = omega (arith, c.clear.ensures.capacity, c.self.invariant.reserved_rows);
  wide_room = omega (arith, c.clear-3.ensures.len, c.clear-3.ensures.capacity, c.self.invariant.reserved_wide);
  effect_room = omega (arith, c.clear-2.ensures.len, c.clear-2.ensures.capacity, c.self.invariant.reserved_effects);
  reserved_rows = omega (arith, c.clear.ensures.capacity, c.self.invariant.reserved_rows);
  reserved_wide = omega (arith, c.clear-3.ensures.capacity, c.self.invariant.reserved_wide);
  reserved_effects = omega (arith, c.clear-2.ensures.capacity, c.self.invariant.reserved_effects);
}

pub returns : goal.returns
unfolding listed
returns c = rw (← c.self.view_is, c.clear.ensures.items) refl
