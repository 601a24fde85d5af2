use Rattle.std.proofs.Common.{refl, arith}
use Rattle.std.proofs.lemmas.List.Elements.{All-nil}
use Rattle.mb_journal.specs.Stored.{listed, StandInOrder}
use Rattle.mb_journal.proofs.kept_entries.KeptEntries.with_room.Goals as goal

pub invariant_of-result : goal.invariant_of-result
unfolding StandInOrder listed
invariant_of-result c =
    let rows = c.in_ok-with_capacity.ensures in
    let effects = c.in_ok-with_capacity-2.ensures in
    let wide = c.in_ok-with_capacity-3.ensures in
    record {
      in_order = rw (rows.items, effects.items) refl;
      there = rw rows.items (All-nil _);
      row_room = omega (arith, rows.exact);
      wide_room = omega (arith, wide.len, wide.exact);
      effect_room = omega (arith, effects.len, effects.exact);
      reserved_rows = omega (arith, rows.exact);
      reserved_wide = omega (arith, wide.exact);
      reserved_effects = omega (arith, effects.exact);
    }

pub returns : goal.returns
unfolding listed
returns c = rw c.in_ok-with_capacity.ensures.items refl
