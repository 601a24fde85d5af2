use Rattle.std.proofs.Common.{ap, arith}
use Rattle.mb_journal.proofs.RowLemmas.{place-left, rows-pushed, there-pushed}
use Rattle.mb_journal.proofs.StoredLemmas.{order-pushed, entries-pushed}
use Rattle.mb_journal.specs.KeptEntriesView.{KeptEntriesView}
use Rattle.mb_journal.proofs.kept_entries.KeptEntries.push.Goals as goal

pub add_all-requires : goal.add_all-requires
add_all-requires c =
    let room = place-left _ c.self.inside.rows.items _ _ _ _ c.self.view_is c.requires.room in
    omega (arith, room, c.self.inside.rows.ok.0, c.self.invariant.effect_room, c.requires.within_limit)

pub row_of-requires : goal.row_of-requires
row_of-requires c =
    let room = place-left _ c.self.inside.rows.items _ _ _ _ c.self.view_is c.requires.room in
    omega (arith, room, c.self.inside.rows.ok.0, c.self.invariant.wide_room)

pub push_reserved-requires : goal.push_reserved-requires
push_reserved-requires c =
    let room = place-left _ c.self.inside.rows.items _ _ _ _ c.self.view_is c.requires.room in
    omega (arith, room, c.self.inside.rows.ok.0, c.self.invariant.row_room)

pub invariant_of-self : goal.invariant_of-self
invariant_of-self c =
    let room = place-left _ c.self.inside.rows.items _ _ _ _ c.self.view_is c.requires.room in
    record {
      in_order =
          order-pushed _ _ _ _ _ _ _ c.self.invariant.in_order
          (rows-pushed _ _ _ _ _ _ _ c.self.invariant.there c.push_reserved.ensures.items c.row_of.ensures.kept.1 c.row_of.ensures.says)
          c.add_all.ensures.added (omega arith);
      there =
          there-pushed _ _ _ _ _ _ c.self.invariant.there c.push_reserved.ensures.items c.row_of.ensures.kept.1 c.row_of.ensures.there;
      row_room = omega (arith, c.self.invariant.row_room);
      wide_room = omega (arith, room, c.self.inside.rows.ok.0, c.row_of.ensures.one, c.row_of.ensures.room, c.self.invariant.wide_room);
      effect_room = omega (arith, room, c.self.inside.rows.ok.0, c.add_all.ensures.more, c.requires.within_limit, c.self.invariant.effect_room, c.add_all.ensures.room);
      reserved_rows = omega (arith, c.self.invariant.reserved_rows);
      reserved_wide = omega (arith, c.row_of.ensures.room, c.self.invariant.reserved_wide);
      reserved_effects = omega (arith, c.add_all.ensures.room, c.self.invariant.reserved_effects);
    }

pub returns : goal.returns
returns c =
    rw (← c.self.view_is)
    (ap {B = KeptEntriesView} (λ es. record { entries = es; places = c.self.inside.places; reserved = c.self.inside.reserved })
    (entries-pushed _ _ _ _ _ _ _ c.self.invariant.in_order
    (rows-pushed _ _ _ _ _ _ _ c.self.invariant.there c.push_reserved.ensures.items c.row_of.ensures.kept.1 c.row_of.ensures.says)
    c.add_all.ensures.added (omega arith)))
