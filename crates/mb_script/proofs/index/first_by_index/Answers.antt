use Rattle.std.proofs.Common.{rules, ◌≡◌, [], ◌<◌, length, Some}
use Rattle.mb_script.proofs.Indexing.{index_finds, index_misses}
use Rattle.mb_script.proofs.Placing.{placed_in, placed_nowhere}
use Rattle.mb_script.specs.Index.{place_in}
use Rattle.mb_script.proofs.index.first_by_index.Goals as goal

pub returns-then-is_empty : goal.returns-then-is_empty
returns-then-is_empty c = index_misses c.args.rows.now c.args.index.now c.args.kind (record { kind = 0; operations = [] }) c.requires
    (placed_nowhere c.args.index.now c.if-is_empty.ensures c.args.kind)

pub bounds-rows-place : goal.bounds-rows-place
bounds-rows-place c = c.requires.within c.args.kind c.in-Some.place.now
    (placed_in c.args.index.now c.args.kind c.index-index-kind.result _ c.if-is_empty.ensures c.index-index-kind.is c.in-Some.ensures.value)

pub offset_bounds-rows-place : goal.offset_bounds-rows-place
offset_bounds-rows-place c =
    let below : c.in-Some.place.now < length c.args.rows.now = bounds-rows-place c in
    search rules

pub returns-in-Some : goal.returns-in-Some
returns-in-Some c =
    let there : place_in c.args.index.now c.args.kind ≡ Some c.in-Some.place.now =
    placed_in c.args.index.now c.args.kind c.index-index-kind.result _ c.if-is_empty.ensures c.index-index-kind.is c.in-Some.ensures.value in
    index_finds c.args.rows.now c.args.index.now c.args.kind c.in-Some.place.now _ c.requires there
    (c.requires.within c.args.kind c.in-Some.place.now there) c.index-rows-place.is

pub returns-in-None : goal.returns-in-None
returns-in-None c = index_misses c.args.rows.now c.args.index.now c.args.kind (record { kind = 0; operations = [] }) c.requires
    (placed_in c.args.index.now c.args.kind c.index-index-kind.result _ c.if-is_empty.ensures c.index-index-kind.is c.in-None.ensures.value)
