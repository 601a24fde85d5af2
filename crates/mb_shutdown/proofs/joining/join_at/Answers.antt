use Rattle.std.proofs.Common.{ap}
use Rattle.std.specs.Prelude.{get_or, slice_set}
use Rattle.std.proofs.lemmas.Option.{slice_get-get_or}
use Rattle.mb_shutdown.proofs.joining.join_at.Goals as goal

pub join-requires : goal.join-requires
join-requires c =
    c.requires.queue _ (slice_get-get_or c.args.takes.now c.args.place c.index-takes-place.result c.requires.present)

pub returns : goal.returns
returns c =
    record {
      take = get_or c.args.takes.now c.args.place c.index-takes-place.result;
      was = slice_get-get_or c.args.takes.now c.args.place c.index-takes-place.result c.requires.present;
      same = ap (slice_set c.args.takes.now c.args.place) c.join.ensures.joined;
    }
