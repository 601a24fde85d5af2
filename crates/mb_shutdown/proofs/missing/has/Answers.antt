use Rattle.std.proofs.Common.{map}
use Rattle.mb_shutdown.proofs.Places.{found-some}
use Rattle.mb_shutdown.proofs.missing.has.Goals as goal

pub returns : goal.returns
returns g c =
    found-some (map g.T.Numbered.numbered c.args.all.now) c.args.number c.place_of.result c.is_some.result c.place_of.ensures (cc)
