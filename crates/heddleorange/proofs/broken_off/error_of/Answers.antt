use Rattle.std.proofs.Common.{◌∙◌, sym}
use Rattle.heddleorange.specs.Remains.{is_full}
use Rattle.heddleorange.proofs.First.{none-found}
use Rattle.heddleorange.proofs.Remains.{lacks-one}
use Rattle.heddleorange.proofs.broken_off.error_of.Goals as goal

pub missing-requires-clause-one : goal.missing-requires-clause-one
missing-requires-clause-one c =
    lacks-one c.args.limit c.args.actors.now
    (none-found (is_full c.args.limit) 0 c.args.actors.now (sym c.first_full.ensures.first ∙ c.in-None.is)) (c.requires.full c.in-JournalFull.is)
