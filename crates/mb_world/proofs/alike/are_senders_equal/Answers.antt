use Rattle.std.proofs.Common.{sym, ◌∙◌}
use Rattle.mb_world.proofs.AlikeLemmas.{map-whole}
use Rattle.mb_world.proofs.alike.are_senders_equal.Goals as goal

pub returns : goal.returns
returns c holds = sym (map-whole c.args.one.now) ∙ c.are_same.ensures holds ∙ map-whole c.args.other.now
