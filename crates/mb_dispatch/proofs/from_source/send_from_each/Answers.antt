use Rattle.mb_dispatch.proofs.FromSource.{all-ready}
use Rattle.mb_dispatch.proofs.from_source.send_from_each.Goals as goal

pub each_in_turn-requires : goal.each_in_turn-requires
each_in_turn-requires g c = record { same_count = c.requires.same_count; ready = all-ready _ _ _ c.requires.same_gates }
