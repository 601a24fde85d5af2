use Rattle.std.proofs.Common.{Some, None, ◌∙◌}
use Rattle.mb_queue.proofs.Ranked.{ranked}
use Rattle.mb_queue.proofs.ranks.Ranks.rank_of.Goals as goal

pub returns-in-Some : goal.returns-in-Some
returns-in-Some c = ranked _ _ _ _ c.in-User.value _ (Some c.in-Some.row) c.in-User.is (c.deref.ensures.value ∙ c.self.view_is) c.in-Some.ensures

pub returns-in-None : goal.returns-in-None
returns-in-None c = ranked _ _ _ _ c.in-User.value _ None c.in-User.is (c.deref.ensures.value ∙ c.self.view_is) c.in-None.ensures
