use Rattle.std.proofs.Common.{sym, ap, ◌∙◌, map}
use Rattle.std.specs.Vec.Iter.{into_iter_items}
use Rattle.mb_shutdown.specs.Joined.{joins_all, queues_of}
use Rattle.mb_shutdown.proofs.JoinLemmas.{all-rest, queues-joins}
use Rattle.mb_shutdown.proofs.joining.join_all.Goals as goal

pub loop-passes-preserved : goal.loop-passes-preserved
loop-passes-preserved c =
    let at = c.loop-passes in let rest = into_iter_items c.next.new.self in (
      ap (λ l. joins_all l (map (λ row. row.items) rest)) c.join_each.ensures
          ∙ ap (λ l. joins_all at.takes (map (λ row. row.items) l)) (sym c.in-Some.ensures.steps.0) ∙ at.invariant.0,
      all-rest (λ row. row.items) (queues_of at.takes) _ c.in-Some.passes rest _ c.in-Some.ensures.steps.0
          (ap queues_of c.join_each.ensures ∙ queues-joins at.takes c.in-Some.passes.items) at.invariant.1,
    )
