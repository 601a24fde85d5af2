use Rattle.std.proofs.Common.{length, map}
use Rattle.std.specs.Vec.Iter.{into_iter_items}
use Rattle.heddleorange.specs.AddedAll.{names_behind}
use Rattle.heddleorange.proofs.AddingAll.{SoFar}
use Rattle.heddleorange.proofs.new_system.NewSystem.add_all.Given as goal

-- those so far are added, and those of the iterator are left
abbrev pub invariant-loop-plan : goal.invariant-loop-plan
invariant-loop-plan g l =
    let old = l.fn.self.system in
    let now = l.self.system in
    let plans = map (λ given. given.0) l.fn.actors.items in
    let left = into_iter_items l.plan-iterator in
    SoFar old plans (map (λ given. given.1.actor) l.fn.actors.items) (names_behind (length old.actors.items) plans) (map (λ given. given.0) left)
    (map (λ given. given.1.actor) left) (names_behind (length now.actors.items) (map (λ given. given.0) left)) now
