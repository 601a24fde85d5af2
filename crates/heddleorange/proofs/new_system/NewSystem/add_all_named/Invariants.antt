use Rattle.std.proofs.Common.{map}
use Rattle.std.specs.Vec.Iter.{into_iter_items}
use Rattle.heddleorange.proofs.AddingAll.{SoFar, Untaken}
use Rattle.heddleorange.proofs.new_system.NewSystem.add_all_named.Given as goal

-- those so far are added, and those of the iterator are left
abbrev pub invariant-loop-name : goal.invariant-loop-name
invariant-loop-name g l =
    let old = l.fn.self.system in
    let now = l.self.system in
    let all = l.fn.actors.items in
    let left = into_iter_items l.name-iterator in
    SoFar old (map (λ given. given.1) all) (map (λ given. given.2.actor) all) (map (λ given. given.0.now) all) (map (λ given. given.1) left)
    (map (λ given. given.2.actor) left) (map (λ given. given.0.now) left) now
    × Untaken old (map (λ given. given.0.now) all) (map (λ given. given.0.now) left) now
