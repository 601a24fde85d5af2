use Rattle.std.proofs.Common.{◌≡◌, [], ◌∷◌, ap, arith, length, map, refl, sym, ◌∙◌}
use Rattle.std.specs.Vec.Iter.{into_iter_items}
use Rattle.std.specs.declared.vec.Vec.{Vec}
use Rattle.std.proofs.lemmas.List.{length-map}
use Rattle.mb_pool.specs.Places.{PoolPort}
use Rattle.mb_pool.specs.Endpoints.{next_of, own_of}
use Rattle.mb_pool.proofs.Handing.{paired_one}
use Rattle.mb_pool.proofs.Taking.{drained}
use Rattle.mb_pool.proofs.new_worker_deques.pair.Goals as goal

pub loop-own_deque-preserved : goal.loop-own_deque-preserved
loop-own_deque-preserved g c =
    let at = c.loop-own_deque in let owns = c.in-Some.ensures.steps.0 in let lists = c.in-Some-next.ensures.items in
    let n = ap (length {A = PoolPort _}) owns in let m = ap (length {A = Vec _ _}) lists in let same = at.invariant.2 in (
      paired_one (λ (o : PoolPort _). o ∷ []) own_of at.members.items c.push.new.self.items _ c.in-Some.own_deque (into_iter_items at.own_deque-iterator)
          (into_iter_items c.next.new.self) _
          c.in_ok-push.ensures.items refl owns at.invariant.0,
      paired_one (λ (v : Vec _ _). v.items) next_of at.members.items c.push.new.self.items _ c.in-Some-next.thieves (into_iter_items at.lists)
          (into_iter_items c.next-in-loop-own_deque.new.self) _
          c.in_ok-push.ensures.items refl lists at.invariant.1,
      omega (arith, n, m, same),
    )

pub returns-clause-owners : goal.returns-clause-owners
returns-clause-owners g c =
    let at = c.loop-own_deque in let rest = into_iter_items at.own_deque-iterator in
    let none : length rest ≡ 0 = sym at.own_deque-iterator.rest.ok.0 ∙ c.in-None.ensures.steps.0 in
    drained (map own_of at.members.items) (map (λ (o : PoolPort _). o ∷ []) rest) _ (length-map rest (λ (o : PoolPort _). o ∷ []) ∙ none) at.invariant.0

pub returns-clause-next : goal.returns-clause-next
returns-clause-next g c =
    let at = c.loop-own_deque in let rest = into_iter_items at.lists in
    let none : length rest ≡ 0 = sym at.invariant.2 ∙ sym at.own_deque-iterator.rest.ok.0 ∙ c.in-None.ensures.steps.0 in
    drained (map next_of at.members.items) (map (λ (v : Vec _ _). v.items) rest) _ (length-map rest (λ (v : Vec _ _). v.items) ∙ none) at.invariant.1
