use Rattle.std.proofs.Common.{List, ◌∷◌, IsPermutation, ap, length, subst, ◌<◌, arith}
use Rattle.std.proofs.lemmas.List.{length-map}
use Rattle.std.proofs.lemmas.List.Sorted.{IsPermutation-map}
use Rattle.std.specs.BinaryHeap.{heap_items}
use Rattle.mb_msg.specs.declared.envelope.Envelope.{Envelope}
use Rattle.mb_queue.specs.declared.waiting.Arrival.{Arrival}
use Rattle.mb_queue.specs.WaitingHeap.{arrival_of, arrivals}
use Rattle.mb_queue.proofs.Keeps.{arriving, one_more}
use Rattle.mb_queue.proofs.waiting.Waiting.add.Goals as goal

pub invariant_of-self : goal.invariant_of-self
invariant_of-self c = let slot = c.insert_reserved-slot in let pushed = c.in-Ok.ensures in
    let few : length (heap_items c.self.inside.keys) < 1024 =
    omega (arith, c.requires, length-map (heap_items c.self.inside.keys) arrival_of, ap length c.self.view_is) in
    one_more _ c.push.new.self _ slot.new.self _ c.self.invariant few _ c.of.ensures slot.ensures.was_vacant slot.ensures.updates
    slot.ensures.len slot.ensures.capacity pushed.permutation (pushed.heap_order c.self.invariant.ordered) pushed.capacity

pub returns : goal.returns
returns c = let arrival = c.args.arrival in
    let came = IsPermutation-map arrival_of _ _ c.in-Ok.ensures.permutation in
    let seen = subst (λ (l : List Arrival). IsPermutation (arriving arrival.rank arrival.number c.of.result.value ∷ l) (arrivals c.push.new.self))
    c.self.view_is came in
    subst (λ (e : Envelope). IsPermutation (arriving arrival.rank arrival.number e ∷ c.args.self.now) (arrivals c.push.new.self)) c.of.ensures seen
