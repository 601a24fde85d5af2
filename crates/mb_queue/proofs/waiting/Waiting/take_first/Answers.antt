use Rattle.std.proofs.Common.{List, ◌∷◌, IsPermutation, subst}
use Rattle.std.proofs.lemmas.List.Elements.{All-map}
use Rattle.std.proofs.lemmas.List.Sorted.{IsPermutation-map}
use Rattle.mb_msg.specs.declared.envelope.Envelope.{Envelope}
use Rattle.mb_queue.specs.declared.waiting.Arrival.{Arrival}
use Rattle.mb_queue.specs.Arrival.{IsBehind}
use Rattle.mb_queue.specs.WaitingHeap.{arrival_of, arrivals}
use Rattle.mb_queue.proofs.Keeps.{arriving, found, one_less}
use Rattle.mb_queue.proofs.RankKeys.{all_behind}
use Rattle.mb_queue.proofs.waiting.Waiting.take_first.Goals as goal

pub invariant_of-self-2 : goal.invariant_of-self-2
invariant_of-self-2 c = let popped = c.in_ok-key in let removed = c.remove-envelope in
    one_less _ c.pop.new.self _ removed.new.self popped.field-0 c.self.invariant popped.ensures.permutation
    (popped.ensures.heap_order c.self.invariant.ordered).0 popped.ensures.capacity
    removed.ensures.updates removed.ensures.len removed.ensures.capacity

pub returns : goal.returns
returns c = let popped = c.in_ok-key in let first = popped.field-0 in
    let gone = IsPermutation-map arrival_of _ _ popped.ensures.permutation in
    let its = found _ c.pop.new.self _ first c.self.invariant popped.ensures.permutation c.remove-envelope.result c.remove-envelope.ensures.value in
    let seen = subst (λ (l : List Arrival). IsPermutation l (arrival_of first ∷ arrivals c.pop.new.self)) c.self.view_is gone in (
      subst (λ (e : Envelope). IsPermutation c.args.self.now (arriving first.0.rank first.0.number e ∷ arrivals c.pop.new.self)) its seen,
      All-map (IsBehind (arrival_of first)) arrival_of _ (all_behind first _ (popped.ensures.below_top c.self.invariant.ordered)),
    )
