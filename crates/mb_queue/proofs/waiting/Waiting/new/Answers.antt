use Rattle.mb_queue.proofs.Keeps.{nothing}
use Rattle.mb_queue.proofs.waiting.Waiting.new.Goals as goal

pub invariant_of-result : goal.invariant_of-result
invariant_of-result c = let keys = c.in_ok-keys in let envelopes = c.in_ok-envelopes in
    nothing keys.keys envelopes.envelopes keys.ensures.items keys.ensures.heap_order keys.ensures.capacity
    envelopes.ensures.empty envelopes.ensures.capacity
