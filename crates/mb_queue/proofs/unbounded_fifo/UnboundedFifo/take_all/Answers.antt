use Rattle.std.proofs.Common.{rules, arith, refl, ap, ◌∙◌}
use Rattle.mb_queue.proofs.ListCalls.{carried_is, take_allowed}
use Rattle.mb_queue.proofs.unbounded_fifo.UnboundedFifo.take_all.Goals as goal

pub slot_mut-requires : goal.slot_mut-requires
slot_mut-requires g c = (search rules, (c.lock.ensures.locked.0, carried_is _ c.args.pass.now.me c.lock.new.pass.me c.lock.ensures.locked.1))

pub store-requires : goal.store-requires
store-requires g c = (
  search rules,
  (let s = c.args.self.now.sized in omega arith),
  take_allowed _ _ (let s = c.args.self.now.sized in omega arith) c.args.pass.now.me c.lock.new.pass.me _ c.lock.ensures.locked.0 c.lock.ensures.locked.1 _
      c.slot_mut.ensures.value _ refl _ c.requires.list.1 (ap (λ b. b.items) c.swap.ensures.x_after ∙ c.requires.empty) c.requires.taker,
)
