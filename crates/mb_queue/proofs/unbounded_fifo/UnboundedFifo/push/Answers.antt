use Rattle.std.proofs.Common.{rules, arith, refl, is_ok}
use Rattle.mb_queue.proofs.ListCalls.{carried_is, if_pushed, pushed_is, may_push_it, push_allowed}
use Rattle.mb_queue.proofs.unbounded_fifo.UnboundedFifo.push.Goals as goal

pub slot_mut-list-requires : goal.slot_mut-list-requires
slot_mut-list-requires g c = (search rules, (c.lock.ensures.locked.0, carried_is _ c.args.pass.now.me c.lock.new.pass.me c.lock.ensures.locked.1))

pub store-requires : goal.store-requires
store-requires g c =
    let b = is_ok c.push-answer.result in (
      search rules,
      (let s = c.args.self.now.sized in omega arith),
      push_allowed _ _ (let s = c.args.self.now.sized in omega arith) c.args.pass.now.me c.lock.new.pass.me _ c.lock.ensures.locked.0 c.lock.ensures.locked.1 _
          c.slot_mut-list.ensures.value _ refl _ c.requires.list.1 (if_pushed b c.args.envelope.now) (pushed_is b _ _ _ c.push-answer.ensures.items)
          (may_push_it b c.args.envelope.now _ c.requires.may_push),
    )
