use Rattle.std.proofs.Common.{◌≡◌, [], ◌∷◌, ◌++◌, map, take, Some, subst, sym, ap, ◌∙◌, arith}
use Rattle.std.specs.List.{Contains}
use Rattle.std.proofs.lemmas.List.{length-map, take_all}
use Rattle.mb_queue.specs.Ledger.{account, lent}
use Rattle.mb_msg.specs.declared.id.SenderId.{SenderId}
use Rattle.mb_queue.specs.Made.{IsEmpty, numbers_of, unused}
use Rattle.mb_queue.specs.Passes.{TakePassView}
use Rattle.mb_queue.proofs.Distinct.{map_more, this, this_home, this_known}
use Rattle.mb_queue.proofs.make.MailQueue.new.Goals as goal

pub loop-sender-init : goal.loop-sender-init
loop-sender-init c = (ap (λ a. record c.in_ok-take.take { accounts = a }) c.in_ok-take.ensures.accounts, c.in_ok-sends.ensures.items)

pub lend-requires-clause-known : goal.lend-requires-clause-known
lend-requires-clause-known c = let i = c.loop-sender.sender-index in let all = c.args.senders.now in
    subst (λ l. Contains l (this all i c.loop-sender-test.true))
    (sym (ap (λ (t : TakePassView). t.queue.senders) c.loop-sender.invariant.0 ∙ c.in_ok-take.ensures.empty.senders_are))
    (this_known all i c.loop-sender-test.true)

pub lend-requires-clause-home : goal.lend-requires-clause-home
lend-requires-clause-home c = let i = c.loop-sender.sender-index in let all = c.args.senders.now in
    subst (λ l. account l (this all i c.loop-sender-test.true) ≡ Some []) (sym (ap (λ (t : TakePassView). t.accounts) c.loop-sender.invariant.0))
    (this_home all i c.loop-sender-test.true c.requires.distinct)

pub loop-sender-preserved : goal.loop-sender-preserved
loop-sender-preserved c = let i = c.loop-sender.sender-index in let all = c.args.senders.now in let t = c.in_ok-take.take in
    let at = c.loop-sender-test.true in
    let q = ap (λ (x : TakePassView). x.queue) c.loop-sender.invariant.0 in (
      c.in_ok-rest.ensures.0 ∙ ap (λ (x : TakePassView). record x { accounts = x.accounts ++ lent (this all i at) ∷ [] }) c.loop-sender.invariant.0
          ∙ ap (λ a. record t { accounts = a }) (sym (map_more all i at lent)),
      c.in_ok-push.ensures.items ∙ (λ k. c.loop-sender.invariant.1 k ++ (c.in_ok-rest.ensures.1 ∙ ap (λ x. unused x (this all i at)) q) k ∷ [])
          ∙ sym (map_more all i at (unused t.queue)),
    )

pub returns : goal.returns
returns c = let i = c.loop-sender.sender-index in let all = c.args.senders.now in let t = c.in_ok-take.take in
    let whole : take i (numbers_of all) ≡ numbers_of all =
    take_all i (numbers_of all) (omega (arith, length-map all (λ (s : SenderId). s.0), c.loop-sender-test.false)) in
    let is = c.loop-sender.invariant.0 ∙ ap (λ l. record t { accounts = map lent l }) whole in
    let e = c.in_ok-take.ensures.empty in record {
      empty = subst (IsEmpty c.args.kind c.args.to.0 (numbers_of all)) (sym is)
          (record {
            senders_are = e.senders_are;
            actor = e.actor;
            discipline = e.discipline;
            bound = e.bound;
            arrived = e.arrived;
            waiting = e.waiting;
            taken =
                e.taken;
          });
      accounts = ap (λ (x : TakePassView). x.accounts) is;
      passes = c.loop-sender.invariant.1 ∙ (λ k. map (unused ((sym (ap (λ (x : TakePassView). x.queue) is)) k)) (whole k));
    }
