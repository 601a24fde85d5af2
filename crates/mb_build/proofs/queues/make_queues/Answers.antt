use Rattle.std.proofs.Common.{rules, ◌≡◌, ◌≢◌, ◌+◌, ◌++◌, ℕ, length, map, sym, ap, ◌∙◌, subst, arith}
use Rattle.std.specs.Prelude.{AllPairs}
use Rattle.std.proofs.lemmas.List.{length-map}
use Rattle.std.proofs.lemmas.Result.{IfOk-from_err}
use Rattle.mb_queue.specs.Made.{numbers_of}
use Rattle.mb_build.specs.Numbers.{sender_numbers}
use Rattle.mb_build.proofs.NumberLemmas.{senders-different}
use Rattle.mb_build.proofs.QueueLemmas.{all-made-of, refilled, unhanded}
use Rattle.mb_build.proofs.queues.make_queues.Goals as goal

pub add_queues-requires-clause-within_limit : goal.add_queues-requires-clause-within_limit
add_queues-requires-clause-within_limit c = (ap length c.in_ok-queues.ensures.0.1, c.requires.within_limit.0)

pub add_queues-requires-clause-distinct : goal.add_queues-requires-clause-distinct
add_queues-requires-clause-distinct c =
    let few = c.requires.within_limit.0 in
    let count : c.len.result ≡ length c.args.kinds.items = search rules in
    subst (AllPairs (λ (a b : ℕ). a ≢ b)) (sym (ap numbers_of c.deref.ensures.value ∙ c.in_ok-senders.ensures))
    (senders-different (c.len.result + 1) c.args.outside (omega (arith, few, count)))

pub add_queues-requires-clause-none : goal.add_queues-requires-clause-none
add_queues-requires-clause-none c =
    let senders = c.deref.result.now in
    let same : senders ≡ c.in_ok-senders.senders.items = search rules in
    let count : c.len-2.result ≡ length senders = search (rules, same) in
    ap (map (λ r. r.items)) c.deref_mut.ensures.value
    ∙ unhanded (numbers_of senders) _ c.len-2.result c.in_ok-queues.ensures.1 (count ∙ sym (length-map senders (λ s. s.0)))

pub returns : goal.returns
returns c =
    let made = c.in_ok-add_queues.ensures.made in let first = c.in_ok-queues.ensures.0 in let old = c.in_ok-queues.queues.senders in
    let new = c.add_queues.new.rows in let numbers = numbers_of c.deref.result.now in
    let count : c.len.result ≡ length c.args.kinds.items = search rules in
    let who : numbers ≡ sender_numbers (length c.args.kinds.items + 1) c.args.outside =
    ap numbers_of c.deref.ensures.value ∙ c.in_ok-senders.ensures ∙ ap (λ n. sender_numbers (n + 1) c.args.outside) count in
    let rows = ap (map (λ r. r.items)) (refilled old.len old.items new (c.add_queues.ensures.same_count ∙ c.deref_mut.ensures.len)) ∙ made.3 in
    all-made-of c.args.kinds.items numbers _ first.0 c.add_queues.new.takes.items made.0 _
    (made.1 ∙ ap (λ l. l ++ made.0) first.1) first.2 made.2 rows who

pub returns-in_err-senders : goal.returns-in_err-senders
returns-in_err-senders c = IfOk-from_err c.from_residual.result _ c.from_residual.ensures.0

pub returns-in_err-queues : goal.returns-in_err-queues
returns-in_err-queues c = IfOk-from_err c.from_residual-in_err-queues.result _ c.from_residual-in_err-queues.ensures.0

pub returns-in_err-add_queues : goal.returns-in_err-add_queues
returns-in_err-add_queues c = IfOk-from_err c.from_residual-in_err-add_queues.result _ c.from_residual-in_err-add_queues.ensures.0
