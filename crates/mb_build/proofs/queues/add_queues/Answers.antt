use Rattle.std.proofs.Common.{◌≡◌, ◌+◌, ◌++◌, ◌∷◌, [], length, map, refl, sym, ap, ◌∙◌, subst, append_assoc, arith}
use Rattle.std.specs.Prelude.{All}
use Rattle.std.specs.Vec.Iter.{into_iter_items}
use Rattle.std.proofs.lemmas.List.{append-nil, length-append, length-map, nil_from_length}
use Rattle.std.proofs.lemmas.List.Elements.{All-rest}
use Rattle.std.proofs.lemmas.Result.{IfOk-from_err}
use Rattle.mb_queue.specs.Made.{IsEmpty, IsMakeable, numbers_of, unused}
use Rattle.mb_build.specs.Handed.{passes_of}
use Rattle.mb_build.specs.Made.{AreEmpty}
use Rattle.mb_build.proofs.QueueLemmas.{as-many, empty-more, handed-more}
use Rattle.mb_build.proofs.queues.add_queues.Goals as goal

pub loop-kind-init : goal.loop-kind-init
loop-kind-init c =
    let all = c.into_iter-kind-iterator.ensures.into_iter_gives.0 in
    ([], sym (append-nil c.args.takes.now.items), tt, c.requires.none, all, subst (All IsMakeable) (sym all) c.requires.kinds)

pub add_queue-requires-clause-within_limit : goal.add_queue-requires-clause-within_limit
add_queue-requires-clause-within_limit c =
    let at = c.loop-kind in let kind = c.in-Some.kind in let rest = into_iter_items c.next.new.self in
    let steps : into_iter_items at.kind-iterator ≡ kind ∷ rest = c.in-Some.ensures.steps.0 in
    let whole = ap length (ap (λ l. at.yielded ++ l) (sym steps) ∙ at.invariant.4) in let sum = length-append at.yielded (kind ∷ rest) in
    let many = as-many at.yielded 1 (numbers_of c.args.senders.now) at.invariant.0 at.invariant.2 in
    let taken = ap length at.invariant.1 in let both = length-append c.args.takes.now.items at.invariant.0 in let few = c.requires.within_limit in
    let one = few.0 in let most = few.1 in
    omega (arith, whole, sum, many, taken, both, one, most)

pub add_queue-requires-clause-same_count : goal.add_queue-requires-clause-same_count
add_queue-requires-clause-same_count c =
    let at = c.loop-kind in let senders = c.args.senders.now in
    sym (length-map at.rows (λ r. r.items)) ∙ ap length at.invariant.3
    ∙ length-map (numbers_of senders) (passes_of at.invariant.0) ∙ length-map senders (λ s. s.0)

pub loop-kind-preserved : goal.loop-kind-preserved
loop-kind-preserved c =
    let at = c.loop-kind in let kind = c.in-Some.kind in let rest = into_iter_items c.next.new.self in
    let senders = numbers_of c.args.senders.now in let made = c.in_ok-add_queue.ensures.made in let take = made.0 in
    let more = at.invariant.0 in let before = c.args.takes.now.items in
    let steps : into_iter_items at.kind-iterator ≡ kind ∷ rest = c.in-Some.ensures.steps.0 in
    let many = as-many at.yielded 1 senders more at.invariant.2 in let taken = ap length at.invariant.1 in
    let both = length-append before more in let one = c.requires.within_limit.0 in
    let number : length at.takes.items ≡ 1 + length at.yielded = omega (arith, many, taken, both, one) in (
      more ++ take ∷ [],
      made.1 ∙ ap (λ l. l ++ take ∷ []) at.invariant.1 ∙ append_assoc before more (take ∷ []),
      empty-more at.yielded kind 1 senders more take at.invariant.2 (subst (λ n. IsEmpty kind n senders take) number made.2.0) made.2.1,
      handed-more (map (λ r. r.items) at.rows) _ (map (unused take.queue) senders) more (more ++ take ∷ []) take senders made.3 at.invariant.3
          refl refl,
      append_assoc at.yielded (kind ∷ []) rest ∙ ap (λ l. at.yielded ++ l) (sym steps) ∙ at.invariant.4,
      All-rest IsMakeable kind rest (into_iter_items at.kind-iterator) steps at.invariant.5,
    )

pub returns-clause-made : goal.returns-clause-made
returns-clause-made c =
    let at = c.loop-kind in
    let none : into_iter_items at.kind-iterator ≡ [] =
    nil_from_length (into_iter_items at.kind-iterator) (sym at.kind-iterator.rest.ok.0 ∙ c.in-None.ensures.steps.0) in
    let all : at.yielded ≡ c.args.kinds.items = sym (append-nil at.yielded) ∙ ap (λ l. at.yielded ++ l) (sym none) ∙ at.invariant.4 in
    (at.invariant.0, at.invariant.1, subst (λ l. AreEmpty l 1 (numbers_of c.args.senders.now) at.invariant.0) all at.invariant.2, at.invariant.3)

pub returns-in_err-add_queue-clause-made : goal.returns-in_err-add_queue-clause-made
returns-in_err-add_queue-clause-made c = IfOk-from_err c.from_residual.result _ c.from_residual.ensures.0
