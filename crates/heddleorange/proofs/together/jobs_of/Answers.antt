use Rattle.std.proofs.Common.{rules, ◌≡◌, ◌<◌, ◌++◌, ◌∷◌, ◌∙◌, [], refl, sym, ap, subst, length, map, take, append_assoc, get_or, arith}
use Rattle.std.specs.Vec.Iter.{into_iter_items}
use Rattle.std.proofs.lemmas.List.{append-nil, nil_from_length}
use Rattle.mb_shutdown.proofs.Lists.{length-mapped}
use Rattle.heddleorange.proofs.Jobs.{items_of, job-pushed, next-has-orders, sender_in, sends_in, sends-pushed, take-whole}
use Rattle.heddleorange.proofs.together.jobs_of.Goals as goal

pub loop-sender-init : goal.loop-sender-init
loop-sender-init g c =
    let none : c.in_ok-jobs.jobs.items ≡ [] = search rules in (
      c.into_iter-sender-iterator.ensures.into_iter_gives.0,
      ap (map (λ j. j.sender)) none,
      subst (λ l. map sends_in l ≡ map items_of (take (length l) c.args.sends.now)) (sym none) refl,
    )

pub returns-clause-senders : goal.returns-clause-senders
returns-clause-senders g c =
    let at = c.loop-sender in
    let none : into_iter_items at.sender-iterator ≡ [] =
    nil_from_length (into_iter_items at.sender-iterator) (sym at.sender-iterator.rest.ok.0 ∙ c.in-None.ensures.steps.0) in
    at.invariant.1 ∙ sym (append-nil at.yielded) ∙ ap (λ l. at.yielded ++ l) (sym none) ∙ at.invariant.0

pub bounds-sends-len : goal.bounds-sends-len
bounds-sends-len g c =
    let at = c.loop-sender in let rest = into_iter_items c.next.new.self in
    let steps : into_iter_items at.sender-iterator ≡ c.in-Some.sender ∷ rest = c.in-Some.ensures.steps.0 in
    let whole = ap (λ l. at.yielded ++ l) (sym steps) ∙ at.invariant.0 in
    let within = next-has-orders c.args.sends.now at.yielded rest c.args.senders.items at.jobs.items c.in-Some.sender whole at.invariant.1
    c.requires.same_count in
    let is : c.len-in-loop-sender.result ≡ length at.jobs.items = search rules in
    omega (arith, within, is)

pub offset_bounds-sends-len : goal.offset_bounds-sends-len
offset_bounds-sends-len g c =
    let below : c.len-in-loop-sender.result < length c.args.sends.now = bounds-sends-len g c in search rules

pub loop-sender-preserved : goal.loop-sender-preserved
loop-sender-preserved g c =
    let at = c.loop-sender in let rest = into_iter_items c.next.new.self in let sends = c.args.sends.now in
    let steps : into_iter_items at.sender-iterator ≡ c.in-Some.sender ∷ rest = c.in-Some.ensures.steps.0 in
    let whole = ap (λ l. at.yielded ++ l) (sym steps) ∙ at.invariant.0 in
    let within = next-has-orders sends at.yielded rest c.args.senders.items at.jobs.items c.in-Some.sender whole at.invariant.1 c.requires.same_count in
    let is : c.len-in-loop-sender.result ≡ length at.jobs.items = search rules in
    let here = c.index-sends-len.result in let new = c.push.new.self.items in (
      append_assoc at.yielded (c.in-Some.sender ∷ []) rest ∙ whole,
      job-pushed at.yielded at.jobs.items new c.in-Some.sender _ at.invariant.1 c.in_ok-push.ensures.items refl,
      sends-pushed sends at.jobs.items new _ here within at.invariant.2 c.in_ok-push.ensures.items
          (c.in_ok-own.ensures ∙ c.deref.ensures.value ∙ ap items_of (c.index-sends-len.is ∙ ap (λ n. get_or sends n here) is)),
    )

pub returns-clause-sends : goal.returns-clause-sends
returns-clause-sends g c =
    let at = c.loop-sender in let senders = returns-clause-senders g c in
    let many : length at.jobs.items ≡ length c.args.sends.now =
    sym (length-mapped sender_in at.jobs.items) ∙ ap length senders ∙ c.requires.same_count in
    at.invariant.2 ∙ ap (map items_of) (ap (λ n. take n c.args.sends.now) many ∙ take-whole c.args.sends.now)
