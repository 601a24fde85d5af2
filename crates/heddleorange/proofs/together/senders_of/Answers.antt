use Rattle.std.proofs.Common.{◌≡◌, ◌∙◌, ◌++◌, ◌∷◌, [], ap, append_assoc, arith, length, length-append, map, refl, sym}
use Rattle.std.specs.Vec.Iter.{into_iter_items}
use Rattle.std.proofs.lemmas.List.{append-nil, map-append, nil_from_length}
use Rattle.mb_shutdown.proofs.Lists.{length-mapped}
use Rattle.heddleorange.proofs.Jobs.{sender_in}
use Rattle.heddleorange.proofs.together.senders_of.Goals as goal

pub loop-job-init : goal.loop-job-init
loop-job-init g c = (c.into_iter-job-iterator.ensures.into_iter_gives.0, c.requires.room.0, refl)

pub push_reserved-requires : goal.push_reserved-requires
push_reserved-requires g c =
    let at = c.loop-job in let many = ap length at.invariant.1 ∙ length-mapped sender_in at.yielded in let len = at.senders.ok.0 in
    let all = ap length at.invariant.0 in let both = length-append at.yielded (into_iter_items at.job-iterator) in
    let next = ap length c.in-Some.ensures.steps.0 in let same = at.invariant.2 in let room = c.requires.room.1 in
    omega (arith, many, len, all, both, next, same, room)

pub loop-job-preserved : goal.loop-job-preserved
loop-job-preserved g c =
    let at = c.loop-job in let job = c.in-Some.job in let rest = into_iter_items c.next.new.self in
    let steps : into_iter_items at.job-iterator ≡ job ∷ rest = c.in-Some.ensures.steps.0 in (
      append_assoc at.yielded (job ∷ []) rest ∙ ap (λ l. at.yielded ++ l) (sym steps) ∙ at.invariant.0,
      c.push_reserved.ensures.items ∙ ap (λ l. l ++ job.sender ∷ []) at.invariant.1 ∙ sym (map-append sender_in at.yielded (job ∷ [])),
      c.push_reserved.ensures.capacity ∙ at.invariant.2,
    )

pub returns : goal.returns
returns g c =
    let at = c.loop-job in
    let none : into_iter_items at.job-iterator ≡ [] =
    nil_from_length (into_iter_items at.job-iterator) (sym at.job-iterator.rest.ok.0 ∙ c.in-None.ensures.steps.0) in
    at.invariant.1 ∙ ap (map sender_in) (sym (append-nil at.yielded) ∙ ap (λ l. at.yielded ++ l) (sym none) ∙ at.invariant.0)
