use Rattle.std.proofs.Common.{◌∷◌, ◌++◌, [], length, sym, ap, subst, ◌∙◌, append_assoc, length-append, arith}
use Rattle.std.specs.List.{AllZip}
use Rattle.std.specs.Vec.Iter.{into_iter_items}
use Rattle.std.proofs.lemmas.Slice.Zip.{AllZip-long}
use Rattle.mb_shutdown.specs.Unfinished.{ShowsHome}
use Rattle.mb_shutdown.proofs.GivingBack.{zip-push}
use Rattle.mb_shutdown.proofs.unfinished.show_all.Goals as goal

pub push_reserved-requires : goal.push_reserved-requires
push_reserved-requires g c =
    let at = c.loop-left in
    let many = AllZip-long ShowsHome at.yielded at.actors.items at.invariant.0 in let len = at.actors.ok.0 in
    let all = ap length at.invariant.1 in let both = length-append at.yielded (into_iter_items at.left-iterator) in
    let next = ap length c.in-Some.ensures.steps.0 in let same = at.invariant.2 in let room = c.requires.room.1 in
    omega (arith, many, len, all, both, next, same, room)

pub loop-left-preserved : goal.loop-left-preserved
loop-left-preserved g c =
    let at = c.loop-left in let left = c.in-Some.left in let rest = into_iter_items c.next.new.self in (
      subst (AllZip ShowsHome (at.yielded ++ left ∷ [])) (sym c.push_reserved.ensures.items)
          (zip-push ShowsHome at.yielded at.actors.items left c.shown.result at.invariant.0 c.shown.ensures),
      append_assoc at.yielded (left ∷ []) rest ∙ ap (λ l. at.yielded ++ l) (sym c.in-Some.ensures.steps.0) ∙ at.invariant.1,
      c.push_reserved.ensures.capacity ∙ at.invariant.2,
    )
