use Rattle.std.proofs.Common.{rules, ◌≡◌, ◌++◌, ◌∷◌, [], length, map, refl, sym, ap, subst, ◌∙◌, append-nil, append_assoc, length-append, arith}
use Rattle.std.specs.Vec.Iter.{into_iter_items}
use Rattle.std.proofs.lemmas.List.{map-append, nil_from_length}
use Rattle.mb_shutdown.specs.HomeParts.{AreApart}
use Rattle.mb_shutdown.specs.Mismatched.{IsNotReturned, IsUnopened}
use Rattle.mb_shutdown.proofs.Answered.{err-of, ok-none}
use Rattle.mb_shutdown.proofs.Lists.{length-mapped}
use Rattle.mb_shutdown.proofs.Mismatches.{did-not-come, next-of}
use Rattle.mb_shutdown.proofs.Steps.{apart-more, apart-same, as-many, none-apart}
use Rattle.mb_shutdown.proofs.home_parts.take_apart.Goals as goal

pub push_reserved-requires-in-loop-left : goal.push_reserved-requires-in-loop-left
push_reserved-requires-in-loop-left g c =
    let at = c.loop-left in let rest = into_iter_items c.next.new.self in
    let many = as-many at.yielded at.ended.items at.takes.items (map (λ r. r.items) at.rows.items) at.senders.items at.invariant.0 in
    let a = many.of_rows in let b = length-mapped (λ r. r.items) at.rows.items in
    let all = ap length at.invariant.1 in let both = length-append at.yielded (into_iter_items at.left-iterator) in
    let next = ap length c.in-Some.ensures.steps.0 in let same = at.invariant.4 in let room = c.requires.room.2 in
    omega (arith, a, b, all, both, next, same, room)

pub push_reserved-requires-in-loop-left-2 : goal.push_reserved-requires-in-loop-left-2
push_reserved-requires-in-loop-left-2 g c =
    let at = c.loop-left in let rest = into_iter_items c.next.new.self in
    let many = as-many at.yielded at.ended.items at.takes.items (map (λ r. r.items) at.rows.items) at.senders.items at.invariant.0 in
    let a = many.of_senders in
    let all = ap length at.invariant.1 in let both = length-append at.yielded (into_iter_items at.left-iterator) in
    let next = ap length c.in-Some.ensures.steps.0 in let same = at.invariant.5 in let room = c.requires.room.3 in
    omega (arith, a, all, both, next, same, room)

pub push_reserved-requires-in-loop-left-3 : goal.push_reserved-requires-in-loop-left-3
push_reserved-requires-in-loop-left-3 g c =
    let at = c.loop-left in let rest = into_iter_items c.next.new.self in
    let many = as-many at.yielded at.ended.items at.takes.items (map (λ r. r.items) at.rows.items) at.senders.items at.invariant.0 in
    let a = many.of_ended in
    let all = ap length at.invariant.1 in let both = length-append at.yielded (into_iter_items at.left-iterator) in
    let next = ap length c.in-Some.ensures.steps.0 in let same = at.invariant.2 in let room = c.requires.room.0 in
    omega (arith, a, all, both, next, same, room)

pub loop-left-preserved : goal.loop-left-preserved
loop-left-preserved g c =
    let at = c.loop-left in let left = c.in-Some.left in let parts = c.in_ok-cell.field-0 in let rest = into_iter_items c.next.new.self in
    let rows = map (λ r. r.items) at.rows.items in (
      apart-same (at.yielded ++ left ∷ []) _ _ _ _ _ _ _ _ c.push_reserved-in-loop-left-3.ensures.items c.push_reserved.ensures.items
          (ap (map (λ r. r.items)) c.push_reserved-in-loop-left.ensures.items ∙ map-append (λ r. r.items) at.rows.items (parts.sends ∷ []))
          c.push_reserved-in-loop-left-2.ensures.items
          (apart-more at.yielded at.ended.items at.takes.items rows at.senders.items left parts _ _ at.invariant.0 c.in_ok-cell.ensures.opened refl
          refl),
      append_assoc at.yielded (left ∷ []) rest ∙ ap (λ l. at.yielded ++ l) (sym c.in-Some.ensures.steps.0) ∙ at.invariant.1,
      c.push_reserved-in-loop-left-3.ensures.capacity ∙ at.invariant.2,
      c.push_reserved.ensures.capacity ∙ at.invariant.3,
      c.push_reserved-in-loop-left.ensures.capacity ∙ at.invariant.4,
      c.push_reserved-in-loop-left-2.ensures.capacity ∙ at.invariant.5,
    )

pub returns-in_err-cell-clause-not_returned : goal.returns-in_err-cell-clause-not_returned
returns-in_err-cell-clause-not_returned g c =
    let at = c.loop-left in let left = c.in-Some.left in let rest = into_iter_items c.next.new.self in
    let many = as-many at.yielded at.ended.items at.takes.items (map (λ r. r.items) at.rows.items) at.senders.items at.invariant.0 in
    let a = many.of_ended in let what = c.in_err-cell.field-0.0 in
    err-of (IsNotReturned c.args.all.items) c.from_residual.result what c.from_residual.ensures.1
    (did-not-come c.args.all.items left (length at.yielded) what
    (next-of at.yielded rest c.args.all.items left (ap (λ l. at.yielded ++ l) (sym c.in-Some.ensures.steps.0) ∙ at.invariant.1))
    (subst (λ k. IsUnopened left k what) (search (rules, a)) c.in_err-cell.ensures.opened))

pub loop-left-init : goal.loop-left-init
loop-left-init g c =
    let none = c.requires.empty in (
      none-apart none.0 none.1 (ap (map (λ r. r.items)) none.2) none.3,
      c.into_iter-left-iterator.ensures.into_iter_gives.0,
      refl,
      refl,
      refl,
      refl,
    )

pub overflow_cast-id : goal.overflow_cast-id
overflow_cast-id g c =
    let at = c.loop-left in let rest = into_iter_items c.next.new.self in
    let many = as-many at.yielded at.ended.items at.takes.items (map (λ r. r.items) at.rows.items) at.senders.items at.invariant.0 in
    let all = ap length at.invariant.1 in let both = length-append at.yielded (into_iter_items at.left-iterator) in
    let next = ap length c.in-Some.ensures.steps.0 in
    let here : c.len.result ≡ length at.ended.items = search rules in let a = many.of_ended in let few = c.requires.room.4 in
    omega (arith, here, a, all, both, next, few)

pub push_reserved-requires : goal.push_reserved-requires
push_reserved-requires g c =
    let at = c.loop-left in let rest = into_iter_items c.next.new.self in
    let many = as-many at.yielded at.ended.items at.takes.items (map (λ r. r.items) at.rows.items) at.senders.items at.invariant.0 in
    let all = ap length at.invariant.1 in let both = length-append at.yielded (into_iter_items at.left-iterator) in
    let next = ap length c.in-Some.ensures.steps.0 in
    let a = many.of_takes in let same = at.invariant.3 in let room = c.requires.room.1 in
    omega (arith, a, all, both, next, same, room)

pub returns-in_err-cell-clause-apart : goal.returns-in_err-cell-clause-apart
returns-in_err-cell-clause-apart g c =
    let at = c.loop-left in
    ok-none (AreApart c.args.all.items at.ended.items at.takes.items (map (λ r. r.items) at.rows.items) at.senders.items)
    c.from_residual.result c.in_err-cell.field-0.0 c.from_residual.ensures.1

pub returns-in_err-cell-clause-room : goal.returns-in_err-cell-clause-room
returns-in_err-cell-clause-room g c = (c.loop-left.invariant.4, c.loop-left.invariant.5)

pub returns-clause-apart : goal.returns-clause-apart
returns-clause-apart g c =
    let at = c.loop-left in
    let none : into_iter_items at.left-iterator ≡ [] =
    nil_from_length (into_iter_items at.left-iterator) (sym at.left-iterator.rest.ok.0 ∙ c.in-None.ensures.steps.0) in
    let all : at.yielded ≡ c.args.all.items = sym (append-nil at.yielded) ∙ ap (λ l. at.yielded ++ l) (sym none) ∙ at.invariant.1 in
    subst (λ l. AreApart l at.ended.items at.takes.items (map (λ r. r.items) at.rows.items) at.senders.items) all at.invariant.0

pub returns-clause-not_returned : goal.returns-clause-not_returned
returns-clause-not_returned g c = tt

pub returns-clause-room : goal.returns-clause-room
returns-clause-room g c = (c.loop-left.invariant.4, c.loop-left.invariant.5)
