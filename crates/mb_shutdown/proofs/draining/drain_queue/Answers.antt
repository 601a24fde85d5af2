use Rattle.std.proofs.Common.{rules, ◌≡◌, ◌<◌, ◌≤◌, inl, inr, ⊎_elim, sym, ap, ◌∙◌, ◌++◌, ◌∷◌, [], length, refl, subst, append_assoc, arith}
use Rattle.std.specs.Prelude.{vec_capacity}
use Rattle.std.proofs.lemmas.List.{append-nil, length-append}
use Rattle.mb_shutdown.proofs.ArrivedLemmas.{parts-out}
use Rattle.mb_shutdown.proofs.LeftLemmas.{ControlsCame, controls-left, none-came, one-came}
use Rattle.mb_shutdown.proofs.RestLemmas.{is-rest, longer-none, some-length}
use Rattle.mb_shutdown.proofs.draining.drain_queue.Goals as goal

pub loop-init : goal.loop-init
loop-init g c =
    let take = c.args.take in let items = c.args.room.now.items in let nothing : items ++ [] ≡ [] = append-nil items ∙ c.requires.empty in (
      (
        [],
        sym (ap (λ l. take.taken ++ l) nothing ∙ append-nil take.taken),
        inl (refl, refl),
        none-came take (items ++ []) nothing,
      ),
      (refl, refl),
      refl,
      refl,
    )

pub returns-in_default-clause-rest : goal.returns-in_default-clause-rest
returns-in_default-clause-rest g c = λ fits.
    let e = c.in_default.ensures in let at = c.loop.invariant in let items = c.loop.room.items in
    let none : at.0.0 ≡ [] = ⊎_elim (λ all. all.1) (λ some. absurd (cc (sym fits ∙ some.0))) at.0.2 in
    let came = subst (ControlsCame c.loop.take) (ap (λ l. items ++ l) none ∙ append-nil items) at.0.3 in
    is-rest c.args.take c.take.new.self items (controls-left c.args.take c.loop.take items at.1 at.2 came)
    (e.taken ∙ append-nil c.loop.take.taken ∙ at.0.1 ∙ ap (λ l. c.args.take.taken ++ (items ++ l)) none
    ∙ ap (λ l. c.args.take.taken ++ l) (append-nil items)) (e.same.0 ∙ at.1.0, e.same.1 ∙ at.1.1) (e.same.2 ∙ at.2) e.given_all.each_once
    (λ discipline. e.given_all.in_order (sym e.same.1 ∙ discipline))
    (parts-out c.loop.take c.take.new.self e.follows_discipline e.taken e.same.1 e.same.2) e.known

pub returns-in_default-clause-overfull : goal.returns-in_default-clause-overfull
returns-in_default-clause-overfull g c = λ over.
    let e = c.in_default.ensures in let at = c.loop.invariant in let items = c.loop.room.items in let more = at.0.0 in
    record {
      left = items ++ more;
      rest = is-rest c.args.take c.take.new.self (items ++ more)
          (controls-left c.args.take c.loop.take (items ++ more) at.1 at.2 at.0.3) (e.taken ∙ append-nil c.loop.take.taken ∙ at.0.1)
          (e.same.0 ∙ at.1.0, e.same.1 ∙ at.1.1) (e.same.2 ∙ at.2) e.given_all.each_once (λ discipline. e.given_all.in_order (sym e.same.1 ∙ discipline))
          (parts-out c.loop.take c.take.new.self e.follows_discipline e.taken e.same.1 e.same.2) e.known;
      over = ⊎_elim (λ all. absurd (cc (sym over ∙ all.0)))
          (λ some.
          let a = some-length more some.1 in let b = some.2 in let cap = at.3 in let both = length-append items more in
          omega (arith, a, b, cap, both)) at.0.2;
    }

-- one more was taken, and lies in the room
pub loop-preserved-then-len-capacity : goal.loop-preserved-then-len-capacity
loop-preserved-then-len-capacity g c =
    let e = c.in-Some-take.ensures in let at = c.loop.invariant in let one = c.in-Some-take.envelope ∷ [] in let items = c.loop.room.items in
    let old = c.args.take.taken in
    let place : length items < vec_capacity c.loop.room = search rules in (
      ⊎_elim (λ all. (
        [],
        e.taken ∙ ap (λ l. l ++ one) (at.0.1 ∙ ap (λ l. old ++ (items ++ l)) all.1 ∙ ap (λ l. old ++ l) (append-nil items))
            ∙ append_assoc old items one
            ∙ ap (λ l. old ++ l) (sym c.push_reserved.ensures.items ∙ sym (append-nil c.push_reserved.new.self.items)),
        inl (all.0, refl),
        subst (ControlsCame c.take.new.self)
            (ap (λ l. (items ++ l) ++ one) all.1 ∙ ap (λ l. l ++ one) (append-nil items) ∙ sym c.push_reserved.ensures.items
            ∙ sym (append-nil c.push_reserved.new.self.items))
            (one-came c.loop.take c.take.new.self (items ++ at.0.0) c.in-Some-take.envelope e.taken e.same.2 (e.same.0, e.same.1) e.follows_discipline
            e.of_queue.0 at.0.3),
      )) (λ some. absurd (let full = some.2 in omega (arith, full, place))) at.0.2,
      (e.same.0 ∙ at.1.0, e.same.1 ∙ at.1.1),
      e.same.2 ∙ at.2,
      c.push_reserved.ensures.capacity ∙ at.3,
    )

-- one more was taken, and is dropped
pub loop-preserved : goal.loop-preserved
loop-preserved g c =
    let e = c.in-Some-take.ensures in let at = c.loop.invariant in let one = c.in-Some-take.envelope ∷ [] in let items = c.loop.room.items in
    let old = c.args.take.taken in let more = at.0.0 in
    let full : vec_capacity c.loop.room ≤ length items = search rules in (
      (
        more ++ one,
        e.taken ∙ ap (λ l. l ++ one) at.0.1 ∙ append_assoc old (items ++ more) one ∙ ap (λ l. old ++ l) (append_assoc items more one),
        inr (refl, longer-none more c.in-Some-take.envelope, full),
        subst (ControlsCame c.take.new.self) (append_assoc items more one)
            (one-came c.loop.take c.take.new.self (items ++ more) c.in-Some-take.envelope e.taken e.same.2 (e.same.0, e.same.1) e.follows_discipline
            e.of_queue.0 at.0.3),
      ),
      (e.same.0 ∙ at.1.0, e.same.1 ∙ at.1.1),
      e.same.2 ∙ at.2,
      at.3,
    )
