use Rattle.std.proofs.Common.{◌≡◌, [], ◌∷◌, ◌++◌, ap, sym, ◌∙◌}
use Rattle.std.specs.Vec.Iter.{into_iter_items}
use Rattle.std.proofs.lemmas.List.{nil_from_length}
use Rattle.mb_system.specs.Members.{IsHandleOf}
use Rattle.mb_shutdown.proofs.Gathered.{of-next}
use Rattle.mb_shutdown.proofs.GivingBack.{back-first, back-more, given-all, given-first, given-more}
use Rattle.mb_shutdown.proofs.unfinished.give_all_back.Goals as goal

pub loop-handle-init : goal.loop-handle-init
loop-handle-init g c =
    let handles = c.args.handles.items in let rest = into_iter_items c.into_iter-handle-iterator.result in
    let first = c.in-Some.first in let did = c.give_back-pass in
    let are : first ∷ rest ≡ handles =
    (λ i. first ∷ into_iter_items (c.into_iter-handle-iterator.ensures.into_iter_gives i)) ∙ sym c.in-Some.ensures.cases.0 ∙ c.into_iter-handles.ensures.rest in (
      back-first c.args.gates.now handles rest first did.result are did.ensures.same_gates did.ensures.seen,
      given-first g.K.Behaviours.gives handles rest first did.result are did.ensures.back,
    )

pub loop-handle-preserved : goal.loop-handle-preserved
loop-handle-preserved g c =
    let at = c.loop-handle in let handles = c.args.handles.items in let rest = into_iter_items c.next-in-loop-handle.new.self in
    let handle = c.in-Some-handle.handle in let did = c.give_back-other in let next = c.in-Some-handle.ensures.steps.0 in (
      back-more c.args.gates.now handles at.yielded (into_iter_items at.handle-iterator) rest handle at.pass c.absorb.new.pass did.result at.invariant.0 next
          did.ensures.seen c.absorb.ensures.same_gates c.absorb.ensures.known,
      given-more g.K.Behaviours.gives handles at.yielded (into_iter_items at.handle-iterator) rest handle at.pass c.absorb.new.pass did.result at.invariant.1 next
          did.ensures.back c.absorb.ensures.known,
    )

pub returns-clause-back : goal.returns-clause-back
returns-clause-back g c =
    let at = c.loop-handle in
    given-all g.K.Behaviours.gives c.args.handles.items at.yielded (into_iter_items at.handle-iterator) at.pass at.invariant.1
    (nil_from_length (into_iter_items at.handle-iterator) (sym at.handle-iterator.rest.ok.0 ∙ c.in-None.ensures.steps.0))

pub give_back-pass-requires : goal.give_back-pass-requires
give_back-pass-requires g c = record {
  same_gates = of-next (λ w. IsHandleOf c.args.gates.now w.registrar) [] c.in-Some.first (into_iter_items c.next.new.self) c.args.handles.items
      (sym c.in-Some.ensures.cases.0 ∙ c.into_iter-handles.ensures.rest) c.requires.same_gates;
}

pub give_back-other-requires : goal.give_back-other-requires
give_back-other-requires g c =
    let at = c.loop-handle in let came = at.invariant.0.first ∷ at.yielded in record {
      same_gates = of-next (λ w. IsHandleOf c.args.gates.now w.registrar) came c.in-Some-handle.handle (into_iter_items c.next-in-loop-handle.new.self)
          c.args.handles.items (ap (λ l. came ++ l) (sym c.in-Some-handle.ensures.steps.0) ∙ at.invariant.0.are) c.requires.same_gates;
    }
