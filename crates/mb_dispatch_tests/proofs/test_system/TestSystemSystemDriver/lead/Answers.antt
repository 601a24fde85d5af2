use Rattle.std.proofs.Common.{◌∙◌, arith, ap, length, subst, sym}
use Rattle.std.specs.Prelude.{All}
use Rattle.std.proofs.lemmas.List.{with_items_is}
use Rattle.mb_system.specs.Members.{AreHandlesOf, IsSenderOf}
use Rattle.mb_dispatch_tests.proofs.Kept.{with-handles}
use Rattle.mb_dispatch_tests.proofs.test_system.TestSystemSystemDriver.lead.Goals as goal

pub call_handle-requires-clause-handles : goal.call_handle-requires-clause-handles
call_handle-requires-clause-handles g c =
    subst (AreHandlesOf c.self.inside.system.gates) (sym c.deref_mut.ensures.value) c.self.invariant.handles

pub call_handle-requires-clause-senders : goal.call_handle-requires-clause-senders
call_handle-requires-clause-senders g c =
    subst (All (λ s. IsSenderOf c.self.inside.system.gates s)) (sym c.deref_mut-2.ensures.value) c.self.invariant.senders

pub call_handle-requires-clause-not_empty : goal.call_handle-requires-clause-not_empty
call_handle-requires-clause-not_empty g c = let long = c.deref_mut.ensures.len in let some = c.self.inside.handles.ok.0 in omega (arith, long, some)

pub invariant_of-self : goal.invariant_of-self
invariant_of-self g c =
    let was = c.self.inside in let did = c.call_handle in
    let handles = with_items_is was.handles did.new.handles (did.auto.handles ∙ ap length c.deref_mut.ensures.value ∙ sym was.handles.ok.0) in
    let senders = with_items_is was.senders did.new.senders (did.auto.senders ∙ ap length c.deref_mut-2.ensures.value ∙ sym was.senders.ok.0) in
    with-handles was.system was.handles was.senders _ _ (subst (AreHandlesOf was.system.gates) (sym handles) did.ensures.handles)
    (senders ∙ did.ensures.senders ∙ c.deref_mut-2.ensures.value) c.self.invariant
