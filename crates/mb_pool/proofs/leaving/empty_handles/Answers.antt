use Rattle.std.proofs.Common.{◌≡◌, [], ◌∷◌, ◌++◌, ap, append_assoc, length, refl, subst, sym, ◌∙◌}
use Rattle.std.specs.Vec.Iter.{into_iter_items}
use Rattle.mb_pool.specs.Handles.{Empties, TakesIn, shared_ports_of, owns_of}
use Rattle.mb_pool.specs.Parts.{port_view}
use Rattle.mb_gate.specs.Untouched.{IsUntouched}
use Rattle.mb_pool.specs.Endpoints.{HasShare}
use Rattle.mb_pool.proofs.Emptying.{empties_none, takes_in_none}
use Rattle.mb_pool.proofs.Ending.{alike_rest, all_shared_ports, all_emptied}
use Rattle.mb_pool.proofs.Taking.{drained, empties_next, here, share_next, takes_next}
use Rattle.mb_pool.proofs.leaving.empty_handles.Goals as goal

pub loop-handle-init : goal.loop-handle-init
loop-handle-init g c =
    let base = port_view c.empty_handle-shared_port.result in (
      takes_in_none base,
      empties_none (IsUntouched g.H.MailboxState.is_of g.H.MailboxState.facts) base.ledger.gates c.empty_handle-shared_port.new.left.items,
      subst (λ l. HasShare l) (sym c.empty_handle-shared_port.ensures.shared_port) c.empty_handle-shared_port.ensures.share,
      refl,
    )

pub join-requires-clause-place : goal.join-requires-clause-place
join-requires-clause-place g c =
    let at = c.loop-handle in let base = port_view c.empty_handle-shared_port.result in let first = c.in-Some.first in
    let all = into_iter_items c.into_iter-handle-iterator.result in
    let is : c.args.handles.items ≡ first ∷ all = sym c.into_iter-handles.ensures.rest ∙ c.in-Some.ensures.items
    ∙ ap (λ it. first ∷ into_iter_items it) (sym c.into_iter-handle-iterator.ensures.into_iter_gives) in
    let alike = alike_rest c.args.handles.items all first base is c.empty_handle-shared_port.ensures.shared_port c.requires.same_pool in
    let handle = c.in-Some-handle.handle in let rest = into_iter_items c.next-in-loop-handle.new.self in
    let steps : into_iter_items at.handle-iterator ≡ handle ∷ rest = c.in-Some-handle.ensures.steps.0 in
    let list : at.yielded ++ handle ∷ rest ≡ all = ap (λ l. at.yielded ++ l) (sym steps) ∙ at.invariant.3 in
    let other = port_view c.empty_handle-other.result in
    here (IsUntouched g.H.MailboxState.is_of g.H.MailboxState.facts)
    base (port_view at.shared_port) other base all at.yielded rest handle list alike at.invariant.0 c.empty_handle-other.ensures.shared_port

pub join-requires-clause-shares : goal.join-requires-clause-shares
join-requires-clause-shares g c = (
  c.loop-handle.invariant.2,
  subst (λ l. HasShare l)
      (sym c.empty_handle-other.ensures.shared_port) c.empty_handle-other.ensures.share,
)

pub loop-handle-preserved : goal.loop-handle-preserved
loop-handle-preserved g c =
    let at = c.loop-handle in let base = port_view c.empty_handle-shared_port.result in let first = c.in-Some.first in
    let all = into_iter_items c.into_iter-handle-iterator.result in
    let is : c.args.handles.items ≡ first ∷ all = sym c.into_iter-handles.ensures.rest ∙ c.in-Some.ensures.items
    ∙ ap (λ it. first ∷ into_iter_items it) (sym c.into_iter-handle-iterator.ensures.into_iter_gives) in
    let alike = alike_rest c.args.handles.items all first base is c.empty_handle-shared_port.ensures.shared_port c.requires.same_pool in
    let handle = c.in-Some-handle.handle in let rest = into_iter_items c.next-in-loop-handle.new.self in
    let steps : into_iter_items at.handle-iterator ≡ handle ∷ rest = c.in-Some-handle.ensures.steps.0 in
    let list : at.yielded ++ handle ∷ rest ≡ all = ap (λ l. at.yielded ++ l) (sym steps) ∙ at.invariant.3 in
    let other = port_view c.empty_handle-other.result in
    let new = port_view c.join.new.self in (
      takes_next (IsUntouched g.H.MailboxState.is_of g.H.MailboxState.facts)
          base (port_view at.shared_port) other new all at.yielded rest handle list alike at.invariant.0 c.empty_handle-other.ensures.shared_port c.join.ensures,
      empties_next (IsUntouched g.H.MailboxState.is_of g.H.MailboxState.facts)
          base (port_view at.shared_port) other new all at.yielded rest handle list alike at.invariant.0 c.empty_handle-other.ensures.shared_port
          c.empty_handle-shared_port.new.left.items at.left.items c.empty_handle-other.new.left.items at.invariant.1 c.empty_handle-other.ensures.emptied,
      share_next (IsUntouched g.H.MailboxState.is_of g.H.MailboxState.facts)
          base (port_view at.shared_port) other new all at.yielded rest handle list alike at.invariant.0 c.empty_handle-other.ensures.shared_port
          c.join.ensures at.invariant.2 (subst (λ l. HasShare l) (sym c.empty_handle-other.ensures.shared_port) c.empty_handle-other.ensures.share),
      append_assoc at.yielded (handle ∷ []) rest ∙ list,
    )

pub returns-clause-shared_port : goal.returns-clause-shared_port
returns-clause-shared_port g c =
    let at = c.loop-handle in let base = port_view c.empty_handle-shared_port.result in let first = c.in-Some.first in
    let all = into_iter_items c.into_iter-handle-iterator.result in
    let is : c.args.handles.items ≡ first ∷ all = sym c.into_iter-handles.ensures.rest ∙ c.in-Some.ensures.items
    ∙ ap (λ it. first ∷ into_iter_items it) (sym c.into_iter-handle-iterator.ensures.into_iter_gives) in
    let none : length (into_iter_items at.handle-iterator) ≡ 0 = sym at.handle-iterator.rest.ok.0 ∙ c.in-None.ensures.steps.0 in
    let whole : at.yielded ≡ all = drained at.yielded (into_iter_items at.handle-iterator) all none at.invariant.3 in
    let took = subst (λ ws. TakesIn base (shared_ports_of ws) (port_view at.shared_port)) whole at.invariant.0 in
    all_shared_ports (IsUntouched g.H.MailboxState.is_of g.H.MailboxState.facts)
    c.args.handles.items all first base (port_view at.shared_port) is c.empty_handle-shared_port.ensures.shared_port took

pub returns-clause-emptied : goal.returns-clause-emptied
returns-clause-emptied g c =
    let at = c.loop-handle in let base = port_view c.empty_handle-shared_port.result in let first = c.in-Some.first in
    let all = into_iter_items c.into_iter-handle-iterator.result in
    let is : c.args.handles.items ≡ first ∷ all = sym c.into_iter-handles.ensures.rest ∙ c.in-Some.ensures.items
    ∙ ap (λ it. first ∷ into_iter_items it) (sym c.into_iter-handle-iterator.ensures.into_iter_gives) in
    let none : length (into_iter_items at.handle-iterator) ≡ 0 = sym at.handle-iterator.rest.ok.0 ∙ c.in-None.ensures.steps.0 in
    let whole : at.yielded ≡ all = drained at.yielded (into_iter_items at.handle-iterator) all none at.invariant.3 in
    let took = subst (λ ws. TakesIn base (shared_ports_of ws) (port_view at.shared_port)) whole at.invariant.0 in
    all_emptied (IsUntouched g.H.MailboxState.is_of g.H.MailboxState.facts)
    c.args.handles.items all first base (port_view at.shared_port) is c.empty_handle-shared_port.ensures.shared_port took
    c.args.left.now.items c.empty_handle-shared_port.new.left.items at.left.items c.empty_handle-shared_port.ensures.emptied
    (subst (λ ws. Empties (IsUntouched g.H.MailboxState.is_of g.H.MailboxState.facts) base.ledger.gates
    (owns_of ws) c.empty_handle-shared_port.new.left.items at.left.items) whole at.invariant.1)
