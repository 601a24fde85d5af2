use Rattle.std.proofs.Common.{rules, ◌≡◌, ◌++◌, ◌∷◌, [], length, refl, sym, ap, ◌∙◌, subst, append_assoc, arith}
use Rattle.std.specs.Prelude.{All, Some}
use Rattle.std.specs.Vec.Iter.{into_iter_items}
use Rattle.std.proofs.lemmas.List.{append-nil, length_push, map_push, nil_from_length}
use Rattle.std.proofs.lemmas.List.Elements.{All-head, All-rest}
use Rattle.mb_gate.specs.Accessors.{pass_view}
use Rattle.mb_gate.specs.View.{View, obligation_to}
use Rattle.mb_gate.specs.Untouched.{origin_of}
use Rattle.mb_pool.specs.Places.{gates_of}
use Rattle.mb_pool.specs.WorkerPorts.{WorkerPortView}
use Rattle.mb_startup.specs.Begun.{AreNewHandles}
use Rattle.mb_system.specs.Members.{pool_handles_of}
use Rattle.mb_startup.specs.Shared.{KeepsWhole}
use Rattle.mb_system.specs.Shares.{share_of_handle, shares_of_handles}
use Rattle.mb_system.specs.declared.handle.WorkerHandle.{WorkerHandle}
use Rattle.mb_startup.proofs.HandlesAndSenders.{handles-next}
use Rattle.mb_startup.proofs.Sharing.{keeps-next, keeps-none}
use Rattle.mb_startup.proofs.handles_and_senders.open_handles.Goals as goal

pub loop-handle-init : goal.loop-handle-init
loop-handle-init g c =
    let none : c.in_ok-opened.opened.items ≡ [] = search rules in
    let all = c.into_iter-handle-iterator.ensures.into_iter_gives.0 in record {
      whole = all;
      handles = subst (All (λ e. gates_of e ≡ Some (origin_of c.args.gates.now))) (sym all) c.requires.handles;
      count = ap length none;
      same_gates = refl;
      kept = (refl, refl, refl, refl);
      shares = subst (λ l. KeepsWhole (pass_view c.args.pass.now).share (pass_view c.args.pass.now).share (shares_of_handles l)) (sym none)
          (keeps-none (pass_view c.args.pass.now).share);
      opened = subst (AreNewHandles c.args.gates.now 0) (sym none) tt;
      ports = ap pool_handles_of none;
    }

pub loop-handle-preserved : goal.loop-handle-preserved
loop-handle-preserved g c =
    let at = c.loop-handle in let handle = c.in-Some.handle in let rest = into_iter_items c.next.new.self in let gates = c.args.gates.now in
    let steps : into_iter_items at.handle-iterator ≡ handle ∷ rest = c.in-Some.ensures.steps.0 in
    let these = subst (All (λ e. gates_of e ≡ Some (origin_of gates))) steps at.invariant.handles in
    let place : c.len-number.result ≡ length at.opened.items = search rules in
    let pushed = c.in_ok-push.ensures.items in let count = at.invariant.count in
    let longer = ap length pushed ∙ length_push at.opened.items _ in let further = length_push at.yielded handle in record {
      whole = append_assoc at.yielded (handle ∷ []) rest ∙ ap (λ l. at.yielded ++ l) (sym steps) ∙ at.invariant.whole;
      handles = All-rest (λ e. gates_of e ≡ Some (origin_of gates)) handle rest (into_iter_items at.handle-iterator) steps at.invariant.handles;
      count = omega (arith, longer, further, count);
      same_gates = c.new_pass.ensures.same_gates.0 ∙ at.invariant.same_gates;
      kept = (
        ap (λ (v : View). v.log) c.new_pass.ensures.known.0 ∙ at.invariant.kept.0,
        ap (λ (v : View). v.got) c.new_pass.ensures.known.0 ∙ at.invariant.kept.1,
        ap (λ (v : View). v.obligations) c.new_pass.ensures.known.0 ∙ at.invariant.kept.2,
        ap (λ (v : View). v.releases) c.new_pass.ensures.known.0 ∙ at.invariant.kept.3,
      );
      shares = keeps-next share_of_handle (pass_view c.args.pass.now).share (pass_view at.pass).share _ at.opened.items _ _
          (ap (λ (v : View). v.share) c.new_pass.ensures.known.0) pushed (ap (λ (v : View). v.share) c.new_pass.ensures.known.1) at.invariant.shares;
      opened = handles-next gates at.opened.items _ _ pushed at.invariant.opened (record {
        same_gates = (
          c.new_pass.ensures.same_gates.1 ∙ at.invariant.same_gates ∙ c.requires.same_gates.0,
          ap (λ (port : WorkerPortView _). gates_of port.handle) c.new.ensures.value ∙ All-head (λ e. gates_of e ≡ Some (origin_of gates)) handle rest these,
          c.requires.same_gates.1,
        );
        number_is = place;
        nobody = c.none.ensures;
        settled = λ id. ap (obligation_to id) c.new_pass.ensures.known.1;
        blank = ap (λ (v : View). v.log) c.new_pass.ensures.known.1;
        unclaimed = ap (λ (v : View). v.got) c.new_pass.ensures.known.1;
        none_released = ap (λ (v : View). v.releases) c.new_pass.ensures.known.1;
        no_claims = (
          ap (λ (port : WorkerPortView _). port.pushed) c.new.ensures.value,
          ap (λ (port : WorkerPortView _). port.refused) c.new.ensures.value,
          c.new-in-loop-handle.ensures,
        );
      });
      ports = ap pool_handles_of pushed ∙ map_push (λ (e : WorkerHandle _ _). e.registrar.run_queue.handle) at.opened.items _
          ∙ (λ i. at.invariant.ports i ++ ap (λ (port : WorkerPortView _). port.handle) c.new.ensures.value i ∷ []);
    }

pub returns-clause-opened : goal.returns-clause-opened
returns-clause-opened g c =
    let at = c.loop-handle in
    let none : into_iter_items at.handle-iterator ≡ [] =
    nil_from_length (into_iter_items at.handle-iterator) (sym at.handle-iterator.rest.ok.0 ∙ c.in-None.ensures.steps.0) in
    let all : at.yielded ≡ c.args.handles.items = sym (append-nil at.yielded) ∙ ap (λ l. at.yielded ++ l) (sym none) ∙ at.invariant.whole in
    (at.invariant.count ∙ ap length all, at.invariant.opened)

pub returns-clause-ports : goal.returns-clause-ports
returns-clause-ports g c =
    let at = c.loop-handle in
    let none : into_iter_items at.handle-iterator ≡ [] =
    nil_from_length (into_iter_items at.handle-iterator) (sym at.handle-iterator.rest.ok.0 ∙ c.in-None.ensures.steps.0) in
    at.invariant.ports ∙ sym (append-nil at.yielded) ∙ ap (λ l. at.yielded ++ l) (sym none) ∙ at.invariant.whole

pub returns-clause-same_gates : goal.returns-clause-same_gates
returns-clause-same_gates g c = c.loop-handle.invariant.same_gates

pub returns-clause-kept : goal.returns-clause-kept
returns-clause-kept g c = c.loop-handle.invariant.kept

pub returns-clause-shares : goal.returns-clause-shares
returns-clause-shares g c = c.loop-handle.invariant.shares

pub returns-in_err-opened-clause-same_gates : goal.returns-in_err-opened-clause-same_gates
returns-in_err-opened-clause-same_gates g c = refl

pub returns-in_err-opened-clause-kept : goal.returns-in_err-opened-clause-kept
returns-in_err-opened-clause-kept g c = (refl, refl, refl, refl)

pub returns-in_err-push-clause-same_gates : goal.returns-in_err-push-clause-same_gates
returns-in_err-push-clause-same_gates g c = c.new_pass.ensures.same_gates.0 ∙ c.loop-handle.invariant.same_gates

pub returns-in_err-push-clause-kept : goal.returns-in_err-push-clause-kept
returns-in_err-push-clause-kept g c =
    let at = c.loop-handle.invariant.kept in let known = c.new_pass.ensures.known.0 in (
      ap (λ (v : View). v.log) known ∙ at.0,
      ap (λ (v : View). v.got) known ∙ at.1,
      ap (λ (v : View). v.obligations) known ∙ at.2,
      ap (λ (v : View). v.releases) known ∙ at.3,
    )
