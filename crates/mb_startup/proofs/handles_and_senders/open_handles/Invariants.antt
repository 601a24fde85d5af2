use Rattle.std.proofs.Common.{◌≡◌, ◌++◌, length}
use Rattle.std.specs.Prelude.{All, Some}
use Rattle.std.specs.Vec.Iter.{into_iter_items}
use Rattle.mb_gate.specs.Accessors.{pass_view, pass_id}
use Rattle.mb_gate.specs.Untouched.{origin_of}
use Rattle.mb_pool.specs.Places.{gates_of}
use Rattle.mb_startup.specs.Begun.{AreNewHandles}
use Rattle.mb_system.specs.Members.{pool_handles_of}
use Rattle.mb_startup.specs.Shared.{KeepsWhole}
use Rattle.mb_system.specs.Shares.{shares_of_handles}
use Rattle.mb_startup.proofs.handles_and_senders.open_handles.Given as goal

abbrev pub invariant-loop-handle : goal.invariant-loop-handle
invariant-loop-handle g l = record {
  whole : l.yielded ++ into_iter_items l.handle-iterator ≡ l.fn.handles.items;
  handles : All (λ e. gates_of e ≡ Some (origin_of l.gates)) (into_iter_items l.handle-iterator);
  count : length l.opened.items ≡ length l.yielded;
  same_gates : pass_id l.pass ≡ pass_id l.initial.pass;
  kept : ((pass_view l.pass).log ≡ (pass_view l.initial.pass).log) × ((pass_view l.pass).got ≡ (pass_view l.initial.pass).got)
      × ((pass_view l.pass).obligations ≡ (pass_view l.initial.pass).obligations) × ((pass_view l.pass).releases ≡ (pass_view l.initial.pass).releases);
  shares : KeepsWhole (pass_view l.initial.pass).share (pass_view l.pass).share (shares_of_handles l.opened.items);
  opened : AreNewHandles l.gates 0 l.opened.items;
  ports : pool_handles_of l.opened.items ≡ l.yielded;
}
