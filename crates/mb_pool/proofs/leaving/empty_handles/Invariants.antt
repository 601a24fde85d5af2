use Rattle.std.proofs.Common.{◌≡◌, ◌++◌}
use Rattle.std.specs.Vec.Iter.{into_iter_items}
use Rattle.mb_pool.specs.Handles.{shared_ports_of, Empties, owns_of, TakesIn}
use Rattle.mb_pool.specs.Parts.{port_view}
use Rattle.mb_gate.specs.Untouched.{IsUntouched}
use Rattle.mb_pool.specs.Endpoints.{HasShare}
use Rattle.mb_pool.proofs.leaving.empty_handles.Given as goal

abbrev pub invariant-loop-handle : goal.invariant-loop-handle
invariant-loop-handle g l = TakesIn (port_view l.initial.shared_port) (shared_ports_of l.yielded) (port_view l.shared_port)
    × Empties (IsUntouched g.H.MailboxState.is_of g.H.MailboxState.facts) (port_view l.initial.shared_port).ledger.gates
    (owns_of l.yielded) l.initial.left.items l.left.items
    × HasShare (port_view l.shared_port)
    × (l.yielded ++ into_iter_items l.handle-iterator ≡ into_iter_items l.initial.handle-iterator)
