use Rattle.std.proofs.Common.{◌≡◌, ◌≤◌, ◌+◌, List, length}
use Rattle.std.specs.Prelude.{IsPermutation, vec_capacity}
use Rattle.std.specs.Vec.Iter.{into_iter_items}
use Rattle.mb_build.specs.Numbers.{numbers}
use Rattle.mb_system.specs.Belonging.{senders_numbers}
use Rattle.mb_shutdown.proofs.Gathered.{HasJoined, HasSenders}
use Rattle.mb_shutdown.proofs.gather.gather.Given as goal

abbrev pub invariant-loop-handle : goal.invariant-loop-handle
invariant-loop-handle g l = HasJoined l.fn.built.system.gates l.fn.built.handles.items l.yielded (into_iter_items l.handle-iterator) l.pass

abbrev pub invariant-loop-sender : goal.invariant-loop-sender
invariant-loop-sender g l =
    let built = l.fn.built in (now : List _) × IsPermutation now built.senders.items × (senders_numbers now ≡ numbers 0 built.system.senders)
    × HasSenders built.system.gates built.handles.items now l.yielded (into_iter_items l.sender-iterator) l.pass l.outside.items
    × (length l.outside.items + length (into_iter_items l.sender-iterator) ≤ vec_capacity l.outside)
