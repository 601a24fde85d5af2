use Rattle.std.specs.Vec.Iter.{into_iter_items}
use Rattle.mb_shutdown.proofs.Gathered.{HasHandles}
use Rattle.mb_shutdown.proofs.GivingBack.{SomeHaveGivenBack}
use Rattle.mb_shutdown.proofs.unfinished.give_all_back.Given as goal

abbrev pub invariant-loop-handle : goal.invariant-loop-handle
invariant-loop-handle g l =
    HasHandles l.fn.gates l.fn.handles.items l.yielded (into_iter_items l.handle-iterator) l.pass
    × SomeHaveGivenBack g.K.Behaviours.gives l.fn.handles.items l.yielded (into_iter_items l.handle-iterator) l.pass
