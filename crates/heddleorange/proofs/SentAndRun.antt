-- The senders of a system have sent, and its handles have run.
use Rattle.std.proofs.Common.{◌≡◌, ℕ, List, length, subst, sym}
use Rattle.std.specs.Prelude.{All}
use Rattle.mb_actor.specs.Behaviour.{Moment, Reply}
use Rattle.mb_gate.specs.Untouched.{origin_of}
use Rattle.mb_msg.specs.declared.order.Order.{Order}
use Rattle.mb_system.specs.Belonging.{BelongsTogether}
use Rattle.mb_system.specs.Members.{AreHandlesOf, IsSenderOf, OutsideSender, StillSee}
use Rattle.mb_system.specs.declared.built.Built.{Built}
use Rattle.heddleorange.specs.Sent.{HaveSent}
use Rattle.heddleorange.specs.SentAndRun.{HasSentAndRun}
use Rattle.heddleorange.specs.Workers.{AllOnlyRuns}
use Rattle.heddleorange.proofs.Sent.{together-kept}

-- these are the senders after they have sent
pub sent-and-run : {A K : Type 0} (gives : ℕ → Moment → Reply → Type 0) (orders : List (List Order)) (old new : Built A K) (senders : List OutsideSender)
    → length old.senders.items ≡ length orders → BelongsTogether old → HaveSent old.system.gates orders old.senders.items senders
    → All (λ (s : OutsideSender). IsSenderOf old.system.gates s) senders → new.senders.items ≡ senders → new.system ≡ old.system
    → AreHandlesOf old.system.gates new.handles.items → StillSee old.handles.items new.handles.items
    → AllOnlyRuns gives (origin_of old.system.gates) old.system.throughput old.handles.items new.handles.items → HasSentAndRun gives orders old new
sent-and-run gives orders old new senders as_many together sent ours is system handles saw runs =
    let kept = subst (HaveSent old.system.gates orders old.senders.items) (sym is) sent in record {
      together = together-kept orders old new as_many system together kept handles
          (subst (All (λ (s : OutsideSender). IsSenderOf old.system.gates s)) (sym is) ours);
      sent = kept;
      log_kept = saw;
      runs = runs;
    }
