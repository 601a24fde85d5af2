-- That a sender is of the same gates after a call.
use Rattle.std.proofs.Common.{◌≡◌, ◌+◌, ◌∙◌, ap, vec_len}
use Rattle.std.specs.Global.{Box}
use Rattle.mb_gate.specs.Accessors.{pass_id}
use Rattle.mb_gate.specs.declared.gates.Gates.{Gates}
use Rattle.mb_home.specs.Contents.{Contents}
use Rattle.mb_pool.specs.Places.{gates_of}
use Rattle.mb_send.specs.Sends.{receiving_queues}
use Rattle.mb_system.specs.Members.{IsSenderOf, OutsideSender}

module _ (gates : Gates (Box Contents)) (old new : OutsideSender) (is_of : IsSenderOf gates old) (same_pass : pass_id new.registrar.pass ≡ pass_id old.registrar.pass)
    (same_pool : gates_of new.registrar.run_queue.feed ≡ gates_of old.registrar.run_queue.feed) where
  -- Its passes lead into the same queues still.
  pub sender-still : vec_len new.sends ≡ vec_len old.sends → receiving_queues new.sends.items ≡ receiving_queues old.sends.items → IsSenderOf gates new
  sender-still count queues = record {
    same_gates = (same_pass ∙ is_of.same_gates.0, same_pool ∙ is_of.same_gates.1, is_of.same_gates.2);
    all = ap (λ n. n + 1) count ∙ is_of.all;
    queues = queues ∙ is_of.queues;
  }

  -- Its passes are as they were.
  pub sender-same : new.sends ≡ old.sends → IsSenderOf gates new
  sender-same same = sender-still (ap (λ sends. vec_len sends) same) (ap (λ sends. receiving_queues sends.items) same)
