-- The gates of a new system.
use Rattle.std.specs.Prelude.{◌≡◌, ℕ, ◌+◌, List, drop, length}
use Rattle.std.specs.Global.{Box}
use Rattle.mb_msg.specs.Limits.{most_actors}
use Rattle.mb_gate.specs.Accessors.{actors_of, first_home}
use Rattle.mb_gate.specs.declared.gates.Gates.{Gates}
use Rattle.mb_queue.specs.Passes.{SendPassView}
use Rattle.mb_home.specs.Contents.{Contents}
use Rattle.mb_home.specs.Directory.{queues_of}
use Rattle.mb_startup.specs.Begun.{AreUnused}
use Rattle.mb_system.specs.KnownSenders.{AreKnown}

-- The gates of the guardian and of so many actors, all of which are in the first home's directory. Besides the actors so many senders outside may
-- push into their queues, and these are the passes of each, unused.
pub record AreNewGates (gates : Gates (Box Contents)) (count senders : ℕ) (outside : List (List SendPassView)) : Type 0 where
  pub actors : actors_of gates ≡ count + 1
  pub directory : length (first_home gates).value.directory ≡ actors_of gates
  pub known : AreKnown (first_home gates).value.directory senders
  pub unused : AreUnused (drop 1 (queues_of (first_home gates).value.directory)) (actors_of gates) most_actors outside
  pub rows : length outside ≡ senders
