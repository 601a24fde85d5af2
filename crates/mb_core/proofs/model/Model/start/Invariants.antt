-- The words so far can start, and their actors are made.
use Rattle.std.proofs.Common.{◌≡◌, All, IsTrue, take}
use Rattle.mb_core.specs.Run.{can_start, start}
use Rattle.mb_core.proofs.model.Model.start.Given as goal

abbrev pub invariant-loop-word : goal.invariant-loop-word
invariant-loop-word l =
    record {
      words : All (λ word. IsTrue (can_start word)) (take l.word-index l.words);
      actors : l.actors.items ≡ start (take l.word-index l.words) l.parties;
    }
