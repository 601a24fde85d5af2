-- Where any list of steps leads.
use Rattle.std.proofs.Common.{ℕ, [], length, refl, subst}
use Rattle.atomic_table.specs.Table.{opening}
use Rattle.mb_core.specs.Held.{IsHeldRightly, HasPossibleMailbox}
use Rattle.mb_core.specs.Settled.{IsSettled}
use Rattle.mb_core.specs.Between.{ChangesLink, StaysEnded}
use Rattle.mb_core.specs.Laws.{StepsKeep, StepsKeepWith, EveryRunHas}
use Rattle.mb_core.specs.Parties.{SplitsKeep, JoinsKeep}
use Rattle.mb_gate.specs.HomeFacts.{HomeFacts}
use Rattle.mb_gate.specs.View.{alone}
use Rattle.mb_gate.specs.Starts.{rows_of, slots_of}
use Rattle.mb_gate.proofs.Starting.{starts}
use Rattle.mb_refinement.specs.Interleavings.{Path, machine}
use Rattle.mb_refinement.specs.Reached.{StepsFromNewGates, StepsKeepEnded}
use Rattle.mb_refinement.proofs.Interleavings.{path_of}
use Rattle.mb_refinement.proofs.Beginnings.{new_gates_begin}
use Rattle.mb_refinement.proofs.KeptFacts.{holds_from_the_beginning, stays_ended_over}
use Rattle.mb_refinement.proofs.TableMoves.{table_steps_are_moves}

pub steps_from_new_gates : {H : Type 0} (all_of : H → ℕ → H → Type 0) (first : H) (facts : H → HomeFacts) → EveryRunHas IsHeldRightly → EveryRunHas HasPossibleMailbox
    → EveryRunHas IsSettled → StepsKeep IsHeldRightly → StepsKeep HasPossibleMailbox → StepsKeepWith IsHeldRightly IsSettled → SplitsKeep IsHeldRightly → SplitsKeep
    HasPossibleMailbox → SplitsKeep IsSettled → JoinsKeep IsHeldRightly → JoinsKeep HasPossibleMailbox → JoinsKeep IsSettled → StepsFromNewGates all_of first facts
steps_from_new_gates all_of first facts held possible settled steps steps_possible steps_settled splits splits_possible splits_settled joins joins_possible
    joins_settled hs s rests moves fresh w =
    let n = length hs in
    let begin = opening (rows_of facts hs) (slots_of hs) alone in
    let r = starts (all_of first) facts n hs (rows_of facts hs) (slots_of hs) refl refl refl fresh in
    let led = table_steps_are_moves all_of first facts n begin s r (λ a. []) rests moves (λ a inside quiet. refl) w in
    let kept = holds_from_the_beginning (all_of first) facts held possible settled steps steps_possible steps_settled splits splits_possible splits_settled joins
    joins_possible joins_settled hs r s led.0 rests moves fresh led.1 in record {
      rule = led.0;
      path = subst (λ z. Path z moves (machine (all_of first) facts n s led.0 rests)) (new_gates_begin (all_of first) facts hs r).0 (path_of (all_of first) facts n
          begin s r led.0 (λ a. []) rests moves led.1);
      held = kept.0;
      possible = kept.1;
      settled = kept.2;
    }

pub steps_keep_ended : {H : Type 0} (all_of : H → ℕ → H → Type 0) (first : H) (facts : H → HomeFacts) → ChangesLink (λ party step x y. StaysEnded x y)
    → StepsKeepEnded all_of first facts
steps_keep_ended all_of first facts law n s s' r rests rests' moves marked w =
    let led = table_steps_are_moves all_of first facts n s s' r rests rests' moves marked w in (
      led.0,
      stays_ended_over (all_of first) facts law n s s' r led.0 rests rests' moves led.1,
    )
