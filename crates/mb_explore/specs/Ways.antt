-- What all ways on from a system come to.
use Rattle.std.specs.Prelude.{◌≡◌, ℕ, ℤ, ◌+◌, ◌≤◌, List, length}
use Rattle.std.specs.List.{Contains}
use Rattle.mb_actor.specs.Behaviour.{Moment, Reply}
use Rattle.mb_actor.specs.declared.message.Message.{Message}
use Rattle.mb_report.specs.Lines.{report_text_of}
use Rattle.mb_report.specs.declared.report.Report.{Report}
use Rattle.mb_world.specs.Alike.{IsAlike}
use Rattle.mb_world.specs.Choices.{IsPossible}
use Rattle.mb_world.specs.Ending.{AreShown}
use Rattle.mb_world.specs.World.{Steps, WorldView}
use Rattle.mb_world.specs.declared.choice.Choice.{Choice}
use Rattle.mb_explore.specs.Orders.{IsOver}

-- a text that was found, with an order of so many steps at most
pub record IsFoundWithin (found : List (List ℕ × List Choice)) (text : List ℕ) (steps : ℕ) : Type 0 where
  pub order : List Choice
  pub there : Contains found (text, order)
  pub short : length order ≤ steps

module _ (after : ℕ → List Message → ℤ) (gives : ℕ → Moment → Reply → Type 0) (names : List (List ℕ)) where
  -- the text of a report that shows this system
  pub record IsToldOf (world : WorldView) (text : List ℕ) : Type 0 where
    pub report : Report
    pub shown : AreShown after gives world.cells world.mailboxes report.actors.items
    pub told : text ≡ report_text_of names report

  -- Each way on from a system, to which so many steps led, ends in a text that was found, and no way is shorter than the order that was found with that
  -- text. Either no step is possible in the system, and its own text was found; or a step is possible, and each that is was made in a system that is
  -- alike, and each way on from where it led ends so.
  pub data AllEndFrom (found : List (List ℕ × List Choice)) : ℕ → WorldView → Type 0 where
    is_over : (steps : ℕ) (world : WorldView) (text : List ℕ) → IsOver world → IsToldOf world text → IsFoundWithin found text steps →
        AllEndFrom found steps world
    goes_on : (steps : ℕ) (world : WorldView) (some : Choice) → IsPossible world some →
        (near next : (choice : Choice) → IsPossible world choice → WorldView) →
        ((choice : Choice) (possible : IsPossible world choice) → IsAlike (near choice possible) world) →
        ((choice : Choice) (possible : IsPossible world choice) → Steps (near choice possible) choice (next choice possible)) →
        ((choice : Choice) (possible : IsPossible world choice) → AllEndFrom found (steps + 1) (next choice possible)) →
        AllEndFrom found steps world

  -- so do all ways on from a first system
  pub record AllEndAtStart (starts : WorldView → Type 0) (found : List (List ℕ × List Choice)) : Type 0 where
    pub first : WorldView
    pub starts_so : starts first
    pub all_end : AllEndFrom found 0 first
