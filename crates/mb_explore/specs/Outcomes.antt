-- What a system can come to.
use Rattle.std.specs.Prelude.{◌≡◌, ◌≢◌, ℕ, ℤ, List, [], ◌∷◌, ◌++◌}
use Rattle.std.specs.List.{All, AllPairs, Contains}
use Rattle.mb_actor.specs.Behaviour.{Moment, Reply}
use Rattle.mb_actor.specs.declared.message.Message.{Message}
use Rattle.mb_report.specs.Lines.{report_text_of}
use Rattle.mb_report.specs.declared.report.Report.{Report}
use Rattle.mb_world.specs.Choices.{IsPossible}
use Rattle.mb_world.specs.Ending.{AreShown}
use Rattle.mb_world.specs.World.{WorldView}
use Rattle.mb_world.specs.declared.choice.Choice.{Choice}
use Rattle.mb_explore.specs.Orders.{IsOver, LeadsTo}

module _ (starts : WorldView → Type 0) (after : ℕ → List Message → ℤ) (gives : ℕ → Moment → Reply → Type 0) (names : List (List ℕ)) where
  -- this order of steps leads from a first world to one in which no step is possible, and this is the text of a report that shows it
  pub record EndsIn (schedule : List Choice) (text : List ℕ) : Type 0 where
    pub first : WorldView
    pub last : WorldView
    pub starts_so : starts first
    pub leads : LeadsTo first schedule last
    pub over : IsOver last
    pub report : Report
    pub shown : AreShown after gives last.cells last.mailboxes report.actors.items
    pub told : text ≡ report_text_of names report

  -- Each order of steps that begins with this one ends in one of these texts. The steps were made, and led from a first world to one in which no step
  -- is possible, whose text is here; or to one in which a step is possible, and each that is possible there has been followed in the same way.
  pub data AllEndIn (texts : List (List ℕ)) : List Choice → Type 0 where
    ends : (schedule : List Choice) (text : List ℕ) → EndsIn schedule text → Contains texts text → AllEndIn texts schedule
    goes_on : (schedule : List Choice) (first last : WorldView) → starts first → LeadsTo first schedule last →
        (some : Choice) → IsPossible last some →
        ((choice : Choice) → IsPossible last choice → AllEndIn texts (schedule ++ choice ∷ [])) → AllEndIn texts schedule

  -- each of these texts is one that an order of steps ends in, here with such an order; and no text is here twice
  pub record AreFound (found : List (List ℕ × List Choice)) : Type 0 where
    pub each : All (λ (f : List ℕ × List Choice). EndsIn f.1 f.0) found
    pub once : AllPairs (λ (f g : List ℕ × List Choice). f.0 ≢ g.0) found

  -- Once all orders that are still to be followed have been, and end in texts among which are those that are found, the same holds of those that were
  -- to be followed before, and of this one.
  abbrev pub Follows : List (List ℕ) → List (List Choice) → List (List ℕ) → List (List Choice) → List Choice → Type 0
  Follows found_before before found after_it schedule =
      (texts : List (List ℕ)) → All (Contains texts) found → All (AllEndIn texts) after_it →
      All (Contains texts) found_before × All (AllEndIn texts) before × AllEndIn texts schedule
