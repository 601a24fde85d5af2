-- What a report says of the actors that were handed in.
use Rattle.std.specs.Prelude.{◌≡◌, ℕ, suc, ℤ, List, Some, slice_get}
use Rattle.mb_actor.specs.declared.message.Message.{Message}
use Rattle.mb_build.specs.Planned.{actors_in}
use Rattle.mb_journal.specs.Identity.{Identity}
use Rattle.mb_journal.specs.Incarnation.{messages}
use Rattle.mb_msg.specs.declared.plan.Plan.{Plan}
use Rattle.mb_report.specs.declared.report.Report.{Report}
use Rattle.heddleorange.specs.Reading.{entries_in, state_in}

-- The state that the report shows of each actor that was handed in is the actor's own `after` of the messages that came to it since its last start or
-- restart, as its journal has them. The first actor that was handed in has number 1.
abbrev pub ShowsStates : {A : Type 0} → (A → List Message → ℤ) → List A → Plan → Report → Type 0
ShowsStates {A} after actors plan report = (place : ℕ) (actor : A) → slice_get actors place ≡ Some actor
    → (who : Identity) × (slice_get (actors_in plan) (suc place) ≡ Some who)
    × (state_in report (suc place) ≡ Some (after actor (messages who (entries_in report (suc place)))))
