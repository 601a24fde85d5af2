-- A claim that was just taken, with the home of its actor.
use Rattle.std.specs.Prelude.{ℕ, Option}
use Rattle.std.specs.Global.{Box}
use Rattle.mb_actor.specs.Behaviour.{Moment, Reply}
use Rattle.mb_gate.specs.declared.claim.Claim.{Claim}
use Rattle.mb_home.specs.AtHome.{IsHomeOf, facts_of}
use Rattle.mb_home.specs.Contents.{Contents}
use Rattle.mb_gate.specs.Untouched.{Origin, IsUntouched}

-- The claim is as a try to schedule gave it, and it holds the home of its actor.
abbrev pub IsFreshClaim : (ℕ → Moment → Reply → Type 0) → Option (Origin (Box Contents)) → Claim (Box Contents) → Type 0
IsFreshClaim gives = IsUntouched
    (λ (first : Box Contents) (actor : ℕ) (home : Box Contents). IsHomeOf (gives actor) first.value actor home.value)
    (λ (home : Box Contents). facts_of home.value)
