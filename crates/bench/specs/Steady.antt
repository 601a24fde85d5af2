-- An actor that never fails.
use Rattle.std.specs.Prelude.{◌≡◌, false}
use Rattle.mb_actor.specs.Behaviour.{Moment, Reply}
use Rattle.mb_journal.specs.Entry.{is_failed}

-- the reply is no failure
abbrev pub is_no_failure : Moment → Reply → Type 0
is_no_failure moment reply = is_failed reply.answer ≡ false

-- whatever its calls may give is no failure
abbrev pub IsSteady : (Moment → Reply → Type 0) → Type 0
IsSteady gives = (moment : Moment) (reply : Reply) → gives moment reply → is_failed reply.answer ≡ false
