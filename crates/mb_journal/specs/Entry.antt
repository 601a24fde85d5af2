-- The entries of a journal. In the specification a journal is a list of entries with the NEWEST FIRST: what is behind an
-- entry in the list came before it. (Akka keeps no journal: this project's own profile.)
use Rattle.std.specs.Prelude.{ℕ, Bool, true, false, List, [], ◌∷◌, Option, None}
use Rattle.mb_msg.specs.declared.envelope.Envelope.{Envelope}
use Rattle.mb_msg.specs.declared.system.SysMsg.{SysMsg}
use Rattle.mb_actor.specs.declared.answer.Answer.{Answer}
use Rattle.mb_actor.specs.declared.answer.Answer.TheVariants as answer
use Rattle.mb_actor.specs.declared.effect.Effect.{Effect}

-- what became of a message: it was applied, with what the actor's call answered (if one was made that answers) and
-- which effects it asked for; or it was set aside
pub data Outcome : Type 0 where
  Applied : Option Answer → List Effect → Outcome
  SetAside : Outcome

-- an entry: an envelope that the actor handled, with the status word that was read before it; a system message, with
-- its number; or an envelope that was dropped, since it tells of an end that the actor no longer waits for
pub data Entry : Type 0 where
  Handled : Envelope → ℕ → Outcome → Entry
  System : ℕ → SysMsg → Outcome → Entry
  Dropped : Envelope → Entry

-- the message was applied, and not set aside
abbrev pub is_applied : Outcome → Bool
is_applied (Applied answer effects) = true
is_applied SetAside = false

-- what the actor's call answered
abbrev pub outcome_answer : Outcome → Option Answer
outcome_answer (Applied answer effects) = answer
outcome_answer SetAside = None

-- which effects it asked for
abbrev pub outcome_effects : Outcome → List Effect
outcome_effects (Applied answer effects) = effects
outcome_effects SetAside = []

-- the answer says that the actor failed
abbrev pub is_failed : Option Answer → Bool
is_failed (Option.Some (answer.Failed n)) = true
is_failed _ = false

-- the outcome of an entry
abbrev pub outcome_of : Entry → Outcome
outcome_of (Handled envelope reading outcome) = outcome
outcome_of (System number message outcome) = outcome
outcome_of (Dropped envelope) = Applied None []

-- the actor answered that it failed
abbrev pub answered_failed : Entry → Bool
answered_failed e = is_failed (outcome_answer (outcome_of e))

-- the effects of the newest entry
abbrev pub newest_effects : List Entry → List Effect
newest_effects [] = []
newest_effects (e ∷ before) = outcome_effects (outcome_of e)
