-- The lines of an entry (this project's own profile: Akka keeps no journal).
use Rattle.std.specs.Prelude.{ℕ, List, ◌++◌, codes, Option, Some, None}
use Rattle.std.specs.List.{flat_map}
use Rattle.std.specs.Fmt.{decimal}
use Rattle.mb_actor.specs.declared.answer.Answer.{Answer}
use Rattle.mb_actor.specs.declared.answer.Answer.TheVariants as answer
use Rattle.mb_actor.specs.declared.effect.Effect.{Effect}
use Rattle.mb_journal.specs.Entry.{Entry, outcome_answer, outcome_effects, outcome_of}
use Rattle.mb_journal.specs.Entry.Entry.{Handled, System, Dropped}
use Rattle.mb_journal.specs.Entry.Outcome.{Applied, SetAside}
use Rattle.mb_trace.specs.Words.{effect_text, envelope_text, system_text}
use Rattle.mb_trace.specs.ActorSnapshot.{change_text}
use Rattle.mb_trace.specs.declared.actor_snapshot.ActorSnapshot.{ActorSnapshot}

-- What the call of an actor answered. Where it was not called, the message is handled by its cell.
abbrev pub outcome_text : Option Answer → List ℕ
outcome_text None = codes "handled"
outcome_text (Some answer.Handled) = codes "handled"
outcome_text (Some answer.Unhandled) = codes "unhandled"
outcome_text (Some (answer.Failed number)) = codes "failed " ++ decimal number

-- A system message with its number.
abbrev pub numbered_text : List (List ℕ) → ℕ → List ℕ → List ℕ
numbered_text names number message = codes "system #" ++ decimal number ++ codes " " ++ message

-- What came to an actor, and what became of it.
unfoldable pub arrival_text : List (List ℕ) → Entry → List ℕ
arrival_text names (Handled envelope reading outcome) = envelope_text names envelope ++ codes ": " ++ outcome_text (outcome_answer outcome)
arrival_text names (System number message (Applied a effects)) =
    numbered_text names number (system_text names message) ++ codes ": " ++ outcome_text a
arrival_text names (System number message SetAside) = numbered_text names number (system_text names message) ++ codes ": set aside"
arrival_text names (Dropped envelope) = envelope_text names envelope ++ codes ": dropped"

-- A line for each effect, set in further.
abbrev pub effect_lines_text : List (List ℕ) → List Effect → List ℕ
effect_lines_text names effects = flat_map (λ (e : Effect). codes "    " ++ effect_text names e ++ codes "\n") effects

-- The lines of an entry: what came and what became of it, what that changed, and the effects.
abbrev pub entry_text : List (List ℕ) → ActorSnapshot → ActorSnapshot → Entry → List ℕ
entry_text names before after e = codes "  " ++ arrival_text names e ++ change_text before after ++ codes "\n"
    ++ effect_lines_text names (outcome_effects (outcome_of e))
