-- The entries of journals, as JSON (this project's own profile).
use Rattle.std.specs.Prelude.{ℕ, List, [], codes, Option, Some, None}
use Rattle.serde_json.specs.Data.{Data, null, number, string, object, unsigned, member, no_members}
use Rattle.mb_msg.specs.declared.envelope.Envelope.{Envelope}
use Rattle.mb_actor.specs.declared.answer.Answer.{Answer}
use Rattle.mb_actor.specs.declared.answer.Answer.TheVariants as answer
use Rattle.mb_journal.specs.Entry.{Entry, Outcome}
use Rattle.mb_journal.specs.Entry.Entry.{Handled, System, Dropped}
use Rattle.mb_journal.specs.Entry.Outcome.{Applied, SetAside}
use Rattle.mb_trace_json.specs.Effects.{effects_data}
use Rattle.mb_trace_json.specs.Messages.{body_data, system_data}
use Rattle.mb_trace_json.specs.Names.{name_data}
use Rattle.mb_trace_json.specs.ActorSnapshot.{snapshot_data}
use Rattle.mb_trace_json.specs.Version.{version_data}
use Rattle.mb_trace.specs.declared.actor_snapshot.ActorSnapshot.{ActorSnapshot}

-- What the actor answered; `applied` where it was not called.
abbrev pub answer_text : Option Answer → List ℕ
answer_text None = codes "applied"
answer_text (Some answer.Handled) = codes "handled"
answer_text (Some answer.Unhandled) = codes "unhandled"
answer_text (Some (answer.Failed n)) = codes "failed"

-- The number of a failure; null where the actor did not fail.
abbrev pub answer_error : Option Answer → Data
answer_error None = null
answer_error (Some answer.Handled) = null
answer_error (Some answer.Unhandled) = null
answer_error (Some (answer.Failed n)) = number (unsigned n)

-- What every entry says: whose journal has it and where, how the actor stands after it, the message, who sent it, its number, what came of
-- it, the number of a failure, the effects, the status that was read before, and the version of the form.
abbrev pub whole_data : List (List ℕ) → ℕ → ℕ → ActorSnapshot → Data → Data → ℕ → List ℕ → Data → Data → Data → Data
whole_data names actor place after message sender n outcome error effects status = object
    (member (codes "actor") (name_data names actor)
    (member (codes "after") (snapshot_data after)
    (member (codes "effects") effects
    (member (codes "entry") (number (unsigned place))
    (member (codes "error") error
    (member (codes "line") (string (codes "entry"))
    (member (codes "message") message
    (member (codes "number") (number (unsigned n))
    (member (codes "outcome") (string outcome)
    (member (codes "sender") sender
    (member (codes "status") status
    (member (codes "version") version_data no_members))))))))))))

-- The entry of this actor's journal, at this place there, after which the actor stands so.
abbrev pub entry_data : List (List ℕ) → ℕ → ℕ → ActorSnapshot → Entry → Data
entry_data names actor place after (Handled e reading (Applied a effects)) = whole_data names actor place after (body_data names e.body)
    (name_data names e.by.0) e.number (answer_text a) (answer_error a) (effects_data names effects) (number (unsigned reading))
entry_data names actor place after (Handled e reading SetAside) = whole_data names actor place after (body_data names e.body)
    (name_data names e.by.0) e.number (codes "set aside") null (effects_data names []) (number (unsigned reading))
entry_data names actor place after (System n message (Applied a effects)) = whole_data names actor place after (system_data names message)
    null n (answer_text a) (answer_error a) (effects_data names effects) null
entry_data names actor place after (System n message SetAside) = whole_data names actor place after (system_data names message)
    null n (codes "set aside") null (effects_data names []) null
entry_data names actor place after (Dropped e) = whole_data names actor place after (body_data names e.body)
    (name_data names e.by.0) e.number (codes "dropped") null (effects_data names []) null
