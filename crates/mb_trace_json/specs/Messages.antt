-- What comes to an actor, as JSON (this project's own profile). An object's keys are in the order of their texts.
use Rattle.std.specs.Prelude.{ℕ, ℤ, Bool, List, codes}
use Rattle.serde_json.specs.Data.{Data, null, boolean, number, string, object, unsigned, member, no_members}
use Rattle.serde_json.specs.Find.{of_integer}
use Rattle.mb_msg.specs.declared.envelope.Body.{Body}
use Rattle.mb_msg.specs.declared.envelope.Body.TheVariants as body
use Rattle.mb_msg.specs.declared.supervision.Cause.{Cause}
use Rattle.mb_msg.specs.declared.supervision.Cause.TheVariants as cause
use Rattle.mb_msg.specs.declared.system.SysMsg.{SysMsg}
use Rattle.mb_msg.specs.declared.system.SysMsg.TheVariants as system
use Rattle.mb_trace_json.specs.Names.{name_data}

-- A message of which there is no more to say.
abbrev pub plain_data : List ℕ → Data
plain_data what = object (member (codes "what") (string what) no_members)

-- A message with a kind and a value.
abbrev pub user_data : List ℕ → ℕ → ℤ → Data
user_data what kind value = object (member (codes "kind") (number (unsigned kind))
    (member (codes "value") (number (of_integer value)) (member (codes "what") (string what) no_members)))

-- A message about the actor of this number.
abbrev pub about_data : List ℕ → List (List ℕ) → ℕ → Data
about_data what names id = object (member (codes "actor") (name_data names id) (member (codes "what") (string what) no_members))

-- The kind of a cause.
abbrev pub cause_text : Cause → List ℕ
cause_text (cause.Error n) = codes "error"
cause_text cause.Init = codes "init"
cause_text cause.Killed = codes "killed"
cause_text cause.DeathPact = codes "deathpact"

-- The number of an error; null of another cause.
abbrev pub cause_error : Cause → Data
cause_error (cause.Error n) = number (unsigned n)
cause_error cause.Init = null
cause_error cause.Killed = null
cause_error cause.DeathPact = null

-- A restart, and the failure after which it is.
abbrev pub restart_data : Cause → Data
restart_data c = object (member (codes "cause") (string (cause_text c))
    (member (codes "error") (cause_error c) (member (codes "what") (string (codes "restart")) no_members)))

-- The failure of a child.
abbrev pub failed_data : List (List ℕ) → ℕ → Cause → Data
failed_data names id c = object (member (codes "actor") (name_data names id) (member (codes "cause") (string (cause_text c))
    (member (codes "error") (cause_error c) (member (codes "what") (string (codes "failed")) no_members))))

-- A resume, and whether it undoes the suspension of the actor's own failure.
abbrev pub resume_data : Bool → Data
resume_data of_failure = object (member (codes "of_failure") (boolean of_failure) (member (codes "what") (string (codes "resume")) no_members))

-- What an envelope carries.
abbrev pub body_data : List (List ℕ) → Body → Data
body_data names (body.User kind value) = user_data (codes "user") kind value
body_data names (body.Control kind value) = user_data (codes "control") kind value
body_data names body.PoisonPill = plain_data (codes "poison")
body_data names body.Kill = plain_data (codes "kill")
body_data names (body.Terminated id) = about_data (codes "terminated") names id.0

-- A system message.
abbrev pub system_data : List (List ℕ) → SysMsg → Data
system_data names system.Create = plain_data (codes "create")
system_data names (system.Recreate c) = restart_data c
system_data names system.Suspend = plain_data (codes "suspend")
system_data names (system.Resume of_failure) = resume_data of_failure
system_data names system.Terminate = plain_data (codes "terminate")
system_data names (system.Watch id) = about_data (codes "watch") names id.0
system_data names (system.Unwatch id) = about_data (codes "unwatch") names id.0
system_data names (system.Failed id c) = failed_data names id.0 c
system_data names (system.Died id) = about_data (codes "died") names id.0
