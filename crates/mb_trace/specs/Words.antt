-- Messages, causes and effects in the words of a scenario (this project's own profile).
use Rattle.std.specs.Prelude.{ℕ, ℤ, ◌-◌, nat_lt, if◌then◌else◌, List, [], ◌∷◌, ◌++◌, codes, Bool, true, false, slice_index_or}
use Rattle.std.specs.Fmt.{decimal, signed_decimal}
use Rattle.mb_msg.specs.Limits.{most_actors}
use Rattle.mb_msg.specs.declared.envelope.Body.{Body}
use Rattle.mb_msg.specs.declared.envelope.Body.TheVariants as body
use Rattle.mb_msg.specs.declared.envelope.Envelope.{Envelope}
use Rattle.mb_msg.specs.declared.supervision.Cause.{Cause}
use Rattle.mb_msg.specs.declared.supervision.Cause.TheVariants as cause
use Rattle.mb_msg.specs.declared.system.SysMsg.{SysMsg}
use Rattle.mb_msg.specs.declared.system.SysMsg.TheVariants as system
use Rattle.mb_actor.specs.declared.effect.Effect.{Effect}
use Rattle.mb_actor.specs.declared.effect.Effect.TheVariants as effect

-- The name of the actor of this number, where the actors beside the guardian have these names; nothing where there is none.
abbrev pub name_of : List (List ℕ) → ℕ → List ℕ
name_of names id = slice_index_or (codes "guardian" ∷ names) id []

-- A kind and a value.
abbrev pub kind_text : ℕ → ℤ → List ℕ
kind_text kind value = codes "kind " ++ decimal kind ++ codes " value " ++ signed_decimal value

-- What an envelope carries.
abbrev pub body_text : List (List ℕ) → Body → List ℕ
body_text names (body.User kind value) = kind_text kind value
body_text names (body.Control kind value) = codes "control " ++ kind_text kind value
body_text names body.PoisonPill = codes "poison"
body_text names body.Kill = codes "kill"
body_text names (body.Terminated id) = codes "terminated " ++ name_of names id.0

-- A sender: an actor by its name, and one outside the actors by its number among those.
unfoldable pub sender_text : List (List ℕ) → ℕ → List ℕ
sender_text names by = if nat_lt by most_actors then name_of names by else codes "outside " ++ decimal (by - most_actors)

-- An envelope: its sender, its number and what it carries.
abbrev pub envelope_text : List (List ℕ) → Envelope → List ℕ
envelope_text names e = sender_text names e.by.0 ++ codes " #" ++ decimal e.number ++ codes " " ++ body_text names e.body

-- Why an actor failed.
abbrev pub cause_text : Cause → List ℕ
cause_text (cause.Error number) = codes "error " ++ decimal number
cause_text cause.Init = codes "init"
cause_text cause.Killed = codes "killed"
cause_text cause.DeathPact = codes "deathpact"

-- A Resume: whether it is for the actor's own failure.
abbrev pub resume_text : Bool → List ℕ
resume_text false = codes "resume"
resume_text true = codes "resume after its failure"

-- A system message.
abbrev pub system_text : List (List ℕ) → SysMsg → List ℕ
system_text names system.Create = codes "create"
system_text names (system.Recreate c) = codes "restart after " ++ cause_text c
system_text names system.Suspend = codes "suspend"
system_text names (system.Resume of_failure) = resume_text of_failure
system_text names system.Terminate = codes "terminate"
system_text names (system.Watch id) = codes "watch by " ++ name_of names id.0
system_text names (system.Unwatch id) = codes "unwatch by " ++ name_of names id.0
system_text names (system.Failed id c) = codes "failed " ++ name_of names id.0 ++ codes " after " ++ cause_text c
system_text names (system.Died id) = codes "died " ++ name_of names id.0

-- An effect that a call asked for.
abbrev pub effect_text : List (List ℕ) → Effect → List ℕ
effect_text names (effect.Tell to kind value) = codes "tell " ++ name_of names to.0 ++ codes " " ++ kind_text kind value
effect_text names (effect.Control to kind value) = codes "control " ++ name_of names to.0 ++ codes " " ++ kind_text kind value
effect_text names (effect.Watch id) = codes "watch " ++ name_of names id.0
effect_text names (effect.Unwatch id) = codes "unwatch " ++ name_of names id.0
effect_text names (effect.Stop id) = codes "stop " ++ name_of names id.0
effect_text names (effect.Spawn id) = codes "spawn " ++ name_of names id.0
