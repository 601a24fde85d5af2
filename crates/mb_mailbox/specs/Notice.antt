-- Who is told that an actor has ended, and what that changes (`akka.actor.EmptyLocalActorRef.sendSystemMessage`; that a Create is answered is this
-- project's own profile).
use Rattle.std.specs.Prelude.{◌≡◌, ℕ, Bool, Option, Some, None}
use Rattle.std.specs.Global.{Box}
use Rattle.mb_msg.specs.declared.id.ActorId.{ActorId}
use Rattle.mb_msg.specs.declared.system.SysMsg.{SysMsg}
use Rattle.mb_msg.specs.declared.system.SysMsg.TheVariants as system
use Rattle.mb_gate.specs.declared.claim.Claim.{Claim}
use Rattle.mb_gate.specs.Accessors.{IsRecorded}
use Rattle.mb_gate.specs.SentSystem.{notice}
use Rattle.mb_home.specs.Contents.{Contents}

-- Who waits for an answer to a message to an actor with this parent: of a Watch the watcher, of a Create the parent.
abbrev pub asker : Option ActorId → SysMsg → Option ActorId
asker parent (system.Watch watcher) = Some watcher
asker parent system.Create = parent
asker parent _ = None

-- This actor was sent the notice that that one has ended, or its list was ended too. Nothing else changed, and the notice stands in the claim's
-- record.
pub record IsNotified (whom ended : ℕ) (old new : Claim (Box Contents)) : Type 0 where
  pub was_ended : Bool
  pub recorded : IsRecorded old new (record { to = whom; message = notice ended; was_ended = was_ended })

-- Who waits was told, or nobody waits.
abbrev pub IsAnswered : Option ActorId → ℕ → Claim (Box Contents) → Claim (Box Contents) → Type 0
IsAnswered None ended old new = new ≡ old
IsAnswered (Some whom) ended old new = IsNotified whom.0 ended old new
