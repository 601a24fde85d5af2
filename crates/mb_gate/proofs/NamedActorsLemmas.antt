-- An actor that is told that a message's receiver has ended exists.
use Rattle.std.proofs.Common.{◌≡◌, ℕ, ◌<◌, subst, Some, None}
use Rattle.mb_msg.specs.declared.system.SysMsg.{SysMsg}
use Rattle.mb_msg.specs.declared.system.SysMsg.TheVariants as system
use Rattle.mb_gate.specs.NamedActors.{NamesBelow}
use Rattle.mb_gate.specs.SentSystem.{answered_to}

some_same : (a b : ℕ) → Some a ≡ Some b → a ≡ b
some_same a b e = cc

none_some : (a : ℕ) → None ≡ Some a → ⊥
none_some a e = cc

pub answered_there : (actors actor : ℕ) (message : SysMsg) (whom : ℕ) → actor < actors → NamesBelow actors message → answered_to actor message ≡
    Some whom → whom < actors
answered_there actors actor system.Create whom here names told = subst (λ n. n < actors) (some_same actor whom told) here
answered_there actors actor (system.Recreate cause) whom here names told = absurd (none_some whom told)
answered_there actors actor system.Suspend whom here names told = absurd (none_some whom told)
answered_there actors actor (system.Resume of_failure) whom here names told = absurd (none_some whom told)
answered_there actors actor system.Terminate whom here names told = absurd (none_some whom told)
answered_there actors actor (system.Watch watcher) whom here names told = subst (λ n. n < actors) (some_same watcher.0 whom told) names
answered_there actors actor (system.Unwatch watcher) whom here names told = absurd (none_some whom told)
answered_there actors actor (system.Failed child cause) whom here names told = absurd (none_some whom told)
answered_there actors actor (system.Died other) whom here names told = absurd (none_some whom told)
