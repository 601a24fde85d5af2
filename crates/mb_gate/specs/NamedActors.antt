-- Which actors a system message names (`akka.dispatch.sysmsg`: the watcher, the child that failed, the actor that ended).
use Rattle.std.specs.Prelude.{ℕ, ◌<◌, List, All}
use Rattle.mb_msg.specs.declared.system.SysMsg.{SysMsg}
use Rattle.mb_msg.specs.declared.system.SysMsg.TheVariants as system

-- Each actor that the message names has a number below this one.
abbrev pub NamesBelow : ℕ → SysMsg → Type 0
NamesBelow actors (system.Watch watcher) = watcher.0 < actors
NamesBelow actors (system.Unwatch watcher) = watcher.0 < actors
NamesBelow actors (system.Failed child cause) = child.0 < actors
NamesBelow actors (system.Died actor) = actor.0 < actors
NamesBelow actors _ = Unit {0}

-- Each of these numbered messages names only actors below this number.
abbrev pub EachNamesBelow : ℕ → List (ℕ × SysMsg) → Type 0
EachNamesBelow actors messages = All (λ (m : ℕ × SysMsg). NamesBelow actors m.1) messages
