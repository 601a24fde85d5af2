-- A list of system messages that a seat took out (`akka.dispatch.SystemMessageQueue.systemEnqueue`,
-- `systemDrain`; that a list has a gate is this project's own profile).
use Rattle.std.specs.Prelude.{◌≡◌, ℕ, Bool, false, ◌||◌, List, ◌∷◌, Some, is_some}
use Rattle.atomic_table.specs.Table.{Me, rest}
use Rattle.mb_syslist.specs.MessageList.{MessageList, numbered}
use Rattle.mb_msg.specs.declared.system.SysMsg.{SysMsg}
use Rattle.mb_ghost.specs.Layout.{slot_at}
use Rattle.mb_gate.specs.declared.slot.Slot.{Slot}
use Rattle.mb_gate.specs.declared.slot.Slot.TheVariants.{List as Listing}
use Rattle.mb_gate.specs.View.{View}
use Rattle.mb_gate.specs.Claims.{held_in}
use Rattle.mb_gate.specs.Rule.{gate_word, is_some_item, claim_for}

-- The seat has taken the actor's list, which lies in its slot, and the gate showed this word before.
pub record IsOut {H : Type 0} (actor : ℕ) (word : ℕ) (m : Me (Slot H) View) : Type 0 where
  pub listed : MessageList
  pub gave : Bool
  pub found : word ≡ gate_word false listed gave
  pub has : m.0.list ≡ Some (record { actor = actor; listed = listed; gave = gave })
  pub carried : m.1 ≡ (slot_at actor 1, Listing listed) ∷ rest m.1

-- The seat has the claim of the actor.
pub record HasClaim {H : Type 0} (actor : ℕ) (m : Me (Slot H) View) : Type 0 where
  pub has : m.0.claim ≡ Some (held_in m.0)
  pub of : (held_in m.0).actor ≡ actor

-- The seat has the claim of the actor, and has taken its list.
pub record HoldsList {H : Type 0} (actor : ℕ) (word : ℕ) (m : Me (Slot H) View) : Type 0 where
  pub lent : IsOut actor word m
  pub holder : HasClaim actor m

-- The seat may take out the actor's list: it is the seat of a pass, or it has the actor's claim.
abbrev pub may_lock_list : ℕ → View → Bool
may_lock_list actor v = is_some_item v.share || is_some (claim_for actor v)

-- These messages are numbered one after another from this number on, modulo 2^64.
pub record IsNumberedFrom (number : ℕ) (given : List (ℕ × SysMsg)) : Type 0 where
  pub messages : List SysMsg
  pub each : given ≡ numbered number messages
