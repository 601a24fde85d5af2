-- What the machine's laws say of the words, in any interleaving (this project's own profile).
use Rattle.std.specs.Prelude.{◌≡◌, ℕ, ◌<◌, All, List, [], length, Some, slice_get}
use Rattle.atomic_table.specs.Table.{State, opening}
use Rattle.mb_msg.specs.declared.system.SysMsg.{SysMsg}
use Rattle.mb_core.specs.declared.event.Step.{Step}
use Rattle.mb_core.specs.Between.{StaysWithHolder, IsHeldBySchedule, IsSetByHolderAlone, StaysEnded}
use Rattle.mb_core.specs.Held.{IsHeldRightly, HasPossibleMailbox}
use Rattle.mb_core.specs.Settled.{IsSettled}
use Rattle.mb_gate.specs.HomeFacts.{HomeFacts}
use Rattle.mb_gate.specs.declared.slot.Slot.{Slot}
use Rattle.mb_gate.specs.View.{View, alone}
use Rattle.mb_gate.specs.Starts.{rows_of, slots_of, IsFresh}
use Rattle.mb_refinement.specs.Refines.{Rule, shows, IsEvent}
use Rattle.mb_refinement.specs.Interleavings.{Move, Rests, machine, Interleaving}

module _ {H : Type 0} (is_of : ℕ → H → Type 0) (facts : H → HomeFacts) where
  -- After any interleaving from new gates on, the words show actors that are held as they should be, whose mailboxes are possible ones, and at which
  -- nothing is stranded.
  abbrev pub HoldsFromTheBeginning : Type 0
  HoldsFromTheBeginning =
      (hs : List H) (r : Rule is_of facts (length hs) (opening (rows_of facts hs) (slots_of hs) alone)) (s' : State (Slot H) View) (r' : Rule is_of facts (length
      hs) s') (rests' : Rests) (moves : List Move)
      → ((a : ℕ) (h : H) → slice_get hs a ≡ Some h → IsFresh is_of facts a h)
      → Interleaving is_of facts (length hs) (opening (rows_of facts hs) (slots_of hs) alone) r (λ a. []) moves s' r' rests'
      → All IsHeldRightly (machine is_of facts (length hs) s' r' rests') × All HasPossibleMailbox (machine is_of facts (length hs) s' r' rests')
      × All IsSettled (machine is_of facts (length hs) s' r' rests')

  -- What is closed at one table, or whose list is ended, is so at each later one.
  abbrev pub StaysEndedOver : Type 0
  StaysEndedOver =
      (n : ℕ) (s s' : State (Slot H) View) (r : Rule is_of facts n s) (r' : Rule is_of facts n s') (rests rests' : Rests) (moves : List Move)
      → Interleaving is_of facts n s r rests moves s' r' rests'
      → (actor : ℕ) → actor < n → StaysEnded (shows is_of facts n s r actor (rests actor)) (shows is_of facts n s' r' actor (rests' actor))

  -- A step that is an event takes no actor from its holder: it stays with it, or that one gives it back; who holds it after the step held it or has
  -- scheduled it; and only the holder changes its suspend count or closes it.
  abbrev pub EventsAreTheHolders : Type 0
  EventsAreTheHolders =
      (n : ℕ) (s s' : State (Slot H) View) (r : Rule is_of facts n s) (r' : Rule is_of facts n s') (actor party : ℕ) (step : Step) (rest rest' : List SysMsg)
      → actor < n → IsEvent is_of facts n s r s' r' actor party step rest rest'
      → (let x = shows is_of facts n s r actor rest in let y = shows is_of facts n s' r' actor rest' in
      StaysWithHolder party step x y × IsHeldBySchedule party step x y × IsSetByHolderAlone party step x y)
