-- Any interleaving of steps on the table, and where it leads the machine (this project's own profile).
use Rattle.std.specs.Prelude.{◌≡◌, ◌≢◌, ◌⊎◌, ℕ, zero, suc, ◌<◌, IsTrue, All, List, [], ◌∷◌, map, length, Some, slice_get}
use Rattle.atomic_table.specs.Table.{State, opening}
use Rattle.mb_status.specs.Mailbox.{word_of}
use Rattle.mb_msg.specs.declared.system.SysMsg.{SysMsg}
use Rattle.mb_core.specs.declared.event.Event.{Event}
use Rattle.mb_core.specs.Actor.{MachineActor}
use Rattle.mb_core.specs.Run.{Transition, Run, start, can_start}
use Rattle.mb_core.specs.Parties.{copied, moved, absorbed, IsSplit, IsJoined}
use Rattle.mb_gate.specs.HomeFacts.{HomeFacts}
use Rattle.mb_gate.specs.declared.slot.Slot.{Slot}
use Rattle.mb_gate.specs.View.{View, alone}
use Rattle.mb_gate.specs.Starts.{rows_of, slots_of, IsFresh}
use Rattle.mb_refinement.specs.Refines.{Rule, shows, IsEvent, IsShownTheSame, IsNoEvent}
use Rattle.mb_refinement.specs.Parts.{IsParted}
use Rattle.mb_refinement.specs.PartyEvents.{AreShownAs, IsShownParted}

-- a move of the machine: an event, none, a party that is split off this one, a party that takes a part of what this one owes, or a party that takes
-- over another
pub data Move : Type 0 where
  Made : Event → Move
  Still : Move
  Split : ℕ → Move
  Part : ℕ → Move
  Join : ℕ → ℕ → Move

-- from old the move leads to new
abbrev pub Leads : List MachineActor → Move → List MachineActor → Type 0
Leads old (Made event) new = Transition old event new
Leads old Still new = new ≡ old
Leads old (Split party) new = IsSplit party old new
Leads old (Part party) new = IsParted party old new
Leads old (Join into from) new = IsJoined into from old new

-- from old the moves lead to new
abbrev pub Path : List MachineActor → List Move → List MachineActor → Type 0
Path old [] new = new ≡ old
Path old (move ∷ moves) new = (next : List MachineActor) × Leads old move next × Path next moves new

-- the events among the moves
abbrev pub events_of : List Move → List Event
events_of [] = []
events_of (Made event ∷ moves) = event ∷ events_of moves
events_of (Still ∷ moves) = events_of moves
events_of (Split party ∷ moves) = events_of moves
events_of (Part party ∷ moves) = events_of moves
events_of (Join into from ∷ moves) = events_of moves

-- no party is split off, parted or taken over
abbrev pub KeepsParties : List Move → Type 0
KeepsParties [] = Unit {0}
KeepsParties (Made event ∷ moves) = KeepsParties moves
KeepsParties (Still ∷ moves) = KeepsParties moves
KeepsParties (Split party ∷ moves) = ⊥
KeepsParties (Part party ∷ moves) = ⊥
KeepsParties (Join into from ∷ moves) = ⊥

-- what a function gives for each number below this one
abbrev pub tabulated : {A : Type 0} → ℕ → (ℕ → A) → List A
tabulated zero f = []
tabulated (suc n) f = f 0 ∷ tabulated n (λ k. f (suc k))

-- of each actor the rest of what was drained and not applied
abbrev pub Rests : Type 0
Rests = ℕ → List SysMsg

module _ {H : Type 0} (is_of : ℕ → H → Type 0) (facts : H → HomeFacts) where
  -- the machine's state that the table shows
  abbrev pub machine : (n : ℕ) (s : State (Slot H) View) → Rule is_of facts n s → Rests → List MachineActor
  machine n s r rests = tabulated n (λ actor. shows is_of facts n s r actor (rests actor))

  -- between two tables lies this move
  abbrev pub IsMove : (n : ℕ) (s : State (Slot H) View) → Rule is_of facts n s → Rests → Move → (s' : State (Slot H) View) → Rule is_of facts n s' → Rests →
      Type 0
  IsMove n s r rests (Made event) s' r' rests' =
      (event.actor.0 < n)
      × IsEvent is_of facts n s r s' r' event.actor.0 event.party event.step (rests event.actor.0) (rests' event.actor.0)
      × ((a : ℕ) → a ≢ event.actor.0 → rests' a ≡ rests a)
  IsMove n s r rests Still s' r' rests' = IsNoEvent is_of facts n s r s' r' × ((a : ℕ) → rests' a ≡ rests a)
  IsMove n s r rests (Split party) s' r' rests' =
      (AreShownAs is_of facts n s r s' r' (λ x. copied x party) ⊎ AreShownAs is_of facts n s r s' r' (λ x. moved x party)) × ((a : ℕ) → rests' a ≡ rests a)
  IsMove n s r rests (Part party) s' r' rests' = ((actor : ℕ) → actor < n → IsShownParted is_of facts n s r s' r' party actor) × ((a : ℕ) → rests' a ≡ rests a)
  IsMove n s r rests (Join into from) s' r' rests' =
      (into ≢ from) × (into < length s.views) × AreShownAs is_of facts n s r s' r' (λ x. absorbed x into from) × ((a : ℕ) → rests' a ≡ rests a)

  -- Any interleaving: the steps of all seats lead from one table to another, each from a table of the rule to one, and these are the moves.
  abbrev pub Interleaving : (n : ℕ) (s : State (Slot H) View) → Rule is_of facts n s → Rests → List Move → (s' : State (Slot H) View) → Rule is_of facts n s' →
      Rests → Type 0
  Interleaving n s r rests [] s' r' rests' = (s' ≡ s) × ((a : ℕ) → rests' a ≡ rests a)
  Interleaving n s r rests (move ∷ moves) s' r' rests' =
      (t : State (Slot H) View) × (q : Rule is_of facts n t) × (kept : Rests) × IsMove n s r rests move t q kept × Interleaving n t q kept moves s' r' rests'

  -- A table shows one state of the machine, whatever shows that it obeys the rule.
  abbrev pub ShowsOne : Type 0
  ShowsOne = (n : ℕ) (s : State (Slot H) View) (r r' : Rule is_of facts n s) (actor : ℕ) → actor < n → IsShownTheSame is_of facts n s r s r' actor

  -- An interleaving leads the machine from the state that the first table shows to the one that the last table shows, by its moves. Where no seat is
  -- split or joined, its events are a run between them.
  abbrev pub InterleavingsAreRuns : Type 0
  InterleavingsAreRuns =
      (n : ℕ) (s s' : State (Slot H) View) (r : Rule is_of facts n s) (r' : Rule is_of facts n s') (rests rests' : Rests) (moves : List Move)
      → Interleaving n s r rests moves s' r' rests'
      → Path (machine n s r rests) moves (machine n s' r' rests')
      × (KeepsParties moves → Run (machine n s r rests) (events_of moves) (machine n s' r' rests'))

  -- New gates of these homes show the state in which a run of the machine begins, with one party, from the words that the homes have.
  abbrev pub NewGatesBegin : Type 0
  NewGatesBegin =
      (hs : List H) (r : Rule is_of facts (length hs) (opening (rows_of facts hs) (slots_of hs) alone))
      → (machine (length hs) (opening (rows_of facts hs) (slots_of hs) alone) r (λ a. []) ≡ start (map (λ h. word_of (facts h).mailbox) hs) 1)
      × (((a : ℕ) (h : H) → slice_get hs a ≡ Some h → IsFresh is_of facts a h) → All (λ word. IsTrue (can_start word)) (map (λ h. word_of (facts h).mailbox) hs))
