-- A split and a join of seats are the machine's split and join (this project's own profile).
use Rattle.std.specs.Prelude.{◌≡◌, ◌≢◌, ℕ, ◌<◌, List, [], ◌∷◌, ◌++◌, ◌⊎◌, None, slice_set}
use mathlib.Core.Option.{some}
use lib.ListN.{get_elem?}
use Rattle.atomic_table.specs.Table.{State}
use Rattle.mb_msg.specs.declared.system.SysMsg.{SysMsg}
use Rattle.mb_core.specs.Actor.{MachineActor}
use Rattle.mb_core.specs.declared.wake_obligation.WakeObligation.{WakeObligation}
use Rattle.mb_core.specs.Parties as parties
use Rattle.mb_gate.specs.HomeFacts.{HomeFacts}
use Rattle.mb_gate.specs.declared.slot.Slot.{Slot}
use Rattle.mb_gate.specs.View.{View, blank, claim_alone, without_claim, copied, split_off, halving, taking_over, taking_in}
use Rattle.mb_gate.specs.TwoClaims.{moved_out, moved_in}
use Rattle.mb_gate.specs.Together.{together, came_back}
use Rattle.mb_refinement.specs.Refines.{Rule, shows, IsMarked}
use Rattle.mb_refinement.specs.Parts.{parted, ArePartsOf}

module _ {H : Type 0} where
  -- a seat's view is cut in two, and a new seat has the second
  pub record IsCut (id : ℕ) (v left right : View) (s s' : State (Slot H) View) : Type 0 where
    pub present : get_elem? s.views id ≡ some v
    pub after : s' ≡ record { words = s.words; homes = s.homes; views = slice_set s.views id left ++ right ∷ [] }

  -- a seat takes in the view of another one, which knows nothing then
  pub record IsMerge (id other : ℕ) (v w both : View) (s s' : State (Slot H) View) : Type 0 where
    pub present : get_elem? s.views id ≡ some v
    pub two : other ≢ id
    pub there : get_elem? s.views other ≡ some w
    pub after : s' ≡ record { words = s.words; homes = s.homes; views = slice_set (slice_set s.views id both) other blank }

module _ {H : Type 0} (is_of : ℕ → H → Type 0) (facts : H → HomeFacts) where
  -- each actor is shown as this makes of it
  pub record IsShownAs (n : ℕ) (s : State (Slot H) View) (r : Rule is_of facts n s) (s' : State (Slot H) View) (r' : Rule is_of facts n s') (makes :
      MachineActor → MachineActor) (actor : ℕ) : Type 0 where
    pub same : (rest : List SysMsg) → shows is_of facts n s' r' actor rest ≡ makes (shows is_of facts n s r actor rest)
    pub marked : (rest : List SysMsg) → IsMarked (r.ghosts actor) rest → IsMarked (r'.ghosts actor) rest

  abbrev pub AreShownAs : (n : ℕ) (s : State (Slot H) View) → Rule is_of facts n s → (s' : State (Slot H) View) → Rule is_of facts n s' → (MachineActor →
      MachineActor) → Type 0
  AreShownAs n s r s' r' makes = (actor : ℕ) → actor < n → IsShownAs n s r s' r' makes actor

  -- A second pass gets a copy of what the first one owes; a pass that is split off leaves what was owed to the new seat, and so does a claim.
  abbrev pub SplitsAreSplits : Type 0
  SplitsAreSplits =
      (n : ℕ) (s s' : State (Slot H) View) (r : Rule is_of facts n s) (r' : Rule is_of facts n s') (id : ℕ) (v : View) → v.list ≡ None
      → (v.claim ≡ None → IsCut id v (halving v) (copied v) s s' → AreShownAs n s r s' r' (λ x. parties.copied x id))
      × (v.claim ≡ None → IsCut id v (split_off v) (halving v) s s' → AreShownAs n s r s' r' (λ x. parties.moved x id))
      × (IsCut id v (claim_alone v) (without_claim v) s s' → AreShownAs n s r s' r' (λ x. parties.moved x id))

  -- A seat that takes over another one, or takes it in, takes over what it owes. That one has no claim and no list.
  abbrev pub JoinsAreJoins : Type 0
  JoinsAreJoins =
      (n : ℕ) (s s' : State (Slot H) View) (r : Rule is_of facts n s) (r' : Rule is_of facts n s') (id other : ℕ) (v w : View) → w.claim ≡ None
      → w.list ≡ None
      → IsMerge id other v w (taking_over v w) s s' ⊎ IsMerge id other v w (taking_in v w) s s'
      → AreShownAs n s r s' r' (λ x. parties.absorbed x id other)

  -- each actor is shown as owed by two what it was owed by the one
  abbrev pub IsShownParted : (n : ℕ) (s : State (Slot H) View) → Rule is_of facts n s → (s' : State (Slot H) View) → Rule is_of facts n s' → ℕ → ℕ → Type 0
  IsShownParted n s r s' r' party actor = (mine : WakeObligation) × (theirs : WakeObligation)
      × ((rest : List SysMsg) → ArePartsOf (shows is_of facts n s r actor rest) party mine theirs)
      × IsShownAs n s r s' r' (λ x. parted x party mine theirs) actor

  -- A view without claim and list goes to a new seat as a whole.
  abbrev pub MovesAreSplits : Type 0
  MovesAreSplits =
      (n : ℕ) (s s' : State (Slot H) View) (r : Rule is_of facts n s) (r' : Rule is_of facts n s') (id : ℕ) (v : View) → v.claim ≡ None → v.list ≡ None
      → IsCut id v (moved_out v) (moved_in v) s s' → AreShownAs n s r s' r' (λ x. parties.moved x id)

  -- A seat has all that two had; or a view comes back to a seat that knows nothing.
  abbrev pub TogetherIsJoin : Type 0
  TogetherIsJoin =
      (n : ℕ) (s s' : State (Slot H) View) (r : Rule is_of facts n s) (r' : Rule is_of facts n s') (id other : ℕ) (v w : View) → w.claim ≡ None
      → w.list ≡ None
      → IsMerge id other v w (together v w) s s' ⊎ ((v ≡ blank) × IsMerge id other v w (came_back v w) s s')
      → AreShownAs n s r s' r' (λ x. parties.absorbed x id other)

  -- Of two seats each has again what it had before one had all of it.
  abbrev pub AgainIsPart : Type 0
  AgainIsPart =
      (n : ℕ) (s s' : State (Slot H) View) (r : Rule is_of facts n s) (r' : Rule is_of facts n s') (id : ℕ) (v w : View) → w.claim ≡ None
      → w.list ≡ None → IsCut id (together v w) v w s s' → (actor : ℕ) → actor < n → IsShownParted n s r s' r' id actor
