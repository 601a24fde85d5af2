-- A claim as it was taken: nothing of it changed since (this project's own profile; Akka hands an executor the mailbox itself).
use Rattle.std.specs.Prelude.{◌≡◌, ◌<◌, ℕ, [], true, false, MatchOption, Option}
use Rattle.atomic_table.specs.Seated.{TableId}
use Rattle.mb_status.specs.Mailbox.{word_of, idle}
use Rattle.mb_gate.specs.HomeFacts.{HomeFacts}
use Rattle.mb_gate.specs.declared.gates.Gates.{Gates}
use Rattle.mb_gate.specs.declared.claim.Claim.{Claim}
use Rattle.mb_gate.specs.Claims.{claimed}
use Rattle.mb_gate.specs.Accessors.{gates_id, actors_of, first_home, claim_id, claim_view, held_actor, status_of, gave_last, recorded_by}

-- The gates that claims are of: which they are, how many actors they have, and the home with which the first actor began.
pub record Origin (H : Type 0) : Type 0 where
  pub gates : TableId
  pub actors : ℕ
  pub first : H

-- Which gates these are, how many actors they have, and with which home the first of them began.
abbrev pub origin_of : {H : Type 0} → Gates H → Origin H
origin_of gates = record { gates = gates_id gates; actors = actors_of gates; first = first_home gates }

module _ {H : Type 0} (is_of : H → ℕ → H → Type 0) (facts : H → HomeFacts) where
  -- the claim is of one of the actors of these gates, and its home is this actor's own
  pub record IsOurs (origin : Origin H) (claim : Claim H) : Type 0 where
    pub gates : claim_id claim ≡ origin.gates
    pub present : held_actor claim < origin.actors
    pub of_actor : is_of origin.first (held_actor claim) claim.home

  -- The claim is of these gates and as a try to schedule gave it: its status is the one that the home's journal says, and scheduled;
  -- unless the last drain gave something, nothing is left beside the cell; it knows what a claim knows that was just taken, and nothing
  -- was said for it yet. There are no such claims before it is settled which gates these are.
  pub record IsUntouched (origin : Option (Origin H)) (claim : Claim H) : Type 0 where
    pub same_gates : MatchOption origin ⊥ (λ of. IsOurs of claim)
    pub open_yet : (status_of claim).closed ≡ false
    pub scheduled : (status_of claim).scheduled ≡ true
    pub word : word_of (facts claim.home).mailbox ≡ word_of (idle (status_of claim))
    pub rest : gave_last claim ≡ false → (facts claim.home).no_backlog
    pub known : claim_view claim ≡ claimed (held_actor claim) (facts claim.home).journal (facts claim.home).closed_to (word_of (status_of claim))
        (gave_last claim)
        (facts claim.home).given (facts claim.home).drained
    pub recorded : recorded_by claim ≡ []

  -- The claim is of some gates and as a try to schedule gave it.
  abbrev pub IsAsTaken : Claim H → Type 0
  IsAsTaken claim = (origin : Option (Origin H)) × IsUntouched origin claim
