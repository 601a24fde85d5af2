-- Who the actors of a plan are, and what their directory is.
use Rattle.std.specs.Prelude.{◌≡◌, ℕ, ◌+◌, List, Some, length, map, slice_get}
use Rattle.mb_journal.specs.Identity.{Identity}
use Rattle.mb_home.specs.Directory.{DirectoryEntry}
use Rattle.mb_msg.specs.declared.actor_plan.ActorPlan.{ActorPlan}
use Rattle.mb_msg.specs.declared.plan.Plan.{Plan}
use Rattle.mb_queue.specs.Made.{bound_of, discipline_of}
use Rattle.mb_build.specs.Identities.{identities}

-- The actors of this plan, the guardian first.
abbrev pub actors_in : Plan → List Identity
actors_in plan = identities (length plan.actors.items + 1) plan.journal plan.journal_limit (map (λ a. a.parent) plan.actors.items)
    (map (λ a. a.strategy) plan.actors.items)

-- The actor has the mailbox of its plan: its queue has the discipline of that mailbox, and its bound.
pub record HasMailbox (plan : ActorPlan) (e : DirectoryEntry) : Type 0 where
  pub discipline : e.discipline ≡ discipline_of plan.mailbox
  pub bound : e.queue.main.capacity ≡ bound_of plan.mailbox

-- The directory has the guardian, and behind it the actors of this plan in the order of their numbers, each with the mailbox that is planned.
pub record IsDirectoryOf (plan : Plan) (directory : List DirectoryEntry) : Type 0 where
  pub who : map (λ (e : DirectoryEntry). e.who) directory ≡ actors_in plan
  pub mailboxes : (place : ℕ) (a : ActorPlan) (e : DirectoryEntry) → slice_get plan.actors.items place ≡ Some a → slice_get directory (place + 1) ≡ Some e
      → HasMailbox a e
