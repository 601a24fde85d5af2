-- Which kind of queue a mailbox of a plan has (`akka.dispatch.MailboxType`).
use Rattle.std.specs.Prelude.{◌≡◌, List, [], ◌∷◌}
use Rattle.mb_msg.specs.declared.actor_plan.ActorPlan.{ActorPlan}
use Rattle.mb_msg.specs.declared.mailbox_type.MailboxType.{MailboxType}
use Rattle.mb_queue.specs.Made.{bound_of, discipline_of}

-- A queue that is made by the second is of the kind of the first: it has the discipline, with the ranks, and the bound.
abbrev pub IsKindOf : MailboxType → MailboxType → Type 0
IsKindOf planned made = (discipline_of made ≡ discipline_of planned) × (bound_of made ≡ bound_of planned)

-- The queues are of the kinds of these actors' mailboxes.
abbrev pub AreKindsOf : List ActorPlan → List MailboxType → Type 0
AreKindsOf [] [] = Unit {0}
AreKindsOf (a ∷ actors) (k ∷ kinds) = IsKindOf a.mailbox k × AreKindsOf actors kinds
AreKindsOf [] (k ∷ kinds) = ⊥
AreKindsOf (a ∷ actors) [] = ⊥
