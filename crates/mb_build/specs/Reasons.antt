-- Why no system can be built from a plan (this project's own profile).
use Rattle.std.specs.Prelude.{ℕ, ◌+◌, ◌==◌, Bool, true, ◌&&◌, if◌then◌else◌, nat_le, nat_lt, List, [], ◌∷◌, ◌++◌, length}
use Rattle.mb_msg.specs.Limits.{most_actors, most_outside_senders, most_entries}
use Rattle.mb_msg.specs.declared.actor_plan.ActorPlan.{ActorPlan}
use Rattle.mb_msg.specs.declared.mailbox_type.MailboxType.{MailboxType}
use Rattle.mb_msg.specs.declared.mailbox_type.MailboxType.TheVariants.{Unbounded, Bounded, Priority, Control}
use Rattle.mb_msg.specs.declared.plan.Plan.{Plan}
use Rattle.mb_build.specs.declared.check.PlanError.{PlanError}
use Rattle.mb_build.specs.declared.check.PlanError.TheVariants.{Actors, Boxes, Parent, Capacity, Senders, Workers, JournalLimit}

-- The reason, unless this holds.
abbrev pub unless : Bool → PlanError → List PlanError
unless holds reason = if holds then [] else reason ∷ []

-- The actors whose parent is neither the guardian nor an earlier actor. They are numbered on from this one.
abbrev pub bad_parents : ℕ → List ActorPlan → List PlanError
bad_parents id [] = []
bad_parents id (a ∷ actors) = unless (nat_lt a.parent.0 id) (Parent (record { 0 = id })) ++ bad_parents (id + 1) actors

-- A bound is from 1 to 65,536.
abbrev pub may_be_bound : MailboxType → Bool
may_be_bound Unbounded = true
may_be_bound (Bounded capacity) = nat_le 1 capacity && nat_le capacity 65536
may_be_bound (Priority rows other) = true
may_be_bound Control = true

-- The actors whose mailbox has another bound.
abbrev pub bad_bounds : ℕ → List ActorPlan → List PlanError
bad_bounds id [] = []
bad_bounds id (a ∷ actors) = unless (may_be_bound a.mailbox) (Capacity (record { 0 = id })) ++ bad_bounds (id + 1) actors

-- There are at most 16 senders outside and 1 to 16 workers, and each journal may have an entry, and no more than 2^56.
abbrev pub bad_numbers : Plan → List PlanError
bad_numbers plan = unless (nat_le plan.senders most_outside_senders) Senders
    ++ (unless (nat_le 1 plan.workers && nat_le plan.workers 16) Workers ++ unless (nat_le 1 plan.journal_limit && nat_le plan.journal_limit most_entries) JournalLimit)

-- All reasons for which no system can be built from this plan with so many actors, in the order in which they count: the plan has at most 63 actors
-- beside the guardian; as many are handed in; and each parent, each bound and each number is right.
abbrev pub reasons : Plan → ℕ → List PlanError
reasons plan actors = unless (nat_lt (length plan.actors.items) most_actors) Actors ++ (unless (length plan.actors.items == actors) Boxes
    ++ (bad_parents 1 plan.actors.items ++ (bad_bounds 1 plan.actors.items ++ bad_numbers plan)))
