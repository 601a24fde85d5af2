-- Plans that are taken apart one by one.
use Rattle.std.proofs.Common.{◌≡◌, ◌<◌, ◌+◌, ◌&&◌, ℕ, Bool, true, false, List, [], ◌∷◌, ◌++◌, length, take, get_or, refl, sym, subst, arith}
use Rattle.std.specs.Prelude.{IfSome, nat_le}
use Rattle.std.proofs.lemmas.Bool.Decides.{nat_tests}
use Rattle.std.proofs.lemmas.List.{take_more}
use Rattle.mb_msg.specs.declared.mailbox_type.MailboxType.{MailboxType}
use Rattle.mb_msg.specs.declared.mailbox_type.MailboxType.TheVariants as mailbox
use Rattle.mb_msg.specs.declared.actor_plan.ActorPlan.{ActorPlan}
use Rattle.mb_queue.specs.Made.{IsMakeable, bound_of}
use Rattle.mb_build.specs.Reasons.{may_be_bound}
use Rattle.mb_build.specs.Kinds.{AreKindsOf, IsKindOf}

-- one queue more
pub queues-more : (plans : List ActorPlan) (kinds : List MailboxType) (a : ActorPlan) (k : MailboxType) → AreKindsOf plans kinds → IsKindOf a.mailbox k
    → AreKindsOf (plans ++ a ∷ []) (kinds ++ k ∷ [])
queues-more [] [] a k are is = (is, tt)
queues-more [] (x ∷ kinds) a k are is = absurd are
queues-more (p ∷ plans) [] a k are is = absurd are
queues-more (p ∷ plans) (x ∷ kinds) a k are is = (are.0, queues-more plans kinds a k are.1 is)

-- the queue of the plan in the next place
pub queues-next : (plans : List ActorPlan) (place : ℕ) (d : ActorPlan) (kinds new : List MailboxType) (k : MailboxType) → place < length plans
    → AreKindsOf (take place plans) kinds → IsKindOf (get_or plans place d).mailbox k → new ≡ kinds ++ k ∷ []
    → AreKindsOf (take (place + 1) plans) new
queues-next plans place d kinds new k lt are is pushed =
    subst (λ l. AreKindsOf l new) (sym (take_more plans place d lt))
    (subst (AreKindsOf (take place plans ++ get_or plans place d ∷ [])) (sym pushed)
    (queues-more (take place plans) kinds (get_or plans place d) k are is))

both_true : (a b : Bool) → (a && b) ≡ true → a ≡ true
both_true true b e = refl
both_true false b e = absurd (cc)

-- a bound that a plan may have is at least 1
bounded : (m : MailboxType) → may_be_bound m ≡ true → IfSome (bound_of m) (λ n. 0 < n)
bounded mailbox.Unbounded may = tt
bounded (mailbox.Bounded capacity) may = let least = both_true (nat_le 1 capacity) (nat_le capacity 65536) may in grind (arith, nat_tests)
bounded (mailbox.Priority rows other) may = tt
bounded mailbox.Control may = tt

by-bound : (k : MailboxType) → IfSome (bound_of k) (λ n. 0 < n) → IsMakeable k
by-bound mailbox.Unbounded some = tt
by-bound (mailbox.Bounded capacity) some = some
by-bound (mailbox.Priority rows other) some = tt
by-bound mailbox.Control some = tt

-- a queue with a bound that a plan may have can be made
pub makeable : (m k : MailboxType) → may_be_bound m ≡ true → IsKindOf m k → IsMakeable k
makeable m k may is = by-bound k (subst (λ b. IfSome b (λ n. 0 < n)) (sym is.1) (bounded m may))
