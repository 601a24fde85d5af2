-- A scenario that was read can be run.
use Rattle.std.proofs.Common.{◌≡◌, ℕ, ◌+◌, ◌<◌, ◌≤◌, ◌^◌, ◌==◌, ◌&&◌, Bool, true, false, List, [], ◌∷◌, ◌++◌, length, map, max, refl, sym, ap, ◌∙◌, subst, arith}
use Rattle.std.proofs.Common.{codes, None}
use Rattle.std.specs.Prelude.{◌||◌, All, nat_le, nat_lt}
use Rattle.std.specs.List.{list_any}
use Rattle.std.proofs.lemmas.Bool.Decides.{nat_tests}
use Rattle.std.proofs.lemmas.List.{length-map}
use Rattle.std.proofs.lemmas.List.Elements.{All-head, All-tail}
use Rattle.toml.specs.Data.{Members, get_member}
use Rattle.mb_schema.specs.Check.{actor_entries_of, document_check, items_in}
use Rattle.mb_schema.specs.Value.{item_count}
use Rattle.mb_msg.specs.declared.id.ActorId.{ActorId}
use Rattle.mb_msg.specs.declared.actor_plan.ActorPlan.{ActorPlan}
use Rattle.mb_msg.specs.declared.mailbox_type.MailboxType.{MailboxType}
use Rattle.mb_msg.specs.declared.mailbox_type.MailboxType.TheVariants.{Unbounded, Bounded, Priority, Control}
use Rattle.mb_msg.specs.Limits.{most_entries}
use Rattle.mb_msg.specs.declared.plan.Plan.{Plan}
use Rattle.mb_build.specs.Numbers.{numbers}
use Rattle.mb_build.specs.Reasons.{bad_bounds, bad_numbers, bad_parents, may_be_bound, reasons, unless}
use Rattle.mb_build.specs.declared.check.PlanError.{PlanError}
use Rattle.mb_build.specs.declared.check.PlanError.TheVariants.{Actors, Boxes, Parent, Capacity, Senders, Workers, JournalLimit}
use Rattle.mb_scenario.specs.Fields.{number_or, small}
use Rattle.mb_scenario.specs.Plans.{PlanData, ScenarioData, name_of, planned_actor, plan_of, scenario_of, sends_in, workers_in}
use Rattle.mb_scenario.specs.Reading.{IsReadAs}
use Rattle.mb_scenario.specs.Scripts.{scripted_of}
use Rattle.mb_scenario.specs.Sends.{senders_of}
use Rattle.mb_scenario.specs.View.{actor_data, kind_data, plan_data}
use Rattle.mb_msg.specs.declared.order.SenderOrder.{SenderOrder}
use Rattle.mb_msg.specs.declared.order.OrderKind.{OrderKind}
use Rattle.mb_msg.specs.declared.order.OrderKind.TheVariants.{Tell, Stop}
use Rattle.mb_actor.specs.Behaviour.{Moment, Reply}
use Rattle.mb_msg.specs.declared.order.Order.{Order}
use Rattle.mb_program.specs.Faults.{IsFaultOf}
use Rattle.mb_streams.specs.declared.fault.RunFault.{RunFault}
use Rattle.mb_streams.specs.declared.fault.RunFault.TheVariants as told
use Rattle.heddleorange.specs.NoReport.{HasFailedFor, IsErrorOfRun, IsRight, has_nobody, is_for_nobody}
use Rattle.heddleorange.specs.Orders.{lists_of, orders_of}
use Rattle.heddleorange.specs.declared.error.Error.{Error}
use Rattle.heddleorange.specs.declared.error.Error.TheVariants.{BadPlan, OrderLists, NoSuchSender, NoSuchActor, NoMemory, NoMemoryInRun, JournalFull, Mismatch, NameTaken}
use Rattle.heddleorange.specs.declared.failed_run.FailedRun.{FailedRun}
use Rattle.heddleorange.proofs.InOrder.{for-nobody, length-lists, many-from}
use Rattle.mb_scenario.proofs.Passed.{AreActorData, IsBoundData, IsReceived, IsSendData, length-items, passed, senders-right}

-- ---- no reason against the plan

ruled-out : (test : Bool) (reason : PlanError) → test ≡ true → unless test reason ≡ []
ruled-out test reason is = ap (λ b. unless b reason) is

none-of : (xs ys : List PlanError) → xs ≡ [] → ys ≡ [] → xs ++ ys ≡ []
none-of xs ys first second = λ i. first i ++ second i

below : (a b : ℕ) → a < b → nat_lt a b ≡ true
below a b lt = grind (arith, nat_tests)

at-most : (a b : ℕ) → a ≤ b → nat_le a b ≡ true
at-most a b le = grind (arith, nat_tests)

within : (low n high : ℕ) → low ≤ n → n ≤ high → (nat_le low n && nat_le n high) ≡ true
within low n high least most = λ i. at-most low n least i && at-most n high most i

same : (a b : ℕ) → a ≡ b → (a == b) ≡ true
same a b is = grind (arith, nat_tests)

not-below : (a b : ℕ) → b < a + 1 → nat_lt a b ≡ false
not-below a b most = grind (arith, nat_tests)

both-false : (a b : Bool) → b ≡ false → (a && b) ≡ false
both-false true b is = is
both-false false b is = refl

no-parents : (id : ℕ) (actors : List ActorPlan) → AreActorData id (map actor_data actors) → bad_parents id actors ≡ []
no-parents id [] are = refl
no-parents id (a ∷ actors) are =
    none-of (unless (nat_lt a.parent.0 id) (Parent (record { 0 = id }))) (bad_parents (id + 1) actors)
    (ruled-out (nat_lt a.parent.0 id) (Parent (record { 0 = id })) (below a.parent.0 id are.0.0)) (no-parents (id + 1) actors are.1)

bound : (kind : MailboxType) → IsBoundData (kind_data kind) → may_be_bound kind ≡ true
bound Unbounded is = refl
bound (Bounded capacity) is = within 1 capacity 65536 is.0 is.1
bound (Priority rows other) is = refl
bound Control is = refl

no-bounds : (id : ℕ) (actors : List ActorPlan) → AreActorData id (map actor_data actors) → bad_bounds id actors ≡ []
no-bounds id [] are = refl
no-bounds id (a ∷ actors) are =
    none-of (unless (may_be_bound a.mailbox) (Capacity (record { 0 = id }))) (bad_bounds (id + 1) actors)
    (ruled-out (may_be_bound a.mailbox) (Capacity (record { 0 = id })) (bound a.mailbox are.0.1)) (no-bounds (id + 1) actors are.1)

no-reasons : (plan : Plan) (actors : ℕ) → length plan.actors.items ≤ 63 → length plan.actors.items ≡ actors
    → AreActorData 1 (map actor_data plan.actors.items) → plan.senders ≤ 16 → 1 ≤ plan.workers → plan.workers ≤ 16 → 1 ≤ plan.journal_limit → plan.journal_limit ≤ 2 ^ 56
    → reasons plan actors ≡ []
no-reasons plan actors few as_many are senders least most limit most_limit =
    let all = plan.actors.items in
    let others = unless (nat_le 1 plan.workers && nat_le plan.workers 16) Workers ++ unless (nat_le 1 plan.journal_limit && nat_le plan.journal_limit most_entries) JournalLimit in
    none-of (unless (nat_lt (length all) 64) Actors)
    (unless (length all == actors) Boxes ++ (bad_parents 1 all ++ (bad_bounds 1 all ++ bad_numbers plan)))
    (ruled-out (nat_lt (length all) 64) Actors (below (length all) 64 (omega (arith, few))))
    (none-of (unless (length all == actors) Boxes) (bad_parents 1 all ++ (bad_bounds 1 all ++ bad_numbers plan))
    (ruled-out (length all == actors) Boxes (same (length all) actors as_many))
    (none-of (bad_parents 1 all) (bad_bounds 1 all ++ bad_numbers plan) (no-parents 1 all are)
    (none-of (bad_bounds 1 all) (bad_numbers plan) (no-bounds 1 all are)
    (none-of (unless (nat_le plan.senders 16) Senders) others (ruled-out (nat_le plan.senders 16) Senders (at-most plan.senders 16 senders))
    (none-of (unless (nat_le 1 plan.workers && nat_le plan.workers 16) Workers) (unless (nat_le 1 plan.journal_limit && nat_le plan.journal_limit most_entries) JournalLimit)
    (ruled-out (nat_le 1 plan.workers && nat_le plan.workers 16) Workers (within 1 plan.workers 16 least most))
    (ruled-out (nat_le 1 plan.journal_limit && nat_le plan.journal_limit most_entries) JournalLimit (within 1 plan.journal_limit most_entries limit most_limit)))))))

-- ---- what is sent

-- none of them is for nobody
for-somebody : (actors : ℕ) (to : ActorId) (what : OrderKind) → IsReceived (actors + 1) to what → is_for_nobody actors to what ≡ false
for-somebody actors to (Tell payload) is = λ i. above to.0 is.0 i || not-below actors to.0 is.1 i
  where
    above : (n : ℕ) → 0 < n → (n == 0) ≡ false
    above n lt = grind (arith, nat_tests)
for-somebody actors to Stop is = not-below actors to.0 is

sendable : (actors : ℕ) (sends : List SenderOrder) → All (IsSendData (actors + 1)) sends
    → list_any (λ (s : SenderOrder). has_nobody actors s.order) sends ≡ false
sendable actors [] all = refl
sendable actors (s ∷ sends) all =
    let here = for-somebody actors s.order.to s.order.what (All-head (IsSendData (actors + 1)) s sends all).1 in
    λ i. both-false (nat_lt 0 s.order.times) (is_for_nobody actors s.order.to s.order.what) here i
    || sendable actors sends (All-tail (IsSendData (actors + 1)) s sends all) i

-- ---- the scenario

of-document : (top : Members) (plan : Plan) → document_check top ≡ None → plan_data plan ≡ plan_of top
    → IsRight plan (length (scenario_of top).scripts) (lists_of plan.senders (sends_in top))
of-document top plan none planned =
    let items = items_in (get_member (codes "actor") top) in
    let is = passed top none in
    let right = senders-right (1 + item_count items) (sends_in top) is.sends in
    let actors : map actor_data plan.actors.items ≡ (plan_of top).actors = ap (λ (p : PlanData). p.actors) planned in
    let many : length plan.actors.items ≡ item_count items = sym (length-map plan.actors.items actor_data) ∙ ap length actors
    ∙ length-items (planned_actor (actor_entries_of items)) items in
    let scripts : length (scenario_of top).scripts ≡ item_count items = length-items (scripted_of (actor_entries_of items)) items in
    let senders : plan.senders ≡ small (senders_of (sends_in top)) = ap (λ (p : PlanData). p.senders) planned in
    let workers : plan.workers ≡ max 1 (workers_in top) = ap (λ (p : PlanData). p.workers) planned in
    let limit : plan.journal_limit ≡ number_or 4294967295 (get_member (codes "journal_limit") top) =
    ap (λ (p : PlanData). p.journal_limit) planned in
    let few = is.within_limit in
    let most_senders = right.0 in
    let most_workers = is.workers in
    let least_limit = is.limit.0 in
    let most_limit = is.limit.1 in
    let from : All (λ (s : SenderOrder). s.from < plan.senders) (sends_in top) =
    subst (λ n. All (λ (s : SenderOrder). s.from < n) (sends_in top)) (sym senders) right.1 in
    let count = length (scenario_of top).scripts in
    let next : 1 + item_count items ≡ count + 1 = omega (arith, scripts) in (
      no-reasons plan count (omega (arith, few, many)) (omega (arith, many, scripts)) (subst (AreActorData 1) (sym actors) is.actors)
          (omega (arith, senders, most_senders)) (omega (arith, workers)) (omega (arith, workers, most_workers)) (omega (arith, limit, least_limit))
          (omega (arith, limit, most_limit)),
      length-lists plan.senders (sends_in top) ∙ many-from plan.senders (sends_in top) from,
      for-nobody count plan.senders (sends_in top) from
          ∙ sendable count (sends_in top) (subst (λ n. All (IsSendData n) (sends_in top)) next is.sends),
    )

-- a scenario that was read can be run
pub can-run : (text : List ℕ) (scenario : ScenarioData) (plan : Plan) → IsReadAs text scenario → plan_data plan ≡ scenario.plan
    → IsRight plan (length scenario.scripts) (lists_of plan.senders scenario.sends)
can-run text scenario plan read planned =
    let is : scenario ≡ scenario_of read.0 = read.2.1 in
    subst (λ (s : ScenarioData). IsRight plan (length s.scripts) (lists_of plan.senders s.sends)) (sym is)
    (of-document read.0 plan read.2.0 (planned ∙ ap (λ (s : ScenarioData). s.plan) is))

-- there are as many names as actors
pub as-many-names : (text : List ℕ) (scenario : ScenarioData) (names : List (List ℕ)) → IsReadAs text scenario → names ≡ scenario.names
    → length scenario.scripts ≡ length names
as-many-names text scenario names read named =
    let is : scenario ≡ scenario_of read.0 = read.2.1 in
    let items = items_in (get_member (codes "actor") read.0) in
    ap (λ (s : ScenarioData). length s.scripts) is ∙ length-items (scripted_of (actor_entries_of items)) items ∙ sym (length-items name_of items)
    ∙ sym (ap length (named ∙ ap (λ (s : ScenarioData). s.names) is))

-- a fault tells of the error of a run whose plan and orders are right
some-fault : {X : Type 0} (gives : ℕ → Moment → Reply → Type 0) (plan : Plan) (actors : ℕ) (orders : List (List Order)) (failed : FailedRun X)
    (error : Error) → IsRight plan actors orders → HasFailedFor gives plan actors orders failed.actors.items error → (fault : RunFault) × IsFaultOf error fault
some-fault gives plan actors orders failed (BadPlan reason) right is = let none = ap length (sym is.0.1 ∙ right.0) in absurd (omega (arith, none))
some-fault gives plan actors orders failed (OrderLists lists senders) right is = absurd (is.1 right.1)
some-fault gives plan actors orders failed (NoSuchSender place sender) right is = absurd (is.1 right.1)
some-fault gives plan actors orders failed NoMemory right is = (told.NoMemory, refl)
some-fault gives plan actors orders failed NoMemoryInRun right is = (told.NoMemory, refl)
some-fault gives plan actors orders failed (JournalFull id) right is = (told.JournalFull, refl)
some-fault gives plan actors orders failed (NoSuchActor sender place to) right is = absurd (cc (right.2, is.2))
some-fault gives plan actors orders failed (Mismatch what) right is = (told.Mismatch, refl)
some-fault gives plan actors orders failed (NameTaken id) right is = absurd is

pub fault-of-run : {X : Type 0} (gives : ℕ → Moment → Reply → Type 0) (plan : Plan) (actors : ℕ) (orders : List (List Order)) (failed : FailedRun X)
    → IsRight plan actors orders → IsErrorOfRun gives plan actors orders failed → (fault : RunFault) × IsFaultOf failed.error fault
fault-of-run gives plan actors orders failed right is = some-fault gives plan actors orders failed failed.error right is

-- the lists of all senders are those of the orders in a row
pub lists-are : (senders : ℕ) (sends : List SenderOrder) (lists : List (List Order)) → length (lists_of senders sends) ≡ senders
    → lists ≡ map (λ number. orders_of number sends) (numbers 0 senders) → lists ≡ lists_of senders sends
lists-are senders sends lists right is =
    is ∙ ap (λ n. map (λ number. orders_of number sends) (numbers 0 n)) (sym right ∙ length-lists senders sends)
