-- The gates of a new system, by the homes of its plan.
use Rattle.std.proofs.Common.{◌≡◌, ◌≢◌, ◌≤◌, ◌<◌, ℕ, zero, suc, ◌+◌, ◌-◌, List, []}
use Rattle.std.proofs.Common.{◌∷◌, length, map, drop, replicate, refl, sym, ap, ◌∙◌, subst, arith}
use Rattle.std.specs.Prelude.{All, AllPairs, Some, slice_get}
use Rattle.std.specs.Global.{Box}
use Rattle.std.proofs.lemmas.List.{append-nil, length-map, length-replicate}
use Rattle.std.proofs.lemmas.List.Elements.{All-cons, All-nil}
use Rattle.mb_msg.specs.Limits.{most_actors}
use Rattle.mb_actor.specs.Behaviour.{Moment, Reply}
use Rattle.mb_journal.specs.Identity.{Identity}
use Rattle.mb_msg.specs.declared.journal_mode.JournalMode.{JournalMode}
use Rattle.mb_msg.specs.declared.actor_plan.ActorPlan.{ActorPlan}
use Rattle.mb_msg.specs.declared.mailbox_type.MailboxType.{MailboxType}
use Rattle.mb_queue.specs.Passes.{SendPassView, TakePassView}
use Rattle.mb_gate.specs.Accessors.{actors_of, first_home}
use Rattle.mb_gate.specs.declared.gates.Gates.{Gates}
use Rattle.mb_home.specs.Contents.{Contents}
use Rattle.mb_home.specs.Directory.{queues_of}
use Rattle.mb_pool.specs.Places.{AreHandles, AreFeeds, Parts, PoolEndpoint, PoolView, handle_parts, feed_parts, gates_of, numbers as pool_numbers, parts_of}
use Rattle.mb_build.specs.Handed.{passes_of}
use Rattle.mb_build.specs.NewHomes.{AreNewHomes, directory_of}
use Rattle.mb_build.specs.Kinds.{AreKindsOf}
use Rattle.mb_build.specs.Made.{AreMade}
use Rattle.mb_build.specs.Numbers.{numbers, sender_numbers}
use Rattle.mb_build.proofs.NewHomesLemmas.{length-who, who_of}
use Rattle.mb_build.proofs.NumberLemmas.{senders-different}
use Rattle.mb_build.proofs.PlannedLemmas.{length-queues}
use Rattle.mb_build.proofs.QueueLemmas.{as-many}
use Rattle.mb_build.proofs.DirectoryLemmas.{length-enrolled}
use Rattle.mb_startup.specs.Begun.{AreNewHandles, AreNewSenders, AreUnused}
use Rattle.mb_system.specs.Belonging.{senders_numbers}
use Rattle.mb_system.specs.KnownSenders.{AreKnown}
use Rattle.mb_startup.specs.NewGates.{AreNewGates}
use Rattle.mb_system.specs.Members.{IsHandleOf, IsSenderOf, OutsideSender}
use Rattle.mb_system.specs.declared.handle.WorkerHandle.{WorkerHandle}
use Rattle.mb_startup.proofs.Known.{as-many-homes, first-directory, known-first, unused-outside}

length-numbers : (first count : ℕ) → length (numbers first count) ≡ count
length-numbers first zero = refl
length-numbers first (suc count) = ap suc (length-numbers (first + 1) count)

known-all : (kinds : List MailboxType) (outside : ℕ) (guardian : TakePassView) (takes : List TakePassView) (rows : List (List SendPassView)) (whos : List Identity)
    (count : ℕ) → AreMade kinds (sender_numbers (length whos) outside) guardian takes rows → length (guardian ∷ takes) ≡ length whos
    → length whos ≡ count + 1 → length whos ≤ 64 → AreKnown (directory_of whos (guardian ∷ takes)) outside
known-all kinds outside guardian takes rows [] count made many is few = absurd (omega (arith, is))
known-all kinds outside guardian takes rows (who ∷ whos) count made many is few =
    known-first kinds outside guardian takes rows who whos made (omega (arith, many)) few

-- there is a home for the guardian and for each planned actor
pub housed-many : (gives : ℕ → Moment → Reply → Type 0) (mode : JournalMode) (limit : ℕ) (plans : List ActorPlan) (kinds : List MailboxType) (senders : ℕ)
    (homes : List (Box Contents)) (outside : List (List SendPassView)) → AreNewHomes gives (who_of mode limit plans) kinds senders homes outside
    → length homes ≡ length plans + 1
housed-many gives mode limit plans kinds senders homes outside housed =
    let whos = who_of mode limit plans in let all_takes = housed.guardian ∷ housed.takes in
    as-many-homes (directory_of whos all_takes) housed.takes 0 whos all_takes homes housed.first ∙ length-who mode limit plans

-- what the gates are that begin with such homes
pub founded : (gives : ℕ → Moment → Reply → Type 0) (mode : JournalMode) (limit : ℕ) (plans : List ActorPlan) (kinds : List MailboxType) (senders : ℕ)
    (homes : List (Box Contents)) (outside : List (List SendPassView)) (gates : Gates (Box Contents)) → length plans < 64 → AreKindsOf plans kinds
    → AreNewHomes gives (who_of mode limit plans) kinds senders homes outside → slice_get homes 0 ≡ Some (first_home gates)
    → actors_of gates ≡ length homes → AreNewGates gates (length plans) senders outside
founded gives mode limit plans kinds senders homes outside gates few queues housed first actors =
    let whos = who_of mode limit plans in let all_takes = housed.guardian ∷ housed.takes in
    let who : length whos ≡ length plans + 1 = length-who mode limit plans in
    let takes : length housed.takes ≡ length kinds = as-many kinds 1 (sender_numbers (length whos) senders) housed.takes housed.made.empty in
    let planned : length kinds ≡ length plans = length-queues plans kinds queues in
    let both : length all_takes ≡ length whos = omega (arith, who, takes, planned) in
    let homes_are : length homes ≡ length whos = as-many-homes (directory_of whos all_takes) housed.takes 0 whos all_takes homes housed.first in
    let count : actors_of gates ≡ length whos = actors ∙ homes_are in
    let directory : (first_home gates).value.directory ≡ directory_of whos all_takes =
    first-directory (directory_of whos all_takes) housed.takes 0 whos all_takes homes (first_home gates) housed.first first in record {
      actors = count ∙ who;
      directory = ap length directory ∙ length-enrolled whos all_takes both ∙ sym count;
      known = subst (λ r. AreKnown r senders) (sym directory)
          (known-all kinds senders housed.guardian housed.takes housed.rows whos (length plans) housed.made both who (omega (arith, who, few)));
      unused = subst (λ n. AreUnused (drop 1 (queues_of (first_home gates).value.directory)) n most_actors outside) (sym count)
          (subst (λ r. AreUnused (drop 1 (queues_of r)) (length whos) most_actors outside) (sym directory)
          (subst (AreUnused (drop 1 (queues_of (directory_of whos all_takes))) (length whos) most_actors) (sym housed.passes)
          (unused-outside kinds (sender_numbers (length whos) senders) housed.guardian housed.takes housed.rows whos most_actors senders
          housed.made both)));
      rows = ap length housed.passes ∙ length-map (numbers most_actors senders) (passes_of housed.takes) ∙ length-numbers most_actors senders;
    }

-- the handles and feeds of a new pool are of its gates
module _ {H : Type 0} (pool : PoolView H) where
  length-pool : (first count : ℕ) → length (pool_numbers first count) ≡ count
  length-pool first zero = refl
  length-pool first (suc count) = ap suc (length-pool (first + 1) count)

  handles-there : (first count : ℕ) (handles : List (PoolEndpoint H)) → map (parts_of {H = H}) handles ≡ map (handle_parts pool) (pool_numbers first count)
      → All (λ (w : PoolEndpoint H). gates_of w ≡ Some pool.gates) handles
  handles-there first count [] are = All-nil (λ (w : PoolEndpoint H). gates_of w ≡ Some pool.gates)
  handles-there first zero (e ∷ handles) are = absurd (cc)
  handles-there first (suc count) (e ∷ handles) are =
      let this : parts_of e ≡ handle_parts pool first = cc in
      let rest : map (parts_of {H = H}) handles ≡ map (handle_parts pool) (pool_numbers (first + 1) count) = cc in
      All-cons (λ (w : PoolEndpoint H). gates_of w ≡ Some pool.gates) e handles (ap (λ (p : Parts H). p.shared_port.gates) this)
      (handles-there (first + 1) count handles rest)

  pub handles-gates : (handles : List (PoolEndpoint H)) → AreHandles pool handles → All (λ (w : PoolEndpoint H). gates_of w ≡ Some pool.gates) handles × (length handles ≡ pool.handles)
  handles-gates handles are = (
    handles-there 0 pool.handles handles are,
    sym (length-map handles (parts_of {H = H})) ∙ ap length are ∙ length-map (pool_numbers 0 pool.handles) (handle_parts pool) ∙ length-pool 0 pool.handles,
  )

  feeds-there : (count : ℕ) (feeds : List (PoolEndpoint H)) → map (parts_of {H = H}) feeds ≡ replicate count (feed_parts pool)
      → All (λ (w : PoolEndpoint H). gates_of w ≡ Some pool.gates) feeds
  feeds-there count [] are = All-nil (λ (w : PoolEndpoint H). gates_of w ≡ Some pool.gates)
  feeds-there zero (f ∷ feeds) are = absurd (cc)
  feeds-there (suc count) (f ∷ feeds) are =
      let this : parts_of f ≡ feed_parts pool = cc in
      let rest : map (parts_of {H = H}) feeds ≡ replicate count (feed_parts pool) = cc in
      All-cons (λ (w : PoolEndpoint H). gates_of w ≡ Some pool.gates) f feeds (ap (λ (p : Parts H). p.shared_port.gates) this) (feeds-there count feeds rest)

  pub feeds-gates : (feeds : List (PoolEndpoint H)) → AreFeeds pool feeds
      → All (λ (w : PoolEndpoint H). gates_of w ≡ Some pool.gates) feeds × (length feeds ≡ pool.feeds)
  feeds-gates feeds are = (
    feeds-there pool.feeds feeds are,
    sym (length-map feeds (parts_of {H = H})) ∙ ap length are ∙ length-replicate pool.feeds (feed_parts pool),
  )

-- handles and senders that were opened belong to their gates
module _ (gates : Gates (Box Contents)) where
  pub all-senders : (number : ℕ) (rows : List (List SendPassView)) (senders : List OutsideSender) → AreNewSenders gates number rows senders
      → All (λ (s : OutsideSender). IsSenderOf gates s) senders
  all-senders number [] [] are = All-nil (λ (s : OutsideSender). IsSenderOf gates s)
  all-senders number [] (s ∷ senders) are = absurd are
  all-senders number (row ∷ rows) [] are = absurd are
  all-senders number (row ∷ rows) (s ∷ senders) are =
      All-cons (λ (s : OutsideSender). IsSenderOf gates s) s senders are.0.same_gates (all-senders (number + 1) rows senders are.1)

  pub as-many-senders : (number : ℕ) (rows : List (List SendPassView)) (senders : List OutsideSender) → AreNewSenders gates number rows senders
      → length senders ≡ length rows
  as-many-senders number [] [] are = refl
  as-many-senders number [] (s ∷ senders) are = absurd are
  as-many-senders number (row ∷ rows) [] are = absurd are
  as-many-senders number (row ∷ rows) (s ∷ senders) are = ap suc (as-many-senders (number + 1) rows senders are.1)

  -- their numbers, which the system gave
  pub all-numbered : (number limit : ℕ) (rows : List (List SendPassView)) (senders : List OutsideSender) → AreNewSenders gates number rows senders
      → most_actors ≤ number → number + length senders ≤ limit
      → All (λ (s : OutsideSender). (most_actors ≤ s.send_log.by.0) × (s.send_log.by.0 < limit)) senders
  all-numbered number limit [] [] are least le =
      All-nil (λ (s : OutsideSender). (most_actors ≤ s.send_log.by.0) × (s.send_log.by.0 < limit))
  all-numbered number limit [] (s ∷ senders) are least le = absurd are
  all-numbered number limit (row ∷ rows) [] are least le = absurd are
  all-numbered number limit (row ∷ rows) (s ∷ senders) are least le =
      let by : s.send_log.by.0 ≡ number = ap (λ x. x.0) are.0.by in
      All-cons (λ (s : OutsideSender). (most_actors ≤ s.send_log.by.0) × (s.send_log.by.0 < limit)) s senders
      (subst (λ n. (most_actors ≤ n) × (n < limit)) (sym by) (least, omega (arith, le)))
      (all-numbered (number + 1) limit rows senders are.1 (omega (arith, least)) (omega (arith, le)))

  numbers-of : (place : ℕ) (rows : List (List SendPassView)) (senders : List OutsideSender) → AreNewSenders gates (most_actors + place) rows senders
      → senders_numbers senders ≡ numbers place (length senders)
  numbers-of place [] [] are = refl
  numbers-of place [] (s ∷ senders) are = absurd are
  numbers-of place (row ∷ rows) [] are = absurd are
  numbers-of place (row ∷ rows) (s ∷ senders) are =
      let sum : (most_actors + place) + 1 ≡ most_actors + (place + 1) = omega arith in
      let by : s.send_log.by.0 ≡ most_actors + place = ap (λ x. x.0) are.0.by in
      let this : s.send_log.by.0 - most_actors ≡ place = omega (arith, by) in
      let rest = numbers-of (place + 1) rows senders (subst (λ n. AreNewSenders gates n rows senders) sum are.1) in
      (λ i. this i ∷ rest i)

  pub all-once : (rows : List (List SendPassView)) (senders : List OutsideSender) → AreNewSenders gates most_actors rows senders → length senders ≤ 64
      → AllPairs (λ a b. a ≢ b) (senders_numbers senders)
  all-once rows senders are few =
      let sum : most_actors ≡ most_actors + 0 = omega arith in
      let are_numbers : senders_numbers senders ≡ numbers 0 (length senders) =
      numbers-of 0 rows senders (subst (λ n. AreNewSenders gates n rows senders) sum are) in
      subst (AllPairs (λ a b. a ≢ b)) (append-nil (numbers 0 (length senders)) ∙ sym are_numbers) (senders-different (length senders) 0 few)

module _ {A K : Type 0} (gates : Gates (Box Contents)) where
  pub all-handles : (number : ℕ) (handles : List (WorkerHandle A K)) → AreNewHandles gates number handles → All (λ (e : WorkerHandle A K). IsHandleOf gates e.registrar) handles
  all-handles number [] are = All-nil (λ (e : WorkerHandle A K). IsHandleOf gates e.registrar)
  all-handles number (e ∷ handles) are =
      All-cons (λ (e : WorkerHandle A K). IsHandleOf gates e.registrar) e handles are.0.same_gates (all-handles (number + 1) handles are.1)
