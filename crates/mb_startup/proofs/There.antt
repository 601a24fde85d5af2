-- All handles and senders with which a system begins are there, in order.
use Rattle.std.proofs.Common.{◌≡◌, ◌≢◌, ◌+◌, ◌-◌, ◌<◌, ◌≤◌, ℕ, zero, suc, List, [], ◌∷◌, length, refl, sym, ap, ◌∙◌, Some, arith}
use Rattle.std.specs.Prelude.{slice_get}
use Rattle.std.specs.Global.{Box}
use Rattle.std.proofs.lemmas.List.{length-map}
use Rattle.mb_msg.specs.Limits.{most_actors}
use Rattle.mb_actor.specs.Behaviour.{Moment, Reply}
use Rattle.mb_gate.specs.declared.gates.Gates.{Gates}
use Rattle.mb_home.specs.Contents.{Contents}
use Rattle.mb_msg.specs.declared.plan.Plan.{Plan}
use Rattle.mb_queue.specs.Passes.{SendPassView}
use Rattle.mb_build.specs.Handed.{passes_of}
use Rattle.mb_build.specs.Numbers.{numbers}
use Rattle.mb_startup.specs.Begun.{AreNewHandles, AreNewSenders, IsBegun}
use Rattle.mb_system.specs.Belonging.{senders_numbers}
use Rattle.mb_system.specs.Members.{OutsideSender, handle_numbers}
use Rattle.mb_system.specs.declared.built.Built.{Built}
use Rattle.mb_system.specs.declared.handle.WorkerHandle.{WorkerHandle}

-- numbers in a row
pub length-numbers : (first count : ℕ) → length (numbers first count) ≡ count
length-numbers first zero = refl
length-numbers first (suc count) = ap suc (length-numbers (first + 1) count)

pub number-at : (first count i : ℕ) → i < count → slice_get (numbers first count) i ≡ Some (first + i)
number-at first zero i lt = absurd (omega (arith, lt))
number-at first (suc count) zero lt = ap Some (omega arith)
number-at first (suc count) (suc i) lt = number-at (first + 1) count i (omega (arith, lt)) ∙ ap Some (omega arith)

module _ (gates : Gates (Box Contents)) where
  numbers-of-senders : (number : ℕ) (rows : List (List SendPassView)) (senders : List OutsideSender) → most_actors ≤ number
      → AreNewSenders gates number rows senders
      → (senders_numbers senders ≡ numbers (number - most_actors) (length senders)) × (length senders ≡ length rows)
  numbers-of-senders number [] [] least are = (refl, refl)
  numbers-of-senders number [] (s ∷ senders) least are = absurd are
  numbers-of-senders number (row ∷ rows) [] least are = absurd are
  numbers-of-senders number (row ∷ rows) (s ∷ senders) least are =
      let rest = numbers-of-senders (number + 1) rows senders (omega (arith, least)) are.1 in
      let next : (number + 1) - most_actors ≡ (number - most_actors) + 1 = omega (arith, least) in
      let one : s.send_log.by.0 - most_actors ≡ number - most_actors = ap (λ n. n.0 - most_actors) are.0.by in
      ((λ i. one i ∷ (rest.0 ∙ ap (λ n. numbers n (length senders)) next) i), ap suc rest.1)

module _ {A K : Type 0} (gates : Gates (Box Contents)) where
  numbers-of-handles : (number : ℕ) (handles : List (WorkerHandle A K)) → AreNewHandles gates number handles → handle_numbers handles ≡ numbers number (length handles)
  numbers-of-handles number [] are = refl
  numbers-of-handles number (e ∷ handles) are = λ i. are.0.number_is i ∷ numbers-of-handles (number + 1) handles are.1 i

module _ {A K : Type 0} (gives : ℕ → Moment → Reply → Type 0) (plan : Plan) (built : Built A K) (begun : IsBegun gives plan built) where
  -- all senders and handles of the plan are there, in order
  pub senders-there : (length built.senders.items ≡ plan.senders) × (senders_numbers built.senders.items ≡ numbers 0 plan.senders)
  senders-there =
      let are = numbers-of-senders built.system.gates most_actors begun.outside built.senders.items (omega arith) begun.senders in
      let many : length built.senders.items ≡ plan.senders =
      are.1 ∙ ap length begun.homes_made.passes ∙ length-map (numbers most_actors plan.senders) (passes_of begun.homes_made.takes)
      ∙ length-numbers most_actors plan.senders in
      (many, are.0 ∙ ap (numbers 0) many)

  pub handles-there : handle_numbers built.handles.items ≡ numbers 0 plan.workers
  handles-there =
      let all : handle_numbers built.handles.items ≡ numbers 0 (length built.handles.items) =
      ap handle_numbers begun.handles_are
      ∙ (λ i. begun.first_handle.0 i ∷ numbers-of-handles built.system.gates 1 begun.others begun.others_are i)
      ∙ ap (λ l. numbers 0 (length l)) (sym begun.handles_are) in
      all ∙ ap (numbers 0) begun.same_count

  pub some-handle : built.handles.items ≢ []
  some-handle none = let e = ap length (sym begun.handles_are ∙ none) in omega (arith, e)
