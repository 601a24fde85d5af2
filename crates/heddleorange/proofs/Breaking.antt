-- Why a whole run is broken off, in the words of the plan.
use Rattle.std.proofs.Common.{◌≡◌, ◌==◌, ◌+◌, ◌<◌, inl, inr, ℕ, List, [], length, subst, arith, Bool, true, false, sym, ap, ◌∙◌, None, Option, refl}
use Rattle.std.specs.Prelude.{◌≢◌, ⊤, nat_lt, ◌&&◌, ◌||◌}
use Rattle.std.specs.Global.{Box}
use Rattle.std.proofs.lemmas.Bool.Decides.{nat_tests}
use Rattle.std.proofs.lemmas.List.Elements.{All-contains}
use Rattle.mb_msg.specs.declared.id.ActorId.{ActorId}
use Rattle.mb_actor.specs.Behaviour.{Moment, Reply}
use Rattle.mb_msg.specs.declared.plan.Plan.{Plan}
use Rattle.mb_gate.specs.Accessors.{actors_of, first_home}
use Rattle.mb_gate.specs.declared.gates.Gates.{Gates}
use Rattle.mb_home.specs.Contents.{Contents}
use Rattle.mb_startup.specs.Begun.{IsBegun}
use Rattle.mb_build.proofs.NewHomesLemmas.{length-who}
use Rattle.mb_build.specs.Planned.{IsDirectoryOf, actors_in}
use Rattle.mb_dispatch.specs.Faults.{IsToNobody}
use Rattle.mb_system.specs.Members.{AreHandlesOf, handle_numbers}
use Rattle.mb_system.specs.declared.built.Built.{Built}
use Rattle.mb_system.specs.declared.system.System.{System}
use Rattle.mb_system.specs.declared.failure.RunError.{RunError}
use Rattle.mb_system.specs.declared.failure.RunError.TheVariants as Fault
use Rattle.mb_msg.specs.declared.order.Order.{Order}
use Rattle.mb_msg.specs.declared.order.OrderKind.{OrderKind}
use Rattle.mb_msg.specs.declared.order.OrderKind.TheVariants.{Stop, Tell}
use Rattle.mb_shutdown.proofs.Lists.{within}
use Rattle.mb_shutdown.specs.Mismatched.{of_whom}
use Rattle.mb_shutdown.specs.Unfinished.{AreUnfinished}
use Rattle.mb_shutdown.specs.declared.mismatch.Mismatch.{Mismatch}
use Rattle.mb_shutdown.specs.declared.mismatch.Mismatch.TheVariants.{Held, List as Listed, Waiting}
use Rattle.mb_shutdown.specs.declared.unfinished.UnfinishedActor.{UnfinishedActor}
use Rattle.mb_startup.proofs.Directories.{actors-there, still-planned, still-there}
use Rattle.heddleorange.specs.NoReport.{HasFailedFor, IsErrorOfRun, IsRight, has_nobody, is_for_nobody}
use Rattle.heddleorange.specs.Remains.{AreRemains, HasOwnHandles, IsBrokenOff, IsLackOf, IsToldAs, SawFull}
use Rattle.heddleorange.specs.declared.error.Error.{Error}
use Rattle.heddleorange.specs.declared.failed_run.FailedRun.{FailedRun}
use Rattle.heddleorange.proofs.AnyBreak.{BreaksOff}
use Rattle.heddleorange.proofs.Identified.{as-planned}
use Rattle.heddleorange.proofs.LastRun.{HaveRun}
use Rattle.heddleorange.proofs.Recipients.{of-place}
use Rattle.heddleorange.proofs.Remains.{remains, saw-full}
use Rattle.heddleorange.proofs.Sent.{some-left}

-- which error is one of these
abbrev IsNobody : RunError → Type 0
IsNobody Fault.NoSuchActor = ⊥
IsNobody _ = ⊤

abbrev IsNotFull : RunError → Type 0
IsNotFull Fault.JournalFull = ⊥
IsNotFull _ = ⊤

both-true : (a b : Bool) → a ≡ true → b ≡ true → (a && b) ≡ true
both-true a b one other = λ i. one i && other i

either-true : (a b : Bool) → b ≡ true → (a || b) ≡ true
either-true true b other = cc
either-true false b other = other

-- what is to nobody by the gates is for none of so many actors
for-nobody : (gates : Gates (Box Contents)) (actors : ℕ) (to : ActorId) (what : OrderKind) → actors_of gates ≡ actors + 1 → IsToNobody gates to what
    → is_for_nobody actors to what ≡ true
for-nobody gates actors to (Tell payload) same (inl guardian) = zero-first to.0 guardian (nat_lt actors to.0)
  where
    zero-first : (n : ℕ) → n ≡ 0 → (b : Bool) → (n == 0 || b) ≡ true
    zero-first n is b = ap (λ k. k == 0 || b) is
for-nobody gates actors to (Tell payload) same (inr beyond) =
    either-true (to.0 == 0) (nat_lt actors to.0) (let lt : actors < to.0 = omega (arith, same, beyond) in grind (arith, nat_tests))
for-nobody gates actors to Stop same beyond = let lt : actors < to.0 = omega (arith, same, beyond) in grind (arith, nat_tests)

-- the handles of a system that did run are its own, and there is one
pub own-handles : {A K : Type 0} (built now : Built A K) → now.system ≡ built.system → built.handles.items ≢ []
    → handle_numbers now.handles.items ≡ handle_numbers built.handles.items → AreHandlesOf built.system.gates now.handles.items → HasOwnHandles now
own-handles {A} {K} built now same some numbers handles =
    (subst (λ (s : System A K). AreHandlesOf s.gates now.handles.items) (sym same) handles, some-left built.handles.items now.handles.items some numbers)

module _ {A K : Type 0} (gives : ℕ → Moment → Reply → Type 0) (plan : Plan) (built now : Built A K) (begun : IsBegun gives plan built)
    (same : now.system ≡ built.system) (actors : ℕ) (orders : List (List Order)) (right : IsRight plan actors orders) where
  so-many : actors_of built.system.gates ≡ actors + 1
  so-many =
      actors-there gives plan built begun ∙ length-who plan.journal plan.journal_limit plan.actors.items ∙ ap (λ n. n + 1) (as-planned plan actors right.0)

  -- orders that are right are for somebody
  pub somebody : (error : RunError) → BreaksOff gives built.system now.handles.items orders error → error ≢ Fault.NoSuchActor
  somebody Fault.NoMemory broken is = subst IsNobody is tt
  somebody Fault.JournalFull broken is = subst IsNobody is tt
  somebody Fault.NoSuchActor (inl one) is =
      let order = one.3.0 in let some = one.3.2 in
      let nobody : has_nobody actors order ≡ true =
      both-true (nat_lt 0 order.times) (is_for_nobody actors order.to order.what) (grind (arith, nat_tests))
      (for-nobody built.system.gates actors order.to order.what so-many one.3.3) in
      let known = All-contains (λ o. has_nobody actors o ≡ false) one.1 order (of-place actors orders one.0 one.1 right.2 one.2) one.3.1 in
      absurd (cc (nobody, known))
  somebody Fault.NoSuchActor (inr (start, handle, here, inl short)) is = absurd (let is = short.0 in cc is)
  somebody Fault.NoSuchActor (inr (start, handle, here, inr broken)) is = absurd broken

  planned : IsDirectoryOf plan (first_home now.system.gates).value.directory
  planned = still-planned gives plan built begun now same

  left : HaveRun gives plan now → (shown : List (Option UnfinishedActor)) → AreUnfinished gives now shown → AreRemains gives plan shown
  left ran = remains gives plan now planned ran (still-there gives plan built begun now same)

  -- a journal was full that a handle saw
  pub full-seen : (error : RunError) → BreaksOff gives built.system now.handles.items orders error → error ≡ Fault.JournalFull
      → SawFull (actors_of now.system.gates) plan.journal_limit now.handles.items
  full-seen Fault.NoMemory broken is = absurd (subst IsNotFull is tt)
  full-seen Fault.NoSuchActor broken is = absurd (subst IsNotFull is tt)
  full-seen Fault.JournalFull (inl one) is = absurd one.3
  full-seen Fault.JournalFull (inr (start, handle, here, inl short)) is = absurd (let is = short.0 in cc is)
  full-seen Fault.JournalFull (inr (start, handle, here, inr full)) is =
      saw-full gives plan now planned built.system (sym same) now.handles.items handle here full.0

  -- how it is told
  told-by : HaveRun gives plan now → (fault : RunError) (shown : List (Option UnfinishedActor)) (error : Error) → fault ≢ Fault.NoSuchActor
      → AreUnfinished gives now shown
      → IsToldAs fault plan.journal_limit shown error → HasFailedFor gives plan actors orders shown error
  told-by ran Fault.NoMemory shown error known are told =
      subst (HasFailedFor gives plan actors orders shown) (sym told) (right, left ran shown are)
  told-by ran Fault.NoSuchActor shown error known are told = absurd (known refl)
  told-by ran Fault.JournalFull shown error known are (inl (id, is, full)) =
      subst (HasFailedFor gives plan actors orders shown) (sym is) (right, left ran shown are, full)
  told-by ran Fault.JournalFull shown error known are (inr (what, is, lacks)) =
      subst (HasFailedFor gives plan actors orders shown) (sym is) (right, within-plan what lacks, inr (left ran shown are, lacks))
    where
      within-plan : (w : Mismatch) → IsLackOf shown w → of_whom w < length (actors_in plan)
      within-plan (Held id) none = (let lt = within shown id.0 None none in let many = (left ran shown are).same_count in omega (arith, lt, many))
      within-plan (Listed id) none = absurd none
      within-plan (Waiting id) none = absurd none

  pub may-break : HaveRun gives plan now → (fault : RunError) (failed : FailedRun A) → BreaksOff gives built.system now.handles.items orders fault
      → IsBrokenOff gives now fault plan.journal_limit failed → IsErrorOfRun gives plan actors orders failed
  may-break ran fault failed broken (inl (are, told)) = told-by ran fault failed.actors.items failed.error (somebody fault broken) are told
  may-break ran fault failed broken (inr (is, none)) = subst (HasFailedFor gives plan actors orders failed.actors.items) (sym is) (right, inl none)
