-- Why a whole run gave no report, in the words of the plan.
use Rattle.std.proofs.Common.{◌≡◌, ℕ, List, [], ap, arith, inl, inr, length, subst, sym, ◌∙◌}
use Rattle.std.specs.Prelude.{All, Err, IfErr, Ok, Option, Result, ◌<◌, ◌⊎◌}
use Rattle.std.proofs.lemmas.List.Elements.{All-cons, All-head, All-tail}
use Rattle.std.specs.Global.{Box}
use Rattle.mb_actor.specs.Behaviour.{Moment, Reply}
use Rattle.mb_build.specs.Planned.{IsDirectoryOf, actors_in}
use Rattle.mb_gate.specs.Accessors.{actors_of, first_home}
use Rattle.mb_gate.specs.Untouched.{origin_of}
use Rattle.mb_gate.specs.View.{View}
use Rattle.mb_home.specs.Contents.{Contents}
use Rattle.mb_pool.specs.Places.{gates_of}
use Rattle.mb_pool.specs.WorkerPorts.{WorkerPortView}
use Rattle.mb_msg.specs.declared.plan.Plan.{Plan}
use Rattle.mb_shutdown.specs.Belonging.{HasRead, OnlyFirstHandleRead}
use Rattle.mb_shutdown.specs.Mismatched.{of_whom}
use Rattle.mb_shutdown.specs.Unfinished.{AreUnfinished}
use Rattle.mb_shutdown.specs.declared.unfinished.UnfinishedActor.{UnfinishedActor}
use Rattle.mb_startup.specs.Begun.{IsBegun}
use Rattle.mb_system.specs.Members.{IsHandleOf}
use Rattle.mb_system.specs.OnlyLooks.{OnlyLooks}
use Rattle.mb_system.specs.declared.built.Built.{Built}
use Rattle.mb_system.specs.declared.handle.WorkerHandle.{WorkerHandle}
use Rattle.mb_system.specs.declared.system.System.{System}
use Rattle.mb_msg.specs.declared.order.Order.{Order}
use Rattle.mb_shutdown.specs.Refused.{DisagreesIfSaid, FindsBusy, FindsIdle, IsRefusal}
use Rattle.mb_shutdown.specs.declared.ending.FinishError.{FinishError}
use Rattle.mb_shutdown.specs.declared.ending.FinishError.TheVariants as handle
use Rattle.mb_shutdown.proofs.NotFinished.{does-not-agree}
use Rattle.mb_startup.proofs.Directories.{still-planned, still-senders, still-there}
use Rattle.heddleorange.specs.NoReport.{HasFailedFor, IsErrorOfRun, IsRight, IsUnfit}
use Rattle.heddleorange.specs.Remains.{AreRemains, BringsOwnHandles, HasOwnHandles, IsFailureFor, IsWithoutMemory}
use Rattle.heddleorange.specs.declared.error.Error.{Error}
use Rattle.heddleorange.specs.declared.error.Error.TheVariants.{BadPlan, OrderLists, NoSuchSender, NoSuchActor, NoMemory, NoMemoryInRun, JournalFull, Mismatch, NameTaken}
use Rattle.heddleorange.specs.declared.failed_run.FailedRun.{FailedRun}
use Rattle.heddleorange.specs.Workers.{AllOnlyRuns}
use Rattle.heddleorange.proofs.LastRun.{HaveRun, all-ran, all-runs-on, have-run}
use Rattle.heddleorange.proofs.GoingOn.{idle-found-looks, read-runs}
use Rattle.heddleorange.proofs.Remains.{remains}

-- what is refused before anything is done has no story
unfit-for : (gives : ℕ → Moment → Reply → Type 0) (plan : Plan) (actors : ℕ) (orders : List (List Order)) (shown : List (Option UnfinishedActor))
    (error : Error) → shown ≡ [] → IsUnfit plan actors orders error → HasFailedFor gives plan actors orders shown error
unfit-for gives plan actors orders shown (BadPlan reason) none refused = (refused, none)
unfit-for gives plan actors orders shown (OrderLists lists senders) none refused = (refused.0, refused.1, refused.2, refused.3, none)
unfit-for gives plan actors orders shown (NoSuchSender place sender) none refused = (refused.0, refused.1, none)
unfit-for gives plan actors orders shown NoMemory none refused = absurd refused
unfit-for gives plan actors orders shown (NoSuchActor sender place to) none refused = (refused.0, refused.1, refused.2, none)
unfit-for gives plan actors orders shown NoMemoryInRun none refused = absurd refused
unfit-for gives plan actors orders shown (JournalFull id) none refused = absurd refused
unfit-for gives plan actors orders shown (Mismatch what) none refused = absurd refused
unfit-for gives plan actors orders shown (NameTaken id) none refused = absurd refused

pub unfit : {X : Type 0} (gives : ℕ → Moment → Reply → Type 0) (plan : Plan) (actors : ℕ) (orders : List (List Order)) (failed : FailedRun X) (error : Error)
    → failed.error ≡ error → failed.actors.items ≡ [] → IsUnfit plan actors orders error → IsErrorOfRun gives plan actors orders failed
unfit gives plan actors orders failed error is none refused =
    subst (HasFailedFor gives plan actors orders failed.actors.items) (sym is) (unfit-for gives plan actors orders failed.actors.items error none refused)

-- memory was refused for what is right
pub without-memory : {X : Type 0} (gives : ℕ → Moment → Reply → Type 0) (plan : Plan) (actors : ℕ) (orders : List (List Order)) (failed : FailedRun X)
    → IsRight plan actors orders → IsWithoutMemory failed → IsErrorOfRun gives plan actors orders failed
without-memory gives plan actors orders failed right told =
    subst (HasFailedFor gives plan actors orders failed.actors.items) (sym told.0) (right, inl told.1)

-- what is right is not built only for want of memory
pub only-memory : {T X : Type 0} (gives : ℕ → Moment → Reply → Type 0) (plan : Plan) (actors : ℕ) (orders : List (List Order)) (result : Result T (FailedRun X))
    → IsRight plan actors orders → IfErr result IsWithoutMemory → IfErr result (IsErrorOfRun gives plan actors orders)
only-memory gives plan actors orders (Ok x) right told = tt
only-memory gives plan actors orders (Err failed) right told = without-memory gives plan actors orders failed right told

-- the handles of a system are still its own where its first has read more
pub still-own-handles : {A K : Type 0} (Reads : View → View → Type 0) (built back : Built A K)
    → All (λ (e : WorkerHandle A K). IsHandleOf built.system.gates e.registrar) built.handles.items → HasRead Reads built back → HasOwnHandles back
still-own-handles {A} {K} Reads built back handles (before, after, read, more) =
    let gates = built.system.gates in
    let all = subst (All (λ (e : WorkerHandle A K). IsHandleOf gates e.registrar)) read.was handles in
    let first = All-head (λ (e : WorkerHandle A K). IsHandleOf gates e.registrar) read.first read.rest all in
    let others = All-tail (λ (e : WorkerHandle A K). IsHandleOf gates e.registrar) read.first read.rest all in (
      subst (λ (s : System A K). All (λ (e : WorkerHandle A K). IsHandleOf s.gates e.registrar) back.handles.items) (sym read.system)
          (subst (All (λ (e : WorkerHandle A K). IsHandleOf gates e.registrar)) (sym read.is)
          (All-cons (λ (e : WorkerHandle A K). IsHandleOf gates e.registrar) read.first' read.rest (
            read.same_gates ∙ first.0,
            ap (λ (port : WorkerPortView (Box Contents)). gates_of port.handle) read.others.1 ∙ first.1,
            first.2,
          )
          others)),
      (let long = ap length read.is in omega (arith, long)),
    )

pub brings-own-handles : {A K : Type 0} (built : Built A K) (why : FinishError A K)
    → All (λ (e : WorkerHandle A K). IsHandleOf built.system.gates e.registrar) built.handles.items → IsRefusal built why → BringsOwnHandles why
brings-own-handles built (handle.MissingHandle number back) handles refused = tt
brings-own-handles built (handle.MissingSender number back) handles refused = tt
brings-own-handles built (handle.NotQuiet id back) handles refused = still-own-handles (FindsBusy id.0) built back handles refused.2
brings-own-handles built (handle.NoMemory back) handles refused = still-own-handles (FindsIdle (actors_of built.system.gates)) built back handles refused.1
brings-own-handles built (handle.Mismatch what) handles refused = tt

module _ {A K : Type 0} (gives : ℕ → Moment → Reply → Type 0) (plan : Plan) (first : Built A K) (begun : IsBegun gives plan first) (built : Built A K)
    (same : built.system ≡ first.system)
    (runs : AllOnlyRuns gives (origin_of first.system.gates) plan.throughput first.handles.items built.handles.items) where
  many : actors_of built.system.gates ≡ length (actors_in plan)
  many = still-there gives plan first begun built same

  planned : IsDirectoryOf plan (first_home built.system.gates).value.directory
  planned = still-planned gives plan first begun built same

  -- its handles only made runs, also where its first has read more
  still-ran : (back : Built A K) (before after : View) → OnlyFirstHandleRead built back before after → OnlyLooks before after → HaveRun gives plan back
  still-ran back before after read looks =
      let origin = origin_of first.system.gates in let was = built.handles.items in let is = back.handles.items in
      let more = read-runs built back before after read looks gives in
      let of_system = subst (λ (s : System A K). AllOnlyRuns gives (origin_of s.gates) s.throughput was is) same more in
      let of_plan = subst (λ n. AllOnlyRuns gives origin n was is) begun.numbers.2 of_system in
      have-run gives plan first back begun (read.system ∙ same)
      (all-runs-on gives origin plan.throughput first.handles.items was is runs (all-ran gives origin plan.throughput was is of_plan))

  -- what is left of it then
  left : (back : Built A K) → back.system ≡ built.system → HaveRun gives plan back → (shown : List (Option UnfinishedActor)) → AreUnfinished gives back shown
      → AreRemains gives plan shown
  left back read ran =
      remains gives plan back (still-planned gives plan first begun back (read ∙ same)) ran (still-there gives plan first begun back (read ∙ same))

  idle-left : (back : Built A K) (shown : List (Option UnfinishedActor)) → HasRead (FindsIdle (actors_of built.system.gates)) built back
      → AreUnfinished gives back shown → AreRemains gives plan shown
  idle-left back shown (before, after, read, found) are =
      left back read.system (still-ran back before after read (idle-found-looks (actors_of built.system.gates) before after found)) shown are

  -- how it is told why a system that was right has no handle
  pub untold : (actors : ℕ) (orders : List (List Order)) (why : FinishError A K) (failed : FailedRun A) → IsRight plan actors orders
      → All (λ (e : WorkerHandle A K). IsHandleOf built.system.gates e.registrar) built.handles.items → IsRefusal built why → DisagreesIfSaid gives built why
      → IsFailureFor gives why failed → IsErrorOfRun gives plan actors orders failed
  untold actors orders (handle.MissingHandle number back) failed right handles refused cause told = absurd told
  untold actors orders (handle.MissingSender number back) failed right handles refused cause told = absurd told
  untold actors orders (handle.NotQuiet id back) failed right handles refused cause told = absurd told
  untold actors orders (handle.NoMemory back) failed right handles refused cause (inr told) = without-memory gives plan actors orders failed right told
  untold actors orders (handle.NoMemory back) failed right handles refused cause (inl (is, are)) =
      subst (HasFailedFor gives plan actors orders failed.actors.items) (sym is)
      (right, inr (idle-left back failed.actors.items refused.1 are))
  untold actors orders (handle.Mismatch what) failed right handles refused cause (is, none) =
      subst (HasFailedFor gives plan actors orders failed.actors.items) (sym is) (
        right,
        subst (λ n. of_whom what < n) many refused.2,
        inl (does-not-agree plan built planned gives what (still-senders gives plan first begun built same) cause, none),
      )
