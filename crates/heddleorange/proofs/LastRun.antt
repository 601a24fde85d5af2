-- What the handles of a run that was broken off did.
use Rattle.std.proofs.Common.{◌≡◌, inl, inr, ℕ, List, [], ◌∷◌, length, map, sym, subst, arith}
use Rattle.std.specs.Global.{Box}
use Rattle.std.specs.List.{AllZip}
use Rattle.std.proofs.lemmas.List.{map-append}
use Rattle.std.proofs.lemmas.Slice.Zip.{AllZip-long}
use Rattle.mb_actor.specs.Behaviour.{Moment, Reply}
use Rattle.mb_dispatch.specs.Faults.{BreaksQuietRun, BreaksWork, RunsOrBreaks}
use Rattle.mb_dispatch.specs.Runs.{OnlyRuns}
use Rattle.mb_dispatch.proofs.Runs.{no-run, runs-then}
use Rattle.mb_gate.specs.Accessors.{pass_view}
use Rattle.mb_gate.specs.Untouched.{Origin, origin_of}
use Rattle.mb_gate.specs.View.{View, taking_over}
use Rattle.mb_home.specs.Contents.{Contents}
use Rattle.mb_msg.specs.declared.plan.Plan.{Plan}
use Rattle.mb_pool.specs.WorkerPorts.{WorkerPortView}
use Rattle.mb_shutdown.specs.Unfinished.{HaveGivenBack, by_first, by_one_more}
use Rattle.mb_startup.specs.Begun.{IsBegun}
use Rattle.mb_system.specs.declared.built.Built.{Built}
use Rattle.mb_system.specs.declared.failure.RunError.{RunError}
use Rattle.mb_system.specs.declared.failure.RunError.TheVariants as Fault
use Rattle.mb_system.specs.declared.handle.WorkerHandle.{WorkerHandle}
use Rattle.mb_system.specs.declared.system.System.{System}
use Rattle.heddleorange.specs.BrokenOff.{BreaksFirst}
use Rattle.heddleorange.specs.LastRun.{KnowTogether, OnlyRunsToLast, first_knows, one_more_knows}
use Rattle.heddleorange.specs.Workers.{AllOnlyRuns, AreNewViews}
use Rattle.heddleorange.proofs.WholeRun.{all-blank, zip-mapped}

-- ---- what holds of each, and of each twice

zip-weaker : {X : Type 0} (R S : X → X → Type 0) → ((x y : X) → R x y → S x y) → (xs ys : List X) → AllZip R xs ys → AllZip S xs ys
zip-weaker R S f [] [] all = tt
zip-weaker R S f [] (y ∷ ys) all = absurd all
zip-weaker R S f (x ∷ xs) [] all = absurd all
zip-weaker R S f (x ∷ xs) (y ∷ ys) all = (f x y all.0, zip-weaker R S f xs ys all.1)

zip-each : {X : Type 0} (R : X → X → Type 0) → ((x : X) → R x x) → (xs : List X) → AllZip R xs xs
zip-each R each [] = tt
zip-each R each (x ∷ xs) = (each x, zip-each R each xs)

zip-both : {X : Type 0} (R S T : X → X → Type 0) → ((x y z : X) → R x y → S y z → T x z) → (xs ys zs : List X) → AllZip R xs ys → AllZip S ys zs
    → AllZip T xs zs
zip-both R S T on [] [] [] p q = tt
zip-both R S T on [] [] (z ∷ zs) p q = absurd q
zip-both R S T on [] (y ∷ ys) zs p q = absurd p
zip-both R S T on (x ∷ xs) [] zs p q = absurd p
zip-both R S T on (x ∷ xs) (y ∷ ys) [] p q = absurd q
zip-both R S T on (x ∷ xs) (y ∷ ys) (z ∷ zs) p q = (on x y z p.0 q.0, zip-both R S T on xs ys zs p.1 q.1)

-- ---- one handle

module _ (gives : ℕ → Moment → Reply → Type 0) (origin : Origin (Box Contents)) (throughput : ℕ) where
  -- first it only made runs
  runs-on : (u v w : View) → OnlyRuns gives origin throughput u v → OnlyRunsToLast gives origin throughput v w → OnlyRunsToLast gives origin throughput u w
  runs-on u v w first (inl runs) = inl (runs-then gives origin throughput u v w first runs)
  runs-on u v w first (inr last) = inr (record {
    before = last.before;
    earlier = runs-then gives origin throughput u v last.before first last.earlier;
    claim = last.claim;
    fresh = last.fresh;
    journal = last.journal;
    turn = last.turn;
    left = last.left;
  })

-- ---- all handles

module _ {A K : Type 0} where
  abbrev pub knew : WorkerHandle A K → View
  knew e = pass_view e.registrar.pass

  abbrev pub port-of : WorkerHandle A K → WorkerPortView (Box Contents)
  port-of e = e.registrar.run_queue

  -- what they know once they have given back what they found
  pub know-together : (gives : ℕ → Moment → Reply → Type 0) (handles : List (WorkerHandle A K)) (view : View) → HaveGivenBack gives handles view
      → KnowTogether gives (map port-of handles) (map knew handles) view
  know-together gives _ _ (by_first handle view back) = first_knows (port-of handle) (knew handle) view back
  know-together gives _ _ (by_one_more handles handle view other rest back) =
      subst (λ (p : List (WorkerPortView (Box Contents)) × List View). KnowTogether gives p.0 p.1 (taking_over view other))
      (λ i. (sym (map-append port-of handles (handle ∷ [])) i, sym (map-append knew handles (handle ∷ [])) i))
      (one_more_knows (map port-of handles) (map knew handles) (port-of handle) (knew handle) other view (know-together gives handles view rest) back)

  -- each of these handles only made runs up to its last
  abbrev pub AllToLast : (ℕ → Moment → Reply → Type 0) → Origin (Box Contents) → ℕ → List (WorkerHandle A K) → List (WorkerHandle A K) → Type 0
  AllToLast gives origin throughput =
      AllZip (λ (o n : WorkerHandle A K). OnlyRunsToLast gives origin throughput (pass_view o.registrar.pass) (pass_view n.registrar.pass))

  module _ (gives : ℕ → Moment → Reply → Type 0) (origin : Origin (Box Contents)) (throughput : ℕ) where
    pub none-ran : (handles : List (WorkerHandle A K)) → AllToLast gives origin throughput handles handles
    none-ran handles =
        zip-each (λ (o n : WorkerHandle A K). OnlyRunsToLast gives origin throughput (pass_view o.registrar.pass) (pass_view n.registrar.pass))
        (λ e. inl (no-run gives origin throughput (pass_view e.registrar.pass))) handles

    pub all-ran : (old new : List (WorkerHandle A K)) → AllOnlyRuns gives origin throughput old new → AllToLast gives origin throughput old new
    all-ran old new runs =
        zip-weaker (λ (o n : WorkerHandle A K). OnlyRuns gives origin throughput (pass_view o.registrar.pass) (pass_view n.registrar.pass))
        (λ (o n : WorkerHandle A K). OnlyRunsToLast gives origin throughput (pass_view o.registrar.pass) (pass_view n.registrar.pass))
        (λ o n ran. inl ran) old new runs

    pub all-runs-on : (old between new : List (WorkerHandle A K)) → AllOnlyRuns gives origin throughput old between
        → AllToLast gives origin throughput between new → AllToLast gives origin throughput old new
    all-runs-on old between new runs more =
        zip-both (λ (o n : WorkerHandle A K). OnlyRuns gives origin throughput (pass_view o.registrar.pass) (pass_view n.registrar.pass))
        (λ (o n : WorkerHandle A K). OnlyRunsToLast gives origin throughput (pass_view o.registrar.pass) (pass_view n.registrar.pass))
        (λ (o n : WorkerHandle A K). OnlyRunsToLast gives origin throughput (pass_view o.registrar.pass) (pass_view n.registrar.pass))
        (λ x y z first last. runs-on gives origin throughput (pass_view x.registrar.pass) (pass_view y.registrar.pass) (pass_view z.registrar.pass) first
        last) old between new runs more

  module _ (gives : ℕ → Moment → Reply → Type 0) (system : System A K) where
    -- whatever its work was broken off for, it only made runs
    work-to-last : (start : View) (handle : WorkerHandle A K) (error : RunError) → BreaksWork gives system start handle error
        → OnlyRunsToLast gives (origin_of system.gates) system.throughput start (pass_view handle.registrar.pass)
    work-to-last start handle Fault.NoMemory (inl (last, runs)) =
        inr (record {
          before = last.before;
          earlier = runs;
          claim = last.claim;
          fresh = last.fresh;
          journal = last.journal;
          turn = last.turn;
          left = last.left;
        })
    work-to-last start handle Fault.NoMemory (inr (owes, runs)) = inl runs
    work-to-last start handle Fault.JournalFull (last, runs) =
        inr (record {
          before = last.before;
          earlier = runs;
          claim = last.claim;
          fresh = last.fresh;
          journal = last.journal;
          turn = last.turn;
          left = last.left;
        })
    work-to-last start handle Fault.NoSuchActor broken = absurd broken

    quiet-to-last : (start : View) (handle : WorkerHandle A K) (error : RunError) → BreaksQuietRun gives system start handle error
        → OnlyRunsToLast gives (origin_of system.gates) system.throughput start (pass_view handle.registrar.pass)
    quiet-to-last start handle error (inl short) = inl short.1
    quiet-to-last start handle error (inr work) = work-to-last start handle error work

    any-to-last : (o n : WorkerHandle A K) → RunsOrBreaks gives system (pass_view o.registrar.pass) n
        → OnlyRunsToLast gives (origin_of system.gates) system.throughput (pass_view o.registrar.pass) (pass_view n.registrar.pass)
    any-to-last o n (inl runs) = inl runs
    any-to-last o n (inr (error, broken)) = work-to-last (pass_view o.registrar.pass) n error broken

    pub all-to-last : (old new : List (WorkerHandle A K)) → AllZip (λ o n. RunsOrBreaks gives system (pass_view o.registrar.pass) n) old new
        → AllToLast gives (origin_of system.gates) system.throughput old new
    all-to-last old new all =
        zip-weaker (λ (o n : WorkerHandle A K). RunsOrBreaks gives system (pass_view o.registrar.pass) n)
        (λ (o n : WorkerHandle A K). OnlyRunsToLast gives (origin_of system.gates) system.throughput (pass_view o.registrar.pass) (pass_view n.registrar.pass))
        any-to-last old new all

    pub first-to-last : (old new : List (WorkerHandle A K)) (error : RunError) → BreaksFirst gives system old new error
        → AllToLast gives (origin_of system.gates) system.throughput old new
    first-to-last old new error broke =
        subst (λ (p : List (WorkerHandle A K) × List (WorkerHandle A K)). AllToLast gives (origin_of system.gates) system.throughput p.0 p.1)
        (λ i. (sym broke.were i, sym broke.are i)) (
          quiet-to-last (pass_view broke.first.registrar.pass) broke.first' error broke.breaks,
          none-ran gives (origin_of system.gates) system.throughput broke.others,
        )

  -- What the handles of a system of the plan did since it was new.
  pub record HaveRun (gives : ℕ → Moment → Reply → Type 0) (plan : Plan) (built : Built A K) : Type 0 where
    pub began : List View
    pub began_new : AreNewViews began
    pub many : length built.handles.items ≡ plan.workers
    pub runs : AllZip (OnlyRunsToLast gives (origin_of built.system.gates) plan.throughput) began (map knew built.handles.items)

  pub have-run : (gives : ℕ → Moment → Reply → Type 0) (plan : Plan) (first now : Built A K) → IsBegun gives plan first → now.system ≡ first.system
      → AllToLast gives (origin_of first.system.gates) plan.throughput first.handles.items now.handles.items → HaveRun gives plan now
  have-run gives plan first now begun same runs = record {
    began = map knew first.handles.items;
    began_new = subst (λ (l : List (WorkerHandle A K)). AreNewViews (map knew l)) (sym begun.handles_are)
        (begun.created, all-blank first.system.gates 1 begun.others begun.others_are);
    many = (let long = AllZip-long _ first.handles.items now.handles.items runs in let all = begun.same_count in omega (arith, long, all));
    runs = subst (λ (s : System A K). AllZip (OnlyRunsToLast gives (origin_of s.gates) plan.throughput) (map knew first.handles.items) (map knew now.handles.items))
        (sym same) (zip-mapped (OnlyRunsToLast gives (origin_of first.system.gates) plan.throughput) knew first.handles.items now.handles.items runs);
  }

  -- by the throughput of the system
  pub have-run-by : (gives : ℕ → Moment → Reply → Type 0) (plan : Plan) (first now : Built A K) → IsBegun gives plan first → now.system ≡ first.system
      → AllToLast gives (origin_of first.system.gates) first.system.throughput first.handles.items now.handles.items → HaveRun gives plan now
  have-run-by gives plan first now begun same runs =
      have-run gives plan first now begun same
      (subst (λ n. AllToLast gives (origin_of first.system.gates) n first.handles.items now.handles.items) begun.numbers.2 runs)
