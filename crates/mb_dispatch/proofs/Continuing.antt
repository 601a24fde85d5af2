-- What the handles of a run keep and did, as they go on working.
use Rattle.std.proofs.Common.{◌≡◌, ◌<◌, ◌≤◌, false, ℕ, List, [], ◌∷◌, get_or, length, set, refl, ◌∙◌, arith, inl, inr}
use Rattle.std.specs.Prelude.{All, Err, IfErr, Ok, OnOk, Result}
use Rattle.std.specs.List.{AllZip}
use Rattle.std.proofs.lemmas.List.Elements.{All-head, All-tail}
use Rattle.std.proofs.lemmas.Result.{on_ok_weaker}
use Rattle.mb_actor.specs.Behaviour.{Moment, Reply}
use Rattle.mb_gate.specs.Accessors.{actors_of, pass_view}
use Rattle.mb_gate.specs.Untouched.{origin_of}
use Rattle.mb_gate.specs.View.{View}
use Rattle.mb_register.specs.ActorSet.{has_actor}
use Rattle.mb_system.specs.Members.{AreHandlesOf, IsHandleOf, OweNobody, handle_caller}
use Rattle.mb_system.specs.declared.handle.WorkerHandle.{WorkerHandle}
use Rattle.mb_system.specs.declared.failure.RunError.{RunError}
use Rattle.mb_system.specs.declared.system.System.{System}
use Rattle.mb_system.specs.Obligations.{FirstDischargedOrOwed, FirstHasNoObligation}
use Rattle.mb_system.proofs.Obligations.{obligations-same, obligations-then}
use Rattle.mb_system.proofs.Saw.{saw-same, saw-then}
use Rattle.mb_dispatch.specs.Faults.{BreaksRun, BreaksWork, HasWorked, OnlyRunsBySystem, RunsOrBreaks}
use Rattle.mb_dispatch.specs.Found.{AllFoundPoolEmpty, FoundPoolEmpty}
use Rattle.mb_dispatch.specs.Parallel.{FirstZip, HaveEnded}
use Rattle.mb_dispatch.specs.Working.{KeepsHandle}
use Rattle.mb_dispatch.specs.declared.job.Job.{Job}
use Rattle.mb_dispatch.proofs.Breaking.{breaks-after}
use Rattle.mb_dispatch.proofs.Claims.{claims-none, claims-then}
use Rattle.mb_dispatch.proofs.Firsts.{first-settled}
use Rattle.mb_dispatch.proofs.Runs.{no-run, runs-then}
use Rattle.mb_dispatch.proofs.Sides.{all_after, first_then, zip_then, zip_weaker}

-- what holds of each before and after it, twice
zip-both : {T : Type 0} (P Q : T → T → Type 0) (xs ys : List T) → AllZip P xs ys → AllZip Q xs ys → AllZip (λ x y. P x y × Q x y) xs ys
zip-both P Q [] [] p q = tt
zip-both P Q [] (y ∷ ys) p q = absurd p
zip-both P Q (x ∷ xs) [] p q = absurd p
zip-both P Q (x ∷ xs) (y ∷ ys) p q = ((p.0, q.0), zip-both P Q xs ys p.1 q.1)

-- of a result
pub err-weaker : {E : Type 0} (P Q : E → Type 0) (r : Result (Unit {0}) E) → ((e : E) → P e → Q e) → IfErr r P → IfErr r Q
err-weaker P Q (Ok u) f p = tt
err-weaker P Q (Err e) f p = f e p

-- what holds of each as it is
zip-each : {T : Type 0} (A B : T → Type 0) (R : T → T → Type 0) → ((x : T) → A x → B x → R x x) → (xs : List T) → All A xs → All B xs → AllZip R xs xs
zip-each A B R f [] a b = tt
zip-each A B R f (x ∷ xs) a b = (f x (All-head A x xs a) (All-head B x xs b), zip-each A B R f xs (All-tail A x xs a) (All-tail B x xs b))

module _ {A K : Type 0} (gives : ℕ → Moment → Reply → Type 0) (system : System A K) where
  -- what it knows
  abbrev view : WorkerHandle A K → View
  view e = pass_view e.registrar.pass

  abbrev Worked : WorkerHandle A K → WorkerHandle A K → Type 0
  Worked x y = HasWorked gives system (view x) y

  abbrev Broke : WorkerHandle A K → WorkerHandle A K → RunError → Type 0
  Broke x y = BreaksWork gives system (view x) y

  -- a handle that did nothing
  pub nothing-ran : (x : WorkerHandle A K) → OnlyRunsBySystem gives system (view x) (view x)
  nothing-ran x = no-run gives (origin_of system.gates) system.throughput (view x)

  pub keeps-none : (x : WorkerHandle A K) → IsHandleOf system.gates x.registrar → KeepsHandle gives system x x
  keeps-none x ours = record {
    of_system = ours;
    number = refl;
    log_kept = saw-same (view x).log;
    obligations = obligations-same (actors_of system.gates) (handle_caller x.registrar) (handle_caller x.registrar) refl refl;
    runs = inl (nothing-ran x);
    claims = claims-none x;
  }

  abbrev Ran : WorkerHandle A K → WorkerHandle A K → Type 0
  Ran x y = OnlyRunsBySystem gives system (view x) (view y)

  -- it only made runs before
  module _ (x y z : WorkerHandle A K) (first : Ran x y) where
    pub ran-then : RunsOrBreaks gives system (view y) z → RunsOrBreaks gives system (view x) z
    ran-then (inl runs) = inl (runs-then gives (origin_of system.gates) system.throughput (view x) (view y) (view z) first runs)
    ran-then (inr (error, broken)) = inr (error, breaks-after gives system (view x) (view y) z error first broken)

    pub worked-after : Worked y z → Worked x z
    worked-after more = (more.0, more.1, runs-then gives (origin_of system.gates) system.throughput (view x) (view y) (view z) first more.2)

    pub broke-after : (error : RunError) → Broke y z error → Broke x z error
    broke-after error broken = breaks-after gives system (view x) (view y) z error first broken

    pub keeps-then : KeepsHandle gives system x y → KeepsHandle gives system y z → KeepsHandle gives system x z
    keeps-then p q = record {
      of_system = q.of_system;
      number = q.number ∙ p.number;
      log_kept = saw-then _ _ _ p.log_kept q.log_kept;
      obligations = obligations-then (actors_of system.gates) (handle_caller x.registrar) (handle_caller y.registrar) (handle_caller z.registrar)
          p.obligations q.obligations;
      runs = ran-then q.runs;
      claims = claims-then [] x y z p.claims q.claims;
    }

  -- ---- all handles of a run

  abbrev Keep : List (WorkerHandle A K) → List (WorkerHandle A K) → Type 0
  Keep = AllZip (KeepsHandle gives system)

  abbrev HaveWorked : List (WorkerHandle A K) → List (WorkerHandle A K) → Type 0
  HaveWorked = AllZip Worked

  abbrev Ended : List (WorkerHandle A K) → List (WorkerHandle A K) → Result (Unit {0}) RunError → Type 0
  Ended = HaveEnded (KeepsHandle gives system) Worked Broke

  -- they owe nobody a look and found the pool empty
  abbrev Nobody : WorkerHandle A K → Type 0
  Nobody x = (id : ℕ) → id < actors_of system.gates → has_actor x.registrar.owed id ≡ false

  abbrev Empty : WorkerHandle A K → Type 0
  Empty = FoundPoolEmpty gives

  abbrev AreDone : List (WorkerHandle A K) → Type 0
  AreDone handles = OweNobody system.gates handles × AllFoundPoolEmpty gives handles

  pub keep-none : (xs : List (WorkerHandle A K)) → AreHandlesOf system.gates xs → Keep xs xs
  keep-none xs ours =
      let Ours : WorkerHandle A K → Type 0 = λ x. IsHandleOf system.gates x.registrar in
      zip-each Ours Ours (KeepsHandle gives system) (λ x mine same. keeps-none x mine) xs ours ours

  pub worked-none : (xs : List (WorkerHandle A K)) → AreDone xs → HaveWorked xs xs
  worked-none xs done = zip-each Nobody Empty Worked (λ x nobody empty. (nobody, empty, nothing-ran x)) xs done.0 done.1

  pub done-after : (xs ys : List (WorkerHandle A K)) → HaveWorked xs ys → AreDone ys
  done-after xs ys worked = (all_after Worked Nobody (λ x y w. w.0) xs ys worked, all_after Worked Empty (λ x y w. w.1) xs ys worked)

  pub ours-after : (xs ys : List (WorkerHandle A K)) → Keep xs ys → AreHandlesOf system.gates ys
  ours-after xs ys kept = all_after (KeepsHandle gives system) (λ x. IsHandleOf system.gates x.registrar) (λ x y k. k.of_system) xs ys kept

  -- the first of them worked
  pub first-ended : (xs : List (WorkerHandle A K)) (other new : WorkerHandle A K) (r : Result (Unit {0}) RunError) → 1 ≤ length xs
      → AreHandlesOf system.gates xs → AreDone xs → KeepsHandle gives system (get_or xs 0 other) new → OnOk r (Worked (get_or xs 0 other) new)
      → IfErr r (Broke (get_or xs 0 other) new) → Ended xs (set xs 0 new) r
  first-ended [] other new r some ours done kept worked broke = absurd (omega (arith, some))
  first-ended (x ∷ xs) other new r some ours done kept worked broke =
      let mine : AreHandlesOf system.gates xs = All-tail (λ (e : WorkerHandle A K). IsHandleOf system.gates e.registrar) x xs ours in
      let rest : AreDone xs = (All-tail Nobody x xs done.0, All-tail Empty x xs done.1) in record {
        keeps = (kept, keep-none xs mine);
        done = on_ok_weaker r (λ w. (w, worked-none xs rest)) worked;
        fails = err-weaker (Broke x new) (λ e. FirstZip Worked (λ o n. Broke o n e) (x ∷ xs) (new ∷ xs)) r (λ e b. inl b) broke;
      }

  -- they only made runs before
  module _ (xs ys zs : List (WorkerHandle A K)) (ran : AllZip Ran xs ys) where
    pub keep-then : Keep xs ys → Keep ys zs → Keep xs zs
    keep-then p q =
        zip_then (λ x y. Ran x y × KeepsHandle gives system x y) (KeepsHandle gives system) (KeepsHandle gives system)
        (λ x y z first then. keeps-then x y z first.0 first.1 then) xs ys zs (zip-both Ran (KeepsHandle gives system) xs ys ran p) q

    pub worked-then : HaveWorked ys zs → HaveWorked xs zs
    worked-then more = zip_then Ran Worked Worked worked-after xs ys zs ran more

    fails-then : (r : Result (Unit {0}) RunError) → IfErr r (λ e. FirstZip Worked (λ x y. Broke x y e) ys zs)
        → IfErr r (λ e. FirstZip Worked (λ x y. Broke x y e) xs zs)
    fails-then r failed =
        err-weaker (λ e. FirstZip Worked (λ x y. Broke x y e) ys zs) (λ e. FirstZip Worked (λ x y. Broke x y e) xs zs) r
        (λ e f. first_then Ran Worked (λ x y. Broke x y e) worked-after (λ x y z first broken. broke-after x y z first e broken) xs ys zs ran f)
        failed

    pub ended-then : (r : Result (Unit {0}) RunError) → Keep xs ys → Ended ys zs r → Ended xs zs r
    ended-then r kept ended = record {
      keeps = keep-then kept ended.keeps;
      done = on_ok_weaker r worked-then ended.done;
      fails = fails-then r ended.fails;
    }

    -- a run that is broken off afterwards is broken off by one of its handles
    pub run-fails : (r : Result (Unit {0}) RunError) → Ended ys zs r → IfErr r (λ e. FirstZip Worked (λ x y. Broke x y e) xs zs)
    run-fails r ended = fails-then r ended.fails

    pub run-breaks : (before after : List (Job A K)) (r : Result (Unit {0}) RunError) → Ended ys zs r
        → IfErr r (BreaksRun gives system xs zs before after)
    run-breaks before after r ended =
        err-weaker (λ e. FirstZip Worked (λ x y. Broke x y e) xs zs) (BreaksRun gives system xs zs before after) r (λ e f. inl f) (run-fails r ended)

  pub ran-of : (xs ys : List (WorkerHandle A K)) → HaveWorked xs ys → AllZip Ran xs ys
  ran-of xs ys worked = zip_weaker Worked Ran (λ x y w. w.2) xs ys worked

  -- the first owed nobody anything, and does not after it worked to its end
  discharged-first : (xs : List (WorkerHandle A K)) → FirstHasNoObligation system.gates xs → FirstDischargedOrOwed system.gates xs
  discharged-first [] none = tt
  discharged-first (x ∷ xs) none = λ id lt. inl (none id lt)

  pub first-still : (xs ys : List (WorkerHandle A K)) → FirstHasNoObligation system.gates xs → Keep xs ys → OweNobody system.gates ys
      → FirstHasNoObligation system.gates ys
  first-still xs ys none kept nobody =
      first-settled system.gates (KeepsHandle gives system) (λ x y k. k.obligations) xs ys (discharged-first xs none) kept nobody
