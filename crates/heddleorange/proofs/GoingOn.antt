-- A system that has run has run still, once its first handle read more or ran more.
use Rattle.std.proofs.Common.{◌≡◌, inl, inr, ℕ, ◌+◌, ◌<◌, ◌==◌, Bool, true, false, List, [], ◌∷◌, length, map, refl, sym, ap, ◌∙◌, subst, arith}
use Rattle.std.specs.Prelude.{◌≢◌, All, if◌then◌else◌}
use Rattle.std.specs.List.{AllZip}
use Rattle.mb_actor.specs.Behaviour.{Moment, Reply}
use Rattle.mb_gate.specs.Accessors.{actors_of, pass_view}
use Rattle.mb_gate.specs.Rule.{IsPart}
use Rattle.mb_gate.specs.Untouched.{origin_of}
use Rattle.mb_ghost.specs.Seen.{Each}
use Rattle.mb_register.specs.Views.{IsLook}
use Rattle.mb_gate.specs.View.{Counted, Looked, Observation, Read, View, counting, looking, reading, seeing, with_obligation, obligation_to}
use Rattle.mb_msg.specs.declared.id.ActorId.{ActorId}
use Rattle.mb_msg.specs.declared.order.Order.{Order}
use Rattle.mb_msg.specs.declared.plan.Plan.{Plan}
use Rattle.mb_shutdown.specs.Belonging.{AreThere, HasRead, OnlyFirstHandleRead}
use Rattle.mb_shutdown.specs.Idle.{WasReadBusy, WasReadIdle, WereReadIdle, none_read, one_more}
use Rattle.mb_shutdown.specs.Refused.{FindsBusy, FindsIdle, IsComplete, IsRefusal}
use Rattle.mb_shutdown.specs.Rooms.{HasOnlyCounted}
use Rattle.mb_shutdown.specs.declared.ending.FinishError.{FinishError}
use Rattle.mb_shutdown.specs.declared.ending.FinishError.TheVariants as Found
use Rattle.mb_shutdown.proofs.ComingBack.{back-complete, back-together, some-handle}
use Rattle.mb_system.specs.Belonging.{BelongsTogether, senders_numbers}
use Rattle.mb_system.specs.Members.{AreHandlesOf, IsSenderOf, OutsideSender, StillSee, handle_numbers}
use Rattle.mb_system.specs.OnlyLooks.{OnlyLooks}
use Rattle.mb_system.specs.declared.built.Built.{Built}
use Rattle.mb_system.specs.declared.handle.WorkerHandle.{WorkerHandle}
use Rattle.mb_system.specs.declared.failure.RunError.{RunError}
use Rattle.mb_system.specs.declared.failure.RunError.TheVariants as Fault
use Rattle.mb_system.specs.declared.system.System.{System}
use Rattle.mb_system.proofs.Looking.{only-none, only-then}
use Rattle.mb_system.proofs.Saw.{saw-more, saw-same, saw-then}
use Rattle.mb_dispatch.specs.Runs.{OnlyRuns}
use Rattle.mb_dispatch.proofs.Runs.{no-run, of-looks, runs-then}
use Rattle.mb_dispatch.proofs.Together.{again, by_of}
use Rattle.heddleorange.specs.HasRun.{HasRun, HasRunWithin}
use Rattle.heddleorange.specs.NoReport.{IsErrorOfRun, IsRight}
use Rattle.heddleorange.specs.Remains.{HasOwnHandles, IsBrokenOff, SawFull}
use Rattle.heddleorange.specs.Sent.{HaveSent}
use Rattle.heddleorange.specs.Workers.{AllOnlyRuns}
use Rattle.heddleorange.specs.declared.failed_run.FailedRun.{FailedRun}
use Rattle.heddleorange.proofs.AnyBreak.{BreaksOff, BreaksOneHandle}
use Rattle.heddleorange.proofs.Breaking.{full-seen, may-break, somebody}
use Rattle.heddleorange.proofs.LastRun.{AllToLast, all-runs-on, have-run}

-- ---- a reading is a look

read-looks : (id word : ℕ) (v : View) → OnlyLooks v (reading id word v)
read-looks id word v = record {
  looks = Read id word ∷ [];
  only = ((id, refl, refl), tt);
  log = refl;
  sent_system = refl;
  others = λ other out. let e : true ≡ false = out in absurd (cc);
  share = refl;
  gives_back = record { more = []; unchanged = tt; releases = refl };
}

looked-looks : (id : ℕ) (has_work : Bool) (v : View) → OnlyLooks v (looking id has_work v)
looked-looks id true v = record {
  looks = Looked id true ∷ [];
  only = ((id, refl, refl), tt);
  log = refl;
  sent_system = refl;
  others = λ other out. let e : true ≡ false = out in absurd (cc);
  share = refl;
  gives_back = record { more = []; unchanged = tt; releases = refl };
}
looked-looks id false v = record {
  looks = Looked id false ∷ [];
  only = ((id, refl, refl), tt);
  log = refl;
  sent_system = refl;
  others = λ other out. let e : true ≡ false = out in absurd (cc);
  share = refl;
  gives_back = record { more = []; unchanged = tt; releases = refl };
}

counted-looks : (id waiting : ℕ) (v : View) → OnlyLooks v (counting id waiting v)
counted-looks id waiting v = by_test (waiting == 0)
  where
    by_test : (b : Bool)
        → OnlyLooks v (if b then with_obligation id (record (obligation_to id v) { message = false }) (seeing (Counted id waiting) v) else seeing (Counted id waiting) v)
    by_test true = record {
      looks = Counted id waiting ∷ [];
      only = ((id, refl, refl), tt);
      log = refl;
      sent_system = refl;
      others = λ other out. let e : true ≡ false = out in absurd (cc);
      share = refl;
      gives_back = record { more = []; unchanged = tt; releases = refl };
    }
    by_test false = record {
      looks = Counted id waiting ∷ [];
      only = ((id, refl, refl), tt);
      log = refl;
      sent_system = refl;
      others = λ other out. let e : true ≡ false = out in absurd (cc);
      share = refl;
      gives_back = record { more = []; unchanged = tt; releases = refl };
    }

-- its status was read, and whether it has system work
two-looks : (id word : ℕ) (has_work : Bool) (v : View) → OnlyLooks v (looking id has_work (reading id word v))
two-looks id word has_work v =
    only-then v (reading id word v) (looking id has_work (reading id word v)) (read-looks id word v) (looked-looks id has_work (reading id word v))

-- and how many envelopes wait
three-looks : (id word waiting : ℕ) (v : View) → OnlyLooks v (counting id waiting (looking id false (reading id word v)))
three-looks id word waiting v =
    let looked = looking id false (reading id word v) in
    only-then v looked (counting id waiting looked) (two-looks id word false v) (counted-looks id waiting looked)

idle-looks : (id : ℕ) (before after : View) → WasReadIdle id before after → OnlyLooks before after
idle-looks id before after (status, inl closed) = subst (OnlyLooks before) (sym closed.1) (read-looks id _ before)
idle-looks id before after (status, inr (inl suspended)) = subst (OnlyLooks before) (sym suspended.3) (two-looks id _ false before)
idle-looks id before after (status, inr (inr idle)) = subst (OnlyLooks before) (sym idle.2) (three-looks id _ 0 before)

all-idle-looks : (id count : ℕ) (before after : View) → WereReadIdle id count before after → OnlyLooks before after
all-idle-looks _ _ _ _ (none_read id view) = only-none view
all-idle-looks _ _ _ _ (one_more id count before between after those this) =
    only-then before between after (all-idle-looks id count before between those) (idle-looks (id + count) between after this)

busy-looks : (id : ℕ) (before after : View) → WasReadBusy id before after → OnlyLooks before after
busy-looks id before after (status, open_yet, inl scheduled) =
    subst (OnlyLooks before) (sym scheduled.1) (read-looks id _ before)
busy-looks id before after (status, open_yet, inr (inl work)) =
    subst (OnlyLooks before) (sym work.1) (two-looks id _ true before)
busy-looks id before after (status, open_yet, inr (inr waits)) =
    subst (OnlyLooks before) (sym waits.4) (three-looks id _ waits.2 before)

pub found-looks : (id : ℕ) (before after : View) → FindsBusy id before after → OnlyLooks before after
found-looks id before after found =
    only-then before found.0 after (all-idle-looks 0 id before found.0 found.1) (busy-looks id found.0 after found.2)

-- only counts were read
are-looks : (counts : List (ℕ × ℕ))
    → Each (λ (s : Observation). (id : ℕ) × (true ≡ true) × IsLook id s) (map (λ (c : ℕ × ℕ). Counted c.0 c.1) counts)
are-looks [] = tt
are-looks (c ∷ counts) = ((c.0, refl, refl), are-looks counts)

only-counted-looks : (before after : View) → HasOnlyCounted before after → OnlyLooks before after
only-counted-looks before after counted = record {
  looks = map (λ (c : ℕ × ℕ). Counted c.0 c.1) counted.counts;
  only = are-looks counted.counts;
  log = counted.log_is;
  sent_system = ap (λ (v : View). v.sent_system) counted.same;
  others = λ other out. let e : true ≡ false = out in absurd (cc);
  share = ap (λ (v : View). v.share) counted.same;
  gives_back = record { more = []; unchanged = tt; releases = ap (λ (v : View). v.releases) counted.same };
}

pub idle-found-looks : (many : ℕ) (before after : View) → FindsIdle many before after → OnlyLooks before after
idle-found-looks many before after found =
    only-then before found.0 after (all-idle-looks 0 many before found.0 found.1) (only-counted-looks found.0 after found.2)

-- ---- what holds of each as it is, and of each twice

zip-same : {X : Type 0} (R : X → X → Type 0) → ((x : X) → R x x) → (xs : List X) → AllZip R xs xs
zip-same R same [] = tt
zip-same R same (x ∷ xs) = (same x, zip-same R same xs)

zip-on : {X : Type 0} (R : X → X → Type 0) → ((x y z : X) → R x y → R y z → R x z) → (xs ys zs : List X) → AllZip R xs ys → AllZip R ys zs
    → AllZip R xs zs
zip-on R on [] [] zs p q = q
zip-on R on [] (y ∷ ys) zs p q = absurd p
zip-on R on (x ∷ xs) [] zs p q = absurd p
zip-on R on (x ∷ xs) (y ∷ ys) [] p q = absurd q
zip-on R on (x ∷ xs) (y ∷ ys) (z ∷ zs) p q = (on x y z p.0 q.0, zip-on R on xs ys zs p.1 q.1)

module _ {A K : Type 0} where
  abbrev view : WorkerHandle A K → View
  view e = pass_view e.registrar.pass

  pub see-then : (old between new : List (WorkerHandle A K)) → StillSee old between → StillSee between new → StillSee old new
  see-then = zip-on (λ (o n : WorkerHandle A K). IsPart (view o).log (view n).log) (λ x y z p q. saw-then (view x).log (view y).log (view z).log p q)

  module _ (gives : ℕ → Moment → Reply → Type 0) (plan : Plan) (orders : List (List Order)) (old new : Built A K) (same : new.system ≡ old.system)
      (numbers : handle_numbers new.handles.items ≡ handle_numbers old.handles.items) (senders : new.senders.items ≡ old.senders.items)
      (saw : StillSee old.handles.items new.handles.items)
      (runs : AllOnlyRuns gives (origin_of old.system.gates) old.system.throughput old.handles.items new.handles.items) where
    -- its handles ran more
    pub run-on : HasRun gives plan orders old → HasRun gives plan orders new
    run-on ran =
        let origin = origin_of ran.first.system.gates in
        let of_system = subst (λ (s : System A K). AllOnlyRuns gives (origin_of s.gates) s.throughput old.handles.items new.handles.items) ran.system runs in
        let more = subst (λ n. AllOnlyRuns gives origin n old.handles.items new.handles.items) ran.begun.numbers.2 of_system in record {
          first = ran.first;
          begun = ran.begun;
          system = same ∙ ran.system;
          handles = numbers ∙ ran.handles;
          sent = subst (HaveSent ran.first.system.gates orders ran.first.senders.items) (sym senders) ran.sent;
          log_kept = see-then ran.first.handles.items old.handles.items new.handles.items ran.log_kept saw;
          runs = zip-on (λ (o n : WorkerHandle A K). OnlyRuns gives origin plan.throughput (view o) (view n))
              (λ x y z p q. runs-then gives origin plan.throughput (view x) (view y) (view z) p q) ran.first.handles.items old.handles.items new.handles.items
              ran.runs more;
        }

  -- all are there still, and belong together
  module _ (old new : Built A K) (same : new.system ≡ old.system) (numbers : handle_numbers new.handles.items ≡ handle_numbers old.handles.items)
      (senders : new.senders.items ≡ old.senders.items) where
    pub complete-on : IsComplete old → IsComplete new
    complete-on complete = (
      subst (λ (p : System A K × List ℕ). AreThere p.0.workers p.1) (λ i. (sym same i, sym numbers i)) complete.0,
      subst (λ (p : System A K × List OutsideSender). AreThere p.0.senders (senders_numbers p.1)) (λ i. (sym same i, sym senders i)) complete.1,
    )

    pub together-on : AreHandlesOf old.system.gates new.handles.items → BelongsTogether old → BelongsTogether new
    together-on handles was =
        again old new same handles (subst (All (λ (s : OutsideSender). IsSenderOf old.system.gates s)) (sym senders) was.senders) (ap (map by_of) senders) was

  -- ---- the first handle read more

  module _ (old new : Built A K) (before after : View) (read : OnlyFirstHandleRead old new before after) (looks : OnlyLooks before after) where
    read-numbers : handle_numbers new.handles.items ≡ handle_numbers old.handles.items
    read-numbers = ap handle_numbers read.is ∙ ap (λ n. n ∷ handle_numbers read.rest) read.others.0 ∙ sym (ap handle_numbers read.was)

    -- what is so of what the first knew and knows, and of each as it is, is so of all handles
    read-each : (R : View → View → Type 0) → R before after → ((v : View) → R v v)
        → AllZip (λ (o n : WorkerHandle A K). R (view o) (view n)) old.handles.items new.handles.items
    read-each R one each =
        let first = subst (λ (p : View × View). R p.0 p.1) (λ i. (sym read.knew i, sym read.knows i)) one in
        let both : AllZip (λ (o n : WorkerHandle A K). R (view o) (view n)) (read.first ∷ read.rest) (read.first' ∷ read.rest) =
        (first, zip-same (λ (o n : WorkerHandle A K). R (view o) (view n)) (λ e. each (view e)) read.rest) in
        subst (λ (p : List (WorkerHandle A K) × List (WorkerHandle A K)). AllZip (λ (o n : WorkerHandle A K). R (view o) (view n)) p.0 p.1)
        (λ i. (sym read.was i, sym read.is i)) both

    read-sees : StillSee old.handles.items new.handles.items
    read-sees =
        read-each (λ u v. IsPart u.log v.log) (saw-more looks.looks before.log after.log looks.log) (λ v. saw-same v.log)

    pub read-runs : (gives : ℕ → Moment → Reply → Type 0)
        → AllOnlyRuns gives (origin_of old.system.gates) old.system.throughput old.handles.items new.handles.items
    read-runs gives =
        read-each (OnlyRuns gives (origin_of old.system.gates) old.system.throughput)
        (of-looks gives (origin_of old.system.gates) old.system.throughput before after looks)
        (no-run gives (origin_of old.system.gates) old.system.throughput)

  -- it was found that an actor has something to run
  module _ (id : ℕ) (old new : Built A K) (busy : HasRead (FindsBusy id) old new) where
    looks-of : OnlyLooks busy.0 busy.1
    looks-of = found-looks id busy.0 busy.1 busy.3

    pub read-on : (gives : ℕ → Moment → Reply → Type 0) (plan : Plan) (orders : List (List Order)) → HasRun gives plan orders old
        → HasRun gives plan orders new
    read-on gives plan orders =
        run-on gives plan orders old new busy.2.system (read-numbers old new busy.0 busy.1 busy.2 looks-of) busy.2.senders
        (read-sees old new busy.0 busy.1 busy.2 looks-of) (read-runs old new busy.0 busy.1 busy.2 looks-of gives)

    pub together-read : BelongsTogether old → BelongsTogether new
    together-read = back-together old new busy.0 busy.1 busy.2

    pub complete-read : IsComplete old → IsComplete new
    complete-read = back-complete old new busy.0 busy.1 busy.2

  -- what came back was found to have something to run
  pub busy-of : (built left : Built A K) (error : FinishError A K) (id : ActorId) → error ≡ Found.NotQuiet id left → IsRefusal built error
      → HasRead (FindsBusy id.0) built left
  busy-of built left error id is refused = let found = subst (IsRefusal built) is refused in found.2

  -- a system of which nothing is missing has a handle
  pub own-some : (built : Built A K) → BelongsTogether built → IsComplete built → HasOwnHandles built
  own-some built together complete =
      (together.handles, some-handle built.handles.items built.system.workers built.system.not_empty complete.0)

  pub not-empty : (handles : List (WorkerHandle A K)) → 0 < length handles → handles ≢ []
  not-empty [] some is = absurd (omega (arith, some))
  not-empty (e ∷ handles) some is = cc

-- ---- its first handle read that an actor has something to run, and then ran what there is

module _ {A K : Type 0} (gives : ℕ → Moment → Reply → Type 0) (id : ℕ) (old left new : Built A K) (busy : HasRead (FindsBusy id) old left)
    (same : new.system ≡ left.system) where
  module _ (numbers : handle_numbers new.handles.items ≡ handle_numbers left.handles.items) (senders : new.senders.items ≡ left.senders.items)
      (saw : StillSee left.handles.items new.handles.items)
      (runs : AllOnlyRuns gives (origin_of left.system.gates) left.system.throughput left.handles.items new.handles.items) where
    pub gone-on : (plan : Plan) (orders : List (List Order)) → HasRun gives plan orders old → HasRun gives plan orders new
    gone-on plan orders ran = run-on gives plan orders left new same numbers senders saw runs (read-on id old left busy gives plan orders ran)

    pub within-gone : (limit : ℕ) → HasRunWithin gives limit old → HasRunWithin gives limit new
    within-gone limit was = record {
      plan = was.plan;
      actors = was.actors;
      orders = was.orders;
      right = was.right;
      limit_is = was.limit_is;
      ran = gone-on was.plan was.orders was.ran;
    }

  -- or was broken off
  module _ (error : RunError) (broken : BreaksOneHandle gives left.system new.handles.items error) where
    module _ (plan : Plan) (orders : List (List Order)) (ran : HasRun gives plan orders old) where
      of_first : new.system ≡ ran.first.system
      of_first = same ∙ busy.2.system ∙ ran.system

      breaks-first : BreaksOff gives ran.first.system new.handles.items orders error
      breaks-first =
          inr (subst (λ (s : System A K). BreaksOneHandle gives s new.handles.items error) (busy.2.system ∙ ran.system) broken)

      pub told-broken : AllToLast gives (origin_of left.system.gates) left.system.throughput left.handles.items new.handles.items → (actors : ℕ)
          → IsRight plan actors orders → (failed : FailedRun A) → IsBrokenOff gives new error plan.journal_limit failed
          → IsErrorOfRun gives plan actors orders failed
      told-broken runs actors right failed left_is =
          let read = read-on id old left busy gives plan orders ran in
          let was = left.handles.items in let is = new.handles.items in let origin = origin_of read.first.system.gates in
          let of_system = subst (λ (s : System A K). AllToLast gives (origin_of s.gates) s.throughput was is) read.system runs in
          let of_plan = subst (λ n. AllToLast gives origin n was is) read.begun.numbers.2 of_system in
          let all = all-runs-on gives origin plan.throughput read.first.handles.items was is read.runs of_plan in
          may-break gives plan ran.first new ran.begun of_first actors orders right
          (have-run gives plan read.first new read.begun (same ∙ read.system) all) error failed breaks-first left_is

    module _ (limit : ℕ) (was : HasRunWithin gives limit old) where
      pub somebody-broke : error ≢ Fault.NoSuchActor
      somebody-broke =
          somebody gives was.plan was.ran.first new was.ran.begun (of_first was.plan was.orders was.ran) was.actors was.orders was.right error
          (breaks-first was.plan was.orders was.ran)

      pub full-broke : error ≡ Fault.JournalFull → SawFull (actors_of new.system.gates) limit new.handles.items
      full-broke is =
          subst (λ n. SawFull (actors_of new.system.gates) n new.handles.items) was.limit_is
          (full-seen gives was.plan was.ran.first new was.ran.begun (of_first was.plan was.orders was.ran) was.actors was.orders was.right error
          (breaks-first was.plan was.orders was.ran) is)
