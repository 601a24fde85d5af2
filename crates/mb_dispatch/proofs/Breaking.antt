-- For which reasons sending, work and a whole run are broken off.
use Rattle.std.proofs.Common.{◌≡◌, ◌≤◌, ℕ, List, [], ◌∷◌, ◌<◌, length, refl, subst, sym, ap, ◌∙◌, arith, inl, inr}
use Rattle.std.specs.Prelude.{◌≢◌, ◌⊎◌, ⊤, Contains, Err, IfErr, IsErrOf, MatchResult, Ok, OnErr, OnOk, Result, Some}
use Rattle.std.specs.Global.{Box}
use Rattle.std.specs.List.{AllZip}
use Rattle.std.proofs.lemmas.List.Elements.{All-cons, All-contains, All-nil, Contains-append_right}
use Rattle.mb_actor.specs.Behaviour.{Moment, Reply}
use Rattle.mb_msg.specs.declared.id.ActorId.{ActorId}
use Rattle.mb_msg.specs.declared.order.Order.{Order}
use Rattle.mb_msg.specs.declared.order.OrderKind.{OrderKind}
use Rattle.mb_journal.specs.Entry.{Entry}
use Rattle.mb_journal.specs.Run.{Stopped}
use Rattle.mb_journal.specs.Run.Stopped.{NoRoom}
use Rattle.mb_journal.specs.declared.error.ReadyError.{ReadyError}
use Rattle.mb_journal.specs.declared.error.ReadyError.TheVariants as Ready
use Rattle.mb_gate.specs.Accessors.{held_actor, pass_view}
use Rattle.mb_gate.specs.Untouched.{origin_of}
use Rattle.mb_gate.specs.View.{View}
use Rattle.mb_gate.specs.declared.claim.Claim.{Claim}
use Rattle.mb_gate.specs.declared.gates.Gates.{Gates}
use Rattle.mb_home.specs.Contents.{Contents}
use Rattle.mb_send.specs.declared.send_error.SendError.{SendError}
use Rattle.mb_send.specs.declared.send_error.SendError.TheVariants as Refusal
use Rattle.mb_home.specs.Fresh.{IsFreshClaim}
use Rattle.mb_mailbox.specs.Ran.{HadRoom, IsShortOfMemory, LeavesRun}
use Rattle.mb_mailbox.specs.declared.turn.Turn.{Turn}
use Rattle.mb_dispatch.specs.Faults.{BreaksJob, BreaksRun, BreaksWork, BreaksSending, HasWorked, IsRefusedFor, IsToNobody, IsToSomebody, OnlyRunsBySystem, RunsOrBreaks, StopsFor}
use Rattle.mb_dispatch.specs.Jobs.{IsDone}
use Rattle.mb_dispatch.specs.Orders.{HasSent, order_for}
use Rattle.mb_dispatch.specs.Parallel.{FirstZip}
use Rattle.mb_register.specs.Registering.{QueueAccount, StopsAt}
use Rattle.mb_system.specs.Members.{OutsideSender, handle_caller, sender_caller}
use Rattle.mb_system.specs.RunErrors.{of_ready, of_send}
use Rattle.mb_system.specs.declared.handle.WorkerHandle.{WorkerHandle}
use Rattle.mb_system.specs.declared.failure.RunError.{RunError}
use Rattle.mb_system.specs.declared.failure.RunError.TheVariants.{JournalFull, NoMemory, NoSuchActor}
use Rattle.mb_dispatch.specs.declared.job.Job.{Job}
use Rattle.mb_system.specs.declared.system.System.{System}
use Rattle.mb_dispatch.proofs.Runs.{no-run, of-looks, runs-then}
use Rattle.mb_dispatch.proofs.Sides.{first_then, zip_then}
use Rattle.mb_system.specs.OnlyLooks.{OnlyLooks}

module _ (gates : Gates (Box Contents)) where
  -- it was refused for its receiver
  pub breaks-one : (to : ActorId) (what : OrderKind) (fault : RunError) → (fault ≡ NoSuchActor → IsToNobody gates to what) → fault ≢ JournalFull
      → BreaksSending gates (order_for to what 1 ∷ []) fault
  breaks-one to what NoMemory unknown sending = tt
  breaks-one to what JournalFull unknown sending = sending refl
  breaks-one to what NoSuchActor unknown sending =
      let some : 0 < 1 = omega arith in (order_for to what 1, (0, omega arith, refl), some, unknown refl)

  -- it is to be sent more than once
  pub breaks-often : (order : Order) (fault : RunError) → 0 < order.times → BreaksSending gates (order_for order.to order.what 1 ∷ []) fault
      → BreaksSending gates (order ∷ []) fault
  breaks-often order NoMemory some breaks = tt
  breaks-often order JournalFull some breaks = breaks
  breaks-often order NoSuchActor some breaks =
      let P : Order → Type 0 = λ o. IsToNobody gates o.to o.what → IsToNobody gates order.to order.what in
      let one = order_for order.to order.what 1 in
      let same = All-contains P (one ∷ []) breaks.0 (All-cons P one [] (λ nobody. nobody) (All-nil P)) breaks.1 in
      (order, (0, omega arith, refl), some, same breaks.3)

  -- and it is one of these
  pub breaks-many : (orders : List Order) (order : Order) (fault : RunError) → Contains orders order → BreaksSending gates (order ∷ []) fault
      → BreaksSending gates orders fault
  breaks-many orders order NoMemory there breaks = tt
  breaks-many orders order JournalFull there breaks = breaks
  breaks-many orders order NoSuchActor there breaks =
      let P : Order → Type 0 = λ o. Contains orders o in
      (breaks.0, All-contains P (order ∷ []) breaks.0 (All-cons P order [] there (All-nil P)) breaks.1, breaks.2, breaks.3)

module _ (gates : Gates (Box Contents)) (orders : List Order) (old new : OutsideSender) where
  -- the pool refused again the claim of an actor to which a look is owed
  pub job-owes : {T : Type 0} (P : T → Type 0) (before : QueueAccount (Box Contents)) (r : Result T RunError)
      → MatchResult r P (λ _. StopsAt before (sender_caller new.registrar).account) → OnErr r (IsErrOf r NoMemory) → HasSent orders old new
      → IfErr r (BreaksJob gates orders old new)
  job-owes P before (Ok x) stops refused sent = tt
  job-owes {T} P before (Err e) stops refused sent =
      subst (λ (q : Result T RunError). IfErr q (BreaksJob gates orders old new)) (sym refused)
      (inr (refl, (sent, held_actor stops.claim, stops.still)))

  -- what breaks a job off also breaks off the sending of its orders
  stops-sending : (fault : RunError) → StopsFor gates orders old new fault → BreaksSending gates orders fault
  stops-sending NoMemory stopped = tt
  stops-sending JournalFull stopped = stopped.1
  stops-sending NoSuchActor stopped =
      let stops = stopped.0 in let fewer = stops.sent.fewer in (
        stops.next,
        subst (λ (l : List Order). Contains l stops.next) (sym stops.are) (Contains-append_right stops.done (stops.next ∷ stops.left) stops.next (0, omega arith, refl)),
        omega (arith, fewer),
        stopped.1,
      )

  pub job-sending : (fault : RunError) → BreaksJob gates orders old new fault → BreaksSending gates orders fault
  job-sending fault (inl stopped) = stops-sending fault stopped
  job-sending fault (inr owes) = subst (BreaksSending gates orders) (sym owes.0) tt

-- which error is one of these
abbrev IsFull : RunError → Type 0
IsFull JournalFull = ⊤
IsFull _ = ⊥

abbrev IsUnknown : RunError → Type 0
IsUnknown NoSuchActor = ⊤
IsUnknown _ = ⊥

-- a run of a mailbox was broken off by a full journal only where its own error says so, and never since there is no such actor
full-of-ready : (error : ReadyError) → of_ready error ≡ JournalFull → error ≡ Ready.JournalFull
full-of-ready Ready.NoMemory is = absurd (subst IsFull (sym is) tt)
full-of-ready Ready.JournalFull is = refl

short-of-ready : (error : ReadyError) → of_ready error ≡ NoMemory → error ≡ Ready.NoMemory
short-of-ready Ready.NoMemory is = refl
short-of-ready Ready.JournalFull is = absurd (subst IsFull is tt)

ready-is-known : (error : ReadyError) → of_ready error ≢ NoSuchActor
ready-is-known Ready.NoMemory is = subst IsUnknown (sym is) tt
ready-is-known Ready.JournalFull is = subst IsUnknown (sym is) tt

-- a sender's error says that there is no such actor only where its own does, and never that a journal is full
pub nobody-of-send : (error : SendError) → of_send error ≡ NoSuchActor → error ≡ Refusal.NoSuchActor
nobody-of-send Refusal.NoMemory is = absurd (subst IsUnknown (sym is) tt)
nobody-of-send Refusal.NoSuchActor is = refl

pub send-is-not-full : (error : SendError) → of_send error ≢ JournalFull
send-is-not-full Refusal.NoMemory is = subst IsFull (sym is) tt
send-is-not-full Refusal.NoSuchActor is = subst IsFull (sym is) tt

-- a tell, or a stop, was refused
IsOfMemory : {T : Type 0} → Result T SendError → Type 0
IsOfMemory (Err Refusal.NoMemory) = ⊤
IsOfMemory _ = ⊥

pub to-nobody : {T : Type 0} (P Q M : Type 0) (result : Result T SendError) → OnErr result (P × ((IsErrOf result Refusal.NoSuchActor × Q) ⊎ M))
    → (M → IsErrOf result Refusal.NoMemory) → result ≡ Err Refusal.NoSuchActor → Q
unfolding IsOfMemory
to-nobody {T} P Q M (Ok x) refused memory e = absurd (subst (λ (r : Result T SendError). OnErr r ⊥) e tt)
to-nobody P Q M (Err error) (p, inl q) memory e = q.1
to-nobody P Q M (Err error) (p, inr m) memory e = absurd (subst IsOfMemory (sym (memory m) ∙ e) tt)

-- and each reason is that of its receiver
pub refused-for : (gates : Gates (Box Contents)) {T : Type 0} (to : ActorId) (what : OrderKind) (P M : Type 0) (result : Result T SendError)
    → OnErr result (P × ((IsErrOf result Refusal.NoSuchActor × IsToNobody gates to what) ⊎ M)) → (M → IsErrOf result Refusal.NoMemory)
    → (M → IsToSomebody gates to what) → (error : SendError) → result ≡ Err error → IsRefusedFor gates to what (of_send error)
unfolding IsOfMemory
refused-for gates {T} to what P M (Ok x) refused memory known error e = absurd (subst (λ (r : Result T SendError). OnErr r ⊥) e tt)
refused-for gates to what P M (Err x) (p, inl nobody) memory known Refusal.NoMemory e = absurd (subst IsOfMemory (sym e ∙ nobody.0) tt)
refused-for gates to what P M (Err x) (p, inl nobody) memory known Refusal.NoSuchActor e = nobody.1
refused-for gates to what P M (Err x) (p, inr m) memory known Refusal.NoMemory e = known m
refused-for gates to what P M (Err x) (p, inr m) memory known Refusal.NoSuchActor e = absurd (subst IsOfMemory (sym (memory m) ∙ e) tt)

module _ {A K : Type 0} (gives : ℕ → Moment → Reply → Type 0) (system : System A K) where
  -- a run of a mailbox by this handle was broken off
  came-to-limit : (before : View) (handle : WorkerHandle A K) (claim : Claim (Box Contents)) → IsFreshClaim gives (Some (origin_of system.gates)) claim
      → (result : Result Turn ReadyError)
      → (journal : List Entry) × MatchResult result
      (λ turn. (stopped : Stopped) × HadRoom stopped
      × LeavesRun system.throughput claim before (pass_view handle.registrar.pass) journal turn stopped)
      (λ _. (turn : Turn) × LeavesRun system.throughput claim before (pass_view handle.registrar.pass) journal turn NoRoom
      × (IsErrOf result Ready.JournalFull → claim.home.value.cell.who.limit ≤ length journal))
      → result ≡ Err Ready.JournalFull → BreaksWork gives system before handle JournalFull
  came-to-limit before handle claim fresh (Ok turn) ran e = absurd (subst (λ (r : Result Turn ReadyError). OnErr r ⊥) e tt)
  came-to-limit before handle claim fresh (Err error) (journal, ran) e = (
    record {
      claim = claim;
      fresh = fresh;
      before = before;
      journal = journal;
      turn = ran.0;
      left = ran.1;
      full = ran.2 e;
    },
    no-run gives (origin_of system.gates) system.throughput before,
  )

  came-short : (before : View) (handle : WorkerHandle A K) (claim : Claim (Box Contents)) → IsFreshClaim gives (Some (origin_of system.gates)) claim
      → (journal : List Entry) × (turn : Turn) × LeavesRun system.throughput claim before (pass_view handle.registrar.pass) journal turn NoRoom
      × IsShortOfMemory claim.home.value.cell.who journal → BreaksWork gives system before handle NoMemory
  came-short before handle claim fresh ran = inl (
    record {
      claim = claim;
      fresh = fresh;
      before = before;
      journal = ran.0;
      turn = ran.1;
      left = ran.2;
      short = ran.3;
    },
    no-run gives (origin_of system.gates) system.throughput before,
  )

  breaks-work : (before : View) (handle : WorkerHandle A K) (fault : RunError) → (fault ≡ JournalFull → BreaksWork gives system before handle JournalFull)
      → (fault ≡ NoMemory → BreaksWork gives system before handle NoMemory) → fault ≢ NoSuchActor → BreaksWork gives system before handle fault
  breaks-work before handle NoMemory full short known = short refl
  breaks-work before handle JournalFull full short known = full refl
  breaks-work before handle NoSuchActor full short known = known refl

  -- whatever its error says
  pub breaks-mailbox : (before : View) (handle : WorkerHandle A K) (claim : Claim (Box Contents)) → IsFreshClaim gives (Some (origin_of system.gates)) claim
      → (result : Result Turn ReadyError) (error : ReadyError) → result ≡ Err error
      → (journal : List Entry) × MatchResult result
      (λ turn. (stopped : Stopped) × HadRoom stopped
      × LeavesRun system.throughput claim before (pass_view handle.registrar.pass) journal turn stopped)
      (λ _. (turn : Turn) × LeavesRun system.throughput claim before (pass_view handle.registrar.pass) journal turn NoRoom
      × (IsErrOf result Ready.JournalFull → claim.home.value.cell.who.limit ≤ length journal))
      → (IsErrOf result Ready.NoMemory → (journal : List Entry) × (turn : Turn)
      × LeavesRun system.throughput claim before (pass_view handle.registrar.pass) journal turn NoRoom
      × IsShortOfMemory claim.home.value.cell.who journal)
      → BreaksWork gives system before handle (of_ready error)
  breaks-mailbox before handle claim fresh result error is ran short =
      breaks-work before handle (of_ready error)
      (λ full. came-to-limit before handle claim fresh result ran (is ∙ ap Err (full-of-ready error full)))
      (λ memory. came-short before handle claim fresh (short (is ∙ ap Err (short-of-ready error memory))))
      (ready-is-known error)

  -- the pool refused again the claim of an actor to which a look is owed
  pub breaks-retry : (start : View) (handle : WorkerHandle A K) (old : QueueAccount (Box Contents)) {T : Type 0} (P : T → Type 0) (r : Result T RunError)
      → MatchResult r P (λ _. StopsAt old (handle_caller handle.registrar).account) → OnErr r (IsErrOf r NoMemory)
      → OnlyRunsBySystem gives system start (pass_view handle.registrar.pass) → IfErr r (BreaksWork gives system start handle)
  breaks-retry start handle old P (Ok x) stops refused runs = tt
  breaks-retry start handle old {T} P (Err e) stops refused runs =
      subst (λ (q : Result T RunError). IfErr q (BreaksWork gives system start handle)) (sym refused)
      (inr ((held_actor stops.claim, stops.still), runs))

  -- it made runs before that
  pub breaks-after : (start between : View) (handle : WorkerHandle A K) (error : RunError) → OnlyRunsBySystem gives system start between
      → BreaksWork gives system between handle error → BreaksWork gives system start handle error
  breaks-after start between handle NoMemory first (inl (last, runs)) =
      inl (last, runs-then gives (origin_of system.gates) system.throughput start between last.before first runs)
  breaks-after start between handle NoMemory first (inr (owes, runs)) =
      inr (owes, runs-then gives (origin_of system.gates) system.throughput start between (pass_view handle.registrar.pass) first runs)
  breaks-after start between handle JournalFull first (last, runs) =
      (last, runs-then gives (origin_of system.gates) system.throughput start between last.before first runs)
  breaks-after start between handle NoSuchActor first broken = broken

  -- whatever came of it
  pub runs-or-breaks : {T : Type 0} (start : View) (handle : WorkerHandle A K) (r : Result T RunError)
      → OnOk r (OnlyRunsBySystem gives system start (pass_view handle.registrar.pass)) → IfErr r (BreaksWork gives system start handle)
      → RunsOrBreaks gives system start handle
  runs-or-breaks start handle (Ok x) runs broken = inl runs
  runs-or-breaks start handle (Err error) runs broken = inr (error, broken)

  -- first it only looked at actors
  module _ (x y z : WorkerHandle A K) (looks : OnlyLooks (pass_view x.registrar.pass) (pass_view y.registrar.pass)) where
    looked : OnlyRunsBySystem gives system (pass_view x.registrar.pass) (pass_view y.registrar.pass)
    looked = of-looks gives (origin_of system.gates) system.throughput (pass_view x.registrar.pass) (pass_view y.registrar.pass) looks

    pub worked-then : HasWorked gives system (pass_view y.registrar.pass) z → HasWorked gives system (pass_view x.registrar.pass) z
    worked-then worked = (
      worked.0,
      worked.1,
      runs-then gives (origin_of system.gates) system.throughput (pass_view x.registrar.pass) (pass_view y.registrar.pass) (pass_view z.registrar.pass)
          looked worked.2,
    )

    pub broke-then : (error : RunError) → BreaksWork gives system (pass_view y.registrar.pass) z error
        → BreaksWork gives system (pass_view x.registrar.pass) z error
    broke-then error broken = breaks-after (pass_view x.registrar.pass) (pass_view y.registrar.pass) z error looked broken

    pub runs-or-broke-then : RunsOrBreaks gives system (pass_view y.registrar.pass) z → RunsOrBreaks gives system (pass_view x.registrar.pass) z
    runs-or-broke-then (inl runs) =
        inl (runs-then gives (origin_of system.gates) system.throughput (pass_view x.registrar.pass) (pass_view y.registrar.pass)
        (pass_view z.registrar.pass) looked runs)
    runs-or-broke-then (inr (error, broken)) = inr (error, broke-then error broken)

  -- what each handle did, and why the run is broken off: by the first of its handles that was, or else by the first of its jobs
  abbrev Look : WorkerHandle A K → WorkerHandle A K → Type 0
  Look x y = OnlyLooks (pass_view x.registrar.pass) (pass_view y.registrar.pass)

  abbrev Worked : WorkerHandle A K → WorkerHandle A K → Type 0
  Worked x y = HasWorked gives system (pass_view x.registrar.pass) y

  abbrev Broke : RunError → WorkerHandle A K → WorkerHandle A K → Type 0
  Broke error x y = BreaksWork gives system (pass_view x.registrar.pass) y error

  -- beside handles there were tasks of any kind
  module _ {T : Type 0} (Did : T → T → Type 0) (Failed : RunError → T → T → Type 0) where
    abbrev BreaksBeside : List (WorkerHandle A K) → List (WorkerHandle A K) → List T → List T → RunError → Type 0
    BreaksBeside old handles before after error =
        FirstZip Worked (Broke error) old handles ⊎ (AllZip Worked old handles × FirstZip Did (Failed error) before after)

    pub breaks-beside : (old started handles : List (WorkerHandle A K)) (before after : List T) (of_handles of_tasks r : Result (Unit {0}) RunError)
        → AllZip Look old started → MatchResult of_handles (λ _. r ≡ of_tasks) (λ _. r ≡ of_handles) → OnOk of_handles (AllZip Worked started handles)
        → IfErr of_handles (λ error. FirstZip Worked (Broke error) started handles) → IfErr of_tasks (λ error. FirstZip Did (Failed error) before after)
        → IfErr r (BreaksBeside old handles before after)
    breaks-beside old started handles before after (Ok x) (Ok y) r looks is worked by_end by_task =
        subst (λ (q : Result (Unit {0}) RunError). IfErr q (BreaksBeside old handles before after)) (sym is) tt
    breaks-beside old started handles before after (Ok x) (Err error) r looks is worked by_end by_task =
        subst (λ (q : Result (Unit {0}) RunError). IfErr q (BreaksBeside old handles before after)) (sym is)
        (inr (zip_then Look Worked Worked worked-then old started handles looks worked, by_task))
    breaks-beside old started handles before after (Err error) b r looks is worked by_end by_task =
        subst (λ (q : Result (Unit {0}) RunError). IfErr q (BreaksBeside old handles before after)) (sym is)
        (inl (first_then Look Worked (Broke error) worked-then (λ x y z l broken. broke-then x y z l error broken) old started handles looks by_end))

  pub breaks-run : (old started handles : List (WorkerHandle A K)) (before after : List (Job A K)) (of_handles of_jobs r : Result (Unit {0}) RunError)
      → AllZip Look old started → MatchResult of_handles (λ _. r ≡ of_jobs) (λ _. r ≡ of_handles) → OnOk of_handles (AllZip Worked started handles)
      → IfErr of_handles (λ error. FirstZip Worked (Broke error) started handles)
      → IfErr of_jobs (λ error. FirstZip (IsDone system.gates) (λ o n. BreaksJob system.gates o.sends.items o.sender n.sender error) before after)
      → IfErr r (BreaksRun gives system old handles before after)
  breaks-run = breaks-beside (IsDone system.gates) (λ error o n. BreaksJob system.gates o.sends.items o.sender n.sender error)
