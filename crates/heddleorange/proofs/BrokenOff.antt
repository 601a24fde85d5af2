-- Which sender or handle a run was broken off by, and that it was.
use Rattle.std.proofs.Common.{◌≡◌, inl, inr, ℕ, ◌+◌, ◌<◌, ◌≤◌, List, [], ◌∷◌, ◌++◌, length, map, refl, sym, ap, ◌∙◌, subst, arith, append_assoc, get_or, take, drop}
use Rattle.std.proofs.Common.{take-append-drop}
use Rattle.std.specs.Prelude.{◌≢◌, All, Contains, Option, Some, slice_get, slice_set}
use Rattle.std.specs.Global.{Box}
use Rattle.std.specs.List.{AllZip}
use Rattle.std.proofs.lemmas.List.Elements.{Contains-append_left}
use Rattle.std.proofs.lemmas.Option.{slice_get-get_or, slice_get_within}
use Rattle.mb_actor.specs.Behaviour.{Moment, Reply}
use Rattle.mb_gate.specs.Accessors.{pass_view}
use Rattle.mb_gate.specs.Untouched.{origin_of}
use Rattle.mb_gate.specs.declared.gates.Gates.{Gates}
use Rattle.mb_home.specs.Contents.{Contents}
use Rattle.mb_msg.specs.declared.order.Order.{Order}
use Rattle.mb_msg.specs.declared.order.SenderOrder.{SenderOrder}
use Rattle.mb_msg.specs.declared.plan.Plan.{Plan}
use Rattle.mb_shutdown.proofs.Lists.{at-place, there}
use Rattle.mb_source.specs.RecordedSource.{RecordedSource}
use Rattle.mb_startup.proofs.There.{senders-there}
use Rattle.mb_startup.specs.Begun.{IsBegun}
use Rattle.mb_system.specs.Members.{OutsideSender}
use Rattle.mb_system.specs.declared.built.Built.{Built}
use Rattle.mb_system.specs.declared.handle.WorkerHandle.{WorkerHandle}
use Rattle.mb_system.specs.declared.failure.RunError.{RunError}
use Rattle.mb_system.specs.declared.failure.RunError.TheVariants as Fault
use Rattle.mb_system.specs.declared.system.System.{System}
use Rattle.mb_dispatch.specs.Faults.{BreaksJob, BreaksRun, BreaksSending, RunsOrBreaks}
use Rattle.mb_dispatch.specs.Orders.{HasSent, StopsWithin, order_for}
use Rattle.mb_dispatch.specs.Paired.{pairs}
use Rattle.mb_dispatch.specs.Sources.{BreaksRunFrom, others_of}
use Rattle.mb_dispatch.specs.declared.job.Job.{Job}
use Rattle.mb_dispatch.proofs.Breaking.{job-sending}
use Rattle.mb_dispatch.proofs.Runs.{no-run}
use Rattle.mb_dispatch.proofs.Sending.{sent-then}
use Rattle.heddleorange.specs.BrokenOff.{BreaksHere, BreaksHereFrom, BreaksInOrder, BreaksJobs, BreaksRow, BreaksSender, BreaksTogether, BreaksTogetherFrom}
use Rattle.heddleorange.specs.FromSources.{orders_given}
use Rattle.heddleorange.specs.Orders.{lists_of, orders_of, senders_for}
use Rattle.heddleorange.specs.Sent.{HasSentAndRetried}
use Rattle.heddleorange.proofs.AnyBreak.{BreaksOff, BreaksOne, off-first}
use Rattle.heddleorange.proofs.FromSources.{pairs-broke}
use Rattle.heddleorange.proofs.InOrder.{from-many, length-lists, list-at, many-from, orders-append, own-next}
use Rattle.heddleorange.proofs.InTurn.{AreEach, DidOwn}
use Rattle.heddleorange.proofs.Jobs.{broke-off, sender_in, sends_in, some-one}
use Rattle.heddleorange.proofs.LastRun.{AllToLast, all-to-last, first-to-last, none-ran}
use Rattle.heddleorange.proofs.Sent.{AreUpTo, Did, set-here, set-other}

-- ---- which sender

module _ (gates : Gates (Box Contents)) where
  -- the senders before this place are done, and this one was broken off
  pub breaks-sender : (orders : List (List Order)) (n : ℕ) (old now : List OutsideSender) (a b : OutsideSender) (of : List Order) (error : RunError)
      → AreUpTo (Did gates orders) n old now → slice_get now n ≡ Some a → slice_get orders n ≡ Some of → BreaksJob gates of a b error
      → BreaksSender gates orders old (slice_set now n b) error
  breaks-sender orders n old now a b of error so here told broke = record {
    place = n;
    of = of;
    before = a;
    after = b;
    ordered = told;
    was = sym (so.rest n (omega arith)) ∙ here;
    is = set-here now n b (slice_get_within now n a here);
    breaks = broke;
    earlier = λ k own x y lt own_is was is. so.done k x y lt was (sym (set-other now n k b (λ e. omega (arith, e, lt))) ∙ is) own own_is;
    later = λ k lt. set-other now n k b (λ e. omega (arith, e, lt)) ∙ so.rest k (omega (arith, lt));
  }

  -- first these were carried out, and then a sender stopped within those
  stops-after : (xs ys : List Order) (a b c : OutsideSender) → HasSent xs a b → StopsWithin ys b c → StopsWithin (xs ++ ys) a c
  stops-after xs ys a b c first stops =
      let up = stops.sent in let part = order_for stops.next.to stops.next.what up.times ∷ [] in record {
        done = xs ++ stops.done;
        next = stops.next;
        left = stops.left;
        are = ap (λ l. xs ++ l) stops.are ∙ sym (append_assoc xs stops.done (stops.next ∷ stops.left));
        sent = record {
          times = up.times;
          fewer = up.fewer;
          sent = subst (λ l. HasSent l a c) (sym (append_assoc xs stops.done part)) (sent-then xs (stops.done ++ part) a b c first up.sent);
        };
      }

  job-after : (xs ys : List Order) (a b c : OutsideSender) (error : RunError) → HasSentAndRetried gates xs a b → BreaksJob gates ys b c error
      → BreaksJob gates (xs ++ ys) a c error
  unfolding stops-after
  job-after xs ys a b c error first (inl stopped) = inl (stops-after xs ys a b c first.0 stopped.0, stopped.1)
  job-after xs ys a b c error first (inr (is, owes)) = inr (is, (sent-then xs ys a b c first.0 owes.0, owes.1, owes.2))

  -- it was broken off at the next order
  pub breaks-row : (sends : List SenderOrder) (i : ℕ) (d : SenderOrder) (old now : List OutsideSender) (e c : OutsideSender) (error : RunError)
      → i < length sends → (get_or sends i d).from < length now → AreEach (DidOwn gates (take i sends)) old now
      → BreaksJob gates ((get_or sends i d).order ∷ []) (get_or now (get_or sends i d).from e) c error
      → BreaksRow gates sends old (slice_set now (get_or sends i d).from c) error
  breaks-row sends i d old now e c error lt from so broke =
      let send = get_or sends i d in let b = get_or now send.from e in let here = slice_get-get_or now send.from e from in
      let many = so.same_count in let first = there old send.from (omega (arith, from, many)) in record {
        place = i;
        send = send;
        before = first.0;
        after = c;
        ordered = slice_get-get_or sends i d lt;
        was = first.1;
        is = set-here now send.from c from;
        breaks = subst (λ l. BreaksJob gates l first.0 c error) (own-next send.from sends i d lt refl)
            (job-after (orders_of send.from (take i sends)) (send.order ∷ []) first.0 b c error (so.each send.from first.0 b first.1 here) broke);
        others = λ k x y other was is. so.each k x y was (sym (set-other now send.from k c other) ∙ is);
      }

-- ---- that one was

-- what breaks off the sending of some of these breaks off that of all
sending-more : (gates : Gates (Box Contents)) (xs ys : List Order) (error : RunError) → BreaksSending gates xs error → BreaksSending gates (xs ++ ys) error
sending-more gates xs ys Fault.NoMemory broken = tt
sending-more gates xs ys Fault.JournalFull broken = broken
sending-more gates xs ys Fault.NoSuchActor broken = (broken.0, Contains-append_left xs ys broken.0 broken.1, broken.2, broken.3)

own-part : (from n : ℕ) (sends : List SenderOrder) → orders_of from (take n sends) ++ orders_of from (drop n sends) ≡ orders_of from sends
own-part from n sends = sym (orders-append from (take n sends) (drop n sends)) ∙ ap (orders_of from) (take-append-drop n sends)

one-of-senders : (gates : Gates (Box Contents)) (orders : List (List Order)) (old new : List OutsideSender) (error : RunError)
    → BreaksSender gates orders old new error → BreaksOne gates orders error
one-of-senders gates orders old new error broke =
    (broke.place, broke.of, broke.ordered, job-sending gates broke.of broke.before broke.after error broke.breaks)

one-of-row : (gates : Gates (Box Contents)) (senders : ℕ) (sends : List SenderOrder) (old new : List OutsideSender) (error : RunError)
    → All (λ (s : SenderOrder). s.from < senders) sends → BreaksRow gates sends old new error → BreaksOne gates (lists_of senders sends) error
one-of-row gates senders sends old new error from broke =
    let own = broke.send.from in let many = many-from senders sends from in
    let lt = at-place (λ (s : SenderOrder). s.from < senders) sends broke.place broke.send from broke.ordered in
    let done = orders_of own (take (broke.place + 1) sends) in (
      own,
      orders_of own sends,
      list-at senders sends own (omega (arith, lt, many)),
      subst (λ l. BreaksSending gates l error) (own-part own (broke.place + 1) sends)
          (sending-more gates done (orders_of own (drop (broke.place + 1) sends)) error (job-sending gates done broke.before broke.after error broke.breaks)),
    )

module _ {A K : Type 0} (gives : ℕ → Moment → Reply → Type 0) (old new : Built A K) (error : RunError) where
  pub off-here : (orders : List (List Order)) → BreaksHere gives orders old new error → BreaksOff gives old.system new.handles.items orders error
  off-here orders (inl (sending, same)) = inl (one-of-senders old.system.gates orders old.senders.items new.senders.items error sending)
  off-here orders (inr (sent, running)) = inr (off-first gives old.system old.handles.items new.handles.items error running)

  pub off-in-order : (sends : List SenderOrder) → All (λ (s : SenderOrder). s.from < length old.senders.items) sends
      → BreaksInOrder gives sends old new error
      → BreaksOff gives old.system new.handles.items (lists_of (length old.senders.items) sends) error
  off-in-order sends from (inl (sending, same)) =
      inl (one-of-row old.system.gates (length old.senders.items) sends old.senders.items new.senders.items error from sending)
  off-in-order sends from (inr (sent, running)) = inr (off-first gives old.system old.handles.items new.handles.items error running)

  pub off-together : (orders : List (List Order)) → old.handles.items ≢ [] → BreaksTogether gives orders old new error
      → BreaksOff gives old.system new.handles.items orders error
  off-together orders some (inl (is, same)) =
      let one = some-one old.handles.items some in let knew = pass_view (one.0).registrar.pass in
      inr (
        knew,
        one.0,
        subst (λ l. Contains l one.0) (ap (λ v. v.items) (sym same)) one.1,
        inl (is, no-run gives (origin_of old.system.gates) old.system.throughput knew),
      )
  off-together orders some (inr jobs) =
      broke-off gives old.system old.handles.items new.handles.items jobs.before orders jobs.sends jobs.after error jobs.breaks

  module _ {S : Type 0} (source_gives : S → Option Order → S → Type 0) (takes_back : S → Order → S → Type 0) where
    pub off-here-from : (was is : List (RecordedSource S)) → BreaksHereFrom gives source_gives takes_back was is old new error
        → BreaksOff gives old.system new.handles.items (orders_given (others_of old.system.gates) was is) error
    off-here-from was is (inl (sending, same)) =
        inl (pairs-broke old.system.gates source_gives takes_back _ error old.senders.items new.senders.items was is sending)
    off-here-from was is (inr (sent, running)) = inr (off-first gives old.system old.handles.items new.handles.items error running)

-- the same handles
pub same-runs : {A K : Type 0} (gives : ℕ → Moment → Reply → Type 0) (system : System A K) (a b x y : List (WorkerHandle A K)) → a ≡ b → x ≡ y
    → AllZip (λ o n. RunsOrBreaks gives system (pass_view o.registrar.pass) n) a x
    → AllZip (λ o n. RunsOrBreaks gives system (pass_view o.registrar.pass) n) b y
same-runs {A} {K} gives system a b x y old new =
    subst (λ (p : List (WorkerHandle A K) × List (WorkerHandle A K)). AllZip (λ o n. RunsOrBreaks gives system (pass_view o.registrar.pass) n) p.0 p.1)
    (λ i. (old i, new i))

-- the same handles and senders
module _ {A K S : Type 0} (gates : Gates (Box Contents)) (source_gives : S → Option Order → S → Type 0) (takes_back : S → Order → S → Type 0)
    (gives : ℕ → Moment → Reply → Type 0) (system : System A K) (first last : List (RecordedSource S)) where
  pub same-break : (a b x y : List (WorkerHandle A K)) (s t u v : List OutsideSender) (error : RunError) → a ≡ b → x ≡ y → s ≡ t → u ≡ v
      → BreaksRunFrom gates source_gives takes_back gives system a x (pairs s first) (pairs u last) error
      → BreaksRunFrom gates source_gives takes_back gives system b y (pairs t first) (pairs v last) error
  same-break a b x y s t u v error old new were are =
      subst (λ (p : List (WorkerHandle A K) × List (WorkerHandle A K) × List OutsideSender × List OutsideSender).
      BreaksRunFrom gates source_gives takes_back gives system p.0 p.1 (pairs p.2 first) (pairs p.3 last) error)
      (λ i. (old i, new i, were i, are i))

-- a run beside jobs was broken off, of these handles and of jobs with these senders and orders
module _ {A K : Type 0} (gives : ℕ → Moment → Reply → Type 0) (orders : List (List Order)) (old new : Built A K) where
  pub jobs-broke : (handles handles' : List (WorkerHandle A K)) (jobs before after : List (Job A K)) (error : RunError) → handles ≡ old.handles.items
      → handles' ≡ new.handles.items → jobs ≡ before → map sender_in before ≡ old.senders.items → map sender_in after ≡ new.senders.items
      → map sends_in before ≡ orders → BreaksRun gives old.system handles handles' jobs after error
      → AllZip (λ o n. RunsOrBreaks gives old.system (pass_view o.registrar.pass) n) handles handles' → BreaksJobs gives orders old new error
  jobs-broke handles handles' jobs before after error were are same was is told broken ran = record {
    before = before;
    after = after;
    senders_before = was;
    senders_after = is;
    sends = told;
    breaks = subst (λ (p : List (WorkerHandle A K) × List (WorkerHandle A K) × List (Job A K)). BreaksRun gives old.system p.0 p.1 p.2 after error)
        (λ i. (were i, are i, same i)) broken;
    runs = same-runs gives old.system handles old.handles.items handles' new.handles.items were are ran;
  }

-- each order of a row is from a sender of a new system
pub from-first : {A K : Type 0} (gives : ℕ → Moment → Reply → Type 0) (plan : Plan) (first : Built A K) (sends : List SenderOrder) → IsBegun gives plan first
    → length (lists_of plan.senders sends) ≡ plan.senders → All (λ (s : SenderOrder). s.from < length first.senders.items) sends
from-first gives plan first sends begun right =
    let many = length-lists plan.senders sends in
    let most : senders_for plan.senders sends ≤ plan.senders = omega (arith, many, right) in
    subst (λ n. All (λ (s : SenderOrder). s.from < n) sends) (sym (senders-there gives plan first begun).0) (from-many plan.senders sends most)

-- ---- what the handles did then

module _ {A K : Type 0} (gives : ℕ → Moment → Reply → Type 0) where
  -- all handles of a system that is broken off
  abbrev pub UpToLast : Built A K → Built A K → Type 0
  UpToLast old new = AllToLast gives (origin_of old.system.gates) old.system.throughput old.handles.items new.handles.items

  idle-to-last : (old new : Built A K) → new.handles ≡ old.handles → UpToLast old new
  idle-to-last old new same =
      subst (λ l. AllToLast gives (origin_of old.system.gates) old.system.throughput old.handles.items l) (ap (λ v. v.items) (sym same))
      (none-ran gives (origin_of old.system.gates) old.system.throughput old.handles.items)

  pub here-to-last : (orders : List (List Order)) (old new : Built A K) (error : RunError) → BreaksHere gives orders old new error → UpToLast old new
  here-to-last orders old new error (inl (sending, same)) = idle-to-last old new same
  here-to-last orders old new error (inr (sent, running)) = first-to-last gives old.system old.handles.items new.handles.items error running

  pub in-order-to-last : (old new : Built A K) (error : RunError) (sends : List SenderOrder) → BreaksInOrder gives sends old new error → UpToLast old new
  in-order-to-last old new error sends (inl (sending, same)) = idle-to-last old new same
  in-order-to-last old new error sends (inr (sent, running)) = first-to-last gives old.system old.handles.items new.handles.items error running

  pub together-to-last : (orders : List (List Order)) (old new : Built A K) (error : RunError) → BreaksTogether gives orders old new error → UpToLast old new
  together-to-last orders old new error (inl (is, same)) = idle-to-last old new same
  together-to-last orders old new error (inr jobs) = all-to-last gives old.system old.handles.items new.handles.items jobs.runs

  module _ {S : Type 0} (old new : Built A K) (error : RunError) (source_gives : S → Option Order → S → Type 0) (takes_back : S → Order → S → Type 0)
      (was is : List (RecordedSource S)) where
    pub here-from-to-last : BreaksHereFrom gives source_gives takes_back was is old new error → UpToLast old new
    here-from-to-last (inl (sending, same)) = idle-to-last old new same
    here-from-to-last (inr (sent, running)) = first-to-last gives old.system old.handles.items new.handles.items error running

    pub together-from-to-last : BreaksTogetherFrom gives source_gives takes_back was is old new error → UpToLast old new
    together-from-to-last broke = all-to-last gives old.system old.handles.items new.handles.items broke.runs
