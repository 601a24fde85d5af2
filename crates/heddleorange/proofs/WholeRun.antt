-- A whole run, from the new system to its report.
use Rattle.std.proofs.Common.{◌≡◌, ℤ, ℕ, zero, suc, ◌⊎◌, inl, inr, ◌+◌, ◌-◌, ◌<◌, ◌≤◌, List, [], ◌∷◌, ◌++◌, length, map, refl, sym, ap, ◌∙◌, subst, Some, arith}
use Rattle.std.specs.Prelude.{All, reverse, slice_get}
use Rattle.std.specs.Global.{Box}
use Rattle.std.specs.List.{AllZip}
use Rattle.std.proofs.lemmas.Bool.{cases_lt}
use Rattle.std.proofs.lemmas.List.{append-nil}
use Rattle.std.proofs.lemmas.List.Elements.{All-cons, All-head, All-map, All-nil}
use Rattle.std.proofs.lemmas.Option.{get_or_from_slice_get, same_Some, slice_get_within}
use Rattle.mb_msg.specs.Limits.{most_actors}
use Rattle.mb_actor.specs.Behaviour.{Moment, Reply}
use Rattle.mb_actor.specs.declared.message.Message.{Message}
use Rattle.mb_journal.specs.Accepted.{accepted}
use Rattle.mb_journal.specs.declared.sent_envelope.SentEnvelope.{SentEnvelope}
use Rattle.mb_gate.specs.Accessors.{actors_of, first_home, pass_view}
use Rattle.mb_gate.specs.Releases.{ReleasesAddUp}
use Rattle.mb_gate.specs.Rule.{IsPart}
use Rattle.mb_gate.specs.Untouched.{origin_of}
use Rattle.mb_gate.specs.View.{Observation, View}
use Rattle.mb_gate.specs.declared.gates.Gates.{Gates}
use Rattle.mb_home.specs.Contents.{Contents}
use Rattle.mb_home.specs.Directory.{DirectoryEntry}
use Rattle.mb_msg.specs.JournalMode.{retention_of}
use Rattle.mb_msg.specs.declared.plan.Plan.{Plan}
use Rattle.mb_queue.specs.Passes.{SendPassView}
use Rattle.mb_report.specs.declared.report.ActorReport.{ActorReport}
use Rattle.mb_report.specs.declared.report.Report.{Report}
use Rattle.mb_report.specs.declared.report.SenderReport.{SenderReport}
use Rattle.mb_build.specs.Numbers.{numbers}
use Rattle.mb_build.specs.Planned.{actors_in}
use Rattle.mb_shutdown.specs.Letters.{KeepsLetters}
use Rattle.mb_shutdown.specs.Homes.{HomesReturned}
use Rattle.mb_shutdown.specs.Seen.{ReportExtendsAll}
use Rattle.mb_shutdown.specs.CompleteReport.{IsCompleteReport}
use Rattle.mb_shutdown.proofs.Lists.{at-place, each-place, from-mapped, length-mapped, mapped-to, there, within}
use Rattle.mb_startup.specs.Begun.{AreNewHandles, AreNewSenders, IsBegun}
use Rattle.mb_system.specs.Belonging.{senders_numbers}
use Rattle.mb_system.specs.Members.{OutsideSender, StillSee, handle_numbers}
use Rattle.mb_dispatch.specs.Orders.{addressed, addressed_system, terminates_of}
use Rattle.mb_system.specs.Shares.{views_of}
use Rattle.mb_system.specs.declared.built.Built.{Built}
use Rattle.mb_system.specs.declared.handle.WorkerHandle.{WorkerHandle}
use Rattle.mb_msg.specs.declared.order.Order.{Order}
use Rattle.mb_startup.proofs.Directories.{of-plan}
use Rattle.mb_shutdown.specs.Belonging.{AreAnswers, AreThere, HasAllSeen, directory_of}
use Rattle.mb_shutdown.specs.Refused.{HasHomesReturned}
use Rattle.mb_shutdown.proofs.Parts.{part-trans}
use Rattle.mb_startup.proofs.There.{handles-there, length-numbers, number-at, senders-there}
use Rattle.heddleorange.specs.Answered.{AnswersWatches}
use Rattle.heddleorange.specs.Asked.{AllGetAskedFor}
use Rattle.heddleorange.specs.Notices.{EachNoticeIsTrue}
use Rattle.heddleorange.specs.Sent.{HaveSent}
use Rattle.heddleorange.specs.WholeRun.{CountsAllPutBy, DidOrders, IsReportOfRun}
use Rattle.heddleorange.specs.Workers.{AllOnlyRuns, AreNewViews}
use Rattle.mb_dispatch.specs.Runs.{OnlyRuns}
use Rattle.heddleorange.proofs.Kept.{keeps-planned}
use Rattle.heddleorange.proofs.Sent.{numbers-kept}

-- numbers in a row are all there
all-there : (many : ℕ) (ns : List ℕ) → ns ≡ numbers 0 many → AreThere many ns
all-there many ns are n lt =
    let at : slice_get ns n ≡ Some n = ap (λ l. slice_get l n) are ∙ number-at 0 many n lt ∙ ap Some (omega arith) in
    (n, slice_get_within ns n n at, get_or_from_slice_get ns n n n at)

module _ (gates : Gates (Box Contents)) where
  -- the sender at this place, as it began
  pub new-at : (number : ℕ) (rows : List (List SendPassView)) (senders : List OutsideSender) (place : ℕ) (s : OutsideSender)
      → AreNewSenders gates number rows senders → slice_get senders place ≡ Some s
      → (s.send_log.by.0 ≡ number + place) × (s.send_log.posted ≡ []) × ((pass_view s.registrar.pass).sent_system ≡ [])
  new-at number [] [] place s are is = absurd (omega (arith, slice_get_within {A = OutsideSender} [] place s is))
  new-at number [] (x ∷ senders) place s are is = absurd are
  new-at number (row ∷ rows) [] place s are is = absurd are
  new-at number (row ∷ rows) (x ∷ senders) zero s are is =
      let same = sym (same_Some x s is) in (
        ap (λ (y : OutsideSender). y.send_log.by.0) same ∙ ap (λ n. n.0) are.0.by ∙ (omega arith),
        ap (λ (y : OutsideSender). y.send_log.posted) same ∙ are.0.posted,
        ap (λ (y : OutsideSender). (pass_view y.registrar.pass).sent_system) same ∙ are.0.sent_nothing,
      )
  new-at number (row ∷ rows) (x ∷ senders) (suc place) s are is =
      let rest = new-at (number + 1) rows senders place s are.1 is in (rest.0 ∙ (omega arith), rest.1, rest.2)

-- what holds at each place of two lists holds of what is known at each place
pub zip-mapped : {X Y : Type 0} (R : Y → Y → Type 0) (f : X → Y) (xs ys : List X) → AllZip (λ x y. R (f x) (f y)) xs ys → AllZip R (map f xs) (map f ys)
zip-mapped R f [] [] all = tt
zip-mapped R f [] (y ∷ ys) all = absurd all
zip-mapped R f (x ∷ xs) [] all = absurd all
zip-mapped R f (x ∷ xs) (y ∷ ys) all = (all.0, zip-mapped R f xs ys all.1)

-- new handles saw nothing
pub all-blank : {A K : Type 0} (gates : Gates (Box Contents)) (number : ℕ) (handles : List (WorkerHandle A K)) → AreNewHandles gates number handles
    → All (λ (v : View). v.log ≡ []) (map (λ (e : WorkerHandle A K). pass_view e.registrar.pass) handles)
all-blank gates number [] new = All-nil (λ (v : View). v.log ≡ [])
all-blank gates number (e ∷ handles) new =
    All-cons (λ (v : View). v.log ≡ []) (pass_view e.registrar.pass) (map (λ (x : WorkerHandle _ _). pass_view x.registrar.pass) handles) new.0.blank
    (all-blank gates (number + 1) handles new.1)

module _ {A K : Type 0} where
  -- what the first of the handles had seen is among all that they saw
  led : (log : List Observation) (handle : WorkerHandle A K) (others now : List (WorkerHandle A K)) → StillSee (handle ∷ others) now
      → All (λ (e : WorkerHandle A K). IsPart (pass_view e.registrar.pass).log log) now → IsPart (pass_view handle.registrar.pass).log log
  led log handle others [] saw seen = absurd saw
  led log handle others (e ∷ now) saw seen =
      part-trans (pass_view handle.registrar.pass).log (pass_view e.registrar.pass).log log saw.0
      (All-head (λ (x : WorkerHandle A K). IsPart (pass_view x.registrar.pass).log log) e now seen)

module _ {A K : Type 0} (gives : ℕ → Moment → Reply → Type 0) (plan : Plan) (built : Built A K) (begun : IsBegun gives plan built) where
  module _ (orders : List (List Order)) (now : Built A K) (right : length orders ≡ plan.senders) (system : now.system ≡ built.system)
      (handles : handle_numbers now.handles.items ≡ handle_numbers built.handles.items)
      (sent : HaveSent built.system.gates orders built.senders.items now.senders.items) where
    pub no-handle-missing : AreThere now.system.workers (handle_numbers now.handles.items)
    no-handle-missing =
        let workers : now.system.workers ≡ plan.workers = ap (λ s. s.workers) system ∙ begun.numbers.0 in
        all-there now.system.workers (handle_numbers now.handles.items) (handles ∙ (handles-there gives plan built begun) ∙ ap (numbers 0) (sym workers))

    pub no-sender-missing : AreThere now.system.senders (senders_numbers now.senders.items)
    no-sender-missing =
        let senders : now.system.senders ≡ plan.senders = ap (λ s. s.senders) system ∙ begun.numbers.1 in
        all-there now.system.senders (senders_numbers now.senders.items)
        (numbers-kept built.system.gates orders built.senders.items now.senders.items ((senders-there gives plan built begun).0 ∙ sym right) sent
        ∙ (senders-there gives plan built begun).1 ∙ ap (numbers 0) (sym senders))

    -- what came of the orders of one sender
    did-orders : (answers : List (List SentEnvelope)) → AreAnswers now.system.senders now.senders.items answers → (place : ℕ) (of : List Order)
        (postings : List SentEnvelope) (view : View) → slice_get orders place ≡ Some of → slice_get answers place ≡ Some postings
        → slice_get (map (λ (s : OutsideSender). pass_view s.registrar.pass) now.senders.items) place ≡ Some view → DidOrders of postings view
    did-orders answers answered place of postings view is told knew =
        let knows = λ (s : OutsideSender). pass_view s.registrar.pass in
        let after = from-mapped knows now.senders.items place view knew in
        let lt = slice_get_within now.senders.items place after.0 after.1 in let many = sent.same_count in
        let before = there built.senders.items place (omega (arith, lt, many)) in
        let new = new-at built.system.gates most_actors begun.outside built.senders.items place before.0 begun.senders before.1 in
        let one = (sent.each place of before.0 after.0 is before.1 after.1).0 in
        let number : after.0.send_log.by.0 - most_actors ≡ place =
        let by = ap (λ n. n.0) one.by ∙ new.0 in omega (arith, by) in
        let answer = at-place (λ (s : OutsideSender). slice_get answers (s.send_log.by.0 - most_actors) ≡ Some s.send_log.posted) now.senders.items
        place after.0 answered.each after.1 in
        let posted : postings ≡ one.more =
        same_Some postings after.0.send_log.posted (sym told ∙ ap (slice_get answers) (sym number) ∙ answer)
        ∙ one.posted ∙ ap (λ l. l ++ one.more) new.1 in
        let terminates = reverse (terminates_of of) in record {
          accepted_are = ap (λ l. addressed (accepted l)) posted ∙ one.accepted_are;
          sent_system = ap (λ (v : View). addressed_system v.sent_system) (sym after.2) ∙ one.system_sent ∙ ap (λ l. terminates ++ addressed_system l) new.2 ∙ append-nil terminates;
        }

    -- the dead letters of each sender are kept where the plan says so
    keep-letters : (report : Report) → KeepsLetters now report → length report.senders.items ≡ length (directory_of now) + plan.senders
        → All (λ (s : SenderReport). s.dead.retention ≡ retention_of plan.journal) report.senders.items
    keep-letters report kept many =
        each-place (λ (s : SenderReport). s.dead.retention ≡ retention_of plan.journal) report.senders.items
        (λ i s found. by_sides i s found (cases_lt i (length (directory_of now))))
      where
        who-are : map (λ (d : DirectoryEntry). d.who) (directory_of now) ≡ actors_in plan
        who-are =
            ap (λ (g : Gates (Box Contents)). map (λ (d : DirectoryEntry). d.who) (first_home g).value.directory) (ap (λ s. s.gates) system)
            ∙ (of-plan gives plan built begun).who

        by_sides : (i : ℕ) (s : SenderReport) → slice_get report.senders.items i ≡ Some s
            → (i < length (directory_of now)) ⊎ (length (directory_of now) ≤ i) → s.dead.retention ≡ retention_of plan.journal
        by_sides i s found (inl lt) =
            let e = there (directory_of now) i lt in
            kept.actors i e.0 s e.1 found
            ∙ keeps-planned plan i e.0.who (mapped-to (λ (d : DirectoryEntry). d.who) (directory_of now) (actors_in plan) i e.0 who-are e.1)
        by_sides i s found (inr le) =
            let n = length (directory_of now) in let place = i - n in let below = within report.senders.items i s found in
            let there_are = (senders-there gives plan built begun).0 in let as_many = sent.same_count in
            let after = there now.senders.items place (omega (arith, below, many, le, there_are, as_many)) in
            let before = there built.senders.items place (omega (arith, below, many, le, there_are)) in
            let of = there orders place (omega (arith, below, many, le, right)) in
            let new = new-at built.system.gates most_actors begun.outside built.senders.items place before.0 begun.senders before.1 in
            let one = (sent.each place of.0 before.0 after.0 of.1 before.1 after.1).0 in
            let by = ap (λ n. n.0) one.by ∙ new.0 in
            let at : n + (after.0.send_log.by.0 - most_actors) ≡ i = omega (arith, by, le) in
            let began = at-place (λ (o : OutsideSender). o.send_log.dead.retention ≡ retention_of plan.journal) built.senders.items place before.0
            begun.keep_letters before.1 in
            at-place (λ (o : OutsideSender). (s : SenderReport)
            → slice_get report.senders.items (length (directory_of now) + (o.send_log.by.0 - most_actors)) ≡ Some s
            → s.dead.retention ≡ o.send_log.dead.retention) now.senders.items place after.0 kept.outside after.1 s
            (ap (slice_get report.senders.items) at ∙ found)
            ∙ one.keep_letters ∙ began

    pub story : (after : ℕ → List Message → ℤ) (report : Report) (log : List Observation) (answers : List (List SentEnvelope))
        → StillSee built.handles.items now.handles.items
        → AllOnlyRuns gives (origin_of built.system.gates) plan.throughput built.handles.items now.handles.items → HasAllSeen now log
        → AreAnswers now.system.senders now.senders.items answers
        → IsCompleteReport after gives (first_home now.system.gates).value.directory log answers report
        → KeepsLetters now report
        → All (λ (e : WorkerHandle A K). ReportExtendsAll report (pass_view e.registrar.pass)) now.handles.items
        → All (λ (s : OutsideSender). ReportExtendsAll report (pass_view s.registrar.pass)) now.senders.items
        → HasHomesReturned gives now report
        → ((id : ℕ) (a : ActorReport) → slice_get report.actors.items id ≡ Some a → ReleasesAddUp id a.journal.entries (views_of now))
        → CountsAllPutBy plan report (views_of now) → AllGetAskedFor plan orders report → EachNoticeIsTrue report
        → AnswersWatches plan report (views_of now) → IsReportOfRun after gives plan orders report
    story after report log answers saw runs seen answered whole letters handles_seen senders_seen home releases put asked notices watches =
        let knows = λ (s : OutsideSender). pass_view s.registrar.pass in
        let knew = λ (e : WorkerHandle A K). pass_view e.registrar.pass in
        let IsTold = λ (v : View). IsPart v.log log × ReportExtendsAll report v in record {
          directory = (first_home built.system.gates).value.directory;
          planned = of-plan gives plan built begun;
          log = log;
          outside = answers;
          same_count = answered.length_is ∙ ap (λ s. s.senders) system ∙ begun.numbers.1;
          whole = subst (λ (g : Gates (Box Contents)). IsCompleteReport after gives (first_home g).value.directory log answers report)
              (ap (λ s. s.gates) system) whole;
          homes = record {
            first = (first_home built.system.gates).value;
            same_directory = refl;
            view = home.view;
            home = subst (λ (n : ℕ). HomesReturned gives (first_home built.system.gates).value n home.view report) (sym built.system.directory)
                (subst (λ (g : Gates (Box Contents)). HomesReturned gives (first_home g).value (actors_of g) home.view report)
                (ap (λ s. s.gates) system) home.home);
            counted = home.counted;
          };
          knew = map knows now.senders.items;
          all_knew = length-mapped knows now.senders.items ∙ sent.same_count ∙ (senders-there gives plan built begun).0;
          handles = map knew now.handles.items;
          all_handles = length-mapped knew now.handles.items
              ∙ sym (length-mapped (λ (e : WorkerHandle A K). e.number) now.handles.items) ∙ ap length (handles ∙ (handles-there gives plan built begun)) ∙ length-numbers 0 plan.workers;
          seen = (
            All-map IsTold knows now.senders.items (λ k d lt. (seen.1 k d lt, senders_seen k d lt)),
            All-map IsTold knew now.handles.items (λ k d lt. (seen.0 k d lt, handles_seen k d lt)),
          );
          origin = origin_of built.system.gates;
          same_gates = (refl, sym built.system.directory);
          began = map knew built.handles.items;
          began_new = subst (λ (l : List (WorkerHandle A K)). AreNewViews (map knew l)) (sym begun.handles_are)
              (begun.created, all-blank built.system.gates 1 begun.others begun.others_are);
          runs = zip-mapped (OnlyRuns gives (origin_of built.system.gates) plan.throughput) knew built.handles.items now.handles.items runs;
          releases = releases;
          put = put;
          created = (
            begun.created.0,
            subst (λ l. IsPart l log) begun.created.1
                (led log begun.handle begun.others now.handles.items (subst (λ l. StillSee l now.handles.items) begun.handles_are saw) seen.0),
          );
          asked = asked;
          notices = notices;
          answers = watches;
          keep_letters = keep-letters report letters
              (whole.same_count.1
              ∙ ap (λ k. length (directory_of now) + k) (answered.length_is ∙ ap (λ s. s.senders) system ∙ begun.numbers.1));
          did = did-orders answers answered;
        }
