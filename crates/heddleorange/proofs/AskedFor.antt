-- In a run that gave a report, no system message came into an actor's list that was not asked for, and each that was asked for came into the list of
-- an actor that did not end.
use Rattle.std.proofs.Common.{◌≡◌, ◌≢◌, ◌≤◌, ◌+◌, ◌%◌, ◌^◌, ◌==◌, ℕ, Bool, true, false, List, [], ◌∷◌, ◌++◌, ℤ, ap, arith, length, map, refl, subst}
use Rattle.std.proofs.Common.{Some, sym, ◌∙◌}
use Rattle.std.specs.Prelude.{All, if◌then◌else◌, slice_get}
use Rattle.std.specs.Global.{Box}
use Rattle.std.specs.List.{flat_map}
use Rattle.std.proofs.lemmas.Bool.{eqb-true}
use Rattle.std.proofs.lemmas.List.Elements.{All-head, All-tail}
use Rattle.mb_actor.specs.Behaviour.{Moment, Reply}
use Rattle.mb_actor.specs.declared.message.Message.{Message}
use Rattle.mb_actor.specs.declared.phase.Phase.TheVariants.{Ended as EndedPhase}
use Rattle.mb_build.specs.Planned.{actors_in}
use Rattle.mb_dispatch.specs.Orders.{terminates_of}
use Rattle.mb_gate.specs.Accessors.{first_home}
use Rattle.mb_gate.specs.PutIn.{IsAllPut, put_by, put_in}
use Rattle.mb_gate.specs.Rule.{IsAmong}
use Rattle.mb_gate.specs.Releases.{ReleasesAddUp}
use Rattle.mb_gate.specs.Untouched.{Origin, origin_of}
use Rattle.mb_gate.specs.View.{View, Observation, Read, Saw, Counted, Looked, Sent, Unsent, Took, Pushed, Drained, Ended as EndedSight}
use Rattle.mb_gate.specs.declared.gates.Gates.{Gates}
use Rattle.mb_ghost.proofs.SeenLemmas.{each_weaker}
use Rattle.mb_ghost.proofs.SummedLemmas.{total_append}
use Rattle.mb_ghost.specs.Seen.{Each}
use Rattle.mb_ghost.specs.Shares.{IsWhole}
use Rattle.mb_ghost.specs.Summed.{total}
use Rattle.mb_home.specs.AtHome.{system_entries}
use Rattle.mb_home.specs.Contents.{Contents}
use Rattle.mb_home.specs.Directory.{DirectoryEntry}
use Rattle.mb_journal.specs.Identity.{Identity}
use Rattle.mb_journal.specs.Life.{closed, phase}
use Rattle.mb_journal.specs.Phase.{phase_is}
use Rattle.mb_mailbox.specs.RunSends.{ended_in}
use Rattle.mb_msg.specs.Limits.{most_actors}
use Rattle.mb_msg.specs.declared.id.ActorId.{ActorId}
use Rattle.mb_msg.specs.declared.order.Order.{Order}
use Rattle.mb_msg.specs.declared.plan.Plan.{Plan}
use Rattle.mb_msg.specs.declared.system.SysMsg.{SysMsg}
use Rattle.mb_msg.specs.declared.system.SysMsg.TheVariants.{Create, Died}
use Rattle.mb_queue.specs.Passes.{SendPassView}
use Rattle.mb_report.specs.declared.report.ActorReport.{ActorReport}
use Rattle.mb_report.specs.declared.report.Report.{Report}
use Rattle.mb_shutdown.proofs.Lists.{from-mapped, length-mapped, there, within}
use Rattle.mb_shutdown.specs.CompleteReport.{CountsSystems, IsReportOf}
use Rattle.mb_shutdown.specs.Seen.{ReportExtends, ReportExtendsAll}
use Rattle.mb_shutdown.specs.Refused.{CountsAllPut, PutAddsUpTo, ReleasesAddUpTo}
use Rattle.mb_startup.proofs.Directories.{of-plan, still-planned}
use Rattle.mb_startup.proofs.There.{senders-there}
use Rattle.mb_startup.specs.Begun.{AreNewHandles, AreNewSenders, IsBegun}
use Rattle.mb_syslist.specs.MessageList.{numbered}
use Rattle.mb_system.specs.Shares.{shares_of, shares_of_handles, views_of}
use Rattle.mb_system.specs.declared.built.Built.{Built}
use Rattle.mb_system.specs.declared.handle.WorkerHandle.{WorkerHandle}
use Rattle.mb_system.specs.Members.{OutsideSender}
use Rattle.heddleorange.specs.Asked.{GetsAskedFor, AllGetAskedFor, asked_for, due_by, due_in, measure_to}
use Rattle.heddleorange.specs.Notices.{EachNoticeIsTrue, IsTrueNotice}
use Rattle.heddleorange.specs.Sent.{HaveSent}
use Rattle.heddleorange.specs.WholeRun.{CountsAllPutBy}
use Rattle.heddleorange.specs.Workers.{AllOnlyRuns}
use Rattle.heddleorange.proofs.Covering.{runs-share}
use Rattle.heddleorange.proofs.Due.{due_to}
use Rattle.heddleorange.proofs.EndActs.{end_notice}
use Rattle.heddleorange.proofs.EndNotices.{ended-is, handles-none, senders-none}
use Rattle.heddleorange.proofs.Identified.{number-at}
use Rattle.heddleorange.proofs.Put.{AllPutAtMost, back, handles-put, put, senders-put, taken}
use Rattle.heddleorange.proofs.PutAll.{AllPutAll, ended, handles-put-all, once, senders-put-all}
use Rattle.heddleorange.proofs.Returns.{all-add-up, none-back, none-taken, reported}
use Rattle.heddleorange.proofs.Unchanged.{of-handle, of-sender, shares-kept}
use Rattle.heddleorange.proofs.WholeRun.{new-at}

-- what a report counts, without what was seen
abbrev unlogged : {log : List Observation} {who : Identity} {a : ActorReport} → CountsSystems log who a → CountsSystems [] who a
unlogged counts = record {
  pushed = counts.pushed;
  few = counts.few;
  known = tt;
  entered = counts.entered;
  once = counts.once;
  later = counts.later;
  all = counts.all;
  open_has_none = counts.open_has_none;
  dead = counts.dead;
}

-- numbers do not matter to a measure of messages
pub unnumbered : (measure : SysMsg → ℕ) (pushed : List SysMsg) (number : ℕ)
    → total (λ (m : ℕ × SysMsg). measure m.1) (numbered number pushed) ≡ total measure pushed
unnumbered measure [] number = refl
unnumbered measure (m ∷ pushed) number = ap (λ n. measure m + n) (unnumbered measure pushed ((number + 1) % 2 ^ 64))

module _ (to : ℕ) (measure : SysMsg → ℕ) where
  -- what reports come to is what their journals have to send
  pub reported-due : (whos : List Identity) (reports : List ActorReport)
      → reported (due_to to measure) whos reports ≡ total (measure_to to measure) (due_by whos reports)
  reported-due [] reports = refl
  reported-due (who ∷ whos) [] = refl
  reported-due (who ∷ whos) (a ∷ reports) =
      let rest = reported-due whos reports in
      let both = total_append (measure_to to measure) (due_in who a.journal.entries) (due_by whos reports) in omega (arith, rest, both)

  module _ (whos : List Identity) where
    -- Seats that put this into the list, and gave nothing back.
    pub record HavePut (many : ℕ) (vs : List View) : Type 0 where
      pub all_put : total (put to measure whos) vs ≡ many
      pub none_back : total (back to measure whos) vs ≡ 0
      pub none_taken : total (taken to measure whos) vs ≡ 0

    nobody : HavePut 0 []
    nobody = record { all_put = refl; none_back = refl; none_taken = refl }

    also : (one many : ℕ) (v : View) (vs : List View) → put to measure whos v ≡ one → v.releases ≡ [] → HavePut many vs → HavePut (one + many) (v ∷ vs)
    also one many v vs is none rest =
        let all = rest.all_put in let no_back = rest.none_back in let no_taken = rest.none_taken in
        let back_none = none-back (due_to to measure) 0 whos v none in let taken_none = none-taken (due_to to measure) 0 whos v none in
        record { all_put = omega (arith, is, all); none_back = omega (arith, back_none, no_back); none_taken = omega (arith, taken_none, no_taken) }

    blank-put : (v : View) → v.log ≡ [] → put to measure whos v ≡ 0
    blank-put v blank = ap (total (put_in to (λ m. measure m.1))) blank

    created-put : (v : View) (number : ℕ) → v.log ≡ Pushed 0 number Create ∷ [] → put to measure whos v ≡ measure_to to measure (0, Create)
    created-put v number created =
        let one = ap (total (put_in to (λ m. measure m.1))) created in omega (arith, one)

    module _ {A K : Type 0} (gates : Gates (Box Contents)) where
      new-handles-put : (number : ℕ) (handles : List (WorkerHandle A K)) → AreNewHandles gates number handles → HavePut 0 (map of-handle handles)
      new-handles-put number [] are = nobody
      new-handles-put number (e ∷ handles) are =
          also 0 0 (of-handle e) (map of-handle handles) (blank-put (of-handle e) are.0.blank) are.0.none_released (new-handles-put (number + 1) handles are.1)

    module _ (gates : Gates (Box Contents)) where
      new-senders-put : (number : ℕ) (rows : List (List SendPassView)) (senders : List OutsideSender) → AreNewSenders gates number rows senders
          → HavePut 0 (map of-sender senders)
      new-senders-put number [] [] are = nobody
      new-senders-put number [] (s ∷ senders) are = absurd are
      new-senders-put number (row ∷ rows) [] are = absurd are
      new-senders-put number (row ∷ rows) (s ∷ senders) are =
          also 0 0 (of-sender s) (map of-sender senders) (blank-put (of-sender s) are.0.blank) are.0.none_released
          (new-senders-put (number + 1) rows senders are.1)

    -- what all put and gave back, from the handles and from the senders
    all-put : (handles senders new_handles new_senders : List View) (create orders : ℕ) → HavePut create handles → HavePut 0 senders
        → AllPutAtMost to measure whos 0 handles new_handles → AllPutAtMost to measure whos orders senders new_senders
        → total (put to measure whos) (new_handles ++ new_senders) + total (taken to measure whos) (new_handles ++ new_senders)
        ≤ create + orders + total (back to measure whos) (new_handles ++ new_senders)
    all-put handles senders new_handles new_senders create orders first other by_handles by_senders =
        let e = first.all_put in let e_back = first.none_back in let e_taken = first.none_taken in
        let s = other.all_put in let s_back = other.none_back in let s_taken = other.none_taken in
        let puts = total_append (put to measure whos) new_handles new_senders in
        let backs = total_append (back to measure whos) new_handles new_senders in
        let takens = total_append (taken to measure whos) new_handles new_senders in
        omega (arith, e, e_back, e_taken, s, s_back, s_taken, puts, backs, takens, by_handles, by_senders)

    -- and where nobody found the actor's list ended, all of it was put there
    all-put-on : (handles senders new_handles new_senders : List View) (create orders : ℕ) → HavePut create handles → HavePut 0 senders
        → AllPutAll to measure whos 0 handles new_handles → AllPutAll to measure whos orders senders new_senders
        → total (ended to measure whos) (new_handles ++ new_senders) ≡ 0
        → create + orders + total (back to measure whos) (new_handles ++ new_senders)
        ≤ total (put to measure whos) (new_handles ++ new_senders) + total (taken to measure whos) (new_handles ++ new_senders)
    all-put-on handles senders new_handles new_senders create orders first other by_handles by_senders never =
        let found = total_append (ended to measure whos) new_handles new_senders in
        let of_handles = by_handles (omega (arith, never, found)) in let of_senders = by_senders (omega (arith, never, found)) in
        let e = first.all_put in let e_back = first.none_back in let e_taken = first.none_taken in
        let s = other.all_put in let s_back = other.none_back in let s_taken = other.none_taken in
        let puts = total_append (put to measure whos) new_handles new_senders in
        let backs = total_append (back to measure whos) new_handles new_senders in
        let takens = total_append (taken to measure whos) new_handles new_senders in
        omega (arith, e, e_back, e_taken, s, s_back, s_taken, puts, backs, takens, of_handles, of_senders)

-- ---- who was not found ended

module _ (report : Report) (id : ℕ) (a : ActorReport) (here : slice_get report.actors.items id ≡ Some a) (open_yet : a.phase ≢ EndedPhase) where
  -- it was not this actor's list
  another : (b : ℕ) → ((r : ActorReport) → slice_get report.actors.items b ≡ Some r → r.phase ≡ EndedPhase) → once (b == id) ≡ 0
  another b all = by_test (b == id) refl
    where
      by_test : (same : Bool) → (b == id) ≡ same → once same ≡ 0
      by_test true is = absurd (open_yet (all a (ap (slice_get report.actors.items) (eqb-true b id is) ∙ here)))
      by_test false is = refl

  never-in : (log : List Observation) → Each (ReportExtends report) log → total (ended_in id) log ≡ 0
  never-in [] each = refl
  never-in (Read b word ∷ log) each = let rest = never-in log each.1 in omega (arith, rest)
  never-in (Saw b journal ∷ log) each = let rest = never-in log each.1 in omega (arith, rest)
  never-in (Counted b waiting ∷ log) each = let rest = never-in log each.1 in omega (arith, rest)
  never-in (Looked b has_work ∷ log) each = let rest = never-in log each.1 in omega (arith, rest)
  never-in (Sent b n ∷ log) each = let rest = never-in log each.1 in omega (arith, rest)
  never-in (Unsent b n ∷ log) each = let rest = never-in log each.1 in omega (arith, rest)
  never-in (Took b n ∷ log) each = let rest = never-in log each.1 in omega (arith, rest)
  never-in (Pushed b n m ∷ log) each = let rest = never-in log each.1 in omega (arith, rest)
  never-in (Drained b given ∷ log) each = let rest = never-in log each.1 in omega (arith, rest)
  never-in (EndedSight b given ∷ log) each = let one = another b each.0 in let rest = never-in log each.1 in omega (arith, one, rest)

  module _ {E : Type 0} (knows : E → View) where
    never-seen : (es : List E) → All (λ (e : E). ReportExtendsAll report (knows e)) es → total (λ (v : View). total (ended_in id) v.log) (map knows es) ≡ 0
    never-seen [] all = refl
    never-seen (e ∷ es) all =
        let one = never-in (knows e).log (All-head (λ (x : E). ReportExtendsAll report (knows x)) e es all) in
        let rest = never-seen es (All-tail (λ (x : E). ReportExtendsAll report (knows x)) e es all) in omega (arith, one, rest)

  module _ {A K : Type 0} (now : Built A K) (handles_seen : All (λ (e : WorkerHandle A K). ReportExtendsAll report (of-handle e)) now.handles.items)
      (senders_seen : All (λ (s : OutsideSender). ReportExtendsAll report (of-sender s)) now.senders.items) where
    pub never-found : total (λ (v : View). total (ended_in id) v.log) (views_of now) ≡ 0
    never-found =
        let both = total_append (λ (v : View). total (ended_in id) v.log) (map of-handle now.handles.items) (map of-sender now.senders.items) in
        let handles = never-seen of-handle now.handles.items handles_seen in let senders = never-seen of-sender now.senders.items senders_seen in
        omega (arith, both, handles, senders)

-- handles that only made runs kept their shares
handles-shares : {A K : Type 0} (gives : ℕ → Moment → Reply → Type 0) (origin : Origin (Box Contents)) (throughput : ℕ) (old new : List (WorkerHandle A K))
    → AllOnlyRuns gives origin throughput old new → shares_of_handles new ≡ shares_of_handles old
handles-shares gives origin throughput [] [] all = refl
handles-shares gives origin throughput [] (n ∷ new) all = absurd all
handles-shares gives origin throughput (o ∷ old) [] all = absurd all
handles-shares gives origin throughput (o ∷ old) (n ∷ new) all =
    λ i. runs-share gives origin throughput (of-handle o) all.0.turns (of-handle n) all.0.made i ++ handles-shares gives origin throughput old new all.1 i

module _ {A K : Type 0} (gives : ℕ → Moment → Reply → Type 0) (plan : Plan) (orders : List (List Order)) (first now : Built A K)
    (begun : IsBegun gives plan first) (system : now.system ≡ first.system) (right : length orders ≡ plan.senders)
    (sent : HaveSent first.system.gates orders first.senders.items now.senders.items)
    (runs : AllOnlyRuns gives (origin_of first.system.gates) plan.throughput first.handles.items now.handles.items) where
  pub as_many : length first.senders.items ≡ length orders
  as_many = (senders-there gives plan first begun).0 ∙ sym right

  -- there are still no passes but those of the handles and senders
  pub whole-still : IsWhole (shares_of now)
  whole-still =
      let handles = handles-shares gives (origin_of first.system.gates) plan.throughput first.handles.items now.handles.items runs in
      let senders = shares-kept first.system.gates orders first.senders.items now.senders.items as_many sent in
      subst IsWhole (λ i. sym handles i ++ sym senders i) begun.whole

  -- the journals of the report are what came of the cells that these handles and senders gave back
  pub all-released : (report : Report) → ReleasesAddUpTo now report → (id : ℕ) (a : ActorReport) → slice_get report.actors.items id ≡ Some a
      → ReleasesAddUp id a.journal.entries (views_of now)
  all-released report released = released whole-still

  module _ (to : ℕ) (measure : SysMsg → ℕ) where
    abbrev whos : List Identity
    whos = actors_in plan

    pub first-handles : HavePut to measure whos (measure_to to measure (0, Create)) (map of-handle first.handles.items)
    first-handles =
        let rest = new-handles-put to measure whos first.system.gates 1 begun.others begun.others_are in
        let create = measure_to to measure (0, Create) in
        let all = also to measure whos create 0 (of-handle begun.handle) (map of-handle begun.others)
        (created-put to measure whos (of-handle begun.handle) begun.created.0 begun.created.1) begun.none_released rest in
        subst (λ n. HavePut to measure whos n (map of-handle first.handles.items)) (let same : create + 0 ≡ create = omega arith in same)
        (subst (λ l. HavePut to measure whos (create + 0) (map of-handle l)) (sym begun.handles_are) all)

    pub first-senders : HavePut to measure whos 0 (map of-sender first.senders.items)
    first-senders = new-senders-put to measure whos first.system.gates most_actors begun.outside first.senders.items begun.senders

    -- all that came into the list, and all that the journals have to send
    came : ((ended : ActorId) → measure (Died ended) ≡ 0) → total (put to measure whos) (views_of now) + total (taken to measure whos) (views_of now)
        ≤ measure_to to measure (0, Create) + total (measure_to to measure) (flat_map terminates_of orders) + total (back to measure whos) (views_of now)
    came silent =
        all-put to measure whos (map of-handle first.handles.items) (map of-sender first.senders.items) (map of-handle now.handles.items)
        (map of-sender now.senders.items) (measure_to to measure (0, Create)) (total (measure_to to measure) (flat_map terminates_of orders)) first-handles
        first-senders
        (handles-put to measure whos silent gives (origin_of first.system.gates) plan.throughput (of-plan gives plan first begun).who of-handle
        first.handles.items now.handles.items runs)
        (senders-put to measure whos orders first.senders.items now.senders.items as_many sent.same_count
        (λ place of before next is was now_is. (sent.each place of before next is was now_is).0)
        (λ place s was. (new-at first.system.gates most_actors begun.outside first.senders.items place s begun.senders was).2))

    came-all : total (ended to measure whos) (views_of now) ≡ 0
        → measure_to to measure (0, Create) + total (measure_to to measure) (flat_map terminates_of orders) + total (back to measure whos) (views_of now)
        ≤ total (put to measure whos) (views_of now) + total (taken to measure whos) (views_of now)
    came-all =
        all-put-on to measure whos (map of-handle first.handles.items) (map of-sender first.senders.items) (map of-handle now.handles.items)
        (map of-sender now.senders.items) (measure_to to measure (0, Create)) (total (measure_to to measure) (flat_map terminates_of orders)) first-handles
        first-senders
        (handles-put-all to measure whos gives (origin_of first.system.gates) plan.throughput (of-plan gives plan first begun).who of-handle
        first.handles.items now.handles.items runs)
        (senders-put-all to measure whos orders first.senders.items now.senders.items as_many sent.same_count
        (λ place of before next is was now_is. (sent.each place of before next is was now_is).0)
        (λ place s was. (new-at first.system.gates most_actors begun.outside first.senders.items place s begun.senders was).2))

    -- what all put into the list is asked for
    at-most : ((ended : ActorId) → measure (Died ended) ≡ 0) → (report : Report) → length report.actors.items ≡ length (actors_in plan) → ReleasesAddUpTo now report → (pushed : List SysMsg)
        → IsAllPut to pushed (views_of now) → total measure pushed ≤ total (measure_to to measure) (asked_for plan orders report)
    at-most silent report many released pushed all =
        let sum = all (λ m. measure m.1) in let plain = unnumbered measure pushed 0 in let most = came silent in
        let up = all-add-up (due_to to measure) (λ who. refl) 0 whos report.actors.items (views_of now) many
        (λ place a at. subst (λ n. ReleasesAddUp n a.journal.entries (views_of now)) (let same : place ≡ 0 + place = omega arith in same)
        (released whole-still place a at)) in
        let due = reported-due to measure whos report.actors.items in
        let both = total_append (measure_to to measure) (flat_map terminates_of orders) (due_by whos report.actors.items) in
        omega (arith, sum, plain, most, up, due, both)

    -- and all that is asked for was put there, where nobody found the list ended
    at-least : (report : Report) → length report.actors.items ≡ length (actors_in plan) → ReleasesAddUpTo now report → (pushed : List SysMsg)
        → IsAllPut to pushed (views_of now) → total (ended to measure whos) (views_of now) ≡ 0
        → total (measure_to to measure) (asked_for plan orders report) ≤ total measure pushed
    at-least report many released pushed all never =
        let sum = all (λ m. measure m.1) in let plain = unnumbered measure pushed 0 in let least = came-all never in
        let up = all-add-up (due_to to measure) (λ who. refl) 0 whos report.actors.items (views_of now) many
        (λ place a at. subst (λ n. ReleasesAddUp n a.journal.entries (views_of now)) (let same : place ≡ 0 + place = omega arith in same)
        (released whole-still place a at)) in
        let due = reported-due to measure whos report.actors.items in
        let both = total_append (measure_to to measure) (flat_map terminates_of orders) (due_by whos report.actors.items) in
        omega (arith, sum, plain, least, up, due, both)

  gets-asked : (report : Report) (who : Identity) (a : ActorReport) → length report.actors.items ≡ length (actors_in plan)
      → ReleasesAddUpTo now report → CountsAllPut now who a
      → (closed who a.journal.entries ≡ false → total (λ (v : View). total (ended_in who.this.0) v.log) (views_of now) ≡ 0)
      → GetsAskedFor (asked_for plan orders report) who a
  gets-asked report who a many released counted never =
      let counts = counted.counts in record {
        counts = unlogged counts;
        at_most = λ measure silent. at-most who.this.0 measure silent report many released counts.pushed counted.put;
        at_least = λ open_yet measure. at-least who.this.0 measure report many released counts.pushed counted.put (never open_yet);
      }

  -- what the report counts of each actor's list is what these handles and senders put there
  pub all-put-counted : (report : Report) → PutAddsUpTo now report → CountsAllPutBy plan report (views_of now)
  all-put-counted report counted id who a at here =
      let planned = still-planned gives plan first begun now system in
      let directory = (first_home now.system.gates).value.directory in
      let e = from-mapped (λ (e : DirectoryEntry). e.who) directory id who (ap (λ l. slice_get l id) planned.who ∙ at) in
      let all = counted whole-still id e.0 a e.1 here in
      subst (λ w. (counts : CountsSystems [] w a) × IsAllPut id counts.pushed (views_of now)) e.2 (
        unlogged all.counts,
        subst (λ n. IsAllPut n all.counts.pushed (views_of now)) (ap (λ w. w.this.0) e.2 ∙ number-at plan id who at) all.put,
      )

  pub all-get-asked : (report : Report) → length report.actors.items ≡ length (first_home now.system.gates).value.directory → PutAddsUpTo now report
      → ReleasesAddUpTo now report
      → ((id : ℕ) (e : DirectoryEntry) (a : ActorReport) → slice_get (first_home now.system.gates).value.directory id ≡ Some e
      → slice_get report.actors.items id ≡ Some a → a.phase ≡ phase e.who a.journal.entries)
      → All (λ (e : WorkerHandle A K). ReportExtendsAll report (of-handle e)) now.handles.items
      → All (λ (s : OutsideSender). ReportExtendsAll report (of-sender s)) now.senders.items → AllGetAskedFor plan orders report
  all-get-asked report many counted released phases handles_seen senders_seen = λ id who a at here.
      (let planned = still-planned gives plan first begun now system in
      let directory = (first_home now.system.gates).value.directory in
      let all : length report.actors.items ≡ length (actors_in plan) =
      many ∙ sym (length-mapped (λ (e : DirectoryEntry). e.who) directory) ∙ ap length planned.who in
      let e = from-mapped (λ (e : DirectoryEntry). e.who) directory id who (ap (λ l. slice_get l id) planned.who ∙ at) in
      let open_phase : closed (e.0).who a.journal.entries ≡ false → a.phase ≢ EndedPhase =
      λ open_yet is. false_true
      (sym open_yet ∙ ap (λ p. phase_is p EndedPhase) (sym (phases id e.0 a e.1 here) ∙ is)) in
      subst (λ w. GetsAskedFor (asked_for plan orders report) w a) e.2
      (gets-asked report (e.0).who a all released (counted whole-still id e.0 a e.1 here)
      (λ open_yet. subst (λ n. total (λ (v : View). total (ended_in n) v.log) (views_of now) ≡ 0)
      (sym (ap (λ w. w.this.0) e.2 ∙ number-at plan id who at))
      (never-found report id a here (open_phase open_yet) now handles_seen senders_seen))))
    where
      false_true : false ≡ true → ⊥
      false_true e = cc

  -- ---- notices of ends

  module _ (after : ℕ → List Message → ℤ) (report : Report) (many : length report.actors.items ≡ length (first_home now.system.gates).value.directory)
      (counted : PutAddsUpTo now report)
      (shows : (id : ℕ) (e : DirectoryEntry) (a : ActorReport) → slice_get (first_home now.system.gates).value.directory id ≡ Some e
      → slice_get report.actors.items id ≡ Some a → IsReportOf after gives e.who a)
      (handles_seen : All (λ (e : WorkerHandle A K). ReportExtendsAll report (of-handle e)) now.handles.items) where
    abbrev directory : List DirectoryEntry
    directory = (first_home now.system.gates).value.directory

    planned-are : map (λ (e : DirectoryEntry). e.who) directory ≡ actors_in plan
    planned-are = (still-planned gives plan first begun now system).who

    as-planned : length report.actors.items ≡ length (actors_in plan)
    as-planned = many ∙ sym (length-mapped (λ (e : DirectoryEntry). e.who) directory) ∙ ap length planned-are

    shown : (id : ℕ) (who : Identity) (a : ActorReport) → slice_get (actors_in plan) id ≡ Some who → slice_get report.actors.items id ≡ Some a
        → IsReportOf after gives who a
    shown id who a at here =
        let e = from-mapped (λ (e : DirectoryEntry). e.who) directory id who (ap (λ l. slice_get l id) planned-are ∙ at) in
        subst (λ w. IsReportOf after gives w a) e.2 (shows id e.0 a e.1 here)

    -- nobody put the notice of the end of an actor into a list that has not ended
    none-put : (to x : ℕ) (its : ActorReport) → slice_get report.actors.items x ≡ Some its → its.phase ≢ EndedPhase
        → total (put_by to (λ m. end_notice x m.1)) (views_of now) ≡ 0
    none-put to x its here open_yet =
        let handles = handles-none after gives (actors_in plan) report as-planned shown x its here open_yet to (origin_of first.system.gates) plan.throughput
        (of-plan gives plan first begun).who of-handle first.handles.items now.handles.items runs handles_seen in
        let senders = senders-none to x orders first.senders.items now.senders.items as_many sent.same_count
        (λ place of before next is was now_is. (sent.each place of before next is was now_is).0)
        (λ place s was. (new-at first.system.gates most_actors begun.outside first.senders.items place s begun.senders was).2) in
        let of_handles = (first-handles to (end_notice x)).all_put in let of_senders = (first-senders to (end_notice x)).all_put in
        let created = by_test (0 == to) in
        let both = total_append (put_by to (λ m. end_notice x m.1)) (map of-handle now.handles.items) (map of-sender now.senders.items) in
        omega (arith, handles, senders, of_handles, of_senders, created, both)
      where
        by_test : (b : Bool) → ◌≡◌ {A = ℕ} (if b then 0 else 0) 0
        by_test true = refl
        by_test false = refl

    same-number : (n : ℕ) → (n == n) ≡ true
    same-number n = grind arith

    counts-among : (f : ℕ × SysMsg → ℕ) (m : ℕ × SysMsg) (items : List (ℕ × SysMsg)) → IsAmong m items → f m ≤ total f items
    counts-among f m items among =
        let all = ap (total f) among.joined ∙ total_append f among.before (m ∷ among.after) in omega (arith, all)

    true-notice : (id : ℕ) (pushed : List SysMsg) → IsAllPut id pushed (views_of now) → (m : ℕ × SysMsg) → IsAmong m (numbered 0 pushed)
        → IsTrueNotice report m.1
    true-notice id pushed all m among ended is x at = by_test (phase_is x.phase EndedPhase) refl
      where
        false_true : false ≡ true → ⊥
        false_true e = cc

        counts-once : end_notice ended.0 m.1 ≡ 1
        counts-once = ap (end_notice ended.0) is ∙ ap (λ b. if b then 1 else 0) (same-number ended.0)

        never : (x.phase ≢ EndedPhase) → ⊥
        never open_yet =
            let none = none-put id ended.0 x at open_yet in let sum = all (λ n. end_notice ended.0 n.1) in
            let once_there = counts-among (λ n. end_notice ended.0 n.1) m (numbered 0 pushed) among in
            let one = counts-once in absurd (omega (arith, none, sum, once_there, one))

        by_test : (b : Bool) → phase_is x.phase EndedPhase ≡ b → x.phase ≡ EndedPhase
        by_test true shut = ended-is x.phase shut
        by_test false open_yet = absurd (never (λ same. false_true (sym open_yet ∙ ap (λ p. phase_is p EndedPhase) same)))

    -- each notice of an end that has an entry is true
    pub all-notices-true : EachNoticeIsTrue report
    all-notices-true = λ id a here.
        (let lt = within report.actors.items id a here in
        let e = there directory id (omega (arith, lt, many)) in
        let all = counted whole-still id e.0 a e.1 here in
        each_weaker (λ (m : ℕ × SysMsg). IsAmong m (numbered 0 all.counts.pushed)) (λ (m : ℕ × SysMsg). IsTrueNotice report m.1)
        (system_entries a.journal.entries) (λ m among. true-notice (e.0).who.this.0 all.counts.pushed all.put m among) all.counts.entered)
