-- In a run that gave a report, each Watch that an actor has to send was put into the list that it is for, or was answered beside the notices of ends
-- that journals have to send.
use Rattle.std.proofs.Common.{◌≡◌, ◌≤◌, ◌+◌, ◌==◌, ℕ, zero, suc, Bool, true, false, if◌then◌else◌, List, [], ◌∷◌, ◌++◌, Some, None, ap, arith, length, map, refl, subst, sym, ◌∙◌}
use Rattle.std.specs.Prelude.{All, slice_get}
use Rattle.std.specs.Global.{Box}
use Rattle.std.specs.List.{AllZip, flat_map}
use Rattle.std.proofs.lemmas.Option.{none-some, same_Some}
use Rattle.mb_actor.specs.Behaviour.{Moment, Reply}
use Rattle.mb_build.specs.Planned.{actors_in}
use Rattle.mb_dispatch.specs.Orders.{HasSent}
use Rattle.mb_dispatch.specs.Runs.{MadeRuns, OnlyRuns, RanMailbox}
use Rattle.mb_gate.specs.Accessors.{first_home, held_actor, pass_view}
use Rattle.mb_gate.specs.PutIn.{put_in}
use Rattle.mb_gate.specs.Releases.{ReleasesAddUp}
use Rattle.mb_gate.specs.SentSystem.{Answered, Dropped, IsRightPart, Listed, Parting, SplitClaim, answered_to, due_of_part, due_since, notice, sent_by_part}
use Rattle.mb_gate.specs.Untouched.{Origin, origin_of}
use Rattle.mb_gate.specs.View.{Observation, Release, SentSystem, View}
use Rattle.mb_ghost.proofs.SummedLemmas.{total_append}
use Rattle.mb_ghost.specs.Seen.{Each}
use Rattle.mb_ghost.specs.Summed.{total}
use Rattle.mb_home.specs.Contents.{Contents}
use Rattle.mb_home.specs.Directory.{DirectoryEntry}
use Rattle.mb_journal.specs.Entry.{Entry}
use Rattle.mb_journal.specs.Identity.{Identity}
use Rattle.mb_journal.specs.Life.{closed}
use Rattle.mb_mailbox.proofs.ListedLemmas.{puts-sum}
use Rattle.mb_mailbox.specs.RunSends.{IsSentByRun, ended_in, listed_measure, refused_of}
use Rattle.mb_mailbox.specs.declared.turn.Turn.{Turn}
use Rattle.mb_msg.specs.Limits.{most_actors}
use Rattle.mb_msg.specs.declared.order.Order.{Order}
use Rattle.mb_msg.specs.declared.plan.Plan.{Plan}
use Rattle.mb_msg.specs.declared.system.SysMsg.{SysMsg}
use Rattle.mb_msg.specs.declared.system.SysMsg.TheVariants as system
use Rattle.mb_report.specs.declared.report.ActorReport.{ActorReport}
use Rattle.mb_report.specs.declared.report.Report.{Report}
use Rattle.mb_shutdown.proofs.Lists.{length-mapped, mapped-to}
use Rattle.mb_shutdown.specs.Refused.{ReleasesAddUpTo}
use Rattle.mb_shutdown.specs.Seen.{ReportExtendsAll}
use Rattle.mb_startup.proofs.Directories.{of-plan, still-planned}
use Rattle.mb_startup.specs.Begun.{IsBegun}
use Rattle.mb_system.specs.Members.{OutsideSender}
use Rattle.mb_system.specs.OnlyLooks.{OnlyLooks}
use Rattle.mb_system.specs.Shares.{views_of}
use Rattle.mb_system.specs.declared.built.Built.{Built}
use Rattle.mb_system.specs.declared.handle.WorkerHandle.{WorkerHandle}
use Rattle.heddleorange.specs.Answered.{AnswersWatches, end_of, watch_by}
use Rattle.heddleorange.specs.Asked.{measure_to}
use Rattle.heddleorange.specs.Sent.{HaveSent}
use Rattle.heddleorange.specs.Workers.{AllOnlyRuns}
use Rattle.heddleorange.proofs.AskedFor.{as_many, first-handles, first-senders, never-found, reported-due, whole-still}
use Rattle.heddleorange.proofs.Due.{due-split, due_to}
use Rattle.heddleorange.proofs.Put.{back, put, taken}
use Rattle.heddleorange.proofs.Returns.{all-add-up, all-one, all-same, own-at}
use Rattle.heddleorange.proofs.Unchanged.{of-handle, of-sender}
use Rattle.heddleorange.proofs.WholeRun.{new-at}

none-if : (b : Bool) (n : ℕ) → n ≡ 0 → (if b then n else 0) ≡ 0
none-if true n none = none
none-if false n none = refl

none-here : (b : Bool) (n : ℕ) → ◌≡◌ {A = ℕ} (if b then 1 else 0) 0 → (if b then n else 0) ≡ 0
none-here true n none = absurd (omega (arith, none))
none-here false n none = refl

both-sums : {X : Type 0} (f g : X → ℕ) (xs : List X) → total (λ x. f x + g x) xs ≡ total f xs + total g xs
both-sums f g [] = refl
both-sums f g (x ∷ xs) = let rest = both-sums f g xs in omega (arith, rest)

module _ (watcher x : ℕ) where
  -- ---- what a run sends

  -- a message that nobody waits for is no Watch
  not-watched : (actor : ℕ) (m : SysMsg) → answered_to actor m ≡ None → watch_by watcher m ≡ 0
  not-watched actor (system.Watch w) nobody = absurd (none-some w.0 (sym nobody))
  not-watched actor system.Create nobody = refl
  not-watched actor system.Suspend nobody = refl
  not-watched actor (system.Resume f) nobody = refl
  not-watched actor (system.Recreate c) nobody = refl
  not-watched actor (system.Failed y c) nobody = refl
  not-watched actor system.Terminate nobody = refl
  not-watched actor (system.Unwatch w) nobody = refl
  not-watched actor (system.Died y) nobody = refl

  -- a notice to the watcher came into its list, which was not ended
  one-answer : (receiver whom : ℕ) (ended : Bool) → ◌≡◌ {A = ℕ} (if ended then (if whom == watcher then 1 else 0) else 0) 0
      → ◌≤◌ (if receiver == x then (if whom == watcher then 1 else 0) else 0)
      (listed_measure watcher (end_of x) (record { to = whom; message = notice receiver; was_ended = ended }))
  one-answer receiver whom ended none = by_tests (receiver == x) (whom == watcher) ended none
    where
      by_tests : (here is gone : Bool) → ◌≡◌ {A = ℕ} (if gone then (if is then 1 else 0) else 0) 0
          → ◌≤◌ (if here then (if is then 1 else 0) else 0) (if gone then 0 else if is then (if here then 1 else 0) else 0)
      by_tests true true true none = absurd (omega (arith, none))
      by_tests true true false none = omega arith
      by_tests true false gone none = omega arith
      by_tests false is gone none = omega arith

  -- the Watches by the one that are to be sent to the other, and the notices of the other's end to the one
  abbrev due_both : List (ℕ × SysMsg) → ℕ
  due_both list = total (measure_to x (watch_by watcher)) list + total (measure_to watcher (end_of x)) list

  -- Each Watch that is due in these parts came into the list that it is for, or a notice came into the watcher's; and so did each notice that is due.
  abbrev IsPaid : ℕ → List SplitClaim → Type 0
  IsPaid actor parts = total (refused_of watcher) (flat_map (sent_by_part actor) parts) ≡ 0
      → due_both (flat_map due_of_part parts)
      ≤ total (listed_measure x (watch_by watcher)) (flat_map (sent_by_part actor) parts)
      + total (listed_measure watcher (end_of x)) (flat_map (sent_by_part actor) parts)

  abbrev IsPaidPart : ℕ → SplitClaim → Type 0
  IsPaidPart actor p = total (refused_of watcher) (sent_by_part actor p) ≡ 0
      → due_both (due_of_part p)
      ≤ total (listed_measure x (watch_by watcher)) (sent_by_part actor p) + total (listed_measure watcher (end_of x)) (sent_by_part actor p)

  -- a message that is no Watch
  unwatched-part : (actor receiver : ℕ) (message : SysMsg) (whom : ℕ) (ended : Bool) → watch_by watcher message ≡ 0
      → IsPaidPart actor (Answered receiver message whom ended)
  unwatched-part actor receiver message whom ended silent none =
      let one = none-if (receiver == x) (watch_by watcher message) silent in
      let away = none-here (receiver == watcher) (end_of x message) (omega (arith, none)) in omega (arith, one, away)

  paid-part : (actor : ℕ) (shut : Bool) (p : SplitClaim) → IsRightPart actor shut p → IsPaidPart actor p
  paid-part actor shut (Listed receiver message) right none = omega arith
  paid-part actor shut (Dropped receiver message) right none =
      let one = none-if (receiver == x) (watch_by watcher message) (not-watched actor message right) in
      let away = none-here (receiver == watcher) (end_of x message) (omega (arith, none)) in omega (arith, one, away)
  paid-part actor shut (Parting whom ended) right none = omega arith
  paid-part actor shut (Answered receiver (system.Watch w) whom ended) right none =
      subst (λ n. IsPaidPart actor (Answered receiver (system.Watch w) n ended)) (same_Some w.0 whom right) own none
    where
      own : IsPaidPart actor (Answered receiver (system.Watch w) w.0 ended)
      own none =
          let one = one-answer receiver w.0 ended (omega (arith, none)) in let away = none-if (receiver == watcher) 0 refl in omega (arith, one, away)
  paid-part actor shut (Answered receiver system.Create whom ended) right none = unwatched-part actor receiver system.Create whom ended refl none
  paid-part actor shut (Answered receiver system.Suspend whom ended) right none = unwatched-part actor receiver system.Suspend whom ended refl none
  paid-part actor shut (Answered receiver (system.Resume f) whom ended) right none = unwatched-part actor receiver (system.Resume f) whom ended refl none
  paid-part actor shut (Answered receiver (system.Recreate c) whom ended) right none = unwatched-part actor receiver (system.Recreate c) whom ended refl none
  paid-part actor shut (Answered receiver (system.Failed y c) whom ended) right none = unwatched-part actor receiver (system.Failed y c) whom ended refl none
  paid-part actor shut (Answered receiver system.Terminate whom ended) right none = unwatched-part actor receiver system.Terminate whom ended refl none
  paid-part actor shut (Answered receiver (system.Unwatch w) whom ended) right none = unwatched-part actor receiver (system.Unwatch w) whom ended refl none
  paid-part actor shut (Answered receiver (system.Died y) whom ended) right none = unwatched-part actor receiver (system.Died y) whom ended refl none

  paid-parts : (actor : ℕ) (shut : Bool) (parts : List SplitClaim) → Each (IsRightPart actor shut) parts → IsPaid actor parts
  paid-parts actor shut [] right none = omega arith
  paid-parts actor shut (p ∷ parts) right none =
      let refused = total_append (refused_of watcher) (sent_by_part actor p) (flat_map (sent_by_part actor) parts) in
      let first = paid-part actor shut p right.0 (omega (arith, none, refused)) in
      let rest = paid-parts actor shut parts right.1 (omega (arith, none, refused)) in
      let listed = total_append (listed_measure x (watch_by watcher)) (sent_by_part actor p) (flat_map (sent_by_part actor) parts) in
      let told = total_append (listed_measure watcher (end_of x)) (sent_by_part actor p) (flat_map (sent_by_part actor) parts) in
      let due = total_append (measure_to x (watch_by watcher)) (due_of_part p) (flat_map due_of_part parts) in
      let ends = total_append (measure_to watcher (end_of x)) (due_of_part p) (flat_map due_of_part parts) in
      omega (arith, first, rest, listed, told, due, ends)

  -- what a journal has to send of both
  abbrev due_of : Identity → List Entry → ℕ
  due_of who journal = due_to x (watch_by watcher) who journal + due_to watcher (end_of x) who journal

  -- what a journal has to send by one measure is what the one before has to send, and what the new entries have
  due-since : (to : ℕ) (measure : SysMsg → ℕ) (who : Identity) (journal newer before : List Entry) → journal ≡ newer ++ before
      → due_to to measure who journal ≡ due_to to measure who before + total (measure_to to measure) (due_since who newer before)
  due-since to measure who journal newer before joined =
      ap (λ l. due_to to measure who l) joined ∙ ap (total (measure_to to measure)) (due-split who newer before)
      ∙ total_append (measure_to to measure) (due_since who before []) (due_since who newer before)

  -- the same of the new entries of a run
  run-paid : (who : Identity) (actor : ℕ) (journal before : List Entry) (rest : List (ℕ × SysMsg)) (steps : List Observation) (told : List SentSystem)
      → IsSentByRun who actor journal before rest steps told → total (refused_of watcher) told ≡ 0
      → due_of who journal
      ≤ due_of who before + total (listed_measure x (watch_by watcher)) told + total (listed_measure watcher (end_of x)) told
  run-paid who actor journal before rest steps told is none =
      let refused = ap (total (refused_of watcher)) is.sent_system_is in
      let parts = paid-parts actor (closed who journal) is.parts is.right (omega (arith, none, refused)) in
      let listed = ap (total (listed_measure x (watch_by watcher))) is.sent_system_is in
      let noticed = ap (total (listed_measure watcher (end_of x))) is.sent_system_is in
      let due = ap (total (measure_to x (watch_by watcher))) is.due_is in
      let ends = ap (total (measure_to watcher (end_of x))) is.due_is in
      let all = due-since x (watch_by watcher) who journal is.newer before is.joined in
      let all_ends = due-since watcher (end_of x) who journal is.newer before is.joined in
      omega (arith, parts, listed, noticed, due, ends, all, all_ends)

  module _ (whos : List Identity) where
    -- how often the seat found the watcher's list ended
    abbrev ended : View → ℕ
    ended v = total (ended_in watcher) v.log

    -- the Watches that the seat put into the one list, and the notices that it put into the other
    abbrev watched : View → ℕ
    watched v = put x (watch_by watcher) whos v

    abbrev noticed : View → ℕ
    noticed v = put watcher (end_of x) whos v

    abbrev given : View → ℕ
    given v = back x (watch_by watcher) whos v + back watcher (end_of x) whos v

    abbrev got : View → ℕ
    got v = taken x (watch_by watcher) whos v + taken watcher (end_of x) whos v

    -- The seat forgets no list that it found ended. If it found the watcher's never ended, it put a Watch or a notice since for each Watch and each notice
    -- that the journals have to send since.
    record PaysAll (old new : View) : Type 0 where
      grows : ended old ≤ ended new
      all : ended new ≡ 0 → watched old + noticed old + given new + got old ≤ watched new + noticed new + got new + given old

    -- the same of all of these seats
    abbrev AllPayAll : List View → List View → Type 0
    AllPayAll old new = total ended new ≡ 0
        → total watched old + total noticed old + total given new + total got old ≤ total watched new + total noticed new + total got new + total given old

    looked : (old new : View) → OnlyLooks old new → PaysAll old new
    looked old new looks =
        let found = ap (total (ended_in watcher)) looks.log ∙ total_append (ended_in watcher) looks.looks old.log in
        let first = ap (total (put_in x (λ (m : ℕ × SysMsg). watch_by watcher m.1))) looks.log
        ∙ total_append (put_in x (λ (m : ℕ × SysMsg). watch_by watcher m.1)) looks.looks old.log in
        let second = ap (total (put_in watcher (λ (m : ℕ × SysMsg). end_of x m.1))) looks.log
        ∙ total_append (put_in watcher (λ (m : ℕ × SysMsg). end_of x m.1)) looks.looks old.log in
        let same = all-same (due_to x (watch_by watcher)) 0 whos old new looks.gives_back in
        let same_ends = all-same (due_to watcher (end_of x)) 0 whos old new looks.gives_back in
        record { grows = omega (arith, found); all = λ never. omega (arith, first, second, same, same_ends) }

    after : (old mid new : View) → PaysAll old mid → PaysAll mid new → PaysAll old new
    after old mid new first last =
        let one = first.grows in let two = last.grows in record {
          grows = omega (arith, one, two);
          all = λ never. (let before = first.all (omega (arith, two, never)) in let later = last.all never in omega (arith, before, later));
        }

    module _ (gives : ℕ → Moment → Reply → Type 0) (origin : Origin (Box Contents)) (throughput : ℕ)
        (named : map (λ (e : DirectoryEntry). e.who) origin.first.value.directory ≡ whos) where
      ran : (old new : View) (turn : Turn) → RanMailbox gives origin throughput old new turn → PaysAll old new
      ran old new turn run =
          let home = run.claim.home.value in let who = home.cell.who in let left = run.left in let own = run.fresh.same_gates.of_actor in
          let actor = held_actor run.claim in
          let at : slice_get whos actor ≡ Some who =
          ap (slice_get whos) (sym own.number)
          ∙ mapped-to (λ (e : DirectoryEntry). e.who) origin.first.value.directory whos who.this.0 _ named
          (ap (λ l. slice_get l who.this.0) (sym own.directory) ∙ own.settled.is_own.enrolled) in
          let found = left.refused watcher in
          let more = puts-sum x (watch_by watcher) left.told old new left.puts in
          let notices = puts-sum watcher (end_of x) left.told old new left.puts in
          let own_release : Release = record { actor = actor; taken = home.cell.journal; back = run.journal } in
          let returns = all-one (due_to x (watch_by watcher)) 0 whos old new own_release left.gives_back in
          let returns_ends = all-one (due_to watcher (end_of x)) 0 whos old new own_release left.gives_back in
          let first = own-at (due_to x (watch_by watcher)) home.cell.journal actor 0 whos actor who at (omega arith) in
          let first_ends = own-at (due_to watcher (end_of x)) home.cell.journal actor 0 whos actor who at (omega arith) in
          let last = own-at (due_to x (watch_by watcher)) run.journal actor 0 whos actor who at (omega arith) in
          let last_ends = own-at (due_to watcher (end_of x)) run.journal actor 0 whos actor who at (omega arith) in record {
            grows = omega (arith, found);
            all = λ never.
                (let due = run-paid who actor run.journal home.cell.journal home.rest left.steps left.told left.told_is (omega (arith, found, never)) in
                omega (arith, more, notices, due, returns, returns_ends, first, first_ends, last, last_ends));
          }

      made-runs : (old : View) (turns : List Turn) (new : View) → MadeRuns gives origin throughput old turns new → PaysAll old new
      made-runs old [] new made = looked old new made
      made-runs old (turn ∷ turns) new made =
          after old made.0 new (looked old made.0 made.2) (after made.0 made.1 new (ran made.0 made.1 turn made.3) (made-runs made.1 turns new made.4))

      module _ {E : Type 0} (knows : E → View) where
        handles-pay : (old new : List E) → AllZip (λ (o n : E). OnlyRuns gives origin throughput (knows o) (knows n)) old new
            → AllPayAll (map knows old) (map knows new)
        handles-pay [] [] all never = omega arith
        handles-pay [] (n ∷ new) all never = absurd all
        handles-pay (o ∷ old) [] all never = absurd all
        handles-pay (o ∷ old) (n ∷ new) all never =
            let first = (made-runs (knows o) all.0.turns (knows n) all.0.made).all (omega (arith, never)) in
            let rest = handles-pay old new all.1 (omega (arith, never)) in omega (arith, first, rest)

    -- ---- senders

    abbrev sees : OutsideSender → View
    sees s = pass_view s.registrar.pass

    has-sent : (orders : List Order) (old new : OutsideSender) → HasSent orders old new → (sees old).sent_system ≡ []
        → watched (sees old) + noticed (sees old) + given (sees new) + got (sees old)
        ≤ watched (sees new) + noticed (sees new) + got (sees new) + given (sees old)
    has-sent orders old new sent none =
        let first = sent.put x (watch_by watcher) in let second = sent.put watcher (end_of x) in
        let first_none = ap (total (listed_measure x (watch_by watcher))) none in
        let second_none = ap (total (listed_measure watcher (end_of x))) none in
        let returns = all-same (due_to x (watch_by watcher)) 0 whos (sees old) (sees new) sent.gives_back in
        let returns_ends = all-same (due_to watcher (end_of x)) 0 whos (sees old) (sees new) sent.gives_back in
        omega (arith, first, second, first_none, second_none, returns, returns_ends)

    senders-pay : (orders : List (List Order)) (old new : List OutsideSender) → length old ≡ length orders → length new ≡ length old
        → ((place : ℕ) (of : List Order) (before next : OutsideSender) → slice_get orders place ≡ Some of → slice_get old place ≡ Some before
        → slice_get new place ≡ Some next → HasSent of before next)
        → ((place : ℕ) (s : OutsideSender) → slice_get old place ≡ Some s → (sees s).sent_system ≡ [])
        → total watched (map sees old) + total noticed (map sees old) + total given (map sees new) + total got (map sees old)
        ≤ total watched (map sees new) + total noticed (map sees new) + total got (map sees new) + total given (map sees old)
    senders-pay [] [] [] many still each none = omega arith
    senders-pay [] (o ∷ old) new many still each none = absurd (omega (arith, many))
    senders-pay (of ∷ orders) [] new many still each none = absurd (omega (arith, many))
    senders-pay [] [] (n ∷ new) many still each none = absurd (omega (arith, still))
    senders-pay (of ∷ orders) (o ∷ old) [] many still each none = absurd (omega (arith, still))
    senders-pay (of ∷ orders) (o ∷ old) (n ∷ new) many still each none =
        let first = has-sent of o n (each zero of o n refl refl refl) (none zero o refl) in
        let rest = senders-pay orders old new (omega (arith, many)) (omega (arith, still)) (λ k l a b is was now. each (suc k) l a b is was now)
        (λ k s was. none (suc k) s was) in omega (arith, first, rest)

-- ---- all seats

module _ {A K : Type 0} (gives : ℕ → Moment → Reply → Type 0) (plan : Plan) (orders : List (List Order)) (first now : Built A K)
    (begun : IsBegun gives plan first) (system : now.system ≡ first.system) (right : length orders ≡ plan.senders)
    (sent : HaveSent first.system.gates orders first.senders.items now.senders.items)
    (runs : AllOnlyRuns gives (origin_of first.system.gates) plan.throughput first.handles.items now.handles.items) where
  pub all-watches-answered : (report : Report) → length report.actors.items ≡ length (first_home now.system.gates).value.directory
      → ReleasesAddUpTo now report → All (λ (e : WorkerHandle A K). ReportExtendsAll report (of-handle e)) now.handles.items
      → All (λ (s : OutsideSender). ReportExtendsAll report (of-sender s)) now.senders.items → AnswersWatches plan report (views_of now)
  all-watches-answered report many released handles_seen senders_seen = λ watcher x b here open_yet.
      (let whos = actors_in plan in
      let planned = still-planned gives plan first begun now system in
      let directory = (first_home now.system.gates).value.directory in
      let as_planned : length report.actors.items ≡ length whos =
      many ∙ sym (length-mapped (λ (e : DirectoryEntry). e.who) directory) ∙ ap length planned.who in
      let never = never-found report watcher b here open_yet now handles_seen senders_seen in
      let found = total_append (ended watcher x whos) (map of-handle now.handles.items) (map of-sender now.senders.items) in
      let handles = handles-pay watcher x whos gives (origin_of first.system.gates) plan.throughput (of-plan gives plan first begun).who of-handle
      first.handles.items now.handles.items runs (omega (arith, never, found)) in
      let senders = senders-pay watcher x whos orders first.senders.items now.senders.items
      (as_many gives plan orders first now begun system right sent runs) sent.same_count
      (λ place of before next is was now_is. (sent.each place of before next is was now_is).0)
      (λ place s was. (new-at first.system.gates most_actors begun.outside first.senders.items place s begun.senders was).2) in
      let none_given : (vs : List View) → total (back x (watch_by watcher) whos) vs ≡ 0 → total (back watcher (end_of x) whos) vs ≡ 0
      → total (given watcher x whos) vs ≡ 0 =
      λ vs none none_ends. (let sum = both-sums (back x (watch_by watcher) whos) (back watcher (end_of x) whos) vs in omega (arith, sum, none, none_ends)) in
      let none_got : (vs : List View) → total (taken x (watch_by watcher) whos) vs ≡ 0 → total (taken watcher (end_of x) whos) vs ≡ 0
      → total (got watcher x whos) vs ≡ 0 =
      λ vs none none_ends. (let sum = both-sums (taken x (watch_by watcher) whos) (taken watcher (end_of x) whos) vs in omega (arith, sum, none, none_ends)) in
      let new_handles = first-handles gives plan orders first now begun system right sent runs x (watch_by watcher) in
      let ends_handles = first-handles gives plan orders first now begun system right sent runs watcher (end_of x) in
      let new_senders = first-senders gives plan orders first now begun system right sent runs x (watch_by watcher) in
      let ends_senders = first-senders gives plan orders first now begun system right sent runs watcher (end_of x) in
      let handles_back = none_given (map of-handle first.handles.items) new_handles.none_back ends_handles.none_back in
      let handles_taken = none_got (map of-handle first.handles.items) new_handles.none_taken ends_handles.none_taken in
      let senders_back = none_given (map of-sender first.senders.items) new_senders.none_back ends_senders.none_back in
      let senders_taken = none_got (map of-sender first.senders.items) new_senders.none_taken ends_senders.none_taken in
      let watches = total_append (watched watcher x whos) (map of-handle now.handles.items) (map of-sender now.senders.items) in
      let notices = total_append (noticed watcher x whos) (map of-handle now.handles.items) (map of-sender now.senders.items) in
      let backs = total_append (given watcher x whos) (map of-handle now.handles.items) (map of-sender now.senders.items) in
      let takens = total_append (got watcher x whos) (map of-handle now.handles.items) (map of-sender now.senders.items) in
      let sum_back = both-sums (back x (watch_by watcher) whos) (back watcher (end_of x) whos) (views_of now) in
      let sum_taken = both-sums (taken x (watch_by watcher) whos) (taken watcher (end_of x) whos) (views_of now) in
      let each : (place : ℕ) (a : ActorReport) → slice_get report.actors.items place ≡ Some a → ReleasesAddUp (0 + place) a.journal.entries (views_of now) =
      λ place a at. subst (λ n. ReleasesAddUp n a.journal.entries (views_of now)) (let same : place ≡ 0 + place = omega arith in same)
      (released (whole-still gives plan orders first now begun system right sent runs) place a at) in
      let up = all-add-up (due_to x (watch_by watcher)) (λ who. refl) 0 whos report.actors.items (views_of now) as_planned each in
      let up_ends = all-add-up (due_to watcher (end_of x)) (λ who. refl) 0 whos report.actors.items (views_of now) as_planned each in
      let due = reported-due x (watch_by watcher) whos report.actors.items in
      let due_ends = reported-due watcher (end_of x) whos report.actors.items in
      omega (
        arith,
        handles,
        senders,
        handles_back,
        handles_taken,
        senders_back,
        senders_taken,
        watches,
        notices,
        backs,
        takens,
        sum_back,
        sum_taken,
        up,
        up_ends,
        due,
        due_ends,
      ))
