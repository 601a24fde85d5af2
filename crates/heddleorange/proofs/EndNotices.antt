-- In a run that gave a report, nobody put the notice of an actor's end into a list unless the report shows that actor as ended.
use Rattle.std.proofs.Common.{◌≡◌, ◌≢◌, ◌⊎◌, inl, inr, ◌≤◌, ◌+◌, ◌==◌, ℕ, zero, suc, Bool, true, false, if◌then◌else◌, List, [], ◌∷◌, ◌++◌, Some, ℤ}
use Rattle.std.proofs.Common.{ap, arith, length, map, refl, reverse, subst, sym, ◌∙◌}
use Rattle.std.specs.Prelude.{All, slice_get}
use Rattle.std.specs.Global.{Box}
use Rattle.std.specs.List.{AllZip, flat_map}
use Rattle.std.proofs.lemmas.Bool.{eqb-true}
use Rattle.std.proofs.lemmas.List.{append-nil}
use Rattle.std.proofs.lemmas.List.Elements.{All-head, All-tail}
use Rattle.std.proofs.lemmas.Option.{same_Some}
use Rattle.mb_actor.specs.Behaviour.{Moment, Reply}
use Rattle.mb_actor.specs.declared.message.Message.{Message}
use Rattle.mb_actor.specs.declared.phase.Phase.{Phase}
use Rattle.mb_actor.specs.declared.phase.Phase.TheVariants.{Broken, Ended as EndedPhase, Ending, Fresh, Live}
use Rattle.mb_dispatch.specs.Orders.{HasSent, addressed_system, over, terminates_of, terminates_of_one}
use Rattle.mb_dispatch.specs.Runs.{MadeRuns, OnlyRuns, RanMailbox}
use Rattle.mb_gate.specs.Accessors.{held_actor, pass_view}
use Rattle.mb_gate.specs.PutIn.{put_by, put_in}
use Rattle.mb_gate.specs.Rule.{IsAmong}
use Rattle.mb_gate.specs.SentSystem.{Answered, Dropped as DroppedPart, IsRightPart, Listed, Parting, SplitClaim, due_of_part, due_since, messages_of, notice, sent_by_part}
use Rattle.mb_gate.specs.Untouched.{Origin}
use Rattle.mb_gate.specs.View.{Counted, Drained, Ended, Looked, Observation, Pushed, Read, Saw, Sent, Took, Unsent, View}
use Rattle.mb_ghost.proofs.SummedLemmas.{total_append}
use Rattle.mb_ghost.specs.Seen.{Each}
use Rattle.mb_ghost.specs.Summed.{total}
use Rattle.mb_home.specs.AtHome.{mailbox_at}
use Rattle.mb_home.specs.Carried.{mailbox_after}
use Rattle.mb_home.specs.Contents.{Contents}
use Rattle.mb_home.specs.Directory.{DirectoryEntry}
use Rattle.mb_home.proofs.FoldLaw.{acts-lead, entry-not_ended}
use Rattle.mb_journal.specs.Acts.{Act, acts}
use Rattle.mb_journal.specs.Acts.Act.{CloseSelf, ResumeSelf, SuspendSelf, Sys, Tell}
use Rattle.mb_journal.specs.Entry.{Entry}
use Rattle.mb_journal.specs.Identity.{Identity}
use Rattle.mb_journal.specs.Lawful.{AreLawful, IsLawful}
use Rattle.mb_journal.specs.Life.{closed, phase}
use Rattle.mb_journal.specs.Phase.{phase_is}
use Rattle.mb_mailbox.proofs.ListedLemmas.{puts-sum}
use Rattle.mb_mailbox.specs.RunSends.{ended_in, listed_measure, refused_of}
use Rattle.mb_mailbox.specs.declared.turn.Turn.{Turn}
use Rattle.mb_msg.specs.Limits.{most_entries}
use Rattle.mb_msg.specs.declared.order.Order.{Order}
use Rattle.mb_msg.specs.declared.order.OrderKind.{OrderKind}
use Rattle.mb_msg.specs.declared.order.OrderKind.TheVariants as order
use Rattle.mb_msg.specs.declared.system.SysMsg.{SysMsg}
use Rattle.mb_register.specs.Views.{IsLook}
use Rattle.mb_report.specs.declared.report.ActorReport.{ActorReport}
use Rattle.mb_report.specs.declared.report.Report.{Report}
use Rattle.mb_shutdown.proofs.Lists.{mapped-to, there, within}
use Rattle.mb_shutdown.specs.CompleteReport.{IsReportOf}
use Rattle.mb_shutdown.specs.Seen.{ReportExtends, ReportExtendsAll}
use Rattle.mb_status.specs.Mailbox.{Mailbox, closed_mailbox, resume, suspend}
use Rattle.mb_system.specs.OnlyLooks.{OnlyLooks}
use Rattle.mb_system.specs.Members.{OutsideSender}
use Rattle.heddleorange.specs.Asked.{measure_to}
use Rattle.heddleorange.proofs.Due.{listed-sent, total-reverse}
use Rattle.heddleorange.proofs.EndActs.{by_entry, closes, end_notice, notices}

-- ---- which acts close a mailbox

shut-stays : (m : Mailbox) (list : List Act) → m.closed ≡ true → (mailbox_after m list).closed ≡ true
shut-stays m [] shut = shut
shut-stays m (Tell to told ∷ list) shut = shut-stays m list shut
shut-stays m (Sys to message ∷ list) shut = shut-stays m list shut
shut-stays m (SuspendSelf ∷ list) shut =
    shut-stays (suspend m) list (ap (λ b. (if b then m else record m { count = m.count + 1 }).closed) shut ∙ shut)
shut-stays m (ResumeSelf ∷ list) shut = shut-stays (resume m) list shut
shut-stays m (CloseSelf ∷ list) shut = shut-stays closed_mailbox list refl

closes-it : (m : Mailbox) (list : List Act) → closes list ≡ true → (mailbox_after m list).closed ≡ true
closes-it m [] is = absurd (cc is)
closes-it m (Tell to told ∷ list) is = closes-it m list is
closes-it m (Sys to message ∷ list) is = closes-it m list is
closes-it m (SuspendSelf ∷ list) is = closes-it (suspend m) list is
closes-it m (ResumeSelf ∷ list) is = closes-it (resume m) list is
closes-it m (CloseSelf ∷ list) is = shut-stays closed_mailbox list refl

differ : {A : Type 0} {b : Bool} → b ≡ true → b ≡ false → A
differ is isnt = absurd (true_false (sym is ∙ isnt))
  where
    true_false : true ≡ false → ⊥
    true_false e = cc

module _ (who : Identity) (gives : Moment → Reply → Type 0) where
  -- a journal was lawful before its newest entry
  lawful-before : (e : Entry) (before : List Entry) → IsLawful who gives (e ∷ before) → IsLawful who gives before
  unfolding AreLawful
  lawful-before e before lawful = record { entries = lawful.entries.1; within_limit = (let within = lawful.within_limit in omega (arith, within)) }

  open-before : (e : Entry) (before : List Entry) → IsLawful who gives (e ∷ before) → closed who before ≡ false
  unfolding AreLawful
  open-before e before lawful = entry-not_ended who gives before e lawful.entries.0

  lawful-since : (newer before : List Entry) → IsLawful who gives (newer ++ before) → IsLawful who gives before
  lawful-since [] before lawful = lawful
  lawful-since (e ∷ newer) before lawful = lawful-since newer before (lawful-before e (newer ++ before) lawful)

  open-since : (newer before : List Entry) → IsLawful who gives (newer ++ before) → closed who (newer ++ before) ≡ false → closed who before ≡ false
  open-since [] before lawful open_yet = open_yet
  open-since (e ∷ newer) before lawful open_yet =
      open-since newer before (lawful-before e (newer ++ before) lawful) (open-before e (newer ++ before) lawful)

  -- an entry whose acts close the mailbox ends the actor
  closes-end : who.limit ≤ most_entries → (e : Entry) (before : List Entry) → IsLawful who gives (e ∷ before) → closes (acts who before e) ≡ true
      → closed who (e ∷ before) ≡ true
  closes-end small e before lawful shut =
      sym (ap (λ (m : Mailbox). m.closed) (acts-lead who gives before e (mailbox_at who before) lawful small refl).ends)
      ∙ closes-it (mailbox_at who before) (acts who before e) shut

  module _ (to x : ℕ) (small : who.limit ≤ most_entries) where
    -- an actor that has not ended has to send no notice of its end, and none has to send that of another
    due-none : (newer before : List Entry) → IsLawful who gives (newer ++ before) → (who.this.0 ≡ x → closed who (newer ++ before) ≡ false)
        → total (measure_to to (end_notice x)) (due_since who newer before) ≡ 0
    due-none [] before lawful open_yet = refl
    due-none (e ∷ newer) before lawful open_yet =
        let rest = due-none newer before (lawful-before e (newer ++ before) lawful) (λ same. open-before e (newer ++ before) lawful) in
        let both = total_append (measure_to to (end_notice x)) (due_since who newer before) (messages_of (acts who (newer ++ before) e)) in
        let one = by_kind (by_entry to x who (newer ++ before) e) in omega (arith, rest, both, one)
      where
        by_kind : (notices to x (acts who (newer ++ before) e) ≡ 0) ⊎ ((closes (acts who (newer ++ before) e) ≡ true) × (who.this.0 ≡ x))
            → notices to x (acts who (newer ++ before) e) ≡ 0
        by_kind (inl none) = none
        by_kind (inr shut) = differ (closes-end small e (newer ++ before) lawful shut.0) (open_yet shut.1)

-- ---- what a run sends

none-if : (b : Bool) (n : ℕ) → n ≡ 0 → (if b then n else 0) ≡ 0
none-if true n none = none
none-if false n none = refl

none-where : (b : Bool) → (b ≡ true → ⊥) → ◌≡◌ {A = ℕ} (if b then 1 else 0) 0
none-where true never = absurd (never refl)
none-where false never = refl

module _ (to x : ℕ) where
  -- a notice that was sent counts at most once, if it is of that end
  one-notice : (whom actor : ℕ) (ended : Bool)
      → listed_measure to (end_notice x) (record { to = whom; message = notice actor; was_ended = ended }) ≤ (if actor == x then 1 else 0)
  one-notice whom actor true = omega arith
  one-notice whom actor false = by_test (whom == to)
    where
      by_test : (b : Bool) → (if b then (if actor == x then 1 else 0) else 0) ≤ (if actor == x then 1 else 0)
      by_test true = omega arith
      by_test false = omega arith

  module _ (actor : ℕ) (shut : Bool) (never : shut ≡ true → (actor == x) ≡ true → ⊥) where
    part-none : (p : SplitClaim) → IsRightPart actor shut p
        → total (listed_measure to (end_notice x)) (sent_by_part actor p)
        ≤ total (measure_to to (end_notice x)) (due_of_part p) + total (refused_of x) (sent_by_part actor p)
    part-none (Listed receiver message) right = omega arith
    part-none (DroppedPart receiver message) right = omega arith
    part-none (Answered receiver message whom ended) right = let one = one-notice whom receiver ended in omega (arith, one)
    part-none (Parting whom ended) right =
        let one = one-notice whom actor ended in let none = none-where (actor == x) (never right) in omega (arith, one, none)

    parts-none : (parts : List SplitClaim) → Each (IsRightPart actor shut) parts
        → total (listed_measure to (end_notice x)) (flat_map (sent_by_part actor) parts)
        ≤ total (measure_to to (end_notice x)) (flat_map due_of_part parts) + total (refused_of x) (flat_map (sent_by_part actor) parts)
    parts-none [] right = omega arith
    parts-none (p ∷ parts) right =
        let first = part-none p right.0 in let rest = parts-none parts right.1 in
        let sent = total_append (listed_measure to (end_notice x)) (sent_by_part actor p) (flat_map (sent_by_part actor) parts) in
        let due = total_append (measure_to to (end_notice x)) (due_of_part p) (flat_map due_of_part parts) in
        let refused = total_append (refused_of x) (sent_by_part actor p) (flat_map (sent_by_part actor) parts) in
        omega (arith, first, rest, sent, due, refused)

pub ended-is : (p : Phase) → phase_is p EndedPhase ≡ true → p ≡ EndedPhase
ended-is Fresh is = absurd (cc is)
ended-is Live is = absurd (cc is)
ended-is Broken is = absurd (cc is)
ended-is Ending is = absurd (cc is)
ended-is EndedPhase is = refl

-- ---- what was seen

each-first : {A : Type 0} (P : A → Type 0) (xs ys : List A) → Each P (xs ++ ys) → Each P xs
each-first P [] ys each = tt
each-first P (x ∷ xs) ys each = (each.0, each-first P xs ys each.1)

each-last : {A : Type 0} (P : A → Type 0) (xs ys : List A) → Each P (xs ++ ys) → Each P ys
each-last P [] ys each = each
each-last P (x ∷ xs) ys each = each-last P xs ys each.1

each-among : {A : Type 0} (P : A → Type 0) (x : A) (xs : List A) → Each P xs → IsAmong x xs → P x
each-among P x xs each among = (each-last P among.before (x ∷ among.after) (subst (Each P) among.joined each)).0

module _ (after : ℕ → List Message → ℤ) (gives : ℕ → Moment → Reply → Type 0) (whos : List Identity) (report : Report)
    (many : length report.actors.items ≡ length whos)
    (reported : (id : ℕ) (who : Identity) (a : ActorReport) → slice_get whos id ≡ Some who → slice_get report.actors.items id ≡ Some a
    → IsReportOf after gives who a) (x : ℕ) (its : ActorReport) (here : slice_get report.actors.items x ≡ Some its) (open_yet : its.phase ≢ EndedPhase) where
  -- what was seen of ended lists is not of this actor's
  another : (b : ℕ) → ((r : ActorReport) → slice_get report.actors.items b ≡ Some r → r.phase ≡ EndedPhase) → ◌≡◌ {A = ℕ} (if b == x then 1 else 0) 0
  another b all = none-where (b == x) (λ is. open_yet (all its (ap (slice_get report.actors.items) (eqb-true b x is) ∙ here)))

  never-in : (log : List Observation) → Each (ReportExtends report) log → total (ended_in x) log ≡ 0
  never-in [] each = refl
  never-in (Read b word ∷ log) each = let rest = never-in log each.1 in omega (arith, rest)
  never-in (Saw b journal ∷ log) each = let rest = never-in log each.1 in omega (arith, rest)
  never-in (Counted b waiting ∷ log) each = let rest = never-in log each.1 in omega (arith, rest)
  never-in (Looked b has_work ∷ log) each = let rest = never-in log each.1 in omega (arith, rest)
  never-in (Sent b n ∷ log) each = let rest = never-in log each.1 in omega (arith, rest)
  never-in (Unsent b n ∷ log) each = let rest = never-in log each.1 in omega (arith, rest)
  never-in (Took b n ∷ log) each = let rest = never-in log each.1 in omega (arith, rest)
  never-in (Pushed b n m ∷ log) each = let rest = never-in log each.1 in omega (arith, rest)
  never-in (Drained b given ∷ log) each = let rest = never-in log each.1 in omega (arith, rest)
  never-in (Ended b given ∷ log) each = let one = another b each.0 in let rest = never-in log each.1 in omega (arith, one, rest)

  -- the journal of that actor was never one of an actor that has ended
  open-at : (who : Identity) (a : ActorReport) → IsReportOf after gives who a → slice_get report.actors.items x ≡ Some a → closed who a.journal.entries ≡ false
  open-at who a is at = by_test (closed who a.journal.entries) refl
    where
      by_test : (b : Bool) → closed who a.journal.entries ≡ b → b ≡ false
      by_test true shut =
          absurd (open_yet (ap (λ (r : ActorReport). r.phase) (same_Some its a (sym here ∙ at)) ∙ is.phase_is ∙ ended-is (phase who a.journal.entries) shut))
      by_test false shut = refl

  -- What is known of the journal with which a run gave its cell back.
  record IsKnownOpen (who : Identity) (journal : List Entry) : Type 0 where
    lawful : IsLawful who (gives who.this.0) journal
    not_ended : who.this.0 ≡ x → closed who journal ≡ false

  known-open : (actor : ℕ) (who : Identity) (journal : List Entry) (log : List Observation) → slice_get whos actor ≡ Some who → who.this.0 ≡ actor
      → IsAmong (Saw actor journal) log → Each (ReportExtends report) log → IsKnownOpen who journal
  known-open actor who journal log at number saw now =
      let lt = within whos actor who at in let r = there report.actors.items actor (omega (arith, lt, many)) in
      let is = reported actor who r.0 at r.1 in
      let ext = each-among (ReportExtends report) (Saw actor journal) log now saw r.0 r.1 in
      let lawful = subst (IsLawful who (gives who.this.0)) ext.joined is.lawful in record {
        lawful = lawful-since who (gives who.this.0) ext.newer journal lawful;
        not_ended = λ same.
            open-since who (gives who.this.0) ext.newer journal lawful
            (subst (λ j. closed who j ≡ false) ext.joined
            (open-at who r.0 is (ap (slice_get report.actors.items) (sym (sym number ∙ same)) ∙ r.1)));
      }

  module _ (to : ℕ) where
    abbrev put : View → ℕ
    put v = put_by to (λ m. end_notice x m.1) v

    -- If the report extends all that the seat saw at last, it put no such notice into the list since.
    record PutsNone (old new : View) : Type 0 where
      seen : ReportExtendsAll report new → ReportExtendsAll report old
      none : ReportExtendsAll report new → put new ≡ put old

    only-looks : (looks : List Observation) → Each (λ (s : Observation). (id : ℕ) × (true ≡ true) × IsLook id s) looks
        → total (put_in to (λ m. end_notice x m.1)) looks ≡ 0
    only-looks [] each = refl
    only-looks (Read a word ∷ looks) each = let rest = only-looks looks each.1 in omega (arith, rest)
    only-looks (Saw a journal ∷ looks) each = let rest = only-looks looks each.1 in omega (arith, rest)
    only-looks (Counted a waiting ∷ looks) each = let rest = only-looks looks each.1 in omega (arith, rest)
    only-looks (Looked a has_work ∷ looks) each = let rest = only-looks looks each.1 in omega (arith, rest)
    only-looks (Sent a n ∷ looks) each = absurd each.0.2
    only-looks (Unsent a n ∷ looks) each = absurd each.0.2
    only-looks (Took a n ∷ looks) each = absurd each.0.2
    only-looks (Pushed a n m ∷ looks) each = absurd each.0.2
    only-looks (Drained a given ∷ looks) each = absurd each.0.2
    only-looks (Ended a given ∷ looks) each = absurd each.0.2

    looked : (old new : View) → OnlyLooks old new → PutsNone old new
    looked old new looks =
        let none = only-looks looks.looks looks.only in
        let all = ap (total (put_in to (λ m. end_notice x m.1))) looks.log ∙ total_append (put_in to (λ m. end_notice x m.1)) looks.looks old.log in record {
          seen = λ now. each-last (ReportExtends report) looks.looks old.log (subst (Each (ReportExtends report)) looks.log now);
          none = λ now. omega (arith, none, all);
        }

    later : (old mid new : View) → PutsNone old mid → PutsNone mid new → PutsNone old new
    later old mid new first last = record {
      seen = λ now. first.seen (last.seen now);
      none = λ now. last.none now ∙ first.none (last.seen now);
    }

    module _ (origin : Origin (Box Contents)) (throughput : ℕ) (named : map (λ (e : DirectoryEntry). e.who) origin.first.value.directory ≡ whos) where
      ran : (old new : View) (turn : Turn) → RanMailbox gives origin throughput old new turn → PutsNone old new
      ran old new turn run =
          let home = run.claim.home.value in let who = home.cell.who in let left = run.left in let own = run.fresh.same_gates.of_actor in
          let actor = held_actor run.claim in
          let at : slice_get whos actor ≡ Some who =
          ap (slice_get whos) (sym own.number)
          ∙ mapped-to (λ (e : DirectoryEntry). e.who) origin.first.value.directory whos who.this.0 _ named
          (ap (λ l. slice_get l who.this.0) (sym own.directory) ∙ own.settled.is_own.enrolled) in record {
            seen = λ now.
                each-first (ReportExtends report) old.log left.steps
                (each-last (ReportExtends report) left.taken_over.own_log (old.log ++ left.steps)
                (subst (Each (ReportExtends report)) left.taken_over.joined now));
            none = λ now.
                (let known = known-open actor who run.journal new.log at own.number left.seen now in
                let parts = parts-none to x actor (closed who run.journal)
                (λ shut is. differ shut (known.not_ended (own.number ∙ eqb-true actor x is))) left.told_is.parts left.told_is.right in
                let sent = ap (total (listed_measure to (end_notice x))) left.told_is.sent_system_is in
                let refused = ap (total (refused_of x)) left.told_is.sent_system_is in
                let due = ap (total (measure_to to (end_notice x))) left.told_is.due_is in
                let due_none = due-none who (gives who.this.0) to x own.settled.is_own.within_limit left.told_is.newer home.cell.journal
                (subst (IsLawful who (gives who.this.0)) left.told_is.joined known.lawful)
                (λ same. subst (λ j. closed who j ≡ false) left.told_is.joined (known.not_ended same)) in
                let found = left.refused x in let never_found = never-in new.log now in
                let more = puts-sum to (end_notice x) left.told old new left.puts in
                omega (arith, parts, sent, refused, due, due_none, found, never_found, more));
          }

      made-runs : (old : View) (turns : List Turn) (new : View) → MadeRuns gives origin throughput old turns new → PutsNone old new
      made-runs old [] new made = looked old new made
      made-runs old (turn ∷ turns) new made =
          later old made.0 new (looked old made.0 made.2)
          (later made.0 made.1 new (ran made.0 made.1 turn made.3) (made-runs made.1 turns new made.4))

      module _ {E : Type 0} (knows : E → View) where
        -- handles that only made runs put no such notice into the list
        pub handles-none : (old new : List E) → AllZip (λ (o n : E). OnlyRuns gives origin throughput (knows o) (knows n)) old new
            → All (λ (e : E). ReportExtendsAll report (knows e)) new → total put (map knows new) ≡ total put (map knows old)
        handles-none [] [] all seen = refl
        handles-none [] (n ∷ new) all seen = absurd all
        handles-none (o ∷ old) [] all seen = absurd all
        handles-none (o ∷ old) (n ∷ new) all seen =
            let first = (made-runs (knows o) all.0.turns (knows n) all.0.made).none (All-head (λ (e : E). ReportExtendsAll report (knows e)) n new seen) in
            let rest = handles-none old new all.1 (All-tail (λ (e : E). ReportExtendsAll report (knows e)) n new seen) in omega (arith, first, rest)

-- ---- senders

module _ (to x : ℕ) where
  over-none : (n : ℕ) (list : List (ℕ × SysMsg)) → total (measure_to to (end_notice x)) list ≡ 0 → total (measure_to to (end_notice x)) (over n list) ≡ 0
  over-none zero list none = refl
  over-none (suc n) list none =
      let both = total_append (measure_to to (end_notice x)) list (over n list) in let rest = over-none n list none in omega (arith, none, both, rest)

  one-none : (o : Order) (what : OrderKind) → total (measure_to to (end_notice x)) (terminates_of_one o.to what) ≡ 0
  one-none o (order.Tell payload) = refl
  one-none o order.Stop = let none = none-if (o.to.0 == to) 0 refl in omega (arith, none)

  terminates-none : (orders : List Order) → total (measure_to to (end_notice x)) (terminates_of orders) ≡ 0
  terminates-none [] = refl
  terminates-none (o ∷ orders) =
      let first = over-none o.times (terminates_of_one o.to o.what) (one-none o o.what) in let rest = terminates-none orders in
      let both = total_append (measure_to to (end_notice x)) (over o.times (terminates_of_one o.to o.what)) (terminates_of orders) in
      omega (arith, first, rest, both)

  abbrev view_of : OutsideSender → View
  view_of s = pass_view s.registrar.pass

  has-sent : (orders : List Order) (old new : OutsideSender) → HasSent orders old new → (view_of old).sent_system ≡ []
      → put_by to (λ m. end_notice x m.1) (view_of new) ≤ put_by to (λ m. end_notice x m.1) (view_of old)
  has-sent orders old new sent none =
      let same = sent.put to (end_notice x) in
      let listed = listed-sent to (end_notice x) (view_of new).sent_system in
      let all : addressed_system (view_of new).sent_system ≡ reverse (terminates_of orders) =
      sent.system_sent ∙ ap (λ l. reverse (terminates_of orders) ++ addressed_system l) none ∙ append-nil (reverse (terminates_of orders)) in
      let sum = ap (total (measure_to to (end_notice x))) all ∙ total-reverse (measure_to to (end_notice x)) (terminates_of orders) in
      let stops = terminates-none orders in omega (arith, same, listed, sum, stops)

  -- senders that carried out their orders put no such notice into the list
  pub senders-none : (orders : List (List Order)) (old new : List OutsideSender) → length old ≡ length orders → length new ≡ length old
      → ((place : ℕ) (of : List Order) (before next : OutsideSender) → slice_get orders place ≡ Some of → slice_get old place ≡ Some before
      → slice_get new place ≡ Some next → HasSent of before next)
      → ((place : ℕ) (s : OutsideSender) → slice_get old place ≡ Some s → (view_of s).sent_system ≡ [])
      → total (put_by to (λ m. end_notice x m.1)) (map view_of new) ≤ total (put_by to (λ m. end_notice x m.1)) (map view_of old)
  senders-none [] [] [] many still each none = omega arith
  senders-none [] (o ∷ old) new many still each none = absurd (omega (arith, many))
  senders-none (of ∷ orders) [] new many still each none = absurd (omega (arith, many))
  senders-none [] [] (n ∷ new) many still each none = absurd (omega (arith, still))
  senders-none (of ∷ orders) (o ∷ old) [] many still each none = absurd (omega (arith, still))
  senders-none (of ∷ orders) (o ∷ old) (n ∷ new) many still each none =
      let first = has-sent of o n (each zero of o n refl refl refl) (none zero o refl) in
      let rest = senders-none orders old new (omega (arith, many)) (omega (arith, still)) (λ k l a b is was now. each (suc k) l a b is was now)
      (λ k s was. none (suc k) s was) in omega (arith, first, rest)
