-- From what the gates gave back to the report.
use Rattle.std.proofs.Common.{◌≡◌, ◌≢◌, ◌⊎◌, ℕ, ◌^◌, ◌<◌, ◌≤◌, ℤ, List, [], ◌∷◌, ◌++◌, length, map, drop, refl, sym, ap, ◌∙◌}
use Rattle.std.proofs.Common.{subst, arith, Option, Some}
use Rattle.std.specs.Prelude.{All, slice_get}
use Rattle.std.proofs.lemmas.List.{map-append}
use Rattle.std.proofs.lemmas.Option.{same_Some}
use Rattle.mb_msg.specs.JournalMode.{Retention}
use Rattle.mb_msg.specs.declared.dead_letter.DeadLetter.{DeadLetter}
use Rattle.mb_msg.specs.declared.envelope.Envelope.{Envelope}
use Rattle.mb_msg.specs.declared.system.SysMsg.{SysMsg}
use Rattle.mb_syslist.specs.MessageList.{numbered}
use Rattle.mb_actor.specs.Behaviour.{Moment, Reply}
use Rattle.mb_actor.specs.declared.message.Message.{Message}
use Rattle.mb_actor.specs.declared.phase.Phase.TheVariants.{Ended as EndedPhase}
use Rattle.mb_queue.specs.Passes.{SendPassView, TakePassView}
use Rattle.mb_shutdown.specs.Joined.{AreOfDifferent, column, queues_of, queues_pushed_into}
use Rattle.mb_gate.specs.Returned.{IsKept}
use Rattle.mb_gate.specs.Rule.{Extends}
use Rattle.mb_gate.specs.View.{View, Observation, Read, Saw, Counted, Looked, Sent, Unsent, Took, Pushed, Drained, Ended as EndedSight}
use Rattle.mb_ghost.specs.Seen.{Each}
use Rattle.mb_ghost.specs.Summed.{total}
use Rattle.mb_home.specs.Contents.{Contents}
use Rattle.mb_journal.specs.Life.{phase}
use Rattle.mb_home.specs.Directory.{DirectoryEntry, queues_of as roll_queues}
use Rattle.mb_report.specs.declared.report.ActorReport.{ActorReport}
use Rattle.mb_report.specs.declared.report.Report.{Report}
use Rattle.mb_report.specs.declared.report.SenderReport.{SenderReport}
use Rattle.mb_shutdown.specs.HomeParts.{AreApart, HasNoSystemLeft, end_of, ended_of, sent_in, sent_of}
use Rattle.mb_shutdown.specs.Homes.{AreHomes, HomesReturned, ReturnedHome}
use Rattle.mb_shutdown.specs.OutsideSenders.{AreFinishedSenders, HasKnownSenders}
use Rattle.mb_shutdown.specs.Seen.{ReportExtends, ReportExtendsAll}
use Rattle.mb_shutdown.specs.Shown.{ShowsAll, ShowsCell}
use Rattle.mb_shutdown.specs.Taken.{AreTaken}
use Rattle.mb_shutdown.specs.CompleteReport.{IsCompleteReport, sender_number}
use Rattle.mb_shutdown.specs.declared.finished_sender.FinishedSender.{FinishedSender}
use Rattle.mb_shutdown.specs.declared.room.Ended.{Ended}
use Rattle.mb_shutdown.proofs.Columns.{different}
use Rattle.mb_shutdown.proofs.Gathering.{Gathered, gathered, numbers-rise}
use Rattle.mb_shutdown.proofs.Lists.{alike, at-place, became, each-place, from-mapped, in-first, length-mapped, mapped, mapped-to, same-maps, there, within}
use Rattle.mb_shutdown.proofs.Parties.{Party}
use Rattle.mb_shutdown.proofs.KnownActors.{Stands, closed-by-word, many-left, own_word, shut, stands, stands-put}
use Rattle.mb_shutdown.proofs.WholeLaw.{counts-given, counts-put, ended-phase, whole}

-- one map after another
after-map : {X Y Z : Type 0} (f : X → Y) (g : Y → Z) (xs : List X) → map g (map f xs) ≡ map (λ x. g (f x)) xs
after-map f g [] = refl
after-map f g (x ∷ xs) = ap (λ l. g (f x) ∷ l) (after-map f g xs)

module _ {A K : Type 0} (gives : ℕ → Moment → Reply → Type 0) (first : Contents) (n : ℕ) (v : View) (all : List (Option ReturnedHome))
    (left : AreHomes gives first n v all) (ended : List (Ended A K)) (takes : List TakePassView) (rows : List (List SendPassView))
    (senders : List SenderReport) (apart : AreApart all ended takes rows senders) (outs : List FinishedSender) (few : n ≤ 64)
    (same_directory : length first.directory ≡ n) (are : AreFinishedSenders first.directory v.log 64 outs) (small : All (λ (o : FinishedSender). o.send_log.sent < 2 ^ 64) outs) where
  abbrev lefts : List ReturnedHome
  lefts = apart.lefts

  done-at : (i : ℕ) (l : ReturnedHome) → slice_get lefts i ≡ Some l → HasNoSystemLeft l
  done-at i l found = at-place HasNoSystemLeft lefts i l apart.done found

  stands-at : (i : ℕ) (l : ReturnedHome) → slice_get lefts i ≡ Some l → Stands gives first v.log i l.home.value
  stands-at i l found = stands gives first n v all lefts left apart.are i l found (done-at i l found).1

  pub many-lefts : length lefts ≡ n
  many-lefts = many-left gives first n v all lefts left apart.are

  many-enrolled : length lefts ≡ length first.directory
  many-enrolled = many-lefts ∙ sym same_directory

  pub all-gathered : Gathered first.directory lefts outs
  all-gathered = gathered gives first v.log lefts outs stands-at (shut gives first n v all lefts left apart.are) many-enrolled are small

  -- the passes are into the queues of the directory
  same-queues : queues_of takes ≡ roll_queues first.directory
  same-queues =
      ap queues_of apart.takes_are
      ∙ twice lefts
      ∙ same-maps (λ (l : ReturnedHome). l.home.value.take.queue) (λ (e : DirectoryEntry). e.queue) lefts first.directory many-enrolled
      (λ i l e found is.
      let own = (stands-at i l found).is_home_of in
      ap (λ (x : DirectoryEntry). x.queue)
      (same_Some (record { who = l.home.value.cell.who; queue = l.home.value.take.queue; discipline = l.home.value.take.discipline }) e
      (sym own.settled.is_own.enrolled ∙ (λ k. slice_get (own.directory k) (own.number k)) ∙ is)))
    where
      twice : (ls : List ReturnedHome)
          → queues_of (map (λ (l : ReturnedHome). l.home.value.take) ls) ≡ map (λ (l : ReturnedHome). l.home.value.take.queue) ls
      twice [] = refl
      twice (l ∷ ls) = ap (λ qs. l.home.value.take.queue ∷ qs) (twice ls)

  -- the homes are of the actors in the directory
  same-kept : map (λ (l : ReturnedHome). l.home.value.cell.who.retention) lefts ≡ map (λ (e : DirectoryEntry). e.who.retention) first.directory
  same-kept =
      same-maps (λ (l : ReturnedHome). l.home.value.cell.who.retention) (λ (e : DirectoryEntry). e.who.retention) lefts first.directory many-enrolled
      (λ i l e found is.
      let own = (stands-at i l found).is_home_of in
      ap (λ (x : DirectoryEntry). x.who.retention)
      (same_Some (record { who = l.home.value.cell.who; queue = l.home.value.take.queue; discipline = l.home.value.take.discipline }) e
      (sym own.settled.is_own.enrolled ∙ (λ k. slice_get (own.directory k) (own.number k)) ∙ is)))

  module _ {R : Type 0} (items : R → List SendPassView) (joined : List R)
      (same : map items joined ≡ rows ++ map (λ (o : FinishedSender). o.sends.items) outs) where
    abbrev g : Gathered first.directory lefts outs
    g = all-gathered

    pub rows-same : map items joined ≡ map (λ (p : Party). p.row) g.parties
    rows-same = same ∙ ap (λ l. l ++ map (λ (o : FinishedSender). o.sends.items) outs) apart.rows_are ∙ sym g.rows

    many-rows : length joined ≡ length g.parties
    many-rows = sym (length-mapped items joined) ∙ ap length rows-same ∙ length-mapped (λ (p : Party). p.row) g.parties

    pub rows-queues : All (λ row. queues_pushed_into (items row) ≡ drop 1 (queues_of takes)) joined
    rows-queues = each-place (λ row. queues_pushed_into (items row) ≡ drop 1 (queues_of takes)) joined (λ i row found.
        let p = there g.parties i (let lt = within joined i row found in let m = many-rows in omega (arith, lt, m)) in
        ap queues_pushed_into (alike items (λ (p : Party). p.row) joined g.parties i row p.0 rows-same found p.1)
        ∙ (g.each i p.0 p.1).send_passes ∙ ap (drop 1) (sym same-queues))

    pub rows-different : (place : ℕ) → AreOfDifferent (column place (map items joined))
    rows-different place =
        subst (λ l. AreOfDifferent (column place l)) (sym rows-same)
        (different (sender_number (length lefts)) (numbers-rise (length lefts) (let m = many-lefts in omega (arith, m, few))) place
        (map (λ (p : Party). p.row) g.parties)
        (λ i row found.
        let p = from-mapped (λ (p : Party). p.row) g.parties i row found in
        subst (λ r. All (λ (s : SendPassView). s.by ≡ sender_number (length lefts) i) r) p.2 (g.each i p.0 p.1).by))

    -- the report
    module _ (after : ℕ → List Message → ℤ) (known : HasKnownSenders first.directory (length outs)) (envelopes : List (List Envelope))
        (taken : AreTaken takes (map items joined) envelopes) (waiting : List ℕ) (counted : length waiting ≡ n) (report : Report)
        (shows : ShowsAll after ended envelopes waiting report.actors.items)
        (sents : map sent_of report.senders.items ≡ map sent_of senders ++ map (λ (o : FinishedSender). (o.send_log.sent, o.send_log.dead.items, o.send_log.dead.retention)) outs) where
      many-ended : length ended ≡ n
      many-ended =
          sym (length-mapped ended_of ended) ∙ ap length apart.ended_are ∙ length-mapped (λ (l : ReturnedHome). end_of l.home.value) lefts ∙ many-lefts

      shown : (i : ℕ) (l : ReturnedHome) (es : List Envelope) (a : ActorReport) → slice_get lefts i ≡ Some l → slice_get envelopes i ≡ Some es
          → slice_get report.actors.items i ≡ Some a
          → ShowsCell after (end_of l.home.value) es a × (es ≢ [] → (a.phase ≡ EndedPhase) ⊎ (0 < a.count))
      shown i l es a found es_are is =
          let lt : i < n = let b = within lefts i l found in let m = many-lefts in omega (arith, b, m) in
          let e = there ended i (let m = many-ended in omega (arith, lt, m)) in
          let w = there waiting i (omega (arith, lt, counted)) in
          let one = shows.each i e.0 es w.0 a e.1 es_are w.1 is in
          let same = alike ended_of (λ (l : ReturnedHome). end_of l.home.value) ended lefts i e.0 l apart.ended_are e.1 found in
          (subst (λ x. ShowsCell after x es a) same one.shows, one.kept)

      pub report-whole : IsCompleteReport after gives first.directory v.log (map (λ (o : FinishedSender). o.send_log.posted) outs) report
      report-whole =
          whole after gives first v.log lefts outs g stands-at done-at many-enrolled known envelopes
          (subst (λ (x : List TakePassView × List (List SendPassView)). AreTaken x.0 x.1 envelopes) (λ i. (apart.takes_are i, rows-same i)) taken) report
          (shows.same_count ∙ many-ended ∙ sym many-lefts) shown
          (sents ∙ ap (λ l. l ++ map (λ (o : FinishedSender). (o.send_log.sent, o.send_log.dead.items, o.send_log.dead.retention)) outs) apart.senders_are ∙ sym g.sents)

      -- the dead letters of the actors are kept as their journals, and those of the senders outside as they kept them
      pub report-letters : map (λ (s : SenderReport). s.dead.retention) report.senders.items
          ≡ map (λ (e : DirectoryEntry). e.who.retention) first.directory ++ map (λ (o : FinishedSender). o.send_log.dead.retention) outs
      report-letters =
          let kept = λ (x : ℕ × List DeadLetter × Retention). x.2 in
          let of_home = λ (l : ReturnedHome). sent_in l.home.value in
          let of_outside = λ (o : FinishedSender). (let x : ℕ × List DeadLetter × Retention = (o.send_log.sent, o.send_log.dead.items, o.send_log.dead.retention) in x) in
          sym (after-map sent_of kept report.senders.items)
          ∙ ap (map kept) (sents ∙ ap (λ l. l ++ map of_outside outs) apart.senders_are)
          ∙ map-append kept (map of_home lefts) (map of_outside outs)
          ∙ (λ i. after-map of_home kept lefts i ++ after-map of_outside kept outs i)
          ∙ ap (λ l. l ++ map (λ (o : FinishedSender). o.send_log.dead.retention) outs) same-kept

      -- what is reported of an actor is what its home shows
      reported : (actor : ℕ) (a : ActorReport) → slice_get report.actors.items actor ≡ Some a
          → (l : ReturnedHome) × (slice_get lefts actor ≡ Some l) × (es : List Envelope) × ShowsCell after (end_of l.home.value) es a
      reported actor a found =
          let lt : actor < length lefts
          = let b = within report.actors.items actor a found in let c = shows.same_count in let d = many-ended in let m = many-lefts in
          omega (arith, b, c, d, m) in
          let l = there lefts actor lt in
          let m = taken.same_count in let t = ap length apart.takes_are in let q = length-mapped (λ (l : ReturnedHome). l.home.value.take) lefts in
          let es = there envelopes actor (omega (arith, lt, m, t, q)) in (l.0, l.1, es.0, (shown actor l.0 es.0 a l.1 es.1 found).0)

      -- the journals go on from all that was seen, and who was seen ended has ended
      goes-on : (s : Observation) → ((i : ℕ) (l : ReturnedHome) → slice_get lefts i ≡ Some l → IsKept i l.home.value.cell.journal (own_word l.home.value) s)
          → ReportExtends report s
      goes-on (Saw actor journal) kept = λ a found.
          let of = reported actor a found in subst (λ j. Extends j journal) (sym of.3.journal_is) (kept actor of.0 of.1 refl)
      goes-on (Read actor word) kept = tt
      goes-on (Counted actor waiting) kept = tt
      goes-on (Looked actor has_work) kept = tt
      goes-on (Sent actor n) kept = tt
      goes-on (Unsent actor n) kept = tt
      goes-on (Took actor n) kept = tt
      goes-on (Pushed actor number message) kept = tt
      goes-on (Drained actor given) kept = tt
      goes-on (EndedSight actor given) kept = λ a found.
          let of = reported actor a found in let h = of.0.home.value in
          of.3.phase_is ∙ ended-phase (phase h.cell.who h.cell.journal) (closed-by-word h.cell.who h.cell.journal (kept actor of.0 of.1 refl))

      all-go-on : (log : List Observation)
          → ((i : ℕ) (l : ReturnedHome) → slice_get lefts i ≡ Some l → Each (IsKept i l.home.value.cell.journal (own_word l.home.value)) log)
          → Each (ReportExtends report) log
      all-go-on [] kept = tt
      all-go-on (s ∷ log) kept = (goes-on s (λ i l found. (kept i l found).0), all-go-on log (λ i l found. (kept i l found).1))

      pub report-seen : ReportExtendsAll report v
      report-seen = all-go-on v.log (λ i l found. (stands-at i l found).kept)

      -- of each actor as many envelopes are left as were counted
      pub report-counted : map (λ (a : ActorReport). length a.left.items) report.actors.items ≡ waiting
      report-counted =
          became (λ (a : ActorReport). length a.left.items) report.actors.items waiting
          (shows.same_count ∙ many-ended ∙ sym counted)
          (λ i a w found is.
          let lt = within report.actors.items i a found in let c = shows.same_count in let d = many-ended in let m = many-lefts in
          let e = there ended i (omega (arith, lt, c)) in
          let q = taken.same_count in let t = ap length apart.takes_are in let k = length-mapped (λ (l : ReturnedHome). l.home.value.take) lefts in
          let es = there envelopes i (omega (arith, lt, c, d, m, q, t, k)) in
          let one = shows.each i e.0 es.0 w a e.1 es.1 is found in
          ap length one.shows.left_is ∙ one.counted)

      -- the report shows each home that came
      home-shown : (id : ℕ) (l : ReturnedHome) (a : ActorReport) → slice_get all id ≡ Some (Some l) → slice_get report.actors.items id ≡ Some a
          → (slice_get lefts id ≡ Some l) × (es : List Envelope) × ShowsCell after (end_of l.home.value) es a
      home-shown id l a is found =
          let x = from-mapped (λ (x : ReturnedHome). Some x) lefts id (Some l) (ap (λ y. slice_get y id) (sym apart.are) ∙ is) in
          let here : slice_get lefts id ≡ Some l = x.1 ∙ x.2 in
          let b = within lefts id l here in
          let q = taken.same_count in let t = ap length apart.takes_are in let k = length-mapped (λ (l : ReturnedHome). l.home.value.take) lefts in
          let es = there envelopes id (omega (arith, b, q, t, k)) in
          (here, es.0, (shown id l es.0 a here es.1 found).0)

      -- each home came, and all that its list gave is counted
      pub report-home : HomesReturned gives first n v report
      report-home = record {
        all = all;
        left = left;
        came = λ id lt whole.
            let l = there lefts id (let m = many-lefts in omega (arith, lt, m)) in
            left.back whole id l.0 lt (mapped-to (λ (x : ReturnedHome). Some x) lefts all id l.0 (sym apart.are) l.1);
        journal = λ id l a is found. (home-shown id l a is found).2.journal_is;
        given = λ id l a is found.
            let one = home-shown id l a is found in let b = within lefts id l one.0 in let m = many-lefts in let done = done-at id l one.0 in (
              done.1,
              counts-given after gives first v.log id l (stands-at id l one.0) done one.1 a one.2 l.given
                  (left.each id (Some l) (omega (arith, b, m)) is).5,
            );
        put = λ id l a is found.
            let one = home-shown id l a is found in let done = done-at id l one.0 in
            let st = stands-put gives first n v all lefts left apart.are id l one.0 done.1 in
            let counts = counts-put after gives first v.log id l st.0 done one.1 a one.2 in (
              counts.0,
              λ whole measure. st.1 whole measure ∙ ap (λ (pushed : List SysMsg). total measure (numbered 0 pushed)) (sym counts.1),
            );
        cleaned = λ id l a is found. (home-shown id l a is found).2.cleaned_is;
        dead = λ id l s is found.
            let x = from-mapped (λ (x : ReturnedHome). Some x) lefts id (Some l) (ap (λ y. slice_get y id) (sym apart.are) ∙ is) in
            let here : slice_get lefts id ≡ Some l = x.1 ∙ x.2 in
            let of_home = λ (l : ReturnedHome). sent_in l.home.value in
            let others = map {A = FinishedSender} {B = ℕ × List DeadLetter × Retention} (λ o. (o.send_log.sent, o.send_log.dead.items, o.send_log.dead.retention)) outs in
            let same : sent_of s ≡ sent_in l.home.value
            = same_Some (sent_of s) (sent_in l.home.value)
            (sym (mapped sent_of report.senders.items id s found)
            ∙ ap (λ y. slice_get y id) (sents ∙ ap (λ y. y ++ others) apart.senders_are)
            ∙ in-first (map of_home lefts) others id (of_home l) (mapped of_home lefts id l here)) in
            ap (λ (x : ℕ × List DeadLetter × Retention). x.1) same;
      }
