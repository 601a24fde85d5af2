-- What the report says of all actors and envelopes.
use Rattle.std.proofs.Common.{◌≡◌, ◌≢◌, ◌⊎◌, ℕ, zero, suc, ◌+◌, ◌%◌, ◌^◌, ◌<◌, ℤ, Bool, true, false, List, [], ◌∷◌, ◌++◌}
use Rattle.std.proofs.Common.{length, map, get_or, refl, sym, ap, ◌∙◌, subst, arith, length-drop, Some, None}
use Rattle.std.specs.Prelude.{All, Contains, if◌then◌else◌, slice_get}
use Rattle.std.proofs.lemmas.List.Elements.{All-contains, All-head, All-weaker}
use Rattle.std.proofs.lemmas.Option.{get_or_from_slice_get, same_Some}
use Rattle.mb_msg.specs.JournalMode.{Retention}
use Rattle.mb_msg.specs.declared.dead_letter.DeadLetter.{DeadLetter}
use Rattle.mb_msg.specs.declared.dead_letter.DeadLetterReason.{DeadLetterReason}
use Rattle.mb_msg.specs.declared.dead_letter.DeadLetterReason.TheVariants as why
use Rattle.mb_msg.specs.declared.envelope.Envelope.{Envelope}
use Rattle.mb_actor.specs.Behaviour.{Moment, Reply}
use Rattle.mb_actor.specs.declared.message.Message.{Message}
use Rattle.mb_actor.specs.declared.phase.Phase.{Phase}
use Rattle.mb_actor.specs.declared.phase.Phase.TheVariants.{Fresh, Live, Broken, Ending, Ended as EndedPhase}
use Rattle.mb_journal.specs.Aside.{aside, ever_aside, next_front, next_number}
use Rattle.mb_journal.specs.Entry.{Entry}
use Rattle.mb_journal.specs.Identity.{Identity, is_guardian}
use Rattle.mb_journal.specs.Incarnation.{messages}
use Rattle.mb_journal.specs.Lawful.{IsLawful}
use Rattle.mb_journal.specs.Life.{closed, phase}
use Rattle.mb_journal.specs.Phase.{phase_is}
use Rattle.mb_journal.specs.Suspension.{count}
use Rattle.mb_msg.specs.declared.system.SysMsg.{SysMsg}
use Rattle.mb_journal.specs.Accepted.{NumbersCountUpFrom, accepted, dead_letters, queued, to_actor}
use Rattle.mb_journal.specs.Fates.{begun}
use Rattle.mb_journal.specs.Pair.{FatesInSendOrder, AcceptedMatchFates, EachHasOneFate}
use Rattle.mb_journal.specs.Tells.{told}
use Rattle.mb_journal.specs.declared.sent_envelope.SentEnvelope.{SentEnvelope}
use Rattle.mb_queue.specs.Passes.{IsOfQueue, Queue, SendPassView, first_in_first_out, control_first}
use Rattle.mb_shutdown.specs.AllArrived.{AllArrived}
use Rattle.mb_shutdown.specs.Joined.{AreOfAllSenders, column}
use Rattle.mb_shutdown.specs.Parts.{ArePartsInOrder, IsControlsFirst}
use Rattle.mb_shutdown.proofs.JoinAndDrainLemmas.{in_order, often, once, parts_in_order}
use Rattle.mb_gate.specs.View.{Observation}
use Rattle.mb_ghost.specs.Seen.{Each}
use Rattle.mb_gate.specs.Rule.{IsAmong}
use Rattle.mb_syslist.specs.MessageList.{numbered}
use Rattle.mb_home.specs.AtHome.{given_of, system_entries}
use Rattle.mb_home.specs.Contents.{Contents}
use Rattle.mb_home.specs.Numbers.{applied_numbers, numbers_in, times}
use Rattle.mb_home.specs.Directory.{DirectoryEntry, queues_of}
use Rattle.mb_home.specs.AgreesWithJournal.{IsOwn, IsReason, aside_at_end}
use Rattle.mb_home.proofs.EndLaw.{dead-at-end}
use Rattle.mb_home.proofs.OnceLaw.{stands-once}
use Rattle.mb_report.specs.declared.report.ActorReport.{ActorReport}
use Rattle.mb_report.specs.declared.report.Report.{Report}
use Rattle.mb_report.specs.declared.report.SenderReport.{SenderReport}
use Rattle.mb_shutdown.specs.HomeParts.{HasNoSystemLeft, end_of, sent_in, sent_of}
use Rattle.mb_shutdown.specs.Homes.{CountsGiven, ReturnedHome}
use Rattle.mb_shutdown.specs.OutsideSenders.{HasKnownSenders, IsSenderAmong}
use Rattle.mb_shutdown.specs.Shown.{ShowsCell}
use Rattle.mb_shutdown.specs.Taken.{AreTaken}
use Rattle.mb_shutdown.specs.CompleteReport.{CountsSystems, IsPutAmong, IsReportOf, IsRightReason, IsCompleteReport, fates_in, sender_number}
use Rattle.mb_shutdown.specs.declared.finished_sender.FinishedSender.{FinishedSender}
use Rattle.mb_shutdown.proofs.Columns.{in-column, sender-in-column}
use Rattle.mb_shutdown.proofs.Gathering.{Gathered, IsShut}
use Rattle.mb_shutdown.proofs.Lists.{alike, at-place, from-mapped, in-first, length-mapped, mapped, there, within}
use Rattle.mb_shutdown.proofs.Parties.{HasReason, IsParty, Party}
use Rattle.mb_shutdown.proofs.KnownActors.{Stands}

pub ended-phase : (p : Phase) → phase_is p EndedPhase ≡ true → p ≡ EndedPhase
ended-phase EndedPhase t = refl
ended-phase Fresh t = absurd (cc t)
ended-phase Live t = absurd (cc t)
ended-phase Broken t = absurd (cc t)
ended-phase Ending t = absurd (cc t)

-- nothing was set aside at the end of an actor that did not end
none-at-end : (who : Identity) (journal : List Entry) → closed who journal ≡ false → aside_at_end who journal ≡ 0
none-at-end who [] open_yet = refl
none-at-end who (e ∷ before) open_yet = ap (λ (b : Bool). if b then length (aside who before) else 0) open_yet

-- an actor's dead letters are never cleaned-up ones
never-cleaned : (directory : List DirectoryEntry) (w : DeadLetterReason) (to : ℕ) → IsReason directory w to → w ≡ why.Cleaned → ⊥
never-cleaned directory why.Closed to is same = absurd (let no : why.Closed ≡ why.Cleaned = same in cc no)
never-cleaned directory why.Full to is same = absurd (let no : why.Full ≡ why.Cleaned = same in cc no)
never-cleaned directory why.NoMemory to is same = absurd (let no : why.NoMemory ≡ why.Cleaned = same in cc no)
never-cleaned directory why.Cleaned to is same = absurd is

-- the queue of the first actor, the guardian, has no senders; and nothing is of a queue that has none
no-senders : (h : Contents) → IsOwn h → h.cell.who.this.0 ≡ 0 → h.take.queue.senders ≡ []
no-senders h own first = by_test (is_guardian h.cell.who) refl
  where
    by_test : (b : Bool) → is_guardian h.cell.who ≡ b → h.take.queue.senders ≡ []
    by_test true is = own.nobody is
    by_test false is = absurd (let above = own.not_zero is in omega (arith, above, first))

of-nobody : (queue : Queue) (es : List Envelope) → queue.senders ≡ [] → All (IsOfQueue queue) es → es ≡ []
of-nobody queue [] none all = refl
of-nobody queue (e ∷ es) none all =
    let among : Contains [] e.by.0 = subst (λ (senders : List ℕ). Contains senders e.by.0) none (All-head (IsOfQueue queue) e es all).0 in
    absurd (let lt : among.0 < 0 = among.1 in omega (arith, lt))

module _ (after : ℕ → List Message → ℤ) (gives : ℕ → Moment → Reply → Type 0) (first : Contents) (log : List Observation) where
  -- ---- one actor

  module _ (id : ℕ) (l : ReturnedHome) (st : Stands gives first log id l.home.value) (done : HasNoSystemLeft l) (left : List Envelope) (a : ActorReport)
      (shows : ShowsCell after (end_of l.home.value) left a) where
    abbrev h : Contents
    h = l.home.value

    abbrev who : Identity
    who = l.home.value.cell.who

    back : l.home.value.cell.journal ≡ a.journal.entries
    back = sym shows.journal_is

    pub report-of : IsReportOf after gives who a
    report-of = record {
      lawful = subst (λ (x : ℕ × List Entry). IsLawful who (gives x.0) x.1) (λ i. (sym st.is_home_of.number i, back i)) st.is_home_of.settled.lawful;
      phase_is = shows.phase_is ∙ ap (phase who) back;
      count_is = shows.count_is ∙ ap (count who) back;
      aside_is = shows.aside_is ∙ ap (aside who) back;
      none_due = subst (λ (j : List Entry). next_front who j ≡ None) back done.0.no_front;
      state_is = shows.state_is ∙ ap (λ (j : List Entry). if is_guardian who then None else Some (after who.this.0 (messages who j))) back;
      kept_is = shows.kept_is;
      cleaned_kept = shows.cleaned_kept;
    }

    -- how many that were set aside are dead
    aside-is : h.aside_dead ≡ (if closed who h.cell.journal then length (ever_aside h.cell.journal) else 0)
    aside-is = by_test (closed who h.cell.journal) refl
      where
        by_test : (b : Bool) → closed who h.cell.journal ≡ b → h.aside_dead ≡ (if b then length (ever_aside h.cell.journal) else 0)
        by_test true is = dead-at-end (gives id) [] h st.is_home_of.settled is
        by_test false is = st.is_home_of.settled.counted.aside ∙ none-at-end who h.cell.journal is

    -- the messages that are counted are those that were ever put into its list
    pub counts-put : (counts : CountsSystems log who a) × (counts.pushed ≡ st.pushed)
    counts-put = (
      record {
        pushed = st.pushed;
        few = st.few;
        known = subst (λ n. Each (IsPutAmong n st.pushed) log) (sym st.is_home_of.number) st.known;
        entered = subst (λ (j : List Entry). Each (λ m. IsAmong m (numbered 0 st.pushed)) (system_entries j)) back st.entered;
        once = subst (λ (j : List Entry). (n : ℕ) → n < next_number j
            → times n (applied_numbers j) + times n (numbers_in (ever_aside j)) ≡ 1) back (stands-once (gives id) [] h st.is_home_of.settled);
        later = h.dropped;
        all = sym st.given
            ∙ ap (λ (r : List (ℕ × SysMsg)). (next_number h.cell.journal + h.dropped + length r) % 2 ^ 64) done.0.no_rest
            ∙ ap (λ n. n % 2 ^ 64)
            (let e : next_number h.cell.journal + h.dropped + 0 ≡ next_number h.cell.journal + h.dropped = omega arith in e)
            ∙ ap (λ (j : List Entry). (next_number j + h.dropped) % 2 ^ 64) back;
        open_has_none = λ is. st.is_home_of.settled.counted.none (ap (closed who) back ∙ is);
        dead = shows.dead_is ∙ ap (λ n. (n + h.dropped) % 2 ^ 64) aside-is
            ∙ ap (λ (j : List Entry). ((if closed who j then length (ever_aside j) else 0) + h.dropped) % 2 ^ 64) back;
      },
      refl,
    )

    counts-all : CountsSystems log who a
    counts-all = counts-put.0

    pub counts-given : (given : ℕ) → given_of h ≡ given → CountsGiven who given a
    counts-given given is =
        subst (λ (j : List Entry). (given + (if closed who j then length (ever_aside j) else 0)) % 2 ^ 64 ≡ (next_number j + a.dead_system) % 2 ^ 64)
        back
        (let dead : a.dead_system ≡ (h.aside_dead + h.dropped) % 2 ^ 64 = shows.dead_is in let none = ap length done.0.no_rest in
        let at_end = aside-is in omega (arith, is, dead, none, at_end))

    pub fates-are : fates_in a ≡ h.take.taken ++ left
    fates-are =
        (λ i. begun (shows.journal_is i) ++ shows.cleaned_is i ++ shows.left_is i) ∙ ap (λ t. t ++ left) (sym st.is_home_of.settled.taken)

    pub cleaned-ended : a.cleaned.items ≢ [] → a.phase ≡ EndedPhase
    cleaned-ended some = by_test (closed who h.cell.journal) refl
      where
        by_test : (b : Bool) → closed who h.cell.journal ≡ b → a.phase ≡ EndedPhase
        by_test true is = shows.phase_is ∙ ended-phase (phase who h.cell.journal) is
        by_test false is = absurd (some (shows.cleaned_is ∙ st.is_home_of.settled.open_keeps is))

  -- ---- all

  module _ (lefts : List ReturnedHome) (outs : List FinishedSender) (g : Gathered first.directory lefts outs)
      (stands : (i : ℕ) (l : ReturnedHome) → slice_get lefts i ≡ Some l → Stands gives first log i l.home.value)
      (done : (i : ℕ) (l : ReturnedHome) → slice_get lefts i ≡ Some l → HasNoSystemLeft l) (many : length lefts ≡ length first.directory)
      (known : HasKnownSenders first.directory (length outs)) (envelopes : List (List Envelope))
      (taken : AreTaken (map (λ (l : ReturnedHome). l.home.value.take) lefts) (map (λ (p : Party). p.row) g.parties) envelopes) (report : Report)
      (many_actors : length report.actors.items ≡ length lefts)
      (shown : (i : ℕ) (l : ReturnedHome) (left : List Envelope) (a : ActorReport) → slice_get lefts i ≡ Some l → slice_get envelopes i ≡ Some left
      → slice_get report.actors.items i ≡ Some a
      → ShowsCell after (end_of l.home.value) left a × (left ≢ [] → (a.phase ≡ EndedPhase) ⊎ (0 < a.count)))
      (sents : map sent_of report.senders.items ≡ map (λ (p : Party). p.sent) g.parties) where
    -- what is left of an actor that is reported
    record At (id : ℕ) (a : ActorReport) : Type 0 where
      pub l : ReturnedHome
      pub left : List Envelope
      pub there_is : slice_get lefts id ≡ Some l
      pub left_there : slice_get envelopes id ≡ Some left
      pub shows : ShowsCell after (end_of l.home.value) left a
      pub kept : left ≢ [] → (a.phase ≡ EndedPhase) ⊎ (0 < a.count)

    left-at : (id : ℕ) → id < length lefts → (left : List Envelope) × (slice_get envelopes id ≡ Some left)
    left-at id lt =
        there envelopes id (let a = taken.same_count in let b = length-mapped (λ (l : ReturnedHome). l.home.value.take) lefts in omega (arith, lt, a, b))

    at-actor : (id : ℕ) (a : ActorReport) → slice_get report.actors.items id ≡ Some a → At id a
    at-actor id a found =
        let lt : id < length lefts = let b = within report.actors.items id a found in omega (arith, b, many_actors) in
        let l = there lefts id lt in let left = left-at id lt in let s = shown id l.0 left.0 a l.1 left.1 found in
        record { l = l.0; left = left.0; there_is = l.1; left_there = left.1; shows = s.0; kept = s.1 }

    abbrev enrolled_as : Contents → DirectoryEntry
    enrolled_as h = record { who = h.cell.who; queue = h.take.queue; discipline = h.take.discipline }

    enrolled-at : (id : ℕ) (e : DirectoryEntry) (l : ReturnedHome) → slice_get first.directory id ≡ Some e → slice_get lefts id ≡ Some l → e ≡ enrolled_as l.home.value
    enrolled-at id e l is found =
        let own = (stands id l found).is_home_of in
        same_Some e (enrolled_as l.home.value) (sym is ∙ (λ i. slice_get (sym own.directory i) (sym own.number i)) ∙ own.settled.is_own.enrolled)

    -- the queue of an actor has only senders that exist
    senders-at : (id : ℕ) (l : ReturnedHome) → slice_get lefts id ≡ Some l
        → All (IsSenderAmong (length first.directory) (length outs)) l.home.value.take.queue.senders
    senders-at id l found =
        let e = there first.directory id (let lt = within lefts id l found in omega (arith, lt, many)) in
        subst (λ (n : DirectoryEntry). All (IsSenderAmong (length first.directory) (length outs)) n.queue.senders) (enrolled-at id e.0 l e.1 found)
        (at-place (λ (n : DirectoryEntry). All (IsSenderAmong (length first.directory) (length outs)) n.queue.senders) first.directory id e.0 known e.1)

    take-at : (k : ℕ) (l : ReturnedHome) → slice_get lefts (suc k) ≡ Some l
        → slice_get (map (λ (l : ReturnedHome). l.home.value.take) lefts) (k + 1) ≡ Some l.home.value.take
    take-at k l found =
        ap (slice_get (map (λ (l : ReturnedHome). l.home.value.take) lefts)) (let e : k + 1 ≡ suc k = omega arith in e)
        ∙ mapped (λ (l : ReturnedHome). l.home.value.take) lefts (suc k) l found

    envelopes-at : (k : ℕ) (left : List Envelope) → slice_get envelopes (suc k) ≡ Some left → slice_get envelopes (k + 1) ≡ Some left
    envelopes-at k left found = ap (slice_get envelopes) (let e : k + 1 ≡ suc k = omega arith in e) ∙ found

    actor-clause : (id : ℕ) (e : DirectoryEntry) (a : ActorReport) → slice_get first.directory id ≡ Some e → slice_get report.actors.items id ≡ Some a
        → IsReportOf after gives e.who a × CountsSystems log e.who a
    actor-clause id e a is found =
        let x = at-actor id a found in let st = stands id x.l x.there_is in
        subst (λ (n : DirectoryEntry). IsReportOf after gives n.who a × CountsSystems log n.who a) (sym (enrolled-at id e x.l is x.there_is))
        (report-of id x.l st (done id x.l x.there_is) x.left a x.shows, counts-all id x.l st (done id x.l x.there_is) x.left a x.shows)

    -- ---- what the senders were answered

    abbrev answers : ℕ → List SentEnvelope
    answers place = get_or (map (λ (p : Party). p.postings) g.parties) place []

    answers-at : (i : ℕ) (p : Party) → slice_get g.parties i ≡ Some p → answers i ≡ p.postings
    answers-at i p found =
        get_or_from_slice_get (map (λ (p : Party). p.postings) g.parties) i p.postings [] (mapped (λ (p : Party). p.postings) g.parties i p found)

    told-clause : (id : ℕ) (e : DirectoryEntry) (a : ActorReport) → slice_get first.directory id ≡ Some e → slice_get report.actors.items id ≡ Some a
        → accepted (answers id) ≡ told e.who a.journal.entries
    told-clause id e a is found =
        let x = at-actor id a found in
        let p = there g.parties id (let lt = within lefts id x.l x.there_is in let m = g.same_count in omega (arith, lt, m)) in
        ap accepted (answers-at id p.0 p.1) ∙ g.told_are id x.l p.0 x.there_is p.1
        ∙ (λ i. told ((sym (enrolled-at id e x.l is x.there_is) i).who) (sym x.shows.journal_is i))

    sent-clause : (place : ℕ) (postings : List SentEnvelope) → slice_get (map (λ (o : FinishedSender). o.send_log.posted) outs) place ≡ Some postings
        → answers (length first.directory + place) ≡ postings
    sent-clause place postings is =
        let o = from-mapped (λ (o : FinishedSender). o.send_log.posted) outs place postings is in let p = g.posted place o.0 o.1 in
        ap (λ n. answers (n + place)) (sym many) ∙ answers-at (length lefts + place) p.0 p.1 ∙ p.2 ∙ o.2

    many-senders : length report.senders.items ≡ length g.parties
    many-senders =
        sym (length-mapped sent_of report.senders.items) ∙ ap length sents ∙ length-mapped (λ (p : Party). p.sent) g.parties

    party-at : (i : ℕ) → i < length report.senders.items → (p : Party) × (slice_get g.parties i ≡ Some p)
    party-at i lt = there g.parties i (let m = many-senders in omega (arith, lt, m))

    abbrev number_at : ℕ → ℕ
    number_at place = sender_number (length first.directory) place

    number-same : (place : ℕ) → sender_number (length lefts) place ≡ number_at place
    number-same place = ap (λ n. sender_number n place) many

    right : (d : DeadLetter) → HasReason first.directory (IsShut lefts) d → IsRightReason first.directory report.actors.items d
    right d reason = (λ is. by_closed (reason.0 is), reason.1)
      where
        by_closed : IsShut lefts d.envelope.to.0
            → (a : ActorReport) × (slice_get report.actors.items d.envelope.to.0 ≡ Some a) × (a.phase ≡ EndedPhase)
        by_closed s =
            let to = d.envelope.to.0 in
            let lt : to < length lefts = within lefts to s.one s.there_is in
            let a = there report.actors.items to (omega (arith, lt, many_actors)) in let left = left-at to lt in (
              a.0,
              a.1,
              (shown to s.one left.0 a.0 s.there_is left.1 a.1).0.phase_is
                  ∙ ended-phase (phase s.one.home.value.cell.who s.one.home.value.cell.journal) s.closed_is,
            )

    sender-clause : (place : ℕ) (s : SenderReport) → slice_get report.senders.items place ≡ Some s
        → (s.sent ≡ length (answers place) % 2 ^ 64) × (s.dead.items ≡ dead_letters (answers place))
        × NumbersCountUpFrom (number_at place) 0 (accepted (answers place))
        × All (IsRightReason first.directory report.actors.items) (dead_letters (answers place))
    sender-clause place s found =
        let p = party-at place (within report.senders.items place s found) in let is = g.each place p.0 p.1 in
        let same : sent_of s ≡ p.0.sent
        = alike sent_of (λ (p : Party). p.sent) report.senders.items g.parties place s p.0 sents found p.1 in
        let back : p.0.postings ≡ answers place = sym (answers-at place p.0 p.1) in (
          ap (λ (x : ℕ × List DeadLetter × Retention). x.0) same ∙ is.sent_is ∙ ap (λ (l : List SentEnvelope). length l % 2 ^ 64) back,
          ap (λ (x : ℕ × List DeadLetter × Retention). x.1) same ∙ is.dead_is ∙ ap dead_letters back,
          subst (λ (x : ℕ × List SentEnvelope). NumbersCountUpFrom x.0 0 (accepted x.1)) (λ i. (number-same place i, back i)) is.numbered,
          subst (λ (l : List SentEnvelope). All (IsRightReason first.directory report.actors.items) (dead_letters l)) back
              (All-weaker (HasReason first.directory (IsShut lefts)) (IsRightReason first.directory report.actors.items) right (dead_letters p.0.postings)
              is.reasons),
        )

    -- an actor's dead letters are its home's
    letters-of : (i : ℕ) (l : ReturnedHome) (p : Party) → slice_get lefts i ≡ Some l → slice_get g.parties i ≡ Some p
        → l.home.value.dead ≡ dead_letters p.postings
    letters-of i l p found is =
        let of_home = λ (l : ReturnedHome). sent_in l.home.value in
        let others = map {A = FinishedSender} {B = ℕ × List DeadLetter × Retention} (λ o. (o.send_log.sent, o.send_log.dead.items, o.send_log.dead.retention)) outs in
        let here : p.sent ≡ sent_in l.home.value
        = same_Some p.sent (sent_in l.home.value)
        (sym (mapped (λ (p : Party). p.sent) g.parties i p is) ∙ ap (λ y. slice_get y i) g.sents
        ∙ in-first (map of_home lefts) others i (of_home l) (mapped of_home lefts i l found)) in
        sym (ap (λ (x : ℕ × List DeadLetter × Retention). x.1) here) ∙ (g.each i p is).dead_is

    not-cleaned-clause : (place : ℕ) → place < length first.directory
        → All (λ (d : DeadLetter). d.why ≢ why.Cleaned) (dead_letters (answers place))
    not-cleaned-clause place lt =
        let l = there lefts place (omega (arith, lt, many)) in
        let p = there g.parties place (let m = g.same_count in omega (arith, lt, many, m)) in
        let h = l.0.home.value in
        subst (λ ds. All (λ (d : DeadLetter). d.why ≢ why.Cleaned) ds)
        (letters-of place l.0 p.0 l.1 p.1 ∙ ap dead_letters (sym (answers-at place p.0 p.1)))
        (All-weaker (λ (d : DeadLetter). IsReason h.directory d.why d.envelope.to.0) (λ (d : DeadLetter). d.why ≢ why.Cleaned)
        (λ d is. never-cleaned h.directory d.why d.envelope.to.0 is) h.dead (stands place l.0 l.1).is_home_of.settled.reasons)

    -- ---- one sender and one receiver

    module _ (place k : ℕ) (a : ActorReport) (lt : place < length report.senders.items)
        (found : slice_get report.actors.items (suc k) ≡ Some a) where
      abbrev x : At (suc k) a
      x = at-actor (suc k) a found

      abbrev p : Party
      p = (party-at place lt).0

      p-there : slice_get g.parties place ≡ Some p
      p-there = (party-at place lt).1

      party : IsParty first.directory (IsShut lefts) (sender_number (length lefts) place) p
      party = g.each place p p-there

      pass-there : (s : SendPassView) × (slice_get p.row k ≡ Some s)
      pass-there =
          let a = length-mapped (λ (s : SendPassView). s.queue) p.row in let b = ap length party.send_passes in
          let c = length-drop 1 (queues_of first.directory) in let d = length-mapped (λ (n : DirectoryEntry). n.queue) first.directory in
          let e = within lefts (suc k) x.l x.there_is in
          there p.row k (omega (arith, a, b, c, d, e, many))

      abbrev s : SendPassView
      s = pass-there.0

      came : AllArrived x.l.home.value.take.discipline (x.l.home.value.take.taken ++ x.left) s
      came =
          let t = x.l.home.value.take in
          in-column (AllArrived t.discipline (t.taken ++ x.left)) k (map (λ (p : Party). p.row) g.parties) place p.row s
          (taken.came k t x.left (take-at k x.l x.there_is) (envelopes-at k x.left x.left_there))
          (mapped (λ (p : Party). p.row) g.parties place p p-there) pass-there.1

      by-is : s.by ≡ sender_number (length lefts) place
      by-is = at-place (λ (q : SendPassView). q.by ≡ sender_number (length lefts) place) p.row k s party.by pass-there.1

      pushed-is : s.pushed ≡ to_actor (suc k) (queued p.postings)
      pushed-is = party.pushed k s pass-there.1

      numbered-by : NumbersCountUpFrom s.by 0 (accepted p.postings)
      numbered-by = subst (λ n. NumbersCountUpFrom n 0 (accepted p.postings)) (sym by-is) party.numbered

      fates-back : x.l.home.value.take.taken ++ x.left ≡ fates_in a
      fates-back = sym (fates-are (suc k) x.l (stands (suc k) x.l x.there_is) (done (suc k) x.l x.there_is) x.left a x.shows)

      answers-back : p.postings ≡ answers place
      answers-back = sym (answers-at place p p-there)

      number-is : s.by ≡ number_at place
      number-is = by-is ∙ number-same place

      pair-once : EachHasOneFate (suc k) (answers place) (fates_in a)
      pair-once =
          let t = x.l.home.value.take in
          subst (λ (y : List SentEnvelope × List Envelope). EachHasOneFate (suc k) y.0 y.1) (λ i. (answers-back i, fates-back i))
          (once (suc k) p.postings t.discipline (t.taken ++ x.left) s pushed-is came numbered-by)

      pair-often : AcceptedMatchFates (number_at place) (suc k) (answers place) (fates_in a)
      pair-often =
          let t = x.l.home.value.take in
          subst (λ (y : ℕ × List SentEnvelope × List Envelope). AcceptedMatchFates y.0 (suc k) y.1 y.2) (λ i. (number-is i, answers-back i, fates-back i))
          (often (suc k) p.postings t.discipline (t.taken ++ x.left) s pushed-is came)

      pair-in-order : x.l.home.value.take.discipline ≡ first_in_first_out → FatesInSendOrder (number_at place) (suc k) (answers place) (fates_in a)
      pair-in-order kind =
          let t = x.l.home.value.take in
          subst (λ (y : ℕ × List SentEnvelope × List Envelope). FatesInSendOrder y.0 (suc k) y.1 y.2) (λ i. (number-is i, answers-back i, fates-back i))
          (in_order (suc k) p.postings t.discipline (t.taken ++ x.left) s pushed-is came numbered-by kind)

      pair-parts-in-order : x.l.home.value.take.discipline ≡ control_first → ArePartsInOrder (number_at place) (suc k) (answers place) (fates_in a)
      pair-parts-in-order kind =
          let t = x.l.home.value.take in
          subst (λ (y : ℕ × List SentEnvelope × List Envelope). ArePartsInOrder y.0 (suc k) y.1 y.2)
          (λ i. (number-is i, answers-back i, fates-back i))
          (parts_in_order (suc k) p.postings t.discipline (t.taken ++ x.left) s pushed-is came numbered-by kind)

    once-clause : (place id : ℕ) (a : ActorReport) → place < length report.senders.items → 0 < id → slice_get report.actors.items id ≡ Some a
        → EachHasOneFate id (answers place) (fates_in a) × AcceptedMatchFates (number_at place) id (answers place) (fates_in a)
    once-clause place zero a lt above found = absurd (omega (arith, above))
    once-clause place (suc k) a lt above found = (pair-once place k a lt found, pair-often place k a lt found)

    order-clause : (place id : ℕ) (e : DirectoryEntry) (a : ActorReport) → place < length report.senders.items → 0 < id
        → slice_get first.directory id ≡ Some e → slice_get report.actors.items id ≡ Some a → e.discipline ≡ first_in_first_out
        → FatesInSendOrder (number_at place) id (answers place) (fates_in a)
    order-clause place zero e a lt above is found kind = absurd (omega (arith, above))
    order-clause place (suc k) e a lt above is found kind =
        let x = at-actor (suc k) a found in
        pair-in-order place k a lt found (sym (ap (λ (n : DirectoryEntry). n.discipline) (enrolled-at (suc k) e x.l is x.there_is)) ∙ kind)

    parts-clause : (place id : ℕ) (e : DirectoryEntry) (a : ActorReport) → place < length report.senders.items → 0 < id
        → slice_get first.directory id ≡ Some e → slice_get report.actors.items id ≡ Some a → e.discipline ≡ control_first
        → ArePartsInOrder (number_at place) id (answers place) (fates_in a)
    parts-clause place zero e a lt above is found kind = absurd (omega (arith, above))
    parts-clause place (suc k) e a lt above is found kind =
        let x = at-actor (suc k) a found in
        pair-parts-in-order place k a lt found (sym (ap (λ (n : DirectoryEntry). n.discipline) (enrolled-at (suc k) e x.l is x.there_is)) ∙ kind)

    -- ---- control messages are left before all others

    module _ (k : ℕ) (a : ActorReport) (found : slice_get report.actors.items (suc k) ≡ Some a) where
      abbrev send_passes : List SendPassView
      send_passes = column k (map (λ (p : Party). p.row) g.parties)

      -- each sender that exists has a pass to the actor
      pass-of : (sender : ℕ) → IsSenderAmong (length first.directory) (length outs) sender → Contains (map (λ (s : SendPassView). s.by) send_passes) sender
      pass-of sender is =
          let among = is.within in
          let lt : is.place < length report.senders.items = let m = many-senders in let n = g.same_count in omega (arith, among, m, n, many) in
          let p = party-at is.place lt in let s = pass-there is.place k a lt found in
          subst (λ n. Contains (map (λ (s : SendPassView). s.by) send_passes) n) (number-is is.place k a lt found ∙ sym is.number_is)
          (sender-in-column k (map (λ (p : Party). p.row) g.parties) is.place p.0.row s.0
          (mapped (λ (p : Party). p.row) g.parties is.place p.0 p.1) s.1)

      passes-of-all : (queue : Queue) → All (IsSenderAmong (length first.directory) (length outs)) queue.senders → AreOfAllSenders queue send_passes
      passes-of-all queue senders =
          All-weaker (IsSenderAmong (length first.directory) (length outs)) (λ n. Contains (map (λ (s : SendPassView). s.by) send_passes) n) pass-of queue.senders
          senders

    left-clause : (id : ℕ) (e : DirectoryEntry) (a : ActorReport) → slice_get first.directory id ≡ Some e → slice_get report.actors.items id ≡ Some a
        → e.discipline ≡ control_first → IsControlsFirst a.left.items
    left-clause zero e a is found kind =
        let x = at-actor zero a found in
        subst IsControlsFirst (sym (x.shows.left_is ∙ taken.none_first x.left x.left_there)) refl
    left-clause (suc k) e a is found kind =
        let x = at-actor (suc k) a found in let t = x.l.home.value.take in
        subst IsControlsFirst (sym x.shows.left_is)
        (taken.ordered k t x.left (take-at k x.l x.there_is) (envelopes-at k x.left x.left_there)
        (sym (ap (λ (n : DirectoryEntry). n.discipline) (enrolled-at (suc k) e x.l is x.there_is)) ∙ kind)
        (passes-of-all k a found t.queue (senders-at (suc k) x.l x.there_is)))

    -- ---- nothing else

    nothing-clause : (id : ℕ) (a : ActorReport) → slice_get report.actors.items id ≡ Some a
        → All (λ (e : Envelope). (place : ℕ) × (place < length report.senders.items) × (e.by.0 ≡ number_at place)) (fates_in a)
    nothing-clause id a found =
        let x = at-actor id a found in let t = x.l.home.value.take in
        subst (λ (l : List Envelope). All (λ (e : Envelope). (place : ℕ) × (place < length report.senders.items) × (e.by.0 ≡ number_at place)) l)
        (sym (fates-are id x.l (stands id x.l x.there_is) (done id x.l x.there_is) x.left a x.shows))
        (All-weaker (IsOfQueue t.queue)
        (λ (e : Envelope). (place : ℕ) × (place < length report.senders.items) × (e.by.0 ≡ number_at place))
        (λ e of.
        let one = All-contains (IsSenderAmong (length first.directory) (length outs)) t.queue.senders e.by.0 (senders-at id x.l x.there_is) of.0 in
        let among = one.within in let m = many-senders in let n = g.same_count in
        (one.place, omega (arith, among, m, n, many), one.number_is)) (t.taken ++ x.left)
        (taken.known id t x.left (mapped (λ (l : ReturnedHome). l.home.value.take) lefts id x.l x.there_is) x.left_there))

    -- nothing for the guardian
    nobody-clause : (a : ActorReport) → slice_get report.actors.items 0 ≡ Some a → fates_in a ≡ []
    nobody-clause a found =
        let x = at-actor 0 a found in let t = x.l.home.value.take in let st = stands 0 x.l x.there_is in
        fates-are 0 x.l st (done 0 x.l x.there_is) x.left a x.shows
        ∙ of-nobody t.queue (t.taken ++ x.left) (no-senders x.l.home.value st.is_home_of.settled.is_own st.is_home_of.number)
        (taken.known 0 t x.left (mapped (λ (l : ReturnedHome). l.home.value.take) lefts 0 x.l x.there_is) x.left_there)

    pub whole : IsCompleteReport after gives first.directory log (map (λ (o : FinishedSender). o.send_log.posted) outs) report
    whole = record {
      same_count = (
        many_actors ∙ many,
        let a = many-senders in let b = g.same_count in let c = length-mapped (λ (o : FinishedSender). o.send_log.posted) outs in omega (arith, a, b, c, many),
      );
      actors = actor-clause;
      answers = answers;
      told_all = told-clause;
      sent_all = sent-clause;
      sent = sender-clause;
      once = once-clause;
      nothing_else = nothing-clause;
      nobody = nobody-clause;
      not_cleaned = not-cleaned-clause;
      in_order = order-clause;
      parts_in_order = parts-clause;
      left_in_parts = left-clause;
      cleaned = λ id a found some.
          let x = at-actor id a found in
          cleaned-ended id x.l (stands id x.l x.there_is) (done id x.l x.there_is) x.left a x.shows some;
      left = λ id a found some.
          let x = at-actor id a found in x.kept (λ none. some (x.shows.left_is ∙ none));
    }
