-- The headline, from what holds of the gates' states and of reports.
use Rattle.std.proofs.Common.{◌≡◌, ℕ, zero, suc, ◌+◌, ◌-◌, ◌<◌, ℤ, Bool, List, [], ◌∷◌, ◌++◌, length, map, refl, sym, ap, ◌∙◌, subst, arith, Option, Some, None, IsNone, ⊎_elim}
use Rattle.std.specs.Global.{Box}
use Rattle.std.specs.Prelude.{Contains, count_by, slice_get}
use Rattle.std.proofs.lemmas.Option.{none-some, same_Some}
use Rattle.mb_status.specs.Mailbox.{word_of}
use Rattle.mb_msg.specs.Limits.{most_actors}
use Rattle.mb_msg.specs.declared.dead_letter.DeadLetter.{DeadLetter}
use Rattle.mb_msg.specs.declared.envelope.Envelope.{Envelope}
use Rattle.mb_actor.specs.Behaviour.{Moment, Reply}
use Rattle.mb_actor.specs.declared.message.Message.{Message}
use Rattle.mb_actor.specs.declared.phase.Phase.TheVariants.{Ended as EndedPhase}
use Rattle.mb_journal.specs.Accepted.{accepted, envelopes_of, is_same_name, sent_by, to_actor, without_named}
use Rattle.mb_journal.specs.Entry.{Entry}
use Rattle.mb_journal.specs.Entry.Entry.{Handled, System, Dropped}
use Rattle.mb_journal.specs.Entry.Outcome.{Applied, SetAside}
use Rattle.mb_journal.specs.Identity.{Identity}
use Rattle.mb_journal.specs.Lawful.{AreLawful, IsLawful, IsLawfulEntry}
use Rattle.mb_journal.specs.Phase.{phase_is}
use Rattle.mb_journal.specs.Tells.{told}
use Rattle.mb_journal.specs.declared.sent_envelope.SentEnvelope.{SentEnvelope}
use Rattle.mb_gate.specs.Accessors.{actors_of, first_home}
use Rattle.mb_gate.specs.HomeFacts.{HomeFacts}
use Rattle.mb_gate.specs.View.{Observation}
use Rattle.mb_gate.specs.declared.gates.Gates.{Gates}
use Rattle.mb_gate.proofs.Claimed.{shows_claims}
use Rattle.mb_home.specs.AtHome.{IsHomeOf, facts_of, mailbox_at}
use Rattle.mb_home.specs.Contents.{Contents}
use Rattle.mb_home.specs.Directory.{DirectoryEntry}
use Rattle.mb_report.specs.declared.report.ActorReport.{ActorReport}
use Rattle.mb_report.specs.declared.report.Report.{Report}
use Rattle.mb_system.specs.Belonging.{senders_numbers}
use Rattle.mb_system.specs.declared.built.Built.{Built}
use Rattle.mb_system.specs.Members.{OutsideSender}
use Rattle.mb_shutdown.specs.Belonging.{AreAnswers, AreThere, IsFifoIn, directory_of}
use Rattle.mb_shutdown.specs.CompleteReport.{IsCompleteReport, IsReportOf, fates_in, sender_number, told_by_each}
use Rattle.mb_shutdown.specs.GateStates.{GatesState, Holds, IsFree, IsInSlot, IsStateOf, status_word}
use Rattle.mb_shutdown.specs.Headline.{BegunOpen, Headline, IsBegunOpen, OneFate}
use Rattle.mb_shutdown.proofs.Lists.{at-place, from-mapped, in-either, length-mapped, within}
use Rattle.mb_shutdown.proofs.NothingToRun.{nobody-has-to-run}
use Rattle.mb_shutdown.proofs.Places.{at-contained}

-- ---- who holds an actor, and where its home lies

same-seat : (a b : ℕ) → Some a ≡ Some b → a ≡ b
same-seat a b e = cc

none-held : (o : Option ℕ) → ((p : ℕ) → o ≡ Some p → ⊥) → IsNone o
none-held None nobody = refl
none-held (Some p) nobody = absurd (nobody p refl)

held-by-none : (o : Option ℕ) (p : ℕ) → IsNone o → o ≡ Some p → ⊥
held-by-none None p none is = absurd (cc)
held-by-none (Some q) p none is = absurd (cc)

module _ (gives : ℕ → Moment → Reply → Type 0) (gates : Gates (Box Contents)) (state : GatesState) (actor : ℕ) (rule : IsStateOf gives gates state)
    (lt : actor < actors_of gates) where
  abbrev is_of : ℕ → Box Contents → Type 0
  is_of number home = IsHomeOf (gives number) (first_home gates).value number home.value

  abbrev facts : Box Contents → HomeFacts
  facts home = facts_of home.value

  pub one-holder : (p q : ℕ) → Holds state p actor → Holds state q actor → p ≡ q
  one-holder p q one other =
      let shows = shows_claims is_of facts (actors_of gates) state rule actor lt in
      same-seat p q (sym (shows.0 p one.0 one.1 one.2 one.3).0 ∙ (shows.0 q other.0 other.1 other.2 other.3).0)

  pub free-at-home : IsFree state actor → (home : Box Contents) × IsInSlot state actor home
  free-at-home free =
      let shows = shows_claims is_of facts (actors_of gates) state rule actor lt in shows.2.0 (none-held _ (λ p is. free p (shows.1 p is)))

  pub at-home-free : (home : Box Contents) → IsInSlot state actor home
      → IsFree state actor × IsLawful home.value.cell.who (gives actor) home.value.cell.journal
      × (status_word state actor ≡ word_of (mailbox_at home.value.cell.who home.value.cell.journal))
  at-home-free home there =
      let shows = shows_claims is_of facts (actors_of gates) state rule actor lt in let own = shows.3 home there in (
        λ seat held. held-by-none _ seat (shows.2.1 (home, there)) (shows.0 seat held.0 held.1 held.2 held.3).0,
        own.0.settled.lawful,
        own.1,
      )

-- ---- what was begun

module _ (who : Identity) (gives : Moment → Reply → Type 0) where
  entry-open : (before : List Entry) (entry : Entry) → IsLawfulEntry who gives before entry → IsBegunOpen who before entry
  entry-open before (Handled envelope reading (Applied answer effects)) lawful = lawful.open_reading
  entry-open before (Handled envelope reading SetAside) lawful = absurd lawful
  entry-open before (System number message outcome) lawful = tt
  entry-open before (Dropped envelope) lawful = (ap (λ p. phase_is p EndedPhase) lawful.live, lawful.not_suspended)

  pub all-open : (newer before : List Entry) (entry : Entry) → AreLawful who gives (newer ++ entry ∷ before) → IsBegunOpen who before entry
  unfolding AreLawful
  all-open [] before entry lawful = entry-open before entry lawful.0
  all-open (e ∷ newer) before entry lawful = all-open newer before entry lawful.1

-- ---- what was sent

told-place : (actors : List Identity) (reports : List ActorReport) (place : ℕ) (sent : List Envelope)
    → slice_get (told_by_each actors reports) place ≡ Some sent
    → (who : Identity) × (a : ActorReport) × (slice_get actors place ≡ Some who) × (slice_get reports place ≡ Some a) × (told who a.journal.entries ≡ sent)
told-place [] reports place sent is = absurd (none-some sent is)
told-place (who ∷ actors) [] place sent is = absurd (none-some sent is)
told-place (who ∷ actors) (a ∷ reports) zero sent is = (who, a, refl, refl, same_Some (told who a.journal.entries) sent is)
told-place (who ∷ actors) (a ∷ reports) (suc place) sent is = told-place actors reports place sent is

pub told-count : (actors : List Identity) (reports : List ActorReport) → length actors ≡ length reports
    → length (told_by_each actors reports) ≡ length reports
told-count [] [] same = refl
told-count [] (a ∷ reports) same = absurd (omega (arith, same))
told-count (who ∷ actors) [] same = absurd (omega (arith, same))
told-count (who ∷ actors) (a ∷ reports) same = ap suc (told-count actors reports (omega (arith, same)))

same-lists : {X : Type 0} (xs ys : List X) → length xs ≡ length ys
    → ((i : ℕ) (x y : X) → slice_get xs i ≡ Some x → slice_get ys i ≡ Some y → x ≡ y) → xs ≡ ys
same-lists [] [] many each = refl
same-lists [] (y ∷ ys) many each = absurd (omega (arith, many))
same-lists (x ∷ xs) [] many each = absurd (omega (arith, many))
same-lists (x ∷ xs) (y ∷ ys) many each =
    ap (λ z. z ∷ xs) (each zero x y refl refl)
    ∙ ap (λ l. y ∷ l) (same-lists xs ys (omega (arith, many)) (λ i z w is found. each (suc i) z w is found))

-- what the senders were answered is one list
same-answers : (many : ℕ) (senders : List OutsideSender) (xs ys : List (List SentEnvelope)) → AreThere many (senders_numbers senders)
    → AreAnswers many senders xs → AreAnswers many senders ys → xs ≡ ys
same-answers many senders xs ys complete one other =
    same-lists xs ys (one.length_is ∙ sym other.length_is)
    (λ i x y is found.
    let b = within xs i x is in let m = one.length_is in
    let at = at-contained (senders_numbers senders) i (complete i (omega (arith, b, m))) in
    let s = from-mapped (λ (s : OutsideSender). s.send_log.by.0 - most_actors) senders at.0 i at.1 in
    let first = at-place (λ (s : OutsideSender). slice_get xs (s.send_log.by.0 - most_actors) ≡ Some s.send_log.posted) senders at.0 s.0 one.each s.1 in
    let second = at-place (λ (s : OutsideSender). slice_get ys (s.send_log.by.0 - most_actors) ≡ Some s.send_log.posted) senders at.0 s.0 other.each s.1 in
    same_Some x y (sym is ∙ ap (slice_get xs) (sym s.2) ∙ first ∙ sym second ∙ ap (slice_get ys) s.2 ∙ found))

module _ (after : ℕ → List Message → ℤ) (gives : ℕ → Moment → Reply → Type 0) (directory : List DirectoryEntry) (log : List Observation)
    (answers : List (List SentEnvelope)) (report : Report) (whole : IsCompleteReport after gives directory log answers report) where
  abbrev whos : List Identity
  whos = map (λ (e : DirectoryEntry). e.who) directory

  many-whos : length whos ≡ length directory
  many-whos = length-mapped (λ (e : DirectoryEntry). e.who) directory

  pub shown : (id : ℕ) (who : Identity) (a : ActorReport) → slice_get whos id ≡ Some who → slice_get report.actors.items id ≡ Some a
      → IsReportOf after gives who a
  shown id who a is at =
      let e = from-mapped (λ (e : DirectoryEntry). e.who) directory id who is in
      subst (λ w. IsReportOf after gives w a) e.2 (whole.actors id e.0 a e.1 at).0

  pub begun-open : BegunOpen whos report
  begun-open id who a newer before entry is at joined =
      all-open who (gives who.this.0) newer before entry (subst (AreLawful who (gives who.this.0)) joined (shown id who a is at).lawful.entries)

  -- what a sender was answered for is what it sent
  pub sent-is : (place : ℕ) (sent : List Envelope) → slice_get (told_by_each whos report.actors.items ++ map accepted answers) place ≡ Some sent
      → accepted (whole.answers place) ≡ sent
  sent-is place sent is = ⊎_elim (λ first.
      let t = told-place whos report.actors.items place sent first.1 in
      let e = from-mapped (λ (e : DirectoryEntry). e.who) directory place t.0 t.2 in
      whole.told_all place e.0 t.1 e.1 t.3 ∙ ap (λ w. told w t.1.journal.entries) e.2 ∙ t.4)
      (λ second.
      let p = from-mapped accepted answers second.0 sent second.2 in
      let n = second.1 in let w = many-whos in let d = whole.same_count.0 in
      let c = told-count whos report.actors.items (w ∙ sym d) in
      let same : length directory + second.0 ≡ place = omega (arith, n, c, d) in
      ap (λ k. accepted (whole.answers k)) (sym same) ∙ ap accepted (whole.sent_all second.0 p.0 p.1) ∙ p.2)
      (in-either (told_by_each whos report.actors.items) (map accepted answers) place sent is)

  pub one-fate : (actors : List Identity) → whos ≡ actors → (outside : List (List Envelope)) → map accepted answers ≡ outside
      → (IsFifo : ℕ → Type 0) → ((id : ℕ) → IsFifo id → IsFifoIn directory id) → OneFate actors report IsFifo outside
  one-fate actors actors_are outside outside_are IsFifo fifo =
      subst (λ (x : List Identity × List (List Envelope)). OneFate x.0 report IsFifo x.1) (λ i. (actors_are i, outside_are i)) (record {
        same_count = (
          whole.same_count.0 ∙ sym many-whos,
          whole.same_count.1 ∙ (let a = many-whos in let b = length-mapped accepted answers in omega (arith, a, b)),
        );
        each = λ place id sent s a is found above at.
            let lt = within report.senders.items place s found in
            let sent_are = sent-is place sent is in
            let dead_are = sym (whole.sent place s found).1 in
            let number = ap (λ n. sender_number n place) (sym many-whos) in
            let both = whole.once place id a lt above at in record {
              once = subst (λ (x : List Envelope × List DeadLetter). (e : Envelope) → Contains x.0 e → e.to.0 ≡ id
                  → count_by (is_same_name e) (fates_in a) + count_by (is_same_name e) (to_actor id (envelopes_of x.1)) ≡ 1)
                  (λ i. (sent_are i, dead_are i)) both.0;
              alone = subst (λ (x : ℕ × List Envelope × List DeadLetter). (test : Envelope → Bool) → count_by test (to_actor id x.1)
                  ≡ count_by test (sent_by x.0 (fates_in a)) + count_by test (to_actor id (envelopes_of x.2)))
                  (λ i. (number i, sent_are i, dead_are i)) both.1;
              in_order = λ keeps.
                  let e = fifo id keeps in
                  subst (λ (x : ℕ × List Envelope × List DeadLetter). sent_by x.0 (fates_in a) ≡ to_actor id (without_named (envelopes_of x.2) x.1))
                  (λ i. (number i, sent_are i, dead_are i)) (whole.in_order place id e.0 a lt above e.1 at e.2);
            };
      })

-- ---- the five parts

pub headline : {A K : Type 0} (after : ℕ → List Message → ℤ) (gives : ℕ → Moment → Reply → Type 0) (built : Built A K) (log : List Observation)
    (answers : List (List SentEnvelope)) (report : Report) → AreThere built.system.senders (senders_numbers built.senders.items)
    → AreAnswers built.system.senders built.senders.items answers → IsCompleteReport after gives (directory_of built) log answers report
    → Headline after gives built report
headline after gives built log answers report complete answered whole =
    let directory = directory_of built in
    let many = length-mapped (λ (e : DirectoryEntry). e.who) directory ∙ built.system.directory in record {
      one_holder = λ state actor p q rule lt one other.
          one-holder gives built.system.gates state actor rule (omega (arith, lt, many)) p q one other;
      free_is_fold = (
        λ state actor rule lt. (
          free-at-home gives built.system.gates state actor rule (omega (arith, lt, many)),
          at-home-free gives built.system.gates state actor rule (omega (arith, lt, many)),
        ),
        shown after gives directory log answers report whole,
      );
      begun_open = begun-open after gives directory log answers report whole;
      one_fate = λ outside are.
          one-fate after gives directory log answers report whole (map (λ (e : DirectoryEntry). e.who) directory) refl (map accepted outside)
          (ap (map accepted) (same-answers built.system.senders built.senders.items answers outside complete answered are)) (IsFifoIn directory)
          (λ id fifo. fifo);
      at_rest = nobody-has-to-run after gives directory log answers report whole;
    }
