-- How a system message that was applied changes a run, with the acts that it asks for carried out.
use Rattle.std.proofs.Common.{◌≡◌, ℕ, ◌+◌, ◌<◌, ◌≤◌, ◌^◌, ◌⊎◌, inl, inr, Bool, true, false, List, [], length, refl, sym, ap, ◌∙◌, subst, arith}
use Rattle.std.proofs.Common.{lt_of_not-le}
use Rattle.std.specs.Prelude.{◌↔◌, Result, Ok, Err, OnErr, IsErrAnd, IsErrOf, is_ok}
use Rattle.std.specs.Global.{Box}
use Rattle.mb_actor.specs.Behaviour.{Moment, Reply}
use Rattle.mb_journal.specs.Acts.{Act}
use Rattle.mb_journal.specs.declared.error.ReadyError.{ReadyError}
use Rattle.mb_journal.specs.declared.error.ReadyError.TheVariants.{JournalFull, NoMemory}
use Rattle.mb_journal.specs.Life.{closed}
use Rattle.mb_gate.specs.Untouched.{Origin}
use Rattle.mb_gate.specs.View.{Observation}
use Rattle.mb_home.specs.Contents.{Contents}
use Rattle.mb_home.specs.AgreesWithJournal.{AgreesWithJournal}
use Rattle.mb_mailbox.specs.declared.turn.Turn.{Turn}
use Rattle.mb_mailbox.specs.RunSends.{SendsForEntries}
use Rattle.mb_mailbox.specs.RunState.{RunState}
use Rattle.mb_mailbox.specs.Ran.{CountsRun}
use Rattle.mb_mailbox.specs.Running.{IsRunning, BacklogAgrees, KeepsJournal, SameRun, counted_by}
use Rattle.mb_mailbox.proofs.BacklogLemmas.{backlog-home, same-run-then}
use Rattle.mb_mailbox.proofs.EmptiedLemmas.{err-then, takes-same}
use Rattle.mb_mailbox.proofs.RunSendsLemmas.{due-none, entries-none, entries-then}
use Rattle.mb_mailbox.proofs.RunningSteps.{running-same}
use Rattle.mb_mailbox.proofs.RunCountLemmas.{systems-few, blocks-few}

-- a run that keeps the journal is the same run
pub same-keeps : (a b c : RunState) → SameRun a b → KeepsJournal b c → SameRun a c
same-keeps a b c p q = same-run-then a b c p q.same

-- whether the actor ended is in its journal, so that it stays so where that does
pub ended-keeps : (a b : RunState) → KeepsJournal a b → closed a.home.cell.who a.home.cell.journal ≡ true →
    closed b.home.cell.who b.home.cell.journal ≡ true
ended-keeps a b keeps ended = (λ i. closed (keeps.same.who i) (keeps.journal i)) ∙ ended

-- it ended before, or in a step that failed
pub ended-either : {T E : Type 0} {P : Type 0} (a b : RunState) (r : Result T E) → KeepsJournal a b →
    (P → closed a.home.cell.who a.home.cell.journal ≡ true) → OnErr r (closed b.home.cell.who b.home.cell.journal ≡ true) →
    P ⊎ (is_ok r ≡ false) → closed b.home.cell.who b.home.cell.journal ≡ true
ended-either a b r keeps before failed (inl ended) = ended-keeps a b keeps (before ended)
ended-either a b r keeps before failed (inr ill) = err-then r ill failed

-- what answers that there is no memory does not answer that the journal is full
pub not-full : {T : Type 0} (r : Result T ReadyError) → OnErr r (IsErrOf r NoMemory) → IsErrOf r JournalFull → ⊥
not-full (Ok x) none full = absurd (cc full)
not-full (Err e) none full = absurd (cc (none, full))

-- the fault that a result of either kind has
pub same-fault : {T : Type 0} {which : ReadyError} (fault : ReadyError) → IsErrOf {T = T} (Err fault) which → fault ≡ which
same-fault fault is = cc is

-- and the one that is passed on
pub passed-fault : {T : Type 0} {which : ReadyError} (r : Result T ReadyError) (fault : ReadyError) → IsErrAnd r (λ passed. passed ≡ fault) →
    IsErrOf r which → fault ≡ which
passed-fault (Ok x) fault passed is = absurd passed
passed-fault {T} (Err e) fault passed is = sym passed ∙ same-fault {T = T} e is

-- what answers that the journal is full exactly where it is: a journal has room where it answers otherwise
module _ {T : Type 0} (r : Result T ReadyError) (limit n : ℕ) (full : IsErrOf r JournalFull ↔ (limit ≤ n)) where
  pub room-short : IsErrOf r NoMemory → n < limit
  room-short short = lt_of_not-le (λ (at_limit : limit ≤ n). absurd (cc (short, full.1 at_limit)))

  pub room-well : (x : T) → r ≡ Ok x → n < limit
  room-well x well = lt_of_not-le (λ (at_limit : limit ≤ n). absurd (cc (well, full.1 at_limit)))

-- room was made
module _ (h : RunState) (new : Contents) (ready : Bool) (room : ℕ)
    (same : new ≡ record h.home { cell = record h.home.cell { is_ready = ready }; room = room }) where
  who : new.cell.who ≡ h.home.cell.who
  who = ap (λ (x : Contents). x.cell.who) same

  journal : new.cell.journal ≡ h.home.cell.journal
  journal = ap (λ (x : Contents). x.cell.journal) same

  pub room-ready : length h.home.cell.journal < h.home.cell.who.limit → length new.cell.journal < new.cell.who.limit
  room-ready room_left = subst (λ (x : Contents). length x.cell.journal < x.cell.who.limit) (sym same) room_left

  pub full-ready : h.home.cell.who.limit ≤ length h.home.cell.journal → new.cell.who.limit ≤ length new.cell.journal
  full-ready full = subst (λ (x : Contents). x.cell.who.limit ≤ length x.cell.journal) (sym same) full

  pub acts-ready : new.cell.acts ≡ h.home.cell.acts
  acts-ready = ap (λ (x : Contents). x.cell.acts) same

  pub keeps-ready : KeepsJournal h (record h { home = new })
  keeps-ready = record {
    same = record {
      actor = refl;
      who = who;
      before = refl;
      takes = takes-same _ _ (ap (λ (x : Contents). x.take) same);
      counted = ap (λ (x : Contents). length x.take.taken + counted_by h) same;
    };
    journal = journal;
    loaded = refl;
  }

  pub entries-ready : SendsForEntries h (record h { home = new })
  entries-ready =
      entries-none h (record h { home = new }) journal
      (due-none h (record h { home = new }) refl refl (ap (λ (x : Contents). x.rest) same) (λ shut. shut))

  -- and then it sent what was due
  pub ready-then : (last : RunState) → SendsForEntries (record h { home = new }) last → SendsForEntries h last
  ready-then last s = entries-then h (record h { home = new }) last refl who entries-ready s

  pub backlog-ready : BacklogAgrees h → BacklogAgrees (record h { home = new })
  backlog-ready s = backlog-home h s new who journal (ap (λ (x : Contents). x.rest) same) (ap (λ (x : Contents). x.dropped) same)

  module _ (gives : ℕ → Moment → Reply → Type 0) (origin : Origin (Box Contents)) (seen : List Observation) (r : IsRunning gives origin [] seen h) where
    pub running-ready : ((pending : List Act) → AgreesWithJournal (gives h.home.cell.who.this.0) pending h.home →
        AgreesWithJournal (gives new.cell.who.this.0) pending new) → IsRunning gives origin [] seen (record h { home = new })
    running-ready settled =
        let at_home : AgreesWithJournal (gives h.home.cell.who.this.0) [] h.home = subst (λ n. AgreesWithJournal (gives n) [] h.home) (sym r.number) r.settled in
        let here : new.cell.who.this.0 ≡ h.actor = ap (λ (x : Contents). x.cell.who.this.0) same ∙ r.number in
        running-same gives origin seen h [] new r who journal (ap (λ (x : Contents). x.directory) same) (ap (λ (x : Contents). x.dead) same)
        (ap (λ (x : Contents). x.rest) same) (subst (λ n. AgreesWithJournal (gives n) [] new) here (settled [] at_home))

-- a count of system messages fits
pub systems-fit : (gives : ℕ → Moment → Reply → Type 0) (origin : Origin (Box Contents)) (seen : List Observation) (h : RunState) (pending : List Act)
    (turn : Turn) → IsRunning gives origin pending seen h → CountsRun h turn → turn.system < 2 ^ 60
systems-fit gives origin seen h pending turn r t =
    omega (arith, t.system, systems-few h.home.cell.journal, r.settled.lawful.within_limit, r.settled.is_own.within_limit)

-- and so does a count of envelopes
pub envelopes-fit : (gives : ℕ → Moment → Reply → Type 0) (origin : Origin (Box Contents)) (seen : List Observation) (h : RunState) (pending : List Act)
    (turn : Turn) → IsRunning gives origin pending seen h → CountsRun h turn → turn.envelopes < 2 ^ 60
envelopes-fit gives origin seen h pending turn r t =
    omega (arith, blocks-few h.home.cell.who h.before h.home.cell.journal turn.envelopes t.blocks, r.settled.lawful.within_limit, r.settled.is_own.within_limit)
