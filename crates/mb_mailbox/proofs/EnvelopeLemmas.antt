-- Why a run takes no envelope more, and how one that was taken changes it.
use Rattle.std.proofs.Common.{◌≡◌, ◌⊎◌, inl, inr, ℕ, ◌<◌, Bool, true, false, List, [], length, None, refl, sym, ap, ◌∙◌, subst}
use Rattle.std.specs.Prelude.{not, nat_lt, ◌&&◌, OnOk, Result}
use Rattle.std.specs.Global.{Box}
use Rattle.mb_status.specs.Mailbox.{word_of, should_process}
use Rattle.mb_actor.specs.Behaviour.{Moment, Reply}
use Rattle.mb_journal.specs.Aside.{next_front}
use Rattle.mb_journal.specs.Entry.{Entry}
use Rattle.mb_journal.specs.Identity.{Identity}
use Rattle.mb_journal.specs.Life.{closed}
use Rattle.mb_journal.specs.Reading.{IsOpen}
use Rattle.mb_journal.specs.Run.{IsShut, Stopped, IsReason, most_envelopes}
use Rattle.mb_journal.specs.Run.Stopped.{UsedUp, NotOpen, NoEnvelope, AtClosing, NoRoom}
use Rattle.mb_cell.specs.CellView.{CellView}
use Rattle.mb_gate.specs.Untouched.{Origin}
use Rattle.mb_gate.specs.View.{Observation}
use Rattle.mb_queue.specs.Passes.{TakePassView}
use Rattle.mb_home.specs.Contents.{Contents}
use Rattle.mb_home.specs.AgreesWithJournal.{AgreesWithJournal}
use Rattle.mb_home.specs.Steps.{FindsNone}
use Rattle.mb_mailbox.specs.Emptied.{TakesOn}
use Rattle.mb_mailbox.specs.RunState.{RunState}
use Rattle.mb_mailbox.specs.Ran.{LastTakeFoundNone, LastTakeHadRoom, IsDrained, EndsDrained, HadRoom, HasStopped}
use Rattle.mb_mailbox.specs.Running.{IsRunning}
use Rattle.mb_mailbox.proofs.CleanLemmas.{running-within, ended-closed}
use Rattle.mb_mailbox.proofs.EmptiedLemmas.{finds-one, finds-then, ok-so, take-none}
use Rattle.mb_mailbox.proofs.LoadLemmas.{IsLoadedSince}
use Rattle.mb_mailbox.proofs.ReadingLemmas.{open-reading, shut-reading}
use Rattle.mb_mailbox.proofs.RunningMoves.{status-at}

-- This was a reason to take no envelope more.
abbrev pub IsStopReason : Identity → List Entry → Stopped → Type 0
IsStopReason who journal UsedUp = ⊥
IsStopReason who journal (NotOpen word) = IsShut who journal word × (next_front who journal ≡ None)
IsStopReason who journal (NoEnvelope word) = IsOpen who journal word × (next_front who journal ≡ None)
IsStopReason who journal AtClosing = closed who journal ≡ true
IsStopReason who journal NoRoom = ⊥

-- The run takes no envelope more for this reason, where its pass of the queue was this one before; and unless it is closed, its last step at the
-- actor's list was a drain that gave nothing.
abbrev pub TakesNoMore : TakePassView → RunState → Type 0
TakesNoMore from hold = (stopped : Stopped) × IsStopReason hold.home.cell.who hold.home.cell.journal stopped
    × EndsDrained hold.actor hold.log stopped × LastTakeFoundNone from hold.home.take stopped
    × LastTakeHadRoom hold.home.cell.who hold.home.cell.journal stopped

module _ (gives : ℕ → Moment → Reply → Type 0) (origin : Origin (Box Contents)) (seen : List Observation) (h : RunState)
    (r : IsRunning gives origin [] seen h) where
  at-closing : h.status.closed ≡ true → TakesNoMore h.home.take h
  at-closing shut = (AtClosing, ended-closed gives origin seen h [] shut r, tt, tt, tt)

  -- the status was not open
  pub why-not-open : (h.status.closed ≡ true) ⊎ IsLoadedSince (word_of h.status) h → should_process h.status ≡ false → TakesNoMore h.home.take h
  why-not-open (inl shut) not_open = at-closing shut
  why-not-open (inr drained) not_open = by_test h.status.closed refl
    where
      by_test : (b : Bool) → h.status.closed ≡ b → TakesNoMore h.home.take h
      by_test true shut = at-closing shut
      by_test false open_yet = (
        NotOpen (word_of h.status),
        (
          shut-reading h.status h.home.cell.who h.home.cell.journal (status-at h r.leads) (gives h.actor) r.settled.lawful r.settled.is_own.within_limit open_yet
              not_open,
          drained.none,
        ),
        drained.last,
        tt,
        tt,
      )

  -- it was, so that the run drained all before it loaded the status
  pub is-open : should_process h.status ≡ true → h.status.closed ≡ false
  is-open t = by_test h.status.closed refl
    where
      by_test : (b : Bool) → h.status.closed ≡ b → h.status.closed ≡ false
      by_test true shut = absurd (cc (t, ap (λ c. not c && not (nat_lt 0 h.status.count)) shut))
      by_test false open_yet = open_yet

  pub drained-open : (h.status.closed ≡ true) ⊎ IsLoadedSince (word_of h.status) h → should_process h.status ≡ true → IsLoadedSince (word_of h.status) h
  drained-open (inl shut) t = absurd (cc (shut, is-open t))
  drained-open (inr drained) t = drained

  -- no envelope was there
  none-there : IsLoadedSince (word_of h.status) h → should_process h.status ≡ true → IsStopReason h.home.cell.who h.home.cell.journal (NoEnvelope (word_of h.status))
  none-there drained t = (open-reading h.status h.home.cell.who h.home.cell.journal (status-at h r.leads) t, drained.none)

  -- the home has another pass for its queue
  module _ (new : Contents) (f : FindsNone h.home new) (none : h.home.cell.acts ≡ []) where
    pub running-found : AgreesWithJournal (gives new.cell.who.this.0) new.cell.acts new → IsRunning gives origin [] seen (record h { home = new })
    running-found settled =
        let cell : new.cell ≡ h.home.cell = ap (λ (x : Contents). x.cell) f.same in
        subst (λ l. IsRunning gives origin l seen (record h { home = new })) (ap (λ (c : CellView). c.acts) cell ∙ none)
        (running-within gives origin seen h (subst (λ l. IsRunning gives origin l seen h) (sym none) r) new cell
        (ap (λ (x : Contents). x.directory) f.same) (ap (λ (x : Contents). x.dead) f.same) settled (ap (λ (x : Contents). x.rest) f.same))

    -- and this is why the run stops
    pub why-none : IsLoadedSince (word_of h.status) h → should_process h.status ≡ true → length h.home.cell.journal < h.home.cell.who.limit →
        TakesNoMore h.home.take (record h { home = new })
    why-none drained t room =
        let word = word_of h.status in (
          NoEnvelope word,
          subst (λ (x : Contents). IsStopReason x.cell.who x.cell.journal (NoEnvelope word)) (sym f.same) (none-there drained t),
          drained.last,
          finds-one h.home.take new.take (take-none h.home new f),
          subst (λ (x : Contents). length x.cell.journal < x.cell.who.limit) (sym f.same) room,
        )

-- the load of the status word is the last still
pub drained-home : (h : RunState) (word : ℕ) (new : Contents) → new.cell.who ≡ h.home.cell.who → new.cell.journal ≡ h.home.cell.journal →
    IsLoadedSince word h → IsLoadedSince word (record h { home = new })
drained-home h word new who journal d = record { last = d.last; none = (λ i. next_front (who i) (journal i)) ∙ d.none }

-- ---- why a run stopped

-- by now, with fewer envelopes than the throughput allows
pub reason-why : (from before : TakePassView) (h : RunState) (throughput n : ℕ) → n < most_envelopes throughput → TakesOn from before → TakesNoMore before h →
    HasStopped from h throughput n
reason-why from before h throughput n less takes w = by_reason w.0 w.1 w.2 w.3 w.4
  where
    by_reason : (stopped : Stopped) → IsStopReason h.home.cell.who h.home.cell.journal stopped → EndsDrained h.actor h.log stopped →
        LastTakeFoundNone before h.home.take stopped → LastTakeHadRoom h.home.cell.who h.home.cell.journal stopped → HasStopped from h throughput n
    by_reason UsedUp enough ends asked room = absurd enough
    by_reason (NotOpen word) enough ends asked room = (NotOpen word, tt, ends, tt, (less, enough.0, enough.1), tt)
    by_reason (NoEnvelope word) enough ends asked room =
        (NoEnvelope word, tt, ends, finds-then from before h.home.take takes asked, (less, enough.0, enough.1), room)
    by_reason AtClosing enough ends asked room = (AtClosing, tt, ends, tt, enough, tt)
    by_reason NoRoom enough ends asked room = absurd enough

-- with as many
pub reason-used : (gives : ℕ → Moment → Reply → Type 0) (origin : Origin (Box Contents)) (seen : List Observation) (from : TakePassView) (h : RunState)
    (throughput n : ℕ) → IsRunning gives origin [] seen h → n ≡ most_envelopes throughput → (h.status.closed ≡ true) ⊎ IsDrained h →
    HasStopped from h throughput n
reason-used gives origin seen from h throughput n r all (inl shut) = (AtClosing, tt, tt, tt, ended-closed gives origin seen h [] shut r, tt)
reason-used gives origin seen from h throughput n r all (inr drained) = (UsedUp, tt, drained.last, tt, (all, drained.none), tt)

-- the takes of a run begin before
pub stopped-from : {T E : Type 0} (from before : TakePassView) (h : RunState) (throughput n : ℕ) → TakesOn from before → (r : Result T E) →
    OnOk r (HasStopped before h throughput n) → OnOk r (HasStopped from h throughput n)
stopped-from from before h throughput n takes r = ok-so r (λ s. by_reason s.0 s.1 s.2 s.3 s.4 s.5)
  where
    by_reason : (stopped : Stopped) → HadRoom stopped → EndsDrained h.actor h.log stopped → LastTakeFoundNone before h.home.take stopped →
        IsReason h.home.cell.who throughput n h.home.cell.journal stopped → LastTakeHadRoom h.home.cell.who h.home.cell.journal stopped →
        HasStopped from h throughput n
    by_reason UsedUp had ends asked reason room = (UsedUp, had, ends, tt, reason, room)
    by_reason (NotOpen word) had ends asked reason room = (NotOpen word, had, ends, tt, reason, room)
    by_reason (NoEnvelope word) had ends asked reason room =
        (NoEnvelope word, had, ends, finds-then from before h.home.take takes asked, reason, room)
    by_reason AtClosing had ends asked reason room = (AtClosing, had, ends, tt, reason, room)
    by_reason NoRoom had ends asked reason room = (NoRoom, had, ends, tt, reason, room)
