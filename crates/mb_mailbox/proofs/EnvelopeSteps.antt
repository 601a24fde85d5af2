-- How a run goes on by one envelope: its status word is loaded, room is made, the queue is asked, and what came out of it is counted and begun.
use Rattle.std.proofs.Common.{◌≡◌, ◌<◌, ◌≤◌, ℕ, ◌+◌, false, true, List, [], ◌∷◌, length, refl, sym, ap, ◌∙◌, subst}
use Rattle.std.specs.Prelude.{◌↔◌, IsErrOf, Option, Result, Ok}
use Rattle.std.specs.Global.{Box}
use Rattle.mb_msg.specs.declared.envelope.Envelope.{Envelope}
use Rattle.mb_status.specs.Mailbox.{Mailbox, word_of, should_process}
use Rattle.mb_actor.specs.Behaviour.{Moment, Reply}
use Rattle.mb_journal.specs.Acts.{Act}
use Rattle.mb_journal.specs.Reading.{IsOpen}
use Rattle.mb_journal.specs.declared.error.ReadyError.{ReadyError}
use Rattle.mb_journal.specs.declared.error.ReadyError.TheVariants.{JournalFull}
use Rattle.mb_cell.specs.CellView.{CellView}
use Rattle.mb_gate.specs.declared.claim.Claim.{Claim}
use Rattle.mb_gate.specs.declared.gates.Gates.{Gates}
use Rattle.mb_gate.specs.Accessors.{claim_id, claim_view, held_actor, pass_view, status_of, SameTaken}
use Rattle.mb_gate.specs.SentSystem.{messages_of}
use Rattle.mb_gate.specs.Untouched.{Origin, origin_of}
use Rattle.mb_gate.specs.View.{Observation, Took, reading_held}
use Rattle.mb_home.specs.Carried.{LeadsOn}
use Rattle.mb_home.specs.Contents.{Contents}
use Rattle.mb_home.specs.AgreesWithJournal.{AgreesWithJournal}
use Rattle.mb_home.specs.Steps.{Begins, FindsNone}
use Rattle.mb_home.specs.Taken.{TakesOut}
use Rattle.mb_register.specs.declared.registrar.Registrar.{Registrar}
use Rattle.mb_mailbox.specs.declared.turn.Turn.{Turn}
use Rattle.mb_mailbox.specs.InRun.{InRun}
use Rattle.mb_mailbox.specs.OnlyDrained.{LoadedLast, LoadedOpenLast}
use Rattle.mb_mailbox.specs.RunSends.{SendsDue, SendsForEntries}
use Rattle.mb_mailbox.specs.RunState.{RunState, run_state}
use Rattle.mb_mailbox.specs.Ran.{CountsRun, EndsBlock}
use Rattle.mb_mailbox.specs.Running.{IsRunning, BacklogAgrees, KeepsJournal, SameRun}
use Rattle.mb_mailbox.proofs.AppliedLemmas.{room-well, acts-ready, room-ready, keeps-ready, backlog-ready, running-ready, entries-ready}
use Rattle.mb_mailbox.proofs.BacklogLemmas.{keeps-then, same-run-then}
use Rattle.mb_mailbox.proofs.EmptiedLemmas.{take-none, takes-one}
use Rattle.mb_mailbox.proofs.EnvelopeLemmas.{TakesNoMore, why-none, is-open, drained-open, drained-home, running-found}
use Rattle.mb_mailbox.proofs.LoadLemmas.{IsLoadedSince, LoadsAfterBlock, keeps-read, running-loaded, backlog-loaded, entries-loaded, block-loaded}
use Rattle.mb_mailbox.proofs.ReadingLemmas.{open-reading, open-word, count-none}
use Rattle.mb_mailbox.proofs.RunningMoves.{status-at}
use Rattle.mb_mailbox.proofs.TakenLemmas.{same-begun, entries-counted-begun, run_counts-counted, running-counted-begun, backlog-counted-begun}
use Rattle.mb_mailbox.proofs.TellingLemmas.{keeps-asked, backlog-cell}
use Rattle.mb_mailbox.proofs.RunCountLemmas.{run_counts-keeps}
use Rattle.mb_mailbox.proofs.RunSendsLemmas.{due-none, entries-none, entries-then}

-- room was made, where the home is as it was at this place
pub room-at : (x y mid : Contents) → x ≡ y → mid ≡ record x { cell = record x.cell { is_ready = mid.cell.is_ready }; room = mid.room } →
    mid ≡ record y { cell = record y.cell { is_ready = mid.cell.is_ready }; room = mid.room }
room-at x y mid here made = subst (λ (z : Contents). mid ≡ record z { cell = record z.cell { is_ready = mid.cell.is_ready }; room = mid.room }) here made

-- an envelope came out of the queue, where the homes before and after are as they were at these places
module _ (x mid y after : Contents) (envelope : Envelope) (here : x ≡ mid) (took : TakesOut x after envelope) (there : y ≡ after) where
  pub out-at : TakesOut mid y envelope
  out-at =
      subst (λ (z : Contents). TakesOut mid z envelope) (sym there) (subst (λ (z : Contents). TakesOut z after envelope) here took)

  pub taken-at : y ≡ record mid { take = after.take }
  taken-at = there ∙ (subst (λ (z : Contents). TakesOut z after envelope) here took).same

module _ (gives : ℕ → Moment → Reply → Type 0) (origin : Origin (Box Contents)) (seen : List Observation) (turn : Turn) where
  -- a run is between two messages still, with nothing added to its journal
  pub record KeepsRun (old new : RunState) : Type 0 where
    pub running : IsRunning gives origin [] seen new
    pub backlog : BacklogAgrees new
    pub carried_out : new.home.cell.acts ≡ []
    pub run_counts : CountsRun new turn
    pub keeps : KeepsJournal old new
    pub entries : SendsForEntries old new

  -- a run has begun one more envelope, whose acts are to be carried out
  pub record BeginsOne (old new : RunState) : Type 0 where
    pub running : IsRunning gives origin new.home.cell.acts seen new
    pub backlog : BacklogAgrees new
    pub same : SameRun old new
    pub open_yet : new.status.closed ≡ false
    pub run_counts : CountsRun new (record turn { envelopes = turn.envelopes + 1 })
    pub entries : (last : RunState) → SendsDue (messages_of new.home.cell.acts) [] new last → last.home.cell.journal ≡ new.home.cell.journal →
        SendsForEntries old last

-- the status word was loaded
module _ (a b : Claim (Box Contents)) (ours : (claim_id b ≡ claim_id a) × (held_actor b ≡ held_actor a))
    (same : (status_of b ≡ status_of a) × (b.home ≡ a.home)) (reading : Mailbox)
    (known : claim_view b ≡ reading_held (held_actor a) (word_of reading) (claim_view a)) (taken : SameTaken a b) where
  pub keeps-loaded : {W : Type 0} {gives : ℕ → Moment → Reply → Type 0} {origin : W → Option (Origin (Box Contents))} {gates : Gates (Box Contents)}
      {registrar : Registrar (Box Contents) W} {turn : Turn} → InRun gives origin gates registrar a turn →
      KeepsRun gives (origin_of gates) (pass_view registrar.pass).log turn (run_state a) (run_state b)
  keeps-loaded {gives = gives} {gates = gates} {registrar = registrar} {turn = turn} r = record {
    running = running-loaded a b ours same (word_of reading) known taken gives (origin_of gates) (pass_view registrar.pass).log r.running;
    backlog = backlog-loaded a b ours same (word_of reading) known taken r.backlog;
    carried_out = ap (λ (x : Box Contents). x.value.cell.acts) same.1 ∙ r.carried_out;
    run_counts = run_counts-keeps (run_state a) (run_state b) turn (keeps-read a b ours same (word_of reading) known taken) r.run_counts;
    keeps = keeps-read a b ours same (word_of reading) known taken;
    entries = entries-loaded a b ours same (word_of reading) known taken;
  }

  pub whole-loaded : reading ≡ status_of b → EndsBlock (run_state a) → LoadsAfterBlock (word_of (status_of b)) (run_state b)
  whole-loaded read whole =
      subst (λ (m : Mailbox). LoadsAfterBlock (word_of m) (run_state b)) read (block-loaded a b ours same (word_of reading) known taken whole)

module _ {gives : ℕ → Moment → Reply → Type 0} {origin : Origin (Box Contents)} {seen : List Observation} {turn : Turn} {start h : RunState}
    (k : KeepsRun gives origin seen turn start h) where
  -- room was made, or not
  module _ (x mid : Contents) (here : x ≡ h.home)
      (made : mid ≡ record x { cell = record x.cell { is_ready = mid.cell.is_ready }; room = mid.room }) where
    same : mid ≡ record h.home { cell = record h.home.cell { is_ready = mid.cell.is_ready }; room = mid.room }
    same = room-at x h.home mid here made

    pub keeps-room : ((pending : List Act) → AgreesWithJournal (gives x.cell.who.this.0) pending x →
        AgreesWithJournal (gives mid.cell.who.this.0) pending mid) → KeepsRun gives origin seen turn start (record h { home = mid })
    keeps-room settles =
        let kept = subst (λ (z : Contents). (pending : List Act) → AgreesWithJournal (gives z.cell.who.this.0) pending z →
        AgreesWithJournal (gives mid.cell.who.this.0) pending mid) here settles in
        let keeps = keeps-ready h mid _ _ same in record {
          running = running-ready h mid _ _ same gives origin seen k.running kept;
          backlog = backlog-ready h mid _ _ same k.backlog;
          carried_out = acts-ready h mid _ _ same ∙ k.carried_out;
          run_counts = run_counts-keeps h (record h { home = mid }) turn keeps k.run_counts;
          keeps = keeps-then start h (record h { home = mid }) k.keeps keeps;
          entries =
              entries-then start h (record h { home = mid }) k.keeps.same.actor k.keeps.same.who k.entries (entries-ready h mid _ _ same);
        }

    -- the load of the status word is the last still
    pub drained-room : LoadsAfterBlock (word_of h.status) h → should_process h.status ≡ true → IsLoadedSince (word_of h.status) (record h { home = mid })
    drained-room whole t =
        drained-home h (word_of h.status) mid (ap (λ (z : Contents). z.cell.who) same) (ap (λ (z : Contents). z.cell.journal) same)
        (drained-open gives origin seen h k.running whole t)

    -- there is room for one more
    pub room-left : {T : Type 0} (r : Result T ReadyError) (u : T) → r ≡ Ok u → (IsErrOf r JournalFull ↔ (x.cell.who.limit ≤ length x.cell.journal)) →
        length mid.cell.journal < mid.cell.who.limit
    room-left r u well full =
        room-ready h mid _ _ same (room-well r h.home.cell.who.limit (length h.home.cell.journal)
        (subst (λ (z : Contents). IsErrOf r JournalFull ↔ (z.cell.who.limit ≤ length z.cell.journal)) here full) u well)

  -- what lies at home agrees with its journal
  pub settled-here : AgreesWithJournal (gives h.home.cell.who.this.0) [] h.home
  settled-here = subst (λ n. AgreesWithJournal (gives n) [] h.home) (sym k.running.number) k.running.settled

  pub settled-at : (x : Contents) → x ≡ h.home → AgreesWithJournal (gives x.cell.who.this.0) x.cell.acts x
  settled-at x here =
      subst (λ (z : Contents). AgreesWithJournal (gives z.cell.who.this.0) z.cell.acts z) (sym here)
      (subst (λ l. AgreesWithJournal (gives h.home.cell.who.this.0) l h.home) (sym k.carried_out) settled-here)

  -- no envelope was there
  module _ (x new : Contents) (here : x ≡ h.home) (none : FindsNone x new) where
    found : FindsNone h.home new
    found = subst (λ (z : Contents). FindsNone z new) here none

    pub keeps-found : AgreesWithJournal (gives new.cell.who.this.0) new.cell.acts new → KeepsRun gives origin seen turn start (record h { home = new })
    keeps-found settled =
        let keeps = keeps-asked h new (ap (λ (z : Contents). z.cell) found.same) found.took (takes-one _ _ _ (take-none _ _ found)) in record {
          running = running-found gives origin seen h k.running new found k.carried_out settled;
          backlog =
              backlog-cell h new (ap (λ (z : Contents). z.cell) found.same) (ap (λ (z : Contents). z.rest) found.same)
              (ap (λ (z : Contents). z.dropped) found.same) k.backlog;
          carried_out = ap (λ (z : Contents). z.cell.acts) found.same ∙ k.carried_out;
          run_counts = run_counts-keeps h (record h { home = new }) turn keeps k.run_counts;
          keeps = keeps-then start h (record h { home = new }) k.keeps keeps;
          entries =
              entries-then start h (record h { home = new }) k.keeps.same.actor k.keeps.same.who k.entries
              (entries-none h (record h { home = new }) keeps.journal
              (due-none h (record h { home = new }) refl refl (ap (λ (z : Contents). z.rest) found.same) (λ shut. shut)));
        }

    pub why-found : IsLoadedSince (word_of h.status) h → should_process h.status ≡ true → length h.home.cell.journal < h.home.cell.who.limit →
        TakesNoMore h.home.take (record h { home = new })
    why-found drained t room = why-none gives origin seen h k.running new found k.carried_out drained t room

  -- the status is open
  pub open-yet : should_process h.status ≡ true → h.status.closed ≡ false
  open-yet t = is-open gives origin seen h k.running t

  -- one was, and was counted
  module _ (reading : Mailbox) (read : reading ≡ h.status) (t : should_process h.status ≡ true) (x y after : Contents) (envelope : Envelope)
      (here : x ≡ h.home) (took : TakesOut x after envelope) (there : y ≡ after) where
    pub open-taken : IsOpen y.cell.who y.cell.journal (word_of reading)
    open-taken =
        subst (λ (z : Contents). IsOpen z.cell.who z.cell.journal (word_of reading)) (sym (taken-at x h.home y after envelope here took there))
        (subst (λ (m : Mailbox). IsOpen h.home.cell.who h.home.cell.journal (word_of m)) (sym read)
        (open-reading h.status h.home.cell.who h.home.cell.journal (status-at h k.running.leads) t))

    -- and is begun
    pub begins-one : (counted : Claim (Box Contents)) → run_state counted ≡ record h { home = after; log = Took h.actor 1 ∷ h.log } → (new : Contents) →
        ((before : Contents) → TakesOut before y envelope → Begins before new (word_of reading)) → LeadsOn y new →
        AgreesWithJournal (gives new.cell.who.this.0) new.cell.acts new → IsLoadedSince (word_of h.status) h →
        BeginsOne gives origin seen turn start (record (run_state counted) { home = new })
    begins-one counted one new begins leads_on settled drained =
        let b : Begins h.home new (word_of reading) = begins h.home (out-at x h.home y after envelope here took there) in
        let last : LoadedOpenLast h.actor h.log = record { word = word_of h.status; open_word = open-word h.status t; read = drained.last } in
        let leads : LeadsOn h.home new = subst (λ (z : Contents). LeadsOn z new) (taken-at x h.home y after envelope here took there)
        leads_on in
        let at : new.cell.who.this.0 ≡ h.actor = ap (λ (z : CellView). z.who.this.0) b.taken.adds ∙ k.running.number in
        let took_one = same-begun h after counted one new (word_of reading) b in record {
          running =
              running-counted-begun h after counted one new (word_of reading) b gives origin seen k.running last leads
              (subst (λ n. AgreesWithJournal (gives n) new.cell.acts new) at settled);
          backlog =
              backlog-counted-begun h after counted one new (word_of reading) b gives origin seen k.running last k.backlog (open-yet t)
              (count-none h.status h.home.cell.who h.home.cell.journal (status-at h k.running.leads) t);
          same = same-run-then start h (record (run_state counted) { home = new }) k.keeps.same took_one;
          open_yet = ap (λ (z : RunState). z.status.closed) one ∙ open-yet t;
          run_counts =
              run_counts-counted h after counted one new (word_of reading) b turn k.run_counts
              (subst (λ (m : Mailbox). LoadedLast h.actor (word_of m) h.log) (sym read) drained.last) drained.none;
          entries = λ last_state carried journal. entries-then start h last_state k.keeps.same.actor k.keeps.same.who k.entries
              (entries-counted-begun h after counted one new (word_of reading) b last_state (open-yet t) carried journal);
        }

-- all of it, in a run that loaded the status word, made room, took an envelope out of the queue, counted it and began it
pub begins-after : {W : Type 0} {gives : ℕ → Moment → Reply → Type 0} {origin : W → Option (Origin (Box Contents))} {gates : Gates (Box Contents)}
    {registrar : Registrar (Box Contents) W} {turn : Turn} (a b : Claim (Box Contents)) → InRun gives origin gates registrar a turn →
    EndsBlock (run_state a) → (claim_id b ≡ claim_id a) × (held_actor b ≡ held_actor a) → (status_of b ≡ status_of a) × (b.home ≡ a.home) →
    (reading : Mailbox) → reading ≡ status_of a → claim_view b ≡ reading_held (held_actor a) (word_of reading) (claim_view a) → SameTaken a b →
    should_process reading ≡ true → (x mid : Contents) → x ≡ b.home.value →
    mid ≡ record x { cell = record x.cell { is_ready = mid.cell.is_ready }; room = mid.room } →
    ((pending : List Act) → AgreesWithJournal (gives x.cell.who.this.0) pending x → AgreesWithJournal (gives mid.cell.who.this.0) pending mid) →
    (y after : Contents) (envelope : Envelope) → y ≡ mid → TakesOut y after envelope → (counted : Claim (Box Contents)) →
    run_state counted ≡ record (run_state b) { home = after; log = Took (held_actor b) 1 ∷ (claim_view b).log } → (z new : Contents) → z ≡ after →
    ((before : Contents) → TakesOut before z envelope → Begins before new (word_of reading)) → LeadsOn z new →
    AgreesWithJournal (gives new.cell.who.this.0) new.cell.acts new →
    BeginsOne gives (origin_of gates) (pass_view registrar.pass).log turn (run_state a) (record (run_state counted) { home = new })
begins-after a b r whole ours same reading read known taken open_yet x mid here made settles y after envelope there took counted one z new at_taken begins leads
    settled =
    let at_load : reading ≡ status_of b = read ∙ sym same.0 in
    let t : should_process (status_of b) ≡ true = sym (ap should_process at_load) ∙ open_yet in
    let load = keeps-loaded a b ours same reading known taken r in
    begins-one (keeps-room load x mid here made settles) reading at_load t y z after envelope there took at_taken counted one new begins leads settled
    (drained-room load x mid here made (whole-loaded a b ours same reading known taken at_load whole) t)
