-- What holds of a claim in its run holds after a message was taken.
use Rattle.std.proofs.Common.{◌≡◌, inl, inr, ℕ, false, List, [], ◌∷◌, Option}
use Rattle.std.proofs.Common.{sym, ap, ◌∙◌, subst}
use Rattle.std.specs.Prelude.{MatchBool, IsSome}
use Rattle.std.specs.Global.{Box}
use Rattle.mb_status.specs.Mailbox.{Mailbox, idle}
use Rattle.mb_msg.specs.declared.system.SysMsg.{SysMsg}
use Rattle.mb_actor.specs.Behaviour.{Moment, Reply}
use Rattle.mb_journal.specs.Entry.{Entry}
use Rattle.mb_journal.specs.Entry.Entry.{System}
use Rattle.mb_journal.specs.Life.{closed}
use Rattle.mb_journal.specs.Suspension.{count}
use Rattle.mb_ghost.specs.Seen.{Each}
use Rattle.mb_gate.specs.Rule.{IsAmong}
use Rattle.mb_gate.specs.View.{Observation}
use Rattle.mb_cell.specs.CellView.{CellView, with_entry}
use Rattle.mb_cell.proofs.RoomLaws.{any-room}
use Rattle.mb_home.specs.AtHome.{closed_receivers, given_of, mailbox_at, system_entries}
use Rattle.mb_home.specs.Carried.{Leads, LeadsOn}
use Rattle.mb_home.specs.Contents.{Contents}
use Rattle.mb_home.specs.NamedActors.{NamesActors, SendsBelow}
use Rattle.mb_home.specs.AgreesWithJournal.{AgreesWithJournal}
use Rattle.mb_home.specs.Steps.{AppliesNext, Begins, HasNext, HasNoBacklog}
use Rattle.mb_home.proofs.CarryLemmas.{leads-nowhere}
use Rattle.mb_home.proofs.DrainedLemmas.{due-entered, entries-begun}
use Rattle.mb_home.proofs.GivenLemmas.{given-applied, given-begun}
use Rattle.mb_home.proofs.NamedLaw.{named-applied, named-begun}
use Rattle.mb_gate.specs.Untouched.{Origin}
use Rattle.mb_mailbox.specs.RunState.{RunState}
use Rattle.mb_mailbox.specs.Running.{IsRunning, BacklogAgrees, IsKnownClosedTo, WereDrained}
use Rattle.mb_mailbox.specs.SentDue.{HasSentDueExcept}
use Rattle.mb_mailbox.proofs.RestLemmas.{begun-no_backlog}
use Rattle.mb_mailbox.proofs.RunningSteps.{tail-drained}
use Rattle.mb_mailbox.proofs.SentDueLemmas.{told-entry}

-- between two messages the status is the one of the journal
pub status-at : (h : RunState) → Leads h.status [] (mailbox_at h.home.cell.who h.home.cell.journal) → idle h.status
    ≡ mailbox_at h.home.cell.who h.home.cell.journal
status-at h leads = leads-nowhere h.status (mailbox_at h.home.cell.who h.home.cell.journal) leads

pub journal-open : (h : RunState) → Leads h.status [] (mailbox_at h.home.cell.who h.home.cell.journal) → h.status.closed ≡ false →
    closed h.home.cell.who h.home.cell.journal ≡ false
journal-open h leads not_closed = sym (ap (λ (m : Mailbox). m.closed) (status-at h leads)) ∙ not_closed

module _ (gives : ℕ → Moment → Reply → Type 0) (origin : Origin (Box Contents)) (seen : List Observation) (h : RunState) (new : Contents)
    (r : IsRunning gives origin [] seen h) where
  -- an entry was added, whose acts are to be carried out
  running-entry : (e : Entry) → new.cell ≡ record (with_entry h.home.cell e) { is_ready = new.cell.is_ready } → LeadsOn h.home new → AgreesWithJournal (gives h.actor) new.cell.acts new →
      new.directory ≡ h.home.directory → new.dead ≡ h.home.dead → WereDrained h (system_entries (e ∷ h.home.cell.journal)) → WereDrained h new.rest →
      NamesActors new × SendsBelow new.cell.who.actors new.cell.acts →
      IsRunning gives origin new.cell.acts seen (record h { home = new })
  running-entry e adds leads settled directory dead entered left named = record {
    same_gates = r.same_gates;
    present = r.present;
    directory = directory ∙ r.directory;
    number = ap (λ (c : CellView). c.who.this.0) adds ∙ r.number;
    settled = settled;
    leads = leads h.status (status-at h r.leads);
    told =
        subst (λ (c : CellView). HasSentDueExcept c.who h.actor h.status.closed c.journal h.before c.acts h.recorded) (sym adds)
        (told-entry h.home.cell.who h.actor h.before h.status.closed h.home.cell.journal h.recorded e r.told);
    known_closed = subst (λ d. Each (IsKnownClosedTo seen h) (closed_receivers d)) (sym dead) r.known_closed;
    entered = subst (λ (c : CellView). WereDrained h (system_entries c.journal)) (sym adds) entered;
    left = left;
    logged = r.logged;
    same_count = ap (λ (c : CellView). c.who.actors) adds ∙ r.same_count;
    named = named.0;
    sends = subst (λ n. SendsBelow n new.cell.acts) (ap (λ (c : CellView). c.who.actors) adds ∙ r.same_count) named.1;
    only_drained = r.only_drained;
    puts_nothing = r.puts_nothing;
    owes_nothing = r.owes_nothing;
    bare = r.bare;
    none_released = r.none_released;
    none_got = r.none_got;
    none_returned = r.none_returned;
  }

  pub running-applied : AppliesNext h.home new → LeadsOn h.home new → AgreesWithJournal (gives h.actor) new.cell.acts new →
      IsRunning gives origin new.cell.acts seen (record h { home = new })
  running-applied a leads settled =
      let due = due-entered (λ m. IsAmong m h.drained) h.home.cell.who h.home.cell.journal h.home.rest new.rest a.number a.message r.entered r.left a.due in
      let e : Entry = System a.number a.message a.taken.outcome in
      running-entry e (any-room new.cell (with_entry h.home.cell e) a.taken.adds) leads settled (ap (λ (x : Contents). x.directory) a.same)
      (ap (λ (x : Contents). x.dead) a.same) (due.0, r.entered) (tail-drained h a.number a.message new.rest due) (named-applied (gives h.actor) h.home new r.named settled a)

  pub running-begun : (reading : ℕ) → Begins h.home new reading → LeadsOn h.home new → AgreesWithJournal (gives h.actor) new.cell.acts new →
      IsRunning gives origin new.cell.acts seen (record h { home = new })
  running-begun reading b leads settled =
      running-entry b.taken.entry b.taken.adds leads settled (ap (λ (x : Contents). x.directory) b.same) (ap (λ (x : Contents). x.dead) b.same)
      (subst (WereDrained h) (sym (entries-begun h.home.cell.journal b.taken.entry b.envelope reading b.taken.of_it)) r.entered)
      (subst (WereDrained h) (sym (ap (λ (x : Contents). x.rest) b.same)) r.left)
      (named-begun (gives h.actor) h.home new r.named settled reading b)

  module _ (s : BacklogAgrees h) (not_closed : h.status.closed ≡ false) where
    open_rest : h.gave ≡ false → HasNoBacklog h.home
    open_rest = subst (λ b. MatchBool b (h.home.rest ≡ []) (h.gave ≡ false → HasNoBacklog h.home)) not_closed s.rest

    none-next : HasNoBacklog h.home → HasNext h.home → HasNoBacklog new
    none-next no_backlog (inl some) = absurd (cc (subst (λ (x : Option (ℕ × SysMsg)). IsSome x) no_backlog.no_front some))
    none-next no_backlog (inr left) = absurd (left no_backlog.no_rest)

    backlog-open : given_of new ≡ h.given → (h.gave ≡ false → HasNoBacklog new) → BacklogAgrees (record h { home = new })
    backlog-open count rest = record {
      count = count;
      rest = subst (λ b. MatchBool b (new.rest ≡ []) (h.gave ≡ false → HasNoBacklog new)) (sym not_closed) rest;
    }

    pub backlog-applied : HasNext h.home → AppliesNext h.home new → BacklogAgrees (record h { home = new })
    backlog-applied next a =
        backlog-open (given-applied h.home (gives h.actor) r.settled (journal-open h r.leads not_closed) new a ∙ s.count)
        (λ nothing. none-next (open_rest nothing) next)

    pub backlog-begun : (reading : ℕ) → count h.home.cell.who h.home.cell.journal ≡ 0 → Begins h.home new reading →
        BacklogAgrees (record h { home = new })
    backlog-begun reading none b =
        backlog-open (given-begun h.home new reading b ∙ s.count)
        (λ nothing. begun-no_backlog h.home new reading (gives h.actor) r.settled.lawful.entries none (journal-open h r.leads not_closed) b
        (open_rest nothing))
