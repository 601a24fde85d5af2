-- What holds of a claim in its run holds after each step.
use Rattle.std.proofs.Common.{◌≡◌, ◌⊎◌, ℕ, ◌+◌, ◌<◌, Bool, true, false, List, [], ◌∷◌, ◌++◌, Some, None}
use Rattle.std.proofs.Common.{refl, sym, ap, ◌∙◌, subst, append-nil}
use Rattle.std.specs.Prelude.{if◌then◌else◌}
use Rattle.std.specs.Global.{Box}
use Rattle.mb_status.specs.Mailbox.{Mailbox, most_suspensions, suspend, resume, closed_mailbox}
use Rattle.mb_msg.specs.declared.envelope.Body.{Body}
use Rattle.mb_msg.specs.declared.id.ActorId.{ActorId}
use Rattle.mb_msg.specs.declared.system.SysMsg.{SysMsg}
use Rattle.mb_actor.specs.Behaviour.{Moment, Reply}
use Rattle.mb_journal.specs.Acts.{Act}
use Rattle.mb_journal.specs.Acts.Act.{Tell, Sys, SuspendSelf, ResumeSelf, CloseSelf}
use Rattle.mb_journal.specs.Entry.{Entry}
use Rattle.mb_journal.specs.Identity.{Identity}
use Rattle.mb_ghost.specs.Seen.{Each}
use Rattle.mb_ghost.proofs.SeenLemmas.{each_append, each_weaker}
use Rattle.mb_gate.proofs.Numbers.{among_left, each_part}
use Rattle.mb_gate.specs.Rule.{IsAmong}
use Rattle.mb_gate.specs.NamedActors.{EachNamesBelow}
use Rattle.mb_gate.specs.SentSystem.{answered_to, notice}
use Rattle.mb_gate.specs.View.{Observation, SentSystem, Read, Looked, Took, Drained, Ended}
use Rattle.mb_cell.specs.CellView.{CellView}
use Rattle.mb_home.specs.AtHome.{closed_receivers, mailbox_at, system_entries}
use Rattle.mb_home.specs.Carried.{Leads}
use Rattle.mb_home.specs.Contents.{Contents}
use Rattle.mb_home.specs.NamedActors.{NamesActors, SendsBelow}
use Rattle.mb_home.specs.AgreesWithJournal.{AgreesWithJournal}
use Rattle.mb_home.proofs.CarryLemmas.{leads-tell, leads-sys, leads-suspend, leads-resume, leads-close}
use Rattle.mb_gate.specs.Untouched.{Origin}
use Rattle.mb_mailbox.specs.OnlyDrained.{LoadedOpenLast, WasEnded, TakesOnlyDrained}
use Rattle.mb_mailbox.specs.RunSends.{given_by, listed_by}
use Rattle.mb_mailbox.specs.RunState.{RunState}
use Rattle.mb_mailbox.specs.Running.{IsRunning, IsKnownClosedTo, WereDrained}
use Rattle.mb_mailbox.specs.SentDue.{HasSentDueExcept}
use Rattle.mb_mailbox.proofs.NamedLemmas.{named-as, named-others}
use Rattle.mb_mailbox.proofs.SettledLemmas.{settled-silent}
use Rattle.mb_mailbox.proofs.ShutLemmas.{shut-more, shut-own}
use Rattle.mb_mailbox.proofs.SentDueLemmas.{told-tell, told-suspend, told-resume, told-close, told-listed, told-dropped, told-answered, told-parting}

pub suspend-closed : (m : Mailbox) → (suspend m).closed ≡ m.closed
suspend-closed m = either m.closed refl
  where
    either : (b : Bool) → m.closed ≡ b → (suspend m).closed ≡ m.closed
    either true is = ap (λ c. (if c then m else record m { count = m.count + 1 }).closed) is
    either false is = ap (λ c. (if c then m else record m { count = m.count + 1 }).closed) is

-- what was drained last is known to be given
pub given-among : (drained result : List (ℕ × SysMsg)) → Each (λ m. IsAmong m (drained ++ result)) result
given-among drained result = each_part result (drained ++ result) (record { before = drained; after = []; joined = ap (λ l. drained ++ l) (sym (append-nil result)) })

-- and so is all that the log says
logged-more : (drained logged result : List (ℕ × SysMsg)) → Each (λ m. IsAmong m drained) logged → Each (λ m. IsAmong m (drained ++ result)) (logged ++ result)
logged-more drained logged result all =
    each_append (λ m. IsAmong m (drained ++ result)) logged result
    (each_weaker (λ m. IsAmong m drained) (λ m. IsAmong m (drained ++ result)) logged (λ m. among_left m drained result) all)
    (given-among drained result)

pub each-right : {A : Type 0} (P : A → Type 0) (a b : List A) → Each P (a ++ b) → Each P b
each-right P [] b all = all
each-right P (x ∷ a) b all = each-right P a b all.1

-- what a list gave that was ended just before
pub ended-among : (drained : List (ℕ × SysMsg)) (actor : ℕ) (result : List (ℕ × SysMsg)) (log before : List Observation) → log ≡ Ended actor result ∷ before →
    Each (λ m. IsAmong m drained) (given_by log) → Each (λ m. IsAmong m drained) result
ended-among drained actor result log before is all =
    each-right (λ m. IsAmong m drained) (given_by before) result (subst (λ l. Each (λ m. IsAmong m drained) (given_by l)) is all)

pub tail-drained : (h : RunState) (number : ℕ) (m : SysMsg) (rest : List (ℕ × SysMsg)) → WereDrained h ((number, m) ∷ rest) → WereDrained h rest
tail-drained h number m rest all = all.1

module _ (gives : ℕ → Moment → Reply → Type 0) (origin : Origin (Box Contents)) where
  -- the pass saw more
  pub running-seen : (pending : List Act) (newer seen : List Observation) (h : RunState) → IsRunning gives origin pending seen h →
      IsRunning gives origin pending (newer ++ seen) h
  running-seen pending newer seen h r = record {
    same_gates = r.same_gates;
    present = r.present;
    directory = r.directory;
    number = r.number;
    settled = r.settled;
    leads = r.leads;
    told = r.told;
    known_closed = shut-more newer seen h (closed_receivers h.home.dead) r.known_closed;
    entered = r.entered;
    left = r.left;
    logged = r.logged;
    same_count = r.same_count;
    named = r.named;
    sends = r.sends;
    only_drained = r.only_drained;
    puts_nothing = r.puts_nothing;
    owes_nothing = r.owes_nothing;
    bare = r.bare;
    none_released = r.none_released;
    none_got = r.none_got;
    none_returned = r.none_returned;
  }

  module _ (seen : List Observation) (h : RunState) where
    -- What lies at home changed, but not who it is nor the journal.
    pub running-home : (pending left : List Act) (new : Contents) → IsRunning gives origin pending seen h → new.cell.who ≡ h.home.cell.who →
        new.cell.journal ≡ h.home.cell.journal → new.directory ≡ h.home.directory → AgreesWithJournal (gives h.actor) left new →
        Leads h.status left (mailbox_at h.home.cell.who h.home.cell.journal) →
        HasSentDueExcept h.home.cell.who h.actor h.status.closed h.home.cell.journal h.before left h.recorded →
        Each (IsKnownClosedTo seen h) (closed_receivers new.dead) → WereDrained h new.rest → SendsBelow origin.actors left → NamesActors new →
        IsRunning gives origin left seen (record h { home = new })
    running-home pending left new r who journal directory settled leads told shut drained sends named = record {
      same_gates = r.same_gates;
      present = r.present;
      directory = directory ∙ r.directory;
      number = ap (λ (w : Identity). w.this.0) who ∙ r.number;
      settled = settled;
      leads = subst (λ (x : Identity × List Entry). Leads h.status left (mailbox_at x.0 x.1)) (λ i. (sym who i, sym journal i)) leads;
      told =
          subst (λ (x : Identity × List Entry). HasSentDueExcept x.0 h.actor h.status.closed x.1 h.before left h.recorded)
          (λ i. (sym who i, sym journal i)) told;
      known_closed = shut;
      entered = subst (λ j. WereDrained h (system_entries j)) (sym journal) r.entered;
      left = drained;
      logged = r.logged;
      same_count = ap (λ (w : Identity). w.actors) who ∙ r.same_count;
      named = named;
      sends = sends;
      only_drained = r.only_drained;
      puts_nothing = r.puts_nothing;
      owes_nothing = r.owes_nothing;
      bare = r.bare;
      none_released = r.none_released;
      none_got = r.none_got;
      none_returned = r.none_returned;
    }

    -- the same acts are left, and the same is dead and beside the cell
    pub running-same : (pending : List Act) (new : Contents) → IsRunning gives origin pending seen h → new.cell.who ≡ h.home.cell.who →
        new.cell.journal ≡ h.home.cell.journal → new.directory ≡ h.home.directory → new.dead ≡ h.home.dead → new.rest ≡ h.home.rest →
        AgreesWithJournal (gives h.actor) pending new → IsRunning gives origin pending seen (record h { home = new })
    running-same pending new r who journal directory dead rest settled =
        running-home pending pending new r who journal directory settled r.leads r.told
        (subst (λ d. Each (IsKnownClosedTo seen h) (closed_receivers d)) (sym dead) r.known_closed) (subst (WereDrained h) (sym rest) r.left) r.sends
        (named-as h.home new who journal (subst (EachNamesBelow h.home.cell.who.actors) (sym rest) r.named.rest) r.named)

    -- what was drained lies beside the cell
    pub running-kept : (pending : List Act) (new : Contents) (drained : List (ℕ × SysMsg)) → IsRunning gives origin pending seen h →
        new ≡ record h.home { rest = drained } → AgreesWithJournal (gives h.actor) pending new → WereDrained h drained →
        EachNamesBelow origin.actors drained →
        IsRunning gives origin pending seen (record h { home = new })
    running-kept pending new drained r is settled given named =
        running-home pending pending new r (ap (λ (x : Contents). x.cell.who) is) (ap (λ (x : Contents). x.cell.journal) is)
        (ap (λ (x : Contents). x.directory) is) settled r.leads r.told
        (subst (λ (x : Contents). Each (IsKnownClosedTo seen h) (closed_receivers x.dead)) (sym is) r.known_closed)
        (subst (λ (x : Contents). WereDrained h x.rest) (sym is) given) r.sends
        (named-as h.home new (ap (λ (x : Contents). x.cell.who) is) (ap (λ (x : Contents). x.cell.journal) is)
        (subst (λ (x : Contents). EachNamesBelow h.home.cell.who.actors x.rest) (sym is)
        (subst (λ n. EachNamesBelow n drained) (sym r.same_count) named)) r.named)

    -- the first of what was drained is dropped
    pub running-dropped_first : (pending : List Act) (new : Contents) (number : ℕ) (m : SysMsg) → IsRunning gives origin pending seen h →
        new.cell ≡ h.home.cell → new.directory ≡ h.home.directory → new.dead ≡ h.home.dead → h.home.rest ≡ (number, m) ∷ new.rest →
        AgreesWithJournal (gives h.actor) pending new → IsRunning gives origin pending seen (record h { home = new })
    running-dropped_first pending new number m r cell directory dead is settled =
        running-home pending pending new r (ap (λ (c : CellView). c.who) cell) (ap (λ (c : CellView). c.journal) cell) directory settled r.leads r.told
        (subst (λ d. Each (IsKnownClosedTo seen h) (closed_receivers d)) (sym dead) r.known_closed) (tail-drained h number m new.rest (subst (WereDrained h) is r.left)) r.sends
        (named-as h.home new (ap (λ (c : CellView). c.who) cell) (ap (λ (c : CellView). c.journal) cell)
        (named-others h.home.cell.who.actors number m new.rest (subst (EachNamesBelow h.home.cell.who.actors) is r.named.rest)) r.named)

    -- what was told was pushed or is a dead letter
    pub running-told : (rest : List Act) (to : ActorId) (body : Body) (new : Contents) → IsRunning gives origin (Tell to body ∷ rest) seen h →
        new.cell.who ≡ h.home.cell.who → new.cell.journal ≡ h.home.cell.journal → new.directory ≡ h.home.directory → new.rest ≡ h.home.rest →
        AgreesWithJournal (gives h.actor) rest new → Each (IsKnownClosedTo seen h) (closed_receivers new.dead) →
        IsRunning gives origin rest seen (record h { home = new })
    running-told rest to body new r who journal directory left settled shut =
        running-home (Tell to body ∷ rest) rest new r who journal directory settled
        (leads-tell h.status (mailbox_at h.home.cell.who h.home.cell.journal) rest to body r.leads)
        (told-tell h.home.cell.who h.actor h.before h.home.cell.journal rest h.recorded h.status.closed to body r.told) shut
        (subst (WereDrained h) (sym left) r.left) r.sends
        (named-as h.home new who journal (subst (EachNamesBelow h.home.cell.who.actors) (sym left) r.named.rest) r.named)

    -- the status was written
    running-status : (pending left : List Act) (status : Mailbox) → IsRunning gives origin pending seen h → AgreesWithJournal (gives h.actor) left h.home →
        Leads status left (mailbox_at h.home.cell.who h.home.cell.journal) →
        HasSentDueExcept h.home.cell.who h.actor status.closed h.home.cell.journal h.before left h.recorded → SendsBelow origin.actors left →
        IsRunning gives origin left seen (record h { status = status })
    running-status pending left status r settled leads told sends = record {
      same_gates = r.same_gates;
      present = r.present;
      directory = r.directory;
      number = r.number;
      settled = settled;
      leads = leads;
      told = told;
      known_closed = r.known_closed;
      entered = r.entered;
      left = r.left;
      logged = r.logged;
      same_count = r.same_count;
      named = r.named;
      sends = sends;
      only_drained = r.only_drained;
      puts_nothing = r.puts_nothing;
      owes_nothing = r.owes_nothing;
      bare = r.bare;
      none_released = r.none_released;
      none_got = r.none_got;
      none_returned = r.none_returned;
    }

    pub running-suspend : (rest : List Act) → IsRunning gives origin (SuspendSelf ∷ rest) seen h →
        (h.status.count < most_suspensions) × IsRunning gives origin rest seen (record h { status = suspend h.status })
    running-suspend rest r =
        let settled = settled-silent (gives h.actor) (SuspendSelf ∷ rest) rest h.home refl r.settled in
        let leads = leads-suspend h.status (mailbox_at h.home.cell.who h.home.cell.journal) rest r.leads in
        let told = told-suspend h.home.cell.who h.actor h.before h.home.cell.journal rest h.recorded h.status.closed r.told in (
          leads.0,
          running-status (SuspendSelf ∷ rest) rest (suspend h.status) r settled leads.1
              (subst (λ b. HasSentDueExcept h.home.cell.who h.actor b h.home.cell.journal h.before rest h.recorded) (sym (suspend-closed h.status)) told)
              r.sends,
        )

    pub running-resume : (rest : List Act) → IsRunning gives origin (ResumeSelf ∷ rest) seen h →
        IsRunning gives origin rest seen (record h { status = resume h.status })
    running-resume rest r =
        let settled = settled-silent (gives h.actor) (ResumeSelf ∷ rest) rest h.home refl r.settled in
        running-status (ResumeSelf ∷ rest) rest (resume h.status) r settled
        (leads-resume h.status (mailbox_at h.home.cell.who h.home.cell.journal) rest r.leads)
        (told-resume h.home.cell.who h.actor h.before h.home.cell.journal rest h.recorded h.status.closed r.told) r.sends

    pub running-close : (rest : List Act) → IsRunning gives origin (CloseSelf ∷ rest) seen h →
        IsRunning gives origin rest seen (record h { status = closed_mailbox })
    running-close rest r =
        let settled = settled-silent (gives h.actor) (CloseSelf ∷ rest) rest h.home refl r.settled in
        running-status (CloseSelf ∷ rest) rest closed_mailbox r settled
        (leads-close h.status (mailbox_at h.home.cell.who h.home.cell.journal) rest r.leads)
        (told-close h.home.cell.who h.actor h.before h.home.cell.journal rest h.recorded h.status.closed r.told) r.sends

    -- something was said
    running-recorded : (pending left : List Act) (recorded : List SentSystem) → IsRunning gives origin pending seen h →
        AgreesWithJournal (gives h.actor) left h.home →
        Leads h.status left (mailbox_at h.home.cell.who h.home.cell.journal) →
        HasSentDueExcept h.home.cell.who h.actor h.status.closed h.home.cell.journal h.before left recorded → SendsBelow origin.actors left →
        IsRunning gives origin left seen (record h { recorded = recorded })
    running-recorded pending left recorded r settled leads told sends = record {
      same_gates = r.same_gates;
      present = r.present;
      directory = r.directory;
      number = r.number;
      settled = settled;
      leads = leads;
      told = told;
      known_closed = r.known_closed;
      entered = r.entered;
      left = r.left;
      logged = r.logged;
      same_count = r.same_count;
      named = r.named;
      sends = sends;
      only_drained = r.only_drained;
      puts_nothing = r.puts_nothing;
      owes_nothing = r.owes_nothing;
      bare = r.bare;
      none_released = r.none_released;
      none_got = r.none_got;
      none_returned = r.none_returned;
    }

    module _ (rest : List Act) (to : ActorId) (message : SysMsg) (r : IsRunning gives origin (Sys to message ∷ rest) seen h) where
      settled : AgreesWithJournal (gives h.actor) rest h.home
      settled = settled-silent (gives h.actor) (Sys to message ∷ rest) rest h.home refl r.settled

      leads_on : Leads h.status rest (mailbox_at h.home.cell.who h.home.cell.journal)
      leads_on = leads-sys h.status (mailbox_at h.home.cell.who h.home.cell.journal) rest to message r.leads

      pub running-listed : IsRunning gives origin rest seen (record h {
        recorded = h.recorded ++ record { to = to.0; message = message; was_ended = false } ∷ [];
      })
      running-listed =
          running-recorded (Sys to message ∷ rest) rest _ r settled leads_on
          (told-listed h.home.cell.who h.actor h.before h.home.cell.journal rest h.recorded h.status.closed to message r.told) r.sends.1

      pub running-dropped : answered_to h.actor message ≡ None → IsRunning gives origin rest seen (record h {
        recorded = h.recorded ++ record { to = to.0; message = message; was_ended = true } ∷ [];
      })
      running-dropped nobody =
          running-recorded (Sys to message ∷ rest) rest _ r settled leads_on
          (told-dropped h.home.cell.who h.actor h.before h.home.cell.journal rest h.recorded h.status.closed to message nobody r.told) r.sends.1

      pub running-answered : (whom : ℕ) (ended : Bool) → answered_to h.actor message ≡ Some whom → IsRunning gives origin rest seen (record h {
        recorded = (h.recorded ++ record { to = to.0; message = message; was_ended = true } ∷ [])
            ++ record { to = whom; message = notice to.0; was_ended = ended } ∷ [];
      })
      running-answered whom ended right =
          running-recorded (Sys to message ∷ rest) rest _ r settled leads_on
          (told-answered h.home.cell.who h.actor h.before h.home.cell.journal rest h.recorded h.status.closed to message whom ended right r.told)
          r.sends.1

    -- a closed actor's notice of its own end
    pub running-parting : (pending : List Act) (whom : ℕ) (ended : Bool) → h.status.closed ≡ true → IsRunning gives origin pending seen h →
        IsRunning gives origin pending seen (record h {
          recorded = h.recorded ++ record { to = whom; message = notice h.actor; was_ended = ended } ∷ [];
        })
    running-parting pending whom ended shut r =
        running-recorded pending pending _ r r.settled r.leads
        (subst (λ b. HasSentDueExcept h.home.cell.who h.actor b h.home.cell.journal h.before pending
        (h.recorded ++ record { to = whom; message = notice h.actor; was_ended = ended } ∷ [])) (sym shut)
        (told-parting h.home.cell.who h.actor h.before h.home.cell.journal pending h.recorded whom ended
        (subst (λ b. HasSentDueExcept h.home.cell.who h.actor b h.home.cell.journal h.before pending h.recorded) shut r.told)))
        r.sends

    -- the claim's own seat did something at its actor
    running-log : (pending : List Act) (gave : Bool) (given : ℕ) (drained : List (ℕ × SysMsg)) (s : Observation) → IsRunning gives origin pending seen h →
        ((m : ℕ × SysMsg) → IsAmong m h.drained → IsAmong m drained) → Each (λ m. IsAmong m drained) (given_by (s ∷ h.log)) →
        TakesOnlyDrained h.actor (s ∷ h.log) → listed_by (s ∷ h.log) ≡ [] →
        IsRunning gives origin pending seen (record h { gave = gave; given = given; drained = drained; log = s ∷ h.log })
    running-log pending gave given drained s r more logged only_drained puts_nothing = record {
      same_gates = r.same_gates;
      present = r.present;
      directory = r.directory;
      number = r.number;
      settled = r.settled;
      leads = r.leads;
      told = r.told;
      known_closed = shut-own (s ∷ []) seen h (record h { gave = gave; given = given; drained = drained; log = s ∷ h.log }) (closed_receivers h.home.dead) refl refl r.known_closed;
      entered = each_weaker (λ m. IsAmong m h.drained) (λ m. IsAmong m drained) (system_entries h.home.cell.journal) more r.entered;
      left = each_weaker (λ m. IsAmong m h.drained) (λ m. IsAmong m drained) h.home.rest more r.left;
      logged = logged;
      same_count = r.same_count;
      named = r.named;
      sends = r.sends;
      only_drained = only_drained;
      puts_nothing = puts_nothing;
      owes_nothing = r.owes_nothing;
      bare = r.bare;
      none_released = r.none_released;
      none_got = r.none_got;
      none_returned = r.none_returned;
    }

    pub running-drained : (pending : List Act) (gave : Bool) (given : ℕ) (result : List (ℕ × SysMsg)) → IsRunning gives origin pending seen h →
        IsRunning gives origin pending seen
        (record h { gave = gave; given = given; drained = h.drained ++ result; log = Drained h.actor result ∷ h.log })
    running-drained pending gave given result r =
        running-log pending gave given (h.drained ++ result) (Drained h.actor result) r (λ m. among_left m h.drained result)
        (logged-more h.drained (given_by h.log) result r.logged) r.only_drained r.puts_nothing

    pub running-read : (pending : List Act) (word : ℕ) → IsRunning gives origin pending seen h →
        IsRunning gives origin pending seen (record h { log = Read h.actor word ∷ h.log })
    running-read pending word r = running-log pending h.gave h.given h.drained (Read h.actor word) r (λ m is. is) r.logged r.only_drained r.puts_nothing

    pub running-looked : (pending : List Act) → IsRunning gives origin pending seen h →
        IsRunning gives origin pending seen (record h { log = Looked h.actor true ∷ h.log })
    running-looked pending r = running-log pending h.gave h.given h.drained (Looked h.actor true) r (λ m is. is) r.logged r.only_drained r.puts_nothing

    pub running-ended : (pending : List Act) (given : ℕ) (result : List (ℕ × SysMsg)) → IsRunning gives origin pending seen h →
        IsRunning gives origin pending seen (record h { given = given; drained = h.drained ++ result; log = Ended h.actor result ∷ h.log })
    running-ended pending given result r =
        running-log pending h.gave given (h.drained ++ result) (Ended h.actor result) r (λ m. among_left m h.drained result)
        (logged-more h.drained (given_by h.log) result r.logged) r.only_drained r.puts_nothing

    pub running-taken : (pending : List Act) (n : ℕ) → LoadedOpenLast h.actor h.log ⊎ WasEnded h.actor h.log → IsRunning gives origin pending seen h →
        IsRunning gives origin pending seen (record h { log = Took h.actor n ∷ h.log })
    running-taken pending n when r = running-log pending h.gave h.given h.drained (Took h.actor n) r (λ m is. is) r.logged (when, r.only_drained) r.puts_nothing
