-- What a tell makes of a run.
use Rattle.std.proofs.Common.{◌≡◌, ℕ, ◌<◌, ◌*◌, ◌+◌, Bool, true, false, List, [], ◌∷◌, length, inl, inr, refl, sym, ap, ◌∙◌, subst, arith}
use Rattle.std.specs.Prelude.{if◌then◌else◌}
use Rattle.std.specs.Global.{Box}
use Rattle.mb_status.specs.Mailbox.{Mailbox, word_of, mailbox_of}
use Rattle.mb_msg.specs.declared.dead_letter.DeadLetter.{DeadLetter}
use Rattle.mb_msg.specs.declared.dead_letter.DeadLetterReason.{DeadLetterReason}
use Rattle.mb_msg.specs.declared.dead_letter.DeadLetterReason.TheVariants.{Closed}
use Rattle.mb_msg.specs.declared.envelope.Body.{Body}
use Rattle.mb_msg.specs.declared.envelope.Envelope.{Envelope}
use Rattle.mb_msg.specs.declared.id.ActorId.{ActorId}
use Rattle.mb_actor.specs.Behaviour.{Moment, Reply}
use Rattle.mb_core.specs.Actor.{nothing}
use Rattle.mb_core.specs.Run.{after_reading}
use Rattle.mb_journal.specs.Acts.{Act}
use Rattle.mb_journal.specs.Acts.Act.{Tell}
use Rattle.mb_queue.specs.declared.refused.PushError.{PushError}
use Rattle.mb_queue.specs.declared.refused.PushError.TheVariants.{Full, NoMemory}
use Rattle.mb_cell.specs.CellView.{CellView}
use Rattle.mb_cell.proofs.RoomLaws.{any-room}
use Rattle.mb_ghost.specs.Seen.{Each}
use Rattle.mb_gate.specs.Untouched.{Origin}
use Rattle.mb_gate.specs.View.{View, Observation, Read, obligation_to, seeing, reading}
use Rattle.mb_home.specs.AtHome.{closed_receivers, receiver_if_closed}
use Rattle.mb_queue.specs.Passes.{SendPassView, TakePassView}
use Rattle.mb_home.specs.Contents.{Contents}
use Rattle.mb_home.specs.AgreesWithJournal.{AgreesWithJournal}
use Rattle.mb_home.specs.Steps.{Pushes, RecordsDeadLetter, next_envelope, reason_of}
use Rattle.mb_home.proofs.AgreesLemmas.{many-sends, settled-acts}
use Rattle.mb_home.proofs.TellSteps.{told-there}
use Rattle.mb_register.specs.Views.{LooksAfter}
use Rattle.mb_register.specs.declared.hint.Hint.{Hint}
use Rattle.mb_register.specs.declared.hint.Hint.TheVariants as hint
use Rattle.mb_register.proofs.MoveLemmas.{Moves, moves-does}
use Rattle.mb_register.proofs.SendingLemmas.{sends-one, sends-back}
use Rattle.mb_register.proofs.Views.{owes-same, does-then}
use Rattle.mb_mailbox.specs.Emptied.{TakesOn}
use Rattle.mb_mailbox.specs.RunState.{RunState}
use Rattle.mb_mailbox.specs.Running.{IsRunning, BacklogAgrees, KeepsJournal, IsKnownClosedTo, counted_by}
use Rattle.mb_mailbox.specs.Sending.{HintTells, IsSentOrDead}
use Rattle.mb_mailbox.proofs.BacklogLemmas.{backlog-home}
use Rattle.mb_mailbox.proofs.EmptiedLemmas.{takes-same}
use Rattle.mb_mailbox.proofs.RunningSteps.{running-seen, running-same, running-told}
use Rattle.mb_mailbox.proofs.ShutLemmas.{shut-is_dead_letter, shut-read}

-- ---- the home of a run is its actor's

pub running-own : (gives : ℕ → Moment → Reply → Type 0) (origin : Origin (Box Contents)) (pending : List Act) (seen : List Observation) (h : RunState) →
    IsRunning gives origin pending seen h → AgreesWithJournal (gives h.home.cell.who.this.0) pending h.home
running-own gives origin pending seen h r = subst (λ n. AgreesWithJournal (gives n) pending h.home) (sym r.number) r.settled

-- and stays so where its cell has the same actor and the same acts are left
pub settled-here : (gives : ℕ → Moment → Reply → Type 0) (actor : ℕ) (old new : Contents) → old.cell.who.this.0 ≡ actor → new.cell ≡ old.cell →
    AgreesWithJournal (gives new.cell.who.this.0) new.cell.acts new → AgreesWithJournal (gives actor) old.cell.acts new
settled-here gives actor old new number cell s =
    let here : new.cell.who.this.0 ≡ actor = ap (λ (c : CellView). c.who.this.0) cell ∙ number in
    subst (λ (x : ℕ × List Act). AgreesWithJournal (gives x.0) x.1 new) (λ i. (here i, (cell i).acts)) s

-- also where what it tells left no room for the next message
settled-told : (gives : ℕ → Moment → Reply → Type 0) (actor : ℕ) (old new : Contents) → old.cell.who.this.0 ≡ actor →
    new.cell ≡ record old.cell { is_ready = new.cell.is_ready } → AgreesWithJournal (gives new.cell.who.this.0) new.cell.acts new →
    AgreesWithJournal (gives actor) old.cell.acts new
settled-told gives actor old new number cell s =
    let here : new.cell.who.this.0 ≡ actor = ap (λ (c : CellView). c.who.this.0) cell ∙ number in
    subst (λ (x : ℕ × List Act). AgreesWithJournal (gives x.0) x.1 new) (λ i. (here i, (cell i).acts)) s

-- ---- a status that was read closed

pub closed-word : (m : Mailbox) → m.closed ≡ true → word_of m ≡ 1
closed-word m shut = ap (λ b. if b then 1 else 4 * m.count + (if m.scheduled then 2 else 0)) shut

pub read-closed : (id : ℕ) (m : Mailbox) (a b : View) → m.closed ≡ true → b ≡ reading id (word_of m) a → b ≡ reading id 1 a
read-closed id m a b shut known = known ∙ ap (λ w. reading id w a) (closed-word m shut)

pub log-closed : (id : ℕ) (a b : View) → b ≡ reading id 1 a → b.log ≡ Read id 1 ∷ a.log
log-closed id a b known = ap (λ (v : View). v.log) known

pub discharged-closed : (id : ℕ) (a b : View) → b ≡ reading id 1 a → obligation_to id b ≡ nothing
discharged-closed id a b known =
    ap (obligation_to id) known ∙ owes-same id (after_reading (mailbox_of 1) (obligation_to id a)) (seeing (Read id 1) a)

-- ---- a home whose cell and whose drained messages stay

module _ (h : RunState) (new : Contents) (cell : new.cell ≡ h.home.cell) where
  -- and whose pass takes, but gives nothing
  pub keeps-asked : new.take.taken ≡ h.home.take.taken → TakesOn h.home.take new.take → KeepsJournal h (record h { home = new })
  keeps-asked taken takes = record {
    same = record {
      actor = refl;
      who = ap (λ (c : CellView). c.who) cell;
      before = refl;
      takes = takes;
      counted = ap (λ (l : List Envelope). length l + counted_by h) taken;
    };
    journal = ap (λ (c : CellView). c.journal) cell;
    loaded = refl;
  }

  pub keeps-home : new.take ≡ h.home.take → KeepsJournal h (record h { home = new })
  keeps-home take = keeps-asked (ap (λ (k : TakePassView). k.taken) take) (takes-same _ _ take)

  pub backlog-cell : new.rest ≡ h.home.rest → new.dropped ≡ h.home.dropped → BacklogAgrees h → BacklogAgrees (record h { home = new })
  backlog-cell rest dropped s =
      backlog-home h s new (ap (λ (c : CellView). c.who) cell) (ap (λ (c : CellView). c.journal) cell) rest dropped

-- a home of which what it tells changed its own passes, how many it sent, its dead letters, the room for them and that for the next message
module _ (h : RunState) (new : Contents)
    (same : new ≡ record h.home {
      cell = record h.home.cell { is_ready = new.cell.is_ready };
      sends = new.sends;
      sent = new.sent;
      dead = new.dead;
      room = new.room;
    }) where
  pub cell-told : new.cell ≡ record h.home.cell { is_ready = new.cell.is_ready }
  cell-told = ap (λ (x : Contents). x.cell) same

  pub take-told : new.take ≡ h.home.take
  take-told = ap (λ (x : Contents). x.take) same

  pub keeps-told : KeepsJournal h (record h { home = new })
  keeps-told = record {
    same = record {
      actor = refl;
      who = ap (λ (x : Contents). x.cell.who) same;
      before = refl;
      takes = takes-same _ _ take-told;
      counted = ap (λ (x : Contents). length x.take.taken + counted_by h) same;
    };
    journal = ap (λ (x : Contents). x.cell.journal) same;
    loaded = refl;
  }

  pub backlog-told : BacklogAgrees h → BacklogAgrees (record h { home = new })
  backlog-told s =
      backlog-home h s new (ap (λ (x : Contents). x.cell.who) same) (ap (λ (x : Contents). x.cell.journal) same)
      (ap (λ (x : Contents). x.rest) same) (ap (λ (x : Contents). x.dropped) same)

-- the next act was taken out to be carried out
module _ (h : RunState) (new : Contents) (same : new ≡ record h.home { cell = record h.home.cell { acts = new.cell.acts } }) where
  pub keeps-next : KeepsJournal h (record h { home = new })
  keeps-next = record {
    same = record {
      actor = refl;
      who = ap (λ (x : Contents). x.cell.who) same;
      before = refl;
      takes = takes-same _ _ (ap (λ (x : Contents). x.take) same);
      counted = ap (λ (x : Contents). length x.take.taken + counted_by h) same;
    };
    journal = ap (λ (x : Contents). x.cell.journal) same;
    loaded = refl;
  }

  pub backlog-next : BacklogAgrees h → BacklogAgrees (record h { home = new })
  backlog-next s =
      backlog-home h s new (ap (λ (x : Contents). x.cell.who) same) (ap (λ (x : Contents). x.cell.journal) same)
      (ap (λ (x : Contents). x.rest) same) (ap (λ (x : Contents). x.dropped) same)

  pub running-next : (gives : ℕ → Moment → Reply → Type 0) (origin : Origin (Box Contents)) (seen : List Observation) (pending : List Act) →
      h.home.cell.acts ≡ pending → AgreesWithJournal (gives new.cell.who.this.0) pending new → IsRunning gives origin h.home.cell.acts seen h →
      IsRunning gives origin pending seen (record h { home = new })
  running-next gives origin seen pending is settled r =
      let here : new.cell.who.this.0 ≡ h.actor = ap (λ (x : Contents). x.cell.who.this.0) same ∙ r.number in
      running-same gives origin seen h pending new (subst (λ p. IsRunning gives origin p seen h) is r) (ap (λ (x : Contents). x.cell.who) same)
      (ap (λ (x : Contents). x.cell.journal) same) (ap (λ (x : Contents). x.directory) same) (ap (λ (x : Contents). x.dead) same)
      (ap (λ (x : Contents). x.rest) same) (subst (λ n. AgreesWithJournal (gives n) pending new) here settled)

-- where an equation begins
abbrev pub start_of : {x y : Contents} → x ≡ y → Contents
start_of {x} here = x

-- the cell gave its next act, where the home is as it was at this place
module _ (h : RunState) (x : Contents) (here : x ≡ h.home) (cell : CellView) (same : cell ≡ record x.cell { acts = cell.acts }) where
  pub home-next : record x { cell = cell } ≡ record h.home { cell = record h.home.cell { acts = cell.acts } }
  home-next =
      ap (λ (c : CellView). record x { cell = c }) same
      ∙ ap (λ (y : Contents). record y { cell = record y.cell { acts = cell.acts } }) here

  pub acts-next : (pending : List Act) → x.cell.acts ≡ pending → h.home.cell.acts ≡ pending
  acts-next pending is = sym (ap (λ (y : Contents). y.cell.acts) here) ∙ is

  pub running-gave : (gives : ℕ → Moment → Reply → Type 0) (origin : Origin (Box Contents)) (seen : List Observation) (pending : List Act) →
      x.cell.acts ≡ pending → IsRunning gives origin h.home.cell.acts seen h →
      IsRunning gives origin pending seen (record h { home = record x { cell = cell } })
  running-gave gives origin seen pending is r =
      let own = running-own gives origin h.home.cell.acts seen h r in
      let left = subst (λ p. AgreesWithJournal (gives h.home.cell.who.this.0) p (record h.home { cell = record h.home.cell { acts = cell.acts } }))
      (acts-next pending is) (settled-acts h.home (gives h.home.cell.who.this.0) h.home.cell.acts cell.acts own) in
      running-next h (record x { cell = cell }) home-next gives origin seen pending (acts-next pending is)
      (subst (λ (y : Contents). AgreesWithJournal (gives y.cell.who.this.0) pending y) (sym home-next) left) r

-- ---- a tell

module _ (gives : ℕ → Moment → Reply → Type 0) (origin : Origin (Box Contents)) (seen : List Observation) (h : RunState) (to : ActorId) (body : Body)
    (r : IsRunning gives origin (Tell to body ∷ h.home.cell.acts) seen h) where
  -- the receiver is one of the actors
  pub told-below : to.0 < origin.actors
  told-below =
      let there = told-there h.home (gives h.actor) to body h.home.cell.acts r.settled in
      omega (arith, there.0, there.1, many-sends h.home r.settled.is_own, r.settled.is_own.all_there, r.same_count)

  module _ (new : Contents) (settled : AgreesWithJournal (gives new.cell.who.this.0) new.cell.acts new) where
    -- the acts that are left, with what is dead known
    running-left : new.cell ≡ record h.home.cell { is_ready = new.cell.is_ready } → new.directory ≡ h.home.directory → new.rest ≡ h.home.rest → Each (IsKnownClosedTo seen h) (closed_receivers new.dead) →
        IsRunning gives origin new.cell.acts seen (record h { home = new })
    running-left cell directory rest shut =
        subst (λ (c : CellView). IsRunning gives origin c.acts seen (record h { home = new })) (sym cell)
        (running-told gives origin seen h h.home.cell.acts to body new r (ap (λ (c : CellView). c.who) cell) (ap (λ (c : CellView). c.journal) cell) directory rest
        (settled-told gives h.actor h.home new r.number cell settled) shut)

    -- it was pushed
    pub running-pushed : Pushes h.home new to body → IsRunning gives origin new.cell.acts seen (record h { home = new })
    running-pushed p =
        running-left (any-room new.cell h.home.cell (ap (λ (x : Contents). x.cell) p.same)) (ap (λ (x : Contents). x.directory) p.same) (ap (λ (x : Contents). x.rest) p.same)
        (subst (λ d. Each (IsKnownClosedTo seen h) (closed_receivers d)) (sym (ap (λ (x : Contents). x.dead) p.same)) r.known_closed)

    -- it is a dead letter
    pub running-is_dead_letter : (why : DeadLetterReason) → RecordsDeadLetter h.home new to body why → Each (IsKnownClosedTo seen h) (receiver_if_closed why to.0) →
        IsRunning gives origin new.cell.acts seen (record h { home = new })
    running-is_dead_letter why b known =
        running-left (any-room new.cell (record h.home.cell { is_ready = false }) (ap (λ (x : Contents). x.cell) b.same)) (ap (λ (x : Contents). x.directory) b.same) (ap (λ (x : Contents). x.rest) b.same)
        (subst (λ d. Each (IsKnownClosedTo seen h) (closed_receivers d)) (sym (ap (λ (x : Contents). x.dead) b.same))
        (shut-is_dead_letter seen h h.home.dead (record { envelope = next_envelope h.home to body; why = why }) r.known_closed known))

    none-known : (refused : PushError) → Each (IsKnownClosedTo seen h) (receiver_if_closed (reason_of refused) to.0)
    none-known (Full e) = tt
    none-known (NoMemory e) = tt

    pub running-refused_push : (refused : PushError) → RecordsDeadLetter h.home new to body (reason_of refused) →
        IsRunning gives origin new.cell.acts seen (record h { home = new })
    running-refused_push refused b = running-is_dead_letter (reason_of refused) b (none-known refused)

    -- it was queued, or refused
    pub running-sent : (hinted : Hint) (a b : View) → HintTells hinted to body a b h.home new →
        IsRunning gives origin new.cell.acts seen (record h { home = new })
    running-sent hint.Message a b t = running-pushed t.pushed
    running-sent hint.None a b t = running-refused_push t.refused t.is_dead_letter
    running-sent hint.System a b t = absurd t

-- one that was read closed
pub running-told_closed : (gives : ℕ → Moment → Reply → Type 0) (origin : Origin (Box Contents)) (seen : List Observation) (h : RunState) (to : ActorId)
    (body : Body) (new : Contents) → IsRunning gives origin (Tell to body ∷ h.home.cell.acts) seen h →
    AgreesWithJournal (gives new.cell.who.this.0) new.cell.acts new → RecordsDeadLetter h.home new to body Closed →
    IsRunning gives origin new.cell.acts (Read to.0 1 ∷ seen) (record h { home = new })
running-told_closed gives origin seen h to body new r settled b =
    running-is_dead_letter gives origin (Read to.0 1 ∷ seen) h to body
    (running-seen gives origin (Tell to body ∷ h.home.cell.acts) (Read to.0 1 ∷ []) seen h r) new settled Closed b (shut-read seen h to.0, tt)

-- ---- an envelope that was queued, or refused

module _ (to : ActorId) (body : Body) where
  -- and then looks
  pub sent-then : (hinted : Hint) (a b c : View) (home left : Contents) → HintTells hinted to body a b home left → LooksAfter to.0 b c →
      HintTells hinted to body a c home left
  sent-then hint.Message a b c home left t looks =
      record { word = t.word; not_closed = t.not_closed; did = does-then to.0 _ [] a b c t.did looks; pushed = t.pushed }
  sent-then hint.None a b c home left t looks =
      record { word = t.word; not_closed = t.not_closed; refused = t.refused; did = does-then to.0 _ [] a b c t.did looks; is_dead_letter = t.is_dead_letter }
  sent-then hint.System a b c home left t looks = absurd t

  pub sent-moves : (hinted : Hint) (a b : View) (home left : Contents) → HintTells hinted to body a b home left → Moves to.0 a b
  sent-moves hint.Message a b home left t = moves-does to.0 _ [] a b (tt, (tt, tt)) (sends-one to.0 t.word t.not_closed) t.did
  sent-moves hint.None a b home left t = moves-does to.0 _ [] a b (tt, (tt, (tt, tt))) (sends-back to.0 t.word t.not_closed) t.did
  sent-moves hint.System a b home left t = absurd t

  pub sent-told : (hinted : Hint) (a b : View) (home left : Contents) → HintTells hinted to body a b home left → IsSentOrDead to body a b home left
  sent-told hint.Message a b home left t = inr (inl t)
  sent-told hint.None a b home left t = inr (inr t)
  sent-told hint.System a b home left t = absurd t

-- all of the home but its own passes, how many it sent, its dead letters, the room for them and that for the next message is as it was
pub leaves-rest : (old new : Contents) (ready : Bool) (sends : List SendPassView) (sent : ℕ) (dead : List DeadLetter) (room : ℕ) →
    new ≡ record old { cell = record old.cell { is_ready = ready }; sends = sends; sent = sent; dead = dead; room = room } →
    new ≡ record old {
      cell = record old.cell { is_ready = new.cell.is_ready };
      sends = new.sends;
      sent = new.sent;
      dead = new.dead;
      room = new.room;
    }
leaves-rest old new ready sends sent dead room is =
    is
    ∙ sym (ap (λ (x : Contents). record old {
      cell = record old.cell { is_ready = x.cell.is_ready };
      sends = x.sends;
      sent = x.sent;
      dead = x.dead;
      room = x.room;
    }) is)
