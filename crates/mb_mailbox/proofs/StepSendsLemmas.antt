-- What one step of a run sends and drops.
use Rattle.std.proofs.Common.{◌≡◌, ℕ, true, false, List, [], ◌∷◌, ◌++◌, Option, Some, None, refl, sym, ap, ◌∙◌, subst, append_assoc, append-nil}
use Rattle.std.specs.Prelude.{if◌then◌else◌, is_some, MatchBool}
use Rattle.std.specs.List.{flat_map}
use Rattle.std.specs.Global.{Box}
use Rattle.mb_msg.specs.declared.envelope.Envelope.{Envelope}
use Rattle.mb_msg.specs.declared.id.ActorId.{ActorId}
use Rattle.mb_msg.specs.declared.system.SysMsg.{SysMsg}
use Rattle.mb_journal.specs.Aside.{next_front}
use Rattle.mb_journal.specs.Entry.{Entry}
use Rattle.mb_journal.specs.Entry.Entry.{Handled, System, Dropped as DroppedEnvelope}
use Rattle.mb_journal.specs.Identity.{Identity}
use Rattle.mb_journal.specs.Life.{closed}
use Rattle.mb_status.specs.Mailbox.{Mailbox}
use Rattle.mb_actor.specs.Behaviour.{Moment, Reply}
use Rattle.mb_ghost.specs.Seen.{Each}
use Rattle.mb_gate.specs.Untouched.{Origin}
use Rattle.mb_cell.specs.CellView.{CellView, IsOf, with_entry}
use Rattle.mb_cell.proofs.RoomLaws.{any-room}
use Rattle.mb_gate.specs.declared.claim.Claim.{Claim}
use Rattle.mb_gate.specs.Accessors.{held_actor, status_of, IsRecorded}
use Rattle.mb_gate.specs.SentSystem.{Listed, Dropped, Answered, Parting, IsRightPart, answered_to, messages_of, notice, sent_by_part}
use Rattle.mb_gate.specs.View.{Observation, SentSystem, Ended}
use Rattle.mb_home.specs.Contents.{Contents}
use Rattle.mb_home.specs.Steps.{AppliesNext, HasNoBacklog, IsDue}
use Rattle.mb_mailbox.specs.Notice.{IsAnswered, asker}
use Rattle.mb_mailbox.specs.RunState.{RunState, run_state}
use Rattle.mb_mailbox.specs.RunSends.{SendsAndAnswers, TakesSystemsIn, SendsDue, SendsForEntries, IsSentByRun, came_since, given_by, number_if_some}
use Rattle.mb_mailbox.specs.Running.{IsRunning, BacklogAgrees}
use Rattle.mb_mailbox.proofs.AnswerLemmas.{asker-told, number_of}
use Rattle.mb_mailbox.proofs.RunSendsLemmas.{due-then, given-append, sends-none, sends-part, sends-then, takes-in-none, takes-in-open}
use Rattle.mb_mailbox.proofs.RunStateLemmas.{hold-recorded}
use Rattle.mb_mailbox.proofs.RunningMoves.{status-at}

-- ---- a system message was sent

-- a list took it
pub due-listed : (c new : Claim (Box Contents)) (to : ℕ) (message : SysMsg) →
    IsRecorded c new (record { to = to; message = message; was_ended = false }) → SendsDue ((to, message) ∷ []) [] (run_state c) (run_state new)
due-listed c new to message r =
    subst (SendsDue ((to, message) ∷ []) [] (run_state c)) (sym (hold-recorded c new _ r))
    (record {
      dropped = [];
      sends = sends-part (run_state c) _ (Listed to message) refl tt refl;
      takes = takes-in-none (run_state c) _ refl refl (λ shut. shut);
    })

-- it found its list ended, and who waits for an answer was told
due-answered : (c mid new : Claim (Box Contents)) (to : ℕ) (message : SysMsg) → IsRecorded c mid (record { to = to; message = message; was_ended = true }) →
    (asked : Option ActorId) → answered_to (held_actor c) message ≡ number_of asked → IsAnswered asked to mid new →
    SendsDue ((to, message) ∷ []) [] (run_state c) (run_state new)
due-answered c mid new to message r None nobody same =
    subst (SendsDue ((to, message) ∷ []) [] (run_state c)) (sym (ap (λ (x : Claim (Box Contents)). run_state x) same ∙ hold-recorded c mid _ r))
    (record {
      dropped = [];
      sends = sends-part (run_state c) _ (Dropped to message) refl nobody refl;
      takes = takes-in-none (run_state c) _ refl refl (λ shut. shut);
    })
due-answered c mid new to message r (Some whom) right n =
    let first : SentSystem = record { to = to; message = message; was_ended = true } in
    let note : SentSystem = record { to = whom.0; message = notice to; was_ended = n.was_ended } in
    subst (SendsDue ((to, message) ∷ []) [] (run_state c))
    (sym (hold-recorded mid new note n.recorded ∙ ap (λ (h : RunState). record h { recorded = h.recorded ++ note ∷ [] }) (hold-recorded c mid first r)))
    (record {
      dropped = [];
      sends = sends-part (run_state c) _ (Answered to message whom.0 n.was_ended) (append_assoc (run_state c).recorded (first ∷ []) (note ∷ [])) right refl;
      takes = takes-in-none (run_state c) _ refl refl (λ shut. shut);
    })

pub due-refused : (c mid new : Claim (Box Contents)) (to : ℕ) (message left : SysMsg) (own : ActorId) → left ≡ message → own.0 ≡ held_actor mid →
    IsRecorded c mid (record { to = to; message = message; was_ended = true }) → IsAnswered (asker (Some own) left) to mid new →
    SendsDue ((to, message) ∷ []) [] (run_state c) (run_state new)
due-refused c mid new to message left own same here r answered =
    due-answered c mid new to message r (asker (Some own) message)
    (ap (λ n. answered_to n message) (sym r.actor ∙ sym here) ∙ asker-told own message)
    (subst (λ m. IsAnswered (asker (Some own) m) to mid new) same answered)

-- ---- a message was dropped, and who waits for an answer was told

pub sends-departed : (c new : Claim (Box Contents)) (ended number : ℕ) (message : SysMsg) → ended ≡ held_actor c → (status_of c).closed ≡ true →
    (asked : Option ActorId) → asker c.home.value.cell.who.parent message ≡ asked → IsAnswered asked ended c new →
    SendsAndAnswers [] ((number, message) ∷ []) (run_state c) (run_state new)
sends-departed c new ended number message here shut None nobody same =
    subst (λ (x : Claim (Box Contents)). SendsAndAnswers [] ((number, message) ∷ []) (run_state c) (run_state x)) (sym same)
    (record {
      parts = [];
      recorded = sym (append-nil (run_state c).recorded);
      due_is = refl;
      right = tt;
      answered = ap (λ o. number_if_some o ++ []) (sym nobody);
    })
sends-departed c new ended number message here shut (Some whom) waits n =
    let note : SentSystem = record { to = whom.0; message = notice (held_actor c); was_ended = n.was_ended } in
    let r : IsRecorded c new note = subst (λ k. IsRecorded c new (record { to = whom.0; message = notice k; was_ended = n.was_ended })) here n.recorded in
    subst (SendsAndAnswers [] ((number, message) ∷ []) (run_state c)) (sym (hold-recorded c new note r))
    (record {
      parts = Parting whom.0 n.was_ended ∷ [];
      recorded = refl;
      due_is = refl;
      right = (shut, tt);
      answered = ap (λ o. number_if_some o ++ []) (sym waits);
    })

-- ---- the list was ended, and all that was left of a drain and in the list was dropped

module _ (a middle dropped last : RunState) (listed : List (ℕ × SysMsg)) (actor : middle.actor ≡ a.actor) (who : middle.home.cell.who ≡ a.home.cell.who)
    (first : SendsAndAnswers [] a.home.rest a middle) (next : SendsAndAnswers [] listed middle last)
    (stays : middle.status.closed ≡ true → last.status.closed ≡ true) (ended : last.status.closed ≡ true)
    (log : dropped.log ≡ Ended a.actor listed ∷ a.log) (none : dropped.home.rest ≡ []) (t : TakesSystemsIn [] [] dropped last) where
  pub due-cleaned : SendsDue [] [] a last
  due-cleaned = record {
    dropped = a.home.rest ++ listed;
    sends = sends-then a middle last actor who [] a.home.rest [] listed stays first next;
    takes = record {
      steps = t.steps ++ Ended a.actor listed ∷ [];
      log = t.log ∙ ap (λ l. t.steps ++ l) log ∙ sym (append_assoc t.steps (Ended a.actor listed ∷ []) a.log);
      given =
          ap (λ l. a.home.rest ++ l)
          (given-append t.steps (Ended a.actor listed ∷ [])
          ∙ ap (λ l. listed ++ l) (ap (λ l. l ++ given_by t.steps) (sym none) ∙ t.given))
          ∙ sym (append_assoc a.home.rest listed last.home.rest);
      none_dropped = λ open_yet. absurd (cc (ended, open_yet));
      stays_closed = λ _. (ended, refl);
    };
  }

-- ---- an entry came, and its acts were carried out

came-due : (front : Option (ℕ × SysMsg)) (rest : List (ℕ × SysMsg)) (number : ℕ) (message : SysMsg) (left : List (ℕ × SysMsg)) →
    IsDue front rest number message left → rest ++ [] ≡ (if is_some front then [] else (number, message) ∷ []) ++ left
came-due None rest number message left is = append-nil rest ∙ is
came-due (Some front) rest number message left is = append-nil rest ∙ sym is.1

came-none : (who : Identity) (before : List Entry) (envelope : Envelope) (reading : ℕ) (e : Entry) → IsOf envelope reading e →
    came_since who (e ∷ []) before ≡ []
came-none who before envelope reading (Handled x r outcome) of_it = refl
came-none who before envelope reading (System number m outcome) of_it = absurd of_it
came-none who before envelope reading (DroppedEnvelope x) of_it = refl

module _ (a mid last : RunState) (actor : mid.actor ≡ a.actor) (open_yet : a.status.closed ≡ false) (recorded : mid.recorded ≡ a.recorded)
    (e : Entry) (adds : mid.home.cell ≡ record (with_entry a.home.cell e) { is_ready = mid.home.cell.is_ready }) (carried : SendsDue (messages_of mid.home.cell.acts) [] mid last)
    (journal : last.home.cell.journal ≡ mid.home.cell.journal) where
  -- the list gave this, and this came to the cell
  entries-one : (steps : List Observation) → mid.log ≡ steps ++ a.log →
      a.home.rest ++ given_by steps ≡ came_since a.home.cell.who (e ∷ []) a.home.cell.journal ++ mid.home.rest → SendsForEntries a last
  entries-one steps log given =
      let came = came_since a.home.cell.who (e ∷ []) a.home.cell.journal in
      let due = messages_of mid.home.cell.acts in
      let before : SendsDue [] came a mid = record {
        dropped = [];
        sends = sends-none a mid recorded;
        takes = takes-in-open a mid came steps log given open_yet;
      } in
      let all : SendsDue due (came ++ []) a last =
      due-then a mid last actor (ap (λ (x : CellView). x.who) adds) [] came due [] before carried in
      record {
        newer = e ∷ [];
        joined = journal ∙ ap (λ (x : CellView). x.journal) adds;
        sends =
            subst (λ (x : List (ℕ × SysMsg) × List (ℕ × SysMsg)). SendsDue x.0 x.1 a last)
            (λ i. (messages_of (adds i).acts, append-nil came i)) all;
      }

  pub entries-begun : (envelope : Envelope) (reading : ℕ) → IsOf envelope reading e → mid.home.rest ≡ a.home.rest → (steps : List Observation) →
      given_by steps ≡ [] → mid.log ≡ steps ++ a.log → SendsForEntries a last
  entries-begun envelope reading of_it rest steps none log =
      entries-one steps log
      (ap (λ l. a.home.rest ++ l) none ∙ append-nil a.home.rest ∙ sym rest
      ∙ ap (λ l. l ++ mid.home.rest) (sym (came-none a.home.cell.who a.home.cell.journal envelope reading e of_it)))

pub entries-applied : (a mid last : RunState) → mid.actor ≡ a.actor → a.status.closed ≡ false → mid.recorded ≡ a.recorded → AppliesNext a.home mid.home →
    SendsDue (messages_of mid.home.cell.acts) [] mid last → last.home.cell.journal ≡ mid.home.cell.journal → mid.log ≡ a.log → SendsForEntries a last
entries-applied a mid last actor open_yet recorded n carried journal log =
    let e : Entry = System n.number n.message n.taken.outcome in
    entries-one a mid last actor open_yet recorded e (any-room mid.home.cell (with_entry a.home.cell e) n.taken.adds) carried journal [] log
    (came-due (next_front a.home.cell.who a.home.cell.journal) a.home.rest n.number n.message mid.home.rest n.due)

-- ---- the whole run

pub sent-by-run : (gives : ℕ → Moment → Reply → Type 0) (origin : Origin (Box Contents)) (seen : List Observation) (first last : RunState) →
    last.home.cell.who ≡ first.home.cell.who → first.recorded ≡ [] → first.log ≡ [] → IsRunning gives origin [] seen last → BacklogAgrees last →
    SendsForEntries first last →
    IsSentByRun first.home.cell.who first.actor last.home.cell.journal first.home.cell.journal first.home.rest last.log last.recorded
sent-by-run gives origin seen first last who unsent fresh r backlog s =
    let shut : last.status.closed ≡ closed first.home.cell.who last.home.cell.journal =
    ap (λ (m : Mailbox). m.closed) (status-at last r.leads) ∙ ap (λ (w : Identity). closed w last.home.cell.journal) who in
    let sends = s.sends.sends in
    let takes = s.sends.takes in
    record {
      newer = s.newer;
      joined = s.joined;
      parts = sends.parts;
      sent_system_is = sends.recorded ∙ ap (λ l. l ++ flat_map (sent_by_part first.actor) sends.parts) unsent;
      due_is = sends.due_is;
      right = subst (λ b. Each (IsRightPart first.actor b) sends.parts) shut sends.right;
      dropped = s.sends.dropped;
      left = last.home.rest;
      given =
          ap (λ l. first.home.rest ++ given_by l) (takes.log ∙ ap (λ l. takes.steps ++ l) fresh ∙ append-nil takes.steps) ∙ takes.given;
      none_dropped = λ open_yet. takes.none_dropped (shut ∙ open_yet);
      none_left = λ ended.
          subst (λ b. MatchBool b (last.home.rest ≡ []) (last.gave ≡ false → HasNoBacklog last.home)) (shut ∙ ended) backlog.rest;
      answered = sends.answered;
    }
