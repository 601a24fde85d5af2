-- How a clean-up changes a run, step by step.
use Rattle.std.proofs.Common.{◌≡◌, ◌⊎◌, ℕ, suc, ◌+◌, ◌%◌, ◌^◌, true, List, ◌∷◌, ◌++◌, length, Option, Some, None}
use Rattle.std.proofs.Common.{refl, sym, ap, ◌∙◌, subst, arith}
use Rattle.std.proofs.Math.Nat.{mod-add-mod}
use Rattle.std.specs.Global.{Box}
use Rattle.mb_msg.specs.declared.id.ActorId.{ActorId}
use Rattle.mb_msg.specs.declared.system.SysMsg.{SysMsg}
use Rattle.mb_actor.specs.Behaviour.{Moment, Reply}
use Rattle.mb_journal.specs.Acts.{Act}
use Rattle.mb_journal.specs.Aside.{next_number}
use Rattle.mb_journal.specs.Life.{closed}
use Rattle.mb_cell.specs.CellView.{CellView}
use Rattle.mb_ghost.specs.Summed.{total}
use Rattle.mb_gate.specs.declared.claim.Claim.{Claim}
use Rattle.mb_gate.specs.Accessors.{claim_id, claim_view, held_actor, status_of, taken_with, closed_with, gave_last, given_to, drained_by, recorded_by}
use Rattle.mb_gate.specs.Accessors.{IsRecorded, SameTaken}
use Rattle.mb_gate.specs.SentSystem.{notice}
use Rattle.mb_gate.specs.Untouched.{Origin}
use Rattle.mb_gate.specs.View.{Observation, SentSystem, Took, Ended, counting_off, ending, given_after}
use Rattle.mb_gate.specs.Waiting.{counted_off}
use Rattle.mb_home.specs.AtHome.{given_of, mailbox_at}
use Rattle.mb_home.specs.Contents.{Contents}
use Rattle.mb_home.specs.AgreesWithJournal.{AgreesWithJournal}
use Rattle.mb_mailbox.specs.Loaded.{loaded_words}
use Rattle.mb_mailbox.specs.OnlyDrained.{LoadedOpenLast, WasEnded}
use Rattle.mb_mailbox.specs.Emptied.{TakesOn}
use Rattle.mb_mailbox.specs.RunState.{RunState, run_state}
use Rattle.mb_mailbox.specs.Notice.{IsAnswered}
use Rattle.mb_mailbox.specs.Running.{IsRunning, KeepsJournal, SameRun}
use Rattle.mb_mailbox.proofs.BegunAtLemmas.{cleaned-loaded}
use Rattle.mb_mailbox.proofs.CountLemmas.{counted-still, counted-more, counts-one}
use Rattle.mb_mailbox.proofs.EmptiedLemmas.{takes-same}
use Rattle.mb_mailbox.proofs.RunStateLemmas.{hold-taken, hold-ended, hold-recorded}
use Rattle.mb_mailbox.proofs.LeadLemmas.{leads-closed}
use Rattle.mb_mailbox.proofs.RunningSteps.{running-same, running-dropped_first, running-parting, running-taken, running-ended}
use Rattle.mb_mailbox.proofs.TellingLemmas.{settled-here}

-- ---- how many messages the list gave

-- one that is dropped was among those that were given
pub given-dropped : (h new : Contents) (number : ℕ) (m : SysMsg) → h.rest ≡ (number, m) ∷ new.rest →
    new ≡ record h { rest = new.rest; dropped = (h.dropped + 1) % 2 ^ 64 } → given_of new ≡ given_of h
given-dropped h new number m is same =
    let n = next_number h.cell.journal in
    let d = h.dropped in
    let k = length new.rest in
    ap given_of same
    ∙ ap (λ x. x % 2 ^ 64) (let sum : n + (d + 1) % 2 ^ 64 + k ≡ (d + 1) % 2 ^ 64 + (n + k) = omega arith in sum)
    ∙ mod-add-mod (d + 1) (2 ^ 64) (n + k)
    ∙ ap (λ x. x % 2 ^ 64) (let sum : d + 1 + (n + k) ≡ n + d + suc k = omega arith in sum)
    ∙ ap (λ l. (n + d + l) % 2 ^ 64) (sym (ap (λ (l : List (ℕ × SysMsg)). length l) is))

-- ---- what is at home changed, but neither its cell nor what is dead

module _ (gives : ℕ → Moment → Reply → Type 0) (origin : Origin (Box Contents)) (seen : List Observation) (h : RunState)
    (r : IsRunning gives origin h.home.cell.acts seen h) (new : Contents) (cell : new.cell ≡ h.home.cell) (directory : new.directory ≡ h.home.directory)
    (dead : new.dead ≡ h.home.dead) (settled : AgreesWithJournal (gives new.cell.who.this.0) new.cell.acts new) where
  here : AgreesWithJournal (gives h.actor) h.home.cell.acts new
  here = settled-here gives h.actor h.home new r.number cell settled

  pub running-within : new.rest ≡ h.home.rest → IsRunning gives origin new.cell.acts seen (record h { home = new })
  running-within rest =
      subst (λ (c : CellView). IsRunning gives origin c.acts seen (record h { home = new })) (sym cell)
      (running-same gives origin seen h h.home.cell.acts new r (ap (λ (c : CellView). c.who) cell) (ap (λ (c : CellView). c.journal) cell) directory dead rest
      here)

  pub running-less : (number : ℕ) (m : SysMsg) → h.home.rest ≡ (number, m) ∷ new.rest →
      IsRunning gives origin new.cell.acts seen (record h { home = new })
  running-less number m is =
      subst (λ (c : CellView). IsRunning gives origin c.acts seen (record h { home = new })) (sym cell)
      (running-dropped_first gives origin seen h h.home.cell.acts new number m r cell directory dead is here)

-- the actor has ended by its journal too
pub ended-closed : (gives : ℕ → Moment → Reply → Type 0) (origin : Origin (Box Contents)) (seen : List Observation) (h : RunState) (pending : List Act) →
    h.status.closed ≡ true → IsRunning gives origin pending seen h → closed h.home.cell.who h.home.cell.journal ≡ true
ended-closed gives origin seen h pending shut r =
    leads-closed h.status (mailbox_at h.home.cell.who h.home.cell.journal) pending shut r.leads

-- ---- who waits was told

module _ (ended : ℕ) (c new : Claim (Box Contents)) where
  pub status-answered : (asked : Option ActorId) → IsAnswered asked ended c new → status_of new ≡ status_of c
  status-answered None same = ap (λ (x : Claim (Box Contents)). status_of x) same
  status-answered (Some whom) n = n.recorded.status

  pub known-answered : (asked : Option ActorId) → IsAnswered asked ended c new → claim_view new ≡ claim_view c
  known-answered None same = ap (λ (x : Claim (Box Contents)). claim_view x) same
  known-answered (Some whom) n = n.recorded.known

  pub actor-answered : (asked : Option ActorId) → IsAnswered asked ended c new → held_actor new ≡ held_actor c
  actor-answered None same = ap (λ (x : Claim (Box Contents)). held_actor x) same
  actor-answered (Some whom) n = n.recorded.actor

  module _ (gives : ℕ → Moment → Reply → Type 0) (origin : Origin (Box Contents)) (seen : List Observation) where
    pub running-departed : (asked : Option ActorId) → IsAnswered asked ended c new → ended ≡ held_actor c → (status_of c).closed ≡ true →
        IsRunning gives origin c.home.value.cell.acts seen (run_state c) → IsRunning gives origin new.home.value.cell.acts seen (run_state new)
    running-departed None same here shut r =
        subst (λ (x : Claim (Box Contents)). IsRunning gives origin x.home.value.cell.acts seen (run_state x)) (sym same) r
    running-departed (Some whom) n here shut r =
        let note : SentSystem = record { to = whom.0; message = notice (held_actor c); was_ended = n.was_ended } in
        let sent_system : IsRecorded c new note =
        subst (λ k. IsRecorded c new (record { to = whom.0; message = notice k; was_ended = n.was_ended })) here n.recorded in
        subst (λ (x : RunState). IsRunning gives origin x.home.cell.acts seen x) (sym (hold-recorded c new note sent_system))
        (running-parting gives origin seen (run_state c) c.home.value.cell.acts whom.0 n.was_ended shut r)

-- ---- an envelope was counted as taken

module _ (c new : Claim (Box Contents)) (ours : (claim_id new ≡ claim_id c) × (held_actor new ≡ held_actor c)) (home : new.home ≡ c.home)
    (status : status_of new ≡ status_of c) (known : claim_view new ≡ counting_off (held_actor c) 1 (claim_view c)) (taken : SameTaken c new) where
  pub hold-one : run_state new ≡ record (run_state c) { log = Took (held_actor c) 1 ∷ (claim_view c).log }
  hold-one = hold-taken c new ours home (held_actor c) 1 status known taken

  -- it came out of the queue just before
  module _ (before : Contents) (who : c.home.value.cell.who ≡ before.cell.who)
      (more : length c.home.value.take.taken ≡ length before.take.taken + 1) (takes : TakesOn before.take c.home.value.take) where
    pub same-taken : SameRun (record (run_state c) { home = before }) (run_state new)
    same-taken =
        subst (SameRun (record (run_state c) { home = before })) (sym hold-one)
        (record {
          actor = refl;
          who = who;
          before = refl;
          takes = takes;
          counted = counted-more _ _ (total (counted_off (held_actor c)) (claim_view c).log) _ more (counts-one (held_actor c));
        })

    pub keeps-taken : WasEnded (held_actor c) (claim_view c).log → c.home.value.cell.journal ≡ before.cell.journal →
        KeepsJournal (record (run_state c) { home = before }) (run_state new)
    keeps-taken ended journal = record {
      same = same-taken;
      journal = ap (λ (x : RunState). x.home.cell.journal) hold-one ∙ journal;
      loaded = ap (λ (x : RunState). loaded_words x.log) hold-one ∙ cleaned-loaded (held_actor c) (held_actor c) 1 (claim_view c).log ended;
    }

  pub ended-taken : WasEnded (held_actor c) (claim_view c).log → WasEnded (held_actor new) (claim_view new).log
  ended-taken w = subst (λ (x : RunState). WasEnded x.actor x.log) (sym hold-one) w

  pub running-counted : (gives : ℕ → Moment → Reply → Type 0) (origin : Origin (Box Contents)) (seen : List Observation) →
      LoadedOpenLast (held_actor c) (claim_view c).log ⊎ WasEnded (held_actor c) (claim_view c).log →
      IsRunning gives origin c.home.value.cell.acts seen (run_state c) → IsRunning gives origin new.home.value.cell.acts seen (run_state new)
  running-counted gives origin seen when r =
      subst (λ (x : RunState). IsRunning gives origin x.home.cell.acts seen x) (sym hold-one)
      (running-taken gives origin seen (run_state c) c.home.value.cell.acts 1 when r)

-- ---- the list was ended

module _ (c new : Claim (Box Contents)) (ours : (claim_id new ≡ claim_id c) × (held_actor new ≡ held_actor c))
    (same : (status_of new ≡ status_of c) × (new.home ≡ c.home)) (taken : (taken_with new ≡ taken_with c) × (closed_with new ≡ closed_with c))
    (recorded : recorded_by new ≡ recorded_by c) (result : List (ℕ × SysMsg)) (given : given_to new ≡ given_after (given_to c) result)
    (known : claim_view new ≡ ending (held_actor c) result (gave_last c) (claim_view c)) (gave : gave_last new ≡ gave_last c)
    (drained : drained_by new ≡ drained_by c ++ result) where
  hold-end : run_state new ≡ record (run_state c) {
    given = given_after (given_to c) result;
    drained = drained_by c ++ result;
    log = Ended (held_actor c) result ∷ (claim_view c).log;
  }
  hold-end = hold-ended c new ours same.1 same.0 taken recorded result given drained (held_actor c) (gave_last c) known gave

  pub keeps-ended : KeepsJournal (run_state c) (run_state new)
  keeps-ended =
      subst (KeepsJournal (run_state c)) (sym hold-end)
      (record {
        same = record {
          actor = refl;
          who = refl;
          before = refl;
          takes = takes-same _ _ refl;
          counted = counted-still _ _ (total (counted_off (held_actor c)) (claim_view c).log) refl;
        };
        journal = refl;
        loaded = refl;
      })

  pub was-ended : WasEnded (held_actor new) (claim_view new).log
  was-ended =
      subst (λ (x : RunState). WasEnded x.actor x.log) (sym hold-end) refl

  pub running-end : (gives : ℕ → Moment → Reply → Type 0) (origin : Origin (Box Contents)) (seen : List Observation) →
      IsRunning gives origin c.home.value.cell.acts seen (run_state c) → IsRunning gives origin new.home.value.cell.acts seen (run_state new)
  running-end gives origin seen r =
      subst (λ (x : RunState). IsRunning gives origin x.home.cell.acts seen x) (sym hold-end)
      (running-ended gives origin seen (run_state c) c.home.value.cell.acts (given_after (given_to c) result) result r)
