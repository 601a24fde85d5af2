-- What every rule of the cell uses: the state agrees with the journal after an entry more, if the rule changes the state as
-- the entry changes the queries.
use Rattle.std.proofs.Common.{◌≡◌, ℕ, ℤ, ◌≤◌, List, [], ◌∷◌, length, Bool, true, false, refl, ap, sym, ◌∙◌, subst}
use Rattle.std.specs.Prelude.{not, ◌&&◌, if◌then◌else◌, Option, Some, None}
use Rattle.mb_msg.specs.declared.id.ActorId.{ActorId}
use Rattle.mb_msg.specs.declared.system.SysMsg.{SysMsg}
use Rattle.mb_actor.specs.Behaviour.{Moment, Reply}
use Rattle.mb_actor.specs.OutboxView.{OutboxView}
use Rattle.mb_actor.specs.declared.call.Call.{Call}
use Rattle.mb_actor.specs.declared.call.Call.TheVariants.{Start, Restart, Stop}
use Rattle.mb_actor.specs.declared.phase.Phase.{Phase}
use Rattle.mb_actor.specs.declared.phase.Phase.TheVariants.{Fresh, Ended}
use Rattle.mb_journal.specs.Acts.{Act, acts}
use Rattle.mb_journal.specs.Aside.{aside, sets_aside}
use Rattle.mb_journal.specs.Entry.{Entry, Outcome}
use Rattle.mb_journal.specs.Entry.Entry.{System}
use Rattle.mb_journal.specs.Entry.Outcome.{Applied}
use Rattle.mb_journal.specs.declared.failed_by.FailedBy.TheVariants.{Nobody}
use Rattle.mb_journal.specs.Identity.{Identity, is_guardian}
use Rattle.mb_journal.specs.Lawful.{IsLawfulEntry, IsGiven, IsNumbered, call_of, restart_cause, was_live}
use Rattle.mb_journal.specs.Life.{closed}
use Rattle.mb_journal.specs.Phase.{phase_is}
use Rattle.mb_journal.specs.Suspension.{count}
use Rattle.mb_journal.proofs.Fold.{Queries, queries, next_queries, queries-fold}
use Rattle.mb_journal.proofs.LawfulLemmas.{lawful-more}
use Rattle.mb_journal.proofs.Steps.{Tests, tests_of}
use Rattle.mb_journal.proofs.TestLemmas.{if_same}
use Rattle.mb_cell.specs.Agrees.{Agrees, cell_state_at}
use Rattle.mb_supervision.specs.CellStateRecord.{CellState}
use Rattle.mb_supervision.specs.RetryCounts.{retry_count_of}
use Rattle.mb_journal.specs.Retries.{counted_from, times_in}

-- how often each child stands in these requests, where there is a limit above 0, else 0
abbrev pub counts_of : ℤ → List ActorId → ActorId → ℕ
counts_of limit asked = λ y. counted_from limit (times_in asked y)

-- the state that these queries say
abbrev pub cell_state_of : Queries → List (ActorId × ℕ) → List Act → ℕ → Bool → CellState
cell_state_of q retries acts fanout is_ready = record {
  phase = q.phase;
  count = if phase_is q.phase Ended then 0 else q.marked;
  failed = q.failed;
  children = q.children;
  watchers = q.watchers;
  watching = q.watching;
  due = q.due;
  aside = if phase_is q.phase Ended then [] else q.aside;
  was_live = q.was_live;
  retries = retries;
  acts = acts;
  fanout = fanout;
  is_ready = is_ready;
}

-- the same of an actor that has not ended
abbrev pub open_cell_state : Queries → List (ActorId × ℕ) → List Act → ℕ → Bool → CellState
open_cell_state q retries acts fanout is_ready = record (cell_state_of q retries acts fanout is_ready) { count = q.marked; aside = q.aside }

pub cell_state-at : (who : Identity) (journal : List Entry) (r : List (ActorId × ℕ)) (a : List Act) (f : ℕ) (rd : Bool) →
    cell_state_at who journal r a f rd ≡ cell_state_of (queries who journal) r a f rd
unfolding count aside
cell_state-at who journal r a f rd = refl

pub cell_state-open : (q : Queries) (r : List (ActorId × ℕ)) (a : List Act) (f : ℕ) (rd : Bool) → phase_is q.phase Ended ≡ false →
    cell_state_of q r a f rd ≡ open_cell_state q r a f rd
cell_state-open q r a f rd not_ended =
    λ i. record (cell_state_of q r a f rd) { count = if not_ended i then 0 else q.marked; aside = if not_ended i then [] else q.aside }

-- an actor that was not started knows nobody
pub record IsBlank (q : Queries) : Type 0 where
  pub no_children : q.children ≡ []
  pub none_watched : q.watching ≡ []
  pub none_due : q.due ≡ []
  pub not_failed : q.failed ≡ Nobody

module _ (who : Identity) (before : List Entry) (gives : Moment → Reply → Type 0) (cell_state : CellState) (tray : OutboxView)
    (kept : Agrees who before gives cell_state tray) where
  -- the state before the entry
  pub booked : cell_state ≡ cell_state_of (queries who before) cell_state.retries cell_state.acts cell_state.fanout cell_state.is_ready
  booked = kept.booked ∙ cell_state-at who before cell_state.retries cell_state.acts cell_state.fanout cell_state.is_ready

  pub booked-open : closed who before ≡ false →
      cell_state ≡ open_cell_state (queries who before) cell_state.retries cell_state.acts cell_state.fanout cell_state.is_ready
  booked-open not_ended = booked ∙ cell_state-open (queries who before) _ _ _ _ not_ended

  pub agrees-more : (e : Entry) (q : Queries) (r : List (ActorId × ℕ)) (a : List Act) (rd : Bool) (new : CellState) (new_tray : OutboxView) →
      IsLawfulEntry who gives before e → length (e ∷ before) ≤ who.limit → next_queries who (queries who before) e ≡ q →
      new ≡ cell_state_of q r a cell_state.fanout rd →
      new_tray ≡ record { effects = []; actors = who.actors; unspawned = q.unspawned } → (q.phase ≡ Fresh → IsBlank q) →
      ((y : ActorId) → retry_count_of r y ≡ counts_of who.retries q.requests y) → Agrees who (e ∷ before) gives new new_tray
  agrees-more e q r a rd new new_tray lawful within step is tray_is blank counted =
      let all : queries who (e ∷ before) ≡ q = queries-fold who before e ∙ step in
      record {
        lawful = lawful-more who gives before e kept.lawful lawful within;
        booked =
            is
            ∙ ((λ i. cell_state_of (sym all i) (ap (λ (b : CellState). b.retries) (sym is) i) (ap (λ (b : CellState). b.acts) (sym is) i)
            (ap (λ (b : CellState). b.fanout) (sym is) i) (ap (λ (b : CellState). b.is_ready) (sym is) i))
            ∙ sym (cell_state-at who (e ∷ before) new.retries new.acts new.fanout new.is_ready));
        outbox = tray_is ∙ ap (λ (r : Queries). record { effects = []; actors = who.actors; unspawned = r.unspawned }) (sym all);
        fresh = λ is_fresh.
            let here = blank (ap (λ (r : Queries). r.phase) (sym all) ∙ is_fresh) in
            record {
              no_children = ap (λ (r : Queries). r.children) all ∙ here.no_children;
              none_watched = ap (λ (r : Queries). r.watching) all ∙ here.none_watched;
              none_due = ap (λ (r : Queries). r.due) all ∙ here.none_due;
              not_failed = ap (λ (r : Queries). r.failed) all ∙ here.not_failed;
            };
        small_limit = kept.small_limit;
        few_prepared = kept.few_prepared;
        fanout = ap (λ (b : CellState). b.fanout) is ∙ kept.fanout;
        counted =
            λ y. ap (λ (b : CellState). retry_count_of b.retries y) is ∙ counted y ∙ ap (λ (s : Queries). counts_of who.retries s.requests y) (sym all);
      }

  pub blank-before : (queries who before).phase ≡ Fresh → IsBlank (queries who before)
  blank-before is_fresh =
      let here = kept.fresh is_fresh in
      record {
        no_children = here.no_children;
        none_watched = here.none_watched;
        none_due = here.none_due;
        not_failed = here.not_failed;
      }

-- ---- which call an entry records, by its tests

abbrev pub call_by : Identity → Tests → SysMsg → Bool → Option Call
call_by who t m live =
    if is_guardian who then None
    else (if t.start then Some Start
    else (if t.restart then Some (Restart (restart_cause m))
    else (if t.last && live then Some Stop
    else None)))

pub call-by : (who : Identity) (before : List Entry) (number : ℕ) (m : SysMsg) (outcome : Outcome) (t : Tests) →
    tests_of who (queries who before) (System number m outcome) ≡ t →
    call_of who before (System number m outcome) ≡ call_by who t m (was_live who (System number m outcome ∷ before))
call-by who before number m outcome t tests =
    ap (λ (s : Tests). call_by who s m (was_live who (System number m outcome ∷ before))) tests

-- a message that calls nothing may be taken
pub lawful-silent : (who : Identity) (gives : Moment → Reply → Type 0) (before : List Entry) (number : ℕ) (m : SysMsg) →
    closed who before ≡ false → IsNumbered who before number m → sets_aside who before m ≡ false →
    call_of who before (System number m (Applied None [])) ≡ None → IsLawfulEntry who gives before (System number m (Applied None []))
lawful-silent who gives before number m not_ended numbered applied no_call = (
  record { not_ended = not_ended; numbered = numbered; by_rule = sym (ap not applied) },
  subst (λ (call : Option Call). IsGiven who gives before call None []) (sym no_call) (refl, refl),
)

-- no call is recorded of an entry that is no start, no restart and not the last
pub no_call : (who : Identity) (t : Tests) (m : SysMsg) (live : Bool) → t.start ≡ false → t.restart ≡ false → t.last ≡ false →
    call_by who t m live ≡ None
no_call who t m live a b c =
    (λ i. if is_guardian who then None
    else (if a i then Some Start
    else (if b i then Some (Restart (restart_cause m))
    else (if c i && live then Some Stop
    else None))))
    ∙ if_same (is_guardian who) None

-- an actor that was started is not Fresh
pub not-fresh : (p : Phase) → phase_is p Fresh ≡ false → p ≡ Fresh → ⊥
not-fresh p other is_fresh = let here : phase_is p Fresh ≡ true = ap (λ r. phase_is r Fresh) is_fresh in cc

-- a rule that leaves an actor open, and changes its state so
pub cell_state-after : (q : Queries) (r : List (ActorId × ℕ)) (a : List Act) (f : ℕ) (rd : Bool) (new : CellState) → phase_is q.phase Ended ≡ false →
    new ≡ open_cell_state q r a f rd → new ≡ cell_state_of q r a f rd
cell_state-after q r a f rd new not_ended is = is ∙ sym (cell_state-open q r a f rd not_ended)
