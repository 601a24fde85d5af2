-- `Failed` of a child of an actor that was started.
use Rattle.std.proofs.Common.{◌≡◌, ℕ, ℤ, pos, ◌+◌, List, [], ◌++◌, Bool, true, false, refl, ap, sym, ◌∙◌, cond, arith}
use Rattle.std.specs.Prelude.{negsuc, nat_lt, nat_le, not, ◌&&◌, if◌then◌else◌}
use Rattle.std.specs.List.{list_all}
use Rattle.mb_msg.specs.declared.id.ActorId.{ActorId}
use Rattle.mb_msg.specs.declared.supervision.Cause.{Cause}
use Rattle.mb_msg.specs.declared.supervision.Directive.{Directive}
use Rattle.mb_msg.specs.declared.supervision.Directive.TheVariants as directive
use Rattle.mb_msg.specs.declared.system.SysMsg.TheVariants as system
use Rattle.std.proofs.lemmas.List.{append-nil}
use Rattle.std.proofs.lemmas.List.Sums.{sum_by-append}
use Rattle.mb_actor.specs.ActorList.{has, is_same}
use Rattle.mb_actor.specs.Behaviour.{Moment, Reply}
use Rattle.mb_actor.specs.OutboxView.{OutboxView}
use Rattle.mb_actor.specs.declared.phase.Phase.TheVariants.{Fresh}
use Rattle.mb_journal.specs.Acts.{Act, acts, supervision_acts}
use Rattle.mb_journal.specs.Entry.{Entry}
use Rattle.mb_journal.specs.Failure.{is_nobody, is_escalate}
use Rattle.mb_journal.specs.declared.failed_by.FailedBy.TheVariants.{Child}
use Rattle.mb_journal.specs.Identity.{Identity}
use Rattle.mb_journal.specs.Life.{closed, phase, children}
use Rattle.mb_journal.specs.Phase.{phase_is}
use Rattle.mb_journal.specs.Retries.{carried_out, counted_from, is_given, is_restart_directive, meant_by, permits, through_refusal, times_in}
use Rattle.mb_journal.specs.Supervision.{directive_of}
use Rattle.mb_journal.proofs.FailedSteps.{passed_up, asked_on-none, failed-tests, failed-step, failed_up-step}
use Rattle.mb_journal.proofs.Fold.{Queries, queries, next_queries, asked_on}
use Rattle.mb_journal.proofs.Steps.{none_passed, passed}
use Rattle.mb_journal.proofs.TestLemmas.{and-false, if_true, if_false}
use Rattle.mb_cell.specs.Agrees.{Agrees}
use Rattle.mb_supervision.specs.CellStateRecord.{CellState}
use Rattle.mb_supervision.specs.RetryCounts.{counted_more, retry_count_of}
use Rattle.mb_supervision.specs.Rows.{supervised, supervised_by, given_now, counted_now, carried_out_now, taken}
use Rattle.mb_cell.proofs.HandledRow.{and-true, both_true, nobody-is}
use Rattle.mb_cell.proofs.RowLaws.{counts_of, open_cell_state, cell_state-after, booked-open, not-fresh}
use Rattle.mb_cell.proofs.SilentRow.{IsSilentRow, silent, silent-call}

-- ---- the state says whose restart is permitted

given-counted : (limit : ℤ) (times : ℕ) → permits limit (counted_from limit times + 1) ≡ permits limit (times + 1)
given-counted (negsuc n) times = refl
given-counted (pos n) times = by (nat_lt 0 n)
  where
    by : (b : Bool) → (b && nat_le ((if b then times else 0) + 1) n) ≡ (b && nat_le (times + 1) n)
    by true = refl
    by false = refl

counted-more : (limit : ℤ) (some more : ℕ) → counted_from limit some + counted_from limit more ≡ counted_from limit (some + more)
counted-more (negsuc n) some more = omega arith
counted-more (pos n) some more = by (nat_lt 0 n)
  where
    by : (b : Bool) → (if b then some else 0) + (if b then more else 0) ≡ (if b then some + more else 0)
    by true = refl
    by false = omega arith

-- a decision counts its requests, and any other none
counted-by : (restarts : Bool) (limit : ℤ) (some more : List ActorId) →
    (if restarts then counted_more limit more (counts_of limit some) else counts_of limit some)
    ≡ counts_of limit (some ++ (if restarts then more else []))
counted-by true limit some more =
    λ i y. (counted-more limit (times_in some y) (times_in more y) ∙ ap (counted_from limit) (sym (sum_by-append (λ z. cond (is_same y z) 1 0) some more))) i
counted-by false limit some more = ap (λ l. counts_of limit l) (sym (append-nil some))

-- ---- a failure is escalated if that is decided, whether a restart is permitted or not

same-escalate : (d : Directive) (all : Bool) → is_escalate (if is_restart_directive d && not all then directive.Stop else d) ≡ is_escalate d
same-escalate directive.Resume all = refl
same-escalate directive.Restart true = refl
same-escalate directive.Restart false = refl
same-escalate directive.Stop all = refl
same-escalate directive.Escalate all = refl

escalate-is : (d : Directive) → is_escalate d ≡ true → d ≡ directive.Escalate
escalate-is directive.Resume e = cc
escalate-is directive.Restart e = cc
escalate-is directive.Stop e = cc
escalate-is directive.Escalate e = refl

module _ (who : Identity) (before : List Entry) (gives : Moment → Reply → Type 0) (cell_state : CellState) (tray : OutboxView)
    (kept : Agrees who before gives cell_state tray) (number : ℕ) (not_ended : closed who before ≡ false) (done : cell_state.acts ≡ [])
    (off_fresh : phase_is (phase who before) Fresh ≡ false) (x : ActorId) (c : Cause) (child : has (children who before) x ≡ true) where
  abbrev q : Queries
  q = queries who before

  abbrev e : Entry
  e = silent number (system.Failed x c)

  abbrev done_about : Directive
  done_about = carried_out who before x c

  abbrev up : Bool
  up = is_nobody q.failed && is_escalate done_about

  -- the queries after it, by whether it is escalated
  abbrev after_by : Bool → Queries
  after_by fails = record (passed q e) {
    marked = if fails then q.marked + 1 else q.marked;
    failed = if fails then Child x else q.failed;
    requests = q.requests ++ asked_on who q x c;
  }

  step-by : (fails : Bool) → (is_nobody q.failed && passed_up who q number x c) ≡ fails → next_queries who q e ≡ after_by fails
  step-by false is = failed-step who q number x c is
  step-by true is =
      let both = both_true _ _ is in
      let escalated = escalate-is (directive_of who c) (both_true (has q.children x) _ both.1).1 in
      failed_up-step who q number x c child escalated (nobody-is q.failed both.0)
      ∙ (λ i. record (after_by true) {
        requests = sym (asked_on-none who q number x c (λ j. child j && is_restart_directive (escalated j))) i;
      })

  same_up : (is_nobody q.failed && passed_up who q number x c) ≡ up
  same_up =
      (λ i. is_nobody q.failed && (child i && is_escalate (directive_of who c)))
      ∙ ap (λ b. is_nobody q.failed && b)
      (sym (same-escalate (directive_of who c) (list_all (is_given who q.requests) (meant_by who before x))))

  -- ---- the cell's state

  abbrev given : CellState → ActorId → Bool
  given b = given_now who b

  same_given : given cell_state ≡ is_given who q.requests
  same_given =
      λ i y. (ap (λ n. permits who.retries (n + 1)) (kept.counted y)
      ∙ given-counted who.retries (times_in q.requests y)) i

  abbrev asked_of : List ActorId
  asked_of = asked_on who q x c

  abbrev here : CellState
  here = open_cell_state q cell_state.retries [] cell_state.fanout cell_state.is_ready

  as_before : cell_state ≡ here
  as_before =
      booked-open who before gives cell_state tray kept not_ended
      ∙ ap (λ (a : List Act). open_cell_state q cell_state.retries a cell_state.fanout cell_state.is_ready) done

  same_carried : carried_out_now who here x c ≡ done_about
  same_carried =
      λ i. if is_restart_directive (directive_of who c) && not (list_all (same_given i) (meant_by who before x)) then directive.Stop
      else directive_of who c

  abbrev restarts : Bool
  restarts = is_restart_directive (directive_of who c)

  -- those that the decision asks for
  abbrev asked : List ActorId
  asked = through_refusal (is_given who q.requests) (meant_by who before x)

  counted-after : counted_now who cell_state x c ≡ counts_of who.retries (q.requests ++ asked_of)
  counted-after =
      ap (λ (b : CellState). counted_now who b x c) as_before
      ∙ ((λ i. if restarts then counted_more who.retries (through_refusal (same_given i) (meant_by who before x)) (λ y. kept.counted y i)
      else (λ y. kept.counted y i))
      ∙ (counted-by restarts who.retries q.requests asked
      ∙ (λ i. counts_of who.retries (q.requests ++ (if sym child i && restarts then asked else [])))))

  -- with these counts of requests
  abbrev begun : List (ActorId × ℕ) → CellState
  begun counts = record (taken number here) { retries = counts }

  by_directive : (counts : List (ActorId × ℕ)) (d : Directive) →
      supervised_by who x c d (begun counts) ≡ record (begun counts) {
        count = if is_nobody q.failed && is_escalate d then q.marked + 1 else q.marked;
        failed = if is_nobody q.failed && is_escalate d then Child x else q.failed;
        acts = supervision_acts who before x c d;
      }
  by_directive counts directive.Resume =
      λ i. record (begun counts) {
        count = if sym (and-false (is_nobody q.failed)) i then q.marked + 1 else q.marked;
        failed = if sym (and-false (is_nobody q.failed)) i then Child x else q.failed;
        acts = supervision_acts who before x c directive.Resume;
      }
  by_directive counts directive.Restart =
      λ i. record (begun counts) {
        count = if sym (and-false (is_nobody q.failed)) i then q.marked + 1 else q.marked;
        failed = if sym (and-false (is_nobody q.failed)) i then Child x else q.failed;
        acts = supervision_acts who before x c directive.Restart;
      }
  by_directive counts directive.Stop =
      λ i. record (begun counts) {
        count = if sym (and-false (is_nobody q.failed)) i then q.marked + 1 else q.marked;
        failed = if sym (and-false (is_nobody q.failed)) i then Child x else q.failed;
        acts = supervision_acts who before x c directive.Stop;
      }
  by_directive counts directive.Escalate =
      λ i. record (begun counts) {
        count = if sym (and-true (is_nobody q.failed)) i then q.marked + 1 else q.marked;
        failed = if sym (and-true (is_nobody q.failed)) i then Child x else q.failed;
        acts = supervision_acts who before x c directive.Escalate;
      }

  booked-here : (counts : List (ActorId × ℕ)) → supervised who x c number counts here
      ≡ open_cell_state (after_by up) counts (supervision_acts who before x c done_about) cell_state.fanout false
  booked-here counts =
      ap (λ d. supervised_by who x c d (begun counts)) same_carried
      ∙ by_directive counts done_about

  failed-acts : acts who before e ≡ supervision_acts who before x c done_about
  unfolding acts
  failed-acts = if_false _ _ _ off_fresh ∙ if_true _ _ _ child

  pub failed-row : (new : CellState) → new ≡ supervised who x c number new.retries cell_state →
      ((y : ActorId) → retry_count_of new.retries y ≡ counted_now who cell_state x c y) →
      IsSilentRow who before number (system.Failed x c) cell_state new
  failed-row new is counted = record {
    calls_nothing =
        silent-call who before number (system.Failed x c) (record none_passed { failure = up }) (failed-tests who q number x c up same_up)
        refl refl refl;
    after = after_by up;
    step = step-by up same_up;
    same_unspawned = refl;
    same_messages = λ an_actor. refl;
    retries = new.retries;
    counted = λ y. counted y ∙ ap (λ (f : ActorId → ℕ). f y) counted-after;
    acts_of_it = supervision_acts who before x c done_about;
    booked =
        cell_state-after (after_by up) new.retries (supervision_acts who before x c done_about) cell_state.fanout false new not_ended
        (is ∙ (ap (supervised who x c number new.retries) as_before ∙ booked-here new.retries));
    acted = failed-acts;
    blank = λ fresh. absurd (not-fresh (phase who before) off_fresh fresh);
  }
