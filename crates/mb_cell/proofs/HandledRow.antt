-- An envelope that is handled.
use Rattle.std.proofs.Common.{◌≡◌, ℕ, ◌+◌, List, [], ◌++◌, Bool, true, false, refl, ap, sym, ◌∙◌, subst}
use Rattle.std.specs.Prelude.{not, ◌&&◌, if◌then◌else◌, is_some, filter, Option, Some, None}
use Rattle.std.proofs.lemmas.List.{append-nil}
use Rattle.mb_msg.specs.declared.envelope.Body.{Body}
use Rattle.mb_msg.specs.declared.envelope.Body.TheVariants as body
use Rattle.mb_msg.specs.declared.envelope.Envelope.{Envelope}
use Rattle.mb_msg.specs.declared.id.ActorId.{ActorId}
use Rattle.mb_msg.specs.declared.supervision.Cause.{Cause}
use Rattle.mb_actor.specs.ActorList.{has}
use Rattle.mb_actor.specs.Behaviour.{Moment, Reply}
use Rattle.mb_actor.specs.OutboxView.{OutboxView, spawns_of}
use Rattle.mb_actor.specs.declared.answer.Answer.{Answer}
use Rattle.mb_actor.specs.declared.call.Call.{Call}
use Rattle.mb_actor.specs.declared.call.Call.TheVariants.{Receive}
use Rattle.mb_actor.specs.declared.effect.Effect.{Effect}
use Rattle.mb_actor.specs.declared.message.Message.{Message}
use Rattle.mb_actor.specs.declared.phase.Phase.TheVariants.{Fresh, Live, Ended}
use Rattle.mb_journal.specs.Acts.{Act, acts, envelope_acts, effect_acts, fail_acts, failure_acts}
use Rattle.mb_journal.specs.Entry.{Entry}
use Rattle.mb_journal.specs.Entry.Entry.{Handled}
use Rattle.mb_journal.specs.Entry.Outcome.{Applied}
use Rattle.mb_journal.specs.Failure.{failure_of, is_nobody}
use Rattle.mb_journal.specs.declared.failed_by.FailedBy.{FailedBy}
use Rattle.mb_journal.specs.declared.failed_by.FailedBy.TheVariants.{Nobody, Itself, Child}
use Rattle.mb_journal.specs.Identity.{Identity, is_guardian}
use Rattle.mb_journal.specs.Incarnation.{body_messages}
use Rattle.mb_journal.specs.Lawful.{IsGiven, IsExpected, envelope_call}
use Rattle.mb_journal.specs.Life.{closed, phase}
use Rattle.mb_journal.specs.Phase.{phase_is}
use Rattle.mb_journal.specs.Reading.{IsOpen}
use Rattle.mb_journal.specs.Watching.{watching, watching_after, due_after, after_told}
use Rattle.mb_journal.proofs.EnvelopeSteps.{handled_entry, handled-step, handled_failing-step}
use Rattle.mb_journal.proofs.Fold.{Queries, queries, next_queries}
use Rattle.mb_journal.proofs.TestLemmas.{and-false}
use Rattle.mb_cell.specs.Agrees.{Agrees}
use Rattle.mb_supervision.specs.CellStateRecord.{CellState}
use Rattle.mb_supervision.specs.Rows.{handled, failing_if, with_effects, due_told}
use Rattle.mb_cell.proofs.CallingRow.{IsCallingRow}
use Rattle.mb_cell.proofs.RowLaws.{cell_state_of, open_cell_state, cell_state-after, booked-open}

pub and-true : (b : Bool) → (b && true) ≡ b
and-true true = refl
and-true false = refl

pub both_true : (a b : Bool) → (a && b) ≡ true → (a ≡ true) × (b ≡ true)
both_true true b e = (refl, e)
both_true false b e = cc

pub nobody-is : (by : FailedBy) → is_nobody by ≡ true → by ≡ Nobody
nobody-is Nobody e = refl
nobody-is Itself e = cc
nobody-is (Child x) e = cc

pub told-due : (envelope : Envelope) (reading : ℕ) (a : Option Answer) (effects : List Effect) (list : List ActorId) (b : Body) → envelope.body ≡ b →
    after_told (Handled envelope reading (Applied a effects)) list ≡ due_told b list
told-due envelope reading a effects list (body.User kind value) is =
    ap (λ c. after_told (Handled (record envelope { body = c }) reading (Applied a effects)) list) is
told-due envelope reading a effects list (body.Control kind value) is =
    ap (λ c. after_told (Handled (record envelope { body = c }) reading (Applied a effects)) list) is
told-due envelope reading a effects list body.PoisonPill is =
    ap (λ c. after_told (Handled (record envelope { body = c }) reading (Applied a effects)) list) is
told-due envelope reading a effects list body.Kill is =
    ap (λ c. after_told (Handled (record envelope { body = c }) reading (Applied a effects)) list) is
told-due envelope reading a effects list (body.Terminated x) is =
    ap (λ c. after_told (Handled (record envelope { body = c }) reading (Applied a effects)) list) is

module _ (who : Identity) (q : Queries) (envelope : Envelope) (reading : ℕ) (a : Option Answer) (effects : List Effect) where
  abbrev entry : Entry
  entry = handled_entry who q envelope reading a effects

  -- the queries after it, by whether it is a failure
  abbrev pub handled_by : Bool → Queries
  handled_by fails = record q {
    marked = if fails then q.marked + 1 else q.marked;
    failed = if fails then Itself else q.failed;
    children = q.children ++ spawns_of effects;
    watching = watching_after who.this q.watching effects;
    due = due_after (after_told entry q.due) effects;
    messages = q.messages ++ body_messages envelope.body;
    unspawned = filter (λ x. not (has (spawns_of effects) x)) q.unspawned;
  }

  pub handled-by : is_guardian who ≡ false → (fails : Bool) → (is_nobody q.failed && is_some (failure_of envelope.body a)) ≡ fails →
      next_queries who q entry ≡ handled_by fails
  handled-by an_actor true fails =
      let both = both_true _ _ fails in
      handled_failing-step who q envelope reading a effects an_actor (nobody-is q.failed both.0) both.1
  handled-by an_actor false fails = handled-step who q envelope reading a effects an_actor fails

  abbrev pub handled_after : Queries
  handled_after = handled_by (is_nobody q.failed && is_some (failure_of envelope.body a))

  abbrev pub failure_acts_of : Option Cause → List Act
  failure_acts_of None = []
  failure_acts_of (Some c) = fail_acts who q.failed (q.children ++ spawns_of effects) c []

  abbrev pub handled_acts_of : List Act
  handled_acts_of = effect_acts who.this q.watching effects ++ failure_acts_of (failure_of envelope.body a)

  abbrev begun : List (ActorId × ℕ) → ℕ → CellState
  begun r f = with_effects who effects (record (open_cell_state q r [] f true) { due = due_told envelope.body q.due; is_ready = false })

  by_cause : (c : Option Cause) (r : List (ActorId × ℕ)) (f : ℕ) →
      failing_if who c (begun r f) ≡ record (begun r f) {
        count = if is_nobody q.failed && is_some c then q.marked + 1 else q.marked;
        failed = if is_nobody q.failed && is_some c then Itself else q.failed;
        acts = effect_acts who.this q.watching effects ++ failure_acts_of c;
      }
  by_cause None r f =
      λ i. record (begun r f) {
        count = if sym (and-false (is_nobody q.failed)) i then q.marked + 1 else q.marked;
        failed = if sym (and-false (is_nobody q.failed)) i then Itself else q.failed;
        acts = sym (append-nil (effect_acts who.this q.watching effects)) i;
      }
  by_cause (Some c) r f =
      λ i. record (begun r f) {
        count = if sym (and-true (is_nobody q.failed)) i then q.marked + 1 else q.marked;
        failed = if sym (and-true (is_nobody q.failed)) i then Itself else q.failed;
        acts = effect_acts who.this q.watching effects ++ failure_acts_of (Some c);
      }

  pub handled-booked : (r : List (ActorId × ℕ)) (f : ℕ) (rd : Bool) (new : CellState) → phase_is q.phase Ended ≡ false →
      new ≡ handled who envelope.body a effects (open_cell_state q r [] f rd) → new ≡ cell_state_of handled_after r handled_acts_of f false
  handled-booked r f rd new not_ended is =
      cell_state-after handled_after r handled_acts_of f false new not_ended
      (is ∙ by_cause (failure_of envelope.body a) r f
      ∙ ap (λ (list : List ActorId). record (open_cell_state handled_after r handled_acts_of f false) { due = due_after list effects })
      (sym (told-due envelope reading a effects q.due envelope.body refl)))

-- an envelope but a poison pill has the acts of its effects and of its failure
body_acts : (who : Identity) (before : List Entry) (b : Body) (a : Option Answer) (effects : List Effect) → (b ≡ body.PoisonPill → ⊥) →
    envelope_acts who before b a effects
    ≡ effect_acts who.this (watching who before) effects ++ failure_acts who before (failure_of b a) effects
body_acts who before (body.User kind value) a effects other = refl
body_acts who before (body.Control kind value) a effects other = refl
body_acts who before body.PoisonPill a effects other = absurd (other refl)
body_acts who before body.Kill a effects other = refl
body_acts who before (body.Terminated x) a effects other = refl

same_failure : (who : Identity) (before : List Entry) (envelope : Envelope) (reading : ℕ) (a : Option Answer) (effects : List Effect)
    (c : Option Cause) →
    failure_acts who before c effects ≡ failure_acts_of who (queries who before) envelope reading a effects c
same_failure who before envelope reading a effects None = refl
same_failure who before envelope reading a effects (Some c) = refl

not_poison : (b : Body) (m : Message) → envelope_call b ≡ Some (Receive m) → b ≡ body.PoisonPill → ⊥
not_poison b m calls is =
    let none : envelope_call b ≡ None = ap envelope_call is in
    let both : None ≡ Some (Receive m) = sym none ∙ calls in
    cc

-- the rule, of a cell
module _ (who : Identity) (before : List Entry) (gives : Moment → Reply → Type 0) (cell_state : CellState) (tray : OutboxView)
    (kept : Agrees who before gives cell_state tray) (done : cell_state.acts ≡ []) (envelope : Envelope) (reading : ℕ) (an_actor : is_guardian who ≡ false)
    (addressed : envelope.to ≡ who.this) (live : phase who before ≡ Live) (open_reading : IsOpen who before reading) where
  pub not_ended : closed who before ≡ false
  not_ended = ap (λ p. phase_is p Ended) live

  pub as_before : cell_state ≡ open_cell_state (queries who before) cell_state.retries [] cell_state.fanout cell_state.is_ready
  as_before =
      booked-open who before gives cell_state tray kept not_ended
      ∙ ap (λ (a : List Act). open_cell_state (queries who before) cell_state.retries a cell_state.fanout cell_state.is_ready) done

  pub acted : (a : Option Answer) (effects : List Effect) → (envelope.body ≡ body.PoisonPill → ⊥) →
      acts who before (handled_entry who (queries who before) envelope reading a effects)
      ≡ handled_acts_of who (queries who before) envelope reading a effects
  unfolding acts
  acted a effects other =
      body_acts who before envelope.body a effects other
      ∙ ap (λ more. effect_acts who.this (watching who before) effects ++ more)
      (same_failure who before envelope reading a effects (failure_of envelope.body a))

  pub receive-row : (message : Message) (a : Answer) (effects : List Effect) → envelope_call envelope.body ≡ Some (Receive message) →
      IsExpected who before envelope.body → (new : CellState) → new ≡ handled who envelope.body (Some a) effects cell_state →
      IsCallingRow who gives before (handled_entry who (queries who before) envelope reading (Some a) effects) (Receive message) (Some a) effects
      cell_state new (handled_after who (queries who before) envelope reading (Some a) effects)
  receive-row message a effects calls expected new is = record {
    calls_it = calls;
    answered = refl;
    lawful = λ given. record {
      an_actor = an_actor;
      addressed = addressed;
      live = live;
      open_reading = open_reading;
      expected = expected;
      given = subst (λ (c : Option Call). IsGiven who gives before c (Some a) effects) (sym calls) given;
    };
    step = handled-by who (queries who before) envelope reading (Some a) effects an_actor _ refl;
    retries = cell_state.retries;
    counted = kept.counted;
    acts_of_it = handled_acts_of who (queries who before) envelope reading (Some a) effects;
    booked =
        handled-booked who (queries who before) envelope reading (Some a) effects cell_state.retries cell_state.fanout cell_state.is_ready new not_ended
        (is ∙ ap (handled who envelope.body (Some a) effects) as_before);
    acted = acted (Some a) effects (not_poison envelope.body message calls);
    blank = λ e. let both : Live ≡ Fresh = sym live ∙ e in cc;
  }
