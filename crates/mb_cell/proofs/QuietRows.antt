-- `Kill`, `PoisonPill`, and an envelope that is dropped.
use Rattle.std.proofs.Common.{◌≡◌, ℕ, List, [], ◌∷◌, ◌++◌, false, refl, ap, sym, ◌∙◌, subst, arith}
use Rattle.std.specs.Prelude.{◌&&◌, is_some, IsTrue, None}
use Rattle.std.proofs.lemmas.Bool.Decides.{nat_tests}
use Rattle.std.proofs.lemmas.List.{append-nil}
use Rattle.mb_msg.specs.declared.envelope.Body.TheVariants as body
use Rattle.mb_msg.specs.declared.envelope.Envelope.{Envelope}
use Rattle.mb_msg.specs.declared.system.SysMsg.TheVariants as system
use Rattle.mb_status.specs.Mailbox.{mailbox_of, is_valid, should_process}
use Rattle.mb_actor.specs.Behaviour.{Moment, Reply}
use Rattle.mb_actor.specs.OutboxView.{OutboxView}
use Rattle.mb_actor.specs.declared.phase.Phase.TheVariants.{Fresh, Live}
use Rattle.mb_journal.specs.Acts.{acts, envelope_acts}
use Rattle.mb_journal.specs.Acts.Act.{Sys}
use Rattle.mb_journal.specs.Entry.{Entry}
use Rattle.mb_journal.specs.Entry.Entry.{Dropped}
use Rattle.mb_journal.specs.Failure.{failure_of, is_nobody}
use Rattle.mb_journal.specs.Identity.{Identity, is_guardian}
use Rattle.mb_journal.specs.Incarnation.{body_messages}
use Rattle.mb_journal.specs.Lawful.{IsGiven, IsExpected, IsUnexpected, envelope_call}
use Rattle.mb_journal.specs.Life.{phase}
use Rattle.mb_journal.specs.Reading.{IsOpen}
use Rattle.mb_journal.proofs.EnvelopeSteps.{handled_entry, handled-step, dropped-step}
use Rattle.mb_journal.proofs.Fold.{Queries, queries, next_queries}
use Rattle.mb_journal.proofs.TestLemmas.{and-false, none_excepted}
use Rattle.mb_cell.specs.Agrees.{Agrees}
use Rattle.mb_supervision.specs.CellStateRecord.{CellState}
use Rattle.mb_supervision.specs.Rows.{handled, poisoned, discard, due_told}
use Rattle.mb_cell.proofs.HandledRow.{handled_after, handled_acts_of, handled-by, handled-booked, told-due, acted, as_before, not_ended}
use Rattle.mb_cell.proofs.QuietEnvelope.{IsQuietEnvelope}
use Rattle.mb_cell.proofs.RowLaws.{cell_state-after}

unsuspended : (word : ℕ) → IsTrue (is_valid word && should_process (mailbox_of word)) → (mailbox_of word).count ≡ 0
unsuspended word open_word = grind (arith, nat_tests)

module _ (who : Identity) (before : List Entry) (gives : Moment → Reply → Type 0) (cell_state : CellState) (tray : OutboxView)
    (kept : Agrees who before gives cell_state tray) (done : cell_state.acts ≡ []) (envelope : Envelope) (reading : ℕ) (an_actor : is_guardian who ≡ false)
    (addressed : envelope.to ≡ who.this) (live : phase who before ≡ Live) (open_reading : IsOpen who before reading) where
  abbrev q : Queries
  q = queries who before

  not_blank : phase who before ≡ Fresh → ⊥
  not_blank e = let both : Live ≡ Fresh = sym live ∙ e in cc

  -- ---- Kill

  pub kill-row : envelope.body ≡ body.Kill → (new : CellState) → new ≡ handled who envelope.body None [] cell_state →
      IsQuietEnvelope who gives before (handled_entry who q envelope reading None []) cell_state new
  kill-row is_kill new is = record {
    calls_nothing = ap envelope_call is_kill;
    lawful = record {
      an_actor = an_actor;
      addressed = addressed;
      live = live;
      open_reading = open_reading;
      expected = subst (λ b. IsExpected who before b) (sym is_kill) tt;
      given = subst (λ b. IsGiven who gives before (envelope_call b) None []) (sym is_kill) (refl, refl);
    };
    after = handled_after who q envelope reading None [];
    step = handled-by who q envelope reading None [] an_actor _ refl;
    same_unspawned = none_excepted q.unspawned;
    same_messages = ap (λ b. q.messages ++ body_messages b) is_kill ∙ append-nil q.messages;
    retries = cell_state.retries;
    counted = kept.counted;
    acts_of_it = handled_acts_of who q envelope reading None [];
    booked =
        handled-booked who q envelope reading None [] cell_state.retries cell_state.fanout cell_state.is_ready new
        (not_ended who before gives cell_state tray kept done envelope reading an_actor addressed live open_reading)
        (is ∙ ap (handled who envelope.body None [])
        (as_before who before gives cell_state tray kept done envelope reading an_actor addressed live open_reading));
    acted =
        acted who before gives cell_state tray kept done envelope reading an_actor addressed live open_reading None []
        (λ poison. let both : body.Kill ≡ body.PoisonPill = sym is_kill ∙ poison in cc);
    blank = λ e. absurd (not_blank e);
  }

  -- ---- PoisonPill

  poison-step : envelope.body ≡ body.PoisonPill → next_queries who q (handled_entry who q envelope reading None []) ≡ q
  poison-step is_poison =
      handled-step who q envelope reading None [] an_actor
      (ap (λ b. is_nobody q.failed && is_some (failure_of b None)) is_poison ∙ and-false (is_nobody q.failed))
      ∙ (λ i. record q {
        children = append-nil q.children i;
        due = (told-due envelope reading None [] q.due envelope.body refl ∙ ap (λ b. due_told b q.due) is_poison) i;
        messages = (ap (λ b. q.messages ++ body_messages b) is_poison ∙ append-nil q.messages) i;
        unspawned = none_excepted q.unspawned i;
      })

  poison-acts : envelope.body ≡ body.PoisonPill →
      acts who before (handled_entry who q envelope reading None []) ≡ Sys who.this system.Terminate ∷ []
  unfolding acts
  poison-acts is_poison = ap (λ b. envelope_acts who before b None []) is_poison

  pub poison-row : envelope.body ≡ body.PoisonPill → (new : CellState) → new ≡ poisoned who cell_state →
      IsQuietEnvelope who gives before (handled_entry who q envelope reading None []) cell_state new
  poison-row is_poison new is = record {
    calls_nothing = ap envelope_call is_poison;
    lawful = record {
      an_actor = an_actor;
      addressed = addressed;
      live = live;
      open_reading = open_reading;
      expected = subst (λ b. IsExpected who before b) (sym is_poison) tt;
      given = subst (λ b. IsGiven who gives before (envelope_call b) None []) (sym is_poison) (refl, refl);
    };
    after = q;
    step = poison-step is_poison;
    same_unspawned = refl;
    same_messages = refl;
    retries = cell_state.retries;
    counted = kept.counted;
    acts_of_it = Sys who.this system.Terminate ∷ [];
    booked =
        cell_state-after q cell_state.retries (Sys who.this system.Terminate ∷ []) cell_state.fanout false new
        (not_ended who before gives cell_state tray kept done envelope reading an_actor addressed live open_reading)
        (is ∙ ap (poisoned who) (as_before who before gives cell_state tray kept done envelope reading an_actor addressed live open_reading));
    acted = poison-acts is_poison;
    blank = λ e. absurd (not_blank e);
  }

  -- ---- dropped

  drop-acts : acts who before (Dropped envelope) ≡ []
  unfolding acts
  drop-acts = refl

  pub drop-row : IsUnexpected who before envelope.body → (new : CellState) → new ≡ discard cell_state →
      IsQuietEnvelope who gives before (Dropped envelope) cell_state new
  drop-row unexpected new is = record {
    calls_nothing = refl;
    lawful = record {
      an_actor = an_actor;
      addressed = addressed;
      live = live;
      not_suspended = sym open_reading.same_count ∙ unsuspended reading open_reading.open_word;
      unexpected = unexpected;
    };
    after = q;
    step = dropped-step who q envelope;
    same_unspawned = refl;
    same_messages = refl;
    retries = cell_state.retries;
    counted = kept.counted;
    acts_of_it = [];
    booked =
        cell_state-after q cell_state.retries [] cell_state.fanout false new
        (not_ended who before gives cell_state tray kept done envelope reading an_actor addressed live open_reading)
        (is ∙ ap discard (as_before who before gives cell_state tray kept done envelope reading an_actor addressed live open_reading));
    acted = drop-acts;
    blank = λ e. absurd (not_blank e);
  }
