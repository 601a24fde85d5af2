-- An envelope without a call of the actor: from what its rule does to the cell's state to what the cell guarantees.
use Rattle.std.proofs.Common.{◌≡◌, ℕ, ◌≤◌, ℤ, List, [], ◌∷◌, ◌++◌, length, false, ap, sym, ◌∙◌}
use Rattle.std.specs.Prelude.{Option, None}
use Rattle.mb_msg.specs.declared.envelope.Envelope.{Envelope}
use Rattle.mb_msg.specs.declared.id.ActorId.{ActorId}
use Rattle.mb_actor.specs.Behaviour.{Moment, Reply}
use Rattle.mb_actor.specs.OutboxView.{OutboxView}
use Rattle.mb_actor.specs.declared.call.Call.{Call}
use Rattle.mb_actor.specs.declared.message.Message.{Message}
use Rattle.mb_actor.specs.declared.phase.Phase.TheVariants.{Fresh}
use Rattle.mb_journal.specs.Acts.{Act, acts}
use Rattle.mb_journal.specs.Entry.{Entry}
use Rattle.mb_journal.specs.Identity.{Identity}
use Rattle.mb_journal.specs.Lawful.{IsLawfulEntry, call_of}
use Rattle.mb_journal.specs.JournalView.{JournalView}
use Rattle.mb_journal.proofs.Fold.{Queries, queries, next_queries, queries-fold}
use Rattle.mb_cell.specs.Agrees.{Agrees}
use Rattle.mb_supervision.specs.CellStateRecord.{CellState}
use Rattle.mb_supervision.specs.RetryCounts.{retry_count_of}
use Rattle.mb_supervision.specs.ActorIdentity.{identity_of}
use Rattle.mb_cell.specs.CellView.{CellView, IsOf, TakesEnvelope}
use Rattle.mb_supervision.specs.declared.identity.ActorIdentity.{ActorIdentity}
use Rattle.mb_cell.specs.Unsent.{unsent_acts}
use Rattle.mb_cell.proofs.CellLaws.{Kept, longer, is-longer, kept-silent, taken-envelope, length-added}
use Rattle.mb_cell.proofs.UnsentLaws.{nothing-unsent, other-acts}
use Rattle.mb_cell.proofs.RowLaws.{counts_of, IsBlank, cell_state_of, agrees-more}

-- what the rule of such an envelope has to show
pub record IsQuietEnvelope (who : Identity) (gives : Moment → Reply → Type 0) (before : List Entry) (e : Entry) (cell_state new : CellState) : Type 0 where
  pub calls_nothing : call_of who before e ≡ None
  pub lawful : IsLawfulEntry who gives before e
  pub after : Queries
  pub step : next_queries who (queries who before) e ≡ after
  pub same_unspawned : after.unspawned ≡ (queries who before).unspawned
  pub same_messages : after.messages ≡ (queries who before).messages
  pub retries : List (ActorId × ℕ)
  pub counted : (y : ActorId) → retry_count_of retries y ≡ counts_of who.retries after.requests y
  pub acts_of_it : List Act
  pub booked : new ≡ cell_state_of after retries acts_of_it cell_state.fanout false
  pub acted : acts who before e ≡ acts_of_it
  pub blank : after.phase ≡ Fresh → IsBlank after

module _ {A : Type 0} (place : ActorIdentity) (old new : JournalView) (e : Entry) (envelope : Envelope) (reading : ℕ) (after : List Message → ℤ)
    (gives : Moment → Reply → Type 0) (cell_state new_cell_state : CellState) (tray : OutboxView) (unsent : ℕ) (actor : Option A) (own_after : A → List Message → ℤ)
    (own_gives : A → Moment → Reply → Type 0) (content : A → ℤ) (made : A → List Call) (now : CellView)
    (added : new ≡ longer old e) (within : length new.entries ≤ new.limit)
    (kept : Kept place old after gives cell_state tray unsent actor own_after own_gives content made)
    (view_is : (let seen : CellView = record { who = identity_of place old.limit old.retention; journal = old.entries; acts = unsent_acts unsent old.entries ++ cell_state.acts; is_ready = old.is_ready } in
    seen ≡ now))
    (carried_out : now.acts ≡ []) (of_it : IsOf envelope reading e) (row : IsQuietEnvelope (identity_of place old.limit old.retention) gives old.entries e cell_state new_cell_state) where
  abbrev who : Identity
  who = identity_of place old.limit old.retention

  none : unsent ≡ 0
  none = nothing-unsent unsent old.entries cell_state.acts kept.3 (ap (λ (s : CellView). s.acts) view_is ∙ carried_out)

  agrees : Agrees who (e ∷ old.entries) gives new_cell_state tray
  agrees =
      agrees-more who old.entries gives cell_state tray kept.0 e row.after row.retries row.acts_of_it false new_cell_state tray row.lawful
      (length-added old new e added within) row.step row.booked
      (kept.0.outbox ∙ ap (λ u. record { effects = []; actors = who.actors; unspawned = u }) (sym row.same_unspawned))
      row.blank row.counted

  pub keeps : Kept place new after gives new_cell_state tray unsent actor own_after own_gives content made
  keeps =
      kept-silent place old new e after gives cell_state new_cell_state tray tray unsent actor own_after own_gives content made added agrees row.calls_nothing
      (λ an_actor. ap (λ (q : Queries). q.messages) (queries-fold who old.entries e ∙ row.step) ∙ row.same_messages) kept none

  pub takes : TakesEnvelope now
      (record { who = identity_of place new.limit new.retention; journal = new.entries; acts = unsent_acts unsent new.entries ++ new_cell_state.acts; is_ready = new.is_ready }) envelope reading
  takes =
      taken-envelope place old new e envelope reading (unsent_acts unsent old.entries ++ cell_state.acts)
      (unsent_acts unsent new.entries ++ new_cell_state.acts) now of_it (is-longer old new e added) view_is
      (other-acts unsent new.entries _ _ none (ap (λ (b : CellState). b.acts) row.booked ∙ sym row.acted))
