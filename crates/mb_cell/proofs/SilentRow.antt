-- A system message without a call of the actor: from what its rule does to the cell's state to what the cell guarantees.
use Rattle.std.proofs.Common.{◌≡◌, ℕ, ◌≤◌, ℤ, List, [], ◌∷◌, ◌++◌, length, false, ap, sym, ◌∙◌, subst}
use Rattle.std.specs.Prelude.{Option, None}
use Rattle.mb_msg.specs.declared.id.ActorId.{ActorId}
use Rattle.mb_msg.specs.declared.system.SysMsg.{SysMsg}
use Rattle.mb_actor.specs.Behaviour.{Moment, Reply}
use Rattle.mb_actor.specs.OutboxView.{OutboxView}
use Rattle.mb_actor.specs.declared.call.Call.{Call}
use Rattle.mb_actor.specs.declared.message.Message.{Message}
use Rattle.mb_actor.specs.declared.phase.Phase.TheVariants.{Fresh}
use Rattle.mb_journal.specs.Acts.{Act, acts}
use Rattle.mb_journal.specs.Aside.{sets_aside}
use Rattle.mb_journal.specs.Entry.{Entry}
use Rattle.mb_journal.specs.Entry.Entry.{System}
use Rattle.mb_journal.specs.Entry.Outcome.{Applied}
use Rattle.mb_journal.specs.Identity.{Identity, is_guardian}
use Rattle.mb_journal.specs.Incarnation.{messages}
use Rattle.mb_journal.specs.Lawful.{call_of, was_live}
use Rattle.mb_journal.specs.JournalView.{JournalView}
use Rattle.mb_journal.proofs.Fold.{Queries, queries, next_queries, queries-fold}
use Rattle.mb_journal.proofs.Steps.{Tests, tests_of}
use Rattle.mb_cell.specs.Agrees.{Agrees}
use Rattle.mb_supervision.specs.CellStateRecord.{CellState}
use Rattle.mb_supervision.specs.RetryCounts.{retry_count_of}
use Rattle.mb_supervision.specs.ActorIdentity.{identity_of}
use Rattle.mb_cell.specs.CellView.{CellView, MayTake, TakesSystem}
use Rattle.mb_supervision.specs.declared.identity.ActorIdentity.{ActorIdentity}
use Rattle.mb_cell.specs.Unsent.{unsent_acts}
use Rattle.mb_cell.proofs.CellLaws.{Kept, longer, kept-silent, taken-system, length-added}
use Rattle.mb_cell.proofs.UnsentLaws.{nothing-unsent, other-acts}
use Rattle.mb_cell.proofs.RowLaws.{counts_of, IsBlank, cell_state_of, agrees-more, call-by, no_call, lawful-silent}

-- the entry of a message that calls nothing
abbrev pub silent : ℕ → SysMsg → Entry
silent number m = System number m (Applied None [])

-- an entry that is no start, no restart and not the last records no call
pub silent-call : (who : Identity) (before : List Entry) (number : ℕ) (m : SysMsg) (tests : Tests) →
    tests_of who (queries who before) (silent number m) ≡ tests → tests.start ≡ false → tests.restart ≡ false → tests.last ≡ false →
    call_of who before (silent number m) ≡ None
silent-call who before number m tests tested no_start no_restart not_last =
    call-by who before number m (Applied None []) tests tested
    ∙ no_call who tests m (was_live who (silent number m ∷ before)) no_start no_restart not_last

-- what the rule of such a message has to show: that it records no call, what it makes of the queries, that the new state is
-- theirs, and that its acts are the entry's
pub record IsSilentRow (who : Identity) (before : List Entry) (number : ℕ) (m : SysMsg) (cell_state new : CellState) : Type 0 where
  pub calls_nothing : call_of who before (silent number m) ≡ None
  pub after : Queries
  pub step : next_queries who (queries who before) (silent number m) ≡ after
  pub same_unspawned : after.unspawned ≡ (queries who before).unspawned
  pub same_messages : is_guardian who ≡ false → after.messages ≡ (queries who before).messages
  pub retries : List (ActorId × ℕ)
  pub counted : (y : ActorId) → retry_count_of retries y ≡ counts_of who.retries after.requests y
  pub acts_of_it : List Act
  pub booked : new ≡ cell_state_of after retries acts_of_it cell_state.fanout false
  pub acted : acts who before (silent number m) ≡ acts_of_it
  pub blank : after.phase ≡ Fresh → IsBlank after

module _ {A : Type 0} (place : ActorIdentity) (old new : JournalView) (number : ℕ) (m : SysMsg) (after : List Message → ℤ)
    (gives : Moment → Reply → Type 0) (cell_state new_cell_state : CellState) (tray : OutboxView) (unsent : ℕ) (actor : Option A) (own_after : A → List Message → ℤ)
    (own_gives : A → Moment → Reply → Type 0) (content : A → ℤ) (made : A → List Call) (now : CellView)
    (added : new ≡ longer old (silent number m)) (within : length new.entries ≤ new.limit)
    (kept : Kept place old after gives cell_state tray unsent actor own_after own_gives content made)
    (view_is : (let seen : CellView = record { who = identity_of place old.limit old.retention; journal = old.entries; acts = unsent_acts unsent old.entries ++ cell_state.acts; is_ready = old.is_ready } in
    seen ≡ now))
    (asked : MayTake now number m) (applied : sets_aside now.who now.journal m ≡ false)
    (row : IsSilentRow (identity_of place old.limit old.retention) old.entries number m cell_state new_cell_state) where
  abbrev who : Identity
  who = identity_of place old.limit old.retention

  may_take : MayTake (record { who = identity_of place old.limit old.retention; journal = old.entries; acts = unsent_acts unsent old.entries ++ cell_state.acts; is_ready = old.is_ready }) number m
  may_take = subst (λ (s : CellView). MayTake s number m) (sym view_is) asked

  none : unsent ≡ 0
  none = nothing-unsent unsent old.entries cell_state.acts kept.3 may_take.carried_out

  agrees : Agrees who (silent number m ∷ old.entries) gives new_cell_state tray
  agrees =
      agrees-more who old.entries gives cell_state tray kept.0 (silent number m) row.after row.retries row.acts_of_it false new_cell_state tray
      (lawful-silent who gives old.entries number m may_take.not_ended may_take.numbered
      (subst (λ (s : CellView). sets_aside s.who s.journal m ≡ false) (sym view_is) applied) row.calls_nothing)
      (length-added old new (silent number m) added within) row.step row.booked
      (kept.0.outbox ∙ ap (λ u. record { effects = []; actors = who.actors; unspawned = u }) (sym row.same_unspawned))
      row.blank row.counted

  same_messages : is_guardian who ≡ false → messages who (silent number m ∷ old.entries) ≡ messages who old.entries
  same_messages an_actor =
      ap (λ (q : Queries). q.messages) (queries-fold who old.entries (silent number m) ∙ row.step) ∙ row.same_messages an_actor

  pub keeps : Kept place new after gives new_cell_state tray unsent actor own_after own_gives content made
  keeps =
      kept-silent place old new (silent number m) after gives cell_state new_cell_state tray tray unsent actor own_after own_gives content made added
      agrees row.calls_nothing same_messages kept none

  pub takes : TakesSystem now
      (record { who = identity_of place new.limit new.retention; journal = new.entries; acts = unsent_acts unsent new.entries ++ new_cell_state.acts; is_ready = new.is_ready }) number m
  takes =
      taken-system place old new number m (Applied None []) (unsent_acts unsent old.entries ++ cell_state.acts)
      (unsent_acts unsent new.entries ++ new_cell_state.acts) now added view_is
      (other-acts unsent new.entries _ _ none (ap (λ (b : CellState). b.acts) row.booked ∙ sym row.acted))
