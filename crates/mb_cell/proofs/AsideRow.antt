-- A system message that is set aside: from what it does to the cell's state to what the cell guarantees.
use Rattle.std.proofs.Common.{◌≡◌, ℕ, ◌≤◌, ℤ, List, [], ◌∷◌, ◌++◌, length, true, false, refl, ap, sym, ◌∙◌, subst}
use Rattle.std.specs.Prelude.{not, Option, None}
use Rattle.mb_msg.specs.declared.system.SysMsg.{SysMsg}
use Rattle.mb_actor.specs.Behaviour.{Moment, Reply}
use Rattle.mb_actor.specs.OutboxView.{OutboxView}
use Rattle.mb_actor.specs.declared.call.Call.{Call}
use Rattle.mb_actor.specs.declared.message.Message.{Message}
use Rattle.mb_journal.specs.Acts.{acts}
use Rattle.mb_journal.specs.Aside.{sets_aside}
use Rattle.mb_journal.specs.Entry.{Entry}
use Rattle.mb_journal.specs.Entry.Entry.{System}
use Rattle.mb_journal.specs.Entry.Outcome.{SetAside}
use Rattle.mb_journal.specs.Identity.{Identity}
use Rattle.mb_journal.specs.Incarnation.{messages}
use Rattle.mb_journal.specs.Lawful.{IsLawfulEntry, IsNumbered, call_of, was_live}
use Rattle.mb_journal.specs.Life.{closed}
use Rattle.mb_journal.specs.JournalView.{JournalView}
use Rattle.mb_journal.proofs.Fold.{Queries, queries, queries-fold}
use Rattle.mb_journal.proofs.SetAsideSteps.{set_aside-tests, set_aside-step}
use Rattle.mb_journal.proofs.Steps.{none_passed, passed}
use Rattle.mb_cell.specs.Agrees.{Agrees}
use Rattle.mb_supervision.specs.CellStateRecord.{CellState}
use Rattle.mb_supervision.specs.ActorIdentity.{identity_of}
use Rattle.mb_supervision.specs.Rows.{put_aside}
use Rattle.mb_cell.specs.CellView.{CellView, MayTake, TakesSystem}
use Rattle.mb_supervision.specs.declared.identity.ActorIdentity.{ActorIdentity}
use Rattle.mb_cell.specs.Unsent.{unsent_acts}
use Rattle.mb_cell.proofs.CellLaws.{Kept, longer, kept-silent, taken-system, length-added}
use Rattle.mb_cell.proofs.UnsentLaws.{nothing-unsent, other-acts}
use Rattle.mb_cell.proofs.RowLaws.{agrees-more, blank-before, booked-open, cell_state_of, cell_state-after, call-by, no_call}

-- the entry of a message that is set aside
abbrev pub waiting : ℕ → SysMsg → Entry
waiting number m = System number m SetAside

-- it does nothing
no-acts : (who : Identity) (before : List Entry) (number : ℕ) (m : SysMsg) → acts who before (waiting number m) ≡ []
unfolding acts
no-acts who before number m = refl

calls-nothing : (who : Identity) (before : List Entry) (number : ℕ) (m : SysMsg) → call_of who before (waiting number m) ≡ None
calls-nothing who before number m =
    call-by who before number m SetAside none_passed (set_aside-tests who (queries who before) number m)
    ∙ no_call who none_passed m (was_live who (waiting number m ∷ before)) refl refl refl

lawful-waiting : (who : Identity) (gives : Moment → Reply → Type 0) (before : List Entry) (number : ℕ) (m : SysMsg) →
    closed who before ≡ false → IsNumbered who before number m → sets_aside who before m ≡ true →
    IsLawfulEntry who gives before (waiting number m)
lawful-waiting who gives before number m not_ended numbered waits =
    record { not_ended = not_ended; numbered = numbered; by_rule = sym (ap not waits) }

module _ {A : Type 0} (place : ActorIdentity) (old new : JournalView) (number : ℕ) (m : SysMsg) (after : List Message → ℤ)
    (gives : Moment → Reply → Type 0) (cell_state new_cell_state : CellState) (tray : OutboxView) (unsent : ℕ) (actor : Option A) (own_after : A → List Message → ℤ)
    (own_gives : A → Moment → Reply → Type 0) (content : A → ℤ) (made : A → List Call) (now : CellView)
    (added : new ≡ longer old (waiting number m)) (within : length new.entries ≤ new.limit)
    (kept : Kept place old after gives cell_state tray unsent actor own_after own_gives content made)
    (view_is : (let seen : CellView = record { who = identity_of place old.limit old.retention; journal = old.entries; acts = unsent_acts unsent old.entries ++ cell_state.acts; is_ready = old.is_ready } in
    seen ≡ now))
    (asked : MayTake now number m) (waits : sets_aside now.who now.journal m ≡ true)
    (put : new_cell_state ≡ put_aside number m cell_state) where
  abbrev who : Identity
  who = identity_of place old.limit old.retention

  abbrev q : Queries
  q = queries who old.entries

  may_take : MayTake (record { who = identity_of place old.limit old.retention; journal = old.entries; acts = unsent_acts unsent old.entries ++ cell_state.acts; is_ready = old.is_ready }) number m
  may_take = subst (λ (s : CellView). MayTake s number m) (sym view_is) asked

  none : unsent ≡ 0
  none = nothing-unsent unsent old.entries cell_state.acts kept.3 may_take.carried_out

  booked : new_cell_state ≡ cell_state_of (passed q (waiting number m)) cell_state.retries [] cell_state.fanout false
  booked =
      cell_state-after (passed q (waiting number m)) cell_state.retries [] cell_state.fanout false new_cell_state may_take.not_ended
      (put ∙ ap (put_aside number m) (booked-open who old.entries gives cell_state tray kept.0 may_take.not_ended))

  agrees : Agrees who (waiting number m ∷ old.entries) gives new_cell_state tray
  agrees =
      agrees-more who old.entries gives cell_state tray kept.0 (waiting number m) (passed q (waiting number m)) cell_state.retries [] false new_cell_state tray
      (lawful-waiting who gives old.entries number m may_take.not_ended may_take.numbered
      (subst (λ (s : CellView). sets_aside s.who s.journal m ≡ true) (sym view_is) waits))
      (length-added old new (waiting number m) added within) (set_aside-step who q number m) booked kept.0.outbox
      (λ fresh. let here = blank-before who old.entries gives cell_state tray kept.0 fresh in record {
        no_children = here.no_children;
        none_watched = here.none_watched;
        none_due = here.none_due;
        not_failed = here.not_failed;
      })
      kept.0.counted

  same_messages : messages who (waiting number m ∷ old.entries) ≡ messages who old.entries
  same_messages =
      ap (λ (r : Queries). r.messages) (queries-fold who old.entries (waiting number m) ∙ set_aside-step who q number m)

  pub keeps : Kept place new after gives new_cell_state tray unsent actor own_after own_gives content made
  keeps =
      kept-silent place old new (waiting number m) after gives cell_state new_cell_state tray tray unsent actor own_after own_gives content made added
      agrees (calls-nothing who old.entries number m) (λ an_actor. same_messages) kept none

  pub takes : TakesSystem now
      (record { who = identity_of place new.limit new.retention; journal = new.entries; acts = unsent_acts unsent new.entries ++ new_cell_state.acts; is_ready = new.is_ready }) number m
  takes =
      taken-system place old new number m SetAside (unsent_acts unsent old.entries ++ cell_state.acts)
      (unsent_acts unsent new.entries ++ new_cell_state.acts) now added view_is
      (other-acts unsent new.entries _ _ none (ap (λ (b : CellState). b.acts) booked ∙ sym (no-acts who old.entries number m)))
