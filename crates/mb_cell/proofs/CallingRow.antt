-- An entry of a call of the actor: from what its rule does to the cell's state to the cell's invariant.
use Rattle.std.proofs.Common.{◌≡◌, ℕ, ◌≤◌, ℤ, List, [], ◌∷◌, length, true, false, ap, sym, ◌∙◌, subst}
use Rattle.std.specs.Prelude.{Option, Some, filter, not}
use Rattle.mb_msg.specs.declared.id.ActorId.{ActorId}
use Rattle.mb_actor.specs.ActorList.{has}
use Rattle.mb_actor.specs.Behaviour.{Moment, Reply, IsAllowed, Keeps}
use Rattle.mb_actor.specs.Held.{CanHold}
use Rattle.mb_actor.specs.OutboxView.{OutboxView, settled, spawns_of}
use Rattle.mb_actor.specs.declared.answer.Answer.{Answer}
use Rattle.mb_actor.specs.declared.call.Call.{Call}
use Rattle.mb_actor.specs.declared.effect.Effect.{Effect}
use Rattle.mb_actor.specs.declared.message.Message.{Message}
use Rattle.mb_actor.specs.declared.phase.Phase.TheVariants.{Fresh}
use Rattle.mb_journal.specs.Acts.{Act, acts}
use Rattle.mb_journal.specs.Entry.{Entry}
use Rattle.mb_journal.specs.Identity.{Identity}
use Rattle.mb_journal.specs.Incarnation.{messages}
use Rattle.mb_journal.specs.Lawful.{IsLawfulEntry, IsGivenBy, IsAnswered, call_of, unspawned, moment}
use Rattle.mb_journal.specs.JournalView.{JournalView}
use Rattle.mb_journal.proofs.Fold.{Queries, queries, next_queries, queries-fold}
use Rattle.mb_journal.proofs.LawfulLemmas.{calls-called}
use Rattle.mb_cell.specs.Agrees.{Agrees, FollowsBehaviour}
use Rattle.mb_supervision.specs.CellStateRecord.{CellState}
use Rattle.mb_supervision.specs.RetryCounts.{retry_count_of}
use Rattle.mb_supervision.specs.ActorIdentity.{identity_of}
use Rattle.mb_supervision.specs.declared.identity.ActorIdentity.{ActorIdentity}
use Rattle.mb_cell.proofs.CellLaws.{longer, length-added, kept-called}
use Rattle.mb_cell.proofs.RowLaws.{counts_of, IsBlank, cell_state_of, agrees-more}

-- what the rule of such an entry has to show: which call it is; that the entry may come if what was given may be; what it
-- makes of the queries, that the new state is theirs, and that its acts are the entry's
pub record IsCallingRow (who : Identity) (gives : Moment → Reply → Type 0) (before : List Entry) (e : Entry) (call : Call) (a : Option Answer)
    (effects : List Effect) (cell_state new : CellState) (after : Queries) : Type 0 where
  pub calls_it : call_of who before e ≡ Some call
  pub answered : IsAnswered call a
  pub lawful : IsGivenBy who gives before call a effects → IsLawfulEntry who gives before e
  pub step : next_queries who (queries who before) e ≡ after
  pub retries : List (ActorId × ℕ)
  pub counted : (y : ActorId) → retry_count_of retries y ≡ counts_of who.retries after.requests y
  pub acts_of_it : List Act
  pub booked : new ≡ cell_state_of after retries acts_of_it cell_state.fanout false
  pub acted : acts who before e ≡ acts_of_it
  pub blank : after.phase ≡ Fresh → IsBlank after

-- what came of a call, of the actor with these behaviours before and after it: the outbox that it found and left
pub record IsCalled (call : Call) (a : Option Answer) (effects : List Effect) (tray called : OutboxView)
    (own_after : List Message → ℤ) (own_gives : Moment → Reply → Type 0) (content : ℤ) (made : List Call)
    (new_after : List Message → ℤ) (new_gives : Moment → Reply → Type 0) (new_made : List Call) : Type 0 where
  pub called_once : new_made ≡ call ∷ made
  pub given : IsAllowed content own_after new_gives call a tray called
  pub keeps : Keeps own_after own_gives tray new_after new_gives called
  pub held : CanHold called
  pub same_effects : effects ≡ called.effects

module _ (who : Identity) (before : List Entry) (e : Entry) (after : List Message → ℤ) (gives : Moment → Reply → Type 0) (cell_state new : CellState)
    (tray called : OutboxView) (own_after : List Message → ℤ) (own_gives : Moment → Reply → Type 0) (content : ℤ) (made : List Call)
    (new_after : List Message → ℤ) (new_gives : Moment → Reply → Type 0) (new_made : List Call)
    (call : Call) (a : Option Answer) (effects : List Effect) (within : length (e ∷ before) ≤ who.limit)
    (kept : Agrees who before gives cell_state tray) (plays : FollowsBehaviour who before after gives own_after own_gives content made)
    (came : IsCalled call a effects tray called own_after own_gives content made new_after new_gives new_made)
    (then : Queries) (row : IsCallingRow who gives before e call a effects cell_state new then) where
  -- the outbox that was left is one of this moment
  left : called ≡ record { effects = effects; actors = who.actors; unspawned = unspawned who before }
  left = λ i. record {
    effects = sym came.same_effects i;
    actors = (came.keeps.actors_kept ∙ ap (λ (t : OutboxView). t.actors) kept.outbox) i;
    unspawned = (came.keeps.unspawned_kept ∙ ap (λ (t : OutboxView). t.unspawned) kept.outbox) i;
  }

  -- the content before the call, as the actor's own function has it
  content_before : content ≡ own_after (messages who before)
  content_before = plays.same_content ∙ ap (λ f. f (messages who before)) (sym plays.same_after)

  given_by : IsGivenBy who gives before call a effects
  given_by = record {
    answered = row.answered;
    allowed =
        (plays.same_gives (moment who before call) (record { answer = a; effects = effects })).0
        ((came.keeps.gives_kept (moment who before call) (record { answer = a; effects = effects })).1
        (subst (λ (es : List Effect). new_gives (moment who before call) (record { answer = a; effects = es })) (sym came.same_effects)
        (subst (λ (t : OutboxView). new_gives (record {
          messages = messages who before;
          call = call;
          actors = t.actors;
          unspawned = t.unspawned;
        }) (record { answer = a; effects = called.effects })) kept.outbox (came.given (messages who before) content_before))));
    held = subst (λ (t : OutboxView). CanHold t) left came.held;
  }

  pub calling-agrees : (new_tray : OutboxView) → new_tray ≡ record { effects = []; actors = who.actors; unspawned = then.unspawned } →
      Agrees who (e ∷ before) gives new new_tray
  calling-agrees new_tray tray_is =
      agrees-more who before gives cell_state tray kept e then row.retries row.acts_of_it false new new_tray
      (row.lawful given_by) within row.step row.booked tray_is row.blank row.counted

  -- the outbox whose effects last, made ready for the next call
  pub settled-left : (settled_tray : OutboxView) → settled_tray ≡ settled called →
      settled_tray ≡ record {
        effects = [];
        actors = who.actors;
        unspawned = filter (λ x. not (has (spawns_of effects) x)) (unspawned who before);
      }
  settled-left settled_tray is = is ∙ ap settled left

  -- an outbox whose effects do not last
  pub cleared-left : (cleared : OutboxView) → cleared ≡ record called { effects = [] } →
      cleared ≡ record { effects = []; actors = who.actors; unspawned = unspawned who before }
  cleared-left cleared is = is ∙ ap (λ (t : OutboxView). record t { effects = [] }) left

  pub calling-plays : (new_content : ℤ) → new_content ≡ new_after then.messages →
      FollowsBehaviour who (e ∷ before) after gives new_after new_gives new_content new_made
  calling-plays new_content content_is =
      let same_after : new_after ≡ after = came.keeps.after_kept ∙ plays.same_after in
      record {
        no_guardian = plays.no_guardian;
        same_after = same_after;
        same_gives = λ m r. (
          λ x. (plays.same_gives m r).0 ((came.keeps.gives_kept m r).1 x),
          λ y. (came.keeps.gives_kept m r).0 ((plays.same_gives m r).1 y),
        );
        same_content =
            content_is ∙ (ap (λ f. f then.messages) same_after
            ∙ ap after (sym (ap (λ (q : Queries). q.messages) (queries-fold who before e ∙ row.step))));
        same_calls =
            came.called_once ∙ (ap (λ cs. call ∷ cs) plays.same_calls ∙ sym (calls-called who before e call row.calls_it));
      }

-- what the cell keeps after it
module _ (place : ActorIdentity) (old new : JournalView) (e : Entry) (after : List Message → ℤ) (gives : Moment → Reply → Type 0) (cell_state new_cell_state : CellState)
    (tray called : OutboxView) (own_after : List Message → ℤ) (own_gives : Moment → Reply → Type 0) (content : ℤ) (made : List Call)
    (new_after : List Message → ℤ) (new_gives : Moment → Reply → Type 0) (new_made : List Call) (call : Call) (a : Option Answer)
    (effects : List Effect) (added : new ≡ longer old e) (within : length new.entries ≤ new.limit)
    (kept : Agrees (identity_of place old.limit old.retention) old.entries gives cell_state tray)
    (plays : FollowsBehaviour (identity_of place old.limit old.retention) old.entries after gives own_after own_gives content made)
    (came : IsCalled call a effects tray called own_after own_gives content made new_after new_gives new_made) (then : Queries)
    (row : IsCallingRow (identity_of place old.limit old.retention) gives old.entries e call a effects cell_state new_cell_state then) where
  -- where the effects last
  pub calling-settled : (new_tray : OutboxView) (new_content : ℤ) → new_tray ≡ settled called →
      then.unspawned ≡ filter (λ x. not (has (spawns_of effects) x)) (unspawned (identity_of place old.limit old.retention) old.entries) →
      new_content ≡ new_after then.messages →
      Agrees (identity_of place new.limit new.retention) new.entries gives new_cell_state new_tray
      × (new.is_ready ≡ true → new_cell_state.is_ready ≡ true)
      × FollowsBehaviour (identity_of place new.limit new.retention) new.entries after gives new_after new_gives new_content new_made
  calling-settled new_tray new_content tray_is same_unspawned content_is =
      let within_before = length-added old new e added within in
      kept-called place old new e after gives new_cell_state new_tray new_after new_gives new_content new_made added
      (calling-agrees _ _ e _ _ _ _ _ _ _ _ _ _ _ _ _ _ _ _ within_before kept plays came then row new_tray
      (settled-left _ _ e _ _ _ _ _ _ _ _ _ _ _ _ _ _ _ _ within_before kept plays came then row new_tray tray_is
      ∙ ap (λ u. record { effects = []; actors = place.actors; unspawned = u }) (sym same_unspawned)))
      (calling-plays _ _ e _ _ _ _ _ _ _ _ _ _ _ _ _ _ _ _ within_before kept plays came then row new_content content_is)

  -- where they do not: those of a stop
  pub calling-cleared : (new_tray : OutboxView) (new_content : ℤ) → new_tray ≡ record called { effects = [] } →
      then.unspawned ≡ unspawned (identity_of place old.limit old.retention) old.entries → new_content ≡ new_after then.messages →
      Agrees (identity_of place new.limit new.retention) new.entries gives new_cell_state new_tray
      × (new.is_ready ≡ true → new_cell_state.is_ready ≡ true)
      × FollowsBehaviour (identity_of place new.limit new.retention) new.entries after gives new_after new_gives new_content new_made
  calling-cleared new_tray new_content tray_is same_unspawned content_is =
      let within_before = length-added old new e added within in
      kept-called place old new e after gives new_cell_state new_tray new_after new_gives new_content new_made added
      (calling-agrees _ _ e _ _ _ _ _ _ _ _ _ _ _ _ _ _ _ _ within_before kept plays came then row new_tray
      (cleared-left _ _ e _ _ _ _ _ _ _ _ _ _ _ _ _ _ _ _ within_before kept plays came then row new_tray tray_is
      ∙ ap (λ u. record { effects = []; actors = place.actors; unspawned = u }) (sym same_unspawned)))
      (calling-plays _ _ e _ _ _ _ _ _ _ _ _ _ _ _ _ _ _ _ within_before kept plays came then row new_content content_is)
