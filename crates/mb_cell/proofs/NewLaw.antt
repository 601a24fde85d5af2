-- A cell to which nothing came.
use Rattle.std.proofs.Common.{◌≡◌, ℕ, ◌≤◌, ℤ, List, [], length, false, refl, ap, sym, ◌∙◌, subst}
use Rattle.std.specs.Prelude.{pos, negsuc, nat_lt}
use Rattle.mb_msg.specs.JournalMode.{Retention}
use Rattle.mb_msg.specs.Limits.{most_entries}
use Rattle.mb_msg.specs.declared.id.ActorId.{ActorId}
use Rattle.mb_actor.specs.Behaviour.{Moment, Reply, AllowsSame}
use Rattle.mb_actor.specs.OutboxView.{OutboxView}
use Rattle.mb_actor.specs.declared.call.Call.{Call}
use Rattle.mb_actor.specs.declared.message.Message.{Message}
use Rattle.mb_actor.specs.declared.phase.Phase.TheVariants.{Fresh}
use Rattle.mb_journal.specs.Aside.{aside, ever_aside}
use Rattle.mb_journal.specs.Failure.{failed}
use Rattle.mb_journal.specs.declared.failed_by.FailedBy.TheVariants.{Nobody}
use Rattle.mb_journal.specs.Identity.{Identity, is_guardian}
use Rattle.mb_journal.specs.Incarnation.{messages}
use Rattle.mb_journal.specs.Lawful.{unspawned, was_live}
use Rattle.mb_journal.specs.Life.{phase, children}
use Rattle.mb_journal.specs.JournalView.{JournalView}
use Rattle.mb_journal.specs.Retries.{requests}
use Rattle.mb_journal.specs.Suspension.{count, marks, pluses, minuses, greatest_net}
use Rattle.mb_journal.specs.Watching.{watchers, watching, due}
use Rattle.mb_journal.proofs.LawfulLemmas.{lawful-none, calls-none}
use Rattle.mb_journal.proofs.TestLemmas.{if_same}
use Rattle.mb_cell.specs.Agrees.{Agrees, FollowsBehaviour, cell_state_at}
use Rattle.mb_supervision.specs.CellStateRecord.{CellState}
use Rattle.mb_supervision.specs.RetryCounts.{retry_count_of}
use Rattle.mb_supervision.specs.ActorIdentity.{identity_of}
use Rattle.mb_cell.proofs.RowLaws.{counts_of}
use Rattle.mb_supervision.specs.declared.identity.ActorIdentity.{ActorIdentity}

-- the state of a cell to which nothing came
abbrev pub first_cell_state : ℕ → CellState
first_cell_state fanout = record {
  phase = Fresh;
  count = 1;
  failed = Nobody;
  children = [];
  watchers = [];
  watching = [];
  due = [];
  aside = [];
  was_live = false;
  retries = [];
  acts = [];
  fanout = fanout;
  is_ready = false;
}

first-at : (who : Identity) (fanout : ℕ) → first_cell_state fanout ≡ cell_state_at who [] [] [] fanout false
unfolding phase count marks pluses minuses greatest_net failed children watchers watching due aside ever_aside was_live
first-at who fanout = refl

unspawned-none : (who : Identity) → unspawned who [] ≡ who.prepared
unfolding unspawned
unspawned-none who = refl

messages-none : (who : Identity) → messages who [] ≡ []
unfolding messages
messages-none who = refl

blank-none : (who : Identity) → (children who [] ≡ []) × (watching who [] ≡ []) × (due who [] ≡ []) × (failed who [] ≡ Nobody)
unfolding children watching due failed
blank-none who = (refl, refl, refl, refl)

requests-none : (who : Identity) → requests who [] ≡ []
unfolding requests
requests-none who = refl

none-counted : (limit : ℤ) (y : ActorId) → counts_of limit [] y ≡ 0
none-counted (negsuc n) y = refl
none-counted (pos n) y = if_same (nat_lt 0 n) 0

pub agrees-new : (place : ActorIdentity) (log : JournalView) (limit : ℕ) (retention : Retention) (gives : Moment → Reply → Type 0) (cell_state : CellState) (tray : OutboxView) →
    log ≡ record { entries = []; limit = limit; is_ready = false; retention = retention } → cell_state ≡ first_cell_state cell_state.fanout →
    cell_state.fanout ≡ length place.prepared.items →
    tray ≡ record { effects = []; actors = place.actors; unspawned = place.prepared.items } → limit ≤ most_entries →
    length place.prepared.items ≤ 64 → Agrees (identity_of place log.limit log.retention) log.entries gives cell_state tray
agrees-new place log limit retention gives cell_state tray log_is is fanout_is tray_is small few =
    subst (λ (l : JournalView). Agrees (identity_of place l.limit l.retention) l.entries gives cell_state tray) (sym log_is) (record {
      lawful = lawful-none (identity_of place limit retention) gives;
      booked =
          is
          ∙ (first-at (identity_of place limit retention) cell_state.fanout
          ∙ (λ i. cell_state_at (identity_of place limit retention) [] (ap (λ (b : CellState). b.retries) (sym is) i) (ap (λ (b : CellState). b.acts) (sym is) i)
          cell_state.fanout (ap (λ (b : CellState). b.is_ready) (sym is) i)));
      outbox =
          tray_is
          ∙ ap (λ u. record { effects = []; actors = place.actors; unspawned = u }) (sym (unspawned-none (identity_of place limit retention)));
      fresh = λ e. record {
        no_children = (blank-none (identity_of place limit retention)).0;
        none_watched = (blank-none (identity_of place limit retention)).1;
        none_due = (blank-none (identity_of place limit retention)).2;
        not_failed = (blank-none (identity_of place limit retention)).3;
      };
      small_limit = small;
      few_prepared = few;
      fanout = fanout_is;
      counted =
          λ y. ap (λ (b : CellState). retry_count_of b.retries y) is
          ∙ (sym (none-counted (identity_of place limit retention).retries y)
          ∙ ap (λ l. counts_of (identity_of place limit retention).retries l y) (sym (requests-none (identity_of place limit retention))));
    })

pub plays-new : (place : ActorIdentity) (log : JournalView) (limit : ℕ) (retention : Retention) (after : List Message → ℤ) (gives : Moment → Reply → Type 0) (own_after : List Message → ℤ)
    (own_gives : Moment → Reply → Type 0) (content : ℤ) (made : List Call) →
    log ≡ record { entries = []; limit = limit; is_ready = false; retention = retention } → is_guardian (identity_of place limit retention) ≡ false → own_after ≡ after →
    AllowsSame own_gives gives → content ≡ own_after [] → made ≡ [] →
    FollowsBehaviour (identity_of place log.limit log.retention) log.entries after gives own_after own_gives content made
plays-new place log limit retention after gives own_after own_gives content made log_is an_actor same_after same_gives content_is made_is =
    subst (λ (l : JournalView). FollowsBehaviour (identity_of place l.limit l.retention) l.entries after gives own_after own_gives content made) (sym log_is) (record {
      no_guardian = an_actor;
      same_after = same_after;
      same_gives = same_gives;
      same_content =
          content_is ∙ (ap (λ f. f []) same_after ∙ ap after (sym (messages-none (identity_of place limit retention))));
      same_calls = made_is ∙ sym (calls-none (identity_of place limit retention));
    })
