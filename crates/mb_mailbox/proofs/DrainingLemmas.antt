-- How a drain changes a run.
use Rattle.std.proofs.Common.{◌≡◌, ℕ, false, List, [], ◌∷◌, ◌++◌, length, refl, sym, ap, ◌∙◌, subst}
use Rattle.std.specs.Prelude.{MatchBool}
use Rattle.std.specs.Global.{Box}
use Rattle.mb_msg.specs.declared.system.SysMsg.{SysMsg}
use Rattle.mb_actor.specs.Behaviour.{Moment, Reply}
use Rattle.mb_journal.specs.Aside.{next_front}
use Rattle.mb_cell.specs.CellView.{CellView}
use Rattle.mb_ghost.specs.Summed.{total}
use Rattle.mb_gate.specs.declared.claim.Claim.{Claim}
use Rattle.mb_gate.specs.Lists.{IsNumberedFrom}
use Rattle.mb_gate.specs.NamedActors.{EachNamesBelow}
use Rattle.mb_gate.specs.Accessors.{claim_id, claim_view, held_actor, status_of, taken_with, closed_with, gave_last, given_to, drained_by, recorded_by}
use Rattle.mb_gate.specs.Rule.{is_some_item}
use Rattle.mb_gate.specs.Untouched.{Origin}
use Rattle.mb_gate.specs.View.{Observation, Drained, draining, given_after}
use Rattle.mb_gate.specs.Waiting.{counted_off}
use Rattle.mb_home.specs.AtHome.{given_of}
use Rattle.mb_home.specs.Contents.{Contents}
use Rattle.mb_home.specs.AgreesWithJournal.{AgreesWithJournal}
use Rattle.mb_home.specs.Steps.{HasNoBacklog}
use Rattle.mb_home.proofs.GivenLemmas.{given-kept}
use Rattle.mb_mailbox.specs.RunSends.{SendsDue}
use Rattle.mb_mailbox.specs.RunState.{RunState, run_state}
use Rattle.mb_mailbox.specs.Ran.{IsDrained}
use Rattle.mb_mailbox.specs.Running.{IsRunning, BacklogAgrees, KeepsJournal}
use Rattle.mb_mailbox.proofs.CountLemmas.{counted-still}
use Rattle.mb_mailbox.proofs.EmptiedLemmas.{takes-same}
use Rattle.mb_mailbox.proofs.RunStateLemmas.{hold-drained}
use Rattle.mb_mailbox.proofs.RunSendsLemmas.{sends-none, takes-in-open}
use Rattle.mb_mailbox.proofs.RunningSteps.{given-among, running-drained, running-kept}
use Rattle.mb_mailbox.proofs.TellingLemmas.{settled-here}

-- a home that keeps nothing, where nothing was drained, keeps that
pub none-kept : (home : Contents) (result : List (ℕ × SysMsg)) → home.rest ≡ [] → result ≡ [] → home ≡ record home { rest = result }
none-kept home result here none = ap (λ l. record home { rest = l }) (here ∙ sym none)

none-item : (list : List (ℕ × SysMsg)) → is_some_item list ≡ false → list ≡ []
none-item [] none = refl
none-item (m ∷ list) none = absurd (cc none)

module _ (c mid : Claim (Box Contents)) (ours : (claim_id mid ≡ claim_id c) × (held_actor mid ≡ held_actor c))
    (same : (status_of mid ≡ status_of c) × (mid.home ≡ c.home)) (taken : (taken_with mid ≡ taken_with c) × (closed_with mid ≡ closed_with c))
    (recorded : recorded_by mid ≡ recorded_by c) (result : List (ℕ × SysMsg)) (given : given_to mid ≡ given_after (given_to c) result)
    (known : claim_view mid ≡ draining (held_actor c) result (is_some_item result) (claim_view c)) (gave : gave_last mid ≡ is_some_item result)
    (drained : drained_by mid ≡ drained_by c ++ result)
    (new : Contents) (kept : new ≡ record mid.home.value { rest = result }) where
  abbrev drained_hold : RunState
  drained_hold = record (run_state c) {
    gave = is_some_item result;
    given = given_after (given_to c) result;
    drained = drained_by c ++ result;
    log = Drained (held_actor c) result ∷ (claim_view c).log;
  }

  hold-drain : run_state mid ≡ drained_hold
  hold-drain = hold-drained c mid ours same.1 same.0 taken recorded result given drained (held_actor c) (is_some_item result) known gave

  kept_here : new ≡ record c.home.value { rest = result }
  kept_here = kept ∙ ap (λ (b : Box Contents). record b.value { rest = result }) same.1

  cell : new.cell ≡ c.home.value.cell
  cell = ap (λ (x : Contents). x.cell) kept_here

  pub keeps-drained : KeepsJournal (run_state c) (record (run_state mid) { home = new })
  keeps-drained =
      subst (λ (x : RunState). KeepsJournal (run_state c) (record x { home = new })) (sym hold-drain)
      (record {
        same = record {
          actor = refl;
          who = ap (λ (x : CellView). x.who) cell;
          before = refl;
          takes = takes-same _ _ (ap (λ (x : Contents). x.take) kept_here);
          counted = counted-still _ _ (total (counted_off (held_actor c)) (claim_view c).log) (ap (λ (x : Contents). length x.take.taken) kept_here);
        };
        journal = ap (λ (x : CellView). x.journal) cell;
        loaded = refl;
      })

  -- what was drained is left beside the cell
  pub due-drained : c.home.value.rest ≡ [] → (status_of c).closed ≡ false → SendsDue [] [] (run_state c) (record (run_state mid) { home = new })
  due-drained none open_yet =
      subst (λ (x : RunState). SendsDue [] [] (run_state c) (record x { home = new })) (sym hold-drain)
      (record {
        dropped = [];
        sends = sends-none (run_state c) (record drained_hold { home = new }) refl;
        takes = takes-in-open (run_state c) (record drained_hold { home = new }) [] (Drained (held_actor c) result ∷ []) refl
            (ap (λ l. l ++ result) none ∙ sym (ap (λ (x : Contents). x.rest) kept_here)) open_yet;
      })

  -- what was drained goes on from what the home knows
  pub drained-from : given_of c.home.value ≡ given_to c → IsNumberedFrom (given_to c) result → IsNumberedFrom (given_of mid.home.value) result
  drained-from count numbers =
      subst (λ n. IsNumberedFrom n result) (sym (ap (λ (b : Box Contents). given_of b.value) same.1 ∙ count)) numbers

  module _ (no_backlog : HasNoBacklog c.home.value) where
    rested_here : result ≡ [] → HasNoBacklog new
    rested_here none = record {
      no_rest = ap (λ (x : Contents). x.rest) kept_here ∙ none;
      no_front = ap (λ (x : CellView). next_front x.who x.journal) cell ∙ no_backlog.no_front;
    }

    pub backlog-drained : (status_of c).closed ≡ false → given_of c.home.value ≡ given_to c → BacklogAgrees (record (run_state mid) { home = new })
    backlog-drained not_closed count =
        subst (λ (x : RunState). BacklogAgrees (record x { home = new })) (sym hold-drain)
        (record {
          count =
              ap given_of kept_here ∙ given-kept c.home.value result no_backlog.no_rest ∙ ap (λ n. given_after n result) count;
          rest =
              subst (λ b. MatchBool b (new.rest ≡ []) (is_some_item result ≡ false → HasNoBacklog new)) (sym not_closed)
              (λ nothing. rested_here (none-item result nothing));
        })

    pub is-drained : result ≡ [] → IsDrained (record (run_state mid) { home = new })
    is-drained none =
        subst (λ (x : RunState). IsDrained (record x { home = new })) (sym hold-drain)
        (record {
          last = record { before = (claim_view c).log; last = ap (λ l. Drained (held_actor c) l ∷ (claim_view c).log) none };
          none = (rested_here none).no_front;
        })

  pub running-drain : (gives : ℕ → Moment → Reply → Type 0) (origin : Origin (Box Contents)) (seen : List Observation) → c.home.value.cell.acts ≡ [] →
      AgreesWithJournal (gives new.cell.who.this.0) new.cell.acts new → EachNamesBelow origin.actors result → IsRunning gives origin [] seen (run_state c) →
      IsRunning gives origin [] seen (record (run_state mid) { home = new })
  running-drain gives origin seen none settled named r =
      subst (λ (x : RunState). IsRunning gives origin [] seen (record x { home = new })) (sym hold-drain)
      (running-kept gives origin seen drained_hold [] new result
      (running-drained gives origin seen (run_state c) [] (is_some_item result) (given_after (given_to c) result) result r) kept_here
      (subst (λ l. AgreesWithJournal (gives (held_actor c)) l new) none (settled-here gives (held_actor c) c.home.value new r.number cell settled))
      (given-among (drained_by c) result) named)
