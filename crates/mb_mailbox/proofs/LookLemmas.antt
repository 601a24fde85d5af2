-- How a look at the gate of the actor's list that found work changes a run: the log alone.
use Rattle.std.proofs.Common.{◌≡◌, ℕ, true, List, [], ◌∷◌, refl, sym, subst}
use Rattle.std.proofs.Common.{append-nil}
use Rattle.std.specs.Global.{Box}
use Rattle.mb_actor.specs.Behaviour.{Moment, Reply}
use Rattle.mb_ghost.specs.Summed.{total}
use Rattle.mb_gate.specs.declared.claim.Claim.{Claim}
use Rattle.mb_gate.specs.Accessors.{claim_id, claim_view, held_actor, status_of, SameTaken}
use Rattle.mb_gate.specs.Untouched.{Origin}
use Rattle.mb_gate.specs.View.{Observation, Looked, looking}
use Rattle.mb_gate.specs.Waiting.{counted_off}
use Rattle.mb_home.specs.Contents.{Contents}
use Rattle.mb_mailbox.specs.RunSends.{SendsDue}
use Rattle.mb_mailbox.specs.RunState.{RunState, run_state}
use Rattle.mb_mailbox.specs.Running.{IsRunning, BacklogAgrees, KeepsJournal}
use Rattle.mb_mailbox.proofs.BacklogLemmas.{backlog-log}
use Rattle.mb_mailbox.proofs.CountLemmas.{counted-still}
use Rattle.mb_mailbox.proofs.EmptiedLemmas.{takes-same}
use Rattle.mb_mailbox.proofs.RunningSteps.{running-looked}
use Rattle.mb_mailbox.proofs.RunSendsLemmas.{sends-none}
use Rattle.mb_mailbox.proofs.RunStateLemmas.{hold-looked}

module _ (c new : Claim (Box Contents)) (ours : (claim_id new ≡ claim_id c) × (held_actor new ≡ held_actor c))
    (same : (status_of new ≡ status_of c) × (new.home ≡ c.home)) (known : claim_view new ≡ looking (held_actor c) true (claim_view c))
    (taken : SameTaken c new) where
  abbrev looked_hold : RunState
  looked_hold = record (run_state c) { log = Looked (held_actor c) true ∷ (claim_view c).log }

  hold : run_state new ≡ looked_hold
  hold = hold-looked c new ours same.1 (held_actor c) same.0 known taken

  pub keeps-looked : KeepsJournal (run_state c) (run_state new)
  keeps-looked =
      subst (KeepsJournal (run_state c)) (sym hold)
      (record {
        same = record {
          actor = refl;
          who = refl;
          before = refl;
          takes = takes-same _ _ refl;
          counted = counted-still _ _ (total (counted_off (held_actor c)) (claim_view c).log) refl;
        };
        journal = refl;
        loaded = refl;
      })

  pub running-on : (gives : ℕ → Moment → Reply → Type 0) (origin : Origin (Box Contents)) (seen : List Observation) →
      IsRunning gives origin [] seen (run_state c) → IsRunning gives origin [] seen (run_state new)
  running-on gives origin seen r =
      subst (IsRunning gives origin [] seen) (sym hold) (running-looked gives origin seen (run_state c) [] r)

  pub backlog-looked : BacklogAgrees (run_state c) → BacklogAgrees (run_state new)
  backlog-looked b = subst BacklogAgrees (sym hold) (backlog-log (run_state c) b (Looked (held_actor c) true ∷ (claim_view c).log))

  -- nothing was sent, and nothing came out of the list
  pub due-looked : SendsDue [] [] (run_state c) (run_state new)
  due-looked =
      subst (SendsDue [] [] (run_state c)) (sym hold)
      (record {
        dropped = [];
        sends = sends-none (run_state c) looked_hold refl;
        takes = record {
          steps = Looked (held_actor c) true ∷ [];
          log = refl;
          given = append-nil c.home.value.rest;
          none_dropped = λ _. refl;
          stays_closed = λ shut. (shut, refl);
        };
      })
