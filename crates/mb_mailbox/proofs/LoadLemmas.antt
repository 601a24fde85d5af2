-- How a load of the status word changes a run: the log alone.
use Rattle.std.proofs.Common.{◌≡◌, ◌⊎◌, inl, inr, ℕ, true, List, [], ◌∷◌, None, refl, sym, subst}
use Rattle.std.proofs.Common.{append-nil}
use Rattle.std.specs.Global.{Box}
use Rattle.mb_actor.specs.Behaviour.{Moment, Reply}
use Rattle.mb_journal.specs.Aside.{next_front}
use Rattle.mb_ghost.specs.Summed.{total}
use Rattle.mb_gate.specs.declared.claim.Claim.{Claim}
use Rattle.mb_gate.specs.Accessors.{claim_id, claim_view, held_actor, status_of, SameTaken}
use Rattle.mb_gate.specs.Untouched.{Origin}
use Rattle.mb_gate.specs.View.{Observation, Read, reading_held}
use Rattle.mb_gate.specs.Waiting.{counted_off}
use Rattle.mb_home.specs.Contents.{Contents}
use Rattle.mb_mailbox.specs.RunSends.{SendsForEntries}
use Rattle.mb_mailbox.specs.RunState.{RunState, run_state}
use Rattle.mb_mailbox.specs.OnlyDrained.{LoadedLast}
use Rattle.mb_mailbox.specs.Ran.{EndsBlock}
use Rattle.mb_mailbox.specs.Running.{IsRunning, BacklogAgrees, KeepsJournal}
use Rattle.mb_mailbox.proofs.BacklogLemmas.{backlog-log}
use Rattle.mb_mailbox.proofs.CountLemmas.{counted-still}
use Rattle.mb_mailbox.proofs.EmptiedLemmas.{takes-same}
use Rattle.mb_mailbox.proofs.RunningSteps.{running-read}
use Rattle.mb_mailbox.proofs.RunSendsLemmas.{entries-none, sends-none}
use Rattle.mb_mailbox.proofs.RunStateLemmas.{hold-read}

-- A block is at its end, and since then the claim loaded its actor's status word, which was this.
pub record IsLoadedSince (word : ℕ) (hold : RunState) : Type 0 where
  pub last : LoadedLast hold.actor word hold.log
  pub none : next_front hold.home.cell.who hold.home.cell.journal ≡ None

-- since a block was at its end the claim loaded its actor's status word, which was this; or the mailbox is closed
abbrev pub LoadsAfterBlock : ℕ → RunState → Type 0
LoadsAfterBlock word hold = (hold.status.closed ≡ true) ⊎ IsLoadedSince word hold

module _ (c new : Claim (Box Contents)) (ours : (claim_id new ≡ claim_id c) × (held_actor new ≡ held_actor c))
    (same : (status_of new ≡ status_of c) × (new.home ≡ c.home)) (word : ℕ) (known : claim_view new ≡ reading_held (held_actor c) word (claim_view c))
    (taken : SameTaken c new) where
  abbrev read_hold : RunState
  read_hold = record (run_state c) { log = Read (held_actor c) word ∷ (claim_view c).log }

  hold : run_state new ≡ read_hold
  hold = hold-read c new ours same.1 (held_actor c) word same.0 known taken

  pub keeps-read : KeepsJournal (run_state c) (run_state new)
  keeps-read =
      subst (KeepsJournal (run_state c)) (sym hold)
      (record {
        same = record {
          actor = refl;
          who = refl;
          before = refl;
          takes = takes-same _ _ refl;
          counted = counted-still _ _ (total (counted_off (held_actor c)) (claim_view c).log) refl;
        };
        journal = refl;
        loaded = refl;
      })

  pub running-loaded : (gives : ℕ → Moment → Reply → Type 0) (origin : Origin (Box Contents)) (seen : List Observation) →
      IsRunning gives origin [] seen (run_state c) → IsRunning gives origin [] seen (run_state new)
  running-loaded gives origin seen r =
      subst (IsRunning gives origin [] seen) (sym hold) (running-read gives origin seen (run_state c) [] word r)

  pub backlog-loaded : BacklogAgrees (run_state c) → BacklogAgrees (run_state new)
  backlog-loaded b = subst BacklogAgrees (sym hold) (backlog-log (run_state c) b (Read (held_actor c) word ∷ (claim_view c).log))

  -- nothing was sent, and nothing came out of the list
  pub entries-loaded : SendsForEntries (run_state c) (run_state new)
  entries-loaded =
      subst (SendsForEntries (run_state c)) (sym hold)
      (entries-none (run_state c) read_hold refl
      (record {
        dropped = [];
        sends = sends-none (run_state c) read_hold refl;
        takes = record {
          steps = Read (held_actor c) word ∷ [];
          log = refl;
          given = append-nil c.home.value.rest;
          none_dropped = λ _. refl;
          stays_closed = λ shut. (shut, refl);
        };
      }))

  -- it came right after the end of a block
  pub block-loaded : EndsBlock (run_state c) → LoadsAfterBlock word (run_state new)
  block-loaded whole = subst (LoadsAfterBlock word) (sym hold) (by_case whole)
    where
      by_case : EndsBlock (run_state c) → LoadsAfterBlock word read_hold
      by_case (inl shut) = inl shut
      by_case (inr drained) = inr (record { last = record { before = (claim_view c).log; last = refl; drained = drained.last }; none = drained.none })
