-- An envelope came out of the queue, was counted as taken, and is begun then.
use Rattle.std.proofs.Common.{◌≡◌, ℕ, ◌+◌, false, List, [], ◌∷◌, inl, None, refl, sym, ap, subst}
use Rattle.std.specs.Global.{Box}
use Rattle.mb_actor.specs.Behaviour.{Moment, Reply}
use Rattle.mb_journal.specs.Aside.{next_front}
use Rattle.mb_journal.specs.Suspension.{count}
use Rattle.mb_cell.specs.CellView.{CellView}
use Rattle.mb_ghost.specs.Summed.{total}
use Rattle.mb_gate.specs.declared.claim.Claim.{Claim}
use Rattle.mb_gate.specs.SentSystem.{messages_of}
use Rattle.mb_gate.specs.Untouched.{Origin}
use Rattle.mb_gate.specs.View.{Observation, Took}
use Rattle.mb_gate.specs.Waiting.{counted_off}
use Rattle.mb_home.specs.Carried.{LeadsOn}
use Rattle.mb_home.specs.Contents.{Contents}
use Rattle.mb_home.specs.AgreesWithJournal.{AgreesWithJournal}
use Rattle.mb_home.specs.Steps.{Begins}
use Rattle.mb_mailbox.specs.OnlyDrained.{LoadedLast, LoadedOpenLast}
use Rattle.mb_mailbox.specs.RunSends.{SendsDue, SendsForEntries}
use Rattle.mb_mailbox.specs.RunState.{RunState, run_state}
use Rattle.mb_mailbox.specs.Ran.{CountsRun}
use Rattle.mb_mailbox.specs.Running.{IsRunning, BacklogAgrees, SameRun}
use Rattle.mb_mailbox.specs.declared.turn.Turn.{Turn}
use Rattle.mb_mailbox.proofs.BacklogLemmas.{backlog-log}
use Rattle.mb_mailbox.proofs.CountLemmas.{counted-more, counts-one, one-more}
use Rattle.mb_mailbox.proofs.BegunAtLemmas.{taken-loaded}
use Rattle.mb_mailbox.proofs.EmptiedLemmas.{take-begun, takes-one}
use Rattle.mb_mailbox.proofs.RunningMoves.{running-begun, backlog-begun}
use Rattle.mb_mailbox.proofs.RunningSteps.{running-taken}
use Rattle.mb_mailbox.proofs.RunCountLemmas.{run_counts-begun}
use Rattle.mb_mailbox.proofs.StepSendsLemmas.{entries-begun}

-- the claim's log goes on by the count alone, and its home is another one in between
module _ (h : RunState) (after : Contents) (counted : Claim (Box Contents))
    (one : run_state counted ≡ record h { home = after; log = Took h.actor 1 ∷ h.log }) (new : Contents) (reading : ℕ)
    (b : Begins h.home new reading) where
  abbrev taken_hold : RunState
  taken_hold = record h { log = Took h.actor 1 ∷ h.log }

  pub same-begun : SameRun h (record (run_state counted) { home = new })
  same-begun =
      subst (λ (x : RunState). SameRun h (record x { home = new })) (sym one)
      (record {
        actor = refl;
        who = ap (λ (x : CellView). x.who) b.taken.adds;
        before = refl;
        takes = takes-one _ _ _ (take-begun h.home new reading b);
        counted = counted-more _ _ (total (counted_off h.actor) h.log) _ (one-more new.take.taken h.home.take.taken b.envelope b.took)
            (counts-one h.actor);
      })

  -- what its acts have to send was sent
  pub entries-counted-begun : (last : RunState) → h.status.closed ≡ false →
      SendsDue (messages_of new.cell.acts) [] (record (run_state counted) { home = new }) last → last.home.cell.journal ≡ new.cell.journal →
      SendsForEntries h last
  entries-counted-begun last open_yet carried journal =
      entries-begun h (record (run_state counted) { home = new }) last (ap (λ (x : RunState). x.actor) one) open_yet
      (ap (λ (x : RunState). x.recorded) one) b.taken.entry b.taken.adds carried journal b.envelope reading b.taken.of_it
      (ap (λ (x : Contents). x.rest) b.same) (Took h.actor 1 ∷ []) refl (ap (λ (x : RunState). x.log) one)

  pub run_counts-counted : (turn : Turn) → CountsRun h turn → LoadedLast h.actor reading h.log → next_front h.home.cell.who h.home.cell.journal ≡ None →
      CountsRun (record (run_state counted) { home = new }) (record turn { envelopes = turn.envelopes + 1 })
  run_counts-counted turn t last none =
      subst (λ (x : RunState). CountsRun (record x { home = new }) (record turn { envelopes = turn.envelopes + 1 })) (sym one)
      (run_counts-begun h new turn t reading (Took h.actor 1 ∷ h.log) (taken-loaded h.actor reading h.log last) b none)

  module _ (gives : ℕ → Moment → Reply → Type 0) (origin : Origin (Box Contents)) (seen : List Observation) (r : IsRunning gives origin [] seen h)
      (last : LoadedOpenLast h.actor h.log) where
    running_taken : IsRunning gives origin [] seen taken_hold
    running_taken = running-taken gives origin seen h [] 1 (inl last) r

    pub running-counted-begun : LeadsOn h.home new → AgreesWithJournal (gives h.actor) new.cell.acts new →
        IsRunning gives origin new.cell.acts seen (record (run_state counted) { home = new })
    running-counted-begun leads settled =
        subst (λ (x : RunState). IsRunning gives origin new.cell.acts seen (record x { home = new })) (sym one)
        (running-begun gives origin seen taken_hold new running_taken reading b leads settled)

    pub backlog-counted-begun : BacklogAgrees h → h.status.closed ≡ false → count h.home.cell.who h.home.cell.journal ≡ 0 →
        BacklogAgrees (record (run_state counted) { home = new })
    backlog-counted-begun s open_yet none =
        subst (λ (x : RunState). BacklogAgrees (record x { home = new })) (sym one)
        (backlog-begun gives origin seen taken_hold new running_taken (backlog-log h s (Took h.actor 1 ∷ h.log)) open_yet reading none b)
