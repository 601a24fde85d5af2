-- How a run stands and how far it went, after a step that handles an envelope.
use Rattle.std.proofs.Common.{ℕ, ◌+◌, ◌≡◌, List, [], refl, ap, ◌∙◌, subst}
use Rattle.std.specs.Prelude.{Option, Result, Ok, OnOk}
use Rattle.std.specs.Global.{Box}
use Rattle.mb_actor.specs.Behaviour.{Moment, Reply}
use Rattle.mb_journal.specs.declared.error.ReadyError.{ReadyError}
use Rattle.mb_cell.specs.CellView.{CellView}
use Rattle.mb_gate.specs.declared.claim.Claim.{Claim}
use Rattle.mb_gate.specs.declared.gates.Gates.{Gates}
use Rattle.mb_gate.specs.Accessors.{pass_view, recorded_by}
use Rattle.mb_gate.specs.SentSystem.{messages_of}
use Rattle.mb_gate.specs.Untouched.{Origin, origin_of}
use Rattle.mb_gate.specs.View.{Observation}
use Rattle.mb_home.specs.Contents.{Contents}
use Rattle.mb_register.specs.Caller.{caller_of, CallerAdvances}
use Rattle.mb_register.specs.declared.registrar.Registrar.{Registrar}
use Rattle.mb_register.proofs.CallerLemmas.{further-none}
use Rattle.mb_mailbox.specs.declared.turn.Turn.{Turn}
use Rattle.mb_mailbox.specs.Emptied.{IsCleared}
use Rattle.mb_mailbox.specs.InRun.{InRun, Advances}
use Rattle.mb_mailbox.specs.Recorded.{GrowAlike}
use Rattle.mb_mailbox.specs.RunRegistrar.{IsRunRegistrarOf}
use Rattle.mb_mailbox.specs.Running.{IsRunning, BacklogAgrees, KeepsJournal, SameRun}
use Rattle.mb_mailbox.specs.RunSends.{SendsDue, SendsForEntries}
use Rattle.mb_mailbox.specs.RunState.{RunState, run_state}
use Rattle.mb_mailbox.proofs.AppliedLemmas.{same-keeps}
use Rattle.mb_mailbox.proofs.BacklogLemmas.{keeps-same}
use Rattle.mb_mailbox.proofs.EmptiedLemmas.{cleared-open, cleared-same, cleared-then, ok-so}
use Rattle.mb_mailbox.proofs.EnvelopeSteps.{KeepsRun, BeginsOne}
use Rattle.mb_mailbox.proofs.InRunLemmas.{advances-then}
use Rattle.mb_mailbox.proofs.RecordedLemmas.{alike-still, alike-then}
use Rattle.mb_mailbox.proofs.RunCountLemmas.{run_counts-keeps}
use Rattle.mb_mailbox.proofs.RunSendsLemmas.{entries-none, entries-same}

-- ---- the run is between two messages still

-- nothing was added to its journal
pub kept-run : {W : Type 0} {gives : ℕ → Moment → Reply → Type 0} {origin : W → Option (Origin (Box Contents))} {gates : Gates (Box Contents)}
    {registrar : Registrar (Box Contents) W} {turn : Turn} {start : RunState} {claim : Claim (Box Contents)} → IsRunRegistrarOf origin gates registrar →
    KeepsRun gives (origin_of gates) (pass_view registrar.pass).log turn start (run_state claim) → InRun gives origin gates registrar claim turn
kept-run same_gates k = record {
  same_gates = same_gates;
  running = k.running;
  backlog = k.backlog;
  carried_out = k.carried_out;
  run_counts = k.run_counts;
}

-- it carried out the acts of an envelope that it had begun
pub carried-run : {W : Type 0} {gives : ℕ → Moment → Reply → Type 0} {origin : W → Option (Origin (Box Contents))} {gates : Gates (Box Contents)}
    {seen : List Observation} {turn : Turn} {start mid : RunState} (registrar : Registrar (Box Contents) W) (new : Claim (Box Contents)) →
    BeginsOne gives (origin_of gates) seen turn start mid → IsRunRegistrarOf origin gates registrar →
    IsRunning gives (origin_of gates) [] (pass_view registrar.pass).log (run_state new) → BacklogAgrees (run_state new) →
    new.home.value.cell.acts ≡ [] → KeepsJournal mid (run_state new) →
    InRun gives origin gates registrar new (record turn { envelopes = turn.envelopes + 1 })
carried-run {turn = turn} {mid = mid} registrar new begun same_gates running backlog none keeps = record {
  same_gates = same_gates;
  running = running;
  backlog = backlog;
  carried_out = none;
  run_counts = run_counts-keeps mid (run_state new) (record turn { envelopes = turn.envelopes + 1 }) keeps begun.run_counts;
}

-- it looked for system work and found none
pub quiet-run : {W : Type 0} {gives : ℕ → Moment → Reply → Type 0} {origin : W → Option (Origin (Box Contents))} {gates : Gates (Box Contents)}
    {registrar : Registrar (Box Contents) W} {old new : Claim (Box Contents)} {turn : Turn} → InRun gives origin gates registrar old turn →
    ((seen : List Observation) → IsRunning gives (origin_of gates) [] seen (run_state old) → IsRunning gives (origin_of gates) [] seen (run_state new)) →
    BacklogAgrees (run_state new) → new.home.value.cell ≡ old.home.value.cell → KeepsJournal (run_state old) (run_state new) →
    InRun gives origin gates registrar new turn
quiet-run {registrar = registrar} {old = old} {new = new} {turn = turn} before running backlog left same = record {
  same_gates = before.same_gates;
  running = running (pass_view registrar.pass).log before.running;
  backlog = backlog;
  carried_out = ap (λ (x : CellView). x.acts) left ∙ before.carried_out;
  run_counts = run_counts-keeps (run_state old) (run_state new) turn same before.run_counts;
}

-- ---- how far it went

-- the run goes on: no step stopped it
abbrev pub GoesOn : {W : Type 0} (pushed refused : W → List (Claim (Box Contents))) → Registrar (Box Contents) W → Registrar (Box Contents) W →
    Claim (Box Contents) → Claim (Box Contents) → Type 0
GoesOn pushed refused a b x y = Advances {T = Unit {0}} {E = ReadyError} pushed refused (Ok tt) a b x y

module _ {W : Type 0} {pushed refused : W → List (Claim (Box Contents))} where
  -- a step went well
  pub goes-well : {a b : Registrar (Box Contents) W} {x y : Claim (Box Contents)} (first : Result (Unit {0}) ReadyError) {well : Unit {0}} →
      first ≡ Ok well → Advances pushed refused first a b x y → GoesOn pushed refused a b x y
  goes-well {x = x} {y = y} first was p = record {
    same = p.same;
    cleared = subst (λ (q : Result (Unit {0}) ReadyError). OnOk q (IsCleared (run_state x) (run_state y))) was p.cleared;
    caller_advances = p.caller_advances;
    sends = p.sends;
    entries = p.entries;
  }

  -- and then there was one more
  pub goes-then : {T E : Type 0} {a b c : Registrar (Box Contents) W} {x y z : Claim (Box Contents)} (r : Result T E) → GoesOn pushed refused a b x y →
      Advances pushed refused r b c y z → Advances pushed refused r a c x z
  goes-then r p next = advances-then r _ _ _ _ _ _ p.same p.cleared p.caller_advances p.sends p.entries next

  -- its pass did nothing
  module _ (registrar : Registrar (Box Contents) W) (old new : Claim (Box Contents)) (recorded : recorded_by new ≡ recorded_by old)
      (cleared : IsCleared (run_state old) (run_state new)) where
    goes-quiet : SameRun (run_state old) (run_state new) → SendsForEntries (run_state old) (run_state new) →
        GoesOn pushed refused registrar registrar old new
    goes-quiet same entries = record {
      same = same;
      cleared = cleared;
      caller_advances = further-none (caller_of pushed refused registrar);
      sends = alike-still _ _ _ _ recorded refl;
      entries = entries;
    }

    -- and nothing was added to its journal
    pub goes-kept : {gives : ℕ → Moment → Reply → Type 0} {origin : Origin (Box Contents)} {seen : List Observation} {turn : Turn} →
        KeepsRun gives origin seen turn (run_state old) (run_state new) → GoesOn pushed refused registrar registrar old new
    goes-kept k = goes-quiet k.keeps.same k.entries

    -- it looked for system work
    pub goes-looking : KeepsJournal (run_state old) (run_state new) → SendsDue [] [] (run_state old) (run_state new) →
        GoesOn pushed refused registrar registrar old new
    goes-looking keeps due = goes-quiet keeps.same (entries-none (run_state old) (run_state new) keeps.journal due)

  -- nothing was done yet
  pub goes-nowhere : (registrar : Registrar (Box Contents) W) (claim : Claim (Box Contents)) → GoesOn pushed refused registrar registrar claim claim
  goes-nowhere registrar claim =
      let h = run_state claim in goes-quiet registrar claim claim refl (cleared-same h h refl refl) (keeps-same h).same (entries-same h)

module _ {W : Type 0} {pushed refused : W → List (Claim (Box Contents))} {T E : Type 0} (r : Result T E) (a b : Registrar (Box Contents) W)
    (old new : Claim (Box Contents)) where
  -- it carried out the acts of an envelope that it had begun
  pub advances-carried : {gives : ℕ → Moment → Reply → Type 0} {origin : Origin (Box Contents)} {seen : List Observation} {turn : Turn} {mid : RunState} →
      BeginsOne gives origin seen turn (run_state old) mid → mid.recorded ≡ recorded_by old → KeepsJournal mid (run_state new) →
      OnOk r (IsCleared mid (run_state new)) → CallerAdvances (caller_of pushed refused a) (caller_of pushed refused b) →
      GrowAlike mid.recorded (pass_view a.pass) (recorded_by new) (pass_view b.pass) →
      SendsDue (messages_of mid.home.cell.acts) [] mid (run_state new) → Advances pushed refused r a b old new
  advances-carried {mid = mid} begun recorded keeps cleared caller_advances sends due = record {
    same = same-keeps (run_state old) mid (run_state new) begun.same keeps;
    cleared = ok-so r (cleared-then (run_state old) mid (run_state new) begun.same.takes (cleared-open (run_state old) mid begun.open_yet)) cleared;
    caller_advances = caller_advances;
    sends = alike-then _ _ _ _ _ _ (alike-still _ _ _ _ recorded refl) sends;
    entries = begun.entries (run_state new) due keeps.journal;
  }
