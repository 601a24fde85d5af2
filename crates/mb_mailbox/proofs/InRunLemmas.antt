-- The steps of a run, one after another.
use Rattle.std.proofs.Common.{◌<◌, true, inl, inr, length, ap, ◌∙◌, sym, subst}
use Rattle.std.specs.Prelude.{◌≡◌, ◌≤◌, ◌↔◌, List, Result, Ok, Err, IsErrAnd, IsErrOf, OnOk, OnErr}
use Rattle.std.specs.Global.{Box}
use Rattle.mb_journal.specs.Life.{closed}
use Rattle.mb_journal.specs.declared.error.ReadyError.{ReadyError}
use Rattle.mb_journal.specs.declared.error.ReadyError.TheVariants.{JournalFull, NoMemory}
use Rattle.mb_gate.specs.declared.claim.Claim.{Claim}
use Rattle.mb_home.specs.Contents.{Contents}
use Rattle.mb_register.specs.Caller.{CallerAdvances, caller_of}
use Rattle.mb_register.specs.declared.registrar.Registrar.{Registrar}
use Rattle.mb_register.proofs.CallerLemmas.{further-then}
use Rattle.mb_mailbox.specs.Emptied.{IsCleared}
use Rattle.mb_mailbox.specs.RunState.{run_state}
use Rattle.mb_mailbox.specs.InRun.{Advances, StopsRun}
use Rattle.mb_mailbox.specs.Recorded.{SendsAsRecorded}
use Rattle.mb_mailbox.specs.RunSends.{SendsForEntries}
use Rattle.mb_mailbox.specs.Running.{SameRun}
use Rattle.mb_mailbox.proofs.AppliedLemmas.{not-full, passed-fault, room-short}
use Rattle.mb_mailbox.proofs.BacklogLemmas.{same-run-then}
use Rattle.mb_mailbox.proofs.EmptiedLemmas.{cleared-then, err-at, ok-so}
use Rattle.mb_mailbox.proofs.RecordedLemmas.{alike-then}
use Rattle.mb_mailbox.proofs.RunSendsLemmas.{entries-then}

-- a fault that is passed on says nothing of a good result
pub ok-passed : {T E : Type 0} (P : Type 0) (r : Result T E) (e : E) → IsErrAnd r (λ y. y ≡ e) → OnOk r P
ok-passed P (Ok x) e passed = absurd passed
ok-passed P (Err y) e passed = tt

-- what answers well stops nothing
pub stops-none : {T : Type 0} (x : T) (claim : Claim (Box Contents)) → StopsRun {T = T} (Ok x) claim
stops-none x claim = record { full = λ full. absurd (cc full); out_of_memory = λ short. absurd (cc short) }

-- what passes a fault on stops the run as the step did that had it
pub stops-passed : {T U : Type 0} (first : Result T ReadyError) (r : Result U ReadyError) (fault : ReadyError) (claim : Claim (Box Contents)) →
    first ≡ Err fault → IsErrAnd r (λ passed. passed ≡ fault) → StopsRun first claim → StopsRun r claim
stops-passed first r fault claim was passed s = record {
  full = λ full. s.full (was ∙ ap (λ (f : ReadyError). Err f) (passed-fault r fault passed full));
  out_of_memory = λ short. s.out_of_memory (was ∙ ap (λ (f : ReadyError). Err f) (passed-fault r fault passed short));
}

-- no room was made for an entry
pub stops-ready : {T : Type 0} (r : Result T ReadyError) (x : Contents) (claim : Claim (Box Contents)) →
    claim.home.value ≡ record x { cell = record x.cell { is_ready = claim.home.value.cell.is_ready }; room = claim.home.value.room } →
    (IsErrOf r JournalFull ↔ (x.cell.who.limit ≤ length x.cell.journal)) → StopsRun r claim
stops-ready r x claim made full = record {
  full = λ is. subst (λ (z : Contents). z.cell.who.limit ≤ length z.cell.journal) (sym made) (full.0 is);
  out_of_memory = λ is. inl (subst (λ (z : Contents). length z.cell.journal < z.cell.who.limit) (sym made) (room-short r _ _ full is));
}

-- an act of an actor that ended was not carried out
pub stops-carried : {T : Type 0} (r : Result T ReadyError) (claim : Claim (Box Contents)) → OnErr r (IsErrOf r NoMemory) →
    OnErr r (closed claim.home.value.cell.who claim.home.value.cell.journal ≡ true) → StopsRun r claim
stops-carried r claim refused ended = record {
  full = λ full. absurd (not-full r refused full);
  out_of_memory = λ short. inr (err-at r NoMemory short ended);
}

module _ {W : Type 0} {pushed refused : W → List (Claim (Box Contents))} {T E : Type 0} where
  -- a step advances the run from where another left it
  pub advances-then : (r : Result T E) (a b c : Registrar (Box Contents) W) (x y z : Claim (Box Contents)) → SameRun (run_state x) (run_state y) →
      IsCleared (run_state x) (run_state y) → CallerAdvances (caller_of pushed refused a) (caller_of pushed refused b) →
      SendsAsRecorded a b x y → SendsForEntries (run_state x) (run_state y) → Advances pushed refused r b c y z → Advances pushed refused r a c x z
  advances-then r a b c x y z same cleared caller_advances sends entries next = record {
    same = same-run-then (run_state x) (run_state y) (run_state z) same next.same;
    cleared = ok-so r (cleared-then (run_state x) (run_state y) (run_state z) same.takes cleared) next.cleared;
    caller_advances = further-then (caller_of pushed refused a) (caller_of pushed refused b) (caller_of pushed refused c) caller_advances next.caller_advances;
    sends = alike-then _ _ _ _ _ _ sends next.sends;
    entries = entries-then (run_state x) (run_state y) (run_state z) same.actor same.who entries next.entries;
  }

  -- and one does that passes on the fault of another
  pub advances-passed : {U : Type 0} (first : Result U E) (r : Result T E) (fault : E) (a b c : Registrar (Box Contents) W)
      (x y z : Claim (Box Contents)) → IsErrAnd r (λ passed. passed ≡ fault) → SameRun (run_state x) (run_state y) →
      CallerAdvances (caller_of pushed refused a) (caller_of pushed refused b) → SendsAsRecorded a b x y →
      SendsForEntries (run_state x) (run_state y) → Advances pushed refused first b c y z → Advances pushed refused r a c x z
  advances-passed first r fault a b c x y z passed same caller_advances sends entries next = record {
    same = same-run-then (run_state x) (run_state y) (run_state z) same next.same;
    cleared = ok-passed (IsCleared (run_state x) (run_state z)) r fault passed;
    caller_advances = further-then (caller_of pushed refused a) (caller_of pushed refused b) (caller_of pushed refused c) caller_advances next.caller_advances;
    sends = alike-then _ _ _ _ _ _ sends next.sends;
    entries = entries-then (run_state x) (run_state y) (run_state z) same.actor same.who entries next.entries;
  }

  -- and what passes a fault on goes as far as the step did that had it
  pub advances-failed : {U : Type 0} {first : Result U E} {a b : Registrar (Box Contents) W} {x y : Claim (Box Contents)} (r : Result T E) (fault : E) →
      IsErrAnd r (λ passed. passed ≡ fault) → Advances pushed refused first a b x y → Advances pushed refused r a b x y
  advances-failed {x = x} {y = y} r fault passed p = record {
    same = p.same;
    cleared = ok-passed (IsCleared (run_state x) (run_state y)) r fault passed;
    caller_advances = p.caller_advances;
    sends = p.sends;
    entries = p.entries;
  }
