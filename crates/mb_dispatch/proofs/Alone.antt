-- A quiet run that goes on keeps what it kept before, and its turns stand behind the earlier ones.
use Rattle.std.proofs.Common.{◌<◌, arith, get_or, length, refl, set, subst, sym, ℕ, List, [], ◌∷◌, ◌++◌, ◌∙◌, ap, append_assoc, inl, inr}
use Rattle.std.specs.Global.{Box}
use Rattle.std.proofs.lemmas.List.Elements.{All-cons, All-tail}
use Rattle.mb_actor.specs.Behaviour.{Moment, Reply}
use Rattle.mb_gate.specs.Accessors.{pass_view}
use Rattle.mb_gate.specs.Untouched.{Origin}
use Rattle.mb_gate.specs.View.{View}
use Rattle.mb_gate.specs.declared.gates.Gates.{Gates}
use Rattle.mb_home.specs.Contents.{Contents}
use Rattle.mb_mailbox.specs.declared.turn.Turn.{Turn}
use Rattle.mb_system.proofs.Saw.{saw-then}
use Rattle.mb_system.specs.Members.{AreHandlesOf, IsHandleOf}
use Rattle.mb_system.specs.declared.failure.RunError.{RunError}
use Rattle.mb_system.specs.declared.handle.WorkerHandle.{WorkerHandle}
use Rattle.mb_system.specs.declared.system.System.{System}
use Rattle.mb_dispatch.specs.Faults.{BreaksQuietRun, OnlyRunsBySystem}
use Rattle.mb_dispatch.specs.Runs.{MadeMoreRuns}
use Rattle.mb_dispatch.specs.Alone.{FirstAlone, KeepsAlone}
use Rattle.mb_dispatch.proofs.Breaking.{breaks-after}
use Rattle.mb_dispatch.proofs.Claims.{claims-then}
use Rattle.mb_dispatch.proofs.Runs.{made-then, runs-then}

module _ {A K : Type 0} where
  pub alone-then : (system : System A K) (a b c : WorkerHandle A K) → KeepsAlone system a b → KeepsAlone system b c → KeepsAlone system a c
  alone-then system a b c first last = record {
    same_handle = record {
      same_gates = last.same_handle.same_gates;
      number = last.same_handle.number ∙ first.same_handle.number;
      log_kept = saw-then _ _ _ first.same_handle.log_kept last.same_handle.log_kept;
    };
    obligations = last.obligations;
    claims = claims-then [] a b c first.claims last.claims;
  }

  -- another handle stands for the first
  pub first-is : (gates : Gates (Box Contents)) (old new : WorkerHandle A K) (others : List (WorkerHandle A K)) → AreHandlesOf gates (old ∷ others)
      → IsHandleOf gates new.registrar → AreHandlesOf gates (new ∷ others)
  first-is gates old new others are is =
      let P : WorkerHandle A K → Type 0 = λ e. IsHandleOf gates e.registrar in All-cons P new others is (All-tail P old others are)

  pub quiet-breaks-after : (gives : ℕ → Moment → Reply → Type 0) (system : System A K) (start between : View) (handle : WorkerHandle A K) (error : RunError)
      → OnlyRunsBySystem gives system start between → BreaksQuietRun gives system between handle error → BreaksQuietRun gives system start handle error
  quiet-breaks-after gives system start between handle error runs (inl short) =
      inl (short.0, runs-then gives _ _ start between (pass_view handle.registrar.pass) runs short.1)
  quiet-breaks-after gives system start between handle error runs (inr broken) = inr (breaks-after gives system start between handle error runs broken)

pub more-then : (gives : ℕ → Moment → Reply → Type 0) (origin : Origin (Box Contents)) (throughput : ℕ) (u v w : View) (earlier turns all : List Turn)
    → MadeMoreRuns gives origin throughput u earlier turns v → MadeMoreRuns gives origin throughput v turns all w
    → MadeMoreRuns gives origin throughput u earlier all w
more-then gives origin throughput u v w earlier turns all first last = record {
  later = first.later ++ last.later;
  joined = last.joined ∙ ap (λ l. l ++ last.later) first.joined ∙ append_assoc earlier first.later last.later;
  made = made-then gives origin throughput u v w first.later last.later first.made last.made;
}

module _ {A K : Type 0} where
  -- the first alone does something, and then something else
  pub alone-first : (R : WorkerHandle A K → WorkerHandle A K → Type 0) (xs : List (WorkerHandle A K)) (other new : WorkerHandle A K) → 0 < length xs
      → R (get_or xs 0 other) new → FirstAlone R xs (set xs 0 new)
  alone-first R [] other new some did = absurd (omega (arith, some))
  alone-first R (x ∷ xs) other new some did = (did, refl)

  pub alone-next : (P R Q : WorkerHandle A K → WorkerHandle A K → Type 0) → ((x y z : WorkerHandle A K) → P x y → R y z → Q x z)
      → (xs ys : List (WorkerHandle A K)) (other new : WorkerHandle A K) → FirstAlone P xs ys → R (get_or ys 0 other) new → FirstAlone Q xs (set ys 0 new)
  alone-next P R Q go [] ys other new before did = absurd before
  alone-next P R Q go (x ∷ xs) [] other new before did = absurd before
  alone-next P R Q go (x ∷ xs) (y ∷ ys) other new before did = (go x y new before.0 did, before.1)

  pub alone-weaker : (P Q : WorkerHandle A K → WorkerHandle A K → Type 0) → ((x y : WorkerHandle A K) → P x y → Q x y) → (xs ys : List (WorkerHandle A K))
      → FirstAlone P xs ys → FirstAlone Q xs ys
  alone-weaker P Q go [] ys did = did
  alone-weaker P Q go (x ∷ xs) [] did = did
  alone-weaker P Q go (x ∷ xs) (y ∷ ys) did = (go x y did.0, did.1)

  pub alone-some : (P : WorkerHandle A K → WorkerHandle A K → Type 0) (xs ys : List (WorkerHandle A K)) → FirstAlone P xs ys → 0 < length ys
  alone-some P [] ys did = absurd did
  alone-some P (x ∷ xs) [] did = absurd did
  alone-some P (x ∷ xs) (y ∷ ys) did = omega arith

  -- the handles are of the gates still
  pub alone-ours : (system : System A K) (xs ys : List (WorkerHandle A K)) → AreHandlesOf system.gates xs → FirstAlone (KeepsAlone system) xs ys
      → AreHandlesOf system.gates ys
  alone-ours system [] ys are did = absurd did
  alone-ours system (x ∷ xs) [] are did = absurd did
  alone-ours system (x ∷ xs) (y ∷ ys) are did =
      subst (λ l. AreHandlesOf system.gates (y ∷ l)) (sym did.1) (first-is system.gates x y xs are did.0.same_handle.same_gates)
