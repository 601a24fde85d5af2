-- The handles of a new system, whose first has put a Create into the guardian's list.
use Rattle.std.proofs.Common.{◌≡◌, ◌<◌, List, [], ◌∷◌, ◌++◌, length, get_or, set, refl, sym, ap, ◌∙◌, subst, append-nil, arith}
use Rattle.std.specs.Prelude.{All}
use Rattle.std.specs.Global.{Box}
use Rattle.std.proofs.lemmas.List.Elements.{All-cons}
use Rattle.mb_gate.specs.Accessors.{gates_id, pass_view, pass_id}
use Rattle.mb_gate.specs.View.{View, added_obligations}
use Rattle.mb_gate.specs.declared.gates.Gates.{Gates}
use Rattle.mb_gate.specs.declared.pass.Pass.{Pass}
use Rattle.mb_home.specs.Contents.{Contents}
use Rattle.mb_startup.specs.Begun.{AreFirstHandles, AreNewHandles, IsCreated, IsNewHandle, OwesFirstRun}
use Rattle.mb_system.specs.Members.{IsHandleOf, pool_handles_of}
use Rattle.mb_system.specs.declared.handle.WorkerHandle.{WorkerHandle}
use Rattle.mb_startup.proofs.NewGates.{all-handles}
use Rattle.mb_startup.proofs.Obligations.{owes-over}

module _ {A K : Type 0} (gates : Gates (Box Contents)) where
  -- all handles are of the gates, the first too
  pub all-led : (handles : List (WorkerHandle A K)) → AreFirstHandles gates handles → All (λ (e : WorkerHandle A K). IsHandleOf gates e.registrar) handles
  all-led handles led =
      subst (All (λ (e : WorkerHandle A K). IsHandleOf gates e.registrar)) (sym led.handles_are)
      (All-cons (λ (e : WorkerHandle A K). IsHandleOf gates e.registrar) led.handle led.others led.same_gates (all-handles gates 1 led.others led.others_are))

  -- the first of new handles takes over a pass
  pub first-ours : (handles : List (WorkerHandle A K)) (d e : WorkerHandle A K) → e ≡ get_or handles 0 d → 0 < length handles → AreNewHandles gates 0 handles
      → pass_id e.registrar.pass ≡ gates_id gates
  first-ours [] d e is some are = absurd (omega (arith, some))
  first-ours (x ∷ others) d e is some are = ap (λ (w : WorkerHandle A K). pass_id w.registrar.pass) is ∙ are.0.same_gates.0

  -- by its own port of the pool
  pub first-ports : (handles : List (WorkerHandle A K)) (d e : WorkerHandle A K) (p : Pass (Box Contents)) → e ≡ get_or handles 0 d
      → pool_handles_of (set handles 0 (record e { registrar = record e.registrar { pass = p } })) ≡ pool_handles_of handles
  first-ports [] d e p is = refl
  first-ports (x ∷ others) d e p is = ap (λ (w : WorkerHandle A K). w.registrar.run_queue.handle ∷ pool_handles_of others) is

  led-by : (x e : WorkerHandle A K) (others : List (WorkerHandle A K)) (p : Pass (Box Contents)) (v : View) → e ≡ x → IsNewHandle gates 0 x
      → AreNewHandles gates 1 others → pass_id p ≡ pass_id e.registrar.pass → IsCreated v × OwesFirstRun v
      → (pass_view p).log ≡ v.log ++ (pass_view e.registrar.pass).log → (pass_view p).got ≡ v.got ++ (pass_view e.registrar.pass).got → v.got ≡ []
      → (pass_view p).releases ≡ v.releases ++ (pass_view e.registrar.pass).releases → v.releases ≡ []
      → (pass_view p).obligations ≡ added_obligations v.obligations (pass_view e.registrar.pass).obligations
      → AreFirstHandles gates (record e { registrar = record e.registrar { pass = p } } ∷ others)
  led-by x e others p v is new are id created saw got none released none_released owed =
      let mine : IsNewHandle gates 0 e = subst (IsNewHandle gates 0) (sym is) new in record {
        handle = record e { registrar = record e.registrar { pass = p } };
        others = others;
        handles_are = refl;
        others_are = are;
        same_gates = (id ∙ mine.same_gates.0, mine.same_gates.1, mine.same_gates.2);
        first_handle = (mine.number_is, mine.nobody);
        created = (created.0.0, saw ∙ ap (λ l. v.log ++ l) mine.blank ∙ append-nil v.log ∙ created.0.1);
        settled = owes-over v (pass_view e.registrar.pass) (pass_view p) owed created.1 mine.settled;
        unclaimed = got ∙ ap (λ l. v.got ++ l) mine.unclaimed ∙ append-nil v.got ∙ none;
        none_released = released ∙ ap (λ l. v.releases ++ l) mine.none_released ∙ append-nil v.releases ∙ none_released;
        no_claims = mine.no_claims;
      }

  pub first-led : (handles : List (WorkerHandle A K)) (d e : WorkerHandle A K) (p : Pass (Box Contents)) (v : View) → e ≡ get_or handles 0 d
      → 0 < length handles → AreNewHandles gates 0 handles → pass_id p ≡ pass_id e.registrar.pass → IsCreated v × OwesFirstRun v
      → (pass_view p).log ≡ v.log ++ (pass_view e.registrar.pass).log → (pass_view p).got ≡ v.got ++ (pass_view e.registrar.pass).got → v.got ≡ []
      → (pass_view p).releases ≡ v.releases ++ (pass_view e.registrar.pass).releases → v.releases ≡ []
      → (pass_view p).obligations ≡ added_obligations v.obligations (pass_view e.registrar.pass).obligations
      → AreFirstHandles gates (set handles 0 (record e { registrar = record e.registrar { pass = p } }))
  first-led [] d e p v is some are id created saw got none released none_released owed = absurd (omega (arith, some))
  first-led (x ∷ others) d e p v is some are id created saw got none released none_released owed =
      led-by x e others p v is are.0 are.1 id created saw got none released none_released owed
