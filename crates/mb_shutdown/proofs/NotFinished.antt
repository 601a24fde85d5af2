-- What is found at the end of a system, in the words of its plan.
use Rattle.std.proofs.Common.{◌≡◌, ℕ, sym, ◌∙◌, subst}
use Rattle.std.specs.Prelude.{All, ◌<◌}
use Rattle.std.proofs.lemmas.List.Elements.{All-head}
use Rattle.mb_actor.specs.Behaviour.{Moment, Reply}
use Rattle.mb_gate.specs.Accessors.{actors_of, first_home}
use Rattle.mb_gate.specs.View.{View}
use Rattle.mb_msg.specs.declared.plan.Plan.{Plan}
use Rattle.mb_shutdown.specs.declared.mismatch.Mismatch.{Mismatch as What}
use Rattle.mb_build.specs.Planned.{IsDirectoryOf}
use Rattle.mb_system.specs.Members.{IsHandleOf}
use Rattle.mb_system.specs.declared.built.Built.{Built}
use Rattle.mb_system.specs.declared.handle.WorkerHandle.{WorkerHandle}
use Rattle.mb_shutdown.specs.Belonging.{HasRead}
use Rattle.mb_shutdown.specs.Refused.{DisagreesAtEnd, FindsBusy}
use Rattle.mb_shutdown.specs.NotFinished.{DoesNotAgree, HasWorkLeft}

module _ {A K : Type 0} (plan : Plan) (built : Built A K) (planned : IsDirectoryOf plan (first_home built.system.gates).value.directory) where
  pub work-left : All (λ (e : WorkerHandle A K). IsHandleOf built.system.gates e.registrar) built.handles.items → (id : ℕ) (back : Built A K)
      → id < actors_of built.system.gates → HasRead (FindsBusy id) built back → HasWorkLeft plan id
  work-left handles id back within (before, after, is, first_busy_of) = record {
    gates = built.system.gates;
    planned = planned;
    within = within;
    before = is.first.registrar;
    after = is.first'.registrar;
    same_gates = All-head (λ (e : WorkerHandle A K). IsHandleOf built.system.gates e.registrar) is.first is.rest
        (subst (λ l. All (λ (e : WorkerHandle A K). IsHandleOf built.system.gates e.registrar) l) is.was handles);
    same = is.same_gates;
    found = subst (λ (p : View × View). FindsBusy id p.0 p.1) (λ i. (sym is.knew i, sym is.knows i)) first_busy_of;
  }

  pub does-not-agree : (gives : ℕ → Moment → Reply → Type 0) (what : What) → built.system.senders ≡ plan.senders → DisagreesAtEnd gives built what
      → DoesNotAgree gives plan what
  does-not-agree gives what senders at_end = record {
    gates = built.system.gates;
    planned = planned;
    view = at_end.view;
    outside = at_end.outside;
    same_count = at_end.send_passes.length_is ∙ senders;
    waiting = at_end.waiting;
    counted = at_end.counted;
    disagrees = at_end.disagrees;
  }
