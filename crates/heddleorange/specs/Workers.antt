-- What the workers of a whole run did.
use Rattle.std.specs.Prelude.{◌≡◌, ℕ, List, [], ◌∷◌, All}
use Rattle.std.specs.Global.{Box}
use Rattle.std.specs.List.{AllZip}
use Rattle.mb_actor.specs.Behaviour.{Moment, Reply}
use Rattle.mb_gate.specs.Accessors.{pass_view}
use Rattle.mb_gate.specs.Untouched.{Origin}
use Rattle.mb_gate.specs.View.{Pushed, View}
use Rattle.mb_home.specs.Contents.{Contents}
use Rattle.mb_msg.specs.declared.system.SysMsg.TheVariants.{Create}
use Rattle.mb_system.specs.declared.handle.WorkerHandle.{WorkerHandle}
use Rattle.mb_dispatch.specs.Runs.{OnlyRuns}

module _ {A K : Type 0} (gives : ℕ → Moment → Reply → Type 0) (origin : Origin (Box Contents)) (throughput : ℕ) where
  -- Each of these handles, given before and after, only made runs, of mailboxes of claims of these gates by this throughput.
  abbrev pub AllOnlyRuns : List (WorkerHandle A K) → List (WorkerHandle A K) → Type 0
  AllOnlyRuns = AllZip (λ (o n : WorkerHandle A K). OnlyRuns gives origin throughput (pass_view o.registrar.pass) (pass_view n.registrar.pass))

-- What the handles of a new system know: the first put a Create into the guardian's list; else nobody saw or did anything.
abbrev pub AreNewViews : List View → Type 0
AreNewViews [] = ⊥
AreNewViews (first ∷ others) = ((number : ℕ) × (first.log ≡ Pushed 0 number Create ∷ [])) × All (λ (v : View). v.log ≡ []) others
