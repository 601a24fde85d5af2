-- What a run tells where it gives no report.
use Rattle.std.proofs.Common.{◌≡◌, ℕ, List, [], String, Some, length, subst, sym, ap, ◌∙◌}
use Rattle.std.specs.Prelude.{Err, IfErr, Ok, Result}
use Rattle.std.specs.Global.{Global}
use Rattle.mb_actor.specs.Behaviour.{Moment, Reply}
use Rattle.mb_msg.specs.declared.order.Order.{Order}
use Rattle.mb_msg.specs.declared.plan.Plan.{Plan}
use Rattle.heddleorange.specs.GivesBack.{GivesNothingBack, tells_of_nothing_done}
use Rattle.heddleorange.specs.GivesNoReport.{GivesNoReport}
use Rattle.heddleorange.specs.NamedOrder.{NamesInLists}
use Rattle.heddleorange.specs.NoReport.{IsErrorOfRun, IsRight, IsUnfit}
use Rattle.heddleorange.specs.Remains.{IsWithoutMemory}
use Rattle.heddleorange.specs.declared.error.Error.{Error}
use Rattle.heddleorange.specs.declared.failed_run.FailedRun.{FailedRun}
use Rattle.heddleorange.specs.declared.failed_run.Untouched.{Untouched}
use Rattle.heddleorange.proofs.GivesBack.{all-back, begun-in-lists, named-back, named-failed, none-back, nothing-done}
use Rattle.heddleorange.proofs.NoReport.{unfit, without-memory}

module _ {A : Type 0} (gives : ℕ → Moment → Reply → Type 0) (plan : Plan) (actors : List A) (orders : List (List Order)) where
  -- the run was begun
  pub begun-failure : (failed : FailedRun A) → IsErrorOfRun gives plan (length actors) orders failed → GivesNothingBack failed
      → GivesNoReport gives plan actors [] orders failed
  begun-failure failed why none = record {
    refused = why;
    which = begun-in-lists (length actors) orders failed.error none.was_begun;
    back = none-back plan actors failed none;
  }

  -- nothing was done
  pub unfit-failure : (failed : FailedRun A) (error : Error) → failed.error ≡ error → failed.actors.items ≡ []
      → (back : Untouched A) × (failed.untouched ≡ Some back) × (back.plan ≡ plan) × (back.actors.items ≡ actors) → failed.names.texts.items ≡ []
      → IsUnfit plan (length actors) orders error → NamesInLists (length actors) orders error → GivesNoReport gives plan actors [] orders failed
  unfit-failure failed error is none untouched unnamed refused names = record {
    refused = unfit gives plan (length actors) orders failed error is none refused;
    which = subst (NamesInLists (length actors) orders) (sym is) names;
    back = all-back plan actors failed (ap tells_of_nothing_done is ∙ nothing-done plan (length actors) orders error refused) untouched unnamed;
  }

  -- what is right is not built only for want of memory
  pub short-failure : {T : Type 0} (result : Result T (FailedRun A)) → IsRight plan (length actors) orders → IfErr result IsWithoutMemory
      → IfErr result GivesNothingBack → IfErr result (GivesNoReport gives plan actors [] orders)
  short-failure (Ok x) right short none = tt
  short-failure (Err failed) right short none =
      begun-failure failed (without-memory gives plan (length actors) orders failed right short) none

  -- names were added
  pub named-failure : (names : List (String Global)) (old new : FailedRun A) → new.error ≡ old.error → new.actors.items ≡ old.actors.items
      → new.untouched ≡ old.untouched → new.names.texts.items ≡ names → GivesNoReport gives plan actors [] orders old
      → GivesNoReport gives plan actors names orders new
  named-failure names old new error left untouched named failure = record {
    refused = named-failed gives plan (length actors) orders old new error left failure.refused;
    which = subst (NamesInLists (length actors) orders) (sym error) failure.which;
    back = named-back plan actors names old new error untouched named failure.back;
  }
