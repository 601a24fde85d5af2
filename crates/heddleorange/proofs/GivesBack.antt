-- What a run that gave no report gives back, and which order its error names.
use Rattle.std.proofs.Common.{◌≡◌, ℕ, true, false, List, [], Option, None, Some, refl, sym, ap, ◌∙◌, subst}
use Rattle.std.specs.Prelude.{Err, IfErr, Ok, Result, String, if◌then◌else◌, option_map}
use Rattle.std.specs.Global.{Global}
use Rattle.mb_actor.specs.Behaviour.{Moment, Reply}
use Rattle.mb_msg.specs.declared.order.Order.{Order}
use Rattle.mb_msg.specs.declared.order.SenderOrder.{SenderOrder}
use Rattle.mb_msg.specs.declared.plan.Plan.{Plan}
use Rattle.mb_shutdown.specs.declared.unfinished.UnfinishedActor.{UnfinishedActor}
use Rattle.heddleorange.specs.GivesBack.{GivesBack, GivesNothingBack, given_back, tells_of_nothing_done}
use Rattle.heddleorange.specs.NamedOrder.{NamesInLists, NamesInRow}
use Rattle.heddleorange.specs.NoReport.{HasFailedFor, IsErrorOfRun, IsUnfit}
use Rattle.heddleorange.specs.declared.error.Error.{Error}
use Rattle.heddleorange.specs.declared.error.Error.TheVariants.{BadPlan, OrderLists, NoSuchSender, NoSuchActor, NoMemory, NoMemoryInRun, JournalFull, Mismatch, NameTaken}
use Rattle.heddleorange.specs.declared.failed_run.FailedRun.{FailedRun}
use Rattle.heddleorange.specs.declared.failed_run.Untouched.{Untouched}

-- what is refused before it begins has such an error
pub nothing-done : (plan : Plan) (actors : ℕ) (orders : List (List Order)) (error : Error) → IsUnfit plan actors orders error
    → tells_of_nothing_done error ≡ true
nothing-done plan actors orders (BadPlan reason) unfit = refl
nothing-done plan actors orders (OrderLists lists senders) unfit = refl
nothing-done plan actors orders (NoSuchSender place sender) unfit = refl
nothing-done plan actors orders (NoSuchActor sender place to) unfit = refl
nothing-done plan actors orders NoMemory unfit = absurd unfit
nothing-done plan actors orders NoMemoryInRun unfit = absurd unfit
nothing-done plan actors orders (JournalFull id) unfit = absurd unfit
nothing-done plan actors orders (Mismatch what) unfit = absurd unfit
nothing-done plan actors orders (NameTaken id) unfit = absurd unfit

-- an error of a run that was begun names no order
pub begun-in-lists : (actors : ℕ) (orders : List (List Order)) (error : Error) → tells_of_nothing_done error ≡ false → NamesInLists actors orders error
begun-in-lists actors orders (BadPlan reason) begun = tt
begun-in-lists actors orders (OrderLists lists senders) begun = tt
begun-in-lists actors orders (NoSuchSender place sender) begun = absurd (cc begun)
begun-in-lists actors orders (NoSuchActor sender place to) begun = absurd (cc begun)
begun-in-lists actors orders NoMemory begun = tt
begun-in-lists actors orders NoMemoryInRun begun = tt
begun-in-lists actors orders (JournalFull id) begun = tt
begun-in-lists actors orders (Mismatch what) begun = tt
begun-in-lists actors orders (NameTaken id) begun = tt

pub begun-in-row : (senders actors : ℕ) (row : List SenderOrder) (error : Error) → tells_of_nothing_done error ≡ false → NamesInRow senders actors row error
begun-in-row senders actors row (BadPlan reason) begun = tt
begun-in-row senders actors row (OrderLists lists given) begun = absurd (cc begun)
begun-in-row senders actors row (NoSuchSender place sender) begun = absurd (cc begun)
begun-in-row senders actors row (NoSuchActor sender place to) begun = absurd (cc begun)
begun-in-row senders actors row NoMemory begun = tt
begun-in-row senders actors row NoMemoryInRun begun = tt
begun-in-row senders actors row (JournalFull id) begun = tt
begun-in-row senders actors row (Mismatch what) begun = tt
begun-in-row senders actors row (NameTaken id) begun = tt

module _ {A : Type 0} (plan : Plan) (actors : List A) where
  -- all comes back
  pub all-back : (failed : FailedRun A) → tells_of_nothing_done failed.error ≡ true
      → (back : Untouched A) × (failed.untouched ≡ Some back) × (back.plan ≡ plan) × (back.actors.items ≡ actors) → failed.names.texts.items ≡ []
      → GivesBack plan actors [] failed
  all-back failed done (back, is, same_plan, same_actors) unnamed = record {
    untouched_is = ap (option_map given_back) is ∙ (λ i. Some (same_plan i, same_actors i))
        ∙ sym (ap (λ b. if b then Some (plan, actors) else None) done);
    names_are = unnamed;
  }

  -- nothing does
  pub none-back : (failed : FailedRun A) → GivesNothingBack failed → GivesBack plan actors [] failed
  none-back failed none = record {
    untouched_is = ap (option_map given_back) none.none_untouched
        ∙ sym (ap (λ b. if b then Some (plan, actors) else None) none.was_begun);
    names_are = none.unnamed;
  }

  pub none-of : {T : Type 0} (result : Result T (FailedRun A)) → IfErr result GivesNothingBack → IfErr result (GivesBack plan actors [])
  none-of (Ok x) none = tt
  none-of (Err failed) none = none-back failed none

  -- with names
  pub named-back : (names : List (String Global)) (old new : FailedRun A) → new.error ≡ old.error → new.untouched ≡ old.untouched
      → new.names.texts.items ≡ names → GivesBack plan actors [] old → GivesBack plan actors names new
  named-back names old new error untouched named back = record {
    untouched_is = ap (option_map given_back) untouched ∙ back.untouched_is
        ∙ ap (λ e. if tells_of_nothing_done e then Some (plan, actors) else None) (sym error);
    names_are = named;
  }

pub named-failed : {A : Type 0} (gives : ℕ → Moment → Reply → Type 0) (plan : Plan) (actors : ℕ) (orders : List (List Order)) (old new : FailedRun A)
    → new.error ≡ old.error → new.actors.items ≡ old.actors.items → IsErrorOfRun gives plan actors orders old → IsErrorOfRun gives plan actors orders new
named-failed gives plan actors orders old new error left told =
    subst (λ (p : List (Option UnfinishedActor) × Error). HasFailedFor gives plan actors orders p.0 p.1) (λ i. (sym left i, sym error i)) told

pub none-in-row : {T A : Type 0} (senders actors : ℕ) (row : List SenderOrder) (result : Result T (FailedRun A)) → IfErr result GivesNothingBack
    → IfErr result (λ failed. NamesInRow senders actors row failed.error)
none-in-row senders actors row (Ok x) none = tt
none-in-row senders actors row (Err failed) none = begun-in-row senders actors row failed.error none.was_begun
