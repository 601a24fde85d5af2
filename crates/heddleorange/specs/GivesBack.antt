-- What a run that gave no report gives back of what was handed in (this project's own profile).
use Rattle.std.specs.Prelude.{◌≡◌, Bool, true, false, if◌then◌else◌, List, [], Some, None, String, option_map}
use Rattle.std.specs.Global.{Global}
use Rattle.mb_msg.specs.declared.plan.Plan.{Plan}
use Rattle.heddleorange.specs.declared.error.Error.{Error}
use Rattle.heddleorange.specs.declared.error.Error.TheVariants.{BadPlan, OrderLists, NoSuchSender, NoSuchActor, NoMemory, NoMemoryInRun, JournalFull, Mismatch, NameTaken}
use Rattle.heddleorange.specs.declared.failed_run.FailedRun.{FailedRun}
use Rattle.heddleorange.specs.declared.failed_run.Untouched.{Untouched}

-- The error tells that nothing was done.
abbrev pub tells_of_nothing_done : Error → Bool
tells_of_nothing_done (BadPlan reason) = true
tells_of_nothing_done (OrderLists lists senders) = true
tells_of_nothing_done (NoSuchSender place sender) = true
tells_of_nothing_done (NoSuchActor sender place to) = true
tells_of_nothing_done NoMemory = false
tells_of_nothing_done NoMemoryInRun = false
tells_of_nothing_done (JournalFull id) = false
tells_of_nothing_done (Mismatch what) = false
tells_of_nothing_done (NameTaken id) = false

-- The plan and the actors of these.
abbrev pub given_back : {A : Type 0} → Untouched A → Plan × List A
given_back untouched = (untouched.plan, untouched.actors.items)

-- The plan and the actors come back exactly where nothing was done, and these names in any case.
pub record GivesBack {A : Type 0} (plan : Plan) (actors : List A) (names : List (String Global)) (failed : FailedRun A) : Type 0 where
  pub untouched_is : option_map given_back failed.untouched
      ≡ (if tells_of_nothing_done failed.error then Some (plan, actors) else None)
  pub names_are : failed.names.texts.items ≡ names

-- Something was done: the plan and the actors do not come back, and no names were handed in.
pub record GivesNothingBack {A : Type 0} (failed : FailedRun A) : Type 0 where
  pub was_begun : tells_of_nothing_done failed.error ≡ false
  pub none_untouched : failed.untouched ≡ None
  pub unnamed : failed.names.texts.items ≡ []
