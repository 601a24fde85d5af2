-- By whom an actor is failed, by the newest entry that decides it.
use Rattle.std.proofs.Common.{◌≡◌, Bool, true, false, List, [], ◌∷◌, refl, sym, ap, ◌∙◌}
use Rattle.std.specs.Prelude.{not, ◌&&◌, ◌||◌, if◌then◌else◌, Option, Some}
use Rattle.mb_msg.specs.declared.system.SysMsg.TheVariants as system
use Rattle.mb_journal.specs.Entry.{Entry}
use Rattle.mb_journal.specs.Entry.Entry.{Handled, System, Dropped}
use Rattle.mb_journal.specs.Entry.Outcome.{Applied, SetAside}
use Rattle.mb_journal.specs.Failure.{failed, is_failure, is_nobody, is_escalation, failure_source}
use Rattle.mb_journal.specs.declared.failed_by.FailedBy.{FailedBy}
use Rattle.mb_journal.specs.declared.failed_by.FailedBy.TheVariants.{Nobody, Itself, Child}
use Rattle.mb_journal.specs.Identity.{Identity}
use Rattle.mb_journal.specs.Life.{is_restart, is_ending}
use Rattle.mb_journal.specs.NewestFailure.{newest_where, resumes_for_failure, waits_for_children, decides_failure, decided_failure}

-- ---- whose failure it is

abbrev culprit : Identity → Entry → List Entry → FailedBy
culprit who e before = if is_escalation who e before then failure_source e else Itself

first : (a b : Bool) → (a && b) ≡ true → a ≡ true
first true b is = refl
first false b is = is

second : (a b : Bool) → (a && b) ≡ true → b ≡ true
second true b is = is
second false b is = absurd (differ is)
  where
    differ : false ≡ true → ⊥
    differ e = cc

-- a failure is by the child if it is an escalation, and else by the actor itself
of_failure-culprit : (who : Identity) (e : Entry) (before : List Entry) → is_failure who e before ≡ true → failure_source e ≡ culprit who e before
of_failure-culprit who (Handled envelope reading outcome) before fails = refl
of_failure-culprit who (System number system.Create outcome) before fails = refl
of_failure-culprit who (System number system.Suspend outcome) before fails = refl
of_failure-culprit who (System number (system.Resume of_failure) outcome) before fails = refl
of_failure-culprit who (System number (system.Recreate c) outcome) before fails = refl
of_failure-culprit who (System number system.Terminate outcome) before fails = refl
of_failure-culprit who (System number (system.Watch w) outcome) before fails = refl
of_failure-culprit who (System number (system.Unwatch w) outcome) before fails = refl
of_failure-culprit who (System number (system.Died y) outcome) before fails = refl
of_failure-culprit who (System number (system.Failed x c) (Applied answer effects)) before fails =
    let escalates : is_escalation who (System number (system.Failed x c) (Applied answer effects)) before ≡ true =
    second (is_nobody (failed who before)) _ fails in
    ap (λ b. if b then Child x else Itself) (sym escalates)
of_failure-culprit who (System number (system.Failed x c) SetAside) before fails =
    let never : false ≡ true = second (is_nobody (failed who before)) false fails in
    ap (λ b. if b then Child x else Itself) (sym never)
of_failure-culprit who (Dropped envelope) before fails = refl

-- an ending is by the actor itself
ending-culprit : (who : Identity) (e : Entry) (before : List Entry) → is_ending e before ≡ true → Itself ≡ culprit who e before
ending-culprit who (Handled envelope reading outcome) before ends = refl
ending-culprit who (System number system.Create outcome) before ends = refl
ending-culprit who (System number system.Suspend outcome) before ends = refl
ending-culprit who (System number (system.Resume of_failure) outcome) before ends = refl
ending-culprit who (System number (system.Recreate c) outcome) before ends = refl
ending-culprit who (System number system.Terminate outcome) before ends = refl
ending-culprit who (System number (system.Watch w) outcome) before ends = refl
ending-culprit who (System number (system.Unwatch w) outcome) before ends = refl
ending-culprit who (System number (system.Died y) outcome) before ends = refl
ending-culprit who (System number (system.Failed x c) (Applied answer effects)) before ends = absurd (differ ends)
  where
    differ : false ≡ true → ⊥
    differ e = cc
ending-culprit who (System number (system.Failed x c) SetAside) before ends = refl
ending-culprit who (Dropped envelope) before ends = refl

-- ---- one entry more, by its tests

abbrev pick : (failure restart pardon waits : Bool) → FailedBy → FailedBy → FailedBy
pick failure restart pardon waits source by =
    if failure then source else (if restart then Nobody else (if pardon then Nobody else (if waits then Itself else by)))

step : (who : Identity) (e : Entry) (before : List Entry) (found : Option (Entry × List Entry)) (f r p w : Bool) →
    is_failure who e before ≡ f → is_restart who e before ≡ r → resumes_for_failure who e before ≡ p → waits_for_children who e before ≡ w →
    pick f r p w (failure_source e) (decided_failure who found)
    ≡ (if f || r || p || w then (if not f && (r || p) then Nobody else culprit who e before) else decided_failure who found)
step who e before found true r p w is_f is_r is_p is_w = of_failure-culprit who e before is_f
step who e before found false true p w is_f is_r is_p is_w = refl
step who e before found false false true w is_f is_r is_p is_w = refl
step who e before found false false false true is_f is_r is_p is_w = ending-culprit who e before (first (is_ending e before) _ is_w)
step who e before found false false false false is_f is_r is_p is_w = refl

-- what is decided, by the search's first test
search-more : (who : Identity) (e : Entry) (before : List Entry) (found : Option (Entry × List Entry)) (b : Bool) →
    (if b then (if not (is_failure who e before) && (is_restart who e before || resumes_for_failure who e before) then Nobody else culprit who e before)
    else decided_failure who found)
    ≡ decided_failure who (if b then Some (e, before) else found)
search-more who e before found true = refl
search-more who e before found false = refl

pub failed-newest : (who : Identity) (journal : List Entry) → failed who journal ≡ decided_failure who (newest_where (decides_failure who) journal)
unfolding failed
failed-newest who [] = refl
failed-newest who (e ∷ before) =
    let found = newest_where (decides_failure who) before in
    ap (λ by. pick (is_failure who e before) (is_restart who e before) (resumes_for_failure who e before) (waits_for_children who e before) (failure_source e) by)
    (failed-newest who before)
    ∙ step who e before found (is_failure who e before) (is_restart who e before) (resumes_for_failure who e before) (waits_for_children who e before)
    refl refl refl refl
    ∙ search-more who e before found (decides_failure who e before)
