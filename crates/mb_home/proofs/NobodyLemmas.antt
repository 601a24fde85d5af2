-- An actor that is Fresh is failed by nobody.
use Rattle.std.proofs.Common.{◌≡◌, Bool, true, false, List, [], ◌∷◌, refl, sym, ap, ◌∙◌}
use Rattle.std.specs.Prelude.{not, ◌&&◌, ◌||◌, if◌then◌else◌}
use Rattle.mb_msg.specs.declared.system.SysMsg.{SysMsg}
use Rattle.mb_msg.specs.declared.system.SysMsg.TheVariants as system
use Rattle.mb_actor.specs.ActorList.{has}
use Rattle.mb_actor.specs.Behaviour.{Moment, Reply}
use Rattle.mb_actor.specs.declared.phase.Phase.{Phase}
use Rattle.mb_actor.specs.declared.phase.Phase.TheVariants.{Fresh, Live, Broken, Ending, Ended}
use Rattle.mb_journal.specs.Effects.{applies}
use Rattle.mb_journal.specs.Entry.{Entry, answered_failed}
use Rattle.mb_journal.specs.Entry.Entry.{Handled, System, Dropped}
use Rattle.mb_journal.specs.Entry.Outcome.{Applied, SetAside}
use Rattle.mb_journal.specs.Failure.{failed, is_nobody, is_escalate, failure_source, is_resume_of_failure, fails_by_envelope}
use Rattle.mb_journal.specs.declared.failed_by.FailedBy.{FailedBy}
use Rattle.mb_journal.specs.declared.failed_by.FailedBy.TheVariants.{Nobody, Itself}
use Rattle.mb_journal.specs.Identity.{Identity}
use Rattle.mb_journal.specs.Lawful.{AreLawful, IsLawfulEntry}
use Rattle.mb_journal.specs.Life.{children, phase}
use Rattle.mb_journal.specs.Phase.{phase_is}
use Rattle.mb_journal.specs.Supervision.{directive_of}
use Rattle.mb_journal.proofs.Fold.{Queries, queries, queries-fold, starts, ends, restarts, lasts, escalates, fails}
use Rattle.mb_journal.proofs.PhaseLemmas.{not_started}
use Rattle.mb_journal.proofs.TestLemmas.{and-false}
use Rattle.mb_cell.proofs.StartLemmas.{unstarted}

abbrev next_phase : (p : Phase) (last ending begins failing : Bool) → Phase
next_phase p last ending begins failing =
    if phase_is p Ended || last then Ended
    else (if phase_is p Ending || ending then Ending else (if begins then (if failing then Broken else Live) else p))

-- an actor that is Fresh after an entry was so before, and neither began nor ended with it
fresh-from : (p : Phase) (last ending begins failing : Bool) → next_phase p last ending begins failing ≡ Fresh →
    (p ≡ Fresh) × (ending ≡ false) × (begins ≡ false)
fresh-from Fresh true ending begins failing is = absurd (let no : Ended ≡ Fresh = is in cc no)
fresh-from Live true ending begins failing is = absurd (let no : Ended ≡ Fresh = is in cc no)
fresh-from Broken true ending begins failing is = absurd (let no : Ended ≡ Fresh = is in cc no)
fresh-from Ending true ending begins failing is = absurd (let no : Ended ≡ Fresh = is in cc no)
fresh-from Ended last ending begins failing is = absurd (let no : Ended ≡ Fresh = is in cc no)
fresh-from Fresh false true begins failing is = absurd (let no : Ending ≡ Fresh = is in cc no)
fresh-from Live false true begins failing is = absurd (let no : Ending ≡ Fresh = is in cc no)
fresh-from Broken false true begins failing is = absurd (let no : Ending ≡ Fresh = is in cc no)
fresh-from Ending false ending begins failing is = absurd (let no : Ending ≡ Fresh = is in cc no)
fresh-from Fresh false false true true is = absurd (let no : Broken ≡ Fresh = is in cc no)
fresh-from Fresh false false true false is = absurd (let no : Live ≡ Fresh = is in cc no)
fresh-from Live false false true true is = absurd (let no : Broken ≡ Fresh = is in cc no)
fresh-from Live false false true false is = absurd (let no : Live ≡ Fresh = is in cc no)
fresh-from Broken false false true true is = absurd (let no : Broken ≡ Fresh = is in cc no)
fresh-from Broken false false true false is = absurd (let no : Live ≡ Fresh = is in cc no)
fresh-from Fresh false false false failing is = (refl, refl, refl)
fresh-from Live false false false failing is = absurd (let no : Live ≡ Fresh = is in cc no)
fresh-from Broken false false false failing is = absurd (let no : Broken ≡ Fresh = is in cc no)

still-nobody : (culprit by : FailedBy) (failing restart resume ending waits : Bool) → failing ≡ false → ending ≡ false → by ≡ Nobody →
    (if failing then culprit else (if restart then Nobody else (if resume then Nobody else (if ending && waits then Itself else by)))) ≡ Nobody
still-nobody culprit by true restart resume ending waits f e n = absurd (cc f)
still-nobody culprit by false restart resume true waits f e n = absurd (cc e)
still-nobody culprit by false true resume false waits f e n = refl
still-nobody culprit by false false true false waits f e n = refl
still-nobody culprit by false false false false waits f e n = n

module _ (who : Identity) (gives : Moment → Reply → Type 0) where
  -- while Fresh no envelope is handled, and there is no child whose failure could be passed up
  no-failure : (before : List Entry) (e : Entry) → IsLawfulEntry who gives before e → phase who before ≡ Fresh → children who before ≡ [] →
      (fails_by_envelope e || escalates who (queries who before) e) ≡ false
  no-failure before (Handled envelope reading (Applied a effects)) lawful fresh childless =
      absurd (let no : Live ≡ Fresh = sym lawful.live ∙ fresh in cc no)
  no-failure before (Handled envelope reading SetAside) lawful fresh childless = absurd lawful
  no-failure before (Dropped envelope) lawful fresh childless = refl
  no-failure before (System number m SetAside) lawful fresh childless = by_message m
    where
      by_message : (m : SysMsg) → escalates who (queries who before) (System number m SetAside) ≡ false
      by_message system.Create = refl
      by_message (system.Recreate c) = refl
      by_message system.Suspend = refl
      by_message (system.Resume f) = refl
      by_message system.Terminate = refl
      by_message (system.Watch w) = refl
      by_message (system.Unwatch w) = refl
      by_message (system.Failed x c) = refl
      by_message (system.Died x) = refl
  no-failure before (System number m (Applied a effects)) lawful fresh childless = by_message m
    where
      by_message : (m : SysMsg) → escalates who (queries who before) (System number m (Applied a effects)) ≡ false
      by_message system.Create = refl
      by_message (system.Recreate c) = refl
      by_message system.Suspend = refl
      by_message (system.Resume f) = refl
      by_message system.Terminate = refl
      by_message (system.Watch w) = refl
      by_message (system.Unwatch w) = refl
      by_message (system.Failed x c) = ap (λ list. has list x && is_escalate (directive_of who c)) childless
      by_message (system.Died x) = refl

  pub nobody-fresh : (journal : List Entry) → AreLawful who gives journal → phase who journal ≡ Fresh → failed who journal ≡ Nobody
  unfolding AreLawful failed
  nobody-fresh [] lawful fresh = refl
  nobody-fresh (e ∷ before) lawful fresh =
      let now : Queries = queries who before in
      let was = fresh-from (phase who before) (lasts now e) (ends now e) (starts now e || restarts who now e) (answered_failed e)
      (sym (ap (λ (q : Queries). q.phase) (queries-fold who before e)) ∙ fresh) in
      let childless : children who before ≡ [] = (unstarted who gives before lawful.1 (not_started who before was.0)).no_children in
      let none : (fails_by_envelope e || escalates who now e) ≡ false = no-failure before e lawful.0 was.0 childless in
      let fails_not : fails who now e ≡ false =
      (λ i. (was.2 i && answered_failed e) || (is_nobody (failed who before) && none i)) ∙ and-false (is_nobody (failed who before)) in
      ap (λ (q : Queries). q.failed) (queries-fold who before e)
      ∙ still-nobody (failure_source e) (failed who before) (fails who now e) (restarts who now e)
      (applies is_resume_of_failure e && phase_is now.phase Live)
      (ends now e) (not (lasts now e)) fails_not was.1 (nobody-fresh before lawful.1 was.0)
