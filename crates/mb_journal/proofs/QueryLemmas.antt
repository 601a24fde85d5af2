-- What an entry more makes of each query, by what kind of entry it is.
use Rattle.std.proofs.Common.{◌≡◌, ◌+◌, ◌-◌, List, [], ◌∷◌, ◌++◌, Bool, true, false, ap, sym, ◌∙◌, append_assoc}
use Rattle.std.specs.Prelude.{not, ◌&&◌, ◌||◌, if◌then◌else◌}
use Rattle.std.proofs.lemmas.List.{append-nil}
use Rattle.mb_actor.specs.OutboxView.{spawns_of}
use Rattle.mb_journal.specs.Effects.{applies, lasting_effects}
use Rattle.mb_journal.specs.Entry.{Entry}
use Rattle.mb_journal.specs.Failure.{failed, is_failure, failure_source, is_resume_of_failure}
use Rattle.mb_journal.specs.declared.failed_by.FailedBy.TheVariants.{Nobody, Itself}
use Rattle.mb_journal.specs.Identity.{Identity, is_guardian}
use Rattle.mb_journal.specs.Incarnation.{messages, entry_messages}
use Rattle.mb_journal.specs.Life.{children, phase, closed, is_start, is_restart, is_ending, is_last, is_beginning, is_resume, after_death}
use Rattle.mb_journal.specs.Phase.{phase_is}
use Rattle.mb_journal.specs.Suspension.{Mark, mark_if, marks, marks_of, count, count_after, applies_off_fresh, is_suspend}
use Rattle.mb_journal.specs.Suspension.Mark.{Plus, Minus}
use Rattle.mb_actor.specs.declared.phase.Phase.TheVariants.{Live}
use Rattle.mb_journal.proofs.CountLemmas.{count_after-plus, count_after-minus}

-- ---- the count

-- an open mailbox has the count of its marks
pub count-open : (who : Identity) (journal : List Entry) → closed who journal ≡ false → count who journal ≡ count_after (marks who journal)
unfolding count
count-open who journal open_now = λ i. if open_now i then 0 else count_after (marks who journal)

-- a closed one has none
pub count-closed : (who : Identity) (journal : List Entry) → closed who journal ≡ true → count who journal ≡ 0
unfolding count
count-closed who journal closed_now = λ i. if closed_now i then 0 else count_after (marks who journal)

-- the count of an open mailbox after an entry with these marks
pub count-marks : (who : Identity) (e : Entry) (before : List Entry) (more : List Mark) → closed who (e ∷ before) ≡ false →
    marks_of who e before ≡ more → count who (e ∷ before) ≡ count_after (marks who before ++ more)
unfolding marks
count-marks who e before more open_now of_e = count-open who (e ∷ before) open_now ∙ ap (λ ms. count_after (marks who before ++ ms)) of_e

module _ (who : Identity) (e : Entry) (before : List Entry) (was_open : closed who before ≡ false) (is_open : closed who (e ∷ before) ≡ false) where
  -- an entry without marks keeps the count
  pub count-same : marks_of who e before ≡ [] → count who (e ∷ before) ≡ count who before
  count-same of_e =
      count-marks who e before [] is_open of_e ∙ (ap count_after (append-nil (marks who before)) ∙ sym (count-open who before was_open))

  -- one that adds a suspension
  pub count-plus : marks_of who e before ≡ Plus ∷ [] → count who (e ∷ before) ≡ count who before + 1
  count-plus of_e =
      count-marks who e before (Plus ∷ []) is_open of_e
      ∙ (count_after-plus (marks who before) ∙ ap (λ n. n + 1) (sym (count-open who before was_open)))

  -- one that takes a suspension away
  pub count-minus : marks_of who e before ≡ Minus ∷ [] → count who (e ∷ before) ≡ count who before - 1
  count-minus of_e =
      count-marks who e before (Minus ∷ []) is_open of_e
      ∙ (count_after-minus (marks who before) ∙ ap (λ n. n - 1) (sym (count-open who before was_open)))

  -- one that takes a suspension away and adds one
  pub count-minus-plus : marks_of who e before ≡ Minus ∷ Plus ∷ [] → count who (e ∷ before) ≡ count who before - 1 + 1
  count-minus-plus of_e =
      count-marks who e before (Minus ∷ Plus ∷ []) is_open of_e
      ∙ (ap count_after (sym (append_assoc (marks who before) (Minus ∷ []) (Plus ∷ [])))
      ∙ (count_after-plus (marks who before ++ Minus ∷ [])
      ∙ (ap (λ n. n + 1) (count_after-minus (marks who before)) ∙ ap (λ n. n - 1 + 1) (sym (count-open who before was_open)))))

-- the marks of an entry, by the tests that they rest on
pub marks-by : (who : Identity) (e : Entry) (before : List Entry) (starts suspends resumes restarts fails waits : Bool) →
    is_start e before ≡ starts → applies_off_fresh is_suspend who e before ≡ suspends → applies_off_fresh is_resume who e before ≡ resumes →
    is_restart who e before ≡ restarts → is_failure who e before ≡ fails → (is_ending e before && not (is_last who e before)) ≡ waits →
    marks_of who e before
    ≡ mark_if starts Minus ++ mark_if suspends Plus ++ mark_if (resumes || restarts) Minus ++ mark_if fails Plus ++ mark_if waits Plus
marks-by who e before starts suspends resumes restarts fails waits a b c d f w =
    λ i. mark_if (a i) Minus ++ mark_if (b i) Plus ++ mark_if (c i || d i) Minus ++ mark_if (f i) Plus ++ mark_if (w i) Plus

-- ---- who made the actor fail

module _ (who : Identity) (e : Entry) (before : List Entry) where
  -- after a failure it is who made it fail
  pub failed-failure : is_failure who e before ≡ true → failed who (e ∷ before) ≡ failure_source e
  unfolding failed
  failed-failure fails =
      λ i. if fails i then failure_source e
      else (if is_restart who e before then Nobody
      else (if applies is_resume_of_failure e && phase_is (phase who before) Live then Nobody
      else (if is_ending e before && not (is_last who e before) then Itself
      else failed who before)))

  -- after a restart that is none it is nobody
  pub failed-restart : is_failure who e before ≡ false → is_restart who e before ≡ true → failed who (e ∷ before) ≡ Nobody
  unfolding failed
  failed-restart fails restarts =
      λ i. if fails i then failure_source e
      else (if restarts i then Nobody
      else (if applies is_resume_of_failure e && phase_is (phase who before) Live then Nobody
      else (if is_ending e before && not (is_last who e before) then Itself
      else failed who before)))

  -- after an entry that is none of these it is who it was
  pub failed-same : is_failure who e before ≡ false → is_restart who e before ≡ false →
      (applies is_resume_of_failure e && phase_is (phase who before) Live) ≡ false → (is_ending e before && not (is_last who e before)) ≡ false →
      failed who (e ∷ before) ≡ failed who before
  unfolding failed
  failed-same fails restarts resumes waits =
      λ i. if fails i then failure_source e
      else (if restarts i then Nobody
      else (if resumes i then Nobody
      else (if waits i then Itself
      else failed who before)))

  -- ---- the incarnation's messages

  -- a start or a restart forgets them
  pub messages-beginning : is_beginning who e before ≡ true → messages who (e ∷ before) ≡ []
  unfolding messages
  messages-beginning begins = λ i. if begins i then [] else messages who before ++ entry_messages e

  -- any other entry adds what it gave the actor to handle
  pub messages-more : is_beginning who e before ≡ false → messages who (e ∷ before) ≡ messages who before ++ entry_messages e
  unfolding messages
  messages-more begins = λ i. if begins i then [] else messages who before ++ entry_messages e

  -- ---- the children of an actor that is not the guardian

  pub children-more : is_guardian who ≡ false → children who (e ∷ before) ≡ after_death e (children who before) ++ spawns_of (lasting_effects e)
  unfolding children
  children-more an_actor =
      λ i. after_death e (children who before)
      ++ (if an_actor i then (if is_start e before then who.prepared else []) else spawns_of (lasting_effects e))
