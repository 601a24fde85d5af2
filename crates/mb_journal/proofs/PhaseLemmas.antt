-- The phase of a journal: what it says of starts and endings, and what an entry more makes of it.
use Rattle.std.proofs.Common.{◌≡◌, List, [], ◌∷◌, Bool, true, false, refl}
use Rattle.std.specs.Prelude.{not, ◌&&◌, ◌||◌, if◌then◌else◌}
use Rattle.mb_journal.specs.Effects.{applies}
use Rattle.mb_journal.specs.Entry.{Entry, answered_failed}
use Rattle.mb_journal.specs.Identity.{Identity, is_guardian}
use Rattle.mb_journal.specs.Life.{children, phase, has_start, has_ending, is_create, is_terminate, is_recreate, is_resume, is_empty, ends_last_child}
use Rattle.mb_journal.specs.Phase.{phase_is}
use Rattle.mb_actor.specs.declared.phase.Phase.{Phase}
use Rattle.mb_actor.specs.declared.phase.Phase.TheVariants.{Fresh, Live, Broken, Ending, Ended}

-- what the phase says of starts: none while Fresh, and one while Live or Broken
abbrev pub starts_agree : Phase → Bool → Type 0
starts_agree Fresh started = started ≡ false
starts_agree Live started = started ≡ true
starts_agree Broken started = started ≡ true
starts_agree _ started = Unit {0}

-- and of endings: none while Fresh, Live or Broken, and one while Ending or Ended
abbrev pub endings_agree : Phase → Bool → Type 0
endings_agree Ending ended = ended ≡ true
endings_agree Ended ended = ended ≡ true
endings_agree _ ended = ended ≡ false

-- the phase after an entry, by the tests that it rests on
abbrev pub phase_by : Phase → (started ended creates terminates failed childless last_child restarts guardian : Bool) → Phase
phase_by p started ended creates terminates failed childless last_child restarts guardian =
    if phase_is p Ended || ((terminates && not ended && childless) || (phase_is p Ending && last_child)) then Ended
    else (if phase_is p Ending || (terminates && not ended) then Ending
    else (if (creates && not started) || (restarts && not (phase_is p Fresh) && not guardian) then (if failed then Broken else Live)
    else p))

step : (p : Phase) (s x c t a n l r g : Bool) → starts_agree p s → endings_agree p x →
    starts_agree (phase_by p s x c t a n l r g) (c || s) × endings_agree (phase_by p s x c t a n l r g) (t || x)
step Fresh true x c t a n l r g s' x' = cc
step Fresh false true c t a n l r g s' x' = cc
step Fresh false false c true a true l r g s' x' = (tt, refl)
step Fresh false false c true a false l r g s' x' = (tt, refl)
step Fresh false false true false true n l r g s' x' = (refl, refl)
step Fresh false false true false false n l r g s' x' = (refl, refl)
step Fresh false false false false a n l true g s' x' = (refl, refl)
step Fresh false false false false a n l false g s' x' = (refl, refl)
step Live false x c t a n l r g s' x' = cc
step Live true true c t a n l r g s' x' = cc
step Live true false c true a true l r g s' x' = (tt, refl)
step Live true false c true a false l r g s' x' = (tt, refl)
step Live true false true false true n l true true s' x' = (refl, refl)
step Live true false true false true n l true false s' x' = (refl, refl)
step Live true false true false true n l false g s' x' = (refl, refl)
step Live true false true false false n l true true s' x' = (refl, refl)
step Live true false true false false n l true false s' x' = (refl, refl)
step Live true false true false false n l false g s' x' = (refl, refl)
step Live true false false false true n l true true s' x' = (refl, refl)
step Live true false false false true n l true false s' x' = (refl, refl)
step Live true false false false true n l false g s' x' = (refl, refl)
step Live true false false false false n l true true s' x' = (refl, refl)
step Live true false false false false n l true false s' x' = (refl, refl)
step Live true false false false false n l false g s' x' = (refl, refl)
step Broken false x c t a n l r g s' x' = cc
step Broken true true c t a n l r g s' x' = cc
step Broken true false c true a true l r g s' x' = (tt, refl)
step Broken true false c true a false l r g s' x' = (tt, refl)
step Broken true false true false true n l true true s' x' = (refl, refl)
step Broken true false true false true n l true false s' x' = (refl, refl)
step Broken true false true false true n l false g s' x' = (refl, refl)
step Broken true false true false false n l true true s' x' = (refl, refl)
step Broken true false true false false n l true false s' x' = (refl, refl)
step Broken true false true false false n l false g s' x' = (refl, refl)
step Broken true false false false true n l true true s' x' = (refl, refl)
step Broken true false false false true n l true false s' x' = (refl, refl)
step Broken true false false false true n l false g s' x' = (refl, refl)
step Broken true false false false false n l true true s' x' = (refl, refl)
step Broken true false false false false n l true false s' x' = (refl, refl)
step Broken true false false false false n l false g s' x' = (refl, refl)
step Ending s false c t a n l r g s' x' = cc
step Ending s true c true a n true r g s' x' = (tt, refl)
step Ending s true c true a n false r g s' x' = (tt, refl)
step Ending s true c false a n true r g s' x' = (tt, refl)
step Ending s true c false a n false r g s' x' = (tt, refl)
step Ended s false c t a n l r g s' x' = cc
step Ended s true c true a n l r g s' x' = (tt, refl)
step Ended s true c false a n l r g s' x' = (tt, refl)

-- the phase agrees with what was started and ended
pub agrees : (who : Identity) (journal : List Entry) →
    starts_agree (phase who journal) (has_start journal) × endings_agree (phase who journal) (has_ending journal)
unfolding phase has_start has_ending
agrees who [] = (refl, refl)
agrees who (e ∷ before) =
    step (phase who before) (has_start before) (has_ending before) (applies is_create e) (applies is_terminate e) (answered_failed e)
    (is_empty (children who before)) (ends_last_child e (children who before))
    (applies is_recreate e || (applies is_resume e && phase_is (phase who before) Broken)) (is_guardian who)
    (agrees who before).0 (agrees who before).1

-- nothing was started or ended while Fresh
pub not_started : (who : Identity) (journal : List Entry) → phase who journal ≡ Fresh → has_start journal ≡ false
not_started who journal e = rw e at (agrees who journal).0

pub not_ending-fresh : (who : Identity) (journal : List Entry) → phase who journal ≡ Fresh → has_ending journal ≡ false
not_ending-fresh who journal e = rw e at (agrees who journal).1

-- a start was applied, and no ending, while Live or Broken
pub started-live : (who : Identity) (journal : List Entry) → phase who journal ≡ Live → has_start journal ≡ true
started-live who journal e = rw e at (agrees who journal).0

pub started-broken : (who : Identity) (journal : List Entry) → phase who journal ≡ Broken → has_start journal ≡ true
started-broken who journal e = rw e at (agrees who journal).0

pub not_ending-live : (who : Identity) (journal : List Entry) → phase who journal ≡ Live → has_ending journal ≡ false
not_ending-live who journal e = rw e at (agrees who journal).1

pub not_ending-broken : (who : Identity) (journal : List Entry) → phase who journal ≡ Broken → has_ending journal ≡ false
not_ending-broken who journal e = rw e at (agrees who journal).1
