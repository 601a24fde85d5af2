-- The phase in the words of what a journal has: Ended with a last in it, else Ending with an ending in it, else Fresh
-- without a start, else Broken if the newest start or restart answered that it failed, else Live.
use Rattle.std.proofs.Common.{◌≡◌, List, [], ◌∷◌, Bool, true, false, refl, subst, sym}
use Rattle.std.specs.Prelude.{not, ◌&&◌, ◌||◌, if◌then◌else◌}
use Rattle.mb_journal.specs.Effects.{applies}
use Rattle.mb_journal.specs.Entry.{Entry, answered_failed}
use Rattle.mb_journal.specs.Identity.{Identity, is_guardian}
use Rattle.mb_journal.specs.Life.{children, phase, has_start, has_ending, is_last, is_beginning, is_create, is_terminate, is_recreate}
use Rattle.mb_journal.specs.Life.{is_resume, is_empty, ends_last_child}
use Rattle.mb_journal.specs.Phase.{phase_is}
use Rattle.mb_actor.specs.declared.phase.Phase.{Phase}
use Rattle.mb_actor.specs.declared.phase.Phase.TheVariants.{Fresh, Live, Broken, Ending, Ended}
use Rattle.mb_journal.proofs.PhaseLemmas.{phase_by}

-- an entry is the actor's last
abbrev pub has_last : Identity → List Entry → Bool
has_last who [] = false
has_last who (e ∷ before) = has_last who before || is_last who e before

-- the newest start or restart answered that it failed
abbrev pub newest_failed : Identity → List Entry → Bool
newest_failed who [] = false
newest_failed who (e ∷ before) = if is_beginning who e before then answered_failed e else newest_failed who before

abbrev phase_of : (last ending start failed : Bool) → Phase
phase_of last ending start failed =
    if last then Ended else (if ending then Ending else (if not start then Fresh else (if failed then Broken else Live)))

step : (last ending start failed t c n l r g a : Bool) →
    phase_by (phase_of last ending start failed) start ending c t a n l r g
    ≡ phase_of
    (last || ((t && not ending && n) || (phase_is (phase_of last ending start failed) Ending && l)))
    (t || ending)
    (c || start)
    (if (c && not start) || (r && not (phase_is (phase_of last ending start failed) Fresh) && not g) then a else failed)
step true ending start failed t c n l r g a = refl
step false true start failed true c n true r g a = refl
step false true start failed true c n false r g a = refl
step false true start failed false c n true r g a = refl
step false true start failed false c n false r g a = refl
step false false false failed true c true l r g a = refl
step false false false failed true c false l r g a = refl
step false false false failed false true n l r g a = refl
step false false false failed false false n l true g a = refl
step false false false failed false false n l false g a = refl
step false false true true true c true l r g a = refl
step false false true true true c false l r g a = refl
step false false true true false true n l true true a = refl
step false false true true false true n l true false a = refl
step false false true true false true n l false g a = refl
step false false true true false false n l true true a = refl
step false false true true false false n l true false a = refl
step false false true true false false n l false g a = refl
step false false true false true c true l r g a = refl
step false false true false true c false l r g a = refl
step false false true false false true n l true true a = refl
step false false true false false true n l true false a = refl
step false false true false false true n l false g a = refl
step false false true false false false n l true true a = refl
step false false true false false false n l true false a = refl
step false false true false false false n l false g a = refl

pub phase-by_kinds : (who : Identity) (journal : List Entry) →
    phase who journal ≡ phase_of (has_last who journal) (has_ending journal) (has_start journal) (newest_failed who journal)
unfolding phase has_start has_ending
phase-by_kinds who [] = refl
phase-by_kinds who (e ∷ before) =
    let creates = applies is_create e in
    let terminates = applies is_terminate e in
    let failed = answered_failed e in
    let childless = is_empty (children who before) in
    let last_child = ends_last_child e (children who before) in
    let restarts : Phase → Bool = λ p. applies is_recreate e || (applies is_resume e && phase_is p Broken) in
    let now = phase_of (has_last who before) (has_ending before) (has_start before) (newest_failed who before) in
    let Holds : Phase → Type 0 = λ p.
    phase_by p (has_start before) (has_ending before) creates terminates failed childless last_child (restarts p) (is_guardian who)
    ≡ phase_of
    (has_last who before || ((terminates && not (has_ending before) && childless) || (phase_is p Ending && last_child)))
    (terminates || has_ending before)
    (creates || has_start before)
    (if (creates && not (has_start before)) || (restarts p && not (phase_is p Fresh) && not (is_guardian who))
    then failed else newest_failed who before) in
    subst Holds (sym (phase-by_kinds who before))
    (step (has_last who before) (has_ending before) (has_start before) (newest_failed who before) terminates creates
    childless last_child (restarts now) (is_guardian who) failed)
