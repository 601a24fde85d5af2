-- The children, and the messages that are set aside, by what remains of what was added.
use Rattle.std.proofs.Common.{◌≡◌, not, List, [], ◌∷◌, ◌++◌, filter, refl, sym, ap, ◌∙◌, arith}
use Rattle.std.specs.Prelude.{if◌then◌else◌}
use Rattle.std.proofs.lemmas.Bool.Decides.{nat_tests}
use Rattle.std.proofs.lemmas.List.{append-nil}
use Rattle.mb_msg.specs.declared.id.ActorId.{ActorId}
use Rattle.mb_msg.specs.declared.system.SysMsg.TheVariants as system
use Rattle.mb_actor.specs.ActorList.{is_same}
use Rattle.mb_journal.specs.Aside.{aside, ever_aside}
use Rattle.mb_journal.specs.Effects.{applies}
use Rattle.mb_journal.specs.Entry.{Entry}
use Rattle.mb_journal.specs.Entry.Entry.{Handled, System, Dropped}
use Rattle.mb_journal.specs.Entry.Outcome.{Applied, SetAside}
use Rattle.mb_journal.specs.Events.{is_died_of}
use Rattle.mb_journal.specs.Identity.{Identity}
use Rattle.mb_journal.specs.Life.{children, spawned, after_death, closed}
use Rattle.mb_journal.specs.Remaining.{remaining, set_aside_by, applies_number}
use Rattle.mb_journal.proofs.RemainingLaw.{filter-all, remaining-is}
use Rattle.mb_journal.proofs.TestLemmas.{and-false, and-true}

-- ---- the children

same-sym : (a b : ActorId) → is_same a b ≡ is_same b a
same-sym a b = grind (arith, nat_tests)

death-takes : (e : Entry) (list : List ActorId) → after_death e list ≡ filter (λ x. not (applies (is_died_of x) e)) list
death-takes (Handled envelope reading outcome) list = sym (filter-all list)
death-takes (System number system.Create outcome) list = sym (filter-all list)
death-takes (System number system.Suspend outcome) list = sym (filter-all list)
death-takes (System number (system.Resume of_failure) outcome) list = sym (filter-all list)
death-takes (System number (system.Recreate c) outcome) list = sym (filter-all list)
death-takes (System number (system.Failed y c) outcome) list = sym (filter-all list)
death-takes (System number system.Terminate outcome) list = sym (filter-all list)
death-takes (System number (system.Watch w) outcome) list = sym (filter-all list)
death-takes (System number (system.Unwatch w) outcome) list = sym (filter-all list)
death-takes (System number (system.Died y) (Applied answer effects)) list =
    λ i. filter (λ x. not ((same-sym y x ∙ sym (and-true (is_same x y))) i)) list
death-takes (System number (system.Died y) SetAside) list =
    sym (filter-all list) ∙ (λ i. filter (λ x. not (sym (and-false (is_same x y)) i)) list)
death-takes (Dropped envelope) list = sym (filter-all list)

children-none : (who : Identity) → children who [] ≡ []
unfolding children
children-none who = refl

pub children-step : (who : Identity) (e : Entry) (before : List Entry) →
    children who (e ∷ before) ≡ filter (λ x. not (applies (is_died_of x) e)) (children who before) ++ spawned who e before
unfolding children
children-step who e before = ap (λ list. list ++ spawned who e before) (death-takes e (children who before))

pub children-remain : (who : Identity) (journal : List Entry) →
    children who journal ≡ remaining (spawned who) (λ x. applies (is_died_of x)) [] journal
children-remain who journal =
    remaining-is (spawned who) (λ x. applies (is_died_of x)) (children who) (children-none who) (children-step who) journal

-- ---- the messages that are set aside

aside-none : ever_aside [] ≡ []
unfolding ever_aside
aside-none = refl

aside-step : (e : Entry) (before : List Entry) →
    ever_aside (e ∷ before) ≡ filter (λ m. not (applies_number m.0 e)) (ever_aside before) ++ set_aside_by e
unfolding ever_aside
aside-step (Handled envelope reading outcome) before = sym (append-nil _ ∙ filter-all (ever_aside before))
aside-step (System number message (Applied answer effects)) before = sym (append-nil _)
aside-step (System number message SetAside) before = ap (λ list. list ++ (number, message) ∷ []) (sym (filter-all (ever_aside before)))
aside-step (Dropped envelope) before = sym (append-nil _ ∙ filter-all (ever_aside before))

pub aside-remain : (who : Identity) (journal : List Entry) →
    aside who journal ≡ (if closed who journal then [] else remaining (λ e before. set_aside_by e) (λ m. applies_number m.0) [] journal)
unfolding aside
aside-remain who journal =
    ap (λ list. if closed who journal then [] else list)
    (remaining-is (λ e before. set_aside_by e) (λ m. applies_number m.0) ever_aside aside-none aside-step journal)
