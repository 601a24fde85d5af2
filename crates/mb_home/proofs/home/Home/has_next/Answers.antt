use Rattle.std.proofs.Common.{rules, arith, ◌≡◌, ◌==◌, ◌&&◌, ℕ, Bool, true, false, not, List, [], ◌∷◌, length, None, ap, refl, subst, ◌∙◌, sym}
use Rattle.std.specs.Prelude.{if◌then◌else◌}
use Rattle.mb_actor.specs.declared.phase.Phase.TheVariants.{Ending}
use Rattle.mb_msg.specs.declared.system.SysMsg.{SysMsg}
use Rattle.mb_journal.specs.Aside.{aside, first_of_list, next_front}
use Rattle.mb_journal.specs.Entry.{Entry}
use Rattle.mb_journal.specs.Identity.{Identity}
use Rattle.mb_journal.specs.Life.{phase}
use Rattle.mb_journal.specs.Phase.{phase_is}
use Rattle.mb_journal.specs.Suspension.{count}
use Rattle.mb_home.specs.Steps.{HasNoBacklog}
use Rattle.mb_home.proofs.home.Home.has_next.Goals as goal

no-first : (b : Bool) (set_aside : List (ℕ × SysMsg)) → set_aside ≡ [] → (if b then first_of_list set_aside else None) ≡ None
no-first true set_aside none = ap first_of_list none
no-first false set_aside none = refl

-- where nothing is set aside, nothing goes before others
front-none : (who : Identity) (journal : List Entry) → aside who journal ≡ [] → next_front who journal ≡ None
unfolding next_front
front-none who journal none = no-first (count who journal == 0 && not (phase_is (phase who journal) Ending)) (aside who journal) none

no-element : {X : Type 0} (list : List X) → length list ≡ 0 → list ≡ []
no-element [] zero = refl
no-element (x ∷ list) zero = absurd (omega (arith, zero))

pub returns-then-is_empty : goal.returns-then-is_empty
returns-then-is_empty g c =
    let rest : c.self.inside.rest ≡ [] = search rules in
    let none : aside c.self.inside.cell.who c.self.inside.cell.journal ≡ [] = sym c.aside.ensures.value ∙ no-element c.aside.result.now (search rules) in
    subst HasNoBacklog c.self.view_is (record { no_rest = rest; no_front = front-none c.self.inside.cell.who c.self.inside.cell.journal none })
