-- The guardian watches nobody: it has no effects.
use Rattle.std.proofs.Common.{◌≡◌, Bool, true, false, List, [], ◌∷◌, refl, ap, ◌∙◌, subst}
use Rattle.std.specs.Prelude.{if◌then◌else◌, Option, None}
use Rattle.mb_msg.specs.declared.id.ActorId.{ActorId}
use Rattle.mb_msg.specs.declared.system.SysMsg.{SysMsg}
use Rattle.mb_msg.specs.declared.system.SysMsg.TheVariants as system
use Rattle.mb_actor.specs.Behaviour.{Moment, Reply}
use Rattle.mb_actor.specs.declared.answer.Answer.{Answer}
use Rattle.mb_actor.specs.declared.call.Call.{Call}
use Rattle.mb_actor.specs.declared.effect.Effect.{Effect}
use Rattle.mb_journal.specs.Effects.{lasting_effects}
use Rattle.mb_journal.specs.Entry.{Entry}
use Rattle.mb_journal.specs.Entry.Entry.{Handled, System, Dropped}
use Rattle.mb_journal.specs.Entry.Outcome.{Applied, SetAside}
use Rattle.mb_journal.specs.Identity.{Identity, is_guardian}
use Rattle.mb_journal.specs.Lawful.{AreLawful, IsLawfulEntry, IsGiven}
use Rattle.mb_journal.specs.Life.{after_death, is_ending}
use Rattle.mb_journal.specs.Watching.{watching, watching_after}

by-message : (number : _) (m : SysMsg) (a : Option Answer) (effects : List Effect) → effects ≡ [] →
    lasting_effects (System number m (Applied a effects)) ≡ []
by-message number system.Create a effects none = none
by-message number (system.Recreate c) a effects none = none
by-message number system.Suspend a effects none = none
by-message number (system.Resume f) a effects none = none
by-message number system.Terminate a effects none = refl
by-message number (system.Watch w) a effects none = none
by-message number (system.Unwatch w) a effects none = none
by-message number (system.Failed x c) a effects none = none
by-message number (system.Died x) a effects none = refl

by-message-aside : (number : _) (m : SysMsg) → lasting_effects (System number m SetAside) ≡ []
by-message-aside number system.Create = refl
by-message-aside number (system.Recreate c) = refl
by-message-aside number system.Suspend = refl
by-message-aside number (system.Resume f) = refl
by-message-aside number system.Terminate = refl
by-message-aside number (system.Watch w) = refl
by-message-aside number (system.Unwatch w) = refl
by-message-aside number (system.Failed x c) = refl
by-message-aside number (system.Died x) = refl

after-none : (e : Entry) → after_death e [] ≡ []
after-none (Handled envelope reading outcome) = refl
after-none (Dropped envelope) = refl
after-none (System number m SetAside) = by_m m
  where
    by_m : (m : SysMsg) → after_death (System number m SetAside) [] ≡ []
    by_m system.Create = refl
    by_m (system.Recreate c) = refl
    by_m system.Suspend = refl
    by_m (system.Resume f) = refl
    by_m system.Terminate = refl
    by_m (system.Watch w) = refl
    by_m (system.Unwatch w) = refl
    by_m (system.Failed x c) = refl
    by_m (system.Died x) = refl
after-none (System number m (Applied a effects)) = by_m m
  where
    by_m : (m : SysMsg) → after_death (System number m (Applied a effects)) [] ≡ []
    by_m system.Create = refl
    by_m (system.Recreate c) = refl
    by_m system.Suspend = refl
    by_m (system.Resume f) = refl
    by_m system.Terminate = refl
    by_m (system.Watch w) = refl
    by_m (system.Unwatch w) = refl
    by_m (system.Failed x c) = refl
    by_m (system.Died x) = refl

module _ (who : Identity) (gives : Moment → Reply → Type 0) (guardian : is_guardian who ≡ true) where
  no-call : (before : List Entry) (a : Option Answer) (effects : List Effect) (call : Option Call) →
      IsGiven who gives before (if is_guardian who then None else call) a effects → effects ≡ []
  no-call before a effects call given =
      let none : IsGiven who gives before None a effects = subst (λ b. IsGiven who gives before (if b then None
      else call) a effects) guardian given in
      none.1

  none-last : (before : List Entry) (e : Entry) → IsLawfulEntry who gives before e → lasting_effects e ≡ []
  none-last before (Handled envelope reading (Applied a effects)) lawful = absurd (let no = lawful.an_actor in cc (guardian, no))
  none-last before (Handled envelope reading SetAside) lawful = absurd lawful
  none-last before (Dropped envelope) lawful = refl
  none-last before (System number m SetAside) lawful = by-message-aside number m
  none-last before (System number m (Applied a effects)) lawful = by-message number m a effects (no-call before a effects _ lawful.1)

  ending-none : (b : Bool) (list : List ActorId) → list ≡ [] → (if b then [] else list) ≡ []
  ending-none true list none = refl
  ending-none false list none = none

  pub watches-none : (journal : List Entry) → AreLawful who gives journal → watching who journal ≡ []
  unfolding AreLawful watching
  watches-none [] lawful = refl
  watches-none (e ∷ before) lawful =
      ap (λ l. watching_after who.this (if is_ending e before then [] else after_death e l) (lasting_effects e)) (watches-none before lawful.1)
      ∙ ap (λ l. watching_after who.this l (lasting_effects e)) (ending-none (is_ending e before) (after_death e []) (after-none e))
      ∙ ap (λ effects. watching_after who.this [] effects) (none-last before e lawful.0)
