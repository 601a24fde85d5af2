-- To whom the acts of an end go.
use Rattle.std.proofs.Common.{◌≡◌, Bool, true, false, List, [], ◌∷◌, ◌++◌, refl, ap, ◌∙◌}
use Rattle.std.specs.Prelude.{if◌then◌else◌, Option, Some, None}
use Rattle.std.proofs.lemmas.List.{append-nil}
use Rattle.mb_msg.specs.declared.envelope.Body.TheVariants as body
use Rattle.mb_msg.specs.declared.id.ActorId.{ActorId}
use Rattle.mb_msg.specs.declared.system.SysMsg.{SysMsg}
use Rattle.mb_msg.specs.declared.system.SysMsg.TheVariants as system
use Rattle.mb_actor.specs.declared.effect.Effect.{Effect}
use Rattle.mb_actor.specs.declared.effect.Effect.TheVariants as effect
use Rattle.mb_journal.specs.ActorList.{without}
use Rattle.mb_journal.specs.Acts.{Act, end_acts, stop_acts, to_each}
use Rattle.mb_journal.specs.Acts.Act.{Tell, Sys, SuspendSelf, ResumeSelf, CloseSelf}
use Rattle.mb_journal.specs.Events.{is_died_of}
use Rattle.mb_journal.specs.Identity.{Identity}
use Rattle.mb_journal.specs.Life.{is_terminate}
use Rattle.mb_journal.proofs.Kept.{self-same}
use Rattle.mb_cell.specs.ByNewest.{receivers, is_unwatch_of, ends_told, parent_first}

-- ---- system messages

module _ (test : SysMsg → Bool) where
  pub receivers-append : (some more : List Act) → receivers test (some ++ more) ≡ receivers test some ++ receivers test more
  receivers-append [] more = refl
  receivers-append (Tell to b ∷ rest) more = receivers-append rest more
  receivers-append (Sys to m ∷ rest) more = step (test m) (receivers-append rest more)
    where
      step : (t : Bool) → receivers test (rest ++ more) ≡ receivers test rest ++ receivers test more →
          (if t then to ∷ receivers test (rest ++ more) else receivers test (rest ++ more))
          ≡ (if t then to ∷ receivers test rest else receivers test rest) ++ receivers test more
      step true is = ap (λ list. to ∷ list) is
      step false is = is
  receivers-append (SuspendSelf ∷ rest) more = receivers-append rest more
  receivers-append (ResumeSelf ∷ rest) more = receivers-append rest more
  receivers-append (CloseSelf ∷ rest) more = receivers-append rest more

  pub receivers-all : (m : SysMsg) → test m ≡ true → (list : List ActorId) → receivers test (to_each m list) ≡ list
  receivers-all m passes [] = refl
  receivers-all m passes (x ∷ list) =
      (λ i. if passes i then x ∷ receivers test (to_each m list) else receivers test (to_each m list))
      ∙ ap (λ rest. x ∷ rest) (receivers-all m passes list)

  pub receivers-none : (m : SysMsg) → test m ≡ false → (list : List ActorId) → receivers test (to_each m list) ≡ []
  receivers-none m fails [] = refl
  receivers-none m fails (x ∷ list) =
      (λ i. if fails i then x ∷ receivers test (to_each m list) else receivers test (to_each m list)) ∙ receivers-none m fails list

  receivers-stop : (effects : List Effect) → receivers test (stop_acts effects) ≡ []
  receivers-stop [] = refl
  receivers-stop (effect.Tell to kind value ∷ effects) = receivers-stop effects
  receivers-stop (effect.Control to kind value ∷ effects) = receivers-stop effects
  receivers-stop (effect.Watch x ∷ effects) = receivers-stop effects
  receivers-stop (effect.Unwatch x ∷ effects) = receivers-stop effects
  receivers-stop (effect.Stop x ∷ effects) = receivers-stop effects
  receivers-stop (effect.Spawn x ∷ effects) = receivers-stop effects

  -- an end tells nobody but by its Died
  receivers-end-other : (who : Identity) (parent : Option ActorId) (list : List ActorId) (effects : List Effect) →
      test (system.Died who.this) ≡ false → receivers test (end_acts (record who { parent = parent }) list effects) ≡ []
  receivers-end-other who None list effects fails =
      receivers-append (stop_acts effects) (CloseSelf ∷ to_each (system.Died who.this) list)
      ∙ (λ i. receivers-stop effects i ++ receivers-none (system.Died who.this) fails list i)
  receivers-end-other who (Some parent) list effects fails =
      receivers-append (stop_acts effects)
      (CloseSelf ∷ Sys parent (system.Died who.this) ∷ to_each (system.Died who.this) (without list parent))
      ∙ (λ i. receivers-stop effects i ++ receivers-none (system.Died who.this) fails (parent ∷ without list parent) i)

-- and by that its parent and its watchers
receivers-end-parent : (who : Identity) (parent : Option ActorId) (list : List ActorId) (effects : List Effect) →
    receivers (is_died_of who.this) (end_acts (record who { parent = parent }) list effects) ≡ parent_first parent list
receivers-end-parent who None list effects =
    receivers-append (is_died_of who.this) (stop_acts effects) (CloseSelf ∷ to_each (system.Died who.this) list)
    ∙ (λ i. receivers-stop (is_died_of who.this) effects i
    ++ receivers-all (is_died_of who.this) (system.Died who.this) (self-same who.this) list i)
receivers-end-parent who (Some parent) list effects =
    receivers-append (is_died_of who.this) (stop_acts effects)
    (CloseSelf ∷ Sys parent (system.Died who.this) ∷ to_each (system.Died who.this) (without list parent))
    ∙ (λ i. receivers-stop (is_died_of who.this) effects i
    ++ receivers-all (is_died_of who.this) (system.Died who.this) (self-same who.this) (parent ∷ without list parent) i)

pub receivers-end : (who : Identity) (list : List ActorId) (effects : List Effect) →
    receivers (is_died_of who.this) (end_acts who list effects) ≡ parent_first who.parent list
receivers-end who list effects = receivers-end-parent who who.parent list effects

-- ---- the acts of an ending

module _ (who : Identity) (list own watched_by : List ActorId) (effects : List Effect) where
  abbrev last : Bool → List Act
  last b = if b then end_acts who watched_by effects else SuspendSelf ∷ []

  abbrev pub ending_acts : Bool → List Act
  ending_acts b = to_each (system.Unwatch who.this) list ++ to_each system.Terminate own ++ last b

  parts : (test : SysMsg → Bool) (b : Bool) →
      receivers test (ending_acts b)
      ≡ receivers test (to_each (system.Unwatch who.this) list) ++ receivers test (to_each system.Terminate own) ++ receivers test (last b)
  parts test b =
      receivers-append test (to_each (system.Unwatch who.this) list ++ to_each system.Terminate own) (last b)
      ∙ ap (λ some. some ++ receivers test (last b))
      (receivers-append test (to_each (system.Unwatch who.this) list) (to_each system.Terminate own))

  other : (test : SysMsg → Bool) → test (system.Died who.this) ≡ false → (b : Bool) → receivers test (last b) ≡ []
  other test fails true = receivers-end-other test who who.parent watched_by effects fails
  other test fails false = refl

  pub ending-unwatches : (b : Bool) → receivers (is_unwatch_of who.this) (ending_acts b) ≡ list
  ending-unwatches b =
      parts (is_unwatch_of who.this) b
      ∙ (λ i. receivers-all (is_unwatch_of who.this) (system.Unwatch who.this) (self-same who.this) list i
      ++ receivers-none (is_unwatch_of who.this) system.Terminate refl own i ++ other (is_unwatch_of who.this) refl b i)
      ∙ append-nil (list ++ []) ∙ append-nil list

  pub ending-stops : (b : Bool) → receivers is_terminate (ending_acts b) ≡ own
  ending-stops b =
      parts is_terminate b
      ∙ (λ i. receivers-none is_terminate (system.Unwatch who.this) refl list i
      ++ receivers-all is_terminate system.Terminate refl own i ++ other is_terminate refl b i)
      ∙ append-nil own

  pub ending-tells : (b : Bool) → receivers (is_died_of who.this) (ending_acts b) ≡ (if b then parent_first who.parent watched_by else [])
  ending-tells b =
      parts (is_died_of who.this) b
      ∙ (λ i. receivers-none (is_died_of who.this) (system.Unwatch who.this) refl list i
      ++ receivers-none (is_died_of who.this) system.Terminate refl own i ++ receivers (is_died_of who.this) (last b))
      ∙ by b
    where
      by : (b : Bool) → receivers (is_died_of who.this) (last b) ≡ (if b then parent_first who.parent watched_by else [])
      by true = receivers-end who watched_by effects
      by false = refl

-- ---- the acts of a Died

ends_told-each : (m : SysMsg) (list : List ActorId) → ends_told (to_each m list) ≡ []
ends_told-each m [] = refl
ends_told-each m (x ∷ list) = ends_told-each m list

ends_told-append : (some more : List Act) → ends_told (some ++ more) ≡ ends_told some ++ ends_told more
ends_told-append [] more = refl
ends_told-append (Tell to (body.User kind value) ∷ rest) more = ends_told-append rest more
ends_told-append (Tell to (body.Control kind value) ∷ rest) more = ends_told-append rest more
ends_told-append (Tell to body.PoisonPill ∷ rest) more = ends_told-append rest more
ends_told-append (Tell to body.Kill ∷ rest) more = ends_told-append rest more
ends_told-append (Tell to (body.Terminated x) ∷ rest) more = ap (λ list. x ∷ list) (ends_told-append rest more)
ends_told-append (Sys to m ∷ rest) more = ends_told-append rest more
ends_told-append (SuspendSelf ∷ rest) more = ends_told-append rest more
ends_told-append (ResumeSelf ∷ rest) more = ends_told-append rest more
ends_told-append (CloseSelf ∷ rest) more = ends_told-append rest more

ends_told-stop : (effects : List Effect) → ends_told (stop_acts effects) ≡ []
ends_told-stop [] = refl
ends_told-stop (effect.Tell to kind value ∷ effects) = ends_told-stop effects
ends_told-stop (effect.Control to kind value ∷ effects) = ends_told-stop effects
ends_told-stop (effect.Watch x ∷ effects) = ends_told-stop effects
ends_told-stop (effect.Unwatch x ∷ effects) = ends_told-stop effects
ends_told-stop (effect.Stop x ∷ effects) = ends_told-stop effects
ends_told-stop (effect.Spawn x ∷ effects) = ends_told-stop effects

ends_told-end : (who : Identity) (parent : Option ActorId) (list : List ActorId) (effects : List Effect) →
    ends_told (end_acts (record who { parent = parent }) list effects) ≡ []
ends_told-end who None list effects =
    ends_told-append (stop_acts effects) (CloseSelf ∷ to_each (system.Died who.this) list)
    ∙ (λ i. ends_told-stop effects i ++ ends_told-each (system.Died who.this) list i)
ends_told-end who (Some parent) list effects =
    ends_told-append (stop_acts effects)
    (CloseSelf ∷ Sys parent (system.Died who.this) ∷ to_each (system.Died who.this) (without list parent))
    ∙ (λ i. ends_told-stop effects i ++ ends_told-each (system.Died who.this) (without list parent) i)

module _ (who : Identity) (x : ActorId) (watched_by : List ActorId) (effects : List Effect) where
  abbrev pub heard_acts : (watched last : Bool) → List Act
  heard_acts watched last =
      (if watched then Tell who.this (body.Terminated x) ∷ [] else []) ++ (if last then end_acts who watched_by effects else [])

  pub heard-told : (watched last : Bool) → ends_told (heard_acts watched last) ≡ (if watched then x ∷ [] else [])
  heard-told true true = ap (λ list. x ∷ list) (ends_told-end who who.parent watched_by effects)
  heard-told true false = refl
  heard-told false true = ends_told-end who who.parent watched_by effects
  heard-told false false = refl

  pub heard-tells : (watched last : Bool) →
      receivers (is_died_of who.this) (heard_acts watched last) ≡ (if last then parent_first who.parent watched_by else [])
  heard-tells true true = receivers-end who watched_by effects
  heard-tells true false = refl
  heard-tells false true = receivers-end who watched_by effects
  heard-tells false false = refl
