-- What acts tell: which receivers, and how many envelopes.
use Rattle.std.proofs.Common.{◌≡◌, ℕ, ◌+◌, ◌<◌, ◌≤◌, Bool, true, false, List, [], ◌∷◌, ◌++◌, length, refl, ap, ◌∙◌, arith, length-append}
use Rattle.std.specs.Prelude.{All, filter, map, not, ◌&&◌, ◌||◌, IsTrue, if◌then◌else◌, Option, Some, None}
use Rattle.std.specs.List.{flat_map, list_all}
use Rattle.std.proofs.lemmas.List.Elements.{All-nil, All-cons, All-append, All-same}
use Rattle.mb_msg.specs.declared.envelope.Body.{Body}
use Rattle.mb_msg.specs.declared.envelope.Body.TheVariants as body
use Rattle.mb_msg.specs.declared.id.ActorId.{ActorId}
use Rattle.mb_msg.specs.declared.supervision.Cause.{Cause}
use Rattle.mb_msg.specs.declared.system.SysMsg.{SysMsg}
use Rattle.mb_msg.specs.declared.system.SysMsg.TheVariants as system
use Rattle.mb_actor.specs.ActorList.{is_same, has}
use Rattle.mb_actor.specs.declared.effect.Effect.{Effect}
use Rattle.mb_actor.specs.declared.effect.Effect.TheVariants as effect
use Rattle.mb_actor.specs.OutboxView.{OutboxView, actor_of, is_actor}
use Rattle.mb_journal.specs.ActorList.{without}
use Rattle.mb_journal.specs.Acts.{Act, to_each, effect_acts, stop_acts, report, fail_acts, restart_for, end_acts}
use Rattle.mb_journal.specs.Acts.Act.{Tell, Sys, SuspendSelf, ResumeSelf, CloseSelf}
use Rattle.mb_journal.specs.Failure.{is_nobody}
use Rattle.mb_journal.specs.declared.failed_by.FailedBy.{FailedBy}
use Rattle.mb_journal.specs.Identity.{Identity}
use Rattle.mb_journal.specs.Tells.{AddressedBody, tells}

pub tells-append : (a b : List Act) → tells (a ++ b) ≡ tells a ++ tells b
tells-append [] b = refl
tells-append (Tell to told ∷ a) b = ap (λ l. (to, told) ∷ l) (tells-append a b)
tells-append (Sys to m ∷ a) b = tells-append a b
tells-append (SuspendSelf ∷ a) b = tells-append a b
tells-append (ResumeSelf ∷ a) b = tells-append a b
tells-append (CloseSelf ∷ a) b = tells-append a b

-- to an actor other than the guardian
abbrev pub IsThere : ℕ → AddressedBody → Type 0
IsThere actors t = (0 < t.0.0) × (t.0.0 < actors)

-- what these acts tell is to actors, and so many at most
pub record AreFew (actors most : ℕ) (acts : List Act) : Type 0 where
  pub present : All (IsThere actors) (tells acts)
  pub within_limit : length (tells acts) ≤ most

pub few-none : (actors : ℕ) → AreFew actors 0 []
few-none actors = record { present = All-nil (IsThere actors); within_limit = omega arith }

-- acts that tell nothing
pub few-silent : (actors : ℕ) (acts : List Act) → tells acts ≡ [] → AreFew actors 0 acts
few-silent actors acts none = record {
  present = All-same (IsThere actors) (tells acts) [] none (All-nil (IsThere actors));
  within_limit = omega (arith, ap length none);
}

pub few-append : (actors m n : ℕ) (a b : List Act) → AreFew actors m a → AreFew actors n b → AreFew actors (m + n) (a ++ b)
few-append actors m n a b x y = record {
  present = All-same (IsThere actors) (tells (a ++ b)) (tells a ++ tells b) (tells-append a b) (All-append (IsThere actors) (tells a)
      (tells b) x.present y.present);
  within_limit = omega (arith, ap length (tells-append a b), length-append (tells a) (tells b), x.within_limit, y.within_limit);
}

pub few-more : (actors m n : ℕ) (acts : List Act) → m ≤ n → AreFew actors m acts → AreFew actors n acts
few-more actors m n acts more x = record { present = x.present; within_limit = omega (arith, x.within_limit) }

-- an act in front that tells nothing
pub few-tell : (actors n : ℕ) (to : ActorId) (told : Body) (acts : List Act) → 0 < to.0 → to.0 < actors → AreFew actors n acts →
    AreFew actors (n + 1) (Tell to told ∷ acts)
few-tell actors n to told acts some less x = record {
  present = All-cons (IsThere actors) (to, told) (tells acts) (some, less) x.present;
  within_limit = omega (arith, x.within_limit);
}

pub tells-to_each : (m : SysMsg) (list : List ActorId) → tells (to_each m list) ≡ []
tells-to_each m [] = refl
tells-to_each m (x ∷ list) = tells-to_each m list

pub tells-to_some : (f : ActorId → SysMsg) (list : List ActorId) → tells (map (λ x. Sys x (f x)) list) ≡ []
tells-to_some f [] = refl
tells-to_some f (x ∷ list) = tells-to_some f list

both-true : (a b : Bool) → IsTrue (a && b) → IsTrue a × IsTrue b
both-true true true t = (refl, refl)
both-true true false t = absurd (cc t)
both-true false b t = absurd (cc t)

actor-there : (tray : OutboxView) (x : ActorId) → IsTrue (is_actor tray x) → (0 < x.0) × (x.0 < tray.actors)
actor-there tray x t = (grind (arith, t), grind (arith, t))

abbrev are_there : OutboxView → List Effect → Bool
are_there tray effects = list_all (λ e. is_actor tray (actor_of e)) effects

module _ (tray : OutboxView) where
  by_effect : (this : ActorId) (watched : List ActorId) (effects : List Effect) → IsTrue (are_there tray effects) →
      AreFew tray.actors (length effects) (effect_acts this watched effects)
  unfolding effect_acts
  by_effect this watched [] t = few-none tray.actors
  by_effect this watched (effect.Tell to kind value ∷ effects) t =
      let both = both-true (is_actor tray to) (are_there tray effects) t in
      let to_it = actor-there tray to both.0 in
      few-more tray.actors (length effects + 1) (length (effect.Tell to kind value ∷ effects)) _ (omega arith)
      (few-tell tray.actors (length effects) to (body.User kind value) (effect_acts this watched effects) to_it.0 to_it.1
      (by_effect this watched effects both.1))
  by_effect this watched (effect.Control to kind value ∷ effects) t =
      let both = both-true (is_actor tray to) (are_there tray effects) t in
      let to_it = actor-there tray to both.0 in
      few-more tray.actors (length effects + 1) (length (effect.Control to kind value ∷ effects)) _ (omega arith)
      (few-tell tray.actors (length effects) to (body.Control kind value) (effect_acts this watched effects) to_it.0 to_it.1
      (by_effect this watched effects both.1))
  by_effect this watched (effect.Watch x ∷ effects) t =
      let both = both-true (is_actor tray x) (are_there tray effects) t in
      by_test (is_same this x || has watched x) (by_effect this watched effects both.1) (by_effect this (watched ++ x ∷ []) effects both.1)
    where
      by_test : (b : Bool) → AreFew tray.actors (length effects) (effect_acts this watched effects) →
          AreFew tray.actors (length effects) (effect_acts this (watched ++ x ∷ []) effects) →
          AreFew tray.actors (length (effect.Watch x ∷ effects)) (if b then effect_acts this watched effects
          else Sys x (system.Watch this) ∷ effect_acts this (watched ++ x ∷ []) effects)
      by_test true same more = few-more tray.actors (length effects) (length (effect.Watch x ∷ effects)) _ (omega arith) same
      by_test false same more = record { present = more.present; within_limit = omega (arith, more.within_limit) }
  by_effect this watched (effect.Unwatch x ∷ effects) t =
      let both = both-true (is_actor tray x) (are_there tray effects) t in
      by_test (has watched x) (by_effect this watched effects both.1) (by_effect this (without watched x) effects both.1)
    where
      by_test : (b : Bool) → AreFew tray.actors (length effects) (effect_acts this watched effects) →
          AreFew tray.actors (length effects) (effect_acts this (without watched x) effects) →
          AreFew tray.actors (length (effect.Unwatch x ∷ effects)) (if b then Sys x (system.Unwatch this) ∷ effect_acts this
          (without watched x) effects
          else effect_acts this watched effects)
      by_test true same less = record { present = less.present; within_limit = omega (arith, less.within_limit) }
      by_test false same less = few-more tray.actors (length effects) (length (effect.Unwatch x ∷ effects)) _ (omega arith) same
  by_effect this watched (effect.Stop x ∷ effects) t =
      let rest = by_effect this watched effects (both-true (is_actor tray x) (are_there tray effects) t).1 in
      record { present = rest.present; within_limit = omega (arith, rest.within_limit) }
  by_effect this watched (effect.Spawn x ∷ effects) t =
      let rest = by_effect this watched effects (both-true (is_actor tray x) (are_there tray effects) t).1 in
      record { present = rest.present; within_limit = omega (arith, rest.within_limit) }

  by_stop : (effects : List Effect) → IsTrue (are_there tray effects) → AreFew tray.actors (length effects) (stop_acts effects)
  by_stop [] t = few-none tray.actors
  by_stop (effect.Tell to kind value ∷ effects) t =
      let both = both-true (is_actor tray to) (are_there tray effects) t in
      let to_it = actor-there tray to both.0 in
      few-more tray.actors (length effects + 1) (length (effect.Tell to kind value ∷ effects)) _ (omega arith)
      (few-tell tray.actors (length effects) to (body.User kind value) (stop_acts effects) to_it.0 to_it.1 (by_stop effects both.1))
  by_stop (effect.Control to kind value ∷ effects) t =
      let both = both-true (is_actor tray to) (are_there tray effects) t in
      let to_it = actor-there tray to both.0 in
      few-more tray.actors (length effects + 1) (length (effect.Control to kind value ∷ effects)) _ (omega arith)
      (few-tell tray.actors (length effects) to (body.Control kind value) (stop_acts effects) to_it.0 to_it.1 (by_stop effects both.1))
  by_stop (effect.Watch x ∷ effects) t =
      few-more tray.actors (length effects) (length (effect.Watch x ∷ effects)) _ (omega arith)
      (by_stop effects (both-true (is_actor tray x) (are_there tray effects) t).1)
  by_stop (effect.Unwatch x ∷ effects) t =
      few-more tray.actors (length effects) (length (effect.Unwatch x ∷ effects)) _ (omega arith)
      (by_stop effects (both-true (is_actor tray x) (are_there tray effects) t).1)
  by_stop (effect.Stop x ∷ effects) t =
      few-more tray.actors (length effects) (length (effect.Stop x ∷ effects)) _ (omega arith)
      (by_stop effects (both-true (is_actor tray x) (are_there tray effects) t).1)
  by_stop (effect.Spawn x ∷ effects) t =
      few-more tray.actors (length effects) (length (effect.Spawn x ∷ effects)) _ (omega arith)
      (by_stop effects (both-true (is_actor tray x) (are_there tray effects) t).1)

-- the acts of effects, and those of an actor's `stop`
pub few-effects : (tray : OutboxView) (this : ActorId) (watched : List ActorId) (effects : List Effect) → IsTrue (are_there tray effects) →
    AreFew tray.actors (length effects) (effect_acts this watched effects)
few-effects tray this watched effects t = by_effect tray this watched effects t

pub few-stop : (tray : OutboxView) (effects : List Effect) → IsTrue (are_there tray effects) → AreFew tray.actors (length effects) (stop_acts effects)
few-stop tray effects t = by_stop tray effects t

tells-report : (who : Identity) (c : Cause) → tells (report who c ∷ []) ≡ []
tells-report who c = by_parent who.parent
  where
    by_parent : (parent : Option ActorId) → tells (report (record who { parent = parent }) c ∷ []) ≡ []
    by_parent None = refl
    by_parent (Some p) = refl

-- a failure tells nothing
pub tells-fail : (who : Identity) (by : FailedBy) (own : List ActorId) (c : Cause) (except : List ActorId) → tells (fail_acts who by own c except)
    ≡ []
tells-fail who by own c except = by_test (is_nobody by)
  where
    all : tells (SuspendSelf ∷ to_each system.Suspend (filter (λ x. not (has except x)) own) ++ report who c ∷ []) ≡ []
    all =
        tells-append (SuspendSelf ∷ to_each system.Suspend (filter (λ x. not (has except x)) own)) (report who c ∷ [])
        ∙ ap (λ l. l ++ tells (report who c ∷ [])) (tells-to_each system.Suspend (filter (λ x. not (has except x)) own))
        ∙ tells-report who c

    by_test : (b : Bool) → tells (if b then SuspendSelf ∷ to_each system.Suspend (filter (λ x. not (has except x)) own) ++ report who c ∷ []
        else []) ≡ []
    by_test true = all
    by_test false = refl

tells-restart : (x : ActorId) (c : Cause) (y : ActorId) → tells (restart_for x c y) ≡ []
tells-restart x c y = by_test (is_same y x)
  where
    by_test : (b : Bool) → tells (if b then Sys y (system.Recreate c) ∷ [] else Sys y system.Suspend ∷ Sys y (system.Recreate c) ∷ []) ≡ []
    by_test true = refl
    by_test false = refl

pub tells-restarts : (x : ActorId) (c : Cause) (list : List ActorId) → tells (flat_map (restart_for x c) list) ≡ []
tells-restarts x c [] = refl
tells-restarts x c (y ∷ list) =
    tells-append (restart_for x c y) (flat_map (restart_for x c) list)
    ∙ ap (λ l. l ++ tells (flat_map (restart_for x c) list)) (tells-restart x c y)
    ∙ tells-restarts x c list

-- the end of an actor tells what its `stop` asked for
pub few-end : (tray : OutboxView) (who : Identity) (watched_by : List ActorId) (effects : List Effect) → IsTrue (are_there tray effects) →
    AreFew tray.actors (length effects) (end_acts who watched_by effects)
few-end tray who watched_by effects t = by_parent who.parent
  where
    by_parent : (parent : Option ActorId) → AreFew tray.actors (length effects) (end_acts (record who { parent = parent }) watched_by effects)
    by_parent None =
        few-more tray.actors (length effects + 0) (length effects) _ (omega arith)
        (few-append tray.actors (length effects) 0 (stop_acts effects) (CloseSelf ∷ to_each (system.Died who.this) watched_by)
        (few-stop tray effects t)
        (few-silent tray.actors (CloseSelf ∷ to_each (system.Died who.this) watched_by) (tells-to_each (system.Died who.this) watched_by)))
    by_parent (Some p) =
        few-more tray.actors (length effects + 0) (length effects) _ (omega arith)
        (few-append tray.actors (length effects) 0 (stop_acts effects) (CloseSelf ∷ Sys p (system.Died who.this) ∷ to_each (system.Died who.this)
        (without watched_by p))
        (few-stop tray effects t)
        (few-silent tray.actors (CloseSelf ∷ Sys p (system.Died who.this) ∷ to_each (system.Died who.this) (without watched_by p))
        (tells-to_each (system.Died who.this) (without watched_by p))))
