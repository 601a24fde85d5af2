-- Which acts change the actor's own mailbox, and how.
use Rattle.std.proofs.Common.{◌≡◌, ◌+◌, ◌-◌, ◌≤◌, Bool, true, false, List, [], ◌∷◌, ◌++◌, map, refl, sym, ap, ◌∙◌, subst, arith, append-nil}
use Rattle.std.specs.Prelude.{filter, not, ◌||◌, if◌then◌else◌, Option, Some, None}
use Rattle.std.specs.List.{flat_map}
use Rattle.mb_status.specs.Mailbox.{Mailbox, most_suspensions, suspend, resume, closed_mailbox}
use Rattle.mb_msg.specs.declared.id.ActorId.{ActorId}
use Rattle.mb_msg.specs.declared.supervision.Cause.{Cause}
use Rattle.mb_msg.specs.declared.system.SysMsg.{SysMsg}
use Rattle.mb_msg.specs.declared.system.SysMsg.TheVariants as system
use Rattle.mb_actor.specs.ActorList.{is_same, has}
use Rattle.mb_actor.specs.declared.effect.Effect.{Effect}
use Rattle.mb_actor.specs.declared.effect.Effect.TheVariants as effect
use Rattle.mb_journal.specs.ActorList.{without}
use Rattle.mb_journal.specs.Acts.{Act, to_each, effect_acts, stop_acts, report, fail_acts, restart_for, end_acts}
use Rattle.mb_journal.specs.Acts.Act.{Tell, Sys, SuspendSelf, ResumeSelf, CloseSelf}
use Rattle.mb_journal.specs.Failure.{is_nobody}
use Rattle.mb_journal.specs.declared.failed_by.FailedBy.{FailedBy}
use Rattle.mb_journal.specs.Identity.{Identity}
use Rattle.mb_journal.specs.Suspension.{Mark, pluses}
use Rattle.mb_journal.specs.Suspension.Mark.{Plus, Minus}
use Rattle.mb_journal.proofs.CountLemmas.{running}
use Rattle.mb_home.specs.Carried.{mailbox_after, CountsEach}

-- the acts among these that change the actor's own mailbox
abbrev pub moves : List Act → List Act
moves [] = []
moves (Tell to told ∷ rest) = moves rest
moves (Sys to m ∷ rest) = moves rest
moves (SuspendSelf ∷ rest) = SuspendSelf ∷ moves rest
moves (ResumeSelf ∷ rest) = ResumeSelf ∷ moves rest
moves (CloseSelf ∷ rest) = CloseSelf ∷ moves rest

pub moves-append : (a b : List Act) → moves (a ++ b) ≡ moves a ++ moves b
moves-append [] b = refl
moves-append (Tell to told ∷ a) b = moves-append a b
moves-append (Sys to m ∷ a) b = moves-append a b
moves-append (SuspendSelf ∷ a) b = ap (λ l. SuspendSelf ∷ l) (moves-append a b)
moves-append (ResumeSelf ∷ a) b = ap (λ l. ResumeSelf ∷ l) (moves-append a b)
moves-append (CloseSelf ∷ a) b = ap (λ l. CloseSelf ∷ l) (moves-append a b)

-- what changes nothing is left out in front, and behind
pub moves-behind : (a b : List Act) → moves a ≡ [] → moves (a ++ b) ≡ moves b
moves-behind a b none = moves-append a b ∙ ap (λ l. l ++ moves b) none

pub moves-before : (a b : List Act) → moves b ≡ [] → moves (a ++ b) ≡ moves a
moves-before a b none = moves-append a b ∙ ap (λ l. moves a ++ l) none ∙ append-nil (moves a)

pub moves-to_each : (m : SysMsg) (list : List ActorId) → moves (to_each m list) ≡ []
moves-to_each m [] = refl
moves-to_each m (x ∷ list) = moves-to_each m list

pub moves-to_some : (f : ActorId → SysMsg) (list : List ActorId) → moves (map (λ x. Sys x (f x)) list) ≡ []
moves-to_some f [] = refl
moves-to_some f (x ∷ list) = moves-to_some f list

-- effects change nothing
pub moves-effects : (this : ActorId) (watched : List ActorId) (effects : List Effect) → moves (effect_acts this watched effects) ≡ []
unfolding effect_acts
moves-effects this watched [] = refl
moves-effects this watched (effect.Tell to kind value ∷ effects) = moves-effects this watched effects
moves-effects this watched (effect.Control to kind value ∷ effects) = moves-effects this watched effects
moves-effects this watched (effect.Watch x ∷ effects) =
    by_test (is_same this x || has watched x) (moves-effects this watched effects) (moves-effects this (watched ++ x ∷ []) effects)
  where
    by_test : (b : Bool) → moves (effect_acts this watched effects) ≡ [] → moves (effect_acts this (watched ++ x ∷ []) effects) ≡ [] →
        moves (if b then effect_acts this watched effects else Sys x (system.Watch this) ∷ effect_acts this (watched ++ x ∷ []) effects) ≡ []
    by_test true same more = same
    by_test false same more = more
moves-effects this watched (effect.Unwatch x ∷ effects) =
    by_test (has watched x) (moves-effects this watched effects) (moves-effects this (without watched x) effects)
  where
    by_test : (b : Bool) → moves (effect_acts this watched effects) ≡ [] → moves (effect_acts this (without watched x) effects) ≡ [] →
        moves (if b then Sys x (system.Unwatch this) ∷ effect_acts this (without watched x) effects else effect_acts this watched effects) ≡ []
    by_test true same less = less
    by_test false same less = same
moves-effects this watched (effect.Stop x ∷ effects) = moves-effects this watched effects
moves-effects this watched (effect.Spawn x ∷ effects) = moves-effects this watched effects

moves-stop : (effects : List Effect) → moves (stop_acts effects) ≡ []
moves-stop [] = refl
moves-stop (effect.Tell to kind value ∷ effects) = moves-stop effects
moves-stop (effect.Control to kind value ∷ effects) = moves-stop effects
moves-stop (effect.Watch x ∷ effects) = moves-stop effects
moves-stop (effect.Unwatch x ∷ effects) = moves-stop effects
moves-stop (effect.Stop x ∷ effects) = moves-stop effects
moves-stop (effect.Spawn x ∷ effects) = moves-stop effects

moves-report : (who : Identity) (c : Cause) → moves (report who c ∷ []) ≡ []
moves-report who c = by_parent who.parent
  where
    by_parent : (parent : Option ActorId) → moves (report (record who { parent = parent }) c ∷ []) ≡ []
    by_parent None = refl
    by_parent (Some p) = refl

-- a failure suspends once, unless the actor is failed already
pub moves-fail : (who : Identity) (by : FailedBy) (own : List ActorId) (c : Cause) (except : List ActorId) →
    moves (fail_acts who by own c except) ≡ (if is_nobody by then SuspendSelf ∷ [] else [])
moves-fail who by own c except = by_test (is_nobody by)
  where
    told : moves (to_each system.Suspend (filter (λ x. not (has except x)) own) ++ report who c ∷ []) ≡ []
    told = moves-behind (to_each system.Suspend (filter (λ x. not (has except x)) own)) (report who c ∷ [])
        (moves-to_each system.Suspend (filter (λ x. not (has except x)) own)) ∙ moves-report who c

    by_test : (b : Bool) → moves (if b then SuspendSelf ∷ to_each system.Suspend (filter (λ x. not (has except x)) own) ++ report who c ∷ [] else [])
        ≡ (if b then SuspendSelf ∷ [] else [])
    by_test true = ap (λ l. SuspendSelf ∷ l) told
    by_test false = refl

moves-restart : (x : ActorId) (c : Cause) (y : ActorId) → moves (restart_for x c y) ≡ []
moves-restart x c y = by_test (is_same y x)
  where
    by_test : (b : Bool) → moves (if b then Sys y (system.Recreate c) ∷ [] else Sys y system.Suspend ∷ Sys y (system.Recreate c) ∷ []) ≡ []
    by_test true = refl
    by_test false = refl

pub moves-restarts : (x : ActorId) (c : Cause) (list : List ActorId) → moves (flat_map (restart_for x c) list) ≡ []
moves-restarts x c [] = refl
moves-restarts x c (y ∷ list) =
    moves-behind (restart_for x c y) (flat_map (restart_for x c) list) (moves-restart x c y) ∙ moves-restarts x c list

-- the end of an actor closes
pub moves-end : (who : Identity) (watched_by : List ActorId) (effects : List Effect) → moves (end_acts who watched_by effects) ≡ CloseSelf ∷ []
moves-end who watched_by effects = by_parent who.parent
  where
    by_parent : (parent : Option ActorId) → moves (end_acts (record who { parent = parent }) watched_by effects) ≡ CloseSelf ∷ []
    by_parent None =
        moves-behind (stop_acts effects) (CloseSelf ∷ to_each (system.Died who.this) watched_by) (moves-stop effects)
        ∙ ap (λ l. CloseSelf ∷ l) (moves-to_each (system.Died who.this) watched_by)
    by_parent (Some p) =
        moves-behind (stop_acts effects) (CloseSelf ∷ Sys p (system.Died who.this) ∷ to_each (system.Died who.this) (without watched_by p))
        (moves-stop effects)
        ∙ ap (λ l. CloseSelf ∷ l) (moves-to_each (system.Died who.this) (without watched_by p))

-- ---- what they make of a mailbox

pub after-moves : (m : Mailbox) (list : List Act) → mailbox_after m list ≡ mailbox_after m (moves list)
after-moves m [] = refl
after-moves m (Tell to told ∷ list) = after-moves m list
after-moves m (Sys to message ∷ list) = after-moves m list
after-moves m (SuspendSelf ∷ list) = after-moves (suspend m) list
after-moves m (ResumeSelf ∷ list) = after-moves (resume m) list
after-moves m (CloseSelf ∷ list) = after-moves closed_mailbox list

pub counts-moves : (m : Mailbox) (list : List Act) → CountsEach m (moves list) → CountsEach m list
counts-moves m [] c = c
counts-moves m (Tell to told ∷ list) c = counts-moves m list c
counts-moves m (Sys to message ∷ list) c = counts-moves m list c
counts-moves m (SuspendSelf ∷ list) c = (c.0, counts-moves (suspend m) list c.1)
counts-moves m (ResumeSelf ∷ list) c = counts-moves (resume m) list c
counts-moves m (CloseSelf ∷ list) c = counts-moves closed_mailbox list c

-- the act of a mark
abbrev pub act_for : Mark → Act
act_for Plus = SuspendSelf
act_for Minus = ResumeSelf

suspended-open : (m : Mailbox) → m.closed ≡ false → suspend m ≡ record m { count = m.count + 1 }
suspended-open m opened = ap (λ b. if b then m else record m { count = m.count + 1 }) opened

-- the acts of marks count as the marks do
pub after-marks : (m : Mailbox) → m.closed ≡ false → (marks : List Mark) → mailbox_after m (map act_for marks)
    ≡ record m { count = running m.count marks }
after-marks m opened [] = refl
after-marks m opened (Plus ∷ marks) =
    ap (λ (x : Mailbox). mailbox_after x (map act_for marks)) (suspended-open m opened) ∙ after-marks (record m { count = m.count + 1 }) opened marks
after-marks m opened (Minus ∷ marks) = after-marks (record m { count = m.count - 1 }) opened marks

pub counts-marks : (m : Mailbox) → m.closed ≡ false → (marks : List Mark) → m.count + pluses marks ≤ most_suspensions →
    CountsEach m (map act_for marks)
unfolding pluses
counts-marks m opened [] few = tt
counts-marks m opened (Plus ∷ marks) few = (
  omega (arith, few),
  subst (λ (x : Mailbox). CountsEach x (map act_for marks)) (sym (suspended-open m opened))
      (counts-marks (record m { count = m.count + 1 }) opened marks (omega (arith, few))),
)
counts-marks m opened (Minus ∷ marks) few = counts-marks (record m { count = m.count - 1 }) opened marks (omega (arith, few))
