-- The acts of an actor whose home names only actors that exist go to such actors, and name only such.
use Rattle.std.proofs.Common.{◌≡◌, ℕ, ◌<◌, Bool, true, false, List, [], ◌∷◌, ◌++◌, length}
use Rattle.std.proofs.Common.{refl, sym, ap, ◌∙◌, subst, arith, map}
use Rattle.std.specs.Prelude.{filter, not, ◌==◌, ◌&&◌, ◌||◌, IsTrue, if◌then◌else◌, IfSome, Option, Some, None}
use Rattle.std.specs.List.{flat_map, list_all}
use Rattle.std.proofs.lemmas.Option.{slice_get_within}
use Rattle.std.proofs.lemmas.List.Elements.{All-tail, All-head, All-nil, All-push, All-filter}
use Rattle.mb_msg.specs.declared.envelope.Body.{Body}
use Rattle.mb_msg.specs.declared.envelope.Body.TheVariants as body
use Rattle.mb_msg.specs.declared.envelope.Envelope.{Envelope}
use Rattle.mb_msg.specs.declared.id.ActorId.{ActorId}
use Rattle.mb_msg.specs.declared.supervision.Cause.{Cause}
use Rattle.mb_msg.specs.declared.supervision.Cause.TheVariants as cause
use Rattle.mb_msg.specs.declared.supervision.Directive.{Directive}
use Rattle.mb_msg.specs.declared.supervision.Directive.TheVariants as directive
use Rattle.mb_msg.specs.declared.system.SysMsg.{SysMsg}
use Rattle.mb_msg.specs.declared.system.SysMsg.TheVariants as system
use Rattle.mb_actor.specs.ActorList.{is_same, has}
use Rattle.mb_actor.specs.Behaviour.{Moment, Reply}
use Rattle.mb_actor.specs.declared.answer.Answer.{Answer}
use Rattle.mb_actor.specs.declared.call.Call.{Call}
use Rattle.mb_actor.specs.declared.effect.Effect.{Effect}
use Rattle.mb_actor.specs.declared.effect.Effect.TheVariants as effect
use Rattle.mb_actor.specs.declared.phase.Phase.TheVariants.{Fresh, Live, Broken, Ending}
use Rattle.mb_actor.specs.OutboxView.{actor_of, is_actor, spawns_of}
use Rattle.mb_journal.specs.ActorList.{without, joined}
use Rattle.mb_journal.specs.Acts.{Act, acts, to_each, effect_acts, stop_acts, report, fail_acts, create_acts, resume_acts}
use Rattle.mb_journal.specs.Acts.{restart_acts, restart_for, supervision_acts, end_acts, terminate_acts, died_acts, system_acts, fresh_acts}
use Rattle.mb_journal.specs.Acts.{failure_acts, envelope_acts}
use Rattle.mb_journal.specs.Acts.Act.{Tell, Sys, SuspendSelf, ResumeSelf, CloseSelf}
use Rattle.mb_journal.specs.Aside.{ever_aside, next_front}
use Rattle.mb_journal.specs.Effects.{lasting_effects}
use Rattle.mb_journal.specs.Entry.{Entry, is_failed}
use Rattle.mb_journal.specs.Entry.Entry.{Handled, System, Dropped}
use Rattle.mb_journal.specs.Entry.Outcome.{Applied, SetAside}
use Rattle.mb_journal.specs.Failure.{is_child, is_nobody, failed, failure_of}
use Rattle.mb_journal.specs.declared.failed_by.FailedBy.{FailedBy}
use Rattle.mb_journal.specs.declared.failed_by.FailedBy.TheVariants.{Nobody}
use Rattle.mb_journal.specs.Identity.{Identity, is_guardian}
use Rattle.mb_journal.specs.Lawful.{AreLawful, IsLawfulEntry, IsGiven, call_of, envelope_call}
use Rattle.mb_journal.specs.Life.{after_death, children, spawned, is_ending, is_start, phase, is_empty, is_alone}
use Rattle.mb_journal.specs.Phase.{phase_is}
use Rattle.mb_journal.specs.Retries.{meant_by, carried_out}
use Rattle.mb_journal.specs.Watching.{watchers, watching, watching_after}
use Rattle.mb_ghost.specs.Seen.{Each}
use Rattle.mb_ghost.proofs.SeenLemmas.{each_append}
use Rattle.mb_gate.specs.NamedActors.{NamesBelow, EachNamesBelow}
use Rattle.mb_cell.specs.CellView.{CellView, IsOf, with_entry}
use Rattle.mb_cell.proofs.RoomLaws.{any-room}
use Rattle.mb_home.specs.Contents.{Contents}
use Rattle.mb_home.specs.NamedActors.{JournalNamesBelow, NamesActors, SendsBelow}
use Rattle.mb_home.specs.AgreesWithJournal.{AgreesWithJournal}
use Rattle.mb_home.specs.Steps.{AppliesNext, Begins, IsDue}
use Rattle.mb_home.proofs.CountLemmas.{front-of}

both-true : (a b : Bool) → IsTrue (a && b) → IsTrue a × IsTrue b
both-true true true t = (refl, refl)
both-true true false t = absurd (cc t)
both-true false b t = absurd (cc t)

module _ (actors : ℕ) where
  abbrev IsBelow : ActorId → Type 0
  IsBelow x = x.0 < actors

  abbrev AreBelow : List ActorId → Type 0
  AreBelow = Each IsBelow

  -- ---- lists of actors

  below-filter : (test : ActorId → Bool) (list : List ActorId) → AreBelow list → AreBelow (filter test list)
  below-filter test [] all = tt
  below-filter test (x ∷ list) all = by_test (test x) (below-filter test list all.1)
    where
      by_test : (b : Bool) → AreBelow (filter test list) → AreBelow (if b then x ∷ filter test list else filter test list)
      by_test true others = (all.0, others)
      by_test false others = others

  below-joined : (list : List ActorId) (x : ActorId) → AreBelow list → IsBelow x → AreBelow (joined list x)
  below-joined list x all less = by_test (has list x)
    where
      by_test : (b : Bool) → AreBelow (if b then list else list ++ x ∷ [])
      by_test true = all
      by_test false = each_append IsBelow list (x ∷ []) all (less, tt)

  -- ---- lists of acts

  sends-append : (a b : List Act) → SendsBelow actors a → SendsBelow actors b → SendsBelow actors (a ++ b)
  sends-append [] b some more = more
  sends-append (Tell to told ∷ a) b some more = sends-append a b some more
  sends-append (Sys to m ∷ a) b some more = (some.0, sends-append a b some.1 more)
  sends-append (SuspendSelf ∷ a) b some more = sends-append a b some more
  sends-append (ResumeSelf ∷ a) b some more = sends-append a b some more
  sends-append (CloseSelf ∷ a) b some more = sends-append a b some more

  sends-to_each : (m : SysMsg) (list : List ActorId) → NamesBelow actors m → AreBelow list → SendsBelow actors (to_each m list)
  sends-to_each m [] named all = tt
  sends-to_each m (x ∷ list) named all = ((all.0, named), sends-to_each m list named all.1)

  sends-resumed : (f : ActorId → Bool) (list : List ActorId) → AreBelow list →
      SendsBelow actors (map (λ x. Sys x (system.Resume (f x))) list)
  sends-resumed f [] all = tt
  sends-resumed f (x ∷ list) all = ((all.0, tt), sends-resumed f list all.1)

  sends-if : (b : Bool) (first second : List Act) → SendsBelow actors first → SendsBelow actors second →
      SendsBelow actors (if b then first else second)
  sends-if true first second y n = y
  sends-if false first second y n = n

  sends-restarts : (x : ActorId) (c : Cause) (list : List ActorId) → AreBelow list → SendsBelow actors (flat_map (restart_for x c) list)
  sends-restarts x c [] all = tt
  sends-restarts x c (y ∷ list) all = sends-append (restart_for x c y) (flat_map (restart_for x c) list) (one (is_same y x)) (sends-restarts x c
      list all.1)
    where
      one : (b : Bool) → SendsBelow actors (if b then Sys y (system.Recreate c) ∷ [] else Sys y system.Suspend ∷ Sys y (system.Recreate c) ∷ [])
      one true = ((all.0, tt), tt)
      one false = ((all.0, tt), ((all.0, tt), tt))

  sends-stop : (effects : List Effect) → SendsBelow actors (stop_acts effects)
  sends-stop [] = tt
  sends-stop (effect.Tell to kind value ∷ effects) = sends-stop effects
  sends-stop (effect.Control to kind value ∷ effects) = sends-stop effects
  sends-stop (effect.Watch x ∷ effects) = sends-stop effects
  sends-stop (effect.Unwatch x ∷ effects) = sends-stop effects
  sends-stop (effect.Stop x ∷ effects) = sends-stop effects
  sends-stop (effect.Spawn x ∷ effects) = sends-stop effects

-- effects that are about so many actors
abbrev are_there : ℕ → List Effect → Bool
are_there actors effects = list_all (λ e. is_actor (record { effects = []; actors = actors; unspawned = [] }) (actor_of e)) effects

module _ (actors : ℕ) where
  actor-below : (x : ActorId) → IsTrue (is_actor (record { effects = []; actors = actors; unspawned = [] }) x) → x.0 < actors
  actor-below x t = grind (arith, t)

  first-below : (e : Effect) (effects : List Effect) → IsTrue (are_there actors (e ∷ effects)) → (actor_of e).0 < actors
  first-below e effects t =
      actor-below (actor_of e)
      (both-true (is_actor (record { effects = []; actors = actors; unspawned = [] }) (actor_of e)) (are_there actors effects) t).0

  others-there : (e : Effect) (effects : List Effect) → IsTrue (are_there actors (e ∷ effects)) → IsTrue (are_there actors effects)
  others-there e effects t =
      (both-true (is_actor (record { effects = []; actors = actors; unspawned = [] }) (actor_of e)) (are_there actors effects) t).1

  -- the acts of effects
  sends-effects : (this : ActorId) (watched : List ActorId) (effects : List Effect) → this.0 < actors → IsTrue (are_there actors effects) →
      SendsBelow actors (effect_acts this watched effects)
  unfolding effect_acts
  sends-effects this watched [] less t = tt
  sends-effects this watched (effect.Tell to kind value ∷ effects) less t =
      sends-effects this watched effects less (others-there (effect.Tell to kind value) effects t)
  sends-effects this watched (effect.Control to kind value ∷ effects) less t =
      sends-effects this watched effects less (others-there (effect.Control to kind value) effects t)
  sends-effects this watched (effect.Watch x ∷ effects) less t =
      let left = others-there (effect.Watch x) effects t in
      sends-if actors (is_same this x || has watched x) (effect_acts this watched effects)
      (Sys x (system.Watch this) ∷ effect_acts this (watched ++ x ∷ []) effects) (sends-effects this watched effects less left)
      ((first-below (effect.Watch x) effects t, less), sends-effects this (watched ++ x ∷ []) effects less left)
  sends-effects this watched (effect.Unwatch x ∷ effects) less t =
      let left = others-there (effect.Unwatch x) effects t in
      sends-if actors (has watched x) (Sys x (system.Unwatch this) ∷ effect_acts this (without watched x) effects)
      (effect_acts this watched effects)
      ((first-below (effect.Unwatch x) effects t, less), sends-effects this (without watched x) effects less left)
      (sends-effects this watched effects less left)
  sends-effects this watched (effect.Stop x ∷ effects) less t =
      ((first-below (effect.Stop x) effects t, tt), sends-effects this watched effects less (others-there (effect.Stop x) effects t))
  sends-effects this watched (effect.Spawn x ∷ effects) less t =
      ((first-below (effect.Spawn x) effects t, tt), sends-effects this watched effects less (others-there (effect.Spawn x) effects t))

  -- the children that effects start
  spawns-below : (effects : List Effect) → IsTrue (are_there actors effects) → AreBelow actors (spawns_of effects)
  spawns-below [] t = tt
  spawns-below (effect.Tell to kind value ∷ effects) t = spawns-below effects (others-there (effect.Tell to kind value) effects t)
  spawns-below (effect.Control to kind value ∷ effects) t = spawns-below effects (others-there (effect.Control to kind value) effects t)
  spawns-below (effect.Watch x ∷ effects) t = spawns-below effects (others-there (effect.Watch x) effects t)
  spawns-below (effect.Unwatch x ∷ effects) t = spawns-below effects (others-there (effect.Unwatch x) effects t)
  spawns-below (effect.Stop x ∷ effects) t = spawns-below effects (others-there (effect.Stop x) effects t)
  spawns-below (effect.Spawn x ∷ effects) t =
      (first-below (effect.Spawn x) effects t, spawns-below effects (others-there (effect.Spawn x) effects t))

  -- the actors that an actor watches after effects
  watched-below : (this : ActorId) (list : List ActorId) (effects : List Effect) → AreBelow actors list → IsTrue (are_there actors effects) →
      AreBelow actors (watching_after this list effects)
  watched-below this list [] all t = all
  watched-below this list (effect.Tell to kind value ∷ effects) all t =
      watched-below this list effects all (others-there (effect.Tell to kind value) effects t)
  watched-below this list (effect.Control to kind value ∷ effects) all t =
      watched-below this list effects all (others-there (effect.Control to kind value) effects t)
  watched-below this list (effect.Watch x ∷ effects) all t =
      watched-below this (if is_same this x then list else joined list x) effects (by_test (is_same this x))
      (others-there (effect.Watch x) effects t)
    where
      by_test : (b : Bool) → AreBelow actors (if b then list else joined list x)
      by_test true = all
      by_test false = below-joined actors list x all (first-below (effect.Watch x) effects t)
  watched-below this list (effect.Unwatch x ∷ effects) all t =
      watched-below this (without list x) effects (below-filter actors (λ b. not (is_same x b)) list all)
      (others-there (effect.Unwatch x) effects t)
  watched-below this list (effect.Stop x ∷ effects) all t = watched-below this list effects all (others-there (effect.Stop x) effects t)
  watched-below this list (effect.Spawn x ∷ effects) all t = watched-below this list effects all (others-there (effect.Spawn x) effects t)

-- ---- who watches

watchers-below : (actors : ℕ) (journal : List Entry) → JournalNamesBelow actors journal → AreBelow actors (watchers journal)
unfolding watchers
watchers-below actors [] named = tt
watchers-below actors (Handled envelope reading outcome ∷ before) named = watchers-below actors before named
watchers-below actors (Dropped envelope ∷ before) named = watchers-below actors before named
watchers-below actors (System number system.Create outcome ∷ before) named = watchers-below actors before named.1
watchers-below actors (System number (system.Recreate c) outcome ∷ before) named = watchers-below actors before named.1
watchers-below actors (System number system.Suspend outcome ∷ before) named = watchers-below actors before named.1
watchers-below actors (System number (system.Resume f) outcome ∷ before) named = watchers-below actors before named.1
watchers-below actors (System number system.Terminate outcome ∷ before) named = watchers-below actors before named.1
watchers-below actors (System number (system.Watch w) (Applied a effects) ∷ before) named =
    below-joined actors (watchers before) w (watchers-below actors before named.1) named.0
watchers-below actors (System number (system.Watch w) SetAside ∷ before) named = watchers-below actors before named.1
watchers-below actors (System number (system.Unwatch w) (Applied a effects) ∷ before) named =
    below-filter actors (λ b. not (is_same w b)) (watchers before) (watchers-below actors before named.1)
watchers-below actors (System number (system.Unwatch w) SetAside ∷ before) named = watchers-below actors before named.1
watchers-below actors (System number (system.Failed x c) outcome ∷ before) named = watchers-below actors before named.1
watchers-below actors (System number (system.Died x) outcome ∷ before) named = watchers-below actors before named.1

-- the list without one that died
death-below : (actors : ℕ) (e : Entry) (list : List ActorId) → AreBelow actors list → AreBelow actors (after_death e list)
death-below actors (Handled envelope reading outcome) list all = all
death-below actors (Dropped envelope) list all = all
death-below actors (System number system.Create outcome) list all = all
death-below actors (System number (system.Recreate c) outcome) list all = all
death-below actors (System number system.Suspend outcome) list all = all
death-below actors (System number (system.Resume f) outcome) list all = all
death-below actors (System number system.Terminate outcome) list all = all
death-below actors (System number (system.Watch w) outcome) list all = all
death-below actors (System number (system.Unwatch w) outcome) list all = all
death-below actors (System number (system.Failed x c) outcome) list all = all
death-below actors (System number (system.Died x) (Applied a effects)) list all = below-filter actors (λ b. not (is_same x b)) list all
death-below actors (System number (system.Died x) SetAside) list all = all

module _ (who : Identity) (gives : Moment → Reply → Type 0) where
  abbrev AreThere : List Effect → Type 0
  AreThere effects = IsTrue (are_there who.actors effects)

  there-given : (before : List Entry) (call : Option Call) (a : Option Answer) (effects : List Effect) → IsGiven who gives before call a effects →
      AreThere effects
  there-given before None a effects given = subst AreThere (sym given.1) refl
  there-given before (Some call) a effects given = given.held.present

  -- the effects that last
  there-applied : (number : ℕ) (m : SysMsg) (a : Option Answer) (effects : List Effect) → AreThere effects →
      AreThere (lasting_effects (System number m (Applied a effects)))
  there-applied number system.Create a effects t = t
  there-applied number (system.Recreate c) a effects t = t
  there-applied number system.Suspend a effects t = t
  there-applied number (system.Resume f) a effects t = t
  there-applied number system.Terminate a effects t = refl
  there-applied number (system.Watch w) a effects t = t
  there-applied number (system.Unwatch w) a effects t = t
  there-applied number (system.Failed x c) a effects t = t
  there-applied number (system.Died x) a effects t = refl

  there-aside : (number : ℕ) (m : SysMsg) → AreThere (lasting_effects (System number m SetAside))
  there-aside number system.Create = refl
  there-aside number (system.Recreate c) = refl
  there-aside number system.Suspend = refl
  there-aside number (system.Resume f) = refl
  there-aside number system.Terminate = refl
  there-aside number (system.Watch w) = refl
  there-aside number (system.Unwatch w) = refl
  there-aside number (system.Failed x c) = refl
  there-aside number (system.Died x) = refl

  there-lasting : (before : List Entry) (e : Entry) → IsLawfulEntry who gives before e → AreThere (lasting_effects e)
  there-lasting before (Handled envelope reading (Applied a effects)) lawful =
      there-given before (envelope_call envelope.body) a effects lawful.given
  there-lasting before (Handled envelope reading SetAside) lawful = absurd lawful
  there-lasting before (Dropped envelope) lawful = refl
  there-lasting before (System number m SetAside) lawful = there-aside number m
  there-lasting before (System number m (Applied a effects)) lawful =
      there-applied number m a effects (there-given before (call_of who before (System number m (Applied a effects))) a effects lawful.1)

  -- the actors that the actor watches, and its children
  watching-below : (journal : List Entry) → AreLawful who gives journal → AreBelow who.actors (watching who journal)
  unfolding AreLawful watching
  watching-below [] lawful = tt
  watching-below (e ∷ before) lawful =
      watched-below who.actors who.this (if is_ending e before then [] else after_death e (watching who before)) (lasting_effects e)
      (by_test (is_ending e before) (death-below who.actors e (watching who before) (watching-below before lawful.1)))
      (there-lasting before e lawful.0)
    where
      by_test : (b : Bool) → AreBelow who.actors (after_death e (watching who before)) →
          AreBelow who.actors (if b then [] else after_death e (watching who before))
      by_test true all = tt
      by_test false all = all

  module _ (prepared : AreBelow who.actors who.prepared) where
    spawned-below : (before : List Entry) (e : Entry) → IsLawfulEntry who gives before e → AreBelow who.actors (spawned who e before)
    spawned-below before e lawful = by_tests (is_guardian who) (is_start e before)
      where
        by_tests : (b c : Bool) → AreBelow who.actors (if b then (if c then who.prepared else []) else spawns_of (lasting_effects e))
        by_tests true true = prepared
        by_tests true false = tt
        by_tests false c = spawns-below who.actors (lasting_effects e) (there-lasting before e lawful)

    children-below : (journal : List Entry) → AreLawful who gives journal → AreBelow who.actors (children who journal)
    unfolding AreLawful children
    children-below [] lawful = tt
    children-below (e ∷ before) lawful =
        each_append (IsBelow who.actors) (after_death e (children who before)) (spawned who e before)
        (death-below who.actors e (children who before) (children-below before lawful.1)) (spawned-below before e lawful.0)

-- ---- the acts, rule by rule

module _ (who : Identity) (this_there : who.this.0 < who.actors) (parent_there : IfSome who.parent (λ p. p.0 < who.actors)) where
  abbrev Sends : List Act → Type 0
  Sends = SendsBelow who.actors

  sends-report : (c : Cause) → Sends (report who c ∷ [])
  sends-report c = by_parent who.parent parent_there
    where
      by_parent : (parent : Option ActorId) → IfSome parent (λ p. p.0 < who.actors) → Sends (report (record who { parent = parent }) c ∷ [])
      by_parent None there = ((this_there, tt), tt)
      by_parent (Some p) there = ((there, this_there), tt)

  sends-fail : (by : FailedBy) (own : List ActorId) (c : Cause) (except : List ActorId) → AreBelow who.actors own →
      Sends (fail_acts who by own c except)
  sends-fail by own c except all =
      sends-if who.actors (is_nobody by)
      (SuspendSelf ∷ to_each system.Suspend (filter (λ x. not (has except x)) own) ++ report who c ∷ []) []
      (sends-append who.actors (to_each system.Suspend (filter (λ x. not (has except x)) own)) (report who c ∷ [])
      (sends-to_each who.actors system.Suspend (filter (λ x. not (has except x)) own) tt
      (below-filter who.actors (λ x. not (has except x)) own all)) (sends-report c)) tt

  sends-end : (watched_by : List ActorId) (effects : List Effect) → AreBelow who.actors watched_by → Sends (end_acts who watched_by effects)
  sends-end watched_by effects all = by_parent who.parent parent_there
    where
      by_parent : (parent : Option ActorId) → IfSome parent (λ p. p.0 < who.actors) →
          Sends (end_acts (record who { parent = parent }) watched_by effects)
      by_parent None there =
          sends-append who.actors (stop_acts effects) (CloseSelf ∷ to_each (system.Died who.this) watched_by) (sends-stop who.actors effects)
          (sends-to_each who.actors (system.Died who.this) watched_by this_there all)
      by_parent (Some p) there =
          sends-append who.actors (stop_acts effects)
          (CloseSelf ∷ Sys p (system.Died who.this) ∷ to_each (system.Died who.this) (without watched_by p)) (sends-stop who.actors effects) (
            (there, this_there),
            sends-to_each who.actors (system.Died who.this) (without watched_by p) this_there
                (below-filter who.actors (λ b. not (is_same p b)) watched_by all),
          )

  module _ (gives : Moment → Reply → Type 0) (before : List Entry) (lawful : AreLawful who gives before)
      (named : JournalNamesBelow who.actors before) (prepared : AreBelow who.actors who.prepared) where
    own : AreBelow who.actors (children who before)
    own = children-below who gives prepared before lawful

    abbrev There : List Effect → Type 0
    There effects = IsTrue (are_there who.actors effects)

    own-more : (effects : List Effect) → There effects → AreBelow who.actors (children who before ++ spawns_of effects)
    own-more effects t = each_append (IsBelow who.actors) (children who before) (spawns_of effects) own (spawns-below who.actors effects t)

    sends-begun : (effects : List Effect) (list : List Act) → There effects → Sends list →
        Sends (effect_acts who.this (watching who before) effects ++ list)
    sends-begun effects list t more =
        sends-append who.actors (effect_acts who.this (watching who before) effects) list
        (sends-effects who.actors who.this (watching who before) effects this_there t) more

    sends-create : (a : Option Answer) (effects : List Effect) → There effects → Sends (create_acts who before a effects)
    sends-create a effects t =
        sends-if who.actors (is_guardian who) (ResumeSelf ∷ to_each system.Create who.prepared)
        (ResumeSelf ∷ effect_acts who.this (watching who before) effects
        ++ (if is_failed a then fail_acts who (failed who before) (children who before ++ spawns_of effects) cause.Init [] else []))
        (sends-to_each who.actors system.Create who.prepared tt prepared)
        (sends-begun effects _ t
        (sends-if who.actors (is_failed a) (fail_acts who (failed who before) (children who before ++ spawns_of effects) cause.Init []) []
        (sends-fail (failed who before) (children who before ++ spawns_of effects) cause.Init [] (own-more effects t)) tt))

    sends-resume : (f : Bool) → Sends (resume_acts who before f)
    sends-resume f = sends-resumed who.actors (λ x. f && is_child (failed who before) x) (children who before) own

    sends-restart : (c : Cause) (a : Option Answer) (effects : List Effect) → There effects → Sends (restart_acts who before c a effects)
    sends-restart c a effects t =
        sends-begun effects
        (if is_failed a then fail_acts who Nobody (children who before ++ spawns_of effects) cause.Init (children who before)
        else to_each (system.Recreate c) (children who before)) t
        (sends-if who.actors (is_failed a) (fail_acts who Nobody (children who before ++ spawns_of effects) cause.Init (children who before))
        (to_each (system.Recreate c) (children who before))
        (sends-fail Nobody (children who before ++ spawns_of effects) cause.Init (children who before) (own-more effects t))
        (sends-to_each who.actors (system.Recreate c) (children who before) tt own))

    meant-below : (x : ActorId) → x.0 < who.actors → AreBelow who.actors (meant_by who before x)
    meant-below x less = by_test who.all_for_one
      where
        by_test : (b : Bool) → AreBelow who.actors (if b then children who before else x ∷ [])
        by_test true = own
        by_test false = (less, tt)

    sends-directive : (x : ActorId) (c : Cause) (d : Directive) → x.0 < who.actors → Sends (supervision_acts who before x c d)
    sends-directive x c directive.Resume less = ((less, tt), tt)
    sends-directive x c directive.Restart less = sends-restarts who.actors x c (meant_by who before x) (meant-below x less)
    sends-directive x c directive.Stop less = sends-to_each who.actors system.Terminate (meant_by who before x) tt (meant-below x less)
    sends-directive x c directive.Escalate less = sends-fail (failed who before) (children who before) c (x ∷ []) own

    sends-terminate : (effects : List Effect) → Sends (terminate_acts who before effects)
    sends-terminate effects =
        sends-append who.actors
        (to_each (system.Unwatch who.this) (watching who before) ++ to_each system.Terminate (children who before))
        (if is_empty (children who before) then end_acts who (watchers before) effects else SuspendSelf ∷ [])
        (sends-append who.actors (to_each (system.Unwatch who.this) (watching who before)) (to_each system.Terminate (children who before))
        (sends-to_each who.actors (system.Unwatch who.this) (watching who before) this_there (watching-below who gives before lawful))
        (sends-to_each who.actors system.Terminate (children who before) tt own))
        (sends-if who.actors (is_empty (children who before)) (end_acts who (watchers before) effects) (SuspendSelf ∷ [])
        (sends-end (watchers before) effects (watchers-below who.actors before named)) tt)

    sends-died : (x : ActorId) (effects : List Effect) → Sends (died_acts who before x effects)
    sends-died x effects =
        sends-append who.actors (if has (watching who before) x then Tell who.this (body.Terminated x) ∷ [] else [])
        (if phase_is (phase who before) Ending && is_alone (children who before) x then end_acts who (watchers before) effects else [])
        (sends-if who.actors (has (watching who before) x) (Tell who.this (body.Terminated x) ∷ []) [] tt tt)
        (sends-if who.actors (phase_is (phase who before) Ending && is_alone (children who before) x) (end_acts who (watchers before) effects) []
        (sends-end (watchers before) effects (watchers-below who.actors before named)) tt)

    sends-system : (m : SysMsg) (a : Option Answer) (effects : List Effect) → There effects → NamesBelow who.actors m →
        Sends (system_acts who before m a effects)
    sends-system system.Create a effects t names = tt
    sends-system system.Suspend a effects t names = sends-to_each who.actors system.Suspend (children who before) tt own
    sends-system (system.Resume f) a effects t names =
        sends-if who.actors (phase_is (phase who before) Live) (resume_acts who before f)
        (if phase_is (phase who before) Broken && not (is_guardian who) then restart_acts who before cause.Init a effects else []) (sends-resume f)
        (sends-if who.actors (phase_is (phase who before) Broken && not (is_guardian who)) (restart_acts who before cause.Init a effects) []
        (sends-restart cause.Init a effects t) tt)
    sends-system (system.Recreate c) a effects t names =
        sends-if who.actors (is_guardian who) [] (restart_acts who before c a effects) tt (sends-restart c a effects t)
    sends-system (system.Failed x c) a effects t names =
        sends-if who.actors (has (children who before) x) (supervision_acts who before x c (carried_out who before x c)) []
        (sends-directive x c (carried_out who before x c) names) tt
    sends-system system.Terminate a effects t names =
        sends-if who.actors (phase_is (phase who before) Ending) [] (terminate_acts who before effects) tt (sends-terminate effects)
    sends-system (system.Watch w) a effects t names = tt
    sends-system (system.Unwatch w) a effects t names = tt
    sends-system (system.Died x) a effects t names = sends-died x effects

    sends-fresh : (m : SysMsg) (a : Option Answer) (effects : List Effect) → There effects → Sends (fresh_acts who before m a effects)
    sends-fresh system.Create a effects t = sends-create a effects t
    sends-fresh system.Suspend a effects t = tt
    sends-fresh (system.Resume f) a effects t = tt
    sends-fresh (system.Recreate c) a effects t = tt
    sends-fresh (system.Failed x c) a effects t = tt
    sends-fresh system.Terminate a effects t = sends-terminate effects
    sends-fresh (system.Watch w) a effects t = tt
    sends-fresh (system.Unwatch w) a effects t = tt
    sends-fresh (system.Died x) a effects t = tt

    sends-failure : (c : Option Cause) (effects : List Effect) → There effects → Sends (failure_acts who before c effects)
    sends-failure None effects t = tt
    sends-failure (Some c) effects t =
        sends-fail (failed who before) (children who before ++ spawns_of effects) c [] (own-more effects t)

    sends-body : (b : Body) (a : Option Answer) (effects : List Effect) → There effects → Sends (envelope_acts who before b a effects)
    sends-body (body.User kind value) a effects t = sends-begun effects _ t (sends-failure (failure_of (body.User kind value) a) effects t)
    sends-body (body.Control kind value) a effects t = sends-begun effects _ t (sends-failure (failure_of (body.Control kind value) a) effects t)
    sends-body body.PoisonPill a effects t = ((this_there, tt), tt)
    sends-body body.Kill a effects t = sends-begun effects _ t (sends-failure (failure_of body.Kill a) effects t)
    sends-body (body.Terminated x) a effects t = sends-begun effects _ t (sends-failure (failure_of (body.Terminated x) a) effects t)

    -- the acts of a lawful entry, whose message names actors alone
    sends-acts : (e : Entry) → IsLawfulEntry who gives before e → JournalNamesBelow who.actors (e ∷ before) → Sends (acts who before e)
    unfolding acts
    sends-acts (Handled envelope reading (Applied a effects)) lawful names =
        sends-body envelope.body a effects (there-given who gives before (envelope_call envelope.body) a effects lawful.given)
    sends-acts (Handled envelope reading SetAside) lawful names = absurd lawful
    sends-acts (System number m (Applied a effects)) lawful names =
        let t = there-given who gives before (call_of who before (System number m (Applied a effects))) a effects lawful.1 in
        sends-if who.actors (phase_is (phase who before) Fresh) (fresh_acts who before m a effects) (system_acts who before m a effects)
        (sends-fresh m a effects t) (sends-system m a effects t names.0)
    sends-acts (System number m SetAside) lawful names = tt
    sends-acts (Dropped envelope) lawful names = tt

-- ---- the message that is due, and a home with an entry more

named-aside : (actors : ℕ) (journal : List Entry) → JournalNamesBelow actors journal → EachNamesBelow actors (ever_aside journal)
unfolding ever_aside
named-aside actors [] named = All-nil (λ (x : ℕ × SysMsg). NamesBelow actors x.1)
named-aside actors (Handled envelope reading outcome ∷ before) named = named-aside actors before named
named-aside actors (Dropped envelope ∷ before) named = named-aside actors before named
named-aside actors (System number m SetAside ∷ before) named =
    All-push (λ (x : ℕ × SysMsg). NamesBelow actors x.1) (ever_aside before) (number, m) (named-aside actors before named.1) named.0
named-aside actors (System number m (Applied a effects) ∷ before) named =
    All-filter (λ (x : ℕ × SysMsg). not (x.0 == number)) (λ (x : ℕ × SysMsg). NamesBelow actors x.1) (ever_aside before)
    (named-aside actors before named.1)

named-due : (actors : ℕ) (who : Identity) (journal : List Entry) (rest left : List (ℕ × SysMsg)) (number : ℕ) (m : SysMsg) →
    JournalNamesBelow actors journal → EachNamesBelow actors rest → IsDue (next_front who journal) rest number m left →
    NamesBelow actors m × EachNamesBelow actors left
named-due actors who journal rest left number m named others due = by_front (next_front who journal) refl due
  where
    by_front : (o : Option (ℕ × SysMsg)) → next_front who journal ≡ o → IsDue o rest number m left →
        NamesBelow actors m × EachNamesBelow actors left
    by_front None none is =
        let all : EachNamesBelow actors ((number, m) ∷ left) = subst (EachNamesBelow actors) is others in (
          All-head (λ (x : ℕ × SysMsg). NamesBelow actors x.1) (number, m) left all,
          All-tail (λ (x : ℕ × SysMsg). NamesBelow actors x.1) (number, m) left all,
        )
    by_front (Some front) some is = (
      front-of (λ (x : ℕ × SysMsg). NamesBelow actors x.1) who journal (number, m) (some ∙ ap (λ (x : ℕ × SysMsg). Some x) is.0)
          (named-aside actors journal named),
      subst (EachNamesBelow actors) (sym is.1) others,
    )

split-lawful : (who : Identity) (gives : Moment → Reply → Type 0) (before : List Entry) (e : Entry) → AreLawful who gives (e ∷ before) →
    IsLawfulEntry who gives before e × AreLawful who gives before
unfolding AreLawful
split-lawful who gives before e lawful = lawful

module _ (gives : Moment → Reply → Type 0) (h new : Contents) (n : NamesActors h) (s : AgreesWithJournal gives new.cell.acts new) where
  named-entry : (e : Entry) → new.cell ≡ record (with_entry h.cell e) { is_ready = new.cell.is_ready } → JournalNamesBelow h.cell.who.actors (e ∷ h.cell.journal) →
      EachNamesBelow h.cell.who.actors new.rest → NamesActors new × SendsBelow new.cell.who.actors new.cell.acts
  named-entry e adds names rest =
      let who : new.cell.who ≡ h.cell.who = ap (λ (c : CellView). c.who) adds in
      let within : new.cell.who.this.0 < length new.directory = slice_get_within new.directory new.cell.who.this.0 _ s.is_own.enrolled in
      let there : new.cell.who.this.0 < new.cell.who.actors = omega (arith, within, s.is_own.all_there) in
      let this_there : h.cell.who.this.0 < h.cell.who.actors = subst (λ (w : Identity). w.this.0 < w.actors) who there in
      let all : AreLawful h.cell.who gives (e ∷ h.cell.journal) =
      subst (λ (c : CellView). AreLawful c.who gives c.journal) adds s.lawful.entries in
      let both = split-lawful h.cell.who gives h.cell.journal e all in
      let sends : SendsBelow h.cell.who.actors (acts h.cell.who h.cell.journal e) =
      sends-acts h.cell.who this_there n.parent gives h.cell.journal both.1 n.journal n.prepared e both.0 names in (
        record {
          parent = subst (λ (w : Identity). IfSome w.parent (λ p. p.0 < w.actors)) (sym who) n.parent;
          prepared = subst (λ (w : Identity). AreBelow w.actors w.prepared) (sym who) n.prepared;
          journal = subst (λ (c : CellView). JournalNamesBelow c.who.actors c.journal) (sym adds) names;
          rest = subst (λ (w : Identity). EachNamesBelow w.actors new.rest) (sym who) rest;
        },
        subst (λ (c : CellView). SendsBelow c.who.actors c.acts) (sym adds) sends,
      )

  -- after a system message, and after an envelope
  pub named-applied : AppliesNext h new → NamesActors new × SendsBelow new.cell.who.actors new.cell.acts
  named-applied a =
      let due = named-due h.cell.who.actors h.cell.who h.cell.journal h.rest new.rest a.number a.message n.journal n.rest a.due in
      let e : Entry = System a.number a.message a.taken.outcome in
      named-entry e (any-room new.cell (with_entry h.cell e) a.taken.adds) (due.0, n.journal) due.1

  names-begun : (e : Entry) (envelope : Envelope) (reading : ℕ) → IsOf envelope reading e →
      JournalNamesBelow h.cell.who.actors (e ∷ h.cell.journal)
  names-begun (Handled x r o) envelope reading of_it = n.journal
  names-begun (System number m o) envelope reading of_it = absurd of_it
  names-begun (Dropped x) envelope reading of_it = n.journal

  pub named-begun : (reading : ℕ) → Begins h new reading → NamesActors new × SendsBelow new.cell.who.actors new.cell.acts
  named-begun reading b =
      named-entry b.taken.entry b.taken.adds (names-begun b.taken.entry b.envelope reading b.taken.of_it)
      (subst (EachNamesBelow h.cell.who.actors) (sym (ap (λ (x : Contents). x.rest) b.same)) n.rest)
