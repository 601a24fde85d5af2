-- How long the lists of a lawful journal are, and how high its count: each entry adds so much and no more.
use Rattle.std.proofs.Common.{◌≡◌, ℕ, suc, ◌+◌, ◌*◌, ◌≤◌, List, [], ◌∷◌, ◌++◌, length, Bool, true, false, ap, arith, length-append}
use Rattle.std.specs.Prelude.{not, if◌then◌else◌, filter, Option, Some, None}
use Rattle.std.proofs.Math.Nat.{mul-suc}
use Rattle.std.proofs.lemmas.List.Sums.{length-filter, count_by-le-length}
use Rattle.mb_msg.specs.declared.id.ActorId.{ActorId}
use Rattle.mb_msg.specs.declared.system.SysMsg.{SysMsg}
use Rattle.mb_msg.specs.declared.system.SysMsg.TheVariants as system
use Rattle.mb_actor.specs.ActorList.{is_same, has}
use Rattle.mb_actor.specs.Behaviour.{Moment, Reply}
use Rattle.mb_actor.specs.OutboxView.{spawns_of}
use Rattle.mb_actor.specs.declared.answer.Answer.{Answer}
use Rattle.mb_actor.specs.declared.call.Call.{Call}
use Rattle.mb_actor.specs.declared.effect.Effect.{Effect}
use Rattle.mb_actor.specs.declared.effect.Effect.TheVariants as effect
use Rattle.mb_journal.specs.ActorList.{without, joined}
use Rattle.mb_journal.specs.Effects.{lasting_effects}
use Rattle.mb_journal.specs.Entry.{Entry}
use Rattle.mb_journal.specs.Entry.Entry.{Handled, System, Dropped}
use Rattle.mb_journal.specs.Entry.Outcome.{Applied, SetAside}
use Rattle.mb_journal.specs.Identity.{Identity, is_guardian}
use Rattle.mb_journal.specs.Lawful.{AreLawful, IsLawfulEntry, IsGiven, call_of, envelope_call}
use Rattle.mb_journal.specs.Life.{children, after_death}
use Rattle.mb_journal.specs.Suspension.{Mark, mark_if, marks, count_after}
use Rattle.mb_journal.specs.Suspension.Mark.{Plus, Minus}
use Rattle.mb_journal.specs.Watching.{watchers, watching, watching_after}
use Rattle.mb_journal.proofs.CountLemmas.{running, count_after-running}
use Rattle.mb_journal.proofs.Fold.{Queries, queries, queries-fold, running-append, watchers_on, marks_on, children_on, watching_on, starts, ends}

-- ---- what one entry adds

few_left : (p : ActorId → Bool) (list : List ActorId) → length (filter p list) ≤ length list
few_left p list = omega (arith, length-filter p list, count_by-le-length p list)

one_joined : (list : List ActorId) (x : ActorId) → length (joined list x) ≤ length list + 1
one_joined list x = by_test (has list x)
  where
    by_test : (b : Bool) → length (if b then list else list ++ x ∷ []) ≤ length list + 1
    by_test true = omega arith
    by_test false = omega (arith, length-append list (x ∷ []))

few_spawned : (effects : List Effect) → length (spawns_of effects) ≤ length effects
few_spawned [] = omega arith
few_spawned (effect.Tell to kind value ∷ effects) = omega (arith, few_spawned effects)
few_spawned (effect.Control to kind value ∷ effects) = omega (arith, few_spawned effects)
few_spawned (effect.Watch x ∷ effects) = omega (arith, few_spawned effects)
few_spawned (effect.Unwatch x ∷ effects) = omega (arith, few_spawned effects)
few_spawned (effect.Stop x ∷ effects) = omega (arith, few_spawned effects)
few_spawned (effect.Spawn x ∷ effects) = omega (arith, few_spawned effects)

one_watched : (b : Bool) (list : List ActorId) (x : ActorId) → length (if b then list else joined list x) ≤ length list + 1
one_watched true list x = omega arith
one_watched false list x = one_joined list x

few_watched : (this : ActorId) (list : List ActorId) (effects : List Effect) →
    length (watching_after this list effects) ≤ length list + length effects
few_watched this list [] = omega arith
few_watched this list (effect.Tell to kind value ∷ effects) = omega (arith, few_watched this list effects)
few_watched this list (effect.Control to kind value ∷ effects) = omega (arith, few_watched this list effects)
few_watched this list (effect.Watch x ∷ effects) =
    omega (arith, few_watched this (if is_same this x then list else joined list x) effects, one_watched (is_same this x) list x)
few_watched this list (effect.Unwatch x ∷ effects) =
    omega (arith, few_watched this (without list x) effects, few_left (λ b. not (is_same x b)) list)
few_watched this list (effect.Stop x ∷ effects) = omega (arith, few_watched this list effects)
few_watched this list (effect.Spawn x ∷ effects) = omega (arith, few_watched this list effects)

few_after_death : (e : Entry) (list : List ActorId) → length (after_death e list) ≤ length list
few_after_death (Handled envelope reading outcome) list = omega arith
few_after_death (Dropped envelope) list = omega arith
few_after_death (System number m SetAside) list = by_message m
  where
    by_message : (m : SysMsg) → length (after_death (System number m SetAside) list) ≤ length list
    by_message system.Create = omega arith
    by_message (system.Recreate c) = omega arith
    by_message system.Suspend = omega arith
    by_message (system.Resume f) = omega arith
    by_message system.Terminate = omega arith
    by_message (system.Watch w) = omega arith
    by_message (system.Unwatch w) = omega arith
    by_message (system.Failed x c) = omega arith
    by_message (system.Died x) = omega arith
few_after_death (System number m (Applied a effects)) list = by_message m
  where
    by_message : (m : SysMsg) → length (after_death (System number m (Applied a effects)) list) ≤ length list
    by_message system.Create = omega arith
    by_message (system.Recreate c) = omega arith
    by_message system.Suspend = omega arith
    by_message (system.Resume f) = omega arith
    by_message system.Terminate = omega arith
    by_message (system.Watch w) = omega arith
    by_message (system.Unwatch w) = omega arith
    by_message (system.Failed x c) = omega arith
    by_message (system.Died x) = few_left (λ b. not (is_same x b)) list

one_watcher : (e : Entry) (list : List ActorId) → length (watchers_on list e) ≤ length list + 1
one_watcher (Handled envelope reading outcome) list = omega arith
one_watcher (Dropped envelope) list = omega arith
one_watcher (System number system.Create outcome) list = omega arith
one_watcher (System number (system.Recreate c) outcome) list = omega arith
one_watcher (System number system.Suspend outcome) list = omega arith
one_watcher (System number (system.Resume f) outcome) list = omega arith
one_watcher (System number system.Terminate outcome) list = omega arith
one_watcher (System number (system.Watch w) (Applied a effects)) list = one_joined list w
one_watcher (System number (system.Watch w) SetAside) list = omega arith
one_watcher (System number (system.Unwatch w) (Applied a effects)) list = omega (arith, few_left (λ b. not (is_same w b)) list)
one_watcher (System number (system.Unwatch w) SetAside) list = omega arith
one_watcher (System number (system.Failed x c) outcome) list = omega arith
one_watcher (System number (system.Died x) outcome) list = omega arith

-- of the five marks that an entry can have three add one
at_most_more : (n : ℕ) (b : Bool) → running n (mark_if b Plus) ≤ n + 1
at_most_more n true = omega arith
at_most_more n false = omega arith

at_most_less : (n : ℕ) (b : Bool) → running n (mark_if b Minus) ≤ n
at_most_less n true = omega arith
at_most_less n false = omega arith

three_marks : (n : ℕ) (a b c d e : Bool) →
    running n (mark_if a Minus ++ mark_if b Plus ++ mark_if c Minus ++ mark_if d Plus ++ mark_if e Plus) ≤ n + 3
three_marks n a b c d e =
    let one : List Mark = mark_if a Minus in
    let two : List Mark = one ++ mark_if b Plus in
    let three : List Mark = two ++ mark_if c Minus in
    let four : List Mark = three ++ mark_if d Plus in
    omega (
      arith,
      at_most_less n a,
      running-append n one (mark_if b Plus),
      at_most_more (running n one) b,
      running-append n two (mark_if c Minus),
      at_most_less (running n two) c,
      running-append n three (mark_if d Plus),
      at_most_more (running n three) d,
      running-append n four (mark_if e Plus),
      at_most_more (running n four) e,
    )

-- a call asks for 16 effects at most, and without a call there are none
module _ (who : Identity) (gives : Moment → Reply → Type 0) (before : List Entry) where
  few_given : (call : Option Call) (a : Option Answer) (effects : List Effect) → IsGiven who gives before call a effects → length effects ≤ 16
  few_given None a effects given = omega (arith, ap length given.1)
  few_given (Some call) a effects given = given.held.within_limit

  pub few_lasting : (e : Entry) → IsLawfulEntry who gives before e → length (lasting_effects e) ≤ 16
  few_lasting (Handled envelope reading (Applied a effects)) lawful = few_given (envelope_call envelope.body) a effects lawful.given
  few_lasting (Handled envelope reading SetAside) lawful = absurd lawful
  few_lasting (Dropped envelope) lawful = omega arith
  few_lasting (System number m SetAside) lawful = by_message m
    where
      by_message : (m : SysMsg) → length (lasting_effects (System number m SetAside)) ≤ 16
      by_message system.Create = omega arith
      by_message (system.Recreate c) = omega arith
      by_message system.Suspend = omega arith
      by_message (system.Resume f) = omega arith
      by_message system.Terminate = omega arith
      by_message (system.Watch w) = omega arith
      by_message (system.Unwatch w) = omega arith
      by_message (system.Failed x c) = omega arith
      by_message (system.Died x) = omega arith
  few_lasting (System number m (Applied a effects)) lawful =
      by_message m (few_given (call_of who before (System number m (Applied a effects))) a effects lawful.1)
    where
      by_message : (m : SysMsg) → length effects ≤ 16 → length (lasting_effects (System number m (Applied a effects))) ≤ 16
      by_message system.Create few = few
      by_message (system.Recreate c) few = few
      by_message system.Suspend few = few
      by_message (system.Resume f) few = few
      by_message system.Terminate few = omega arith
      by_message (system.Watch w) few = few
      by_message (system.Unwatch w) few = few
      by_message (system.Failed x c) few = few
      by_message (system.Died x) few = omega arith

-- ---- the sizes

-- of a journal with this many entries
pub record Sizes (who : Identity) (journal : List Entry) : Type 0 where
  pub marked : count_after (marks who journal) ≤ 1 + 3 * length journal
  pub children : length (children who journal) ≤ (16 + length who.prepared) * length journal
  pub watchers : length (watchers journal) ≤ length journal
  pub watching : length (watching who journal) ≤ 16 * length journal

sizes-none : (who : Identity) → Sizes who []
unfolding marks children watchers watching
sizes-none who = record {
  marked = omega (arith, count_after-running []);
  children = omega arith;
  watchers = omega arith;
  watching = omega arith;
}

none_or : (none : Bool) (list : List ActorId) (n : ℕ) → length list ≤ n → length (if none then [] else list) ≤ n
none_or true list n few = omega arith
none_or false list n few = few

-- a product with one time more
one_time_more : (old new each times : ℕ) → old ≤ each * times → new ≤ old + each → new ≤ each * suc times
one_time_more old new each times before more = omega (arith, mul-suc each times)

module _ (who : Identity) (gives : Moment → Reply → Type 0) (before : List Entry) (e : Entry) (lawful : IsLawfulEntry who gives before e)
    (kept : Sizes who before) where
  abbrev q : Queries
  q = queries who before

  marked-more : count_after (marks who (e ∷ before)) ≤ 1 + 3 * length (e ∷ before)
  marked-more =
      let by_entry : count_after (marks who (e ∷ before)) ≡ running q.marked (marks_on who q e) =
      ap (λ (s : Queries). s.marked) (queries-fold who before e) in
      let few : running q.marked (marks_on who q e) ≤ q.marked + 3 = three_marks q.marked _ _ _ _ _ in
      omega (arith, kept.marked)

  children-more : length (children who (e ∷ before)) ≤ (16 + length who.prepared) * length (e ∷ before)
  children-more =
      let by_entry : children who (e ∷ before) ≡ children_on who q e = ap (λ (s : Queries). s.children) (queries-fold who before e) in
      let few : length (children_on who q e) ≤ length q.children + (16 + length who.prepared) =
      added (is_guardian who) (starts q e) (few_after_death e q.children) in
      one_time_more (length q.children) (length (children who (e ∷ before))) (16 + length who.prepared) (length before) kept.children
      (omega (arith, ap length by_entry))
    where
      added : (guardian start : Bool) → length (after_death e q.children) ≤ length q.children →
          length (after_death e q.children ++ (if guardian then (if start then who.prepared else []) else spawns_of (lasting_effects e)))
          ≤ length q.children + (16 + length who.prepared)
      added true true left = omega (arith, length-append (after_death e q.children) who.prepared)
      added true false left = omega (arith, length-append {A = ActorId} (after_death e q.children) [])
      added false start left =
          omega (
            arith,
            length-append (after_death e q.children) (spawns_of (lasting_effects e)),
            few_spawned (lasting_effects e),
            few_lasting who gives before e lawful,
          )

  watchers-more : length (watchers (e ∷ before)) ≤ length (e ∷ before)
  watchers-more =
      let by_entry : watchers (e ∷ before) ≡ watchers_on q.watchers e = ap (λ (s : Queries). s.watchers) (queries-fold who before e) in
      omega (arith, ap length by_entry, one_watcher e q.watchers, kept.watchers)

  watching-more : length (watching who (e ∷ before)) ≤ 16 * length (e ∷ before)
  watching-more =
      let by_entry : watching who (e ∷ before) ≡ watching_on who q e = ap (λ (s : Queries). s.watching) (queries-fold who before e) in
      let left : length (if ends q e then [] else after_death e q.watching) ≤ length q.watching =
      none_or (ends q e) (after_death e q.watching) (length q.watching) (few_after_death e q.watching) in
      omega (
        arith,
        ap length by_entry,
        few_watched who.this (if ends q e then [] else after_death e q.watching) (lasting_effects e),
        few_lasting who gives before e lawful,
        kept.watching,
      )

  sizes-more : Sizes who (e ∷ before)
  sizes-more = record {
    marked = marked-more;
    children = children-more;
    watchers = watchers-more;
    watching = watching-more;
  }

pub sizes : (who : Identity) (gives : Moment → Reply → Type 0) (journal : List Entry) → AreLawful who gives journal → Sizes who journal
unfolding AreLawful
sizes who gives [] lawful = sizes-none who
sizes who gives (e ∷ before) lawful = sizes-more who gives before e lawful.0 (sizes who gives before lawful.1)
