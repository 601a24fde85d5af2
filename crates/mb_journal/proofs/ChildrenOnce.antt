-- In a lawful journal each child stands at most as often as it was prepared.
use Rattle.std.proofs.Common.{◌≡◌, ℕ, ◌+◌, ◌<◌, ◌≤◌, Bool, true, false, cond, not, List, [], ◌∷◌, ◌++◌, filter, length, suc, refl, sym, ap, subst, ◌∙◌, arith}
use Rattle.std.specs.Prelude.{◌&&◌, ◌||◌, if◌then◌else◌, Option, Some, None}
use Rattle.std.specs.List.{list_all}
use Rattle.std.proofs.lemmas.List.Sums.{sum_by-cons, sum_by-append}
use Rattle.std.proofs.lemmas.Bool.Decides.{nat_tests}
use Rattle.mb_msg.specs.declared.id.ActorId.{ActorId}
use Rattle.mb_msg.specs.declared.system.SysMsg.TheVariants as system
use Rattle.mb_actor.specs.ActorList.{is_same, has}
use Rattle.mb_actor.specs.Behaviour.{Moment, Reply}
use Rattle.mb_actor.specs.Held.{is_distinct}
use Rattle.mb_actor.specs.OutboxView.{spawns_of}
use Rattle.mb_actor.specs.declared.answer.Answer.{Answer}
use Rattle.mb_actor.specs.declared.call.Call.{Call}
use Rattle.mb_actor.specs.declared.effect.Effect.{Effect}
use Rattle.mb_journal.specs.Effects.{applies, lasting_effects}
use Rattle.mb_journal.specs.Entry.{Entry}
use Rattle.mb_journal.specs.Entry.Entry.{Handled, System, Dropped}
use Rattle.mb_journal.specs.Entry.Outcome.{Applied, SetAside}
use Rattle.mb_journal.specs.Events.{is_died_of}
use Rattle.mb_journal.specs.Identity.{Identity, is_guardian}
use Rattle.mb_journal.specs.Lawful.{AreLawful, IsLawful, IsLawfulEntry, IsGiven, unspawned, call_of, envelope_call}
use Rattle.mb_journal.specs.Life.{children, spawned, has_start, is_create, is_start}
use Rattle.mb_journal.specs.Newest.{times_in}
use Rattle.mb_journal.proofs.ChildrenLaw.{children-step}
use Rattle.mb_journal.proofs.Kept.{same-is, self-same, times-has}

-- ---- how often an actor is in a list

times-cons : (x y : ActorId) (list : List ActorId) → times_in (y ∷ list) x ≡ cond (is_same x y) 1 0 + times_in list x
times-cons x y list = sum_by-cons (λ z. cond (is_same x z) 1 0) y list

times-append : (x : ActorId) (a b : List ActorId) → times_in (a ++ b) x ≡ times_in a x + times_in b x
times-append x a b = sum_by-append (λ z. cond (is_same x z) 1 0) a b

-- no more are left than there were
times-filter : (x : ActorId) (p : ActorId → Bool) (list : List ActorId) → times_in (filter p list) x ≤ times_in list x
times-filter x p [] = omega arith
times-filter x p (y ∷ list) =
    subst (λ n. times_in (cond (p y) (y ∷ filter p list) (filter p list)) x ≤ n) (sym (times-cons x y list)) (step (p y) (times-filter x p list))
  where
    step : (b : Bool) → times_in (filter p list) x ≤ times_in list x →
        times_in (cond b (y ∷ filter p list) (filter p list)) x ≤ cond (is_same x y) 1 0 + times_in list x
    step true rest = omega (arith, rest, times-cons x y (filter p list))
    step false rest = omega (arith, rest)

-- who is among those left out is not left
times-out : (x : ActorId) (out list : List ActorId) → has out x ≡ true → times_in (filter (λ y. not (has out y)) list) x ≡ 0
times-out x out [] is_out = refl
times-out x out (y ∷ list) is_out = step (is_same x y) (has out y) refl refl (times-out x out list is_out)
  where
    step : (s h : Bool) → is_same x y ≡ s → has out y ≡ h → times_in (filter (λ z. not (has out z)) list) x ≡ 0 →
        times_in (cond (not h) (y ∷ filter (λ z. not (has out z)) list) (filter (λ z. not (has out z)) list)) x ≡ 0
    step s true same is rest = rest
    step true false same is rest =
        let never : true ≡ false = sym is_out ∙ ap (λ z. has out z) (same-is x y same) ∙ is in
        absurd (cc never)
    step false false same is rest =
        times-cons x y (filter (λ z. not (has out z)) list) ∙ (λ i. cond (same i) 1 0 + rest i)

some-times : (x : ActorId) (list : List ActorId) → has list x ≡ true → 1 ≤ times_in list x
some-times x list is = let positive = sym (times-has x list) ∙ is in grind (arith, nat_tests, positive)

no-times : (x : ActorId) (list : List ActorId) → has list x ≡ false → times_in list x ≡ 0
no-times x list is = let none = sym (times-has x list) ∙ is in grind (arith, nat_tests, none)

both-first : (a b : Bool) → (a && b) ≡ true → a ≡ true
both-first true b is = refl
both-first false b is = is

both-second : (a b : Bool) → (a && b) ≡ true → b ≡ true
both-second true b is = is
both-second false b is = absurd (cc is)

-- a list without repetition has each once
distinct-once : (x : ActorId) (list : List ActorId) → is_distinct list ≡ true → times_in list x ≤ 1
distinct-once x [] distinct = omega arith
distinct-once x (y ∷ list) distinct =
    subst (λ n. n ≤ 1) (sym (times-cons x y list))
    (step (is_same x y) refl (both-first _ _ distinct) (distinct-once x list (both-second _ _ distinct)))
  where
    step : (s : Bool) → is_same x y ≡ s → not (has list y) ≡ true → times_in list x ≤ 1 → cond s 1 0 + times_in list x ≤ 1
    step false same other rest = omega (arith, rest)
    step true same other rest =
        let away : has list y ≡ false = flip (has list y) other in
        let none : times_in list x ≡ 0 = no-times x list (ap (λ z. has list z) (same-is x y same) ∙ away) in
        omega (arith, none)
      where
        flip : (b : Bool) → not b ≡ true → b ≡ false
        flip true e = absurd (cc e)
        flip false e = refl

-- what all of a list pass, each passes
all-has : (x : ActorId) (p : ActorId → Bool) (list : List ActorId) → list_all p list ≡ true → has list x ≡ true → p x ≡ true
all-has x p [] all is = absurd (cc is)
all-has x p (y ∷ list) all is = step (is_same x y) refl is (λ rest. all-has x p list (both-second _ _ all) rest)
  where
    step : (s : Bool) → is_same x y ≡ s → (s || has list x) ≡ true → (has list x ≡ true → p x ≡ true) → p x ≡ true
    step true same here rest = ap p (same-is x y same) ∙ both-first _ _ all
    step false same here rest = rest here

-- ---- the children that an entry starts

-- they may be spawned, and each is once
abbrev MayBeSpawned : Identity → List Entry → List Effect → Type 0
MayBeSpawned who before effects = (list_all (has (unspawned who before)) (spawns_of effects) ≡ true) × (is_distinct (spawns_of effects) ≡ true)

module _ (who : Identity) (gives : Moment → Reply → Type 0) where
  given-spawns : (before : List Entry) (call : Option Call) (a : Option Answer) (effects : List Effect) →
      IsGiven who gives before call a effects → MayBeSpawned who before effects
  given-spawns before None a effects given =
      subst (λ (fs : List Effect). MayBeSpawned who before fs) (sym given.1) (refl, refl)
  given-spawns before (Some call) a effects given = (given.held.prepared, given.held.once)

  entry-spawns : (before : List Entry) (e : Entry) → IsLawfulEntry who gives before e → MayBeSpawned who before (lasting_effects e)
  entry-spawns before (Handled envelope reading (Applied a effects)) lawful =
      given-spawns before (envelope_call envelope.body) a effects lawful.given
  entry-spawns before (Handled envelope reading SetAside) lawful = absurd lawful
  entry-spawns before (Dropped envelope) lawful = (refl, refl)
  entry-spawns before (System number system.Terminate outcome) lawful = (refl, refl)
  entry-spawns before (System number (system.Died y) outcome) lawful = (refl, refl)
  entry-spawns before (System number system.Create (Applied a effects)) lawful =
      given-spawns before (call_of who before (System number system.Create (Applied a effects))) a effects lawful.1
  entry-spawns before (System number system.Create SetAside) lawful = (refl, refl)
  entry-spawns before (System number system.Suspend (Applied a effects)) lawful =
      given-spawns before (call_of who before (System number system.Suspend (Applied a effects))) a effects lawful.1
  entry-spawns before (System number system.Suspend SetAside) lawful = (refl, refl)
  entry-spawns before (System number (system.Resume of_failure) (Applied a effects)) lawful =
      given-spawns before (call_of who before (System number (system.Resume of_failure) (Applied a effects))) a effects lawful.1
  entry-spawns before (System number (system.Resume of_failure) SetAside) lawful = (refl, refl)
  entry-spawns before (System number (system.Recreate c) (Applied a effects)) lawful =
      given-spawns before (call_of who before (System number (system.Recreate c) (Applied a effects))) a effects lawful.1
  entry-spawns before (System number (system.Recreate c) SetAside) lawful = (refl, refl)
  entry-spawns before (System number (system.Failed y c) (Applied a effects)) lawful =
      given-spawns before (call_of who before (System number (system.Failed y c) (Applied a effects))) a effects lawful.1
  entry-spawns before (System number (system.Failed y c) SetAside) lawful = (refl, refl)
  entry-spawns before (System number (system.Watch w) (Applied a effects)) lawful =
      given-spawns before (call_of who before (System number (system.Watch w) (Applied a effects))) a effects lawful.1
  entry-spawns before (System number (system.Watch w) SetAside) lawful = (refl, refl)
  entry-spawns before (System number (system.Unwatch w) (Applied a effects)) lawful =
      given-spawns before (call_of who before (System number (system.Unwatch w) (Applied a effects))) a effects lawful.1
  entry-spawns before (System number (system.Unwatch w) SetAside) lawful = (refl, refl)

  -- an actor's children and those that it may still spawn are no more than those prepared
  abbrev Within : ActorId → List Entry → Type 0
  Within x journal = times_in (children who journal) x + times_in (unspawned who journal) x ≤ times_in who.prepared x

  module _ (an_actor : is_guardian who ≡ false) (x : ActorId) where
    one-more : (c u : List ActorId) (spawns after_spawns left : List ActorId) (p : ℕ) (h : Bool) → has spawns x ≡ h →
        list_all (has u) spawns ≡ true → is_distinct spawns ≡ true → times_in left x ≤ times_in c x →
        after_spawns ≡ filter (λ y. not (has spawns y)) u →
        times_in c x + times_in u x ≤ p → times_in (left ++ spawns) x + times_in after_spawns x ≤ p
    one-more c u spawns after_spawns left p true is may once fewer after within =
        let none : times_in after_spawns x ≡ 0 = ap (λ l. times_in l x) after ∙ times-out x spawns u is in
        let some : 1 ≤ times_in u x = some-times x u (all-has x (has u) spawns may is) in
        omega (arith, none, some, fewer, within, distinct-once x spawns once, times-append x left spawns)
    one-more c u spawns after_spawns left p false is may once fewer after within =
        let none : times_in spawns x ≡ 0 = no-times x spawns is in
        let no_more : times_in after_spawns x ≤ times_in u x =
        subst (λ l. times_in l x ≤ times_in u x) (sym after) (times-filter x (λ y. not (has spawns y)) u) in
        omega (arith, none, no_more, fewer, within, times-append x left spawns)

    spawned-effects : (e : Entry) (before : List Entry) → spawned who e before ≡ spawns_of (lasting_effects e)
    spawned-effects e before = λ i. if an_actor i then (if is_start e before then who.prepared else []) else spawns_of (lasting_effects e)

    actor-within : (journal : List Entry) → AreLawful who gives journal → Within x journal
    unfolding AreLawful children unspawned
    actor-within [] lawful = omega arith
    actor-within (e ∷ before) lawful =
        let spawns : List ActorId = spawns_of (lasting_effects e) in
        let left : List ActorId = filter (λ y. not (applies (is_died_of y) e)) (children who before) in
        let may = entry-spawns before e lawful.0 in
        let now : children who (e ∷ before) ≡ left ++ spawns = children-step who e before ∙ ap (λ l. left ++ l) (spawned-effects e before) in
        subst (λ l. times_in l x + times_in (unspawned who (e ∷ before)) x ≤ times_in who.prepared x) (sym now)
        (one-more (children who before) (unspawned who before) spawns (unspawned who (e ∷ before)) left (times_in who.prepared x)
        (has spawns x) refl may.0 may.1 (times-filter x (λ y. not (applies (is_died_of y) e)) (children who before)) refl
        (actor-within before lawful.1))

-- ---- the guardian's children

module _ (who : Identity) (guards : is_guardian who ≡ true) (x : ActorId) where
  start-more : (a s : Bool) (c left : List ActorId) (p : List ActorId) → times_in left x ≤ times_in c x →
      times_in c x ≤ (if s then times_in p x else 0) →
      times_in (left ++ (if a && not s then p else [])) x ≤ (if a || s then times_in p x else 0)
  start-more true true c left p fewer within = omega (arith, fewer, within, times-append x left [])
  start-more true false c left p fewer within = omega (arith, fewer, within, times-append x left p)
  start-more false true c left p fewer within = omega (arith, fewer, within, times-append x left [])
  start-more false false c left p fewer within = omega (arith, fewer, within, times-append x left [])

  spawned-start : (e : Entry) (before : List Entry) → spawned who e before ≡ (if is_start e before then who.prepared else [])
  spawned-start e before = λ i. if guards i then (if is_start e before then who.prepared else []) else spawns_of (lasting_effects e)

  guardian-within : (journal : List Entry) → times_in (children who journal) x ≤ (if has_start journal then times_in who.prepared x else 0)
  unfolding children has_start
  guardian-within [] = omega arith
  guardian-within (e ∷ before) =
      let left : List ActorId = filter (λ y. not (applies (is_died_of y) e)) (children who before) in
      let now : children who (e ∷ before) ≡ left ++ (if is_start e before then who.prepared else []) =
      children-step who e before ∙ ap (λ l. left ++ l) (spawned-start e before) in
      subst (λ l. times_in l x ≤ (if has_start (e ∷ before) then times_in who.prepared x else 0)) (sym now)
      (start-more (applies is_create e) (has_start before) (children who before) left who.prepared
      (times-filter x (λ y. not (applies (is_died_of y) e)) (children who before)) (guardian-within before))

pub children-within : (who : Identity) (gives : Moment → Reply → Type 0) (journal : List Entry) (x : ActorId) → IsLawful who gives journal →
    times_in (children who journal) x ≤ times_in who.prepared x
children-within who gives journal x lawful = by_kind (is_guardian who) refl
  where
    below : (b : Bool) (n p : ℕ) → n ≤ (if b then p else 0) → n ≤ p
    below true n p is = is
    below false n p is = omega (arith, is)

    by_kind : (b : Bool) → is_guardian who ≡ b → times_in (children who journal) x ≤ times_in who.prepared x
    by_kind true guards = below (has_start journal) _ _ (guardian-within who guards x journal)
    by_kind false an_actor = let within = actor-within who gives an_actor x journal lawful.entries in omega (arith, within)

-- ---- how many children there are

-- the list without one place of this actor
abbrev IsLess : ActorId → List ActorId → List ActorId → Type 0
IsLess x list left = ((z : ActorId) → times_in list z ≡ cond (is_same z x) 1 0 + times_in left z) × (length list ≡ suc (length left))

one-less : (x : ActorId) (list : List ActorId) → 0 < times_in list x → (left : List ActorId) × IsLess x list left
one-less x [] there = absurd (omega (arith, there))
one-less x (y ∷ list) there = step (is_same x y) refl (one-less x list)
  where
    step : (b : Bool) → is_same x y ≡ b → (0 < times_in list x → (left : List ActorId) × IsLess x list left) →
        (left : List ActorId) × IsLess x (y ∷ list) left
    step true same less =
        (list, ((λ z. times-cons z y list ∙ ap {B = ℕ} (λ w. cond (is_same z w) 1 0 + times_in list z) (sym (same-is x y same))), refl))
    step false other less =
        let more = times-cons x y list in
        let none = ap {B = ℕ} (λ b. cond b 1 0) other in
        let rest = less (omega (arith, more, none, there)) in (
          y ∷ rest.0,
          ((λ z. omega (arith, times-cons z y list, rest.1.0 z, times-cons z y rest.0)), ap suc rest.1.1),
        )

-- where each is at most as often in a list as in another, it is no longer
times-length : (list all : List ActorId) → ((z : ActorId) → times_in list z ≤ times_in all z) → length list ≤ length all
times-length [] all within = omega arith
times-length (x ∷ list) all within =
    let here = times-cons x x list in
    let own = ap {B = ℕ} (λ b. cond b 1 0) (self-same x) in
    let less = one-less x all (omega (arith, within x, here, own)) in
    let rest = times-length list less.0 (λ z. omega (arith, within z, times-cons z x list, less.1.0 z)) in
    omega (arith, rest, less.1.1)

-- there are no more children than were prepared
pub children-few : (who : Identity) (gives : Moment → Reply → Type 0) (journal : List Entry) → IsLawful who gives journal →
    length (children who journal) ≤ length who.prepared
children-few who gives journal lawful = times-length (children who journal) who.prepared (λ z. children-within who gives journal z lawful)
