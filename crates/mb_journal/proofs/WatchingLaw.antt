-- Whom the actor watches, by the newest event that speaks of each.
use Rattle.std.proofs.Common.{◌≡◌, not, filter, Bool, true, false, List, [], ◌∷◌, refl, sym, ap, ◌∙◌}
use Rattle.std.specs.Prelude.{◌||◌, if◌then◌else◌}
use Rattle.mb_msg.specs.declared.id.ActorId.{ActorId}
use Rattle.mb_msg.specs.declared.system.SysMsg.TheVariants as system
use Rattle.mb_actor.specs.ActorList.{is_same}
use Rattle.mb_actor.specs.declared.effect.Effect.{Effect}
use Rattle.mb_actor.specs.declared.effect.Effect.TheVariants as effect
use Rattle.mb_journal.specs.ActorList.{joined}
use Rattle.mb_journal.specs.Effects.{applies, lasting_effects}
use Rattle.mb_journal.specs.Entry.{Entry}
use Rattle.mb_journal.specs.Entry.Entry.{Handled, System, Dropped}
use Rattle.mb_journal.specs.Entry.Outcome.{Applied, SetAside}
use Rattle.mb_journal.specs.Events.{Event, events, then_asked, is_died_of, watching_says}
use Rattle.mb_journal.specs.Events.Event.{Came, Asked}
use Rattle.mb_journal.specs.Identity.{Identity}
use Rattle.mb_journal.specs.Life.{is_ending, after_death}
use Rattle.mb_journal.specs.Members.{members_in_order, watched_by}
use Rattle.mb_journal.specs.Newest.{joins, leaves, newest, times_in, once_if, said_if}
use Rattle.mb_journal.specs.Newest.Membership.{Joins, Leaves}
use Rattle.mb_journal.specs.Watching.{watching, watching_after}
use Rattle.mb_journal.proofs.Kept.{Change, change_says, changed, kept, kept-stands, newest-same, newest-never, same-is}
use Rattle.mb_journal.proofs.Kept.Change.{Join, Leave, Clear, Keep}
use Rattle.mb_journal.proofs.MembersLaw.{joining, kept-in_order, join-asked}
use Rattle.mb_journal.proofs.TestLemmas.{and-false, and-true}

abbrev death_change : Entry → Change
death_change (System number (system.Died y) (Applied answer effects)) = Leave y
death_change _ = Keep

abbrev watching_change : ActorId → Event → Change
watching_change this (Came e before) = if is_ending e before then Clear else death_change e
watching_change this (Asked (effect.Watch y)) = if is_same this y then Keep else Join y
watching_change this (Asked (effect.Unwatch y)) = Leave y
watching_change this (Asked _) = Keep

-- ---- the list is kept by these changes

watch-more : (b : Bool) (y : ActorId) (list : List ActorId) →
    (if b then list else joined list y) ≡ changed (if b then Keep else Join y) list
watch-more true y list = refl
watch-more false y list = refl

asked-kept : (this : ActorId) (effects : List Effect) (list : List ActorId) (before : List Event) → list ≡ kept (watching_change this) before →
    watching_after this list effects ≡ kept (watching_change this) (then_asked before effects)
asked-kept this [] list before is = is
asked-kept this (effect.Tell to kind value ∷ effects) list before is = asked-kept this effects list (Asked (effect.Tell to kind value) ∷ before) is
asked-kept this (effect.Control to kind value ∷ effects) list before is = asked-kept this effects list (Asked (effect.Control to kind value) ∷ before) is
asked-kept this (effect.Watch y ∷ effects) list before is =
    asked-kept this effects _ (Asked (effect.Watch y) ∷ before)
    (watch-more (is_same this y) y list ∙ ap (changed (if is_same this y then Keep else Join y)) is)
asked-kept this (effect.Unwatch y ∷ effects) list before is = asked-kept this effects _ (Asked (effect.Unwatch y) ∷ before) (ap (changed (Leave y)) is)
asked-kept this (effect.Stop y ∷ effects) list before is = asked-kept this effects list (Asked (effect.Stop y) ∷ before) is
asked-kept this (effect.Spawn y ∷ effects) list before is = asked-kept this effects list (Asked (effect.Spawn y) ∷ before) is

after_death-changed : (e : Entry) (list : List ActorId) → after_death e list ≡ changed (death_change e) list
after_death-changed (Handled envelope reading outcome) list = refl
after_death-changed (System number system.Create outcome) list = refl
after_death-changed (System number system.Suspend outcome) list = refl
after_death-changed (System number (system.Resume of_failure) outcome) list = refl
after_death-changed (System number (system.Recreate c) outcome) list = refl
after_death-changed (System number (system.Failed y c) outcome) list = refl
after_death-changed (System number system.Terminate outcome) list = refl
after_death-changed (System number (system.Watch w) outcome) list = refl
after_death-changed (System number (system.Unwatch w) outcome) list = refl
after_death-changed (System number (system.Died y) (Applied answer effects)) list = refl
after_death-changed (System number (system.Died y) SetAside) list = refl
after_death-changed (Dropped envelope) list = refl

came-changed : (b : Bool) (e : Entry) (list : List ActorId) →
    (if b then [] else after_death e list) ≡ changed (if b then Clear else death_change e) list
came-changed true e list = refl
came-changed false e list = after_death-changed e list

watching-kept : (who : Identity) (journal : List Entry) → watching who journal ≡ kept (watching_change who.this) (events journal)
unfolding watching events
watching-kept who [] = refl
watching-kept who (e ∷ before) =
    asked-kept who.this (lasting_effects e) _ (Came e before ∷ events before)
    (came-changed (is_ending e before) e (watching who before)
    ∙ ap (changed (if is_ending e before then Clear else death_change e)) (watching-kept who before))

-- ---- what the changes say of another actor

death-says : (x : ActorId) (e : Entry) → change_says x (death_change e) ≡ said_if (applies (is_died_of x) e) Leaves
death-says x (Handled envelope reading outcome) = refl
death-says x (System number system.Create outcome) = refl
death-says x (System number system.Suspend outcome) = refl
death-says x (System number (system.Resume of_failure) outcome) = refl
death-says x (System number (system.Recreate c) outcome) = refl
death-says x (System number (system.Failed y c) outcome) = refl
death-says x (System number system.Terminate outcome) = refl
death-says x (System number (system.Watch w) outcome) = refl
death-says x (System number (system.Unwatch w) outcome) = refl
death-says x (System number (system.Died y) (Applied answer effects)) = ap (λ b. said_if b Leaves) (sym (and-true (is_same x y)))
death-says x (System number (system.Died y) SetAside) = ap (λ b. said_if b Leaves) (sym (and-false (is_same x y)))
death-says x (Dropped envelope) = refl

came-says : (b : Bool) (x : ActorId) (e : Entry) →
    change_says x (if b then Clear else death_change e) ≡ said_if (b || applies (is_died_of x) e) Leaves
came-says true x e = refl
came-says false x e = death-says x e

watch-says : (this x y : ActorId) → is_same this x ≡ false → (b s : Bool) → is_same this y ≡ b → is_same x y ≡ s →
    change_says x (if b then Keep else Join y) ≡ said_if s Joins
watch-says this x y other true true is same = absurd (differ (sym (ap (λ z. is_same this z) (same-is x y same) ∙ is) ∙ other))
  where
    differ : true ≡ false → ⊥
    differ e = cc
watch-says this x y other true false is same = refl
watch-says this x y other false s is same = ap (λ b. said_if b Joins) same

says-same : (this x : ActorId) → is_same this x ≡ false → (event : Event) → change_says x (watching_change this event) ≡ watching_says x event
says-same this x other (Came e before) = came-says (is_ending e before) x e
says-same this x other (Asked (effect.Tell to kind value)) = refl
says-same this x other (Asked (effect.Control to kind value)) = refl
says-same this x other (Asked (effect.Watch y)) = watch-says this x y other (is_same this y) (is_same x y) refl refl
says-same this x other (Asked (effect.Unwatch y)) = refl
says-same this x other (Asked (effect.Stop y)) = refl
says-same this x other (Asked (effect.Spawn y)) = refl

-- ---- what they say of the actor itself

left-never : (s : Bool) → joins (said_if s Leaves) ≡ false
left-never true = refl
left-never false = refl

itself-joins : (this x y : ActorId) → is_same this x ≡ true → (b s : Bool) → is_same this y ≡ b → is_same x y ≡ s →
    joins (change_says x (if b then Keep else Join y)) ≡ false
itself-joins this x y self true s is same = refl
itself-joins this x y self false s is same =
    ap (λ b. joins (said_if b Joins)) (ap (λ z. is_same z y) (sym (same-is this x self)) ∙ is)

says-never : (this x : ActorId) → is_same this x ≡ true → (event : Event) → joins (change_says x (watching_change this event)) ≡ false
says-never this x self (Came e before) = ap joins (came-says (is_ending e before) x e) ∙ left-never _
says-never this x self (Asked (effect.Tell to kind value)) = refl
says-never this x self (Asked (effect.Control to kind value)) = refl
says-never this x self (Asked (effect.Watch y)) = itself-joins this x y self (is_same this y) (is_same x y) refl refl
says-never this x self (Asked (effect.Unwatch y)) = left-never _
says-never this x self (Asked (effect.Stop y)) = refl
says-never this x self (Asked (effect.Spawn y)) = refl

-- ---- the law

by_actor : (who : Identity) (journal : List Entry) (x : ActorId) (b : Bool) → is_same who.this x ≡ b →
    once_if (joins (newest (λ event. change_says x (watching_change who.this event)) (events journal)))
    ≡ (if b then 0 else once_if (joins (newest (watching_says x) (events journal))))
by_actor who journal x true self = ap once_if (newest-never _ (says-never who.this x self) (events journal))
by_actor who journal x false other = ap (λ m. once_if (joins m)) (newest-same _ _ (says-same who.this x other) (events journal))

pub watching-newest : (who : Identity) (journal : List Entry) (x : ActorId) →
    times_in (watching who journal) x ≡ (if is_same who.this x then 0 else once_if (joins (newest (watching_says x) (events journal))))
watching-newest who journal x =
    ap (λ list. times_in list x) (watching-kept who journal) ∙ kept-stands (watching_change who.this) (events journal) x
    ∙ by_actor who journal x (is_same who.this x) refl

-- ---- in order

came-joining : (b : Bool) (e : Entry) (list : List ActorId) → joining (if b then Clear else death_change e) list ≡ []
came-joining true e list = refl
came-joining false (Handled envelope reading outcome) list = refl
came-joining false (System number system.Create outcome) list = refl
came-joining false (System number system.Suspend outcome) list = refl
came-joining false (System number (system.Resume of_failure) outcome) list = refl
came-joining false (System number (system.Recreate c) outcome) list = refl
came-joining false (System number (system.Failed y c) outcome) list = refl
came-joining false (System number system.Terminate outcome) list = refl
came-joining false (System number (system.Watch w) outcome) list = refl
came-joining false (System number (system.Unwatch w) outcome) list = refl
came-joining false (System number (system.Died y) (Applied answer effects)) list = refl
came-joining false (System number (system.Died y) SetAside) list = refl
came-joining false (Dropped envelope) list = refl

watch-asked : (this y : ActorId) (before : List Event) (b : Bool) → is_same this y ≡ b →
    joining (if b then Keep else Join y) (kept (watching_change this) before)
    ≡ filter (λ x. not (joins (newest (watching_says x) before))) (if b then [] else y ∷ [])
watch-asked this y before true is = refl
watch-asked this y before false is =
    join-asked (watching_change this) watching_says y before (newest-same _ _ (says-same this y is) before)

asked-same : (this : ActorId) (event : Event) (before : List Event) →
    joining (watching_change this event) (kept (watching_change this) before)
    ≡ filter (λ x. not (joins (newest (watching_says x) before))) (watched_by this event)
asked-same this (Came e before) events = came-joining (is_ending e before) e _
asked-same this (Asked (effect.Watch y)) events = watch-asked this y events (is_same this y) refl
asked-same this (Asked (effect.Tell to kind value)) events = refl
asked-same this (Asked (effect.Control to kind value)) events = refl
asked-same this (Asked (effect.Unwatch y)) events = refl
asked-same this (Asked (effect.Stop y)) events = refl
asked-same this (Asked (effect.Spawn y)) events = refl

watch-leaves : (b s : Bool) (x y : ActorId) → leaves (change_says x (if b then Keep else Join y)) ≡ leaves (said_if s Joins)
watch-leaves true true x y = refl
watch-leaves true false x y = refl
watch-leaves false s x y = never (is_same x y) ∙ sym (never s)
  where
    never : (b : Bool) → leaves (said_if b Joins) ≡ false
    never true = refl
    never false = refl

leaves-same : (this x : ActorId) (event : Event) → leaves (change_says x (watching_change this event)) ≡ leaves (watching_says x event)
leaves-same this x (Came e before) = ap leaves (came-says (is_ending e before) x e)
leaves-same this x (Asked (effect.Watch y)) = watch-leaves (is_same this y) (is_same x y) x y
leaves-same this x (Asked (effect.Tell to kind value)) = refl
leaves-same this x (Asked (effect.Control to kind value)) = refl
leaves-same this x (Asked (effect.Unwatch y)) = refl
leaves-same this x (Asked (effect.Stop y)) = refl
leaves-same this x (Asked (effect.Spawn y)) = refl

pub watching-ordered : (who : Identity) (journal : List Entry) →
    watching who journal ≡ members_in_order (watched_by who.this) watching_says (events journal)
watching-ordered who journal =
    watching-kept who journal
    ∙ kept-in_order (watching_change who.this) (watched_by who.this) watching_says (asked-same who.this) (leaves-same who.this) (events journal)
