-- Whose end is still to be told, by the newest event that speaks of each.
use Rattle.std.proofs.Common.{◌≡◌, ℕ, cond, not, filter, Bool, true, false, List, [], ◌∷◌, refl, sym, ap, ◌∙◌}
use Rattle.std.specs.Prelude.{◌&&◌, ◌||◌, if◌then◌else◌}
use Rattle.mb_msg.specs.declared.envelope.Body.{Body}
use Rattle.mb_msg.specs.declared.envelope.Body.TheVariants as body
use Rattle.mb_msg.specs.declared.id.ActorId.{ActorId}
use Rattle.mb_msg.specs.declared.system.SysMsg.TheVariants as system
use Rattle.mb_actor.specs.ActorList.{is_same, has}
use Rattle.mb_actor.specs.declared.effect.Effect.{Effect}
use Rattle.mb_actor.specs.declared.effect.Effect.TheVariants as effect
use Rattle.mb_journal.specs.ActorList.{joined}
use Rattle.mb_journal.specs.Effects.{applies, lasting_effects}
use Rattle.mb_journal.specs.Entry.{Entry, Outcome}
use Rattle.mb_journal.specs.Entry.Entry.{Handled, System, Dropped}
use Rattle.mb_journal.specs.Entry.Outcome.{Applied, SetAside}
use Rattle.mb_journal.specs.Events.{Event, events, then_asked, is_died_of, tells_end_of, due_says}
use Rattle.mb_journal.specs.Events.Event.{Came, Asked}
use Rattle.mb_journal.specs.Identity.{Identity}
use Rattle.mb_journal.specs.Life.{is_ending}
use Rattle.mb_journal.specs.Members.{members_in_order, died_while_watched}
use Rattle.mb_journal.specs.Newest.{joins, leaves, newest, times_in, once_if, said_if}
use Rattle.mb_journal.specs.Newest.Membership.{Joins, Leaves, Unchanged}
use Rattle.mb_journal.specs.Watching.{watching, due, due_after, with_dead, after_told}
use Rattle.mb_journal.proofs.Kept.{Change, change_says, changed, kept, kept-stands, newest-same, same-is}
use Rattle.mb_journal.proofs.Kept.Change.{Join, Leave, Clear, Keep}
use Rattle.mb_journal.proofs.MembersLaw.{joining, kept-in_order, join-asked}
use Rattle.mb_journal.proofs.TestLemmas.{and-false}

abbrev told_change : Body → Change
told_change (body.Terminated x) = Leave x
told_change _ = Keep

abbrev entry_change : List ActorId → Entry → Change
entry_change watched (System number (system.Died y) (Applied answer effects)) = if has watched y then Join y else Keep
entry_change watched (Handled envelope reading outcome) = told_change envelope.body
entry_change watched _ = Keep

abbrev due_change : Identity → Event → Change
due_change who (Came e before) = if is_ending e before then Clear else entry_change (watching who before) e
due_change who (Asked (effect.Unwatch y)) = Leave y
due_change who (Asked _) = Keep

-- ---- the list is kept by these changes

asked-kept : (who : Identity) (effects : List Effect) (list : List ActorId) (before : List Event) → list ≡ kept (due_change who) before →
    due_after list effects ≡ kept (due_change who) (then_asked before effects)
asked-kept who [] list before is = is
asked-kept who (effect.Tell to kind value ∷ effects) list before is = asked-kept who effects list (Asked (effect.Tell to kind value) ∷ before) is
asked-kept who (effect.Control to kind value ∷ effects) list before is = asked-kept who effects list (Asked (effect.Control to kind value) ∷ before) is
asked-kept who (effect.Watch y ∷ effects) list before is = asked-kept who effects list (Asked (effect.Watch y) ∷ before) is
asked-kept who (effect.Stop y ∷ effects) list before is = asked-kept who effects list (Asked (effect.Stop y) ∷ before) is
asked-kept who (effect.Spawn y ∷ effects) list before is = asked-kept who effects list (Asked (effect.Spawn y) ∷ before) is
asked-kept who (effect.Unwatch y ∷ effects) list before is = asked-kept who effects _ (Asked (effect.Unwatch y) ∷ before) (ap (changed (Leave y)) is)

told-changed : (by : _) (to : ActorId) (number : ℕ) (b : Body) (reading : ℕ) (outcome : Outcome) (list : List ActorId) →
    after_told (Handled (record { by = by; to = to; number = number; body = b }) reading outcome) list ≡ changed (told_change b) list
told-changed by to number (body.User kind value) reading outcome list = refl
told-changed by to number (body.Control kind value) reading outcome list = refl
told-changed by to number body.PoisonPill reading outcome list = refl
told-changed by to number body.Kill reading outcome list = refl
told-changed by to number (body.Terminated y) reading outcome list = refl

died-changed : (b : Bool) (y : ActorId) (list : List ActorId) → (if b then joined list y else list) ≡ changed (if b then Join y else Keep) list
died-changed true y list = refl
died-changed false y list = refl

entry-changed : (watched : List ActorId) (e : Entry) (list : List ActorId) →
    after_told e (with_dead e watched list) ≡ changed (entry_change watched e) list
entry-changed watched (Handled envelope reading outcome) list = told-changed envelope.by envelope.to envelope.number envelope.body reading outcome list
entry-changed watched (System number system.Create outcome) list = refl
entry-changed watched (System number system.Suspend outcome) list = refl
entry-changed watched (System number (system.Resume of_failure) outcome) list = refl
entry-changed watched (System number (system.Recreate c) outcome) list = refl
entry-changed watched (System number (system.Failed y c) outcome) list = refl
entry-changed watched (System number system.Terminate outcome) list = refl
entry-changed watched (System number (system.Watch w) outcome) list = refl
entry-changed watched (System number (system.Unwatch w) outcome) list = refl
entry-changed watched (System number (system.Died y) (Applied answer effects)) list = died-changed (has watched y) y list
entry-changed watched (System number (system.Died y) SetAside) list = refl
entry-changed watched (Dropped envelope) list = refl

came-changed : (b : Bool) (watched : List ActorId) (e : Entry) (list : List ActorId) →
    (if b then [] else after_told e (with_dead e watched list)) ≡ changed (if b then Clear else entry_change watched e) list
came-changed true watched e list = refl
came-changed false watched e list = entry-changed watched e list

due-kept : (who : Identity) (journal : List Entry) → due who journal ≡ kept (due_change who) (events journal)
unfolding due events
due-kept who [] = refl
due-kept who (e ∷ before) =
    asked-kept who (lasting_effects e) _ (Came e before ∷ events before)
    (came-changed (is_ending e before) (watching who before) e (due who before)
    ∙ ap (changed (if is_ending e before then Clear else entry_change (watching who before) e)) (due-kept who before))

-- ---- what the changes say

told-says : (x : ActorId) (by : _) (to : ActorId) (number : ℕ) (b : Body) (reading : ℕ) (outcome : Outcome) →
    change_says x (told_change b) ≡ said_if (tells_end_of x (Handled (record { by = by; to = to; number = number; body = b }) reading outcome)) Leaves
told-says x by to number (body.User kind value) reading outcome = refl
told-says x by to number (body.Control kind value) reading outcome = refl
told-says x by to number body.PoisonPill reading outcome = refl
told-says x by to number body.Kill reading outcome = refl
told-says x by to number (body.Terminated y) reading outcome = refl

died-says : (x y : ActorId) (watched : List ActorId) (h s : Bool) → has watched y ≡ h → is_same x y ≡ s →
    change_says x (if h then Join y else Keep) ≡ (if (s && true) && has watched x then Joins else said_if false Leaves)
died-says x y watched true true is same =
    ap (λ b. said_if b Joins) same
    ∙ ap (λ b. if b then Joins else Unchanged) (sym (ap (λ z. has watched z) (same-is x y same) ∙ is))
died-says x y watched true false is same = ap (λ b. said_if b Joins) same
died-says x y watched false true is same =
    ap (λ b. if b then Joins else Unchanged) (sym (ap (λ z. has watched z) (same-is x y same) ∙ is))
died-says x y watched false false is same = refl

came-says : (x : ActorId) (watched : List ActorId) (e : Entry) (before : List Entry) →
    change_says x (if is_ending e before then Clear else entry_change watched e)
    ≡ (if applies (is_died_of x) e && has watched x then Joins else said_if (is_ending e before || tells_end_of x e) Leaves)
came-says x watched (Handled envelope reading outcome) before = told-says x envelope.by envelope.to envelope.number envelope.body reading outcome
came-says x watched (System number system.Create outcome) before = refl
came-says x watched (System number system.Suspend outcome) before = refl
came-says x watched (System number (system.Resume of_failure) outcome) before = refl
came-says x watched (System number (system.Recreate c) outcome) before = refl
came-says x watched (System number (system.Failed y c) outcome) before = refl
came-says x watched (System number system.Terminate outcome) before = ends (is_ending (System number system.Terminate outcome) before)
  where
    ends : (b : Bool) → change_says x (if b then Clear else Keep) ≡ said_if (b || false) Leaves
    ends true = refl
    ends false = refl
came-says x watched (System number (system.Watch w) outcome) before = refl
came-says x watched (System number (system.Unwatch w) outcome) before = refl
came-says x watched (System number (system.Died y) (Applied answer effects)) before = died-says x y watched (has watched y) (is_same x y) refl refl
came-says x watched (System number (system.Died y) SetAside) before =
    ap (λ b. if b && has watched x then Joins else said_if false Leaves) (sym (and-false (is_same x y)))
came-says x watched (Dropped envelope) before = refl

says-same : (who : Identity) (x : ActorId) (event : Event) → change_says x (due_change who event) ≡ due_says who x event
says-same who x (Came e before) = came-says x (watching who before) e before
says-same who x (Asked (effect.Tell to kind value)) = refl
says-same who x (Asked (effect.Control to kind value)) = refl
says-same who x (Asked (effect.Watch y)) = refl
says-same who x (Asked (effect.Unwatch y)) = refl
says-same who x (Asked (effect.Stop y)) = refl
says-same who x (Asked (effect.Spawn y)) = refl

pub due-newest : (who : Identity) (journal : List Entry) (x : ActorId) →
    times_in (due who journal) x ≡ once_if (joins (newest (due_says who x) (events journal)))
due-newest who journal x =
    ap (λ list. times_in list x) (due-kept who journal) ∙ kept-stands (due_change who) (events journal) x
    ∙ ap (λ m. once_if (joins m)) (newest-same _ _ (says-same who x) (events journal))

-- ---- in order

told-joining : (b : Body) (list : List ActorId) → joining (told_change b) list ≡ []
told-joining (body.User kind value) list = refl
told-joining (body.Control kind value) list = refl
told-joining body.PoisonPill list = refl
told-joining body.Kill list = refl
told-joining (body.Terminated y) list = refl

died-asked : (who : Identity) (y : ActorId) (before : List Event) (h : Bool) →
    joining (if h then Join y else Keep) (kept (due_change who) before)
    ≡ filter (λ x. not (joins (newest (due_says who x) before))) (cond h (y ∷ []) [])
died-asked who y before true = join-asked (due_change who) (due_says who) y before (newest-same _ _ (says-same who y) before)
died-asked who y before false = refl

ends-joining : (b : Bool) (list : List ActorId) → joining (if b then Clear else Keep) list ≡ []
ends-joining true list = refl
ends-joining false list = refl

asked-same : (who : Identity) (event : Event) (before : List Event) →
    joining (due_change who event) (kept (due_change who) before)
    ≡ filter (λ x. not (joins (newest (due_says who x) before))) (died_while_watched who event)
asked-same who (Came (Handled envelope reading outcome) before) events = told-joining envelope.body _
asked-same who (Came (System number system.Create outcome) before) events = refl
asked-same who (Came (System number system.Suspend outcome) before) events = refl
asked-same who (Came (System number (system.Resume of_failure) outcome) before) events = refl
asked-same who (Came (System number (system.Recreate c) outcome) before) events = refl
asked-same who (Came (System number (system.Failed y c) outcome) before) events = refl
asked-same who (Came (System number system.Terminate outcome) before) events = ends-joining (is_ending (System number system.Terminate outcome) before) _
asked-same who (Came (System number (system.Watch w) outcome) before) events = refl
asked-same who (Came (System number (system.Unwatch w) outcome) before) events = refl
asked-same who (Came (System number (system.Died y) (Applied answer effects)) before) events = died-asked who y events (has (watching who before) y)
asked-same who (Came (System number (system.Died y) SetAside) before) events = refl
asked-same who (Came (Dropped envelope) before) events = refl
asked-same who (Asked (effect.Tell to kind value)) events = refl
asked-same who (Asked (effect.Control to kind value)) events = refl
asked-same who (Asked (effect.Watch y)) events = refl
asked-same who (Asked (effect.Unwatch y)) events = refl
asked-same who (Asked (effect.Stop y)) events = refl
asked-same who (Asked (effect.Spawn y)) events = refl

pub due-ordered : (who : Identity) (journal : List Entry) → due who journal ≡ members_in_order (died_while_watched who) (due_says who) (events journal)
due-ordered who journal =
    due-kept who journal
    ∙ kept-in_order (due_change who) (died_while_watched who) (due_says who) (asked-same who) (λ x event. ap leaves (says-same who x event)) (events journal)
