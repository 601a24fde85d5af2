-- Who watches the actor, by the newest Watch or Unwatch.
use Rattle.std.proofs.Common.{◌≡◌, not, filter, List, [], ◌∷◌, refl, ap, ◌∙◌}
use Rattle.mb_msg.specs.declared.id.ActorId.{ActorId}
use Rattle.mb_msg.specs.declared.system.SysMsg.TheVariants as system
use Rattle.mb_journal.specs.Entry.{Entry}
use Rattle.mb_journal.specs.Entry.Entry.{Handled, System, Dropped}
use Rattle.mb_journal.specs.Entry.Outcome.{Applied, SetAside}
use Rattle.mb_journal.specs.Members.{members_in_order, watcher_of}
use Rattle.mb_journal.specs.Newest.{joins, leaves, newest, times_in, once_if, watcher_says}
use Rattle.mb_journal.specs.Watching.{watchers}
use Rattle.mb_journal.proofs.Kept.{Change, change_says, changed, kept, kept-stands, newest-same}
use Rattle.mb_journal.proofs.Kept.Change.{Join, Leave, Keep}
use Rattle.mb_journal.proofs.MembersLaw.{joining, kept-in_order, join-asked}

abbrev watcher_change : Entry → Change
watcher_change (System number (system.Watch w) (Applied answer effects)) = Join w
watcher_change (System number (system.Unwatch w) (Applied answer effects)) = Leave w
watcher_change _ = Keep

says-same : (x : ActorId) (e : Entry) → change_says x (watcher_change e) ≡ watcher_says x e
says-same x (Handled envelope reading outcome) = refl
says-same x (System number system.Create outcome) = refl
says-same x (System number system.Suspend outcome) = refl
says-same x (System number (system.Resume f) outcome) = refl
says-same x (System number (system.Recreate c) outcome) = refl
says-same x (System number (system.Failed y c) outcome) = refl
says-same x (System number system.Terminate outcome) = refl
says-same x (System number (system.Died y) outcome) = refl
says-same x (System number (system.Watch w) (Applied answer effects)) = refl
says-same x (System number (system.Watch w) SetAside) = refl
says-same x (System number (system.Unwatch w) (Applied answer effects)) = refl
says-same x (System number (system.Unwatch w) SetAside) = refl
says-same x (Dropped envelope) = refl

one_more : (e : Entry) (before : List Entry) → watchers (e ∷ before) ≡ changed (watcher_change e) (watchers before)
unfolding watchers
one_more (Handled envelope reading outcome) before = refl
one_more (System number system.Create outcome) before = refl
one_more (System number system.Suspend outcome) before = refl
one_more (System number (system.Resume f) outcome) before = refl
one_more (System number (system.Recreate c) outcome) before = refl
one_more (System number (system.Failed y c) outcome) before = refl
one_more (System number system.Terminate outcome) before = refl
one_more (System number (system.Died y) outcome) before = refl
one_more (System number (system.Watch w) (Applied answer effects)) before = refl
one_more (System number (system.Watch w) SetAside) before = refl
one_more (System number (system.Unwatch w) (Applied answer effects)) before = refl
one_more (System number (system.Unwatch w) SetAside) before = refl
one_more (Dropped envelope) before = refl

watchers-kept : (journal : List Entry) → watchers journal ≡ kept watcher_change journal
unfolding watchers
watchers-kept [] = refl
watchers-kept (e ∷ before) = one_more e before ∙ ap (changed (watcher_change e)) (watchers-kept before)

pub watchers-newest : (journal : List Entry) (x : ActorId) → times_in (watchers journal) x ≡ once_if (joins (newest (watcher_says x) journal))
watchers-newest journal x =
    ap (λ list. times_in list x) (watchers-kept journal) ∙ kept-stands watcher_change journal x
    ∙ ap (λ m. once_if (joins m)) (newest-same _ _ (says-same x) journal)

-- ---- in order

asked-same : (e : Entry) (before : List Entry) →
    joining (watcher_change e) (kept watcher_change before) ≡ filter (λ x. not (joins (newest (watcher_says x) before))) (watcher_of e)
asked-same (Handled envelope reading outcome) before = refl
asked-same (System number system.Create outcome) before = refl
asked-same (System number system.Suspend outcome) before = refl
asked-same (System number (system.Resume of_failure) outcome) before = refl
asked-same (System number (system.Recreate c) outcome) before = refl
asked-same (System number (system.Failed y c) outcome) before = refl
asked-same (System number system.Terminate outcome) before = refl
asked-same (System number (system.Died y) outcome) before = refl
asked-same (System number (system.Watch w) SetAside) before = refl
asked-same (System number (system.Unwatch w) (Applied answer effects)) before = refl
asked-same (System number (system.Unwatch w) SetAside) before = refl
asked-same (Dropped envelope) before = refl
asked-same (System number (system.Watch w) (Applied answer effects)) before =
    join-asked watcher_change watcher_says w before (newest-same _ _ (says-same w) before)

pub watchers-ordered : (journal : List Entry) → watchers journal ≡ members_in_order watcher_of watcher_says journal
watchers-ordered journal =
    watchers-kept journal
    ∙ kept-in_order watcher_change watcher_of watcher_says asked-same (λ x e. ap leaves (says-same x e)) journal
