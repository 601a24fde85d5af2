-- A journal that was gone through by one entry more.
use Rattle.std.proofs.Common.{◌≡◌, ℕ, ◌+◌, ◌≤◌, List, [], ◌∷◌, length, reverse, take, get_or, slice_get, Some, None, ap, sym, subst, ◌∙◌, arith}
use Rattle.std.specs.Prelude.{Option, if◌then◌else◌}
use Rattle.std.proofs.lemmas.List.{reverse-append, length-reverse, length-take-le, take_more}
use Rattle.std.proofs.lemmas.Option.{slice_get_within, slice_get_past, get_or_from_slice_get}
use Rattle.mb_actor.specs.declared.phase.Phase.TheVariants.{Ended}
use Rattle.mb_causal_order.specs.Places.{earliest}
use Rattle.mb_journal.specs.Entry.{Entry}
use Rattle.mb_journal.specs.Identity.{Identity}
use Rattle.mb_journal.specs.Phase.{phase_is}
use Rattle.mb_journal.specs.Suspension.{count}
use Rattle.mb_script.specs.Script.{Scripted}
use Rattle.mb_trace.specs.Cursors.{IsAt}
use Rattle.mb_trace.specs.Lives.{Follows}
use Rattle.mb_trace.specs.Steps.{Step, snapshot_after, step_after, steps_of}
use Rattle.mb_trace.specs.declared.cursor.JournalCursor.{JournalCursor}
use Rattle.mb_trace.specs.declared.life.Life.{Life}
use Rattle.mb_trace.specs.declared.actor_snapshot.ActorSnapshot.{ActorSnapshot}
use Rattle.mb_trace.proofs.Stepped.{length-steps, step-at}

length-earliest : (n : ℕ) (journal : List Entry) → n ≤ length journal → length (earliest n journal) ≡ n
length-earliest n journal within =
    length-reverse (take n (reverse journal))
    ∙ length-take-le n (reverse journal) (let same = length-reverse journal in omega (arith, same))

-- one entry more
earliest-more : (n : ℕ) (journal : List Entry) (e : Entry) → slice_get (reverse journal) n ≡ Some e →
    earliest (n + 1) journal ≡ e ∷ earliest n journal
earliest-more n journal e found =
    let xs = reverse journal in
    ap reverse (take_more xs n e (slice_get_within xs n e found))
    ∙ (reverse-append (take n xs) (get_or xs n e ∷ []) ∙ ap (λ x. x ∷ earliest n journal) (get_or_from_slice_get xs n e e found))

-- a life with room for children is the same life
pub roomy : (who : Identity) (script : Option Scripted) (before : List Entry) (old new : Life) → Follows who script before old →
    new ≡ record old { children = new.children } → new.children.items ≡ old.children.items → Follows who script before new
roomy who script before old new f kept items = record {
  phase = ap (λ (l : Life). l.phase) kept ∙ f.phase;
  started = ap (λ (l : Life). l.has_started) kept ∙ f.started;
  ending = ap (λ (l : Life). l.has_ending) kept ∙ f.ending;
  failed = ap (λ (l : Life). l.failed) kept ∙ f.failed;
  children = items ∙ f.children;
  suspended = ap (λ (l : Life). l.suspended) kept ∙ f.suspended;
  state = ap (λ (l : Life). l.state) kept ∙ f.state;
}

-- how a life stands is how its actor stands
pub stands : (who : Identity) (script : Option Scripted) (before : List Entry) (life : Life) (s : ActorSnapshot) → Follows who script before life →
    s ≡ record { phase = life.phase; suspended = (if phase_is life.phase Ended then 0 else life.suspended); state = life.state } →
    s ≡ snapshot_after who script before
unfolding count
stands who script before life s f is =
    is
    ∙ (λ i. record {
      phase = f.phase i;
      suspended = (if phase_is (f.phase i) Ended then 0 else f.suspended i);
      state = f.state i;
    })

-- the cursor is one entry on
pub passed : (who : Identity) (script : Option Scripted) (journal : List Entry) (old : JournalCursor) (e : Entry) (room life : Life) →
    IsAt who script journal old → slice_get (reverse journal) old.next ≡ Some e → room ≡ record old.life { children = room.children } →
    room.children.items ≡ old.life.children.items →
    ((before : List Entry) → Follows who script before room → Follows who script (e ∷ before) life) → life.suspended ≤ room.suspended + 3 →
    IsAt who script journal (record { next = old.next + 1; life = life })
passed who script journal old e room life at found kept items apply few =
    let before = earliest old.next journal in
    let inside = slice_get_within (reverse journal) old.next e found in
    let same = length-reverse journal in
    let count : room.suspended ≡ old.life.suspended = ap (λ (l : Life). l.suspended) kept in
    record {
      within = omega (arith, inside, same);
      follows =
          subst (λ (j : List Entry). Follows who script j life) (sym (earliest-more old.next journal e found))
          (apply before (roomy who script before old.life room at.follows kept items));
      few = omega (arith, few, count, at.few);
    }

-- the entry at a cursor is the next step
pub found-step : (actor : ℕ) (who : Identity) (script : Option Scripted) (journal : List Entry) (old : JournalCursor) (e : Entry)
    (room life : Life) (s t : ActorSnapshot) → IsAt who script journal old → slice_get (reverse journal) old.next ≡ Some e →
    room ≡ record old.life { children = room.children } → room.children.items ≡ old.life.children.items →
    ((before : List Entry) → Follows who script before room → Follows who script (e ∷ before) life) →
    s ≡ record {
      phase = old.life.phase;
      suspended = (if phase_is old.life.phase Ended then 0 else old.life.suspended);
      state = old.life.state;
    } →
    t ≡ record { phase = life.phase; suspended = (if phase_is life.phase Ended then 0 else life.suspended); state = life.state } →
    (let step : Step = record { actor = actor; index = old.next; entry = e; before = s; after = t } in
    Some step ≡ slice_get (steps_of actor who script journal) old.next)
found-step actor who script journal old e room life s t at found kept items apply is_s is_t =
    let before = earliest old.next journal in
    let index : length before ≡ old.next = length-earliest old.next journal at.within in
    let snapshot : s ≡ snapshot_after who script before = stands who script before old.life s at.follows is_s in
    let after : t ≡ snapshot_after who script (e ∷ before) =
    stands who script (e ∷ before) life t (apply before (roomy who script before old.life room at.follows kept items)) is_t in
    let same : (let step : Step = record { actor = actor; index = old.next; entry = e; before = s; after = t } in
    step ≡ step_after actor who script before e) =
    (λ i. record { actor = actor; index = sym index i; entry = e; before = snapshot i; after = after i }) in
    ap (λ (x : Step). Some x) same ∙ sym (step-at actor who script journal old.next e found)

-- no step is left at the end
pub no-step : (actor : ℕ) (who : Identity) (script : Option Scripted) (journal : List Entry) (n : ℕ) → length journal ≤ n →
    None ≡ slice_get (steps_of actor who script journal) n
no-step actor who script journal n past =
    let same = length-steps actor who script journal in
    sym (slice_get_past (steps_of actor who script journal) n (omega (arith, same)))
