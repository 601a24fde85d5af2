-- From the journal with an entry more to the cell with it.
use Rattle.std.proofs.Common.{◌≡◌, ℕ, ◌+◌, ◌*◌, ◌^◌, ◌<◌, ◌≤◌, ℤ, List, ◌∷◌, length, Bool, true, false, refl, ap, sym, ◌∙◌, subst, arith}
use Rattle.std.specs.Prelude.{MatchOption, Option, Some, None, if◌then◌else◌}
use Rattle.mb_msg.specs.JournalMode.{Retention}
use Rattle.mb_msg.specs.declared.envelope.Envelope.{Envelope}
use Rattle.mb_msg.specs.declared.system.SysMsg.{SysMsg}
use Rattle.mb_actor.specs.Behaviour.{Moment, Reply}
use Rattle.mb_actor.specs.OutboxView.{OutboxView}
use Rattle.mb_actor.specs.declared.call.Call.{Call}
use Rattle.mb_actor.specs.declared.message.Message.{Message}
use Rattle.mb_actor.specs.declared.phase.Phase.TheVariants.{Ended}
use Rattle.mb_journal.specs.Acts.{Act, acts}
use Rattle.mb_journal.specs.Entry.{Entry, Outcome}
use Rattle.mb_journal.specs.Entry.Entry.{System}
use Rattle.mb_journal.specs.Identity.{Identity, is_guardian}
use Rattle.mb_journal.specs.Incarnation.{messages}
use Rattle.mb_journal.specs.Lawful.{call_of}
use Rattle.mb_journal.specs.Life.{phase}
use Rattle.mb_journal.specs.JournalView.{JournalView}
use Rattle.mb_journal.specs.Phase.{phase_is}
use Rattle.mb_journal.specs.Suspension.{count, count_after, marks}
use Rattle.mb_journal.proofs.ChildrenOnce.{children-few}
use Rattle.mb_journal.proofs.LawfulLemmas.{calls-silent}
use Rattle.mb_journal.proofs.SizeLemmas.{sizes}
use Rattle.mb_cell.specs.Agrees.{Agrees, FollowsBehaviour}
use Rattle.mb_supervision.specs.CellStateRecord.{CellState}
use Rattle.mb_supervision.specs.ActorIdentity.{identity_of}
use Rattle.mb_cell.specs.CellView.{CellView, with_entry, IsOf, TakesEnvelope, TakesSystem}
use Rattle.mb_supervision.specs.declared.identity.ActorIdentity.{ActorIdentity}
use Rattle.mb_cell.specs.Unsent.{IsUnsent}
use Rattle.mb_cell.proofs.UnsentLaws.{is-unsent-none}

-- the journal with an entry more
abbrev pub longer : JournalView → Entry → JournalView
longer old e = record old { entries = e ∷ old.entries; is_ready = false }

-- what holds of an entry more holds of the journal that was added to
pub at-log : (P : ℕ → Retention → List Entry → Type 0) (old new : JournalView) (e : Entry) → new ≡ longer old e → P old.limit old.retention (e ∷ old.entries) →
    P new.limit new.retention new.entries
at-log P old new e added here = subst (λ (j : JournalView). P j.limit j.retention j.entries) (sym added) here

-- the cell, as contracts see it, with an entry more and its acts
pub seen-added : (place : ActorIdentity) (old new : JournalView) (e : Entry) (old_acts new_acts : List Act) (now : CellView) → new ≡ longer old e →
    (let seen : CellView = record { who = identity_of place old.limit old.retention; journal = old.entries; acts = old_acts; is_ready = old.is_ready } in seen ≡ now) →
    new_acts ≡ acts (identity_of place old.limit old.retention) old.entries e →
    (let seen : CellView = record { who = identity_of place new.limit new.retention; journal = new.entries; acts = new_acts; is_ready = new.is_ready } in
    seen ≡ with_entry now e)
seen-added place old new e old_acts new_acts now added view_is acts_are =
    (λ i. record {
      who = identity_of place (added i).limit (added i).retention;
      journal = (added i).entries;
      acts = acts_are i;
      is_ready = (added i).is_ready;
    })
    ∙ ap (λ (s : CellView). with_entry s e) view_is

-- a guardian stays one, and what holds of an actor goes on
pub match-on : {A : Type 0} (o : Option A) (P P' : Type 0) (Q Q' : A → Type 0) → (P → P') → ((a : A) → Q a → Q' a) →
    MatchOption o P Q → MatchOption o P' Q'
match-on None P P' Q Q' none some m = none m
match-on (Some a) P P' Q Q' none some m = some a m

-- an actor that was not called behaves as before
pub plays-on : (who : Identity) (before : List Entry) (e : Entry) (after : List Message → ℤ) (gives : Moment → Reply → Type 0)
    (own_after : List Message → ℤ) (own_gives : Moment → Reply → Type 0) (content : ℤ) (made : List Call) →
    call_of who before e ≡ None → messages who (e ∷ before) ≡ messages who before →
    FollowsBehaviour who before after gives own_after own_gives content made → FollowsBehaviour who (e ∷ before) after gives own_after own_gives content made
plays-on who before e after gives own_after own_gives content made no_call same_messages plays = record {
  no_guardian = plays.no_guardian;
  same_after = plays.same_after;
  same_gives = plays.same_gives;
  same_content = plays.same_content ∙ ap after (sym same_messages);
  same_calls = plays.same_calls ∙ sym (calls-silent who before e no_call);
}

-- a count that fits
count-at : (b : Bool) (n m : ℕ) → n ≤ m → (if b then 0 else n) ≤ m
count-at true n m few = omega arith
count-at false n m few = few

pub count-small : (who : Identity) (journal : List Entry) (gives : Moment → Reply → Type 0) (cell_state : CellState) (tray : OutboxView) →
    Agrees who journal gives cell_state tray → cell_state.count < 2 ^ 60
unfolding count
count-small who journal gives cell_state tray kept =
    let few = count-at (phase_is (phase who journal) Ended) (count_after (marks who journal)) (1 + 3 * length journal)
    (sizes who gives journal kept.lawful.entries).marked in
    let same = ap (λ (b : CellState). b.count) kept.booked in
    let within = kept.lawful.within_limit in
    let small = kept.small_limit in
    omega arith

-- ---- a rule that calls nothing

-- what a cell is to keep, of its parts
abbrev pub Kept : {A : Type 0} (place : ActorIdentity) (log : JournalView) (after : List Message → ℤ) (gives : Moment → Reply → Type 0) (cell_state : CellState)
    (tray : OutboxView) (unsent : ℕ) (actor : Option A) (own_after : A → List Message → ℤ) (own_gives : A → Moment → Reply → Type 0) (content : A → ℤ)
    (made : A → List Call) → Type 0
Kept place log after gives cell_state tray unsent actor own_after own_gives content made =
    Agrees (identity_of place log.limit log.retention) log.entries gives cell_state tray
    × (log.is_ready ≡ true → cell_state.is_ready ≡ true)
    × MatchOption actor (is_guardian (identity_of place log.limit log.retention) ≡ true)
    (λ a. FollowsBehaviour (identity_of place log.limit log.retention) log.entries after gives (own_after a) (own_gives a) (content a) (made a))
    × IsUnsent unsent log.entries

not_ready : (old new : JournalView) (e : Entry) (P : Type 0) → new ≡ longer old e → new.is_ready ≡ true → P
not_ready old new e P added ready = let no : new.is_ready ≡ false = ap (λ (j : JournalView). j.is_ready) added in cc

pub kept-silent : {A : Type 0} (place : ActorIdentity) (old new : JournalView) (e : Entry) (after : List Message → ℤ) (gives : Moment → Reply → Type 0)
    (cell_state new_cell_state : CellState) (tray new_tray : OutboxView) (unsent : ℕ) (actor : Option A) (own_after : A → List Message → ℤ)
    (own_gives : A → Moment → Reply → Type 0) (content : A → ℤ) (made : A → List Call) → new ≡ longer old e →
    Agrees (identity_of place old.limit old.retention) (e ∷ old.entries) gives new_cell_state new_tray →
    call_of (identity_of place old.limit old.retention) old.entries e ≡ None →
    (is_guardian (identity_of place old.limit old.retention) ≡ false →
    messages (identity_of place old.limit old.retention) (e ∷ old.entries) ≡ messages (identity_of place old.limit old.retention) old.entries) →
    Kept place old after gives cell_state tray unsent actor own_after own_gives content made → unsent ≡ 0 →
    Kept place new after gives new_cell_state new_tray unsent actor own_after own_gives content made
kept-silent place old new e after gives cell_state new_cell_state tray new_tray unsent actor own_after own_gives content made added agrees silent same kept none = (
  at-log (λ limit retention journal. Agrees (identity_of place limit retention) journal gives new_cell_state new_tray) old new e added agrees,
  not_ready old new e (new_cell_state.is_ready ≡ true) added,
  match-on actor _ _ _ _ (λ guardian. guardian)
      (λ a plays.
      at-log
      (λ limit retention journal. FollowsBehaviour (identity_of place limit retention) journal after gives (own_after a) (own_gives a) (content a) (made a)) old new e added
      (plays-on (identity_of place old.limit old.retention) old.entries e after gives (own_after a) (own_gives a) (content a) (made a) silent
      (same plays.no_guardian) plays))
      kept.2,
  is-unsent-none unsent new.entries none,
)

-- a system message was taken
pub taken-system : (place : ActorIdentity) (old new : JournalView) (number : ℕ) (m : SysMsg) (outcome : Outcome) (old_acts new_acts : List Act) (now : CellView) →
    new ≡ longer old (System number m outcome) →
    (let seen : CellView = record { who = identity_of place old.limit old.retention; journal = old.entries; acts = old_acts; is_ready = old.is_ready } in seen ≡ now) →
    new_acts ≡ acts (identity_of place old.limit old.retention) old.entries (System number m outcome) →
    TakesSystem now
    (record { who = identity_of place new.limit new.retention; journal = new.entries; acts = new_acts; is_ready = new.is_ready }) number m
taken-system place old new number m outcome old_acts new_acts now added view_is acts_are = record {
  outcome = outcome;
  adds = seen-added place old new (System number m outcome) old_acts new_acts now added view_is acts_are;
}

pub length-added : (old new : JournalView) (e : Entry) → new ≡ longer old e → length new.entries ≤ new.limit → length (e ∷ old.entries) ≤ old.limit
length-added old new e added within = subst (λ (j : JournalView). length j.entries ≤ j.limit) added within

-- ---- a rule that calls the actor

pub kept-called : (place : ActorIdentity) (old new : JournalView) (e : Entry) (after : List Message → ℤ) (gives : Moment → Reply → Type 0) (new_cell_state : CellState)
    (new_tray : OutboxView) (own_after : List Message → ℤ) (own_gives : Moment → Reply → Type 0) (content : ℤ) (made : List Call) →
    new ≡ longer old e → Agrees (identity_of place old.limit old.retention) (e ∷ old.entries) gives new_cell_state new_tray →
    FollowsBehaviour (identity_of place old.limit old.retention) (e ∷ old.entries) after gives own_after own_gives content made →
    Agrees (identity_of place new.limit new.retention) new.entries gives new_cell_state new_tray
    × (new.is_ready ≡ true → new_cell_state.is_ready ≡ true)
    × FollowsBehaviour (identity_of place new.limit new.retention) new.entries after gives own_after own_gives content made
kept-called place old new e after gives new_cell_state new_tray own_after own_gives content made added agrees plays = (
  at-log (λ limit retention journal. Agrees (identity_of place limit retention) journal gives new_cell_state new_tray) old new e added agrees,
  not_ready old new e (new_cell_state.is_ready ≡ true) added,
  at-log (λ limit retention journal. FollowsBehaviour (identity_of place limit retention) journal after gives own_after own_gives content made) old new e added plays,
)

-- what holds of the cell's fields where the actor is there
pub plays-now : {A : Type 0} (o : Option A) (a : A) (P : Type 0) (Q : A → Type 0) → o ≡ Some a → MatchOption o P Q → Q a
plays-now {A = A} o a P Q is m = subst (λ (x : Option A). MatchOption x P Q) is m

-- and where it is not: the guardian's
pub guardian-now : {A : Type 0} (o : Option A) (P : Type 0) (Q : A → Type 0) → ((a : A) → o ≡ Some a → ⊥) → MatchOption o P Q → P
guardian-now None P Q other m = m
guardian-now (Some a) P Q other m = absurd (other a refl)

-- the journal has an entry more, and may have room for another
abbrev pub IsLonger : (old new : JournalView) (e : Entry) → Type 0
IsLonger old new e = new ≡ record (longer old e) { is_ready = new.is_ready }

pub is-longer : (old new : JournalView) (e : Entry) → new ≡ longer old e → IsLonger old new e
is-longer old new e added = λ i. record (added i) { is_ready = new.is_ready }

-- an entry was added, and the room for another is not counted on
pub longer-forgotten : (old mid new : JournalView) (e : Entry) → IsLonger old mid e → new ≡ record mid { is_ready = false } → new ≡ longer old e
longer-forgotten old mid new e added forgot = forgot ∙ ap (λ (j : JournalView). record j { is_ready = false }) added

pub within-forgotten : (mid new : JournalView) → length mid.entries ≤ mid.limit → new ≡ record mid { is_ready = false } → length new.entries ≤ new.limit
within-forgotten mid new within forgot = subst (λ (j : JournalView). length j.entries ≤ j.limit) (sym forgot) within

-- an envelope was taken
pub taken-envelope : (place : ActorIdentity) (old new : JournalView) (e : Entry) (envelope : Envelope) (reading : ℕ) (old_acts new_acts : List Act) (now : CellView) →
    IsOf envelope reading e → IsLonger old new e →
    (let seen : CellView = record { who = identity_of place old.limit old.retention; journal = old.entries; acts = old_acts; is_ready = old.is_ready } in seen ≡ now) →
    new_acts ≡ acts (identity_of place old.limit old.retention) old.entries e →
    TakesEnvelope now
    (record { who = identity_of place new.limit new.retention; journal = new.entries; acts = new_acts; is_ready = new.is_ready }) envelope reading
taken-envelope place old new e envelope reading old_acts new_acts now of_it added view_is acts_are = record {
  entry = e;
  of_it = of_it;
  adds = (λ i. record {
    who = identity_of place (added i).limit (added i).retention;
    journal = (added i).entries;
    acts = acts_are i;
    is_ready = new.is_ready;
  })
      ∙ ap (λ (s : CellView). record (with_entry s e) { is_ready = new.is_ready }) view_is;
}

-- the lists are short enough to make room for
pub record AreShort (cell_state : CellState) : Type 0 where
  pub children : length cell_state.children < 2 ^ 60
  pub watchers : length cell_state.watchers < 2 ^ 61
  pub watching : length cell_state.watching < 2 ^ 61
  pub fanout : cell_state.fanout < 2 ^ 60

pub lists-short : (who : Identity) (journal : List Entry) (gives : Moment → Reply → Type 0) (cell_state : CellState) (tray : OutboxView) →
    Agrees who journal gives cell_state tray → AreShort cell_state
lists-short who journal gives cell_state tray kept =
    let few = sizes who gives journal kept.lawful.entries in
    let within = kept.lawful.within_limit in
    let small = kept.small_limit in
    let prepared = kept.few_prepared in
    let by_children = children-few who gives journal kept.lawful in
    let by_watchers = few.watchers in
    let by_watching = few.watching in
    let same_fanout = kept.fanout in
    record {
      children = omega (arith, ap (λ (b : CellState). length b.children) kept.booked);
      watchers = omega (arith, ap (λ (b : CellState). length b.watchers) kept.booked);
      watching = omega (arith, ap (λ (b : CellState). length b.watching) kept.booked);
      fanout = omega arith;
    }
