-- How often a restart of a child was requested: so seldom that a word holds the count.
use Rattle.std.proofs.Common.{◌≡◌, ℕ, ℤ, pos, ◌+◌, ◌*◌, ◌<◌, ◌≤◌, ◌^◌, List, [], ◌∷◌, length, Bool, true, false, cond, ap, arith}
use Rattle.std.specs.Prelude.{negsuc, nat_lt, ◌&&◌, if◌then◌else◌}
use Rattle.std.proofs.lemmas.List.Sums.{sum_by-cons, sum_by-append}
use Rattle.mb_msg.specs.declared.id.ActorId.{ActorId}
use Rattle.mb_msg.specs.declared.supervision.Cause.{Cause}
use Rattle.mb_msg.specs.declared.system.SysMsg.{SysMsg}
use Rattle.mb_msg.specs.declared.system.SysMsg.TheVariants as system
use Rattle.mb_actor.specs.ActorList.{is_same, has}
use Rattle.mb_actor.specs.Behaviour.{Moment, Reply}
use Rattle.mb_actor.specs.OutboxView.{OutboxView}
use Rattle.mb_journal.specs.Entry.{Entry, Outcome}
use Rattle.mb_journal.specs.Entry.Entry.{Handled, System, Dropped}
use Rattle.mb_journal.specs.Entry.Outcome.{Applied, SetAside}
use Rattle.mb_journal.specs.Identity.{Identity}
use Rattle.mb_journal.specs.Lawful.{AreLawful}
use Rattle.mb_journal.specs.Life.{children}
use Rattle.mb_journal.specs.Retries.{counted_from, is_given, is_restart_directive, requests, retry_count, through_refusal, times_in}
use Rattle.mb_journal.specs.Supervision.{directive_of}
use Rattle.mb_journal.proofs.ChildrenOnce.{children-within}
use Rattle.mb_journal.proofs.Fold.{Queries, queries, queries-fold, asked_on, meant_on, requests_on}
use Rattle.mb_supervision.specs.CellStateRecord.{CellState}
use Rattle.mb_supervision.specs.RetryCounts.{retry_count_of}
use Rattle.mb_cell.specs.Agrees.{Agrees}

times-cons : (y z : ActorId) (list : List ActorId) → times_in (z ∷ list) y ≡ cond (is_same y z) 1 0 + times_in list y
times-cons y z list = sum_by-cons (λ x. cond (is_same y x) 1 0) z list

at_most_one : (b : Bool) → cond b 1 0 ≤ 1
at_most_one true = omega arith
at_most_one false = omega arith

times-length : (list : List ActorId) (y : ActorId) → times_in list y ≤ length list
times-length [] y = omega arith
times-length (z ∷ list) y = omega (arith, times-cons y z list, at_most_one (is_same y z), times-length list y)

times-through : (given : ActorId → Bool) (list : List ActorId) (y : ActorId) → times_in (through_refusal given list) y ≤ times_in list y
times-through given [] y = omega arith
times-through given (z ∷ list) y = by (given z) (times-through given list y)
  where
    by : (b : Bool) → times_in (through_refusal given list) y ≤ times_in list y →
        times_in (z ∷ (if b then through_refusal given list else [])) y ≤ times_in (z ∷ list) y
    by true few = omega (arith, few, times-cons y z list, times-cons y z (through_refusal given list))
    by false few = omega (arith, few, times-cons y z list, times-cons y z [])

module _ (who : Identity) (q : Queries) (y : ActorId) (few : times_in q.children y ≤ 64) where
  meant-few : (x : ActorId) (all : Bool) → times_in (if all then q.children else x ∷ []) y ≤ 65
  meant-few x true = omega (arith, few)
  meant-few x false = omega (arith, times-cons y x [], at_most_one (is_same y x))

  asked-few : (x : ActorId) (c : Cause) → times_in (asked_on who q x c) y ≤ 65
  asked-few x c = by (has q.children x && is_restart_directive (directive_of who c))
    where
      by : (b : Bool) → times_in (if b then through_refusal (is_given who q.requests) (meant_on who q x) else []) y ≤ 65
      by true =
          omega (arith, times-through (is_given who q.requests) (meant_on who q x) y, meant-few x who.all_for_one)
      by false = omega arith

  more-few : (e : Entry) → times_in (requests_on who q e) y ≤ times_in q.requests y + 65
  more-few (Handled envelope reading outcome) = omega arith
  more-few (Dropped envelope) = omega arith
  more-few (System number m outcome) = by m outcome
    where
      by : (m : SysMsg) (outcome : Outcome) → times_in (requests_on who q (System number m outcome)) y ≤ times_in q.requests y + 65
      by (system.Failed x c) (Applied answer effects) =
          omega (arith, asked-few x c, sum_by-append (λ z. cond (is_same y z) 1 0) q.requests (asked_on who q x c))
      by (system.Failed x c) SetAside = omega arith
      by system.Create outcome = omega arith
      by system.Suspend outcome = omega arith
      by (system.Resume f) outcome = omega arith
      by (system.Recreate c) outcome = omega arith
      by system.Terminate outcome = omega arith
      by (system.Watch w) outcome = omega arith
      by (system.Unwatch w) outcome = omega arith
      by (system.Died x) outcome = omega arith

requests-few : (who : Identity) (gives : Moment → Reply → Type 0) (y : ActorId) → length who.prepared ≤ 64 → (journal : List Entry) →
    AreLawful who gives journal → length journal ≤ who.limit → times_in (requests who journal) y ≤ 65 * length journal
unfolding AreLawful requests
requests-few who gives y prepared [] lawful within = omega arith
requests-few who gives y prepared (e ∷ before) lawful within =
    let before_within : length before ≤ who.limit = omega arith in
    let few : times_in (children who before) y ≤ 64 =
    omega (arith, children-within who gives before y (record { entries = lawful.1; within_limit = before_within }), times-length who.prepared y) in
    let now : times_in (requests who (e ∷ before)) y ≡ times_in (requests_on who (queries who before) e) y =
    ap (λ (s : Queries). times_in s.requests y) (queries-fold who before e) in
    omega (arith, now, more-few who (queries who before) y few e, requests-few who gives y prepared before lawful.1 before_within)

counted-few : (limit : ℤ) (times : ℕ) → counted_from limit times ≤ times
counted-few (negsuc n) times = omega arith
counted-few (pos n) times = by (nat_lt 0 n)
  where
    by : (b : Bool) → (if b then times else 0) ≤ times
    by true = omega arith
    by false = omega arith

pub retries-small : (who : Identity) (journal : List Entry) (gives : Moment → Reply → Type 0) (cell_state : CellState) (tray : OutboxView) →
    Agrees who journal gives cell_state tray → (y : ActorId) → retry_count_of cell_state.retries y < 2 ^ 63
retries-small who journal gives cell_state tray kept y =
    let few = requests-few who gives y kept.few_prepared journal kept.lawful.entries kept.lawful.within_limit in
    let counted = counted-few who.retries (times_in (requests who journal) y) in
    let same : retry_count_of cell_state.retries y ≡ retry_count who journal y = kept.counted y in
    let within = kept.lawful.within_limit in
    let small = kept.small_limit in
    omega arith
