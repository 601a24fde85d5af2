-- The turns of a quiet run have all entries of the journals.
use Rattle.std.proofs.Common.{◌≡◌, ◌+◌, ◌==◌, ℕ, Bool, true, false, cond, if◌then◌else◌, List, [], ◌∷◌, ◌++◌, Some, ap, arith, length, map, refl, subst, sym, ◌∙◌}
use Rattle.std.specs.Prelude.{All, slice_get}
use Rattle.std.specs.Global.{Box}
use Rattle.std.proofs.lemmas.Bool.{eqb-true}
use Rattle.std.proofs.lemmas.List.{append-nil, length-append}
use Rattle.std.proofs.lemmas.List.Elements.{All-head, All-tail}
use Rattle.mb_actor.specs.Behaviour.{Moment, Reply}
use Rattle.mb_dispatch.specs.Runs.{MadeRuns, RanMailbox}
use Rattle.mb_gate.specs.Accessors.{held_actor}
use Rattle.mb_gate.specs.Releases.{ReleasesAddUp, back_by, back_in_release, taken_by, taken_in_release}
use Rattle.mb_gate.specs.Returned.{GoesOn}
use Rattle.mb_gate.specs.Rule.{Extends}
use Rattle.mb_gate.specs.Untouched.{Origin}
use Rattle.mb_gate.specs.View.{Observation, Release, Saw, View}
use Rattle.mb_gate.specs.declared.gates.Gates.{Gates}
use Rattle.mb_ghost.proofs.SummedLemmas.{total_append}
use Rattle.mb_ghost.specs.Seen.{Each}
use Rattle.mb_ghost.specs.Shares.{IsWhole}
use Rattle.mb_ghost.specs.Summed.{total}
use Rattle.mb_home.specs.Contents.{Contents}
use Rattle.mb_msg.specs.declared.order.Order.{Order}
use Rattle.mb_journal.specs.Entry.{Entry}
use Rattle.mb_mailbox.specs.Ran.{GivesBackOne}
use Rattle.mb_mailbox.specs.declared.turn.Turn.{Turn}
use Rattle.mb_register.specs.Views.{GivesBackUnchanged, IsUnchanged}
use Rattle.mb_report.specs.declared.report.ActorReport.{ActorReport}
use Rattle.mb_report.specs.declared.report.Report.{Report}
use Rattle.mb_shutdown.specs.Seen.{ReportExtends, ReportExtendsAll}
use Rattle.mb_system.specs.OnlyLooks.{OnlyLooks}
use Rattle.mb_system.specs.Shares.{share_of_handle, shares_of_handles, shares_of_senders}
use Rattle.mb_system.specs.declared.handle.WorkerHandle.{WorkerHandle}
use Rattle.mb_system.specs.Members.{OutsideSender}
use Rattle.heddleorange.specs.RanQuietly.{OnlyFirstMade}
use Rattle.heddleorange.specs.Sent.{HaveSent}
use Rattle.heddleorange.specs.Turns.{HaveTheirTurns, entry_count, turns_of}
use Rattle.heddleorange.proofs.Covered.{WereAdded, of-all-added}
use Rattle.heddleorange.proofs.Stretches.{each-among, each-before-run, each-right, run-adds}
use Rattle.heddleorange.proofs.Unchanged.{ChangedNoJournal, changed-none-more, of-handle, of-sender, shares-kept}

-- ---- how many entries came back beside those that were taken

module _ (actor : ℕ) where
  unchanged : (rs : List Release) → Each IsUnchanged rs → total (back_in_release actor length) rs ≡ total (taken_in_release actor length) rs
  unchanged [] each = refl
  unchanged (r ∷ rs) each = λ i. (if r.actor == actor then length (each.0 i) else 0) + unchanged rs each.1 i

  unchanged-all : (vs : List View) → All ChangedNoJournal vs → total (back_by actor length) vs ≡ total (taken_by actor length) vs
  unchanged-all [] all = refl
  unchanged-all (v ∷ vs) all =
      λ i. unchanged v.releases (All-head ChangedNoJournal v vs all) i + unchanged-all vs (All-tail ChangedNoJournal v vs all) i

  looks-add : (old new : View) → GivesBackUnchanged old new
      → back_by actor length new + taken_by actor length old ≡ taken_by actor length new + back_by actor length old
  looks-add old new gives =
      let same = unchanged gives.more gives.unchanged in
      let sum : (f : Release → ℕ) → total f new.releases ≡ total f gives.more + total f old.releases =
      λ f. ap (total f) gives.releases ∙ total_append f gives.more old.releases in
      let back = sum (back_in_release actor length) in let taken = sum (taken_in_release actor length) in omega (arith, same, back, taken)

  one-adds : (own : Bool) (entries back taken : List Entry) → back ≡ entries ++ taken
      → (if own then length back else 0) ≡ (if own then length taken else 0) + (if own then length entries else 0)
  one-adds true entries back taken is = let long = ap length is ∙ length-append entries taken in omega (arith, long)
  one-adds false entries back taken is = omega arith

  run-adds-up : (old new : View) (own : Release) (entries : List Entry) → GivesBackOne own old new → own.back ≡ entries ++ own.taken
      → back_by actor length new + taken_by actor length old
      ≡ taken_by actor length new + back_by actor length old + (if own.actor == actor then length entries else 0)
  run-adds-up old new own entries gives is =
      let first = unchanged gives.earlier gives.earlier_unchanged in let last = unchanged gives.later gives.later_unchanged in
      let one = one-adds (own.actor == actor) entries own.back own.taken is in
      let sum : (f : Release → ℕ) → total f new.releases ≡ total f gives.later + (f own + (total f gives.earlier + total f old.releases)) =
      λ f. ap (total f) gives.releases ∙ total_append f gives.later (own ∷ (gives.earlier ++ old.releases))
      ∙ ap (λ n. total f gives.later + (f own + n)) (total_append f gives.earlier old.releases) in
      let back = sum (back_in_release actor length) in let taken = sum (taken_in_release actor length) in
      omega (arith, first, last, one, back, taken)

  -- the turns of the actor count the entries
  turn-counts : (own : Bool) (turn : Turn) (turns : List Turn)
      → total entry_count (cond own (turn ∷ turns) turns) ≡ (if own then entry_count turn else 0) + total entry_count turns
  turn-counts true turn turns = refl
  turn-counts false turn turns = omega arith

-- ---- the runs of one actor's mailbox

module _ (gives : ℕ → Moment → Reply → Type 0) (origin : Origin (Box Contents)) (throughput : ℕ) where
  pub runs-share : (old : View) (turns : List Turn) (new : View) → MadeRuns gives origin throughput old turns new → new.share ≡ old.share
  runs-share old [] new made = made.share
  runs-share old (turn ∷ turns) new made = runs-share made.1 turns new made.4 ∙ made.3.left.share ∙ made.2.share

  module _ (actor : ℕ) where
    runs-add : (old : View) (turns : List Turn) (new : View) → MadeRuns gives origin throughput old turns new
        → back_by actor length new + taken_by actor length old
        ≡ taken_by actor length new + back_by actor length old + total entry_count (turns_of actor turns)
    runs-add old [] new made = let same = looks-add actor old new made.gives_back in omega (arith, same)
    runs-add old (turn ∷ turns) new made =
        let left = made.3.left in let adds = run-adds gives origin throughput made.0 made.1 turn made.3 in
        let looks = looks-add actor old made.0 made.2.gives_back in
        let ran = run-adds-up actor made.0 made.1 _ adds.0 left.gives_back adds.1 in
        let rest = runs-add made.1 turns new made.4 in
        let counts = turn-counts actor (turn.actor.0 == actor) turn (turns_of actor turns) in
        let same : (if turn.actor.0 == actor then entry_count turn else 0) ≡ (if held_actor made.3.claim == actor then length adds.0 else 0) =
        λ i. (if left.actor i == actor then (sym adds.2.0) i else 0) in
        omega (arith, looks, ran, rest, counts, same)

    -- one run more, of this actor or of another
    next-added : (old before after : View) (turn : Turn) (turns : List Turn) (from to : List Entry) → OnlyLooks old before
        → RanMailbox gives origin throughput before after turn → ((journal : List Entry) → Each (GoesOn actor journal) old.log → Extends journal from)
        → ((next : List Entry) → ((journal : List Entry) → Each (GoesOn actor journal) after.log → Extends journal next) → WereAdded next turns to)
        → (own : Bool) → (turn.actor.0 == actor) ≡ own → WereAdded from (cond own (turn ∷ turns) turns) to
    next-added old before after turn turns from to looks ran goes_on rest true is =
        let same : held_actor ran.claim ≡ actor = sym ran.left.actor ∙ eqb-true turn.actor.0 actor is in
        let taken = ran.claim.home.value.cell.journal in let adds = run-adds gives origin throughput before after turn ran in
        let since : Each (GoesOn actor taken) before.log = subst (λ n. Each (GoesOn n taken) before.log) same ran.left.goes_on in
        let first = goes_on taken (each-right (GoesOn actor taken) looks.looks old.log (subst (Each (GoesOn actor taken)) looks.log since)) in (
          taken,
          adds.0,
          first,
          adds.2,
          rest (adds.0 ++ taken)
              (λ journal each. subst (Extends journal) adds.1 (each-among (GoesOn actor journal) _ after.log ran.left.seen each same)),
        )
    next-added old before after turn turns from to looks ran goes_on rest false is =
        rest from (λ journal each. goes_on journal (each-before-run gives origin throughput (GoesOn actor journal) old before after turn looks ran each))

    were-added : (old : View) (turns : List Turn) (new : View) → MadeRuns gives origin throughput old turns new → (from to : List Entry)
        → ((journal : List Entry) → Each (GoesOn actor journal) old.log → Extends journal from) → Each (GoesOn actor to) new.log
        → WereAdded from (turns_of actor turns) to
    were-added old [] new made from to goes_on each =
        goes_on to (each-right (GoesOn actor to) made.looks old.log (subst (Each (GoesOn actor to)) made.log each))
    were-added old (turn ∷ turns) new made from to goes_on each =
        next-added old made.0 made.1 turn (turns_of actor turns) from to made.2 made.3 goes_on
        (λ next after. were-added made.1 turns new made.4 next to after each) (turn.actor.0 == actor) refl

-- ---- the report

module _ (report : Report) (actor : ℕ) (a : ActorReport) (at : slice_get report.actors.items actor ≡ Some a) where
  goes-on : (s : Observation) → ReportExtends report s → GoesOn actor a.journal.entries s
  goes-on (Saw n journal) extends = λ same. extends a (subst (λ k. slice_get report.actors.items k ≡ Some a) (sym same) at)
  goes-on s extends = tt

  all-go-on : (log : List Observation) → Each (ReportExtends report) log → Each (GoesOn actor a.journal.entries) log
  all-go-on [] each = tt
  all-go-on (s ∷ log) each = (goes-on s each.0, all-go-on log each.1)

module _ {A K : Type 0} (gives : ℕ → Moment → Reply → Type 0) (origin : Origin (Box Contents)) (throughput : ℕ) where
  -- the first handle made all turns, and the others and the senders did nothing
  one-made-all : (old new : WorkerHandle A K) (handles : List (WorkerHandle A K)) (senders : List OutsideSender) (turns : List Turn)
      → MadeRuns gives origin throughput (of-handle old) turns (of-handle new)
      → IsWhole (shares_of_handles (old ∷ handles) ++ shares_of_senders senders)
      → All ChangedNoJournal (map of-handle (old ∷ handles) ++ map of-sender senders)
      → (report : Report) → All (λ (e : WorkerHandle A K). ReportExtendsAll report (of-handle e)) (new ∷ handles)
      → (IsWhole (shares_of_handles (new ∷ handles) ++ shares_of_senders senders) → (id : ℕ) (a : ActorReport)
      → slice_get report.actors.items id ≡ Some a → ReleasesAddUp id a.journal.entries (map of-handle (new ∷ handles) ++ map of-sender senders))
      → HaveTheirTurns report turns
  one-made-all old new handles senders turns made whole none report extends add_up = λ id a at.
      (let others = map of-handle handles ++ map of-sender senders in let to = a.journal.entries in
      let share : share_of_handle new ≡ share_of_handle old = runs-share gives origin throughput (of-handle old) turns (of-handle new) made in
      let all = subst IsWhole (λ i. (sym share i ++ shares_of_handles handles) ++ shares_of_senders senders) whole in
      let sum = add_up all id a at length in
      let rest = unchanged-all id others (All-tail ChangedNoJournal (of-handle old) others none) in
      let first : back_by id length (of-handle old) ≡ taken_by id length (of-handle old) =
      unchanged id (of-handle old).releases (All-head ChangedNoJournal (of-handle old) others none) in
      let more = runs-add gives origin throughput id (of-handle old) turns (of-handle new) made in
      let seen = all-go-on report id a at (of-handle new).log (All-head (λ (e : WorkerHandle A K). ReportExtendsAll report (of-handle e)) new handles extends) in
      let added = were-added gives origin throughput id (of-handle old) turns (of-handle new) made [] to
      (λ journal each. record { newer = journal; joined = sym (append-nil journal) }) seen in
      of-all-added (turns_of id turns) to added (omega (arith, sum, rest, first, more)))

  pub all-turns : (old new : List (WorkerHandle A K)) (senders : List OutsideSender) (turns : List Turn) → OnlyFirstMade gives origin throughput old new turns
      → IsWhole (shares_of_handles old ++ shares_of_senders senders) → All ChangedNoJournal (map of-handle old ++ map of-sender senders)
      → (report : Report) → All (λ (e : WorkerHandle A K). ReportExtendsAll report (of-handle e)) new
      → (IsWhole (shares_of_handles new ++ shares_of_senders senders) → (id : ℕ) (a : ActorReport)
      → slice_get report.actors.items id ≡ Some a → ReleasesAddUp id a.journal.entries (map of-handle new ++ map of-sender senders))
      → HaveTheirTurns report turns
  all-turns [] new senders turns made whole none report extends add_up = absurd made
  all-turns (x ∷ others) [] senders turns made whole none report extends add_up = absurd made
  all-turns (x ∷ others) (y ∷ same) senders turns made whole none report extends add_up =
      let is = made.1 in
      one-made-all x y others senders turns made.0 whole none report
      (subst (λ (l : List (WorkerHandle A K)). All (λ (e : WorkerHandle A K). ReportExtendsAll report (of-handle e)) (y ∷ l)) is extends)
      (subst (λ (l : List (WorkerHandle A K)). IsWhole (shares_of_handles (y ∷ l) ++ shares_of_senders senders) → (id : ℕ) (a : ActorReport)
      → slice_get report.actors.items id ≡ Some a → ReleasesAddUp id a.journal.entries (map of-handle (y ∷ l) ++ map of-sender senders)) is add_up)

module _ {A K : Type 0} where
  -- the same from before the senders carried out their orders
  pub all-turns-since : (gates : Gates (Box Contents)) (orders : List (List Order)) (handles : List (WorkerHandle A K)) (old between sent : List OutsideSender)
      → length old ≡ length orders → HaveSent gates orders old sent → between ≡ sent → (rest : Type 0)
      → (IsWhole (shares_of_handles handles ++ shares_of_senders between) → All ChangedNoJournal (map of-handle handles ++ map of-sender between) → rest)
      → IsWhole (shares_of_handles handles ++ shares_of_senders old) → All ChangedNoJournal (map of-handle handles ++ map of-sender old) → rest
  all-turns-since gates orders handles old between sent many did is rest all whole none =
      let shares : shares_of_senders between ≡ shares_of_senders old = ap shares_of_senders is ∙ shares-kept gates orders old sent many did in
      all (subst (λ s. IsWhole (shares_of_handles handles ++ s)) (sym shares) whole)
      (subst (λ l. All ChangedNoJournal (map of-handle handles ++ map of-sender l)) (sym is)
      (changed-none-more gates orders old sent many did (map of-handle handles) none))
