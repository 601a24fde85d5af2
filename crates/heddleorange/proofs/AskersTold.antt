-- Whoever asks to watch an actor that has ended is told of that end.
use Rattle.std.proofs.Common.{◌≡◌, ◌≢◌, ◌<◌, ◌≤◌, ◌+◌, ◌%◌, ◌^◌, ◌==◌, ◌⊎◌, inl, inr, ℕ, ℤ, zero, suc, Bool, true, false, if◌then◌else◌, List, [], ◌∷◌, ◌++◌, Some}
use Rattle.std.proofs.Common.{ap, arith, length, length-append, map, refl, subst, sym, ◌∙◌}
use Rattle.std.specs.Prelude.{Contains, slice_get}
use Rattle.std.specs.List.{flat_map}
use Rattle.std.proofs.lemmas.Bool.{eq-eqb, eqb-true}
use Rattle.std.proofs.lemmas.Option.{none-some, same_Some}
use Rattle.mb_actor.specs.ActorList.{is_same}
use Rattle.mb_actor.specs.Behaviour.{Moment, Reply}
use Rattle.mb_actor.specs.declared.message.Message.{Message}
use Rattle.mb_actor.specs.declared.phase.Phase.TheVariants.{Ended}
use Rattle.mb_build.specs.Planned.{actors_in}
use Rattle.mb_dispatch.specs.Orders.{over, terminates_of, terminates_of_one}
use Rattle.mb_gate.specs.PutIn.{put_by}
use Rattle.mb_gate.specs.Rule.{IsAmong}
use Rattle.mb_gate.specs.View.{View}
use Rattle.mb_ghost.proofs.SummedLemmas.{total_append}
use Rattle.mb_ghost.specs.Seen.{Each}
use Rattle.mb_ghost.specs.Summed.{total}
use Rattle.mb_home.proofs.EndLaw.{all-counted}
use Rattle.mb_home.specs.AtHome.{system_entries}
use Rattle.mb_journal.specs.Aside.{ever_aside, next_number}
use Rattle.mb_journal.specs.Entry.{Entry}
use Rattle.mb_journal.specs.Entry.Entry.{Dropped, Handled, System}
use Rattle.mb_journal.specs.Identity.{Identity}
use Rattle.mb_journal.specs.Life.{closed, has_ending, phase}
use Rattle.mb_journal.specs.Phase.{phase_is}
use Rattle.mb_msg.specs.declared.id.ActorId.{ActorId}
use Rattle.mb_msg.specs.declared.order.Order.{Order}
use Rattle.mb_msg.specs.declared.order.OrderKind.{OrderKind}
use Rattle.mb_msg.specs.declared.order.OrderKind.TheVariants as order
use Rattle.mb_msg.specs.declared.plan.Plan.{Plan}
use Rattle.mb_msg.specs.declared.system.SysMsg.{SysMsg}
use Rattle.mb_msg.specs.declared.system.SysMsg.TheVariants as system
use Rattle.mb_report.specs.declared.report.ActorReport.{ActorReport}
use Rattle.mb_report.specs.declared.report.Report.{Report}
use Rattle.mb_shutdown.specs.CompleteReport.{CountsSystems}
use Rattle.mb_syslist.specs.MessageList.{numbered}
use Rattle.heddleorange.specs.Answered.{end_of, watch_by}
use Rattle.heddleorange.specs.Arrived.{came, entered}
use Rattle.heddleorange.specs.Asked.{asked_for, due_by, due_in, measure_to}
use Rattle.heddleorange.specs.Watched.{EachParentThatAsksIsToldAgain, EachThatAsksIsTold, MayBeLeftOver, times_noticed, times_unwatched, times_watched}
use Rattle.heddleorange.specs.WholeRun.{IsReportOfRun}
use Rattle.heddleorange.proofs.ArrivedLaw.{IsKnown, each-watcher-is-told, ended-true, known, was-ending}
use Rattle.heddleorange.proofs.AskedFor.{unnumbered}
use Rattle.heddleorange.proofs.Came.{all-came, begins-with, came-entered, first_or_further, further}
use Rattle.heddleorange.proofs.EndsDue.{told-due}
use Rattle.heddleorange.proofs.Identified.{number-at}
use Rattle.heddleorange.proofs.Unwatches.{none-of-another, none-of-own, unwatch_by}
use Rattle.heddleorange.proofs.WatchCame.{watches-it}
use Rattle.heddleorange.proofs.Watches.{watch-due}

-- ---- sums

none-if : (b : Bool) (n : ℕ) → n ≡ 0 → (if b then n else 0) ≡ 0
none-if true n none = none
none-if false n none = refl

module _ {X : Type 0} (f : X → ℕ) where
  -- what counts is there
  some-in : (xs : List X) → 1 ≤ total f xs → (x : X) × Contains xs x × (1 ≤ f x)
  some-in [] some = absurd (omega (arith, some))
  some-in (x ∷ xs) some = by_first (f x) refl (some-in xs)
    where
      by_first : (n : ℕ) → f x ≡ n → (1 ≤ total f xs → (y : X) × Contains xs y × (1 ≤ f y)) → (y : X) × Contains (x ∷ xs) y × (1 ≤ f y)
      by_first zero none rest = let more = rest (omega (arith, some, none)) in (more.0, further x xs more.0 more.1, more.2)
      by_first (suc n) is rest = (x, (0, omega arith, refl), omega (arith, is))

  -- what is there counts
  counts-in : (xs : List X) (x : X) → Contains xs x → f x ≤ total f xs
  counts-in [] x is = absurd (let lt = is.1 in omega (arith, lt))
  counts-in (y ∷ xs) x is = by_first (first_or_further y xs x is) (counts-in xs x)
    where
      by_first : (y ≡ x) ⊎ Contains xs x → (Contains xs x → f x ≤ total f xs) → f x ≤ total f (y ∷ xs)
      by_first (inl same) rest = let is = ap f same in omega (arith, is)
      by_first (inr more) rest = let some = rest more in omega (arith, some)

watch-is : (w : ActorId) (m : SysMsg) → 1 ≤ watch_by w.0 m → m ≡ system.Watch w
watch-is w (system.Watch v) some = by_test (v.0 == w.0) refl some
  where
    by_test : (b : Bool) → (v.0 == w.0) ≡ b → 1 ≤ (if b then 1 else 0) → system.Watch v ≡ system.Watch w
    by_test true same some = λ i. system.Watch (record { 0 = eqb-true v.0 w.0 same i })
    by_test false other some = absurd (omega (arith, some))
watch-is w system.Create some = absurd (omega (arith, some))
watch-is w system.Suspend some = absurd (omega (arith, some))
watch-is w (system.Resume f) some = absurd (omega (arith, some))
watch-is w (system.Recreate c) some = absurd (omega (arith, some))
watch-is w (system.Failed y c) some = absurd (omega (arith, some))
watch-is w system.Terminate some = absurd (omega (arith, some))
watch-is w (system.Unwatch v) some = absurd (omega (arith, some))
watch-is w (system.Died y) some = absurd (omega (arith, some))

end-is : (x : ActorId) (m : SysMsg) → 1 ≤ end_of x.0 m → m ≡ system.Died x
end-is x (system.Died y) some = by_test (y.0 == x.0) refl some
  where
    by_test : (b : Bool) → (y.0 == x.0) ≡ b → 1 ≤ (if b then 1 else 0) → system.Died y ≡ system.Died x
    by_test true same some = λ i. system.Died (record { 0 = eqb-true y.0 x.0 same i })
    by_test false other some = absurd (omega (arith, some))
end-is x system.Create some = absurd (omega (arith, some))
end-is x system.Suspend some = absurd (omega (arith, some))
end-is x (system.Resume f) some = absurd (omega (arith, some))
end-is x (system.Recreate c) some = absurd (omega (arith, some))
end-is x (system.Failed y c) some = absurd (omega (arith, some))
end-is x system.Terminate some = absurd (omega (arith, some))
end-is x (system.Watch w) some = absurd (omega (arith, some))
end-is x (system.Unwatch w) some = absurd (omega (arith, some))

counts-itself : (w : ActorId) → watch_by w.0 (system.Watch w) ≡ 1
counts-itself w = λ i. if eq-eqb w.0 w.0 refl i then 1 else 0

end-counts : (x : ActorId) → end_of x.0 (system.Died x) ≡ 1
end-counts x = λ i. if eq-eqb x.0 x.0 refl i then 1 else 0

-- what came counts no more than what has an entry
came-within : (f : SysMsg → ℕ) (journal : List Entry) → total f (came journal) ≤ total f (entered journal)
came-within f [] = omega arith
came-within f (Handled envelope reading outcome ∷ before) = came-within f before
came-within f (Dropped envelope ∷ before) = came-within f before
came-within f (System number m outcome ∷ before) = by_number (number == next_number before) (came-within f before)
  where
    by_number : (t : Bool) → total f (came before) ≤ total f (entered before)
        → total f (if t then came before ++ m ∷ [] else came before) ≤ f m + total f (entered before)
    by_number true rest = let both = total_append f (came before) (m ∷ []) in omega (arith, rest, both)
    by_number false rest = omega (arith, rest)

-- ---- what is due to an actor

-- what counts at a place counts in all
due-there : (f : ℕ × SysMsg → ℕ) (whos : List Identity) (reports : List ActorReport) (id : ℕ) (who : Identity) (a : ActorReport)
    → slice_get whos id ≡ Some who → slice_get reports id ≡ Some a → total f (due_in who a.journal.entries) ≤ total f (due_by whos reports)
due-there f [] reports id who a at here = absurd (none-some who at)
due-there f (w ∷ whos) [] id who a at here = absurd (none-some a here)
due-there f (w ∷ whos) (r ∷ reports) zero who a at here =
    let same = ap (λ (p : Identity × ActorReport). total f (due_in p.0 p.1.journal.entries)) (λ i. (same_Some w who at i, same_Some r a here i)) in
    let both = total_append f (due_in w r.journal.entries) (due_by whos reports) in omega (arith, same, both)
due-there f (w ∷ whos) (r ∷ reports) (suc id) who a at here =
    let rest = due-there f whos reports id who a at here in
    let both = total_append f (due_in w r.journal.entries) (due_by whos reports) in omega (arith, rest, both)

-- what counts at no place does not count
due-nowhere : (f : ℕ × SysMsg → ℕ) (whos : List Identity) (reports : List ActorReport)
    → ((id : ℕ) (who : Identity) (a : ActorReport) → slice_get whos id ≡ Some who → slice_get reports id ≡ Some a
    → total f (due_in who a.journal.entries) ≡ 0) → total f (due_by whos reports) ≡ 0
due-nowhere f [] reports each = refl
due-nowhere f (w ∷ whos) [] each = refl
due-nowhere f (w ∷ whos) (r ∷ reports) each =
    let first = each zero w r refl refl in let rest = due-nowhere f whos reports (λ id who a at here. each (suc id) who a at here) in
    let both = total_append f (due_in w r.journal.entries) (due_by whos reports) in omega (arith, first, rest, both)

-- senders outside send no Unwatch
module _ (to w : ℕ) where
  abbrev unwatches : List (ℕ × SysMsg) → ℕ
  unwatches list = total (measure_to to (unwatch_by w)) list

  over-none : (n : ℕ) (list : List (ℕ × SysMsg)) → unwatches list ≡ 0 → unwatches (over n list) ≡ 0
  over-none zero list none = refl
  over-none (suc n) list none =
      let both = total_append (measure_to to (unwatch_by w)) list (over n list) in let rest = over-none n list none in omega (arith, none, both, rest)

  one-none : (o : Order) (what : OrderKind) → unwatches (terminates_of_one o.to what) ≡ 0
  one-none o (order.Tell payload) = refl
  one-none o order.Stop = let none = none-if (o.to.0 == to) 0 refl in omega (arith, none)

  terminates-none : (orders : List Order) → unwatches (terminates_of orders) ≡ 0
  terminates-none [] = refl
  terminates-none (o ∷ orders) =
      let first = over-none o.times (terminates_of_one o.to o.what) (one-none o o.what) in let rest = terminates-none orders in
      let both = total_append (measure_to to (unwatch_by w)) (over o.times (terminates_of_one o.to o.what)) (terminates_of orders) in
      omega (arith, first, rest, both)

  orders-none : (orders : List (List Order)) → unwatches (flat_map terminates_of orders) ≡ 0
  orders-none [] = refl
  orders-none (of ∷ orders) =
      let first = terminates-none of in let rest = orders-none orders in
      let both = total_append (measure_to to (unwatch_by w)) (terminates_of of) (flat_map terminates_of orders) in omega (arith, first, rest, both)

-- ---- what has an entry

counts-among : (f : ℕ × SysMsg → ℕ) (m : ℕ × SysMsg) (items : List (ℕ × SysMsg)) → IsAmong m items → f m ≤ total f items
counts-among f m items among =
    let all = ap (total f) among.joined ∙ total_append f among.before (m ∷ among.after) in omega (arith, all)

-- what was never put into the list has no entry
entered-none : (f : SysMsg → ℕ) (pushed : List SysMsg) → total f pushed ≡ 0 → (entries : List (ℕ × SysMsg))
    → Each (λ (m : ℕ × SysMsg). IsAmong m (numbered 0 pushed)) entries → total f (map (λ (m : ℕ × SysMsg). m.1) entries) ≡ 0
entered-none f pushed none [] each = refl
entered-none f pushed none (m ∷ entries) each =
    let first = counts-among (λ (n : ℕ × SysMsg). f n.1) m (numbered 0 pushed) each.0 in let all = unnumbered f pushed 0 in
    let rest = entered-none f pushed none entries each.1 in omega (arith, none, first, all, rest)

-- ---- the law

module _ (after : ℕ → List Message → ℤ) (gives : ℕ → Moment → Reply → Type 0) (plan : Plan) (orders : List (List Order)) (report : Report)
    (story : IsReportOfRun after gives plan orders report) where
  abbrev Known : ℕ → ActorReport → Type 0
  Known id a = IsKnown after gives plan orders report story id a

  module _ (watcher x : ActorId) (b a : ActorReport) (kb : Known watcher.0 b) (ka : Known x.0 a) (there_is : slice_get report.actors.items watcher.0 ≡ Some b)
      (here : slice_get report.actors.items x.0 ≡ Some a) (ended : a.phase ≡ Ended) (open_yet : b.phase ≢ Ended) where
    differ : {A : Type 0} {t : Bool} → t ≡ true → t ≡ false → A
    differ is isnt = absurd (let e : true ≡ false = sym is ∙ isnt in cc e)

    the_watcher : kb.who.this ≡ watcher
    the_watcher = λ i. record { 0 = kb.number i }

    the_other : ka.who.this ≡ x
    the_other = λ i. record { 0 = ka.number i }

    not_closed : closed kb.who b.journal.entries ≡ false
    not_closed = by_test (closed kb.who b.journal.entries) refl
      where
        by_test : (t : Bool) → closed kb.who b.journal.entries ≡ t → t ≡ false
        by_test true shut = absurd (open_yet (kb.is.phase_is ∙ ended-true (phase kb.who b.journal.entries) shut))
        by_test false shut = refl

    is_closed : closed ka.who a.journal.entries ≡ true
    is_closed = ap (λ p. phase_is p Ended) (sym ka.is.phase_is ∙ ended)

    apart : is_same kb.who.this x ≡ false
    apart = by_test (is_same kb.who.this x) refl
      where
        by_test : (t : Bool) → is_same kb.who.this x ≡ t → t ≡ false
        by_test true same =
            let place : watcher.0 ≡ x.0 = sym kb.number ∙ eqb-true kb.who.this.0 x.0 same in
            let one : b ≡ a = same_Some b a (sym there_is ∙ ap (slice_get report.actors.items) place ∙ here) in
            absurd (open_yet (ap (λ (r : ActorReport). r.phase) one ∙ ended))
        by_test false other = refl

    -- ---- what was put into the two lists

    abbrev seats : List View
    seats = story.handles ++ story.knew

    -- what the report counts of the two lists
    in_b : (counts : CountsSystems [] kb.who b) × ((measure : ℕ × SysMsg → ℕ) → total (put_by watcher.0 measure) seats ≡ total measure (numbered 0 counts.pushed))
    in_b = story.put watcher.0 kb.who b kb.at there_is

    in_a : (counts : CountsSystems [] ka.who a) × ((measure : ℕ × SysMsg → ℕ) → total (put_by x.0 measure) seats ≡ total measure (numbered 0 counts.pushed))
    in_a = story.put x.0 ka.who a ka.at here

    abbrev put_b : CountsSystems [] kb.who b
    put_b = in_b.0

    abbrev put_a : CountsSystems [] ka.who a
    put_a = in_a.0

    abbrev watches_due : ℕ × SysMsg → ℕ
    watches_due = measure_to x.0 (watch_by watcher.0)

    abbrev ends_due : ℕ × SysMsg → ℕ
    ends_due = measure_to watcher.0 (end_of x.0)

    -- what is due was put into the two lists
    paid : total watches_due (due_by (actors_in plan) report.actors.items) + total ends_due (due_by (actors_in plan) report.actors.items)
        ≤ total (watch_by watcher.0) put_a.pushed + total (end_of x.0) put_b.pushed
    paid =
        let answered = story.answers watcher.0 x.0 b there_is open_yet in
        let plain_a = unnumbered (watch_by watcher.0) put_a.pushed 0 in let plain_b = unnumbered (end_of x.0) put_b.pushed 0 in
        let sum_a = in_a.1 (λ m. watch_by watcher.0 m.1) in let sum_b = in_b.1 (λ m. end_of x.0 m.1) in
        omega (arith, answered, plain_a, plain_b, sum_a, sum_b)

    -- a Watch is due where one was asked for
    some-watch : 0 < times_watched x b.journal.entries → 1 ≤ total watches_due (due_by (actors_in plan) report.actors.items)
    some-watch asks =
        let due = watch-due kb.who (gives kb.who.this.0) x apart b.journal.entries kb.is.lawful.entries asks in
        let once = counts-in watches_due (due_in kb.who b.journal.entries) (x.0, system.Watch kb.who.this) due in
        let one : watches_due (x.0, system.Watch kb.who.this) ≡ 1 =
        ap (λ w. watches_due (x.0, system.Watch w)) the_watcher ∙ (λ i. if eq-eqb x.0 x.0 refl i then counts-itself watcher i else 0) in
        let all = due-there watches_due (actors_in plan) report.actors.items watcher.0 kb.who b kb.at there_is in omega (arith, once, one, all)

    -- the notice of its end is due to the actor's parent
    some-notice : ka.who.parent ≡ Some watcher → 1 ≤ total ends_due (due_by (actors_in plan) report.actors.items)
    some-notice parent =
        let due = told-due watcher ka.who (gives ka.who.this.0) a.journal.entries ka.is.lawful.entries is_closed (inl parent) in
        let once = counts-in ends_due (due_in ka.who a.journal.entries) (watcher.0, system.Died ka.who.this) due in
        let one : ends_due (watcher.0, system.Died ka.who.this) ≡ 1 =
        ap (λ y. ends_due (watcher.0, system.Died y)) the_other ∙ (λ i. if eq-eqb watcher.0 watcher.0 refl i then end-counts x i else 0) in
        let all = due-there ends_due (actors_in plan) report.actors.items x.0 ka.who a ka.at here in omega (arith, once, one, all)

    -- what was put into the watcher's list came to it
    all-notices : came b.journal.entries ≡ put_b.pushed
    all-notices =
        let all = put_b.all in let none = put_b.open_has_none not_closed in
        all-came put_b.pushed put_b.few b.journal.entries put_b.entered (omega (arith, all, none))

    -- the notice that was put into the watcher's list has an entry
    noticed : 1 ≤ total (end_of x.0) put_b.pushed → Contains (entered b.journal.entries) (system.Died x)
    noticed some =
        let m = some-in (end_of x.0) put_b.pushed some in
        came-entered b.journal.entries (system.Died x)
        (subst (λ l. Contains l (system.Died x)) (sym all-notices) (subst (Contains put_b.pushed) (end-is x m.0 m.2) m.1))

    -- as many have entries as were put there
    as-often : total (end_of x.0) put_b.pushed ≤ times_noticed x b.journal.entries
    as-often =
        let all = ap (total (end_of x.0)) all-notices in let within = came-within (end_of x.0) b.journal.entries in omega (arith, all, within)

    -- a Watch that was put into the other's list has an entry, or was left over
    left-over : (Contains (entered a.journal.entries) (system.Watch watcher) → ⊥) → 1 ≤ total (watch_by watcher.0) put_a.pushed
        → MayBeLeftOver a (system.Watch watcher)
    left-over never some =
        let journal = a.journal.entries in
        let begins = begins-with put_a.pushed put_a.few journal put_a.entered in let many = begins.many in
        let long = ap length begins.joined ∙ length-append (came journal) begins.rest in
        let sum = ap (total (watch_by watcher.0)) begins.joined ∙ total_append (watch_by watcher.0) (came journal) begins.rest in
        let none = none_came (total (watch_by watcher.0) (came journal)) refl in
        let more = not_empty begins.rest (omega (arith, some, sum, none)) in
        let counted = all-counted ka.who (gives ka.who.this.0) journal ka.is.lawful.entries in
        let few = put_a.few in let all = put_a.all in
        let dead = put_a.dead ∙ ap (λ t. ((if t then length (ever_aside journal) else 0) + put_a.later) % 2 ^ 64) is_closed in
        (omega (arith, many, long, more, counted, few, all, dead), never)
      where
        none_came : (n : ℕ) → total (watch_by watcher.0) (came a.journal.entries) ≡ n → n ≡ 0
        none_came zero is = refl
        none_came (suc n) is =
            let m = some-in (watch_by watcher.0) (came a.journal.entries) (omega (arith, is)) in
            absurd (never (came-entered a.journal.entries (system.Watch watcher)
            (subst (Contains (came a.journal.entries)) (watch-is watcher m.0 m.2) m.1)))

        not_empty : (rest : List SysMsg) → 1 ≤ total (watch_by watcher.0) rest → 1 ≤ length rest
        not_empty [] some = absurd (omega (arith, some))
        not_empty (m ∷ rest) some = omega arith

    -- the parent is told once more
    told-again : ka.who.parent ≡ Some watcher → 0 < times_watched x b.journal.entries → (Contains (entered a.journal.entries) (system.Watch watcher) → ⊥)
        → (2 ≤ times_noticed x b.journal.entries) ⊎ MayBeLeftOver a (system.Watch watcher)
    told-again parent asks absent = by_put (total (watch_by watcher.0) put_a.pushed) refl
      where
        by_put : (n : ℕ) → total (watch_by watcher.0) put_a.pushed ≡ n → (2 ≤ times_noticed x b.journal.entries) ⊎ MayBeLeftOver a (system.Watch watcher)
        by_put (suc n) is =
            inr (left-over absent (omega (arith, is)))
        by_put zero none =
            let watch = some-watch asks in
            let notice = some-notice parent in
            let all = paid in
            let often = as-often in
            inl (omega (arith, none, watch, notice, all, often))

    -- ---- who watched it when it ended

    module _ (never : times_unwatched x b.journal.entries ≡ 0) (alive : has_ending b.journal.entries ≡ false) where
      none-asked : total (measure_to x.0 (unwatch_by watcher.0)) (asked_for plan orders report) ≡ 0
      none-asked =
          let f = measure_to x.0 (unwatch_by watcher.0) in
          let create = none-if (0 == x.0) 0 refl in
          let outside = orders-none x.0 watcher.0 orders in
          let inside = due-nowhere f (actors_in plan) report.actors.items nobody in
          let both = total_append f (flat_map terminates_of orders) (due_by (actors_in plan) report.actors.items) in
          omega (arith, create, outside, inside, both)
        where
          nobody : (id : ℕ) (who : Identity) (r : ActorReport) → slice_get (actors_in plan) id ≡ Some who → slice_get report.actors.items id ≡ Some r
              → total (measure_to x.0 (unwatch_by watcher.0)) (due_in who r.journal.entries) ≡ 0
          nobody id who r at is = by_test (who.this.0 == watcher.0) refl
            where
              by_test : (t : Bool) → (who.this.0 == watcher.0) ≡ t → total (measure_to x.0 (unwatch_by watcher.0)) (due_in who r.journal.entries) ≡ 0
              by_test false another = none-of-another x watcher.0 who another r.journal.entries
              by_test true same =
                  let place : id ≡ watcher.0 = sym (number-at plan id who at) ∙ eqb-true who.this.0 watcher.0 same in
                  let one : b ≡ r = same_Some b r (sym there_is ∙ ap (slice_get report.actors.items) (sym place) ∙ is) in
                  none-of-own x watcher.0 who r.journal.entries (subst (λ (q : ActorReport). times_unwatched x q.journal.entries ≡ 0) one never)
                  (subst (λ (q : ActorReport). has_ending q.journal.entries ≡ false) one alive)

      none-entered : total (unwatch_by watcher.0) (entered a.journal.entries) ≡ 0
      none-entered =
          let most = ka.gets.at_most (unwatch_by watcher.0) (λ ended. refl) in
          let none = subst (λ n. total (measure_to n (unwatch_by watcher.0)) (asked_for plan orders report) ≡ 0) (sym ka.number) none-asked in
          entered-none (unwatch_by watcher.0) ka.gets.counts.pushed (omega (arith, most, none)) (system_entries a.journal.entries) ka.gets.counts.entered

      -- whose Watch has an entry was told
      joined : Contains (entered a.journal.entries) (system.Watch watcher) → Contains (entered b.journal.entries) (system.Died x)
      joined is =
          let watches = watches-it watcher ka.who (gives ka.who.this.0) a.journal.entries ka.is.lawful.entries none-entered is in
          by_told (each-watcher-is-told after gives plan orders report story x.0 ka.who a watcher b ka.at here ended (inr watches) there_is)
        where
          by_told : (b.phase ≡ Ended) ⊎ Contains (entered b.journal.entries) (system.Died ka.who.this) → Contains (entered b.journal.entries) (system.Died x)
          by_told (inl over) = absurd (open_yet over)
          by_told (inr told) = subst (λ y. Contains (entered b.journal.entries) (system.Died y)) the_other told

      decided : 0 < times_watched x b.journal.entries → Contains (entered b.journal.entries) (system.Died x) ⊎ MayBeLeftOver a (system.Watch watcher)
      decided asks = by_entry (total (watch_by watcher.0) (entered a.journal.entries)) refl
        where
          by_notice : (Contains (entered a.journal.entries) (system.Watch watcher) → ⊥) → (n : ℕ) → total (end_of x.0) put_b.pushed ≡ n
              → Contains (entered b.journal.entries) (system.Died x) ⊎ MayBeLeftOver a (system.Watch watcher)
          by_notice absent (suc n) is =
              inl (noticed (omega (arith, is)))
          by_notice absent zero none =
              let some = some-watch asks in
              let all = paid in
              inr (left-over absent (omega (arith, some, all, none)))

          by_entry : (n : ℕ) → total (watch_by watcher.0) (entered a.journal.entries) ≡ n
              → Contains (entered b.journal.entries) (system.Died x) ⊎ MayBeLeftOver a (system.Watch watcher)
          by_entry (suc n) is =
              let m = some-in (watch_by watcher.0) (entered a.journal.entries) (omega (arith, is)) in
              inl (joined (subst (Contains (entered a.journal.entries)) (watch-is watcher m.0 m.2) m.1))
          by_entry zero none =
              by_notice (λ is. (let some = counts-in (watch_by watcher.0) (entered a.journal.entries) (system.Watch watcher) is in
              let one = counts-itself watcher in absurd (omega (arith, none, some, one)))) (total (end_of x.0) put_b.pushed) refl

  pub each-that-asks-is-told : EachThatAsksIsTold report
  each-that-asks-is-told = λ watcher x b a there_is here ended asks never.
      by_ending watcher x b a there_is here ended asks never (has_ending b.journal.entries) refl
    where
      by_ending : (watcher x : ActorId) (b a : ActorReport) → slice_get report.actors.items watcher.0 ≡ Some b → slice_get report.actors.items x.0 ≡ Some a
          → a.phase ≡ Ended → 0 < times_watched x b.journal.entries → times_unwatched x b.journal.entries ≡ 0 → (t : Bool) → has_ending b.journal.entries ≡ t
          → (has_ending b.journal.entries ≡ true) ⊎ (Contains (entered b.journal.entries) (system.Died x) ⊎ MayBeLeftOver a (system.Watch watcher))
      by_ending watcher x b a there_is here ended asks never true is = inl is
      by_ending watcher x b a there_is here ended asks never false alive =
          let kb = known after gives plan orders report story watcher.0 b there_is in let ka = known after gives plan orders report story x.0 a here in
          inr (decided watcher x b a kb ka there_is here ended (open_yet kb) never alive asks)
        where
          open_yet : Known watcher.0 b → b.phase ≢ Ended
          open_yet kb over =
              let is : true ≡ false = sym (was-ending after gives plan orders report story watcher.0 b kb over) ∙ alive in cc is

  pub each-parent-is-told-again : EachParentThatAsksIsToldAgain plan report
  each-parent-is-told-again = λ watcher x who b a at parent there_is here ended asks absent.
      by_phase watcher x who b a at parent there_is here ended asks absent (phase_is b.phase Ended) refl
    where
      false_true : false ≡ true → ⊥
      false_true e = cc

      by_phase : (watcher x : ActorId) (who : Identity) (b a : ActorReport) → slice_get (actors_in plan) x.0 ≡ Some who → who.parent ≡ Some watcher
          → slice_get report.actors.items watcher.0 ≡ Some b → slice_get report.actors.items x.0 ≡ Some a → a.phase ≡ Ended
          → 0 < times_watched x b.journal.entries → (Contains (entered a.journal.entries) (system.Watch watcher) → ⊥)
          → (t : Bool) → phase_is b.phase Ended ≡ t
          → (b.phase ≡ Ended) ⊎ ((2 ≤ times_noticed x b.journal.entries) ⊎ MayBeLeftOver a (system.Watch watcher))
      by_phase watcher x who b a at parent there_is here ended asks absent true over = inl (ended-true b.phase over)
      by_phase watcher x who b a at parent there_is here ended asks absent false open_yet =
          let kb = known after gives plan orders report story watcher.0 b there_is in let ka = known after gives plan orders report story x.0 a here in
          let its_parent : ka.who.parent ≡ Some watcher = ap (λ (w : Identity). w.parent) (same_Some ka.who who (sym ka.at ∙ at)) ∙ parent in
          inr (told-again watcher x b a kb ka there_is here ended
          (λ over. false_true (sym open_yet ∙ ap (λ p. phase_is p Ended) over)) its_parent asks absent)
