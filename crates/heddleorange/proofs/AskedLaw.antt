-- Each system message that has an entry in a journal of a report was asked for.
use Rattle.std.proofs.Common.{◌≡◌, ◌≤◌, ◌+◌, ◌==◌, ◌⊎◌, inl, inr, ℕ, zero, suc, Bool, true, false, if◌then◌else◌, List, [], ◌∷◌, ◌++◌, Some, ap, arith, length, refl, subst, sym, ◌∙◌, ℤ}
use Rattle.std.specs.Prelude.{Contains, slice_get}
use Rattle.std.specs.List.{flat_map}
use Rattle.std.proofs.lemmas.Bool.{eqb-true}
use Rattle.mb_actor.specs.Behaviour.{Moment, Reply}
use Rattle.mb_actor.specs.declared.message.Message.{Message}
use Rattle.mb_build.specs.Planned.{actors_in}
use Rattle.mb_dispatch.specs.Orders.{terminates_of}
use Rattle.mb_gate.specs.Rule.{IsAmong}
use Rattle.mb_ghost.proofs.SummedLemmas.{total_append}
use Rattle.mb_ghost.specs.Seen.{Each}
use Rattle.mb_ghost.specs.Summed.{total}
use Rattle.mb_home.specs.AtHome.{system_entries}
use Rattle.mb_home.specs.Directory.{DirectoryEntry}
use Rattle.mb_journal.specs.Identity.{Identity}
use Rattle.mb_msg.specs.declared.id.ActorId.{ActorId}
use Rattle.mb_msg.specs.declared.order.Order.{Order}
use Rattle.mb_msg.specs.declared.plan.Plan.{Plan}
use Rattle.mb_msg.specs.declared.system.SysMsg.{SysMsg}
use Rattle.mb_msg.specs.declared.system.SysMsg.TheVariants.{Create, Died}
use Rattle.mb_report.specs.declared.report.ActorReport.{ActorReport}
use Rattle.mb_report.specs.declared.report.Report.{Report}
use Rattle.mb_shutdown.proofs.Lists.{length-mapped, there, within}
use Rattle.mb_syslist.specs.MessageList.{numbered}
use Rattle.heddleorange.specs.Asked.{EachIsAskedFor, GetsAskedFor, IsAskedFor, IsDue, IsNotice, IsOrdered, asked_for, due_by, due_in, measure_to}
use Rattle.heddleorange.specs.WholeRun.{IsReportOfRun}
use Rattle.heddleorange.proofs.AskedFor.{unnumbered}
use Rattle.heddleorange.proofs.Identified.{number-at}
use Rattle.heddleorange.proofs.OneMessage.{is-message-true, is-no-notice, is_message, itself}

-- ---- a message that counts is there

module _ (m : SysMsg) where
  -- 1 for this message, else 0
  abbrev pub count : SysMsg → ℕ
  count n = if is_message m n then 1 else 0

  silent : (ended : ActorId) → count (Died ended) ≡ 0
  silent ended = ap (λ b. if b then 1 else 0) (is-no-notice m ended)

  -- a message that was put there counts
  counted : (number : ℕ) (pushed : List SysMsg) → is_message m m ≡ true → IsAmong (number, m) (numbered 0 pushed) → 1 ≤ total count pushed
  counted number pushed is among =
      let plain = unnumbered count pushed 0 in
      let all = ap (total (λ x. count x.1)) among.joined ∙ total_append (λ x. count x.1) among.before ((number, m) ∷ among.after) in
      let one : count m ≡ 1 = ap (λ b. if b then 1 else 0) is in omega (arith, plain, all, one)

  module _ (to : ℕ) where
    abbrev sum : List (ℕ × SysMsg) → ℕ
    sum = λ xs. total (measure_to to count) xs

    -- one that counts is this message to this actor
    this-one : (x : ℕ × SysMsg) → (here same : Bool) → (x.0 == to) ≡ here → is_message m x.1 ≡ same
        → 1 ≤ (if here then (if same then 1 else 0) else 0) → x ≡ (to, m)
    this-one x true true at is some = λ i. (eqb-true x.0 to at i, sym (is-message-true m x.1 is) i)
    this-one x true false at is some = absurd (omega (arith, some))
    this-one x false same at is some = absurd (omega (arith, some))

    is-this : (x : ℕ × SysMsg) → 1 ≤ measure_to to count x → x ≡ (to, m)
    is-this x some = this-one x (x.0 == to) (is_message m x.1) refl refl some

    some-here : (x : ℕ × SysMsg) (xs : List (ℕ × SysMsg)) → (1 ≤ sum xs → Contains xs (to, m)) → 1 ≤ sum (x ∷ xs) → (n : ℕ) → measure_to to count x ≡ n
        → Contains (x ∷ xs) (to, m)
    some-here x xs rest some zero is = let later = rest (omega (arith, some, is)) in (suc later.0, (let lt = later.1 in omega (arith, lt)), later.2)
    some-here x xs rest some (suc n) is = (0, omega arith, is-this x (omega (arith, is)))

    -- where these count, the message is among them
    contains : (xs : List (ℕ × SysMsg)) → 1 ≤ sum xs → Contains xs (to, m)
    contains [] some = absurd (omega (arith, some))
    contains (x ∷ xs) some = some-here x xs (contains xs) some (measure_to to count x) refl

    ordered : (orders : List (List Order)) → 1 ≤ sum (flat_map terminates_of orders) → IsOrdered orders (to, m)
    ordered [] some = absurd (omega (arith, some))
    ordered (of ∷ orders) some = by_first (ordered orders) (sum (terminates_of of)) refl
      where
        both : sum (flat_map terminates_of (of ∷ orders)) ≡ sum (terminates_of of) + sum (flat_map terminates_of orders)
        both = total_append (measure_to to count) (terminates_of of) (flat_map terminates_of orders)

        by_first : (1 ≤ sum (flat_map terminates_of orders) → IsOrdered orders (to, m)) → (n : ℕ) → sum (terminates_of of) ≡ n
            → IsOrdered (of ∷ orders) (to, m)
        by_first later zero none =
            let all = both in let rest = later (omega (arith, some, all, none)) in (suc rest.0, rest.1, rest.2, rest.3)
        by_first later (suc n) is = (0, of, refl, contains (terminates_of of) (omega (arith, is)))

    -- one of these actors has to send it
    abbrev IsDueBy : List Identity → List ActorReport → Type 0
    IsDueBy whos reports = (id : ℕ) × (who : Identity) × (a : ActorReport) × (slice_get whos id ≡ Some who) × (slice_get reports id ≡ Some a)
        × Contains (due_in who a.journal.entries) (to, m)

    due : (whos : List Identity) (reports : List ActorReport) → 1 ≤ sum (due_by whos reports) → IsDueBy whos reports
    due [] reports some = absurd (omega (arith, some))
    due (who ∷ whos) [] some = absurd (omega (arith, some))
    due (who ∷ whos) (a ∷ reports) some = by_first (due whos reports) (sum (due_in who a.journal.entries)) refl
      where
        both : sum (due_by (who ∷ whos) (a ∷ reports)) ≡ sum (due_in who a.journal.entries) + sum (due_by whos reports)
        both = total_append (measure_to to count) (due_in who a.journal.entries) (due_by whos reports)

        by_first : (1 ≤ sum (due_by whos reports) → IsDueBy whos reports) → (n : ℕ) → sum (due_in who a.journal.entries) ≡ n
            → IsDueBy (who ∷ whos) (a ∷ reports)
        by_first later zero none =
            let all = both in let rest = later (omega (arith, some, all, none)) in
            (suc rest.0, rest.1, rest.2, rest.3, rest.4, rest.5)
        by_first later (suc n) is = (0, who, a, refl, refl, contains (due_in who a.journal.entries) (omega (arith, is)))

    asked : (plan : Plan) (orders : List (List Order)) (report : Report) → 1 ≤ sum (asked_for plan orders report)
        → IsAskedFor plan orders report (to, m)
    asked plan orders report some = by_create (measure_to to count (0, Create)) refl
      where
        by_order : 1 ≤ sum (flat_map terminates_of orders ++ due_by (actors_in plan) report.actors.items) → (n : ℕ)
            → sum (flat_map terminates_of orders) ≡ n → IsOrdered orders (to, m) ⊎ IsDue plan report (to, m)
        by_order more zero none =
            let both = total_append (measure_to to count) (flat_map terminates_of orders) (due_by (actors_in plan) report.actors.items) in
            inr (due (actors_in plan) report.actors.items (omega (arith, more, both, none)))
        by_order more (suc n) is = inl (ordered orders (omega (arith, is)))

        by_create : (n : ℕ) → measure_to to count (0, Create) ≡ n → IsAskedFor plan orders report (to, m)
        by_create zero none = inr (by_order (omega (arith, some, none)) (sum (flat_map terminates_of orders)) refl)
        by_create (suc n) is =
            let same = is-this (0, Create) (omega (arith, is)) in
            inl (ap (λ (x : ℕ × SysMsg). x.0) (sym same), ap (λ (x : ℕ × SysMsg). x.1) (sym same))

-- ---- the law

module _ (plan : Plan) (orders : List (List Order)) (report : Report) (who : Identity) (a : ActorReport)
    (only : GetsAskedFor (asked_for plan orders report) who a) where
  -- a message to this actor, which was put into its list
  abbrev IsRight : ℕ → ℕ × SysMsg → Type 0
  IsRight to m = IsNotice m.1 ⊎ IsAskedFor plan orders report (to, m.1)

  one-asked : (m : ℕ × SysMsg) → IsAmong m (numbered 0 only.counts.pushed) → IsNotice m.1 ⊎ (is_message m.1 m.1 ≡ true) → IsRight who.this.0 m
  one-asked m among (inl notice) = inl notice
  one-asked m among (inr is) =
      let one = counted m.1 m.0 only.counts.pushed is among in let most = only.at_most (count m.1) (silent m.1) in
      inr (asked m.1 who.this.0 plan orders report (omega (arith, one, most)))

  each-asked : (ms : List (ℕ × SysMsg)) → Each (λ m. IsAmong m (numbered 0 only.counts.pushed)) ms → Each (IsRight who.this.0) ms
  each-asked [] each = tt
  each-asked (m ∷ ms) each = (one-asked m each.0 (itself m.1), each-asked ms each.1)

module _ (after : ℕ → List Message → ℤ) (gives : ℕ → Moment → Reply → Type 0) (plan : Plan) (orders : List (List Order)) (report : Report) where
  pub each-is-asked-for : IsReportOfRun after gives plan orders report → EachIsAskedFor plan orders report
  each-is-asked-for story id a here =
      let named = length-mapped (λ (e : DirectoryEntry). e.who) story.directory in let planned = ap length story.planned.who in
      let many = story.whole.same_count.0 in let lt = within report.actors.items id a here in
      let who = there (actors_in plan) id (omega (arith, named, planned, many, lt)) in let only = story.asked id who.0 a who.1 here in
      subst (λ n. Each (λ (m : ℕ × SysMsg). IsNotice m.1 ⊎ IsAskedFor plan orders report (n, m.1)) (system_entries a.journal.entries))
      (number-at plan id who.0 who.1) (each-asked plan orders report who.0 a only (system_entries a.journal.entries) only.counts.entered)
