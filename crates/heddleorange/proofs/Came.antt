-- What was put into the list of an actor that has not ended is what came to it, and each message that is asked for to it is among that.
use Rattle.std.proofs.Common.{◌≡◌, ◌≤◌, ◌<◌, ◌+◌, ◌%◌, ◌^◌, ◌==◌, ◌⊎◌, inl, inr, ℕ, zero, suc, Bool, true, false, if◌then◌else◌, List, [], ◌∷◌, ◌++◌, Some, ap, append_assoc, arith, length, length-append, refl, subst, sym, ◌∙◌}
use Rattle.std.specs.Prelude.{Contains, slice_get, slice_index_or}
use Rattle.std.specs.List.{flat_map}
use Rattle.std.proofs.lemmas.Bool.{eq-eqb, eqb-true}
use Rattle.std.proofs.lemmas.List.{append-nil}
use Rattle.std.proofs.lemmas.List.Elements.{Contains-push_cases}
use Rattle.std.proofs.lemmas.Option.{none-some, same_Some}
use Rattle.mb_build.specs.Planned.{actors_in}
use Rattle.mb_dispatch.specs.Orders.{terminates_of}
use Rattle.mb_gate.proofs.OneNumber.{among_none, first_or_rest}
use Rattle.mb_gate.specs.Rule.{IsAmong}
use Rattle.mb_ghost.proofs.SummedLemmas.{total_append}
use Rattle.mb_ghost.specs.Seen.{Each}
use Rattle.mb_ghost.specs.Summed.{total}
use Rattle.mb_home.specs.AtHome.{system_entries}
use Rattle.mb_journal.specs.Aside.{next_number}
use Rattle.mb_journal.specs.Entry.{Entry}
use Rattle.mb_journal.specs.Entry.Entry.{Dropped, Handled, System}
use Rattle.mb_journal.specs.Identity.{Identity}
use Rattle.mb_journal.specs.Life.{closed}
use Rattle.mb_msg.specs.declared.order.Order.{Order}
use Rattle.mb_msg.specs.declared.plan.Plan.{Plan}
use Rattle.mb_msg.specs.declared.system.SysMsg.{SysMsg}
use Rattle.mb_msg.specs.declared.system.SysMsg.TheVariants.{Create}
use Rattle.mb_report.specs.declared.report.ActorReport.{ActorReport}
use Rattle.mb_report.specs.declared.report.Report.{Report}
use Rattle.mb_shutdown.proofs.Lists.{within}
use Rattle.mb_syslist.specs.MessageList.{numbered}
use Rattle.heddleorange.specs.Arrived.{came, entered}
use Rattle.heddleorange.specs.Asked.{GetsAskedFor, IsAskedFor, asked_for, due_by, due_in, measure_to}
use Rattle.heddleorange.proofs.OneMessage.{is-this-same, is-this-true, is_this}

-- ---- lists

module _ {X : Type 0} where
  -- what stands behind these is the first of the rest
  behind : (xs rest : List X) (x : X) → slice_get (xs ++ rest) (length xs) ≡ Some x → (more : List X) × (rest ≡ x ∷ more)
  behind [] [] x is = absurd (none-some x is)
  behind [] (y ∷ more) x is = (more, ap (λ z. z ∷ more) (same_Some y x is))
  behind (z ∷ xs) rest x is = behind xs rest x is

  no-more : (xs : List X) → length xs ≡ 0 → xs ≡ []
  no-more [] none = refl
  no-more (x ∷ xs) none = absurd (omega (arith, none))

  pub further : (y : X) (xs : List X) (x : X) → Contains xs x → Contains (y ∷ xs) x
  further y xs x is = (suc is.0, (let lt = is.1 in omega (arith, lt)), is.2)

  pub first_or_further : (y : X) (xs : List X) (x : X) → Contains (y ∷ xs) x → (y ≡ x) ⊎ Contains xs x
  first_or_further y xs x is = by_place is.0 is.1 is.2
    where
      by_place : (n : ℕ) → n < length (y ∷ xs) → slice_index_or (y ∷ xs) n x ≡ x → (y ≡ x) ⊎ Contains xs x
      by_place zero lt same = inl same
      by_place (suc n) lt same = inr (n, omega (arith, lt), same)

-- ---- what came to an actor that has not ended

-- what has a number stands at the place that the number says
stands : (number : ℕ) (pushed : List SysMsg) (n : ℕ) (m : SysMsg) → number + length pushed ≤ 2 ^ 64 → IsAmong (n, m) (numbered number pushed)
    → (place : ℕ) × (n ≡ number + place) × (slice_get pushed place ≡ Some m)
stands number [] n m fits among = absurd (among_none (n, m) among)
stands number (x ∷ pushed) n m fits among =
    by_first (stands ((number + 1) % 2 ^ 64) pushed n m (omega (arith, fits)))
    (first_or_rest (n, m) (number, x) (numbered ((number + 1) % 2 ^ 64) pushed) among)
  where
    by_first : (IsAmong (n, m) (numbered ((number + 1) % 2 ^ 64) pushed)
        → (place : ℕ) × (n ≡ (number + 1) % 2 ^ 64 + place) × (slice_get pushed place ≡ Some m))
        → ◌≡◌ {A = ℕ × SysMsg} (number, x) (n, m) ⊎ IsAmong (n, m) (numbered ((number + 1) % 2 ^ 64) pushed)
        → (place : ℕ) × (n ≡ number + place) × (slice_get (x ∷ pushed) place ≡ Some m)
    by_first rest (inl same) =
        let number_is = ap (λ (z : ℕ × SysMsg). z.0) same in (0, omega (arith, number_is), ap (λ (z : ℕ × SysMsg). Some z.1) same)
    by_first rest (inr more) =
        let at = rest more in let number_is = at.1 in let lt = within pushed at.0 m at.2 in
        (suc at.0, omega (arith, number_is, lt, fits), at.2)

module _ (pushed : List SysMsg) (few : length pushed < 2 ^ 64) where
  abbrev IsPut : ℕ × SysMsg → Type 0
  IsPut m = IsAmong m (numbered 0 pushed)

  -- What was put into the list begins with what came, which has all numbers below the next.
  pub record BeginsWith (sofar : List SysMsg) (next : ℕ) : Type 0 where
    pub rest : List SysMsg
    pub joined : pushed ≡ sofar ++ rest
    pub many : length sofar ≡ next

  nothing-yet : BeginsWith [] 0
  nothing-yet = record { rest = pushed; joined = refl; many = refl }

  one-more : (sofar : List SysMsg) (next number : ℕ) (m : SysMsg) → BeginsWith sofar next → IsPut (number, m)
      → BeginsWith (if number == next then sofar ++ m ∷ [] else sofar) (if number == next then number + 1 else next)
  one-more sofar next number m begins put = by_number (number == next) refl
    where
      by_number : (b : Bool) → (number == next) ≡ b
          → BeginsWith (if b then sofar ++ m ∷ [] else sofar) (if b then number + 1 else next)
      by_number false other = begins
      by_number true same =
          let new = eqb-true number next same in let at = stands 0 pushed number m (omega (arith, few)) put in let number_is = at.1 in
          let many = begins.many in
          let place : at.0 ≡ length sofar = omega (arith, new, number_is, many) in
          let here : slice_get (sofar ++ begins.rest) (length sofar) ≡ Some m =
          (λ i. slice_get (sym begins.joined i) (sym place i)) ∙ at.2 in
          let next_one = behind sofar begins.rest m here in
          let long = length-append sofar (m ∷ []) in record {
            rest = next_one.0;
            joined = begins.joined ∙ ap (λ l. sofar ++ l) next_one.1 ∙ sym (append_assoc sofar (m ∷ []) next_one.0);
            many = omega (arith, new, many, long);
          }

  pub begins-with : (journal : List Entry) → Each IsPut (system_entries journal) → BeginsWith (came journal) (next_number journal)
  unfolding next_number
  begins-with [] each = nothing-yet
  begins-with (Handled envelope reading outcome ∷ before) each = begins-with before each
  begins-with (Dropped envelope ∷ before) each = begins-with before each
  begins-with (System number m outcome ∷ before) each =
      one-more (came before) (next_number before) number m (begins-with before each.1) each.0

  -- where as many came as were put into the list, these came
  pub all-came : (journal : List Entry) → Each IsPut (system_entries journal) → length pushed % 2 ^ 64 ≡ next_number journal % 2 ^ 64 → came journal ≡ pushed
  all-came journal each all =
      let begins = begins-with journal each in let many = begins.many in
      let long = ap length begins.joined ∙ length-append (came journal) begins.rest in
      let none = no-more begins.rest (omega (arith, few, many, long, all)) in
      sym (begins.joined ∙ ap (λ l. came journal ++ l) none ∙ append-nil (came journal))

-- what was put into the list of an actor that has not ended is what came to it
pub came-is : (asked : List (ℕ × SysMsg)) (who : Identity) (a : ActorReport) (gets : GetsAskedFor asked who a) → closed who a.journal.entries ≡ false
    → came a.journal.entries ≡ gets.counts.pushed
came-is asked who a gets alive =
    let counts = gets.counts in let all = counts.all in let none = counts.open_has_none alive in
    all-came counts.pushed counts.few a.journal.entries counts.entered (omega (arith, all, none))

-- what came has an entry
pub came-entered : (journal : List Entry) (m : SysMsg) → Contains (came journal) m → Contains (entered journal) m
came-entered [] m is = is
came-entered (Handled envelope reading outcome ∷ before) m is = came-entered before m is
came-entered (Dropped envelope ∷ before) m is = came-entered before m is
came-entered (System number n outcome ∷ before) m is = by_number (number == next_number before) (came-entered before m) is
  where
    by_number : (b : Bool) → (Contains (came before) m → Contains (entered before) m)
        → Contains (if b then came before ++ n ∷ [] else came before) m → Contains (n ∷ entered before) m
    by_number false rest is = further n (entered before) m (rest is)
    by_number true rest is = by_last (Contains-push_cases (came before) n m is)
      where
        by_last : Contains (came before) m ⊎ (n ≡ m) → Contains (n ∷ entered before) m
        by_last (inl is) = further n (entered before) m (rest is)
        by_last (inr same) = (0, omega arith, same)

-- ---- a message that is asked for counts

module _ (m : SysMsg) where
  -- 1 for this message, else 0
  abbrev pub count : SysMsg → ℕ
  count n = if is_this m n then 1 else 0

  -- where it counts, it is there
  pub counted : (xs : List SysMsg) → 1 ≤ total count xs → Contains xs m
  counted [] some = absurd (omega (arith, some))
  counted (x ∷ xs) some = by_test (counted xs) (is_this m x) refl some
    where
      by_test : (1 ≤ total count xs → Contains xs m) → (b : Bool) → is_this m x ≡ b → 1 ≤ (if b then 1 else 0) + total count xs → Contains (x ∷ xs) m
      by_test rest true same some = (0, omega arith, sym (is-this-true m x same))
      by_test rest false other some = further x xs m (rest (omega (arith, some)))

  module _ (to : ℕ) where
    abbrev sum : List (ℕ × SysMsg) → ℕ
    sum = λ xs. total (measure_to to count) xs

    itself : measure_to to count (to, m) ≡ 1
    itself = λ i. if eq-eqb to to refl i then (if is-this-same m i then 1 else 0) else 0

    counts : (xs : List (ℕ × SysMsg)) → Contains xs (to, m) → 1 ≤ sum xs
    counts [] is = absurd (let lt = is.1 in omega (arith, lt))
    counts (x ∷ xs) is = by_first (counts xs) (first_or_further x xs (to, m) is)
      where
        by_first : (Contains xs (to, m) → 1 ≤ sum xs) → (x ≡ (to, m)) ⊎ Contains xs (to, m) → 1 ≤ sum (x ∷ xs)
        by_first rest (inl same) = let one = ap (measure_to to count) same ∙ itself in omega (arith, one)
        by_first rest (inr more) = let some = rest more in omega (arith, some)

    ordered : (orders : List (List Order)) (place : ℕ) (of : List Order) → slice_get orders place ≡ Some of → Contains (terminates_of of) (to, m)
        → 1 ≤ sum (flat_map terminates_of orders)
    ordered [] place of at is = absurd (none-some of at)
    ordered (first ∷ orders) zero of at is =
        let some = counts (terminates_of first) (subst (λ l. Contains (terminates_of l) (to, m)) (sym (same_Some first of at)) is) in
        let both = total_append (measure_to to count) (terminates_of first) (flat_map terminates_of orders) in omega (arith, some, both)
    ordered (first ∷ orders) (suc place) of at is =
        let some = ordered orders place of at is in
        let both = total_append (measure_to to count) (terminates_of first) (flat_map terminates_of orders) in omega (arith, some, both)

    due : (whos : List Identity) (reports : List ActorReport) (id : ℕ) (who : Identity) (a : ActorReport) → slice_get whos id ≡ Some who
        → slice_get reports id ≡ Some a → Contains (due_in who a.journal.entries) (to, m) → 1 ≤ sum (due_by whos reports)
    due [] reports id who a at here is = absurd (none-some who at)
    due (w ∷ whos) [] id who a at here is = absurd (none-some a here)
    due (w ∷ whos) (r ∷ reports) zero who a at here is =
        let some = counts (due_in w r.journal.entries)
        (subst (λ (p : Identity × ActorReport). Contains (due_in p.0 p.1.journal.entries) (to, m))
        (λ i. (sym (same_Some w who at) i, sym (same_Some r a here) i)) is) in
        let both = total_append (measure_to to count) (due_in w r.journal.entries) (due_by whos reports) in omega (arith, some, both)
    due (w ∷ whos) (r ∷ reports) (suc id) who a at here is =
        let some = due whos reports id who a at here is in
        let both = total_append (measure_to to count) (due_in w r.journal.entries) (due_by whos reports) in omega (arith, some, both)

    pub asked : (plan : Plan) (orders : List (List Order)) (report : Report) → IsAskedFor plan orders report (to, m)
        → 1 ≤ sum (asked_for plan orders report)
    asked plan orders report (inl create) =
        let one : measure_to to count (0, Create) ≡ 1 =
        (λ i. measure_to to count (sym create.0 i, sym create.1 i)) ∙ itself in omega (arith, one)
    asked plan orders report (inr (inl is)) =
        let some = ordered orders is.0 is.1 is.2 is.3 in
        let both = total_append (measure_to to count) (flat_map terminates_of orders) (due_by (actors_in plan) report.actors.items) in
        omega (arith, some, both)
    asked plan orders report (inr (inr is)) =
        let some = due (actors_in plan) report.actors.items is.0 is.1 is.2 is.3 is.4 is.5 in
        let both = total_append (measure_to to count) (flat_map terminates_of orders) (due_by (actors_in plan) report.actors.items) in
        omega (arith, some, both)
