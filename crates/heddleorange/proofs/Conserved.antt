-- A run conserves what its actors conserve.
use Rattle.std.proofs.Common.{◌≡◌, ℕ, suc, ◌+◌, ℤ, pos, ◌+ℤ◌, false, List, [], ◌∷◌, ◌++◌, length, map, refl, sym, ap, ◌∙◌, subst, arith}
use Rattle.std.specs.Prelude.{Err, IfOk, Ok, OnOk, Option, Some, None, Result, slice_get}
use Rattle.std.specs.List.{flat_map}
use Rattle.std.proofs.lemmas.Int.{ints}
use Rattle.std.proofs.lemmas.List.Sums.{sum_by-append}
use Rattle.std.proofs.lemmas.Option.{same_Some}
use Rattle.mb_actor.specs.Behaviour.{Moment, Reply}
use Rattle.mb_actor.specs.declared.message.Message.{Message}
use Rattle.mb_actor.specs.declared.message.Message.TheVariants.{Terminated}
use Rattle.mb_build.specs.Planned.{actors_in}
use Rattle.mb_journal.specs.Entry.{Entry}
use Rattle.mb_journal.specs.Fates.{begun}
use Rattle.mb_journal.specs.Identity.{Identity, is_guardian}
use Rattle.mb_journal.specs.Incarnation.{messages}
use Rattle.mb_journal.specs.Lawful.{AreLawful}
use Rattle.mb_journal.specs.Tells.{told, tells_of_journal}
use Rattle.mb_msg.specs.Limits.{most_actors}
use Rattle.mb_msg.specs.declared.envelope.Envelope.{Envelope}
use Rattle.mb_msg.specs.declared.id.ActorId.{ActorId}
use Rattle.mb_msg.specs.declared.order.Order.{Order}
use Rattle.mb_msg.specs.declared.plan.Plan.{Plan}
use Rattle.mb_quantity.proofs.Sums.{sum-append}
use Rattle.mb_quantity.specs.Quantity.{AllConserve, Conserves, Holding, sum_of}
use Rattle.mb_report.specs.declared.report.ActorReport.{ActorReport}
use Rattle.mb_report.specs.declared.report.Report.{Report}
use Rattle.heddleorange.specs.declared.named_report.NamedReport.{NamedReport}
use Rattle.heddleorange.proofs.FromStory.{states as states-of}
use Rattle.heddleorange.proofs.Held.{guardian-evenly, holds-what-it-took, told-evenly}
use Rattle.heddleorange.proofs.Identified.{actor-at}
use Rattle.heddleorange.proofs.Ledger.{adds-up, lawful-at, line-count, whos}
use Rattle.heddleorange.proofs.Worth.{given, in-two, taken, worth-told}
use Rattle.heddleorange.specs.Conservation.{HaveBookedAll, IsConserved, body_worth, held_at_first, holders, not_booked, taken_by_others, worth_of}
use Rattle.heddleorange.specs.Ledger.{AddsUp, all_begun, all_cleaned, all_left, all_refused, all_sent, ordered_from, told_by}
use Rattle.heddleorange.specs.NoReport.{IsRight}
use Rattle.heddleorange.specs.Reading.{entries_in, entries_of, journal_of, state_in, state_of}
use Rattle.heddleorange.specs.States.{ShowsStates}
use Rattle.heddleorange.specs.ReportsRun.{ReportsRun}
use Rattle.heddleorange.specs.WholeRun.{IsReportOfRun, after_at, gives_at, gives_of}

split : {X : Type 0} (xs : List X) (n : ℕ) → length xs ≡ n + 1 → (x : X) × (rest : List X) × (xs ≡ x ∷ rest)
split [] n many = absurd (omega (arith, many))
split (x ∷ rest) n many = (x, rest, refl)

none-first : {X : Type 0} (xs ys : List X) → xs ++ ys ≡ [] → xs ≡ []
none-first [] ys none = refl
none-first (x ∷ xs) ys none = absurd (cc none)

module _ (worth : Message → ℤ) where
  -- the ledger, of what envelopes are worth
  worth-adds-up : (plan : Plan) (orders : List (List Order)) (report : Report) → AddsUp plan orders report
      → worth_of worth (told_by (actors_in plan) report.actors.items) +ℤ worth_of worth (ordered_from most_actors orders)
      ≡ worth_of worth (all_begun report) +ℤ worth_of worth (all_cleaned report) +ℤ worth_of worth (all_left report) +ℤ worth_of worth (all_refused report)
  worth-adds-up plan orders report adds =
      let sent = told_by (actors_in plan) report.actors.items in let ordered = ordered_from most_actors orders in
      let up = adds (λ e. given worth e) in let down = adds (λ e. taken worth e) in
      let ups = sum_by-append (λ e. given worth e) sent ordered in let downs = sum_by-append (λ e. taken worth e) sent ordered in
      let a = in-two worth sent in let b = in-two worth ordered in let c = in-two worth (all_begun report) in
      let d = in-two worth (all_cleaned report) in let e = in-two worth (all_left report) in let f = in-two worth (all_refused report) in
      omega (arith, ints, up, down, ups, downs, a, b, c, d, e, f)

  pub all-worth-adds-up : (plan : Plan) (orders : List (List Order)) (report : Report) → AddsUp plan orders report
      → worth_of worth (all_sent plan orders report)
      ≡ worth_of worth (all_begun report) +ℤ worth_of worth (all_cleaned report) +ℤ worth_of worth (all_left report) +ℤ worth_of worth (all_refused report)
  all-worth-adds-up plan orders report adds =
      sum-append (λ (e : Envelope). body_worth worth e.body) (told_by (actors_in plan) report.actors.items) (ordered_from most_actors orders)
      ∙ worth-adds-up plan orders report adds

  worth-of-none : (report : Report) (holdings : List (Option Holding)) → worth_of worth (not_booked report holdings)
      ≡ worth_of worth (taken_by_others report 1 holdings) +ℤ worth_of worth (all_cleaned report) +ℤ worth_of worth (all_left report)
      +ℤ worth_of worth (all_refused report)
  worth-of-none report holdings =
      let others = taken_by_others report 1 holdings in let value = λ (e : Envelope). body_worth worth e.body in
      let a = sum-append value (others ++ all_cleaned report ++ all_left report) (all_refused report) in
      let b = sum-append value (others ++ all_cleaned report) (all_left report) in
      let c = sum-append value others (all_cleaned report) in omega (arith, ints, a, b, c)

module _ {A : Type 0} (after : A → List Message → ℤ) (gives : A → Moment → Reply → Type 0) (worth : Message → ℤ)
    (notice : (x : ActorId) → worth (Terminated x) ≡ pos 0) (report : Report) where
  -- what is known of the line of an actor
  abbrev IsRow : A → Identity → ActorReport → Type 0
  IsRow actor who line = AreLawful who (gives actor) line.journal.entries × (is_guardian who ≡ false)
      × (line.state ≡ Some (after actor (messages who line.journal.entries)))

  abbrev AreRows : List A → List Identity → List ActorReport → Type 0
  AreRows actors whos lines = (k : ℕ) (actor : A) (who : Identity) (line : ActorReport) → slice_get actors k ≡ Some actor → slice_get whos k ≡ Some who
      → slice_get lines k ≡ Some line → IsRow actor who line

  abbrev taken_in : List ActorReport → List Envelope
  taken_in lines = flat_map (λ (a : ActorReport). begun a.journal.entries) lines

  abbrev Adds : ℕ → List (Option Holding) → List Identity → List ActorReport → Type 0
  Adds number holdings whos lines = (held : List ℤ) × (map (λ id. state_in report id) (holders number holdings) ≡ map Some held)
      × (sum_of (λ n. n) held +ℤ worth_of worth (taken_by_others report number holdings) +ℤ worth_of worth (told_by whos lines)
      ≡ held_at_first holdings +ℤ worth_of worth (taken_in lines))

  one-more : (number : ℕ) (holding : Option Holding) (holdings : List (Option Holding)) (actor : A) (who : Identity) (whos : List Identity)
      (line : ActorReport) (lines : List ActorReport) → Conserves worth holding (after actor) (gives actor)
      → slice_get report.actors.items number ≡ Some line → IsRow actor who line → HaveBookedAll report number (holding ∷ holdings)
      → (HaveBookedAll report (suc number) holdings → Adds (suc number) holdings whos lines)
      → Adds number (holding ∷ holdings) (who ∷ whos) (line ∷ lines)
  one-more number None holdings actor who whos line lines conserves at row booked next =
      let rest = next booked in let value = λ (e : Envelope). body_worth worth e.body in let entries = line.journal.entries in
      let sent = worth-told worth who.this.0 0 (tells_of_journal who entries) ∙ told-evenly worth notice who (gives actor) conserves entries row.0 in
      let told_all = sum-append value (told who entries) (told_by whos lines) in
      let took_all = sum-append value (begun entries) (taken_in lines) in
      let here = ap (λ o. worth_of worth (begun (entries_of (journal_of o)))) at in
      let others = sum-append value (begun (entries_in report number)) (taken_by_others report (suc number) holdings) in
      let sums = rest.2 in (rest.0, rest.1, omega (arith, ints, sums, sent, told_all, took_all, here, others))
  one-more number (Some holding) holdings actor who whos line lines conserves at row booked next =
      let rest = next booked.1 in let value = λ (e : Envelope). body_worth worth e.body in let entries = line.journal.entries in
      let all = booked.0 line at in
      let shown = ap state_of at ∙ row.2 ∙ ap (λ (f : List Message → ℤ). Some (f (messages who entries))) conserves.0 in
      let life = holds-what-it-took worth notice who (gives actor) holding conserves.1 row.1 entries row.0 all.0 all.1 in
      let sent = worth-told worth who.this.0 0 (tells_of_journal who entries) in
      let told_all = sum-append value (told who entries) (told_by whos lines) in
      let took_all = sum-append value (begun entries) (taken_in lines) in
      let sums = rest.2 in (
        holding.held (messages who entries) ∷ rest.0,
        (λ i. shown i ∷ rest.1 i),
        omega (arith, ints, sums, life, sent, told_all, took_all),
      )

  all-rows : (number : ℕ) (holdings : List (Option Holding)) (actors : List A) (whos : List Identity) (lines : List ActorReport)
      → AllConserve after gives worth holdings actors → length whos ≡ length actors → length lines ≡ length actors
      → ((k : ℕ) → slice_get report.actors.items (number + k) ≡ slice_get lines k) → AreRows actors whos lines
      → HaveBookedAll report number holdings → Adds number holdings whos lines
  all-rows number [] (a ∷ actors) whos lines conserve many count at rows booked = absurd conserve
  all-rows number (h ∷ holdings) [] whos lines conserve many count at rows booked = absurd conserve
  all-rows number [] [] (w ∷ whos) lines conserve many count at rows booked = absurd (omega (arith, many))
  all-rows number [] [] [] (l ∷ lines) conserve many count at rows booked = absurd (omega (arith, count))
  all-rows number [] [] [] [] conserve many count at rows booked = ([], refl, refl)
  all-rows number (h ∷ holdings) (a ∷ actors) [] lines conserve many count at rows booked = absurd (omega (arith, many))
  all-rows number (h ∷ holdings) (a ∷ actors) (w ∷ whos) [] conserve many count at rows booked = absurd (omega (arith, count))
  all-rows number (h ∷ holdings) (a ∷ actors) (w ∷ whos) (l ∷ lines) conserve many count at rows booked =
      one-more number h holdings a w whos l lines conserve.0
      (ap (slice_get report.actors.items) (let e : number ≡ number + 0 = omega arith in e) ∙ at 0)
      (rows 0 a w l refl refl refl) booked
      (λ more. all-rows (suc number) holdings actors whos lines conserve.1 (omega (arith, many)) (omega (arith, count))
      (λ k. (ap (slice_get report.actors.items) (let e : suc number + k ≡ number + suc k = omega arith in e) ∙ at (suc k)))
      (λ k x y z one two three. rows (suc k) x y z one two three) more)

  module _ (actors : List A) (plan : Plan) (orders : List (List Order)) (right : IsRight plan (length actors) orders)
      (story : IsReportOfRun (after_at actors after) (gives_at actors gives) plan orders report) where
    abbrev F : ℕ → List Message → ℤ
    F = after_at actors after

    abbrev G : ℕ → Moment → Reply → Type 0
    G = gives_at actors gives

    states : ShowsStates after actors plan report
    states = states-of actors after G plan orders report right story

    row : (k : ℕ) (actor : A) (who : Identity) (line : ActorReport) → slice_get actors k ≡ Some actor → slice_get (actors_in plan) (suc k) ≡ Some who
        → slice_get report.actors.items (suc k) ≡ Some line → IsRow actor who line
    row k actor who line handed is at =
        let shown = states k actor handed in
        let entries : entries_in report (suc k) ≡ line.journal.entries = ap (λ o. entries_of (journal_of o)) at in (
          subst (λ (o : Option A). AreLawful who (λ moment reply. gives_of gives o moment reply) line.journal.entries) handed
              (lawful-at F G plan (length actors) orders report right story (suc k) who line is at).0,
          (actor-at plan k who is).1,
          sym (ap state_of at) ∙ shown.2
              ∙ ap (λ (w : Identity). Some (after actor (messages w (entries_in report (suc k))))) (same_Some shown.0 who (sym shown.1 ∙ is))
              ∙ ap (λ (j : List Entry). Some (after actor (messages who j))) entries,
        )

    pub conserved : (holdings : List (Option Holding)) → AllConserve after gives worth holdings actors → IsConserved worth holdings orders report
    conserved holdings conserve booked =
        let n = length actors in
        let lines = split report.actors.items n (line-count F G plan n orders report right story) in
        let people = split (actors_in plan) n (whos F G plan n orders report right story) in
        let line = lines.0 in let who = people.0 in let value = λ (e : Envelope). body_worth worth e.body in
        let at : slice_get report.actors.items 0 ≡ Some line = ap (λ l. slice_get l 0) lines.2 in
        let is : slice_get (actors_in plan) 0 ≡ Some who = ap (λ l. slice_get l 0) people.2 in
        let lawful = (lawful-at F G plan n orders report right story 0 who line is at).0 in
        let count = ap length lines.2 in let many = ap length people.2 in
        let line_many = line-count F G plan n orders report right story in let who_many = whos F G plan n orders report right story in
        let rest = all-rows 1 holdings actors people.1 lines.1 conserve (omega (arith, many, who_many)) (omega (arith, count, line_many))
        (λ k. (ap (slice_get report.actors.items) (let e : 1 + k ≡ suc k = omega arith in e) ∙ ap (λ l. slice_get l (suc k)) lines.2))
        (λ k a w l handed x y. row k a w l handed (ap (λ l. slice_get l (suc k)) people.2 ∙ x) (ap (λ l. slice_get l (suc k)) lines.2 ∙ y)) booked in
        let ledger = worth-adds-up worth plan orders report (adds-up F G plan n orders report right story) in
        let sent = worth-told worth who.this.0 0 (tells_of_journal who line.journal.entries)
        ∙ guardian-evenly worth notice who (G 0) (ap is_guardian (sym (same_Some _ who is))) line.journal.entries lawful in
        let told_all = (λ i. worth_of worth (told_by (people.2 i) (lines.2 i)))
        ∙ sum-append value (told who line.journal.entries) (told_by people.1 lines.1) in
        let took_all = ap (λ l. worth_of worth (taken_in l)) lines.2 ∙ sum-append value (begun line.journal.entries) (taken_in lines.1) in
        let took = ap (worth_of worth) (none-first (begun line.journal.entries) line.cleaned.items
        (none-first (begun line.journal.entries ++ line.cleaned.items) line.left.items (story.whole.nobody line at))) in
        let none = worth-of-none worth report holdings in let sums = rest.2 in
        (rest.0, rest.1, omega (arith, ints, sums, ledger, sent, told_all, took_all, took, none))

-- and so of a call that gives the report
pub conserved-of : {A E : Type 0} (after : A → List Message → ℤ) (gives : A → Moment → Reply → Type 0) (worth : Message → ℤ)
    (holdings : List (Option Holding)) (actors : List A) (plan : Plan) (orders : List (List Order)) (result : Result Report E)
    → ((x : ActorId) → worth (Terminated x) ≡ pos 0) → AllConserve after gives worth holdings actors
    → IfOk result (IsReportOfRun (after_at actors after) (gives_at actors gives) plan orders) → OnOk result (IsRight plan (length actors) orders)
    → IfOk result (IsConserved worth holdings orders)
conserved-of after gives worth holdings actors plan orders (Ok report) notice conserve story right =
    conserved after gives worth notice report actors plan orders right story holdings conserve
conserved-of after gives worth holdings actors plan orders (Err error) notice conserve story right = story

-- and with the names of the actors
pub named-conserved-of : {A E : Type 0} (after : A → List Message → ℤ) (gives : A → Moment → Reply → Type 0) (worth : Message → ℤ)
    (holdings : List (Option Holding)) (actors : List A) (plan : Plan) (orders : List (List Order)) (result : Result NamedReport E)
    → ((x : ActorId) → worth (Terminated x) ≡ pos 0) → AllConserve after gives worth holdings actors
    → IfOk result (λ done. ReportsRun after gives plan actors orders done.report) → IfOk result (λ done. IsConserved worth holdings orders done.report)
named-conserved-of after gives worth holdings actors plan orders (Ok done) notice conserve told =
    conserved after gives worth notice done.report actors plan orders told.right told.story holdings conserve
named-conserved-of after gives worth holdings actors plan orders (Err error) notice conserve told = told
