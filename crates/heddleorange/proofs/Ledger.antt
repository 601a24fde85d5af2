-- The ledger of a run, from its story.
use Rattle.std.proofs.Common.{◌≡◌, ℕ, zero, suc, ◌+◌, ◌-◌, ◌<◌, ◌≤◌, ℤ, Bool, true, false, List, [], ◌∷◌, ◌++◌, length, refl, sym, ap, ◌∙◌, subst}
use Rattle.std.proofs.Common.{arith, Some, None, Option}
use Rattle.std.specs.Prelude.{All, if◌then◌else◌, nat_lt, slice_get, sum_by}
use Rattle.std.proofs.lemmas.Bool.Decides.{nat_tests}
use Rattle.std.proofs.lemmas.List.{length-map}
use Rattle.std.proofs.lemmas.List.Elements.{All-same, All-weaker}
use Rattle.std.proofs.lemmas.List.Sums.{sum_by-append}
use Rattle.std.proofs.lemmas.Option.{same_Some}
use Rattle.mb_actor.specs.Behaviour.{Moment, Reply}
use Rattle.mb_actor.specs.declared.message.Message.{Message}
use Rattle.mb_build.proofs.NewHomesLemmas.{length-who}
use Rattle.mb_build.specs.Planned.{actors_in}
use Rattle.mb_dispatch.specs.Orders.{addressed, envelopes_of as ordered_bodies}
use Rattle.mb_home.specs.Directory.{DirectoryEntry}
use Rattle.mb_journal.specs.Accepted.{NumbersCountUpFrom, accepted, dead_letters, envelopes_of, sent_by, to_actor}
use Rattle.mb_journal.specs.Fates.{begun}
use Rattle.mb_journal.specs.Identity.{Identity, is_guardian}
use Rattle.mb_journal.specs.Lawful.{AreLawful}
use Rattle.mb_journal.specs.Tells.{AddressedBody, told, tells_of_journal}
use Rattle.mb_journal.specs.declared.sent_envelope.SentEnvelope.{SentEnvelope}
use Rattle.mb_msg.specs.Limits.{most_actors}
use Rattle.mb_msg.specs.declared.envelope.Envelope.{Envelope}
use Rattle.mb_msg.specs.declared.order.Order.{Order}
use Rattle.mb_msg.specs.declared.plan.Plan.{Plan}
use Rattle.mb_report.specs.declared.report.ActorReport.{ActorReport}
use Rattle.mb_report.specs.declared.report.Report.{Report}
use Rattle.mb_report.specs.declared.report.SenderReport.{SenderReport}
use Rattle.mb_shutdown.proofs.Lists.{mapped-to, there, within}
use Rattle.mb_shutdown.specs.CompleteReport.{fates_in, sender_number}
use Rattle.heddleorange.specs.Ledger.{AddsUp, all_sent, numbered_from, ordered_from, told_by}
use Rattle.heddleorange.specs.NoReport.{IsRight}
use Rattle.heddleorange.specs.WholeRun.{IsReportOfRun}
use Rattle.heddleorange.proofs.Identified.{actor-at, as-planned}
use Rattle.heddleorange.proofs.Recipients.{Goes, dead-too, numbered-goes, of-place, orders-there, told-goes, told-there}
use Rattle.heddleorange.proofs.Sums.{in-parts, sum-flat, sum-plus, sum-same, total, total-list, total-plus, total-same, total-split, total-swap}
use Rattle.heddleorange.proofs.Sums.{weigh-the-same}

-- envelopes with these numbers are told apart by receiver and body alone
numbered-is : (by number : ℕ) (es : List Envelope) → NumbersCountUpFrom by number es → numbered_from by number (addressed es) ≡ es
numbered-is by number [] count = refl
numbered-is by number (e ∷ es) count =
    (λ i. record { by = record { 0 = sym count.0 i }; to = e.to; number = sym count.1 i; body = e.body } ∷ numbered_from by (number + 1) (addressed es))
    ∙ ap (λ l. e ∷ l) (numbered-is by (number + 1) es count.2)

-- the senders of different places have different numbers
apart : (actors : ℕ) → actors ≤ 64 → (p q : ℕ) → sender_number actors p ≡ sender_number actors q → p ≡ q
apart actors few p q same = by_test (nat_lt p actors) (nat_lt q actors) refl refl
    (ap (λ b. if b then p else 64 + (p - actors)) refl ∙ same)
  where
    by_test : (a b : Bool) → nat_lt p actors ≡ a → nat_lt q actors ≡ b
        → (if nat_lt p actors then p else 64 + (p - actors)) ≡ (if nat_lt q actors then q else 64 + (q - actors)) → p ≡ q
    by_test true true one other is = (λ i. if sym one i then p else 64 + (p - actors)) ∙ is ∙ (λ i. if other i then q else 64 + (q - actors))
    by_test true false one other is =
        let e = (λ i. if sym one i then p else 64 + (p - actors)) ∙ is ∙ (λ i. if other i then q else 64 + (q - actors)) in
        let lt : p < actors = grind (arith, nat_tests) in absurd (omega (arith, e, lt, few))
    by_test false true one other is =
        let e = (λ i. if sym one i then p else 64 + (p - actors)) ∙ is ∙ (λ i. if other i then q else 64 + (q - actors)) in
        let lt : q < actors = grind (arith, nat_tests) in absurd (omega (arith, e, lt, few))
    by_test false false one other is =
        let e = (λ i. if sym one i then p else 64 + (p - actors)) ∙ is ∙ (λ i. if other i then q else 64 + (q - actors)) in
        let ge : actors ≤ p = grind (arith, nat_tests) in let ge' : actors ≤ q = grind (arith, nat_tests) in omega (arith, e, ge, ge')

-- the number of a sender outside
outside-number : (actors k : ℕ) → sender_number actors (actors + k) ≡ 64 + k
outside-number actors k =
    let beyond : nat_lt (actors + k) actors ≡ false = grind (arith, nat_tests) in
    ap (λ b. if b then actors + k else 64 + (actors + k - actors)) beyond ∙ ap (λ n. 64 + n) (let e : actors + k - actors ≡ k = omega arith in e)

-- the envelopes that came to the actor of a place
abbrev fates_of : Option ActorReport → List Envelope
fates_of None = []
fates_of (Some a) = fates_in a

module _ (weight : Envelope → ℕ) where
  told-list : (whos : List Identity) (actors : List ActorReport) (at : ℕ → ℕ) → length whos ≡ length actors
      → ((k : ℕ) (who : Identity) (a : ActorReport) → slice_get whos k ≡ Some who → slice_get actors k ≡ Some a
      → at k ≡ sum_by weight (told who a.journal.entries))
      → total (length actors) at ≡ sum_by weight (told_by whos actors)
  told-list [] [] at many is = refl
  told-list [] (a ∷ actors) at many is = absurd (omega (arith, many))
  told-list (who ∷ whos) [] at many is = absurd (omega (arith, many))
  told-list (who ∷ whos) (a ∷ actors) at many is =
      let first = is 0 who a refl refl in
      let rest = told-list whos actors (λ k. at (suc k)) (omega (arith, many)) (λ k w b x y. is (suc k) w b x y) in
      let both = sum_by-append weight (told who a.journal.entries) (told_by whos actors) in omega (arith, first, rest, both)

  ordered-list : (by : ℕ) (orders : List (List Order)) (at : ℕ → ℕ)
      → ((k : ℕ) (of : List Order) → slice_get orders k ≡ Some of → at k ≡ sum_by weight (numbered_from (by + k) 0 (ordered_bodies of)))
      → total (length orders) at ≡ sum_by weight (ordered_from by orders)
  ordered-list by [] at is = refl
  ordered-list by (of ∷ orders) at is =
      let first = is 0 of refl ∙ ap (λ n. sum_by weight (numbered_from n 0 (ordered_bodies of))) (let e : by + 0 ≡ by = omega arith in e) in
      let rest = ordered-list (by + 1) orders (λ k. at (suc k)) (λ k l x.
      (is (suc k) l x ∙ ap (λ n. sum_by weight (numbered_from n 0 (ordered_bodies l))) (let e : by + suc k ≡ by + 1 + k = omega arith in e))) in
      let both = sum_by-append weight (numbered_from by 0 (ordered_bodies of)) (ordered_from (by + 1) orders) in omega (arith, first, rest, both)

  -- what came to the actors is what each took, what was cleaned up, and what is left
  fates-list : (actors : List ActorReport) → sum_by (λ a. sum_by weight (fates_in a)) actors
      ≡ sum_by (λ a. sum_by weight (begun a.journal.entries)) actors + sum_by (λ a. sum_by weight a.cleaned.items) actors
      + sum_by (λ a. sum_by weight a.left.items) actors
  fates-list actors =
      let taken = λ (a : ActorReport). sum_by weight (begun a.journal.entries) in let cleaned = λ (a : ActorReport). sum_by weight a.cleaned.items in
      let left = λ (a : ActorReport). sum_by weight a.left.items in
      let parts = sum-same (λ (a : ActorReport). sum_by weight (fates_in a)) (λ a. taken a + cleaned a + left a) (λ a.
      (sum_by-append weight (begun a.journal.entries ++ a.cleaned.items) a.left.items
      ∙ ap (λ n. n + left a) (sum_by-append weight (begun a.journal.entries) a.cleaned.items))) actors in
      let first = sum-plus (λ a. taken a + cleaned a) left actors in let second = sum-plus taken cleaned actors in
      omega (arith, parts, first, second)

module _ (after : ℕ → List Message → ℤ) (gives : ℕ → Moment → Reply → Type 0) (plan : Plan) (actors : ℕ) (orders : List (List Order)) (report : Report)
    (right : IsRight plan actors orders) (story : IsReportOfRun after gives plan orders report) where
  abbrev directory : List DirectoryEntry
  directory = story.directory

  abbrev answers : ℕ → List SentEnvelope
  answers = story.whole.answers

  abbrev senders : ℕ
  senders = length report.senders.items

  abbrev rows : ℕ
  rows = length directory

  pub whos : length (actors_in plan) ≡ actors + 1
  whos = length-who plan.journal plan.journal_limit plan.actors.items ∙ ap (λ n. n + 1) (as-planned plan actors right.0)

  listed : rows ≡ actors + 1
  listed = sym (length-map directory (λ (e : DirectoryEntry). e.who)) ∙ ap length story.planned.who ∙ whos

  pub line-count : length report.actors.items ≡ actors + 1
  line-count = story.whole.same_count.0 ∙ listed

  few : rows ≤ 64
  few = let most = report.few_actors in let same = story.whole.same_count.0 in omega (arith, most, same)

  pub known : (id : ℕ) (who : Identity) → slice_get (actors_in plan) id ≡ Some who
      → (who.this.0 ≡ id) × (who.actors ≡ actors + 1) × (is_guardian who ≡ false → 0 < who.this.0)
  known zero who is =
      let same = sym (same_Some _ who is) in (
        ap (λ (w : Identity). w.this.0) same,
        ap (λ (w : Identity). w.actors) same ∙ ap (λ n. n + 1) (as-planned plan actors right.0),
        λ other. absurd (let here : is_guardian who ≡ true = ap is_guardian same in cc (here, other)),
      )
  known (suc place) who is =
      let at = actor-at plan place who is in let this = at.0 in
      (this, at.2 ∙ ap (λ n. n + 1) (as-planned plan actors right.0), λ other. omega (arith, this))

  -- the journal of the actor of a number is one that an actor of that number can have
  pub lawful-at : (id : ℕ) (who : Identity) (a : ActorReport) → slice_get (actors_in plan) id ≡ Some who → slice_get report.actors.items id ≡ Some a
      → AreLawful who (gives id) a.journal.entries × (accepted (answers id) ≡ told who a.journal.entries)
  lawful-at id who a is at =
      let row = there directory id (let lt = within report.actors.items id a at in let same = story.whole.same_count.0 in omega (arith, lt, same)) in
      let same : row.0.who ≡ who =
      same_Some row.0.who who (sym (mapped-to (λ (d : DirectoryEntry). d.who) directory (actors_in plan) id row.0 story.planned.who row.1) ∙ is) in (
        subst (λ n. AreLawful who (gives n) a.journal.entries) (known id who is).0
            (subst (λ (w : Identity). AreLawful w (gives w.this.0) a.journal.entries) same ((story.whole.actors id row.0 a row.1 at).0.lawful.entries)),
        story.whole.told_all id row.0 a row.1 at ∙ ap (λ w. told w a.journal.entries) same,
      )

  told-as : (id : ℕ) (who : Identity) (a : ActorReport) → slice_get (actors_in plan) id ≡ Some who → slice_get report.actors.items id ≡ Some a
      → (accepted (answers id) ≡ told who a.journal.entries) × All (Goes (actors + 1)) (accepted (answers id))
  told-as id who a is at =
      let of = known id who is in let this = of.0 in let count = of.1 in let at_it = lawful-at id who a is at in
      let lt = within report.actors.items id a at in let many = line-count in
      let goes = told-there who (gives id) (omega (arith, this, count, lt, many)) of.2 a.journal.entries at_it.0 in (
        at_it.1,
        All-same (Goes (actors + 1)) (accepted (answers id)) (told who a.journal.entries) at_it.1
            (told-goes (actors + 1) who.this.0 0 (tells_of_journal who a.journal.entries)
            (subst (λ n. All (λ (t : AddressedBody). (0 < t.0.0) × (t.0.0 < n)) (tells_of_journal who a.journal.entries)) count goes)),
      )

  pub outside-as : (k : ℕ) (of : List Order) → slice_get orders k ≡ Some of → rows + k < senders
      → (accepted (answers (rows + k)) ≡ numbered_from (64 + k) 0 (ordered_bodies of)) × All (Goes (actors + 1)) (accepted (answers (rows + k)))
  outside-as k of is lt =
      let many = right.1 in let listed_of = within orders k of is in
      let posted = there story.outside k (let same = story.same_count in omega (arith, many, same, listed_of)) in
      let view = there story.knew k (let same = story.all_knew in omega (arith, many, same, listed_of)) in
      let s = there report.senders.items (rows + k) lt in
      let did = story.did k of posted.0 view.0 is posted.1 view.1 in
      let bodies : addressed (accepted (answers (rows + k))) ≡ ordered_bodies of =
      ap (λ l. addressed (accepted l)) (story.whole.sent_all k posted.0 posted.1) ∙ did.accepted_are in
      let numbers = subst (λ n. NumbersCountUpFrom n 0 (accepted (answers (rows + k)))) (outside-number rows k)
      (story.whole.sent (rows + k) s.0 s.1).2 in
      let all : accepted (answers (rows + k)) ≡ numbered_from (64 + k) 0 (ordered_bodies of) =
      sym (numbered-is (64 + k) 0 (accepted (answers (rows + k))) numbers) ∙ ap (numbered_from (64 + k) 0) bodies in (
        all,
        All-same (Goes (actors + 1)) (accepted (answers (rows + k))) (numbered_from (64 + k) 0 (ordered_bodies of)) all
            (numbered-goes (actors + 1) (64 + k) 0 (ordered_bodies of) (orders-there actors of (of-place actors orders k of right.2 is))),
      )

  pub goes : (place : ℕ) → place < senders → All (Goes (actors + 1)) (accepted (answers place))
  goes place lt = by_test (nat_lt place rows) refl
    where
      by_test : (b : Bool) → nat_lt place rows ≡ b → All (Goes (actors + 1)) (accepted (answers place))
      by_test true inside =
          let less : place < rows = grind (arith, nat_tests) in let many = listed in let lines = line-count in let people = whos in
          let who = there (actors_in plan) place (omega (arith, less, many, people)) in
          let a = there report.actors.items place (omega (arith, less, many, lines)) in (told-as place who.0 a.0 who.1 a.1).1
      by_test false outside =
          let less : rows ≤ place = grind (arith, nat_tests) in
          let k = place - rows in let same : rows + k ≡ place = omega (arith, less) in
          let count = story.whole.same_count.1 in let one = story.same_count in let other = right.1 in
          let of = there orders k (omega (arith, lt, less, count, one, other)) in
          subst (λ n. All (Goes (actors + 1)) (accepted (answers n))) same (outside-as k of.0 of.1 (omega (arith, lt, same))).1

  module _ (weight : Envelope → ℕ) where
    abbrev weigh : List Envelope → ℕ
    weigh = sum_by weight

    abbrev dead_of : ℕ → List Envelope
    dead_of place = envelopes_of (dead_letters (answers place))

    abbrev fates_at : ℕ → List Envelope
    fates_at id = fates_of (slice_get report.actors.items id)

    -- what goes to actors, by receiver
    by-receiver : (es : List Envelope) → All (Goes (actors + 1)) es → weigh es ≡ total actors (λ k. weigh (to_actor (suc k) es))
    by-receiver es all =
        in-parts weight (λ e. e.to.0) actors suc (λ p q lt less same. omega (arith, same)) es
        (All-weaker (Goes (actors + 1)) (λ e. (p : ℕ) × (p < actors) × (e.to.0 ≡ suc p))
        (λ e there. (e.to.0 - 1, (let a = there.0 in let b = there.1 in omega (arith, a, b)), (let a = there.0 in omega (arith, a)))) es all)

    -- each of a sender's envelopes to an actor came to it or is dead
    by-fate : (place k : ℕ) → place < senders → k < actors → weigh (to_actor (suc k) (accepted (answers place)))
        ≡ weigh (sent_by (sender_number rows place) (fates_at (suc k))) + weigh (to_actor (suc k) (dead_of place))
    by-fate place k lt less =
        let lines = line-count in let a = there report.actors.items (suc k) (omega (arith, less, lines)) in
        weigh-the-same weight (to_actor (suc k) (accepted (answers place))) (sent_by (sender_number rows place) (fates_in a.0))
        (to_actor (suc k) (dead_of place)) (story.whole.once place (suc k) a.0 lt (omega arith) a.1).1
        ∙ ap (λ o. weigh (sent_by (sender_number rows place) (fates_of o)) + weigh (to_actor (suc k) (dead_of place))) (sym a.1)

    -- what came to an actor, by sender
    by-sender : (id : ℕ) → id < actors + 1 → weigh (fates_at id) ≡ total senders (λ place. weigh (sent_by (sender_number rows place) (fates_at id)))
    by-sender id lt =
        let lines = line-count in let a = there report.actors.items id (omega (arith, lt, lines)) in
        let same : fates_at id ≡ fates_in a.0 = ap fates_of a.1 in
        in-parts weight (λ e. e.by.0) senders (sender_number rows) (λ p q one other. apart rows few p q) (fates_at id)
        (All-same (λ (e : Envelope). (p : ℕ) × (p < senders) × (e.by.0 ≡ sender_number rows p)) (fates_at id) (fates_in a.0) same
        (story.whole.nothing_else id a.0 a.1))

    guardian-none : weigh (fates_at 0) ≡ 0
    guardian-none =
        let lines = line-count in let a = there report.actors.items 0 (omega (arith, lines)) in
        ap (λ o. weigh (fates_of o)) a.1 ∙ ap weigh (story.whole.nobody a.0 a.1)

    -- all that was accepted came to an actor or is dead
    all-places : total senders (λ place. weigh (accepted (answers place)))
        ≡ total (length report.actors.items) (λ id. weigh (fates_at id)) + total senders (λ place. weigh (dead_of place))
    all-places =
        let came = λ (place k : ℕ). weigh (sent_by (sender_number rows place) (fates_at (suc k))) in
        let dead = λ (place k : ℕ). weigh (to_actor (suc k) (dead_of place)) in
        let first = total-same senders (λ place. weigh (accepted (answers place))) (λ place. total actors (came place) + total actors (dead place))
        (λ place lt.
        (by-receiver (accepted (answers place)) (goes place lt)
        ∙ total-same actors (λ k. weigh (to_actor (suc k) (accepted (answers place)))) (λ k. came place k + dead place k) (λ k less. by-fate place k lt less)
        ∙ total-plus actors (came place) (dead place))) in
        let second = total-plus senders (λ place. total actors (came place)) (λ place. total actors (dead place)) in
        let swapped = total-swap senders actors came in
        let receivers = total-same actors (λ k. weigh (fates_at (suc k))) (λ k. total senders (λ place. came place k))
        (λ k less. by-sender (suc k) (omega (arith, less))) in
        let letters = total-same senders (λ place. weigh (dead_of place)) (λ place. total actors (dead place))
        (λ place lt. by-receiver (dead_of place) (dead-too (Goes (actors + 1)) (answers place) (goes place lt))) in
        let count : length report.actors.items ≡ suc actors = let e = line-count in omega (arith, e) in
        let all : total (length report.actors.items) (λ id. weigh (fates_at id)) ≡ weigh (fates_at 0) + total actors (λ k. weigh (fates_at (suc k))) =
        ap (λ n. total n (λ id. weigh (fates_at id))) count in
        let none = guardian-none in omega (arith, first, second, swapped, receivers, letters, all, none)

    pub sent-list : total senders (λ place. weigh (accepted (answers place))) ≡ weigh (all_sent plan orders report)
    sent-list =
        let at = λ (place : ℕ). weigh (accepted (answers place)) in
        let count : senders ≡ rows + length orders =
        story.whole.same_count.1 ∙ ap (λ n. rows + n) (story.same_count ∙ sym right.1) in
        let split = ap (λ n. total n at) count ∙ total-split rows (length orders) at in
        let lines = line-count in let people = whos in let same = story.whole.same_count.0 in
        let tellers = ap (λ n. total n at) (sym same) ∙ told-list weight (actors_in plan) report.actors.items at (omega (arith, lines, people))
        (λ k who a is here. ap weigh (told-as k who a is here).0) in
        let others = ordered-list weight most_actors orders (λ k. at (rows + k)) (λ k of is.
        ap weigh (outside-as k of is (let lt = within orders k of is in omega (arith, lt, count))).0) in
        let both = sum_by-append weight (told_by (actors_in plan) report.actors.items) (ordered_from most_actors orders) in
        omega (arith, split, tellers, others, both)

  pub adds-up : AddsUp plan orders report
  adds-up weight =
      let sent = sent-list weight in let all = all-places weight in
      let came = total-list (λ a. sum_by weight (fates_in a)) report.actors.items (λ id. sum_by weight (fates_of (slice_get report.actors.items id)))
      (λ k a is. ap (λ o. sum_by weight (fates_of o)) is) in
      let refused = total-list (λ (s : SenderReport). sum_by weight (envelopes_of s.dead.items)) report.senders.items
      (λ place. sum_by weight (envelopes_of (dead_letters (answers place))))
      (λ k s is. ap (λ l. sum_by weight (envelopes_of l)) (sym (story.whole.sent k s is).1)) in
      let parts = fates-list weight report.actors.items in
      let a = sum-flat weight (λ (r : ActorReport). begun r.journal.entries) report.actors.items in
      let b = sum-flat weight (λ (r : ActorReport). r.cleaned.items) report.actors.items in
      let c = sum-flat weight (λ (r : ActorReport). r.left.items) report.actors.items in
      let d = sum-flat weight (λ (s : SenderReport). envelopes_of s.dead.items) report.senders.items in
      omega (arith, sent, all, came, refused, parts, a, b, c, d)
