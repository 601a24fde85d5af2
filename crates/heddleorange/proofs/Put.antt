-- What all handles and senders put into an actor's list is among what the journals, and the orders, have to send.
use Rattle.std.proofs.Common.{◌≡◌, ◌≤◌, ◌+◌, ℕ, zero, suc, true, List, [], ◌∷◌, ◌++◌, Some, ap, arith, length, map, refl, reverse, sym, ◌∙◌}
use Rattle.std.specs.Prelude.{slice_get}
use Rattle.std.specs.Global.{Box}
use Rattle.std.specs.List.{AllZip, flat_map}
use Rattle.std.proofs.lemmas.List.{append-nil}
use Rattle.mb_actor.specs.Behaviour.{Moment, Reply}
use Rattle.mb_dispatch.specs.Orders.{HasSent, addressed_system, terminates_of}
use Rattle.mb_dispatch.specs.Runs.{MadeRuns, OnlyRuns, RanMailbox}
use Rattle.mb_gate.specs.Accessors.{held_actor, pass_view}
use Rattle.mb_gate.specs.PutIn.{put_by, put_in}
use Rattle.mb_gate.specs.Untouched.{Origin}
use Rattle.mb_gate.specs.View.{Counted, Drained, Ended, Looked, Observation, Pushed, Read, Saw, Sent, Took, Unsent, View}
use Rattle.mb_ghost.proofs.SummedLemmas.{total_append}
use Rattle.mb_ghost.specs.Seen.{Each}
use Rattle.mb_ghost.specs.Summed.{total}
use Rattle.mb_home.specs.Contents.{Contents}
use Rattle.mb_home.specs.Directory.{DirectoryEntry}
use Rattle.mb_journal.specs.Identity.{Identity}
use Rattle.mb_mailbox.proofs.ListedLemmas.{puts-sum}
use Rattle.mb_mailbox.specs.declared.turn.Turn.{Turn}
use Rattle.mb_msg.specs.declared.id.ActorId.{ActorId}
use Rattle.mb_msg.specs.declared.order.Order.{Order}
use Rattle.mb_msg.specs.declared.system.SysMsg.{SysMsg}
use Rattle.mb_msg.specs.declared.system.SysMsg.TheVariants.{Died}
use Rattle.mb_register.specs.Views.{IsLook}
use Rattle.mb_shutdown.proofs.Lists.{mapped-to}
use Rattle.mb_system.specs.OnlyLooks.{OnlyLooks}
use Rattle.mb_system.specs.Members.{OutsideSender}
use Rattle.heddleorange.specs.Asked.{measure_to}
use Rattle.heddleorange.proofs.Due.{due_to, listed-sent, run-due, total-reverse}
use Rattle.heddleorange.proofs.Returns.{all-one, all-same, all_back, all_taken, own-at}

module _ (to : ℕ) (measure : SysMsg → ℕ) (whos : List Identity) where
  -- what the seat put into the actor's list
  abbrev pub put : View → ℕ
  put v = put_by to (λ m. measure m.1) v

  -- what the journals that it gave back have to send to that actor, and those with which it took the cells
  abbrev pub back : View → ℕ
  back v = all_back (due_to to measure) 0 whos v

  abbrev pub taken : View → ℕ
  taken v = all_taken (due_to to measure) 0 whos v

  -- What the seat put into the list since is at most what the journals have to send since, and so much more.
  abbrev pub PutsAtMost : ℕ → View → View → Type 0
  PutsAtMost more old new = put new + taken new + back old ≤ put old + back new + taken old + more

  -- the same of all of these seats
  abbrev pub AllPutAtMost : ℕ → List View → List View → Type 0
  AllPutAtMost more old new = total put new + total taken new + total back old ≤ total put old + total back new + total taken old + more

  -- ---- looks

  only-looks : (looks : List Observation) → Each (λ (s : Observation). (id : ℕ) × (true ≡ true) × IsLook id s) looks
      → total (put_in to (λ m. measure m.1)) looks ≡ 0
  only-looks [] each = refl
  only-looks (Read a word ∷ looks) each = let rest = only-looks looks each.1 in omega (arith, rest)
  only-looks (Saw a journal ∷ looks) each = let rest = only-looks looks each.1 in omega (arith, rest)
  only-looks (Counted a waiting ∷ looks) each = let rest = only-looks looks each.1 in omega (arith, rest)
  only-looks (Looked a has_work ∷ looks) each = let rest = only-looks looks each.1 in omega (arith, rest)
  only-looks (Sent a n ∷ looks) each = absurd each.0.2
  only-looks (Unsent a n ∷ looks) each = absurd each.0.2
  only-looks (Took a n ∷ looks) each = absurd each.0.2
  only-looks (Pushed a n m ∷ looks) each = absurd each.0.2
  only-looks (Drained a given ∷ looks) each = absurd each.0.2
  only-looks (Ended a given ∷ looks) each = absurd each.0.2

  looked : (old new : View) → OnlyLooks old new → PutsAtMost 0 old new
  looked old new looks =
      let none = only-looks looks.looks looks.only in
      let all = ap (total (put_in to (λ m. measure m.1))) looks.log ∙ total_append (put_in to (λ m. measure m.1)) looks.looks old.log in
      let same = all-same (due_to to measure) 0 whos old new looks.gives_back in omega (arith, none, all, same)

  after : (m n : ℕ) (old mid new : View) → PutsAtMost m old mid → PutsAtMost n mid new → PutsAtMost (m + n) old new
  after m n old mid new first last = omega (arith, first, last)

  -- ---- runs

  module _ (silent : (ended : ActorId) → measure (Died ended) ≡ 0) (gives : ℕ → Moment → Reply → Type 0) (origin : Origin (Box Contents)) (throughput : ℕ)
      (named : map (λ (e : DirectoryEntry). e.who) origin.first.value.directory ≡ whos) where
    ran : (old new : View) (turn : Turn) → RanMailbox gives origin throughput old new turn → PutsAtMost 0 old new
    ran old new turn run =
        let home = run.claim.home.value in let who = home.cell.who in let left = run.left in let own = run.fresh.same_gates.of_actor in
        let actor = held_actor run.claim in
        let at : slice_get whos actor ≡ Some who =
        ap (slice_get whos) (sym own.number)
        ∙ mapped-to (λ (e : DirectoryEntry). e.who) origin.first.value.directory whos who.this.0 _ named
        (ap (λ l. slice_get l who.this.0) (sym own.directory) ∙ own.settled.is_own.enrolled) in
        let more = puts-sum to measure left.told old new left.puts in
        let due = run-due to measure silent who actor run.journal home.cell.journal home.rest left.steps left.told left.told_is in
        let returns = all-one (due_to to measure) 0 whos old new (record { actor = actor; taken = home.cell.journal; back = run.journal }) left.gives_back in
        let first = own-at (due_to to measure) home.cell.journal actor 0 whos actor who at (omega arith) in
        let last = own-at (due_to to measure) run.journal actor 0 whos actor who at (omega arith) in
        omega (arith, more, due, returns, first, last)

    made-runs : (old : View) (turns : List Turn) (new : View) → MadeRuns gives origin throughput old turns new → PutsAtMost 0 old new
    made-runs old [] new made = looked old new made
    made-runs old (turn ∷ turns) new made =
        after 0 0 old made.0 new (looked old made.0 made.2)
        (after 0 0 made.0 made.1 new (ran made.0 made.1 turn made.3) (made-runs made.1 turns new made.4))

    module _ {E : Type 0} (knows : E → View) where
      -- all handles only made runs
      pub handles-put : (old new : List E) → AllZip (λ (o n : E). OnlyRuns gives origin throughput (knows o) (knows n)) old new
          → AllPutAtMost 0 (map knows old) (map knows new)
      handles-put [] [] all = omega arith
      handles-put [] (n ∷ new) all = absurd all
      handles-put (o ∷ old) [] all = absurd all
      handles-put (o ∷ old) (n ∷ new) all =
          let first = made-runs (knows o) all.0.turns (knows n) all.0.made in let rest = handles-put old new all.1 in omega (arith, first, rest)

  -- ---- senders

  abbrev knows : OutsideSender → View
  knows s = pass_view s.registrar.pass

  has-sent : (orders : List Order) (old new : OutsideSender) → HasSent orders old new → (knows old).sent_system ≡ []
      → PutsAtMost (total (measure_to to measure) (terminates_of orders)) (knows old) (knows new)
  has-sent orders old new sent none =
      let same = sent.put to measure in
      let listed = listed-sent to measure (knows new).sent_system in
      let all : addressed_system (knows new).sent_system ≡ reverse (terminates_of orders) =
      sent.system_sent ∙ ap (λ l. reverse (terminates_of orders) ++ addressed_system l) none ∙ append-nil (reverse (terminates_of orders)) in
      let sum = ap (total (measure_to to measure)) all ∙ total-reverse (measure_to to measure) (terminates_of orders) in
      let returns = all-same (due_to to measure) 0 whos (knows old) (knows new) sent.gives_back in
      omega (arith, same, listed, sum, returns)

  -- all senders carried out the orders of their places
  pub senders-put : (orders : List (List Order)) (old new : List OutsideSender) → length old ≡ length orders → length new ≡ length old
      → ((place : ℕ) (of : List Order) (before next : OutsideSender) → slice_get orders place ≡ Some of → slice_get old place ≡ Some before
      → slice_get new place ≡ Some next → HasSent of before next)
      → ((place : ℕ) (s : OutsideSender) → slice_get old place ≡ Some s → (knows s).sent_system ≡ [])
      → AllPutAtMost (total (measure_to to measure) (flat_map terminates_of orders)) (map knows old) (map knows new)
  senders-put [] [] [] many still each none = omega arith
  senders-put [] (o ∷ old) new many still each none = absurd (omega (arith, many))
  senders-put (of ∷ orders) [] new many still each none = absurd (omega (arith, many))
  senders-put [] [] (n ∷ new) many still each none = absurd (omega (arith, still))
  senders-put (of ∷ orders) (o ∷ old) [] many still each none = absurd (omega (arith, still))
  senders-put (of ∷ orders) (o ∷ old) (n ∷ new) many still each none =
      let first = has-sent of o n (each zero of o n refl refl refl) (none zero o refl) in
      let rest = senders-put orders old new (omega (arith, many)) (omega (arith, still)) (λ k l a b is was now. each (suc k) l a b is was now)
      (λ k s was. none (suc k) s was) in
      let both = total_append (measure_to to measure) (terminates_of of) (flat_map terminates_of orders) in omega (arith, first, rest, both)
