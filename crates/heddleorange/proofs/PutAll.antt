-- What the journals, and the orders, have to send to an actor whose list nobody found ended was put into its list.
use Rattle.std.proofs.Common.{◌≡◌, ◌≤◌, ◌+◌, ◌==◌, ℕ, zero, suc, Bool, true, false, if◌then◌else◌, List, [], ◌∷◌, ◌++◌, Some, ap, arith, length, map, refl, reverse}
use Rattle.std.proofs.Common.{sym, ◌∙◌}
use Rattle.std.specs.Prelude.{slice_get}
use Rattle.std.specs.Global.{Box}
use Rattle.std.specs.List.{AllZip, flat_map}
use Rattle.std.proofs.lemmas.List.{append-nil}
use Rattle.mb_actor.specs.Behaviour.{Moment, Reply}
use Rattle.mb_dispatch.specs.Orders.{HasSent, addressed_system, terminates_of}
use Rattle.mb_dispatch.specs.Runs.{MadeRuns, OnlyRuns, RanMailbox}
use Rattle.mb_gate.specs.Accessors.{held_actor, pass_view}
use Rattle.mb_gate.specs.PutIn.{put_in}
use Rattle.mb_gate.specs.SentSystem.{Answered, Dropped, Listed, Parting, SplitClaim, due_of_part, due_since, sent_by_part}
use Rattle.mb_gate.specs.Untouched.{Origin}
use Rattle.mb_gate.specs.View.{Counted, Drained, Ended, Looked, Observation, Pushed, Read, Saw, Sent, SentSystem, Took, Unsent, View}
use Rattle.mb_ghost.proofs.SummedLemmas.{total_append}
use Rattle.mb_ghost.specs.Seen.{Each}
use Rattle.mb_ghost.specs.Summed.{total}
use Rattle.mb_home.specs.Contents.{Contents}
use Rattle.mb_home.specs.Directory.{DirectoryEntry}
use Rattle.mb_journal.specs.Entry.{Entry}
use Rattle.mb_journal.specs.Identity.{Identity}
use Rattle.mb_mailbox.proofs.ListedLemmas.{puts-sum}
use Rattle.mb_mailbox.specs.RunSends.{IsSentByRun, ended_in, listed_measure, refused_of}
use Rattle.mb_mailbox.specs.declared.turn.Turn.{Turn}
use Rattle.mb_msg.specs.declared.order.Order.{Order}
use Rattle.mb_msg.specs.declared.system.SysMsg.{SysMsg}
use Rattle.mb_register.specs.Views.{IsLook}
use Rattle.mb_shutdown.proofs.Lists.{mapped-to}
use Rattle.mb_system.specs.OnlyLooks.{OnlyLooks}
use Rattle.mb_system.specs.Members.{OutsideSender}
use Rattle.heddleorange.specs.Asked.{measure_to}
use Rattle.heddleorange.proofs.Due.{due-split, due_to, total-reverse}
use Rattle.heddleorange.proofs.Put.{back, put, taken}
use Rattle.heddleorange.proofs.Returns.{all-one, all-same, own-at}

-- ---- what lists took

-- how often this is so
abbrev pub once : Bool → ℕ
once b = if b then 1 else 0

-- what is counted no time is not here
none-here : (b : Bool) (n : ℕ) → once b ≡ 0 → (if b then n else 0) ≡ 0
none-here true n none = absurd (omega (arith, none))
none-here false n none = refl

module _ (to : ℕ) (measure : SysMsg → ℕ) where
  -- of a message that did not find this list ended, the list took what was sent to it
  one-taken : (ended : Bool) (receiver : ℕ) (message : SysMsg)
      → refused_of to (record { to = receiver; message = message; was_ended = ended }) ≡ 0
      → measure_to to measure (receiver, message) ≤ listed_measure to measure (record { to = receiver; message = message; was_ended = ended })
  one-taken true receiver message none = let not_here = none-here (receiver == to) (measure message) none in omega (arith, not_here)
  one-taken false receiver message none = omega arith

  -- the same of all that was sent
  pub sent-listed : (sent_system : List SentSystem) → total (refused_of to) sent_system ≡ 0
      → total (measure_to to measure) (addressed_system sent_system) ≤ total (listed_measure to measure) sent_system
  sent-listed [] none = omega arith
  sent-listed (s ∷ sent_system) none =
      let first = one-taken s.was_ended s.to s.message (omega (arith, none)) in let rest = sent-listed sent_system (omega (arith, none)) in
      omega (arith, first, rest)

  part-taken : (actor : ℕ) (p : SplitClaim) → total (refused_of to) (sent_by_part actor p) ≡ 0
      → total (measure_to to measure) (due_of_part p) ≤ total (listed_measure to measure) (sent_by_part actor p)
  part-taken actor (Listed receiver message) none = omega arith
  part-taken actor (Dropped receiver message) none = let first = one-taken true receiver message (omega (arith, none)) in omega (arith, first)
  part-taken actor (Answered receiver message whom ended) none =
      let first = one-taken true receiver message (omega (arith, none)) in omega (arith, first)
  part-taken actor (Parting whom ended) none = omega arith

  parts-taken : (actor : ℕ) (parts : List SplitClaim) → total (refused_of to) (flat_map (sent_by_part actor) parts) ≡ 0
      → total (measure_to to measure) (flat_map due_of_part parts) ≤ total (listed_measure to measure) (flat_map (sent_by_part actor) parts)
  parts-taken actor [] none = omega arith
  parts-taken actor (p ∷ parts) none =
      let refused = total_append (refused_of to) (sent_by_part actor p) (flat_map (sent_by_part actor) parts) in
      let first = part-taken actor p (omega (arith, none, refused)) in let rest = parts-taken actor parts (omega (arith, none, refused)) in
      let sent = total_append (listed_measure to measure) (sent_by_part actor p) (flat_map (sent_by_part actor) parts) in
      let due = total_append (measure_to to measure) (due_of_part p) (flat_map due_of_part parts) in omega (arith, first, rest, sent, due)

  -- lists took what the new entries of a run have to send
  pub run-taken : (who : Identity) (actor : ℕ) (journal before : List Entry) (rest : List (ℕ × SysMsg)) (steps : List Observation)
      (told : List SentSystem) → IsSentByRun who actor journal before rest steps told → total (refused_of to) told ≡ 0
      → due_to to measure who journal ≤ due_to to measure who before + total (listed_measure to measure) told
  run-taken who actor journal before rest steps told is none =
      let refused = ap (total (refused_of to)) is.sent_system_is in
      let parts = parts-taken actor is.parts (omega (arith, none, refused)) in
      let sent = ap (total (listed_measure to measure)) is.sent_system_is in
      let due = ap (total (measure_to to measure)) is.due_is in
      let all : due_to to measure who journal ≡ due_to to measure who before + total (measure_to to measure) (due_since who is.newer before) =
      ap (λ l. due_to to measure who l) is.joined ∙ ap (total (measure_to to measure)) (due-split who is.newer before)
      ∙ total_append (measure_to to measure) (due_since who before []) (due_since who is.newer before) in
      omega (arith, parts, sent, due, all)

module _ (to : ℕ) (measure : SysMsg → ℕ) (whos : List Identity) where
  -- how often the seat found the actor's list ended
  abbrev pub ended : View → ℕ
  ended v = total (ended_in to) v.log

  -- The seat forgets no list that it found ended. If it found this one never ended, it put into it since at least what the journals have to send
  -- since, and so much more.
  record PutsAll (more : ℕ) (old new : View) : Type 0 where
    grows : ended old ≤ ended new
    all : ended new ≡ 0
        → put to measure whos old + back to measure whos new + taken to measure whos old + more
        ≤ put to measure whos new + taken to measure whos new + back to measure whos old

  -- the same of all of these seats
  abbrev pub AllPutAll : ℕ → List View → List View → Type 0
  AllPutAll more old new = total ended new ≡ 0
      → total (put to measure whos) old + total (back to measure whos) new + total (taken to measure whos) old + more
      ≤ total (put to measure whos) new + total (taken to measure whos) new + total (back to measure whos) old

  -- ---- looks

  only-looks : (looks : List Observation) → Each (λ (s : Observation). (id : ℕ) × (true ≡ true) × IsLook id s) looks
      → total (ended_in to) looks ≡ 0
  only-looks [] each = refl
  only-looks (Read a word ∷ looks) each = let rest = only-looks looks each.1 in omega (arith, rest)
  only-looks (Saw a journal ∷ looks) each = let rest = only-looks looks each.1 in omega (arith, rest)
  only-looks (Counted a waiting ∷ looks) each = let rest = only-looks looks each.1 in omega (arith, rest)
  only-looks (Looked a has_work ∷ looks) each = let rest = only-looks looks each.1 in omega (arith, rest)
  only-looks (Sent a n ∷ looks) each = absurd each.0.2
  only-looks (Unsent a n ∷ looks) each = absurd each.0.2
  only-looks (Took a n ∷ looks) each = absurd each.0.2
  only-looks (Pushed a n m ∷ looks) each = absurd each.0.2
  only-looks (Drained a given ∷ looks) each = absurd each.0.2
  only-looks (Ended a given ∷ looks) each = absurd each.0.2

  looked : (old new : View) → OnlyLooks old new → PutsAll 0 old new
  looked old new looks =
      let none = only-looks looks.looks looks.only in
      let handles = ap (total (ended_in to)) looks.log ∙ total_append (ended_in to) looks.looks old.log in
      let puts = more-puts looks.looks old.log in let log = ap (λ l. put to measure whos (record old { log = l })) looks.log in
      let same = all-same (due_to to measure) 0 whos old new looks.gives_back in
      record { grows = omega (arith, none, handles); all = λ never. omega (arith, puts, log, same) }
    where
      -- what came first was put there too
      more-puts : (looks log : List Observation)
          → put to measure whos (record old { log = log }) ≤ put to measure whos (record old { log = looks ++ log })
      more-puts looks log = let both = total_append (put_in to (λ (m : ℕ × SysMsg). measure m.1)) looks log in omega (arith, both)

  after : (m n : ℕ) (old mid new : View) → PutsAll m old mid → PutsAll n mid new → PutsAll (m + n) old new
  after m n old mid new first last =
      let one = first.grows in let two = last.grows in record {
        grows = omega (arith, one, two);
        all = λ never. (let before = first.all (omega (arith, two, never)) in let later = last.all never in omega (arith, before, later));
      }

  -- ---- runs

  module _ (gives : ℕ → Moment → Reply → Type 0) (origin : Origin (Box Contents)) (throughput : ℕ)
      (named : map (λ (e : DirectoryEntry). e.who) origin.first.value.directory ≡ whos) where
    ran : (old new : View) (turn : Turn) → RanMailbox gives origin throughput old new turn → PutsAll 0 old new
    ran old new turn run =
        let home = run.claim.home.value in let who = home.cell.who in let left = run.left in let own = run.fresh.same_gates.of_actor in
        let actor = held_actor run.claim in
        let at : slice_get whos actor ≡ Some who =
        ap (slice_get whos) (sym own.number)
        ∙ mapped-to (λ (e : DirectoryEntry). e.who) origin.first.value.directory whos who.this.0 _ named
        (ap (λ l. slice_get l who.this.0) (sym own.directory) ∙ own.settled.is_own.enrolled) in
        let found = left.refused to in
        let more = puts-sum to measure left.told old new left.puts in
        let returns = all-one (due_to to measure) 0 whos old new (record { actor = actor; taken = home.cell.journal; back = run.journal }) left.gives_back in
        let first = own-at (due_to to measure) home.cell.journal actor 0 whos actor who at (omega arith) in
        let last = own-at (due_to to measure) run.journal actor 0 whos actor who at (omega arith) in record {
          grows = omega (arith, found);
          all = λ never.
              (let due = run-taken to measure who actor run.journal home.cell.journal home.rest left.steps left.told left.told_is
              (omega (arith, found, never)) in omega (arith, more, due, returns, first, last));
        }

    made-runs : (old : View) (turns : List Turn) (new : View) → MadeRuns gives origin throughput old turns new → PutsAll 0 old new
    made-runs old [] new made = looked old new made
    made-runs old (turn ∷ turns) new made =
        after 0 0 old made.0 new (looked old made.0 made.2)
        (after 0 0 made.0 made.1 new (ran made.0 made.1 turn made.3) (made-runs made.1 turns new made.4))

    module _ {E : Type 0} (knows : E → View) where
      -- all handles only made runs
      pub handles-put-all : (old new : List E) → AllZip (λ (o n : E). OnlyRuns gives origin throughput (knows o) (knows n)) old new
          → AllPutAll 0 (map knows old) (map knows new)
      handles-put-all [] [] all never = omega arith
      handles-put-all [] (n ∷ new) all never = absurd all
      handles-put-all (o ∷ old) [] all never = absurd all
      handles-put-all (o ∷ old) (n ∷ new) all never =
          let first = (made-runs (knows o) all.0.turns (knows n) all.0.made).all (omega (arith, never)) in
          let rest = handles-put-all old new all.1 (omega (arith, never)) in omega (arith, first, rest)

  -- ---- senders

  abbrev knows : OutsideSender → View
  knows s = pass_view s.registrar.pass

  has-sent : (orders : List Order) (old new : OutsideSender) → HasSent orders old new → (knows old).sent_system ≡ []
      → PutsAll (total (measure_to to measure) (terminates_of orders)) (knows old) (knows new)
  has-sent orders old new sent none =
      let same = sent.put to measure in
      let found = sent.refused to in
      let before = ap (total (refused_of to)) none in
      let listed_before = ap (total (listed_measure to measure)) none in
      let all : addressed_system (knows new).sent_system ≡ reverse (terminates_of orders) =
      sent.system_sent ∙ ap (λ l. reverse (terminates_of orders) ++ addressed_system l) none ∙ append-nil (reverse (terminates_of orders)) in
      let sum = ap (total (measure_to to measure)) all ∙ total-reverse (measure_to to measure) (terminates_of orders) in
      let returns = all-same (due_to to measure) 0 whos (knows old) (knows new) sent.gives_back in record {
        grows = omega (arith, found, before);
        all = λ never.
            (let listed = sent-listed to measure (knows new).sent_system (omega (arith, found, before, never)) in
            omega (arith, same, listed_before, listed, sum, returns));
      }

  -- all senders carried out the orders of their places
  pub senders-put-all : (orders : List (List Order)) (old new : List OutsideSender) → length old ≡ length orders → length new ≡ length old
      → ((place : ℕ) (of : List Order) (before next : OutsideSender) → slice_get orders place ≡ Some of → slice_get old place ≡ Some before
      → slice_get new place ≡ Some next → HasSent of before next)
      → ((place : ℕ) (s : OutsideSender) → slice_get old place ≡ Some s → (knows s).sent_system ≡ [])
      → AllPutAll (total (measure_to to measure) (flat_map terminates_of orders)) (map knows old) (map knows new)
  senders-put-all [] [] [] many still each none never = omega arith
  senders-put-all [] (o ∷ old) new many still each none never = absurd (omega (arith, many))
  senders-put-all (of ∷ orders) [] new many still each none never = absurd (omega (arith, many))
  senders-put-all [] [] (n ∷ new) many still each none never = absurd (omega (arith, still))
  senders-put-all (of ∷ orders) (o ∷ old) [] many still each none never = absurd (omega (arith, still))
  senders-put-all (of ∷ orders) (o ∷ old) (n ∷ new) many still each none never =
      let first = (has-sent of o n (each zero of o n refl refl refl) (none zero o refl)).all (omega (arith, never)) in
      let rest = senders-put-all orders old new (omega (arith, many)) (omega (arith, still)) (λ k l a b is was now. each (suc k) l a b is was now)
      (λ k s was. none (suc k) s was) (omega (arith, never)) in
      let both = total_append (measure_to to measure) (terminates_of of) (flat_map terminates_of orders) in omega (arith, first, rest, both)
