-- A sender outside is one of the senders of a report.
use Rattle.std.proofs.Common.{◌≡◌, ◌⊎◌, inl, inr, ⊎_elim, ℕ, zero, suc, ◌+◌, ◌^◌, ◌<◌, ◌==◌, ◌&&◌, ◌||◌, Bool, true, false, List, [], ◌∷◌}
use Rattle.std.proofs.Common.{length, drop, refl, sym, ap, ◌∙◌, subst, arith, Option, Some, None}
use Rattle.std.proofs.Math.Nat.{mod-eq_of_lt}
use Rattle.std.specs.Prelude.{is_some, slice_get}
use Rattle.std.specs.List.{list_all}
use Rattle.std.proofs.lemmas.Bool.{eqb-true}
use Rattle.std.proofs.lemmas.Option.{none-some, same_Some}
use Rattle.mb_msg.specs.declared.dead_letter.DeadLetter.{DeadLetter}
use Rattle.mb_msg.specs.declared.dead_letter.DeadLetterReason.{DeadLetterReason}
use Rattle.mb_msg.specs.declared.dead_letter.DeadLetterReason.TheVariants as why
use Rattle.mb_msg.specs.declared.envelope.Envelope.{Envelope}
use Rattle.mb_journal.specs.Entry.{Entry}
use Rattle.mb_journal.specs.Accepted.{NumbersCountUpFrom, accepted, dead_letters, queued, to_actor}
use Rattle.mb_queue.specs.Passes.{Queue, SendPassView}
use Rattle.mb_gate.specs.Returned.{IsKept}
use Rattle.mb_gate.specs.View.{Observation, Read, Saw, Counted, Looked, Sent, Unsent, Took, Pushed, Drained, Ended}
use Rattle.mb_ghost.specs.Seen.{Each}
use Rattle.mb_home.specs.Directory.{DirectoryEntry, queues_of}
use Rattle.mb_send.specs.Bounded.{may_be_refused, queue_to}
use Rattle.mb_send.specs.Posted.{names_from, names_of}
use Rattle.mb_send.specs.Sends.{receiving_queues}
use Rattle.mb_send.specs.SeenClosed.{finds_closed, has_seen_closed, may_be_dead}
use Rattle.mb_shutdown.specs.OutsideSenders.{IsFinishedSender}
use Rattle.mb_shutdown.specs.declared.finished_sender.FinishedSender.{FinishedSender}
use Rattle.mb_shutdown.proofs.Lists.{each-place, length-mapped, within}
use Rattle.mb_shutdown.proofs.Parties.{HasReason, IsParty}

and-left : (a b : Bool) → (a && b) ≡ true → a ≡ true
and-left true b t = refl
and-left false b t = absurd (cc t)

and-right : (a b : Bool) → (a && b) ≡ true → b ≡ true
and-right true b t = t
and-right false b t = absurd (cc t)

or-either : (a b : Bool) → (a || b) ≡ true → (a ≡ true) ⊎ (b ≡ true)
or-either true b t = inl refl
or-either false b t = inr t

-- a test that holds of all holds at a place
all-at : {A : Type 0} (test : A → Bool) (xs : List A) (i : ℕ) (x : A) → list_all test xs ≡ true → slice_get xs i ≡ Some x → test x ≡ true
all-at test [] i x all is = absurd (none-some x is)
all-at test (y ∷ xs) zero x all is = ap test (sym (same_Some y x is)) ∙ and-left (test y) (list_all test xs) all
all-at test (y ∷ xs) (suc i) x all is = all-at test xs i x (and-right (test y) (list_all test xs) all) is

-- an actor that was seen closed has the word of a closed one
found-shut : (id : ℕ) (journal : List Entry) (word : ℕ) (s : Observation) → finds_closed id s ≡ true → IsKept id journal word s → word ≡ 1
found-shut id journal word (Read a w) t kept =
    kept (eqb-true a id (and-left (a == id) (w == 1) t)) (eqb-true w 1 (and-right (a == id) (w == 1) t))
found-shut id journal word (Saw a before) t kept = absurd (cc t)
found-shut id journal word (Counted a n) t kept = absurd (cc t)
found-shut id journal word (Looked a has_work) t kept = absurd (cc t)
found-shut id journal word (Sent a n) t kept = absurd (cc t)
found-shut id journal word (Unsent a n) t kept = absurd (cc t)
found-shut id journal word (Took a n) t kept = absurd (cc t)
found-shut id journal word (Pushed a n m) t kept = absurd (cc t)
found-shut id journal word (Drained a given) t kept = absurd (cc t)
found-shut id journal word (Ended a given) t kept = absurd (cc t)

pub seen-shut : (id : ℕ) (journal : List Entry) (word : ℕ) (log : List Observation) → has_seen_closed log id ≡ true → Each (IsKept id journal word) log
    → word ≡ 1
seen-shut id journal word [] t kept = absurd (cc t)
seen-shut id journal word (s ∷ log) t kept =
    ⊎_elim (λ here. found-shut id journal word s here kept.0) (λ later. seen-shut id journal word log later kept.1)
    (or-either (finds_closed id s) (has_seen_closed log id) t)

-- names one after another are numbers one after another
names-numbered : (by n : ℕ) (es : List Envelope) → names_of es ≡ names_from by n es → NumbersCountUpFrom by n es
names-numbered by n [] names = tt
names-numbered by n (e ∷ es) names =
    let first : ◌≡◌ {A = ℕ × ℕ} (e.by.0, e.number) (by, n) = cc names in
    let rest : names_of es ≡ names_from by (n + 1) es = cc names in
    (ap (λ (x : ℕ × ℕ). x.0) first, ap (λ (x : ℕ × ℕ). x.1) first, names-numbered by (n + 1) es rest)

-- a queue that may have refused an envelope is there; as full, where it has a bound
queue-there : (o : Option Queue) (w : DeadLetterReason) → may_be_refused o w ≡ true → (q : Queue) × (o ≡ Some q) × (w ≡ why.Full → is_some q.main.capacity ≡ true)
queue-there None w t = absurd (cc t)
queue-there (Some q) why.Full t = (q, refl, λ is. t)
queue-there (Some q) why.Closed t = (q, refl, λ is. absurd (let no : why.Closed ≡ why.Full = is in cc no))
queue-there (Some q) why.NoMemory t = (q, refl, λ is. absurd (let no : why.NoMemory ≡ why.Full = is in cc no))
queue-there (Some q) why.Cleaned t = (q, refl, λ is. absurd (let no : why.Cleaned ≡ why.Full = is in cc no))

-- of all queues but the first
but-first : (all : List Queue) (to : ℕ) (q : Queue) → queue_to (drop 1 all) to ≡ Some q → slice_get all to ≡ Some q
but-first all zero q is = absurd (none-some q is)
but-first [] (suc to) q is = absurd (none-some q is)
but-first (x ∷ all) (suc to) q is = is

module _ (directory : List DirectoryEntry) (Shut : ℕ → Type 0) (log : List Observation) (number : ℕ) (o : FinishedSender) (is : IsFinishedSender directory log number o)
    (shut : (to : ℕ) → to < length directory → has_seen_closed log to ≡ true → Shut to) where
  reason-at : (i : ℕ) (d : DeadLetter) → slice_get (dead_letters o.send_log.posted) i ≡ Some d → HasReason directory Shut d
  reason-at i d there =
      let queues = receiving_queues o.sends.items in let to = d.envelope.to.0 in
      let seen = all-at (λ (x : DeadLetter). may_be_dead (has_seen_closed log x.envelope.to.0) x.why) (dead_letters o.send_log.posted) i d is.was_seen_closed
      there in
      let one = queue-there (queue_to queues to) d.why
      (all-at (λ (x : DeadLetter). may_be_refused (queue_to queues x.envelope.to.0) x.why) (dead_letters o.send_log.posted) i d is.bounded there) in
      let found : slice_get (queues_of directory) to ≡ Some one.0
      = but-first (queues_of directory) to one.0 (ap (λ l. queue_to l to) (sym is.queues) ∙ one.1) in
      let lt : to < length directory
      = let a = within (queues_of directory) to one.0 found in let b = length-mapped (λ (n : DirectoryEntry). n.queue) directory in omega (arith, a, b) in (
        λ closed. shut to lt (sym (ap (may_be_dead (has_seen_closed log to)) closed) ∙ seen),
        λ full. record { queue = one.0; present = found; bounded = one.2 full },
      )

  pub outside-party : o.send_log.sent < 2 ^ 64
      → IsParty directory Shut number (record { row = o.sends.items; postings = o.send_log.posted; sent = (o.send_log.sent, o.send_log.dead.items, o.send_log.dead.retention) })
  outside-party small = record {
    numbered = subst (λ n. NumbersCountUpFrom n 0 (accepted o.send_log.posted)) is.number_is
        (names-numbered o.send_log.by.0 0 (accepted o.send_log.posted) o.send_log.numbered);
    send_passes = is.queues;
    by = each-place (λ (s : SendPassView). s.by ≡ number) o.sends.items (λ i s there. (is.routes i s there).sender ∙ is.number_is);
    pushed = λ i s there. (is.routes i s there).pushed
        ∙ ap (λ n. to_actor n (queued o.send_log.posted)) (let e : i + 1 ≡ suc i = omega arith in e);
    sent_is = o.send_log.counted ∙ sym (mod-eq_of_lt (let same = o.send_log.counted in omega (arith, small, same)));
    dead_is = o.send_log.dead_are;
    reasons = each-place (HasReason directory Shut) (dead_letters o.send_log.posted) reason-at;
  }
