-- How many envelopes a run's steps count as taken.
use Rattle.std.proofs.Common.{◌≡◌, ℕ, ◌+◌, ◌==◌, true, if◌then◌else◌, List, [], ◌∷◌, ◌++◌, length, refl, sym, ap, ◌∙◌, arith}
use Rattle.std.proofs.Common.{append_assoc, append-nil, length-append}
use Rattle.std.proofs.lemmas.Bool.Decides.{nat_tests}
use Rattle.mb_msg.specs.declared.envelope.Envelope.{Envelope}
use Rattle.mb_ghost.specs.Seen.{Each}
use Rattle.mb_ghost.specs.Summed.{total}
use Rattle.mb_ghost.proofs.SummedLemmas.{total_append}
use Rattle.mb_journal.specs.Fates.{begun}
use Rattle.mb_gate.specs.View.{View, Observation, Read, Saw, Counted, Looked, Sent, Unsent, Took, Pushed, Drained, Ended}
use Rattle.mb_gate.specs.Waiting.{counted_off}
use Rattle.mb_journal.specs.Entry.{Entry}
use Rattle.mb_journal.specs.Entry.Entry.{Handled, System, Dropped}
use Rattle.mb_journal.specs.Identity.{Identity}
use Rattle.mb_journal.specs.Run.{IsBlock, AreBlocks, IsOfEnvelope}
use Rattle.mb_journal.specs.Run.IsBlock.{no_more, one_more}
use Rattle.mb_journal.specs.Run.AreBlocks.{first_block, next_block}
use Rattle.mb_register.specs.Caller.{TakesNothing, TakesOver}
use Rattle.mb_mailbox.specs.OnlyDrained.{TakesOnlyDrained}
use Rattle.mb_mailbox.specs.Ran.{taken_of}

-- a step that counts nothing
pub counted-still : (n m k : ℕ) → n ≡ m → n + k ≡ m + (0 + k)
counted-still n m k same = omega (arith, same)

-- one that counts an envelope
pub counts-one : (actor : ℕ) → counted_off actor (Took actor 1) ≡ 1
counts-one actor = let same : (actor == actor) ≡ true = grind (arith, nat_tests) in ap (λ b. if b then 1 else 0) same

pub counted-more : (n m k one : ℕ) → n ≡ m + 1 → one ≡ 1 → n + k ≡ m + (one + k)
counted-more n m k one more is = omega (arith, more, is)

-- an envelope more came out
pub one-more : (new old : List Envelope) (e : Envelope) → new ≡ old ++ e ∷ [] → length new ≡ length old + 1
one-more new old e is = ap (λ (l : List Envelope). length l) is ∙ length-append old (e ∷ [])

-- as many envelopes were begun as the run counts
begun-one : (e : Entry) (before : List Entry) → IsOfEnvelope e → length (begun (e ∷ before)) ≡ length (begun before) + 1
begun-one (Handled envelope reading outcome) before of_it = length-append (begun before) (envelope ∷ [])
begun-one (System number m outcome) before of_it = absurd of_it
begun-one (Dropped envelope) before of_it = length-append (begun before) (envelope ∷ [])

begun-block : (who : Identity) (from to : List Entry) → IsBlock who from to → length (begun to) ≡ length (begun from)
begun-block who from to no_more = refl
begun-block who from to (one_more there number m outcome block front) = begun-block who from there block

pub begun-blocks : (who : Identity) (from to : List Entry) (n : ℕ) → AreBlocks who from n to → length (begun to) ≡ length (begun from) + n
begun-blocks who from to n (first_block there block) = let same = begun-block who from to block in omega (arith, same)
begun-blocks who from to n (next_block before middle there e blocks none of_envelope block) =
    let last = begun-block who (e ∷ middle) to block in
    let one = begun-one e middle of_envelope in
    let rest = begun-blocks who from middle before blocks in
    omega (arith, last, one, rest)

-- and these are they
since-block : (who : Identity) (from to : List Entry) → IsBlock who from to → begun to ≡ begun from
since-block who from to no_more = refl
since-block who from to (one_more there number m outcome block front) = since-block who from there block

since-one : (e : Entry) (before : List Entry) → IsOfEnvelope e → (envelope : Envelope) × (begun (e ∷ before) ≡ begun before ++ envelope ∷ [])
since-one (Handled envelope reading outcome) before of_it = (envelope, refl)
since-one (System number m outcome) before of_it = absurd of_it
since-one (Dropped envelope) before of_it = (envelope, refl)

pub begun-since : (who : Identity) (from to : List Entry) (n : ℕ) → AreBlocks who from n to
    → (started : List Envelope) × (begun to ≡ begun from ++ started)
begun-since who from to n (first_block there block) = ([], since-block who from to block ∙ sym (append-nil (begun from)))
begun-since who from to n (next_block before middle there e blocks none of_envelope block) =
    let rest = begun-since who from middle before blocks in
    let one = since-one e middle of_envelope in (
      rest.0 ++ one.0 ∷ [],
      since-block who (e ∷ middle) to block ∙ one.1 ∙ ap (λ l. l ++ one.0 ∷ []) rest.1 ∙ append_assoc (begun from) rest.0 (one.0 ∷ []),
    )

-- of a run: all that came out of the queue was begun or cleaned up, so that its steps count what was begun in it and what was cleaned up
pub counted-all : (journal before : List Entry) (taken cleaned first : List Envelope) (none steps n : ℕ)
    → length taken + none ≡ length first + steps → none ≡ 0 → length first ≡ length (begun before) → taken ≡ begun journal ++ cleaned
    → length (begun journal) ≡ length (begun before) + n → steps ≡ n + length cleaned
counted-all journal before taken cleaned first none steps n counted is first_is taken_is blocks =
    let all : length taken ≡ length (begun journal) + length cleaned =
    ap (λ (l : List Envelope). length l) taken_is ∙ length-append (begun journal) cleaned in
    omega (arith, counted, is, first_is, all, blocks)

-- ---- what its pass has taken over

taken-none : (actor : ℕ) (log : List Observation) → Each TakesNothing log → total (taken_of actor) log ≡ 0
taken-none actor [] none = refl
taken-none actor (Read a word ∷ log) none = let rest = taken-none actor log none.1 in omega (arith, rest)
taken-none actor (Saw a journal ∷ log) none = let rest = taken-none actor log none.1 in omega (arith, rest)
taken-none actor (Counted a waiting ∷ log) none = let rest = taken-none actor log none.1 in omega (arith, rest)
taken-none actor (Looked a has_work ∷ log) none = let rest = taken-none actor log none.1 in omega (arith, rest)
taken-none actor (Sent a n ∷ log) none = let rest = taken-none actor log none.1 in omega (arith, rest)
taken-none actor (Unsent a n ∷ log) none = let rest = taken-none actor log none.1 in omega (arith, rest)
taken-none actor (Took a n ∷ log) none = absurd none.0
taken-none actor (Pushed a number message ∷ log) none = let rest = taken-none actor log none.1 in omega (arith, rest)
taken-none actor (Drained a given ∷ log) none = let rest = taken-none actor log none.1 in omega (arith, rest)
taken-none actor (Ended a given ∷ log) none = let rest = taken-none actor log none.1 in omega (arith, rest)

-- a claim's seat gives nothing back, so that all that it counted off was taken
taken-all : (actor : ℕ) (log : List Observation) → TakesOnlyDrained actor log → total (taken_of actor) log ≡ total (counted_off actor) log
taken-all actor [] only_drained = refl
taken-all actor (Read a word ∷ log) only_drained = ap (λ k. 0 + k) (taken-all actor log only_drained)
taken-all actor (Saw a journal ∷ log) only_drained = ap (λ k. 0 + k) (taken-all actor log only_drained)
taken-all actor (Counted a waiting ∷ log) only_drained = ap (λ k. 0 + k) (taken-all actor log only_drained)
taken-all actor (Looked a has_work ∷ log) only_drained = ap (λ k. 0 + k) (taken-all actor log only_drained)
taken-all actor (Sent a n ∷ log) only_drained = ap (λ k. 0 + k) (taken-all actor log only_drained)
taken-all actor (Unsent a n ∷ log) only_drained = absurd only_drained
taken-all actor (Took a n ∷ log) only_drained = ap (λ k. (if a == actor then n else 0) + k) (taken-all actor log only_drained.1)
taken-all actor (Pushed a number message ∷ log) only_drained = ap (λ k. 0 + k) (taken-all actor log only_drained)
taken-all actor (Drained a given ∷ log) only_drained = ap (λ k. 0 + k) (taken-all actor log only_drained)
taken-all actor (Ended a given ∷ log) only_drained = ap (λ k. 0 + k) (taken-all actor log only_drained)

pub counts-over : (actor : ℕ) (old new : View) (steps : List Observation) (n : ℕ) → TakesOver old new steps → TakesOnlyDrained actor steps →
    total (counted_off actor) steps ≡ n → total (taken_of actor) new.log ≡ total (taken_of actor) old.log + n
counts-over actor old new steps n over only_drained counted =
    let f = taken_of actor in
    let joined : total f new.log ≡ total f over.own_log + (total f old.log + total f steps) =
    ap (total f) over.joined ∙ total_append f over.own_log (old.log ++ steps) ∙ ap (λ k. total f over.own_log + k) (total_append f old.log steps) in
    let none : total f over.own_log ≡ 0 = taken-none actor over.own_log over.took_none in
    let all : total f steps ≡ n = taken-all actor steps only_drained ∙ counted in
    omega (arith, joined, none, all)
