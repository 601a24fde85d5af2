-- Counting envelopes that pass a test.
use Rattle.std.proofs.Common.{◌≡◌, ◌==◌, ℕ, ◌+◌, Bool, true, false, cond, ◌&&◌, List, []}
use Rattle.std.proofs.Common.{◌∷◌, filter, refl, sym, ap, ◌∙◌, arith, Option, Some, None, count_by}
use Rattle.std.proofs.lemmas.List.Sums.{sum_by-cons}
use Rattle.mb_msg.specs.declared.envelope.Envelope.{Envelope}
use Rattle.mb_msg.specs.declared.dead_letter.DeadLetterReason.{DeadLetterReason}
use Rattle.mb_journal.specs.declared.sent_envelope.SentEnvelope.{SentEnvelope}
use Rattle.mb_journal.specs.Accepted.{accepted, queued, dead_letters, envelopes_of}
use Rattle.mb_journal.specs.Pair.{QueuedMatchFates, AcceptedMatchFates}

count-cond : (p : Envelope → Bool) (b : Bool) (x : Envelope) (l : List Envelope)
    → count_by p (cond b (x ∷ l) l) ≡ cond (b && p x) 1 0 + count_by p l
count-cond p true x l = sum_by-cons (λ y. cond (p y) 1 0) x l
count-cond p false x l = omega arith

-- what passes both tests
pub count-filter : (p q : Envelope → Bool) (xs : List Envelope) → count_by p (filter q xs) ≡ count_by (λ x. q x && p x) xs
count-filter p q [] = refl
count-filter p q (x ∷ xs) =
    count-cond p (q x) x (filter q xs) ∙ ap (λ n. cond (q x && p x) 1 0 + n) (count-filter p q xs)
    ∙ sym (sum_by-cons (λ y. cond (q y && p y) 1 0) x xs)

pub count-cons : (p : Envelope → Bool) (x : Envelope) (xs : List Envelope) → count_by p (x ∷ xs) ≡ cond (p x) 1 0 + count_by p xs
count-cons p x xs = sum_by-cons (λ y. cond (p y) 1 0) x xs

-- two tests that answer the same
pub count-same : (p q : Envelope → Bool) → ((x : Envelope) → p x ≡ q x) → (xs : List Envelope) → count_by p xs ≡ count_by q xs
count-same p q same xs = λ i. count_by (λ x. same x i) xs

module _ (test : Envelope → Bool) where
  abbrev Splits : List SentEnvelope → Type 0
  Splits ps = count_by test (accepted ps) ≡ count_by test (queued ps) + count_by test (envelopes_of (dead_letters ps))

  -- one more, queued or dead
  splits-more : (e : Envelope) (refused : Option DeadLetterReason) (ps : List SentEnvelope) → Splits ps → Splits (record { envelope = e; refused = refused } ∷ ps)
  splits-more e None ps before =
      let a = count-cons test e (accepted ps) in
      let b = count-cons test e (queued ps) in
      omega (arith, a, b, before)
  splits-more e (Some why) ps before =
      let a = count-cons test e (accepted ps) in
      let b = count-cons test e (envelopes_of (dead_letters ps)) in
      omega (arith, a, b, before)

  -- each accepted envelope was queued or is dead
  pub splits : (ps : List SentEnvelope) → count_by test (accepted ps) ≡ count_by test (queued ps) + count_by test (envelopes_of (dead_letters ps))
  splits [] = refl
  splits (p ∷ ps) = splits-more p.envelope p.refused ps (splits ps)

-- so each accepted one to a receiver is among its fates or the dead letters
pub stands-as-often : (by to : ℕ) (ps : List SentEnvelope) (fates : List Envelope) → QueuedMatchFates by to ps fates → AcceptedMatchFates by to ps fates
stands-as-often by to ps fates came test =
    let mine : Envelope → Bool = λ e. e.to.0 == to in
    let a = count-filter test mine (accepted ps) in
    let b = count-filter test mine (queued ps) in
    let c = count-filter test mine (envelopes_of (dead_letters ps)) in
    let d = splits (λ x. mine x && test x) ps in
    let e = came test in
    omega (arith, a, b, c, d, e)
