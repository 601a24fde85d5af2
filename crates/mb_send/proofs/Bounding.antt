-- Each new dead letter that says that a queue was full is to one with a bound.
use Rattle.std.proofs.Common.{◌≡◌, ◌∙◌, ◌&&◌, ◌-◌, ◌<◌, ◌≤◌, ◌++◌, [], ◌∷◌, ℕ, zero, suc, List, true, refl, subst, ap, Some, None, slice_get}
use Rattle.std.proofs.Common.{length, arith}
use Rattle.std.proofs.lemmas.List.{length-map}
use Rattle.std.specs.Prelude.{is_some}
use Rattle.std.specs.List.{list_all}
use Rattle.std.proofs.lemmas.List.Folds.{list_all-append}
use Rattle.mb_msg.specs.declared.dead_letter.DeadLetter.{DeadLetter}
use Rattle.mb_msg.specs.declared.dead_letter.DeadLetterReason.{DeadLetterReason}
use Rattle.mb_msg.specs.declared.dead_letter.DeadLetterReason.TheVariants as why
use Rattle.mb_msg.specs.declared.envelope.Envelope.{Envelope}
use Rattle.mb_queue.specs.declared.refused.Refusal.{Refusal}
use Rattle.mb_queue.specs.declared.refused.Refusal.TheVariants.{Full, NoMemory}
use Rattle.mb_journal.specs.declared.sent_envelope.SentEnvelope.{SentEnvelope}
use Rattle.mb_journal.specs.Accepted.{dead_letters}
use Rattle.mb_queue.specs.Passes.{Queue, SendPassView}
use Rattle.mb_queue.specs.Pushes.{IsReasonToRefuse}
use Rattle.mb_send.specs.Answers.{reason}
use Rattle.mb_send.specs.Posted.{posting}
use Rattle.mb_send.specs.Bounded.{may_be_refused, are_of_bounded, queue_to}
use Rattle.mb_send.specs.Sends.{receiving_queues}
use Rattle.mb_send.proofs.Posting.{dead-queued, dead-more}
use Rattle.mb_send.proofs.SeenClosed.{and-both}

-- one more was queued, or is dead
pub bounded-queued : (queues : List Queue) (ps : List SentEnvelope) (e : Envelope) → are_of_bounded queues (dead_letters ps) ≡ true →
    are_of_bounded queues (dead_letters (ps ++ posting e None ∷ [])) ≡ true
bounded-queued queues ps e all = ap (are_of_bounded queues) (dead-queued ps e) ∙ all

pub bounded-dead : (queues : List Queue) (ps : List SentEnvelope) (e : Envelope) (w : DeadLetterReason)
    → may_be_refused (queue_to queues e.to.0) w ≡ true → are_of_bounded queues (dead_letters ps) ≡ true
    → are_of_bounded queues (dead_letters (ps ++ posting e (Some w) ∷ [])) ≡ true
bounded-dead queues ps e w may all =
    let p = λ (d : DeadLetter). may_be_refused (queue_to queues d.envelope.to.0) d.why in
    let letter : DeadLetter = record { envelope = e; why = w } in
    ap (are_of_bounded queues) (dead-more ps e w) ∙ list_all-append p (dead_letters ps) (letter ∷ [])
    ∙ and-both (list_all p (dead_letters ps)) (p letter && true) all (and-both (p letter) true may refl)

-- a queue refuses as full only where it has a bound
pub may-find-full : (queues : List Queue) (k : ℕ) (pass : SendPassView) (refused : Refusal) (w : DeadLetterReason) → slice_get queues k ≡ Some pass.queue →
    IsReasonToRefuse pass refused → w ≡ reason refused → may_be_refused (queue_to queues (suc k)) w ≡ true
may-find-full queues k pass Full w there full is = (λ i. may_be_refused (there i) (is i)) ∙ ap is_some full.1
may-find-full queues k pass NoMemory w there full is = λ i. may_be_refused (there i) (is i)

-- an envelope to a receiver that was seen closed
closed-there : (queues : List Queue) (k : ℕ) → k < length queues → may_be_refused (queue_to queues (suc k)) why.Closed ≡ true
closed-there [] k lt = absurd (omega (arith, lt))
closed-there (q ∷ queues) zero lt = refl
closed-there (q ∷ queues) (suc k) lt = closed-there queues k (omega (arith, lt))

pub bounded-is_dead_letter : (sends : List SendPassView) (ps ps' : List SentEnvelope) (e : Envelope) → ps' ≡ ps ++ posting e (Some why.Closed) ∷ [] → 0 < e.to.0
    → e.to.0 ≤ length sends → are_of_bounded (receiving_queues sends) (dead_letters ps) ≡ true
    → are_of_bounded (receiving_queues sends) (dead_letters ps') ≡ true
bounded-is_dead_letter sends ps ps' e is some there all =
    let queues = receiving_queues sends in
    let many : length queues ≡ length sends = length-map sends (λ (s : SendPassView). s.queue) in
    ap (λ l. are_of_bounded queues (dead_letters l)) is
    ∙ bounded-dead queues ps e why.Closed
    (subst (λ n. may_be_refused (queue_to queues n) why.Closed ≡ true) (let is : suc (e.to.0 - 1) ≡ e.to.0 = omega (arith, some) in is)
    (closed-there queues (e.to.0 - 1) (omega (arith, some, there, many)))) all
