-- What a sender was answered "queued" for is what it was answered for, without its dead letters.
use Rattle.std.proofs.Common.{◌≡◌, ◌==◌, ℕ, ◌+◌, true, cond, List, [], ◌∷◌, refl, sym, ap, ◌∙◌, arith, Option, Some, None}
use Rattle.std.proofs.lemmas.Bool.Decides.{nat_tests}
use Rattle.mb_msg.specs.declared.dead_letter.DeadLetterReason.{DeadLetterReason}
use Rattle.mb_msg.specs.declared.envelope.Envelope.{Envelope}
use Rattle.mb_queue.proofs.Bags.{filter-swap}
use Rattle.mb_journal.specs.Accepted.{NumbersCountUpFrom, accepted, dead_letters, envelopes_of, queued, sent_by, to_actor, without_named}
use Rattle.mb_journal.specs.declared.sent_envelope.SentEnvelope.{SentEnvelope}
use Rattle.mb_journal.proofs.Naming.{kept-in-order}

mine-more : (by : ℕ) (e : Envelope) (refused : Option DeadLetterReason) (ps : List SentEnvelope) → e.by.0 ≡ by → sent_by by (queued ps) ≡ queued ps
    → sent_by by (queued (record { envelope = e; refused = refused } ∷ ps)) ≡ queued (record { envelope = e; refused = refused } ∷ ps)
mine-more by e None ps is rest =
    let yes : (e.by.0 == by) ≡ true = grind (arith, nat_tests) in λ i. cond (yes i) (e ∷ rest i) (rest i)
mine-more by e (Some why) ps is rest = rest

-- all of it is the sender's
mine : (by n : ℕ) (ps : List SentEnvelope) → NumbersCountUpFrom by n (accepted ps) → sent_by by (queued ps) ≡ queued ps
mine by n [] numbered = refl
mine by n (p ∷ ps) numbered = mine-more by p.envelope p.refused ps numbered.0 (mine by (n + 1) ps numbered.2)

pub queued-are : (by to : ℕ) (ps : List SentEnvelope) → NumbersCountUpFrom by 0 (accepted ps)
    → to_actor to (queued ps) ≡ to_actor to (without_named (envelopes_of (dead_letters ps)) (accepted ps))
queued-are by to ps numbered =
    let own : sent_by by (to_actor to (queued ps)) ≡ to_actor to (queued ps)
    = filter-swap (λ e. e.by.0 == by) (λ e. e.to.0 == to) (queued ps) ∙ ap (to_actor to) (mine by 0 ps numbered) in
    sym own ∙ kept-in-order by to ps (to_actor to (queued ps)) numbered (sym own)
