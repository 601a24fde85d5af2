use Rattle.std.proofs.Common.{rules, ◌≡◌, ◌++◌, [], ◌∷◌, List, Some, refl, ap, ◌∙◌, arith}
use Rattle.mb_msg.specs.declared.dead_letter.DeadLetterReason.TheVariants as why
use Rattle.mb_msg.specs.declared.envelope.Envelope.{Envelope}
use Rattle.mb_journal.specs.declared.sent_envelope.SentEnvelope.{SentEnvelope}
use Rattle.mb_send.specs.Posted.{posting}
use Rattle.mb_gate.specs.Accessors.{pass_view}
use Rattle.mb_journal.specs.Accepted.{dead_letters}
use Rattle.mb_send.specs.SeenClosed.{were_seen_closed, has_seen_closed}
use Rattle.mb_send.proofs.Bounding.{bounded-is_dead_letter}
use Rattle.mb_send.proofs.Failing.{after-any}
use Rattle.mb_send.proofs.SeenClosed.{was_seen_closed-dead}
use Rattle.mb_send.proofs.sender.GatesSender.record_dead_letter.Goals as goal

pub invariant_of-self-2-clause-bounded : goal.invariant_of-self-2-clause-bounded
invariant_of-self-2-clause-bounded g c =
    let me = c.args.self.now in
    let e = c.next-envelope.result in
    let to : e.to.0 ≡ c.args.to.0 = ap (λ (x : Envelope). x.to.0) c.next-envelope.ensures in
    bounded-is_dead_letter me.sends.items me.send_log.posted c.record_dead.new.self.posted e
    (c.record_dead.ensures.posted ∙ ap (λ (l : List SentEnvelope). l ++ posting e (Some why.Closed) ∷ []) c.ready.ensures.same.3)
    (omega (arith, to, c.requires.present.0)) (omega (arith, to, c.requires.present.1)) me.bounded

pub invariant_of-self-2-clause-was_seen_closed : goal.invariant_of-self-2-clause-was_seen_closed
invariant_of-self-2-clause-was_seen_closed g c =
    let me = c.args.self.now in
    let e = c.next-envelope.result in
    let log = (pass_view me.registrar.pass).log in
    let to : e.to.0 ≡ c.args.to.0 = ap (λ (x : Envelope). x.to.0) c.next-envelope.ensures in
    let posted : c.record_dead.new.self.posted ≡ me.send_log.posted ++ posting e (Some why.Closed) ∷ []
    = c.record_dead.ensures.posted ∙ ap (λ (l : List SentEnvelope). l ++ posting e (Some why.Closed) ∷ []) c.ready.ensures.same.3 in
    ap (λ (l : List SentEnvelope). were_seen_closed log (dead_letters l)) posted
    ∙ was_seen_closed-dead log me.send_log.posted e why.Closed (ap (has_seen_closed log) to ∙ c.requires.closed) me.was_seen_closed

pub returns-in_err-ready-clause-unsent : goal.returns-in_err-ready-clause-unsent
returns-in_err-ready-clause-unsent g c =
    let same = c.ready.ensures.same in
    after-any c.from_residual.result (record { by = same.0; sent = same.1; dead = same.2; keeps_is = c.ready.ensures.keeps; posted = same.3 })

pub returns-in_err-ready-clause-refused : goal.returns-in_err-ready-clause-refused
returns-in_err-ready-clause-refused g c = search rules

pub returns-in_err-ready-clause-is_dead_letter : goal.returns-in_err-ready-clause-is_dead_letter
returns-in_err-ready-clause-is_dead_letter g c = search rules

pub returns-in_err-ready-clause-same : goal.returns-in_err-ready-clause-same
returns-in_err-ready-clause-same g c = (refl, refl, c.ready.ensures.same.0)

pub record_dead-requires-clause-next : goal.record_dead-requires-clause-next
record_dead-requires-clause-next g c = search rules

pub record_dead-requires-clause-number : goal.record_dead-requires-clause-number
record_dead-requires-clause-number g c = search rules

pub record_dead-requires-clause-room : goal.record_dead-requires-clause-room
record_dead-requires-clause-room g c = search rules

pub returns-clause-refused : goal.returns-clause-refused
returns-clause-refused g c = tt

pub returns-clause-unsent : goal.returns-clause-unsent
returns-clause-unsent g c = tt

pub returns-clause-is_dead_letter : goal.returns-clause-is_dead_letter
returns-clause-is_dead_letter g c = search rules

pub returns-clause-same : goal.returns-clause-same
returns-clause-same g c = (refl, refl, c.record_dead.ensures.same_sender ∙ c.ready.ensures.same.0)

pub returns-in_err-ready-clause-keeps : goal.returns-in_err-ready-clause-keeps
returns-in_err-ready-clause-keeps g c = c.ready.ensures.keeps

pub returns-clause-keeps : goal.returns-clause-keeps
returns-clause-keeps g c = c.record_dead.ensures.keeps ∙ c.ready.ensures.keeps
