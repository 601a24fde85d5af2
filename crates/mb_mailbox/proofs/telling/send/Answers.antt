use Rattle.std.proofs.Common.{◌≡◌, ◌==◌, false, [], ◌∷◌, None, Some, refl, sym, ap, ◌∙◌, subst}
use Rattle.mb_msg.specs.declared.envelope.Envelope.{Envelope}
use Rattle.mb_status.specs.Mailbox.{word_of}
use Rattle.mb_msg.specs.declared.dead_letter.DeadLetterReason.TheVariants.{Closed}
use Rattle.mb_journal.specs.Acts.Act.{Tell}
use Rattle.mb_gate.specs.Accessors.{pass_view}
use Rattle.mb_gate.specs.View.{View}
use Rattle.mb_home.specs.Contents.{Contents}
use Rattle.mb_home.specs.AgreesWithJournal.{AgreesWithJournal}
use Rattle.mb_home.specs.Steps.{Pushes, RecordsDeadLetter, next_envelope, reason_of}
use Rattle.mb_register.specs.Sending.{counts}
use Rattle.mb_register.proofs.SendingLemmas.{does-read, open-word}
use Rattle.mb_register.proofs.Views.{looks-none, does-sending, does-unsending}
use Rattle.mb_mailbox.proofs.TellingLemmas.{closed-word, read-closed, leaves-rest}
use Rattle.mb_mailbox.proofs.telling.send.Goals as goal

-- ---- the pass stays one of these gates

pub note_sent-requires-clause-same_gates : goal.note_sent-requires-clause-same_gates
note_sent-requires-clause-same_gates g c = c.status-status.ensures.same_gates ∙ c.requires.same_gates

pub note_unsent-requires-clause-same_gates : goal.note_unsent-requires-clause-same_gates
note_unsent-requires-clause-same_gates g c = c.note_sent.ensures.same_gates ∙ c.status-status.ensures.same_gates ∙ c.requires.same_gates

pub returns-in-Ok-clause-same_gates : goal.returns-in-Ok-clause-same_gates
returns-in-Ok-clause-same_gates g c = c.note_sent.ensures.same_gates ∙ c.status-status.ensures.same_gates

pub returns-in-Err-clause-same_gates : goal.returns-in-Err-clause-same_gates
returns-in-Err-clause-same_gates g c = c.note_unsent.ensures.same_gates ∙ c.note_sent.ensures.same_gates ∙ c.status-status.ensures.same_gates

-- ---- its actor's home

pub record_closed_receiver-requires : goal.record_closed_receiver-requires
record_closed_receiver-requires g c = record {
  settled =
      subst (λ (x : Contents). AgreesWithJournal (g.K.Behaviours.gives x.cell.who.this.0) (Tell c.args.to c.args.body ∷ x.cell.acts) x)
      (sym c.deref_mut.ensures.value) c.requires.settled;
}

pub push-requires : goal.push-requires
push-requires g c =
    let home = c.args.home.now.value in
    let e = c.next_envelope-envelope.result in
    let made = c.next_envelope-envelope.ensures ∙ ap (λ (x : Contents). next_envelope x c.args.to c.args.body) c.deref.ensures in
    record {
      settled =
          subst (λ (x : Contents). AgreesWithJournal (g.K.Behaviours.gives x.cell.who.this.0) (Tell e.to e.body ∷ x.cell.acts) x)
          (sym c.deref_mut-2.ensures.value)
          (subst (λ (y : Envelope). AgreesWithJournal (g.K.Behaviours.gives home.cell.who.this.0) (Tell y.to y.body ∷ home.cell.acts) home) (sym made)
          c.requires.settled);
      next = subst (λ (x : Contents). e ≡ next_envelope x e.to e.body) (sym c.deref_mut-2.ensures.value)
          (subst (λ (y : Envelope). y ≡ next_envelope home y.to y.body) (sym made) refl);
    }

pub returns-then-closed-clause-settled : goal.returns-then-closed-clause-settled
returns-then-closed-clause-settled g c = c.record_closed_receiver.ensures.settled

pub returns-in-Ok-clause-settled : goal.returns-in-Ok-clause-settled
returns-in-Ok-clause-settled g c = c.push.ensures.settled

pub returns-in-Err-clause-settled : goal.returns-in-Err-clause-settled
returns-in-Err-clause-settled g c = c.push.ensures.settled

pub returns-then-closed-clause-same : goal.returns-then-closed-clause-same
returns-then-closed-clause-same g c =
    let is_dead_letter = subst (λ (x : Contents). RecordsDeadLetter x c.record_closed_receiver.new.self c.args.to c.args.body Closed) c.deref_mut.ensures.value
    c.record_closed_receiver.ensures.is_dead_letter in
    leaves-rest c.args.home.now.value _ false _ _ _ _ is_dead_letter.same

pub returns-in-Ok-clause-same : goal.returns-in-Ok-clause-same
returns-in-Ok-clause-same g c =
    let made = c.next_envelope-envelope.ensures ∙ ap (λ (x : Contents). next_envelope x c.args.to c.args.body) c.deref.ensures in
    let pushed = subst (λ (x : Contents × Envelope). Pushes x.0 c.push.new.self x.1.to x.1.body) (λ i. (c.deref_mut-2.ensures.value i, made i))
    c.in-Ok.ensures.pushed in
    leaves-rest c.args.home.now.value _ c.args.home.now.value.cell.is_ready _ _ _ _ pushed.same

pub returns-in-Err-clause-same : goal.returns-in-Err-clause-same
returns-in-Err-clause-same g c =
    let made = c.next_envelope-envelope.ensures ∙ ap (λ (x : Contents). next_envelope x c.args.to c.args.body) c.deref.ensures in
    let is_dead_letter = subst (λ (x : Contents × Envelope). RecordsDeadLetter x.0 c.push.new.self x.1.to x.1.body (reason_of c.in-Err.field-0))
    (λ i. (c.deref_mut-2.ensures.value i, made i)) c.in-Err.ensures.pushed.1 in
    leaves-rest c.args.home.now.value _ false _ _ _ _ is_dead_letter.same

-- ---- what was told

pub returns-then-closed-clause-told : goal.returns-then-closed-clause-told
returns-then-closed-clause-told g c =
    let is_dead_letter = subst (λ (x : Contents). RecordsDeadLetter x c.record_closed_receiver.new.self c.args.to c.args.body Closed) c.deref_mut.ensures.value
    c.record_closed_receiver.ensures.is_dead_letter in
    let id = c.args.to.0 in
    let word = word_of c.status-status.result in
    let a = pass_view c.args.pass.now in let b = pass_view c.status-status.new.pass in
    let shut = sym c.closed.ensures ∙ c.if-closed.true in (
      record {
        word = word;
        known_closed = ap (λ w. w == 1) (closed-word c.status-status.result shut);
        did = does-read id word [] [] a b b c.status-status.ensures.known (looks-none id b);
        is_dead_letter = is_dead_letter;
      },
      read-closed c.args.to.0 c.status-status.result (pass_view c.args.pass.now) (pass_view c.status-status.new.pass)
          (sym c.closed.ensures ∙ c.if-closed.true) c.status-status.ensures.known,
    )

pub returns-in-Ok-clause-told : goal.returns-in-Ok-clause-told
returns-in-Ok-clause-told g c =
    let made = c.next_envelope-envelope.ensures ∙ ap (λ (x : Contents). next_envelope x c.args.to c.args.body) c.deref.ensures in
    let pushed = subst (λ (x : Contents × Envelope). Pushes x.0 c.push.new.self x.1.to x.1.body) (λ i. (c.deref_mut-2.ensures.value i, made i))
    c.in-Ok.ensures.pushed in
    let id = c.args.to.0 in
    let word = word_of c.status-status.result in
    let a = pass_view c.args.pass.now in let b = pass_view c.status-status.new.pass in let d = pass_view c.note_sent.new.pass in
    record {
      word = word;
      not_closed = open-word c.status-status.result (sym c.closed.ensures ∙ c.if-closed.false);
      did = does-read id word (counts id None) [] a b d c.status-status.ensures.known (does-sending id b d c.note_sent.ensures.known);
      pushed = pushed;
    }

pub returns-in-Err-clause-told : goal.returns-in-Err-clause-told
returns-in-Err-clause-told g c =
    let made = c.next_envelope-envelope.ensures ∙ ap (λ (x : Contents). next_envelope x c.args.to c.args.body) c.deref.ensures in
    let is_dead_letter = subst (λ (x : Contents × Envelope). RecordsDeadLetter x.0 c.push.new.self x.1.to x.1.body (reason_of c.in-Err.field-0))
    (λ i. (c.deref_mut-2.ensures.value i, made i)) c.in-Err.ensures.pushed.1 in
    let id = c.args.to.0 in
    let word = word_of c.status-status.result in
    let a = pass_view c.args.pass.now in let b = pass_view c.status-status.new.pass in
    let d = pass_view c.note_sent.new.pass in let e = pass_view c.note_unsent.new.pass in
    record {
      word = word;
      not_closed = open-word c.status-status.result (sym c.closed.ensures ∙ c.if-closed.false);
      refused = c.in-Err.field-0;
      did = does-read id word (counts id (Some (reason_of c.in-Err.field-0))) [] a b e c.status-status.ensures.known
          (does-unsending id b d e c.note_sent.ensures.known c.note_unsent.ensures.known);
      is_dead_letter = is_dead_letter;
    }

-- ---- its pass got no claim

pub returns-then-closed-clause-claims : goal.returns-then-closed-clause-claims
returns-then-closed-clause-claims g c =
    let read = c.status-status.ensures.known in record { got = ap (λ (v : View). v.got) read; returned = ap (λ (v : View). v.returned) read }

pub returns-in-Ok-clause-claims : goal.returns-in-Ok-clause-claims
returns-in-Ok-clause-claims g c =
    let read = c.status-status.ensures.known in let sent = c.note_sent.ensures.known in record {
      got = ap (λ (v : View). v.got) sent ∙ ap (λ (v : View). v.got) read;
      returned = ap (λ (v : View). v.returned) sent ∙ ap (λ (v : View). v.returned) read;
    }

pub returns-in-Err-clause-claims : goal.returns-in-Err-clause-claims
returns-in-Err-clause-claims g c =
    let read = c.status-status.ensures.known in let sent = c.note_sent.ensures.known in let unsent = c.note_unsent.ensures.known in record {
      got = ap (λ (v : View). v.got) unsent ∙ ap (λ (v : View). v.got) sent ∙ ap (λ (v : View). v.got) read;
      returned = ap (λ (v : View). v.returned) unsent ∙ ap (λ (v : View). v.returned) sent ∙ ap (λ (v : View). v.returned) read;
    }
