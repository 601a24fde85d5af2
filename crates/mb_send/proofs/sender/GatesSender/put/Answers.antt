use Rattle.std.proofs.Common.{rules, ◌≡◌, ◌∙◌, ◌+◌, ◌-◌, ◌<◌, ◌++◌, [], ◌∷◌, ℕ, suc, List}
use Rattle.std.proofs.Common.{length, true, Some, None, refl, subst, sym, ap, slice_set, arith}
use Rattle.mb_msg.specs.Payload.{body_of}
use Rattle.mb_msg.specs.declared.id.SenderId.{SenderId}
use Rattle.std.proofs.lemmas.Option.{slice_get_read}
use Rattle.mb_msg.specs.declared.envelope.Envelope.{Envelope}
use Rattle.mb_journal.specs.declared.sent_envelope.SentEnvelope.{SentEnvelope}
use Rattle.mb_send.specs.Answers.{put_of}
use Rattle.mb_send.specs.Posted.{envelope_of, posting}
use Rattle.mb_send.specs.Sends.{AreRoutes, receiving_queues}
use Rattle.mb_send.specs.Bounded.{are_of_bounded, may_be_refused, queue_to}
use Rattle.mb_send.proofs.Bounding.{bounded-queued, bounded-dead, may-find-full}
use Rattle.mb_gate.specs.Accessors.{pass_view}
use Rattle.mb_gate.specs.View.{View}
use Rattle.mb_send.proofs.Answering.{why-told}
use Rattle.mb_send.proofs.Failing.{after-any, no-answer}
use Rattle.mb_send.proofs.Handing.{hands-later, loses-looked}
use Rattle.mb_send.proofs.Obligations.{is-sending, place-within, still-registered, registers-nobody}
use Rattle.mb_register.specs.Sending.{counts}
use Rattle.mb_register.proofs.Views.{does-then, does-sending, does-unsending}
use Rattle.mb_queue.specs.Passes.{Queue, SendPassView}
use Rattle.mb_send.proofs.Routes.{routes-more, routes-dead, queue-there, queues-set}
use Rattle.mb_send.proofs.SeenClosed.{was_seen_closed-does, was_seen_closed-queued, was_seen_closed-dead, may-refuse}
use Rattle.mb_send.specs.SeenClosed.{has_seen_closed, were_seen_closed}
use Rattle.mb_journal.specs.Accepted.{dead_letters}
use Rattle.mb_send.proofs.sender.GatesSender.put.Goals as goal

pub returns-in-Ok-clause-sent : goal.returns-in-Ok-clause-sent
returns-in-Ok-clause-sent g c =
    let id = c.args.ticket.to.0 in
    let items = c.args.self.now.sends.items in
    let old = c.index_mut.result.now in
    let lt : id - 1 < length items = omega (arith, c.requires.all, c.requires.present.0, c.requires.present.1) in
    let a = pass_view c.args.self.now.registrar.pass in let b = pass_view c.note_sent.new.pass in let d = pass_view c.register.new.self.pass in
    let body = body_of c.args.payload in let to = c.args.ticket.to in
    let made = c.next-envelope.ensures ∙ (λ i. envelope_of (c.ready.ensures.same.0 i) to (c.ready.ensures.same.1 i) body) in
    record {
      pass = old;
      present = slice_get_read items (length items) (id - 1) old refl lt c.index_mut.ensures.value;
      refused = None;
      why = tt;
      answer = ap (λ n. put_of n None) c.ready.ensures.same.1;
      posted_is = c.record_queued.ensures.posted ∙ (λ i. c.ready.ensures.same.3 i ++ posting (made i) None ∷ []);
      counted = does-then id (counts id None) [] a b d (does-sending id a b c.note_sent.ensures.known) c.register.ensures.registers.looks;
    }

pub returns-in-Err-clause-sent : goal.returns-in-Err-clause-sent
returns-in-Err-clause-sent g c =
    let id = c.args.ticket.to.0 in
    let items = c.args.self.now.sends.items in
    let old = c.index_mut.result.now in
    let why = c.why_of-why.result in
    let lt : id - 1 < length items = omega (arith, c.requires.all, c.requires.present.0, c.requires.present.1) in
    let a = pass_view c.args.self.now.registrar.pass in let b = pass_view c.note_sent.new.pass in
    let d = pass_view c.note_unsent.new.pass in let e = pass_view c.register-in-Err.new.self.pass in
    let body = body_of c.args.payload in let to = c.args.ticket.to in
    let made = c.next-envelope.ensures ∙ (λ i. envelope_of (c.ready.ensures.same.0 i) to (c.ready.ensures.same.1 i) body) in
    record {
      pass = old;
      present = slice_get_read items (length items) (id - 1) old refl lt c.index_mut.ensures.value;
      refused = Some why;
      why = why-told old c.in-Err.refused why c.in-Err.ensures.refused c.why_of-why.ensures;
      answer = ap (λ n. put_of n (Some why)) c.ready.ensures.same.1;
      posted_is = c.record_dead.ensures.posted ∙ (λ i. c.ready.ensures.same.3 i ++ posting (made i) (Some why) ∷ []);
      counted = does-then id (counts id (Some why)) [] a d e (does-unsending id a b d c.note_sent.ensures.known c.note_unsent.ensures.known)
          c.register-in-Err.ensures.registers.looks;
    }

pub invariant_of-self-in-Ok : goal.invariant_of-self-in-Ok
invariant_of-self-in-Ok g c =
    let send_log = c.args.self.now.send_log in
    let items = c.args.self.now.sends.items in
    let to = c.args.ticket.to.0 in
    let k = to - 1 in
    let old = c.index_mut.result.now in
    let e = c.next-envelope.result in
    let lt : k < length items = omega (arith, c.requires.all, c.requires.present.0, c.requires.present.1) in
    let before = c.args.self.now.registrar.pass in
    let counted = c.note_sent.new.pass in
    let after = c.register.new.self.pass in
    let there = slice_get_read items (length items) k old refl lt c.index_mut.ensures.value in
    let here : e.to.0 ≡ k + 1 = ap (λ (x : Envelope). x.to.0) c.next-envelope.ensures ∙ omega (arith, c.requires.present.0) in
    let p = c.record_queued.ensures.posted ∙ ap (λ (l : List SentEnvelope). l ++ posting e None ∷ []) c.ready.ensures.same.3 in
    let q = ap (λ (s : SenderId). s.0) (c.record_queued.ensures.same_sender ∙ c.ready.ensures.same.0) in
    let qs = sym q in
    let ps = sym p in
    let queues = queues-set items k old c.put.new.self there (ap (λ (s : SendPassView). s.queue) c.in-Ok.ensures.pushed) in
    record {
      routes = subst (λ (y : ℕ × List SentEnvelope). AreRoutes y.0 y.1 (slice_set items k c.put.new.self)) (λ i. (qs i, ps i))
          (routes-more send_log.by.0 send_log.posted items c.args.self.now.routes k old there e c.put.new.self c.in-Ok.ensures.pushed here);
      was_seen_closed = subst (λ (l : List SentEnvelope). were_seen_closed (pass_view after).log (dead_letters l) ≡ true) ps
          (was_seen_closed-queued (pass_view after).log send_log.posted e
          (was_seen_closed-does to (counts to None) [] (pass_view before) (pass_view after) (dead_letters send_log.posted)
          (does-then to (counts to None) [] (pass_view before) (pass_view counted) (pass_view after)
          (does-sending to (pass_view before) (pass_view counted) c.note_sent.ensures.known) c.register.ensures.registers.looks)
          c.args.self.now.was_seen_closed));
      bounded = subst (λ (y : List Queue × List SentEnvelope). are_of_bounded y.0 (dead_letters y.1) ≡ true) (λ i. (sym queues i, ps i))
          (bounded-queued (receiving_queues items) send_log.posted e c.args.self.now.bounded);
    }

pub invariant_of-self-in-Err : goal.invariant_of-self-in-Err
invariant_of-self-in-Err g c =
    let send_log = c.args.self.now.send_log in
    let items = c.args.self.now.sends.items in
    let to = c.args.ticket.to.0 in
    let k = to - 1 in
    let old = c.index_mut.result.now in
    let e = c.next-envelope.result in
    let why = c.why_of-why.result in
    let lt : k < length items = omega (arith, c.requires.all, c.requires.present.0, c.requires.present.1) in
    let before = c.args.self.now.registrar.pass in
    let counted = c.note_sent.new.pass in
    let back = c.note_unsent.new.pass in
    let after = c.register-in-Err.new.self.pass in
    let there = slice_get_read items (length items) k old refl lt c.index_mut.ensures.value in
    let p = c.record_dead.ensures.posted ∙ ap (λ (l : List SentEnvelope). l ++ posting e (Some why) ∷ []) c.ready.ensures.same.3 in
    let q = ap (λ (s : SenderId). s.0) (c.record_dead.ensures.same_sender ∙ c.ready.ensures.same.0) in
    let qs = sym q in
    let ps = sym p in
    let queues = queues-set items k old c.put.new.self there (ap (λ (s : SendPassView). s.queue) c.in-Err.ensures.pushed) in
    let its : e.to.0 ≡ to = ap (λ (x : Envelope). x.to.0) c.next-envelope.ensures in
    let above : suc k ≡ e.to.0 = omega (arith, its, c.requires.present.0) in
    record {
      routes = subst (λ (y : ℕ × List SentEnvelope). AreRoutes y.0 y.1 (slice_set items k c.put.new.self)) (λ i. (qs i, ps i))
          (routes-dead send_log.by.0 send_log.posted items c.args.self.now.routes k old there e c.put.new.self why c.in-Err.ensures.pushed);
      was_seen_closed = subst (λ (l : List SentEnvelope). were_seen_closed (pass_view after).log (dead_letters l) ≡ true) ps
          (was_seen_closed-dead (pass_view after).log send_log.posted e why (may-refuse (has_seen_closed (pass_view after).log e.to.0) c.in-Err.refused why
          c.why_of-why.ensures)
          (was_seen_closed-does to (counts to (Some why)) [] (pass_view before) (pass_view after) (dead_letters send_log.posted)
          (does-then to (counts to (Some why)) [] (pass_view before) (pass_view back) (pass_view after)
          (does-unsending to (pass_view before) (pass_view counted) (pass_view back) c.note_sent.ensures.known c.note_unsent.ensures.known)
          c.register-in-Err.ensures.registers.looks) c.args.self.now.was_seen_closed));
      bounded = subst (λ (y : List Queue × List SentEnvelope). are_of_bounded y.0 (dead_letters y.1) ≡ true) (λ i. (sym queues i, ps i))
          (bounded-dead (receiving_queues items) send_log.posted e why
          (subst (λ (n : ℕ). may_be_refused (queue_to (receiving_queues items) n) why ≡ true) above
          (may-find-full (receiving_queues items) k old c.in-Err.refused why (queue-there items k old there) c.in-Err.ensures.refused
          c.why_of-why.ensures)) c.args.self.now.bounded);
    }

pub returns-in_err-ready-clause-refused : goal.returns-in_err-ready-clause-refused
returns-in_err-ready-clause-refused g c =
    let same = c.ready.ensures.same in
    after-any c.from_residual.result (
      search rules,
      record {
        send_log = record { by = same.0; sent = same.1; dead = same.2; keeps_is = c.ready.ensures.keeps; posted = same.3 };
        sends = refl;
        registrar = refl;
      },
    )

-- the pass is the sender's, and pushes to the receiver's queue
pub put-requires-clause-sender : goal.put-requires-clause-sender
put-requires-clause-sender g c =
    let id = c.args.ticket.to.0 in let items = c.args.self.now.sends.items in let send_log = c.args.self.now.send_log in
    let k = id - 1 in let old = c.index_mut.result.now in
    let lt : k < length items = omega (arith, c.requires.all, c.requires.present.0, c.requires.present.1) in
    let route = c.args.self.now.routes k old (slice_get_read items (length items) k old refl lt c.index_mut.ensures.value) in
    ap (λ (x : Envelope). x.by.0) c.next-envelope.ensures ∙ ap (λ (s : SenderId). s.0) c.ready.ensures.same.0 ∙ sym route.sender

pub put-requires-clause-addressed : goal.put-requires-clause-addressed
put-requires-clause-addressed g c =
    let id = c.args.ticket.to.0 in let items = c.args.self.now.sends.items in let send_log = c.args.self.now.send_log in
    let k = id - 1 in let old = c.index_mut.result.now in
    let lt : k < length items = omega (arith, c.requires.all, c.requires.present.0, c.requires.present.1) in
    let route = c.args.self.now.routes k old (slice_get_read items (length items) k old refl lt c.index_mut.ensures.value) in
    let sum : id ≡ k + 1 = omega (arith, c.requires.present.0) in
    ap (λ (x : Envelope). x.to.0) c.next-envelope.ensures ∙ sum ∙ sym route.receiver

-- ---- there was no room

pub invariant_of-self : goal.invariant_of-self
invariant_of-self g c =
    let items = c.args.self.now.sends.items in
    let by = sym (ap (λ (s : SenderId). s.0) c.ready.ensures.same.0) in
    let posted = sym c.ready.ensures.same.3 in
    record {
      routes = subst (λ (y : ℕ × List SentEnvelope). AreRoutes y.0 y.1 items) (λ i. (by i, posted i)) c.args.self.now.routes;
      was_seen_closed = subst (λ (l : List SentEnvelope). were_seen_closed (pass_view c.args.self.now.registrar.pass).log (dead_letters l) ≡ true) posted
          c.args.self.now.was_seen_closed;
      bounded = subst (λ (l : List SentEnvelope). are_of_bounded (receiving_queues items) (dead_letters l) ≡ true) posted c.args.self.now.bounded;
    }

pub returns-in_err-ready-clause-sent : goal.returns-in_err-ready-clause-sent
returns-in_err-ready-clause-sent g c = no-answer _ c.from_residual.result c.from_residual.ensures.0

pub returns-in_err-ready-clause-discharged : goal.returns-in_err-ready-clause-discharged
returns-in_err-ready-clause-discharged g c = no-answer _ c.from_residual.result c.from_residual.ensures.0

pub returns-in_err-ready-clause-leaves : goal.returns-in_err-ready-clause-leaves
returns-in_err-ready-clause-leaves g c = record {
  same_gates = (refl, refl);
  still = λ id owed. owed;
  registered =
      let registrar = c.args.self.now.registrar in
      registers-nobody g.W.RunQueue.pushed g.W.RunQueue.refused c.args.ticket.to.0 registrar registrar refl refl;
  handed =
      let registrar = c.args.self.now.registrar in
      loses-looked g.W.RunQueue.pushed g.W.RunQueue.refused registrar registrar refl refl refl refl;
  same = (c.ready.ensures.same.0, refl);
  keeps = c.ready.ensures.keeps;
  queues = refl;
}

-- ---- what the steps ask for

pub note_sent-requires-clause-same_gates : goal.note_sent-requires-clause-same_gates
note_sent-requires-clause-same_gates g c = c.requires.same_gates.0

pub note_sent-requires-clause-present : goal.note_sent-requires-clause-present
note_sent-requires-clause-present g c = c.requires.present.1

pub overflow_sub-to : goal.overflow_sub-to
overflow_sub-to g c = c.requires.present.0

pub index_mut-requires : goal.index_mut-requires
index_mut-requires g c = place-within c.args.ticket.to.0 _ _ c.requires.all c.requires.present.0 c.requires.present.1

pub record_queued-requires-clause-next : goal.record_queued-requires-clause-next
record_queued-requires-clause-next g c = (ap (λ (x : Envelope). x.by) c.next-envelope.ensures, ap (λ (x : Envelope). x.number) c.next-envelope.ensures)

pub record_queued-requires-clause-number : goal.record_queued-requires-clause-number
record_queued-requires-clause-number g c = c.in_ok-ready.ensures.number

pub register-requires-clause-same_gates : goal.register-requires-clause-same_gates
register-requires-clause-same_gates g c = (c.note_sent.ensures.same_gates ∙ c.requires.same_gates.0, c.requires.same_gates.1)

pub register-requires-clause-present : goal.register-requires-clause-present
register-requires-clause-present g c = (c.requires.present.1, c.requires.present.2)

pub record_dead-requires-clause-next : goal.record_dead-requires-clause-next
record_dead-requires-clause-next g c = (ap (λ (x : Envelope). x.by) c.next-envelope.ensures, ap (λ (x : Envelope). x.number) c.next-envelope.ensures)

pub record_dead-requires-clause-number : goal.record_dead-requires-clause-number
record_dead-requires-clause-number g c = c.in_ok-ready.ensures.number

pub record_dead-requires-clause-room : goal.record_dead-requires-clause-room
record_dead-requires-clause-room g c = c.in_ok-ready.ensures.room

pub note_unsent-requires-clause-same_gates : goal.note_unsent-requires-clause-same_gates
note_unsent-requires-clause-same_gates g c = c.note_sent.ensures.same_gates ∙ c.requires.same_gates.0

pub note_unsent-requires-clause-present : goal.note_unsent-requires-clause-present
note_unsent-requires-clause-present g c = c.requires.present.1

pub note_unsent-requires-clause-sending : goal.note_unsent-requires-clause-sending
note_unsent-requires-clause-sending g c =
    is-sending c.args.ticket.to.0 (pass_view c.args.self.now.registrar.pass) (pass_view c.note_sent.new.pass) c.note_sent.ensures.known

pub register-requires-in-Err-clause-same_gates : goal.register-requires-in-Err-clause-same_gates
register-requires-in-Err-clause-same_gates g c =
    (c.note_unsent.ensures.same_gates ∙ (c.note_sent.ensures.same_gates ∙ c.requires.same_gates.0), c.requires.same_gates.1)

pub register-requires-in-Err-clause-present : goal.register-requires-in-Err-clause-present
register-requires-in-Err-clause-present g c = (c.requires.present.1, c.requires.present.2)

-- ---- what did not change, and what is owed

pub returns-in-Ok-clause-refused : goal.returns-in-Ok-clause-refused
returns-in-Ok-clause-refused g c = tt

pub returns-in-Ok-clause-discharged : goal.returns-in-Ok-clause-discharged
returns-in-Ok-clause-discharged g c = c.register.ensures.discharged

pub returns-in-Ok-clause-leaves : goal.returns-in-Ok-clause-leaves
returns-in-Ok-clause-leaves g c = record {
  same_gates = (c.register.ensures.registers.same_gates.0 ∙ c.note_sent.ensures.same_gates, c.register.ensures.registers.same_gates.1);
  still = still-registered _ _ _ _ c.register.ensures.registered;
  registered = (c.register.result, c.register.ensures.registered);
  handed =
      let known = c.note_sent.ensures.known in
      hands-later c.args.ticket.to.0 _ _ _ (pass_view c.note_sent.new.pass) _ c.register.result (ap (λ (v : View). v.got) known)
      (ap (λ (v : View). v.returned) known) c.register.ensures.handed;
  same = (c.record_queued.ensures.same_sender ∙ c.ready.ensures.same.0, refl);
  keeps = c.record_queued.ensures.keeps ∙ c.ready.ensures.keeps;
  queues =
      let id = c.args.ticket.to.0 in
      let items = c.args.self.now.sends.items in
      let old = c.index_mut.result.now in
      let lt : id - 1 < length items = omega (arith, c.requires.all, c.requires.present.0, c.requires.present.1) in
      queues-set items (id - 1) old c.put.new.self (slice_get_read items (length items) (id - 1) old refl lt c.index_mut.ensures.value)
      (ap (λ (s : SendPassView). s.queue) c.in-Ok.ensures.pushed);
}

pub returns-in-Err-clause-refused : goal.returns-in-Err-clause-refused
returns-in-Err-clause-refused g c = tt

pub returns-in-Err-clause-discharged : goal.returns-in-Err-clause-discharged
returns-in-Err-clause-discharged g c = c.register-in-Err.ensures.discharged

pub returns-in-Err-clause-leaves : goal.returns-in-Err-clause-leaves
returns-in-Err-clause-leaves g c = record {
  same_gates = (
    c.register-in-Err.ensures.registers.same_gates.0 ∙ (c.note_unsent.ensures.same_gates ∙ c.note_sent.ensures.same_gates),
    c.register-in-Err.ensures.registers.same_gates.1,
  );
  still = still-registered _ _ _ _ c.register-in-Err.ensures.registered;
  registered = (c.register-in-Err.result, c.register-in-Err.ensures.registered);
  handed =
      let known = c.note_sent.ensures.known in let back = c.note_unsent.ensures.known in
      hands-later c.args.ticket.to.0 _ _ _ (pass_view c.note_unsent.new.pass) _ c.register-in-Err.result
      (ap (λ (v : View). v.got) back ∙ ap (λ (v : View). v.got) known) (ap (λ (v : View). v.returned) back ∙ ap (λ (v : View). v.returned) known)
      c.register-in-Err.ensures.handed;
  same = (c.record_dead.ensures.same_sender ∙ c.ready.ensures.same.0, refl);
  keeps = c.record_dead.ensures.keeps ∙ c.ready.ensures.keeps;
  queues =
      let id = c.args.ticket.to.0 in
      let items = c.args.self.now.sends.items in
      let old = c.index_mut.result.now in
      let lt : id - 1 < length items = omega (arith, c.requires.all, c.requires.present.0, c.requires.present.1) in
      queues-set items (id - 1) old c.put.new.self (slice_get_read items (length items) (id - 1) old refl lt c.index_mut.ensures.value)
      (ap (λ (s : SendPassView). s.queue) c.in-Err.ensures.pushed);
}
