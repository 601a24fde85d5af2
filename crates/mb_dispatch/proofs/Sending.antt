-- A sender that carries out its orders, one after another.
use Rattle.std.proofs.Common.{◌≡◌, ◌≢◌, ◌⊎◌, List, [], ◌∷◌, ◌++◌, Bool, true, false, ℕ, ap, sym, refl, ◌∙◌, subst, append_assoc, Option}
use Rattle.std.proofs.Common.{◌+◌, ◌<◌, zero, suc, arith, take, drop, get_or, length}
use Rattle.std.specs.Prelude.{Err, Result, Some, reverse}
use Rattle.std.specs.Global.{Box}
use Rattle.std.proofs.lemmas.List.{append-nil, drop_more, map-append, reverse-append, take-append-drop}
use Rattle.mb_msg.specs.declared.dead_letter.DeadLetterReason.{DeadLetterReason}
use Rattle.mb_msg.specs.declared.dead_letter.DeadLetterReason.TheVariants as why
use Rattle.mb_msg.specs.Payload.{body_of}
use Rattle.mb_msg.specs.declared.envelope.Body.{Body}
use Rattle.mb_msg.specs.declared.payload.Payload.{Payload}
use Rattle.mb_msg.specs.declared.envelope.Envelope.{Envelope}
use Rattle.mb_msg.specs.declared.id.ActorId.{ActorId}
use Rattle.mb_msg.specs.declared.id.SenderId.{SenderId}
use Rattle.mb_msg.specs.declared.system.SysMsg.TheVariants.{Terminate}
use Rattle.mb_journal.specs.declared.sent_envelope.SentEnvelope.{SentEnvelope}
use Rattle.mb_journal.specs.Accepted.{accepted}
use Rattle.mb_msg.specs.declared.order.Order.{Order}
use Rattle.mb_msg.specs.declared.order.OrderKind.{OrderKind}
use Rattle.mb_msg.specs.declared.order.OrderKind.TheVariants.{Tell, Stop}
use Rattle.mb_gate.specs.Accessors.{pass_view}
use Rattle.mb_gate.specs.Rule.{IsPart}
use Rattle.mb_gate.specs.View.{SentSystem, Observation, View, obligation_to}
use Rattle.mb_gate.specs.declared.gates.Gates.{Gates}
use Rattle.mb_home.specs.Contents.{Contents}
use Rattle.mb_status.specs.Mailbox.{word_of}
use Rattle.mb_register.specs.ActorSet.{has_actor}
use Rattle.mb_core.specs.Actor.{nothing}
use Rattle.mb_register.specs.Sending.{counts}
use Rattle.mb_register.specs.Views.{Does, GivesBackUnchanged}
use Rattle.mb_register.proofs.Unchanged.{unchanged-none, unchanged-then}
use Rattle.mb_register.proofs.Views.{looks-read}
use Rattle.mb_queue.specs.Passes.{SendPassView}
use Rattle.mb_send.specs.Answers.{FollowsLook, IsTold, Stops}
use Rattle.mb_send.specs.Faults.{OnlyLooked}
use Rattle.mb_send.specs.Posted.{envelope_of, posting}
use Rattle.mb_send.specs.declared.send_outcome.SendOutcome.{SendOutcome}
use Rattle.mb_send.specs.declared.send_error.SendError.{SendError}
use Rattle.mb_send.specs.declared.send_error.SendError.TheVariants.{NoMemory, NoSuchActor}
use Rattle.mb_send.specs.declared.ticket.Look.{Look}
use Rattle.mb_send.specs.declared.ticket.Look.TheVariants.{Open, Closed}
use Rattle.mb_system.specs.Obligations.{KeepsObligations}
use Rattle.mb_system.specs.Members.{OutsideSender, sender_caller}
use Rattle.mb_dispatch.specs.Orders.{CountsQueued, HasSent, HasSentUpTo, StopsWithin, addressed, order_for, over, addressed_system, terminates_of, terminates_of_one}
use Rattle.mb_dispatch.specs.Orders.{envelopes_of, envelopes_of_one}
use Rattle.mb_dispatch.specs.Faults.{IsRefusedFor, StopsFor}
use Rattle.mb_system.specs.declared.failure.RunError.{RunError}
use Rattle.mb_mailbox.specs.RunSends.{ended_in, listed_measure, refused_of}
use Rattle.mb_gate.specs.PutIn.{put_in}
use Rattle.mb_ghost.specs.Summed.{total}
use Rattle.mb_msg.specs.declared.system.SysMsg.{SysMsg}
use Rattle.mb_system.specs.OnlyLooks.{OnlyLooks}
use Rattle.mb_dispatch.proofs.Counts.{counts-none, counts-posting, counts-then, does-counts, looks-count}
use Rattle.mb_dispatch.proofs.Puts.{LogsAsSent, counts-handle-none, counts-put-none, does-log, logs-none, logs-then, looks-log}
use Rattle.mb_system.proofs.Obligations.{obligations-at}
use Rattle.mb_system.proofs.Saw.{saw-more, saw-same, saw-then}

accepted-append : (ps qs : List SentEnvelope) → addressed (accepted (ps ++ qs)) ≡ addressed (accepted ps) ++ addressed (accepted qs)
accepted-append ps qs =
    ap addressed (map-append (λ (p : SentEnvelope). p.envelope) ps qs) ∙ map-append (λ (e : Envelope). (e.to, e.body)) (accepted ps) (accepted qs)

envelopes-append : (xs ys : List Order) → envelopes_of (xs ++ ys) ≡ envelopes_of xs ++ envelopes_of ys
envelopes-append [] ys = refl
envelopes-append (o ∷ xs) ys =
    let all = over o.times (envelopes_of_one o.to o.what) in
    ap (λ l. all ++ l) (envelopes-append xs ys) ∙ sym (append_assoc all (envelopes_of xs) (envelopes_of ys))

terminates-append : (xs ys : List Order) → terminates_of (xs ++ ys) ≡ terminates_of xs ++ terminates_of ys
terminates-append [] ys = refl
terminates-append (o ∷ xs) ys =
    let all = over o.times (terminates_of_one o.to o.what) in
    ap (λ l. all ++ l) (terminates-append xs ys) ∙ sym (append_assoc all (terminates_of xs) (terminates_of ys))

-- a list once more stands behind it so many times over
over-next : {T : Type 0} (n : ℕ) (xs : List T) → over n xs ++ xs ≡ over (suc n) xs
over-next zero xs = sym (append-nil xs)
over-next (suc n) xs = append_assoc xs (over n xs) xs ∙ ap (λ l. xs ++ l) (over-next n xs)

over-more : {T : Type 0} (n : ℕ) (xs : List T) → over n xs ++ (over 1 xs ++ []) ≡ over (n + 1) xs ++ []
over-more n xs =
    ap (λ l. over n xs ++ l) (append-nil (over 1 xs) ∙ append-nil xs) ∙ over-next n xs
    ∙ ap (λ k. over k xs) (let e : suc n ≡ n + 1 = omega arith in e) ∙ sym (append-nil (over (n + 1) xs))

-- nothing was to be sent
pub sent-none : (s : OutsideSender) → HasSent [] s s
sent-none s = record {
  by = refl;
  keep_letters = refl;
  more = [];
  posted = sym (append-nil s.send_log.posted);
  accepted_are = refl;
  counted = counts-none (pass_view s.registrar.pass);
  system_sent = refl;
  put = (logs-none (pass_view s.registrar.pass)).put;
  refused = (logs-none (pass_view s.registrar.pass)).refused;
  log_kept = saw-same _;
  share = refl;
  gives_back = unchanged-none _ _ refl;
}

logs-of : (xs : List Order) (a b : OutsideSender) → HasSent xs a b → LogsAsSent (pass_view a.registrar.pass) (pass_view b.registrar.pass)
logs-of xs a b p = record { put = p.put; refused = p.refused }

logs-on : {xs ys : List Order} (a b c : OutsideSender) → HasSent xs a b → HasSent ys b c
    → LogsAsSent (pass_view a.registrar.pass) (pass_view c.registrar.pass)
logs-on {xs} {ys} a b c p q =
    logs-then (pass_view a.registrar.pass) (pass_view b.registrar.pass) (pass_view c.registrar.pass) (logs-of xs a b p)
    (logs-of ys b c q)

-- first this was sent, and then that
pub sent-then : (xs ys : List Order) (a b c : OutsideSender) → HasSent xs a b → HasSent ys b c → HasSent (xs ++ ys) a c
sent-then xs ys a b c p q = record {
  by = q.by ∙ p.by;
  keep_letters = q.keep_letters ∙ p.keep_letters;
  more = p.more ++ q.more;
  posted = q.posted ∙ ap (λ l. l ++ q.more) p.posted ∙ append_assoc a.send_log.posted p.more q.more;
  accepted_are = accepted-append p.more q.more ∙ (λ i. p.accepted_are i ++ q.accepted_are i) ∙ sym (envelopes-append xs ys);
  counted =
      counts-then p.more q.more (pass_view a.registrar.pass) (pass_view b.registrar.pass) (pass_view c.registrar.pass) p.counted
      q.counted;
  system_sent =
      q.system_sent ∙ ap (λ l. reverse (terminates_of ys) ++ l) p.system_sent ∙ sym (append_assoc (reverse (terminates_of ys)) (reverse (terminates_of xs)) _)
      ∙ ap (λ l. l ++ addressed_system (pass_view a.registrar.pass).sent_system)
      (sym (reverse-append (terminates_of xs) (terminates_of ys)) ∙ ap reverse (sym (terminates-append xs ys)));
  put = (logs-on a b c p q).put;
  refused = (logs-on a b c p q).refused;
  log_kept = saw-then _ _ _ p.log_kept q.log_kept;
  share = q.share ∙ p.share;
  gives_back = unchanged-then _ _ _ p.gives_back q.gives_back;
}

-- other orders that come to the same were sent
sent-alike : (xs ys : List Order) (a b : OutsideSender) → envelopes_of xs ≡ envelopes_of ys → terminates_of xs ≡ terminates_of ys → HasSent xs a b → HasSent ys a b
sent-alike xs ys a b envelopes terminates p = record {
  by = p.by;
  keep_letters = p.keep_letters;
  more = p.more;
  posted = p.posted;
  accepted_are = p.accepted_are ∙ envelopes;
  counted = p.counted;
  system_sent = p.system_sent ∙ ap (λ l. reverse l ++ addressed_system (pass_view a.registrar.pass).sent_system) terminates;
  put = p.put;
  refused = p.refused;
  log_kept = p.log_kept;
  share = p.share;
  gives_back = p.gives_back;
}

-- an order that says so was sent no time
pub sent-never : (to : ActorId) (what : OrderKind) (s : OutsideSender) → HasSent (order_for to what 0 ∷ []) s s
sent-never to what s = sent-alike [] (order_for to what 0 ∷ []) s s refl refl (sent-none s)

-- it was sent once more
pub sent-again : (to : ActorId) (what : OrderKind) (n : ℕ) (a b c : OutsideSender) → HasSent (order_for to what n ∷ []) a b
    → HasSent (order_for to what 1 ∷ []) b c → HasSent (order_for to what (n + 1) ∷ []) a c
sent-again to what n a b c before more =
    sent-alike (order_for to what n ∷ order_for to what 1 ∷ []) (order_for to what (n + 1) ∷ []) a c
    (over-more n (envelopes_of_one to what)) (over-more n (terminates_of_one to what))
    (sent-then (order_for to what n ∷ []) (order_for to what 1 ∷ []) a b c before more)

-- it stopped at the order of this place
module _ (orders : List Order) (i : ℕ) (d : Order) (a b c : OutsideSender) (within : i < length orders) (before : HasSent (take i orders) a b)
    (part : HasSentUpTo [] (get_or orders i d) b c) where
  abbrev stops-at : StopsWithin orders a c
  stops-at =
      let next = get_or orders i d in record {
        done = take i orders;
        next = next;
        left = drop (i + 1) orders;
        are = sym (take-append-drop i orders) ∙ ap (λ l. take i orders ++ l) (drop_more orders i d within);
        sent = record {
          times = part.times;
          fewer = part.fewer;
          sent = sent-then (take i orders) (order_for next.to next.what part.times ∷ []) a b c before part.sent;
        };
      }

  pub stops-within : StopsWithin orders a c
  stops-within = stops-at

  -- for this reason
  pub stops-for : (gates : Gates (Box Contents)) (fault : RunError) → IsRefusedFor gates (get_or orders i d).to (get_or orders i d).what fault
      → StopsFor gates orders a c fault
  stops-for gates fault why = (stops-at, why)

-- it sent no envelope and no system message since, kept its share, and gave each cell back as it was taken
pub sent-still : (xs : List Order) (a b c : OutsideSender) → c.send_log ≡ b.send_log
    → OnlyLooks (pass_view b.registrar.pass) (pass_view c.registrar.pass) → HasSent xs a b → HasSent xs a c
sent-still xs a b c send_log only p =
    let logs = logs-then (pass_view a.registrar.pass) (pass_view b.registrar.pass) (pass_view c.registrar.pass) (logs-of xs a b p)
    (looks-log (pass_view b.registrar.pass) (pass_view c.registrar.pass) only) in record {
      by = ap (λ k. k.by) send_log ∙ p.by;
      keep_letters = ap (λ k. k.dead.retention) send_log ∙ p.keep_letters;
      more = p.more;
      posted = ap (λ k. k.posted) send_log ∙ p.posted;
      accepted_are = p.accepted_are;
      counted =
          subst (λ more. CountsQueued more (pass_view a.registrar.pass) (pass_view c.registrar.pass)) (append-nil p.more)
          (counts-then p.more [] (pass_view a.registrar.pass) (pass_view b.registrar.pass) (pass_view c.registrar.pass) p.counted
          (looks-count (pass_view b.registrar.pass) (pass_view c.registrar.pass) only));
      system_sent = ap addressed_system only.sent_system ∙ p.system_sent;
      put = logs.put;
      refused = logs.refused;
      log_kept = saw-then _ _ _ p.log_kept (saw-more only.looks _ _ only.log);
      share = only.share ∙ p.share;
      gives_back = unchanged-then _ _ _ p.gives_back only.gives_back;
    }

-- it put what it sent, sees still what it saw, owes the others what it did, has the share that it had, and gave each cell back as it was taken
pub record GoesOnAt (id : ℕ) (old new : View) : Type 0 where
  pub logs : LogsAsSent old new
  pub log_kept : IsPart old.log new.log
  pub others : (other : ℕ) → other ≢ id → obligation_to other new ≡ obligation_to other old
  pub share : new.share ≡ old.share
  pub gives_back : GivesBackUnchanged old new

does-at : (id : ℕ) (did : List Observation) (sent : List SentSystem) (old new : View) → Does id did sent old new
    → ((to : ℕ) (measure : SysMsg → ℕ) → total (put_in to (λ m. measure m.1)) did ≡ total (listed_measure to measure) sent)
    → ((to : ℕ) → total (ended_in to) did ≡ total (refused_of to) sent) → GoesOnAt id old new
does-at id did sent old new does same noted = record {
  logs = does-log id did sent old new does same noted;
  log_kept = saw-more (does.looks ++ did) old.log new.log does.log;
  others = does.others;
  share = does.share;
  gives_back = does.gives_back;
}

then-at : (id : ℕ) (a b c : View) → GoesOnAt id a b → GoesOnAt id b c → GoesOnAt id a c
then-at id a b c p q = record {
  logs = logs-then a b c p.logs q.logs;
  log_kept = saw-then a.log b.log c.log p.log_kept q.log_kept;
  others = λ other ne. q.others other ne ∙ p.others other ne;
  share = q.share ∙ p.share;
  gives_back = unchanged-then a b c p.gives_back q.gives_back;
}

-- an envelope was sent by a tell
module _ (by : SenderId) (number : ℕ) (to : ActorId) (body : Body) (posted posted' : List SentEnvelope) where
  abbrev pub IsOnePosted : View → View → Type 0
  IsOnePosted old new = (refused : Option DeadLetterReason) × (posted' ≡ posted ++ posting (envelope_of by to number body) refused ∷ [])
      × CountsQueued (posting (envelope_of by to number body) refused ∷ []) old new

  pub one-posted : (sends : List SendPassView) (old new : View) (put : SendOutcome) → IsTold by number to body posted posted' sends old new put
      → IsOnePosted old new × (new.sent_system ≡ old.sent_system) × GoesOnAt to.0 old new
  one-posted sends old new put told = by_look told.look told.follows
    where
      same : told.between.sent_system ≡ old.sent_system
      same = ap (λ (v : View). v.sent_system) told.seen.read

      looked : Does to.0 [] [] old told.between
      looked = looks-read to.0 (word_of told.seen.seen) old told.between told.seen.read

      read : GoesOnAt to.0 old told.between
      read = does-at to.0 [] [] old told.between looked (λ id measure. refl) (λ id. refl)

      reading-counts : (ps : List SentEnvelope) → CountsQueued ps told.between new → CountsQueued ps old new
      reading-counts ps then = counts-then [] ps old told.between new (does-counts to.0 [] [] [] old told.between looked (λ actor. refl)) then

      by_look : (look : Look) → FollowsLook by number to body posted posted' sends told.between new put look
          → IsOnePosted old new × (new.sent_system ≡ old.sent_system) × GoesOnAt to.0 old new
      by_look (Open ticket) sent = (
        (
          sent.refused,
          sent.posted_is,
          reading-counts (posting (envelope_of by to number body) sent.refused ∷ [])
              (does-counts to.0 (counts to.0 sent.refused) [] (posting (envelope_of by to number body) sent.refused ∷ []) told.between new sent.counted
              (counts-posting (envelope_of by to number body) sent.refused)),
        ),
        sent.counted.sent_system ∙ same,
        then-at to.0 old told.between new read (does-at to.0 (counts to.0 sent.refused) [] told.between new sent.counted
            (counts-put-none to.0 sent.refused) (counts-handle-none to.0 sent.refused)),
      )
      by_look Closed is_dead = (
        (
          Some why.Closed,
          is_dead.0.posted_is,
          reading-counts (posting (envelope_of by to number body) (Some why.Closed) ∷ [])
              (subst (CountsQueued (posting (envelope_of by to number body) (Some why.Closed) ∷ []) told.between) (sym is_dead.1)
              (counts-none told.between)),
        ),
        ap (λ (v : View). v.sent_system) is_dead.1 ∙ same,
        subst (GoesOnAt to.0 old) (sym is_dead.1) read,
      )

pub sent-told : (to : ActorId) (payload : Payload) (put : SendOutcome) (a b : OutsideSender) → b.send_log.by ≡ a.send_log.by
    → b.send_log.dead.retention ≡ a.send_log.dead.retention
    → IsTold a.send_log.by a.send_log.sent to (body_of payload) a.send_log.posted b.send_log.posted a.sends.items
    (pass_view a.registrar.pass) (pass_view b.registrar.pass) put → HasSent (order_for to (Tell payload) 1 ∷ []) a b
sent-told to payload put a b by keep_letters told =
    let one = one-posted a.send_log.by a.send_log.sent to (body_of payload) a.send_log.posted b.send_log.posted a.sends.items
    (pass_view a.registrar.pass) (pass_view b.registrar.pass) put told in
    record {
      by = by;
      keep_letters = keep_letters;
      more = posting (envelope_of a.send_log.by to a.send_log.sent (body_of payload)) one.0.0 ∷ [];
      posted = one.0.1;
      accepted_are = refl;
      counted = one.0.2;
      system_sent = ap addressed_system one.1;
      put = one.2.logs.put;
      refused = one.2.logs.refused;
      log_kept = one.2.log_kept;
      share = one.2.share;
      gives_back = one.2.gives_back;
    }

-- a tell that failed sent nothing
module _ (to : ActorId) (a b : OutsideSender) where
  sent-looked : OnlyLooked to a b → HasSent [] a b
  sent-looked looked =
      let old = pass_view a.registrar.pass in let new = pass_view b.registrar.pass in
      let did = looks-read to.0 (word_of looked.seen.seen) old new looked.seen.read in
      let read = does-at to.0 [] [] old new did (λ id measure. refl) (λ id. refl) in
      record {
        by = looked.send_log.by;
        keep_letters = looked.send_log.keeps_is;
        more = [];
        posted = looked.send_log.posted ∙ sym (append-nil a.send_log.posted);
        accepted_are = refl;
        counted = does-counts to.0 [] [] [] old new did (λ actor. refl);
        system_sent = ap (λ (v : View). addressed_system v.sent_system) looked.seen.read;
        put = read.logs.put;
        refused = read.logs.refused;
        log_kept = read.log_kept;
        share = read.share;
        gives_back = read.gives_back;
      }

  pub sent-nothing : (r : Result SendOutcome SendError) (error : SendError) → r ≡ Err error → (r ≡ Err NoSuchActor → b ≡ a)
      → (r ≡ Err NoMemory → OnlyLooked to a b) → HasSent [] a b
  sent-nothing r NoSuchActor was unknown unsent = subst (λ s. HasSent [] a s) (sym (unknown was)) (sent-none a)
  sent-nothing r NoMemory was unknown unsent = sent-looked (unsent was)

-- a Terminate was sent
sent-terminate : (id : ℕ) (old new : View) (stopped : Bool) → Stops id old new stopped
    → (addressed_system new.sent_system ≡ (id, Terminate) ∷ addressed_system old.sent_system) × GoesOnAt id old new × CountsQueued [] old new
sent-terminate id old new true s = (
  ap addressed_system s.1.sent_system,
  does-at id _ _ old new s.1 (λ to measure. refl) (λ to. refl),
  does-counts id _ _ [] old new s.1 (λ actor. refl),
)
sent-terminate id old new false s = (
  ap addressed_system s.sent_system,
  does-at id _ _ old new s (λ to measure. refl) (λ to. refl),
  does-counts id _ _ [] old new s (λ actor. refl),
)

pub sent-stopped : (to : ActorId) (stopped : Bool) (a b : OutsideSender) → b.send_log ≡ a.send_log
    → Stops to.0 (pass_view a.registrar.pass) (pass_view b.registrar.pass) stopped → HasSent (order_for to Stop 1 ∷ []) a b
sent-stopped to stopped a b send_log s = let stop = sent-terminate to.0 (pass_view a.registrar.pass) (pass_view b.registrar.pass) stopped s in record {
  by = ap (λ k. k.by) send_log;
  keep_letters = ap (λ k. k.dead.retention) send_log;
  more = [];
  posted = ap (λ k. k.posted) send_log ∙ sym (append-nil a.send_log.posted);
  accepted_are = refl;
  counted = stop.2;
  system_sent = stop.0;
  put = stop.1.logs.put;
  refused = stop.1.logs.refused;
  log_kept = stop.1.log_kept;
  share = stop.1.share;
  gives_back = stop.1.gives_back;
}

-- a sender that looks at the receiver and still owes all looks that it owed forgets nothing
module _ (actors : ℕ) (to : ActorId) (a b : OutsideSender) (discharged : (obligation_to to.0 (pass_view b.registrar.pass) ≡ nothing) ⊎ (has_actor b.registrar.owed to.0 ≡ true)) (still : (id : ℕ) → has_actor a.registrar.owed id ≡ true → has_actor b.registrar.owed id ≡ true) where
  pub obligations-told : (body : Body) (put : SendOutcome) → IsTold a.send_log.by a.send_log.sent to body a.send_log.posted b.send_log.posted
      a.sends.items (pass_view a.registrar.pass) (pass_view b.registrar.pass) put
      → KeepsObligations actors (sender_caller a.registrar) (sender_caller b.registrar)
  obligations-told body put told =
      let one = one-posted a.send_log.by a.send_log.sent to body a.send_log.posted b.send_log.posted a.sends.items
      (pass_view a.registrar.pass) (pass_view b.registrar.pass) put told in
      obligations-at actors to.0 (sender_caller a.registrar) (sender_caller b.registrar) one.2.others discharged still

  pub obligations-stopped : (stopped : Bool) → Stops to.0 (pass_view a.registrar.pass) (pass_view b.registrar.pass) stopped
      → KeepsObligations actors (sender_caller a.registrar) (sender_caller b.registrar)
  obligations-stopped stopped s =
      let stop = sent-terminate to.0 (pass_view a.registrar.pass) (pass_view b.registrar.pass) stopped s in
      obligations-at actors to.0 (sender_caller a.registrar) (sender_caller b.registrar) stop.1.others discharged still
