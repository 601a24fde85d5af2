use Rattle.std.proofs.lemmas.Result.{on_ok_weaker, err_from_is_err_and}
use Rattle.mb_gate.specs.Accessors.{actors_of}
use Rattle.std.proofs.Common.{◌≡◌, ◌⊎◌, ◌∙◌, Bool, false, inl, inr, subst, sym, true}
use Rattle.std.specs.Prelude.{IfErr}
use Rattle.mb_system.specs.Members.{sender_caller}
use Rattle.mb_system.specs.Obligations.{HasRetried}
use Rattle.mb_dispatch.specs.Senders.{CarriesOutAndRetries}
use Rattle.mb_register.proofs.ClaimCounts.{loses-then}
use Rattle.mb_system.proofs.Obligations.{obligations-then}
use Rattle.mb_dispatch.proofs.Breaking.{job-owes}
use Rattle.mb_dispatch.proofs.Sending.{sent-still}
use Rattle.mb_dispatch.specs.Faults.{BreaksJob}
use Rattle.mb_dispatch.proofs.Sides.{on_err}
use Rattle.mb_dispatch.proofs.job.send_and_retry.Goals as goal

pub returns-clause-done : goal.returns-clause-done
returns-clause-done g c =
    let did = c.retry_refused.ensures in let sent = c.in_ok-send_all.ensures.done in let gates = c.args.system.now.gates in
    let orders = c.args.orders.now in let old = c.args.sender.now in let between = c.send_all.new.sender in let new = c.retry_refused.new.sender in
    let all : HasRetried (actors_of gates) (sender_caller between.registrar) (sender_caller new.registrar) → CarriesOutAndRetries gates orders old new =
    λ retried. record {
      sent = sent-still orders old between new did.sends_nothing.same.1 did.looks_for_work.looks sent.sent;
      nobody = retried.done;
      obligations = obligations-then (actors_of gates) (sender_caller old.registrar) (sender_caller between.registrar) (sender_caller new.registrar)
          sent.obligations did.forgets_nothing.obligations;
    } in
    on_ok_weaker c.retry_refused.result all did.retried

pub returns-clause-same_gates : goal.returns-clause-same_gates
returns-clause-same_gates g c = c.retry_refused.ensures.sends_nothing.same_gates

pub returns-clause-same_sender : goal.returns-clause-same_sender
returns-clause-same_sender g c = c.retry_refused.ensures.sends_nothing.same_sender ∙ c.send_all.ensures.keeps.same_sender

pub returns-in_err-send_all-clause-same_gates : goal.returns-in_err-send_all-clause-same_gates
returns-in_err-send_all-clause-same_gates g c = c.send_all.ensures.keeps.same_gates

pub returns-in_err-send_all-clause-same_sender : goal.returns-in_err-send_all-clause-same_sender
returns-in_err-send_all-clause-same_sender g c = c.send_all.ensures.keeps.same_sender

pub returns-clause-fault : goal.returns-clause-fault
returns-clause-fault g c =
    let did = c.retry_refused.ensures in let orders = c.args.orders.now in let old = c.args.sender.now in let new = c.retry_refused.new.sender in
    job-owes c.args.system.now.gates orders old new _ (sender_caller c.send_all.new.sender.registrar).account c.retry_refused.result did.stops did.refused
    (sent-still orders old c.send_all.new.sender new did.sends_nothing.same.1 did.looks_for_work.looks c.in_ok-send_all.ensures.done.sent)

pub returns-in_err-send_all-clause-fault : goal.returns-in_err-send_all-clause-fault
returns-in_err-send_all-clause-fault g c =
    let breaks = BreaksJob c.args.system.now.gates c.args.orders.now c.args.sender.now c.send_all.new.sender in
    let p = err_from_is_err_and c.from_residual.result c.from_residual.ensures.1 in
    subst (λ r. IfErr r breaks) (sym p.1) (subst breaks (sym p.2) (inl c.in_err-send_all.ensures.reason))

pub returns-clause-stopped : goal.returns-clause-stopped
returns-clause-stopped g c =
    let did = c.retry_refused.ensures in let orders = c.args.orders.now in let old = c.args.sender.now in let new = c.retry_refused.new.sender in
    on_err c.retry_refused.result
    (inl (sent-still orders old c.send_all.new.sender new did.sends_nothing.same.1 did.looks_for_work.looks c.in_ok-send_all.ensures.done.sent))

pub returns-in_err-send_all-clause-stopped : goal.returns-in_err-send_all-clause-stopped
returns-in_err-send_all-clause-stopped g c = on_err c.from_residual.result (inr c.in_err-send_all.ensures.stopped)

-- who was in the set, and was not forgotten
not-forgotten : {P Q : Type 0} (owed : Bool) → P ⊎ ((owed ≡ false) × Q) → owed ≡ true → P
not-forgotten owed (inl p) was = p
not-forgotten owed (inr kept) was = let clash : true ≡ false = sym was ∙ kept.0 in absurd (cc)

pub returns-clause-still : goal.returns-clause-still
returns-clause-still g c =
    let kept = c.retry_refused.ensures.forgets_nothing.obligations in
    λ id lt was. not-forgotten _ (kept id lt) (c.send_all.ensures.keeps.owed.still id was)

pub returns-in_err-send_all-clause-still : goal.returns-in_err-send_all-clause-still
returns-in_err-send_all-clause-still g c = λ id lt was. inr (c.send_all.ensures.keeps.owed.still id was)

pub returns-clause-claims : goal.returns-clause-claims
returns-clause-claims g c = loses-then _ _ _ _ _ _ c.send_all.ensures.keeps.claims c.retry_refused.ensures.forgets_nothing.handed

pub returns-in_err-send_all-clause-claims : goal.returns-in_err-send_all-clause-claims
returns-in_err-send_all-clause-claims g c = c.send_all.ensures.keeps.claims
