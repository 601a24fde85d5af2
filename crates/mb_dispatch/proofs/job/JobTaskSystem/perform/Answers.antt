use Rattle.std.proofs.Common.{◌≡◌, List, inl, refl, subst}
use Rattle.std.specs.Global.{Box}
use Rattle.std.specs.Prelude.{Err, IfErr, Ok, OnErr, OnOk, Result}
use Rattle.mb_msg.specs.declared.order.Order.{Order}
use Rattle.mb_gate.specs.declared.gates.Gates.{Gates}
use Rattle.mb_home.specs.Contents.{Contents}
use Rattle.mb_system.specs.Members.{OutsideSender}
use Rattle.mb_system.specs.declared.failure.RunError.{RunError}
use Rattle.mb_dispatch.specs.Faults.{BreaksJob}
use Rattle.mb_dispatch.specs.Jobs.{IsDone}
use Rattle.mb_dispatch.specs.Orders.{HasSent, HasSentSome}
use Rattle.mb_dispatch.specs.Senders.{CarriesOutAndRetries}
use Rattle.mb_dispatch.specs.declared.job.Job.{Job}
use Rattle.mb_dispatch.proofs.job.JobTaskSystem.perform.Goals as goal

is-done : {A K : Type 0} (gates : Gates (Box Contents)) (old new : Job A K) (orders : List Order) (r : Result (Unit {0}) RunError)
    → orders ≡ old.sends.items → new.sends ≡ old.sends → OnOk r (CarriesOutAndRetries gates orders old.sender new.sender) → OnOk r (IsDone gates old new)
is-done gates old new orders (Ok x) are same did =
    record {
      sent = subst (λ (l : List Order). HasSent l old.sender new.sender) are did.sent;
      nobody = did.nobody;
      obligations = did.obligations;
      sends = same;
    }
is-done gates old new orders (Err error) are same did = tt

sent-some : (gates : Gates (Box Contents)) (orders : List Order) (old new : OutsideSender) (r : Result (Unit {0}) RunError)
    → OnOk r (CarriesOutAndRetries gates orders old new) → OnErr r (HasSentSome orders old new) → HasSentSome orders old new
sent-some gates orders old new (Ok x) did stopped = inl did.sent
sent-some gates orders old new (Err error) did stopped = stopped

pub send_and_retry-outcome-requires : goal.send_and_retry-outcome-requires
send_and_retry-outcome-requires g c = record { same_gates = c.requires.ready }

pub returns-clause-keeps : goal.returns-clause-keeps
returns-clause-keeps g c =
    let did = c.send_and_retry-outcome.ensures in let old = c.args.self.now.sender in let new = c.send_and_retry-outcome.new.sender in record {
      same_gates = did.same_gates;
      same_sender = did.same_sender;
      sent = subst (λ (l : List Order). HasSentSome l old new) c.deref.ensures.value
          (sent-some c.args.shared.now.gates c.deref.result.now old new c.send_and_retry-outcome.result did.done did.stopped);
      still = did.still;
      sends = refl;
      claims = did.claims;
    }

pub returns-clause-done : goal.returns-clause-done
returns-clause-done g c =
    let did = c.send_and_retry-outcome.ensures in let old = c.args.self.now in
    is-done c.args.shared.now.gates old (record old { sender = c.send_and_retry-outcome.new.sender }) c.deref.result.now c.send_and_retry-outcome.result
    c.deref.ensures.value refl did.done

pub returns-clause-fails : goal.returns-clause-fails
returns-clause-fails g c =
    let old = c.args.self.now.sender in let new = c.send_and_retry-outcome.new.sender in
    subst (λ (l : List Order). IfErr c.send_and_retry-outcome.result (BreaksJob c.args.shared.now.gates l old new)) c.deref.ensures.value
    c.send_and_retry-outcome.ensures.fault
