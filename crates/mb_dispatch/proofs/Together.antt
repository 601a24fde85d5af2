-- All that belongs to a system still does, after something was done with its handles and its senders.
use Rattle.std.proofs.Common.{◌≡◌, ◌≢◌, ◌+◌, ◌-◌, ◌<◌, ◌≤◌, List, ℕ, Vec, length, map, get_or, set, sym, ap, ◌∙◌, subst}
use Rattle.std.specs.Prelude.{All, AllPairs}
use Rattle.std.specs.Global.{Box, Global}
use Rattle.std.specs.Vec.{with_items}
use Rattle.std.proofs.Math.Seq.{map-set_same}
use Rattle.std.proofs.lemmas.List.{with_items_is}
use Rattle.std.proofs.lemmas.List.Elements.{All-map, All-same, All-set}
use Rattle.mb_msg.specs.Limits.{most_actors}
use Rattle.mb_msg.specs.declared.id.SenderId.{SenderId}
use Rattle.mb_gate.specs.declared.gates.Gates.{Gates}
use Rattle.mb_home.specs.Contents.{Contents}
use Rattle.mb_system.specs.Belonging.{BelongsTogether}
use Rattle.mb_system.specs.Members.{AreHandlesOf, IsHandleOf, IsSenderOf, OutsideSender, handle_numbers}
use Rattle.mb_dispatch.specs.Jobs.{AreJobsOf, jobs_senders}
use Rattle.mb_system.specs.declared.built.Built.{Built}
use Rattle.mb_system.specs.declared.handle.WorkerHandle.{WorkerHandle}
use Rattle.mb_dispatch.specs.declared.job.Job.{Job}
use Rattle.mb_system.specs.declared.system.System.{System}
use Rattle.mb_dispatch.proofs.Alike.{all-alike, as-long, from-looks, look-alike, twice}

abbrev pub by_of : OutsideSender → SenderId
by_of s = s.send_log.by

abbrev pub AreSendersOf : Gates (Box Contents) → List OutsideSender → Type 0
AreSendersOf gates = All (λ (s : OutsideSender). IsSenderOf gates s)

module _ {A K : Type 0} where
  abbrev pub sender_in : Job A K → OutsideSender
  sender_in j = j.sender

  -- the handles and the senders are of the system still, and those are the same senders
  pub again : (old new : Built A K) → new.system ≡ old.system → AreHandlesOf old.system.gates new.handles.items
      → AreSendersOf old.system.gates new.senders.items → map by_of new.senders.items ≡ map by_of old.senders.items → BelongsTogether old
      → BelongsTogether new
  again old new same handles senders by was = record {
    handles = subst (λ (s : System A K). AreHandlesOf s.gates new.handles.items) (sym same) handles;
    senders = subst (λ (s : System A K). AreSendersOf s.gates new.senders.items) (sym same) senders;
    once = subst (AllPairs (λ a b. a ≢ b))
        (sym (look-alike by_of (λ (b : SenderId). b.0 - most_actors) new.senders.items old.senders.items by)) was.once;
    numbered = all-alike by_of (λ (b : SenderId). (most_actors ≤ b.0) × (b.0 < most_actors + new.system.senders)) new.senders.items
        old.senders.items by (subst (λ (s : System A K). All
        (λ (x : OutsideSender). (most_actors ≤ x.send_log.by.0) × (x.send_log.by.0 < most_actors + s.senders)) old.senders.items) (sym same)
        was.numbered);
  }

  -- the handle, or the sender, of this place did something
  pub handle-again : (old new : Built A K) (place : ℕ) (e : WorkerHandle A K) → new.system ≡ old.system → new.senders.items ≡ old.senders.items
      → new.handles.items ≡ set old.handles.items place e → IsHandleOf old.system.gates e.registrar → BelongsTogether old → BelongsTogether new
  handle-again old new place e same senders handles ours was =
      let P = λ (x : WorkerHandle A K). IsHandleOf old.system.gates x.registrar in
      let Q = λ (x : OutsideSender). IsSenderOf old.system.gates x in
      again old new same (All-same P new.handles.items (set old.handles.items place e) handles (All-set P old.handles.items place e ours was.handles))
      (All-same Q new.senders.items old.senders.items senders was.senders) (ap (map by_of) senders) was

  pub sender-again : (old new : Built A K) (place : ℕ) (s s' : OutsideSender) → new.system ≡ old.system → new.handles.items ≡ old.handles.items
      → new.senders.items ≡ set old.senders.items place s' → IsSenderOf old.system.gates s'
      → s'.send_log.by ≡ (get_or old.senders.items place s).send_log.by → BelongsTogether old → BelongsTogether new
  sender-again old new place s s' same handles senders ours by was =
      let P = λ (x : WorkerHandle A K). IsHandleOf old.system.gates x.registrar in
      let Q = λ (x : OutsideSender). IsSenderOf old.system.gates x in
      again old new same (All-same P new.handles.items old.handles.items handles was.handles)
      (All-same Q new.senders.items (set old.senders.items place s') senders (All-set Q old.senders.items place s' ours was.senders))
      (ap (map by_of) senders ∙ map-set_same by_of old.senders.items place s' s by) was

  -- jobs of a system's senders are the system's
  pub jobs-ours : (built : Built A K) (jobs : List (Job A K)) → map sender_in jobs ≡ built.senders.items → BelongsTogether built
      → AreJobsOf built.system.gates jobs
  jobs-ours built jobs are was =
      from-looks sender_in (λ (s : OutsideSender). IsSenderOf built.system.gates s) jobs
      (subst (AreSendersOf built.system.gates) (sym are) was.senders)

  -- all belongs together after a run, whatever that answered
  pub run-again : (old new : Built A K) (before after : List (Job A K)) → new.system ≡ old.system → AreHandlesOf old.system.gates new.handles.items
      → map sender_in before ≡ old.senders.items → AreJobsOf old.system.gates after → jobs_senders after ≡ jobs_senders before
      → new.senders.items ≡ map sender_in after → BelongsTogether old → BelongsTogether new
  run-again old new before after same handles were ours by are was =
      let Q = λ (x : OutsideSender). IsSenderOf old.system.gates x in
      again old new same handles (All-same Q new.senders.items (map sender_in after) are (All-map Q sender_in after ours))
      (ap (map by_of) are ∙ twice sender_in by_of after ∙ by ∙ sym (twice sender_in by_of before) ∙ ap (map by_of) were) was

  -- handles, and jobs, that were lent to a run as a slice come back
  pub handles-back : (v : Vec (WorkerHandle A K) Global) (lent new : List (WorkerHandle A K)) → lent ≡ v.items → handle_numbers new ≡ handle_numbers lent
      → (with_items v new).items ≡ new
  handles-back v lent new is same =
      with_items_is v new (as-long (λ (e : WorkerHandle A K). e.number) new lent same ∙ ap length is ∙ sym v.ok.0)

  pub jobs-back : (v : Vec (Job A K) Global) (lent new : List (Job A K)) → lent ≡ v.items → jobs_senders new ≡ jobs_senders lent
      → (with_items v new).items ≡ new
  jobs-back v lent new is same =
      with_items_is v new (as-long (λ (j : Job A K). j.sender.send_log.by) new lent same ∙ ap length is ∙ sym v.ok.0)
