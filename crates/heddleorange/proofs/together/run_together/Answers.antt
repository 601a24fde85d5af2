use Rattle.std.proofs.Common.{◌≡◌, inl, inr, ◌∙◌, ap, arith, length, map, refl, sym, subst}
use Rattle.std.proofs.lemmas.List.{with_items_is}
use Rattle.std.specs.Vec.{with_items}
use Rattle.mb_gate.specs.Untouched.{origin_of}
use Rattle.mb_shutdown.proofs.Lists.{length-mapped}
use Rattle.mb_system.specs.Members.{AreHandlesOf, StillSee, handle_numbers}
use Rattle.mb_dispatch.specs.Jobs.{AreDone, AreJobsOf, jobs_senders}
use Rattle.mb_dispatch.proofs.Together.{run-again}
use Rattle.heddleorange.specs.Sent.{HaveSent}
use Rattle.heddleorange.specs.Workers.{AllOnlyRuns}
use Rattle.heddleorange.proofs.BrokenOff.{jobs-broke}
use Rattle.heddleorange.proofs.Jobs.{jobs-ours, jobs-sent, sender_in}
use Rattle.heddleorange.proofs.Sent.{err-weaker, ok-both, orders_of}
use Rattle.heddleorange.proofs.together.run_together.Goals as goal

pub run-outcome-requires-clause-jobs : goal.run-outcome-requires-clause-jobs
run-outcome-requires-clause-jobs g c κs within =
    let built = c.args.built.now in
    let given = c.in-Ok-jobs_of.ensures.senders ∙ ap (λ v. v.items) c.replace-senders.ensures.value in
    subst (AreJobsOf built.system.gates) (sym c.deref_mut-2.ensures.value)
    (jobs-ours built.system.gates built.senders.items c.in-Ok-jobs_of.jobs.items given c.requires.together.senders)

pub run-outcome-requires-clause-handles : goal.run-outcome-requires-clause-handles
run-outcome-requires-clause-handles g c κs within =
    let built = c.args.built.now in
    subst (AreHandlesOf built.system.gates) (sym c.deref_mut.ensures.value) c.requires.together.handles

pub returns-in_default-clause-same_system : goal.returns-in_default-clause-same_system
returns-in_default-clause-same_system g c = record { system = refl; handles = refl; same_gates = c.requires.together.handles }

pub returns-in_default-clause-ran : goal.returns-in_default-clause-ran
returns-in_default-clause-ran g c = tt

pub returns-in_default-clause-fault : goal.returns-in_default-clause-fault
returns-in_default-clause-fault g c = inl (refl, refl)

pub returns-in_default-jobs_of-clause-same_system : goal.returns-in_default-jobs_of-clause-same_system
returns-in_default-jobs_of-clause-same_system g c = record { system = refl; handles = refl; same_gates = c.requires.together.handles }

pub returns-in_default-jobs_of-clause-ran : goal.returns-in_default-jobs_of-clause-ran
returns-in_default-jobs_of-clause-ran g c = tt

pub returns-in_default-jobs_of-clause-fault : goal.returns-in_default-jobs_of-clause-fault
returns-in_default-jobs_of-clause-fault g c = inl (refl, refl)

pub senders_of-requires : goal.senders_of-requires
senders_of-requires g c =
    let jobs = c.in-Ok-jobs_of.jobs in let long = c.run-outcome.auto.jobs ∙ ap length c.deref_mut-2.ensures.value in
    let items = ap length (with_items_is jobs c.run-outcome.new.jobs (long ∙ sym jobs.ok.0)) in
    let given = c.in-Ok-jobs_of.ensures.senders ∙ ap (λ v. v.items) c.replace-senders.ensures.value in
    let many = sym (length-mapped sender_in jobs.items) ∙ ap length given in let room = c.in-Ok.ensures.capacity in let all = c.len.ensures in
    record { room = (c.in-Ok.ensures.items, omega (arith, items, long, many, room, all)) }

pub returns-clause-same_system : goal.returns-clause-same_system
returns-clause-same_system g c =
    let built = c.args.built.now in let ran = c.run-outcome.ensures in
    let long = c.run-outcome.auto.handles ∙ ap length c.deref_mut.ensures.value in
    let handles = with_items_is built.handles c.run-outcome.new.handles (long ∙ sym built.handles.ok.0) in record {
      system = refl;
      handles = ap handle_numbers handles ∙ ran.keeps_handles.handles.1 ∙ ap handle_numbers c.deref_mut.ensures.value;
      same_gates = subst (AreHandlesOf built.system.gates) (sym handles) ran.keeps_handles.handles.0;
    }

pub returns-clause-ran : goal.returns-clause-ran
returns-clause-ran g c =
    let built = c.args.built.now in let gates = built.system.gates in let orders = orders_of c.args.sends.now in let ran = c.run-outcome.ensures in
    let jobs = c.in-Ok-jobs_of.jobs in let done = c.run-outcome.new.jobs in
    let long = c.run-outcome.auto.handles ∙ ap length c.deref_mut.ensures.value in
    let handles = with_items_is built.handles c.run-outcome.new.handles (long ∙ sym built.handles.ok.0) in
    let items = with_items_is jobs done (c.run-outcome.auto.jobs ∙ ap length c.deref_mut-2.ensures.value ∙ sym jobs.ok.0) in
    let are : c.senders_of.result.items ≡ map sender_in done = c.senders_of.ensures ∙ ap (map sender_in) items in
    let given : map sender_in jobs.items ≡ built.senders.items =
    c.in-Ok-jobs_of.ensures.senders ∙ ap (λ v. v.items) c.replace-senders.ensures.value in
    let runs = AllOnlyRuns g.K.Behaviours.gives (origin_of gates) built.system.throughput in
    ok-both c.run-outcome.result ran.done ran.worked (λ done_all worked.
    (let sent = jobs-sent gates orders jobs.items done c.in-Ok-jobs_of.ensures.sends (subst (λ l. AreDone gates l done) c.deref_mut-2.ensures.value done_all) in record {
      together = run-again built
          (record { system = built.system; handles = with_items built.handles c.run-outcome.new.handles; senders = c.senders_of.result })
          jobs.items done refl (subst (AreHandlesOf gates) (sym handles) ran.keeps_handles.handles.0) given ran.keeps_jobs.jobs.0
          (ran.keeps_jobs.same_sender ∙ ap jobs_senders c.deref_mut-2.ensures.value) are c.requires.together;
      sent = subst (HaveSent gates orders built.senders.items) (sym are) (subst (λ l. HaveSent gates orders l (map sender_in done)) given sent);
      log_kept = subst (StillSee built.handles.items) (sym handles)
          (subst (λ l. StillSee l c.run-outcome.new.handles) c.deref_mut.ensures.value ran.keeps_handles.log_kept);
      runs = subst (runs built.handles.items) (sym handles) (subst (λ l. runs l c.run-outcome.new.handles) c.deref_mut.ensures.value worked.ran);
    }))

pub returns-clause-fault : goal.returns-clause-fault
returns-clause-fault g c =
    let built = c.args.built.now in let jobs = c.in-Ok-jobs_of.jobs in let done = c.run-outcome.new.jobs in
    let long = c.run-outcome.auto.handles ∙ ap length c.deref_mut.ensures.value in
    let handles = with_items_is built.handles c.run-outcome.new.handles (long ∙ sym built.handles.ok.0) in
    let items = with_items_is jobs done (c.run-outcome.auto.jobs ∙ ap length c.deref_mut-2.ensures.value ∙ sym jobs.ok.0) in
    let given = c.in-Ok-jobs_of.ensures.senders ∙ ap (λ v. v.items) c.replace-senders.ensures.value in
    err-weaker _ _ c.run-outcome.result (λ error broken.
    inr (jobs-broke g.K.Behaviours.gives (orders_of c.args.sends.now) built
    (record { system = built.system; handles = with_items built.handles c.run-outcome.new.handles; senders = c.senders_of.result })
    c.deref_mut.result.now c.run-outcome.new.handles c.deref_mut-2.result.now jobs.items done error c.deref_mut.ensures.value (sym handles) c.deref_mut-2.ensures.value
    given (sym (c.senders_of.ensures ∙ ap (map sender_in) items)) c.in-Ok-jobs_of.ensures.sends broken c.run-outcome.ensures.keeps_handles.runs)) c.run-outcome.ensures.fault
