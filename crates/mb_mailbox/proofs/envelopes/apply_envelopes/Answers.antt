use Rattle.std.proofs.Common.{◌≡◌, ◌<◌, ◌≤◌, ◌+◌, inr, true, refl, sym, ap, ◌∙◌, subst, arith}
use Rattle.std.specs.Prelude.{[], Ok, None, Some, IsTrue}
use Rattle.std.specs.Global.{Box}
use Rattle.mb_home.specs.AgreesWithJournal.{AgreesWithJournal}
use Rattle.mb_home.specs.Contents.{Contents}
use Rattle.mb_home.specs.Steps.{FindsNone, most_tells}
use Rattle.mb_home.specs.Taken.{TakesOut}
use Rattle.mb_home.proofs.TakenLemmas.{begins-taken, finds-none, leads-begun, may-begin, settled-begins, takes-out}
use Rattle.mb_journal.specs.Reading.{IsOpen}
use Rattle.mb_journal.specs.Run.{most_envelopes}
use Rattle.mb_status.specs.Mailbox.{Mailbox, should_process, word_of}
use Rattle.mb_gate.specs.Accessors.{pass_view, status_of}
use Rattle.mb_gate.specs.Untouched.{origin_of}
use Rattle.mb_mailbox.specs.Emptied.{IsCleared}
use Rattle.mb_mailbox.specs.RunState.{RunState, run_state}
use Rattle.mb_mailbox.specs.InRun.{InRun, Advances}
use Rattle.mb_mailbox.proofs.AppliedLemmas.{envelopes-fit}
use Rattle.mb_mailbox.proofs.CleanLemmas.{hold-one}
use Rattle.mb_mailbox.proofs.EmptiedLemmas.{cleared-open, cleared-same, takes-then}
use Rattle.mb_mailbox.proofs.EnvelopeLemmas.{why-not-open, reason-why, reason-used}
use Rattle.mb_mailbox.proofs.EnvelopeRun.{GoesOn, kept-run, carried-run, quiet-run, goes-well, goes-then, goes-kept, goes-looking, goes-nowhere, advances-carried}
use Rattle.mb_mailbox.proofs.EnvelopeSteps.{KeepsRun, BeginsOne, keeps-loaded, whole-loaded, keeps-room, drained-room, room-left}
use Rattle.mb_mailbox.proofs.EnvelopeSteps.{settled-here, settled-at, keeps-found, why-found, open-yet, out-at, open-taken, begins-after}
use Rattle.mb_mailbox.proofs.InRunLemmas.{advances-failed, stops-carried, stops-none, stops-passed, stops-ready}
use Rattle.mb_mailbox.proofs.LoadLemmas.{LoadsAfterBlock}
use Rattle.mb_mailbox.proofs.TellingLemmas.{start_of}
use Rattle.mb_mailbox.proofs.envelopes.apply_envelopes.Given as given
use Rattle.mb_mailbox.proofs.envelopes.apply_envelopes.Goals as goal
use Rattle.mb_mailbox.proofs.envelopes.apply_envelopes.Goals.{After-held_status-status, After-ready, In_default, In-Some, After-apply_envelope-arg-1}
use Rattle.mb_mailbox.proofs.envelopes.apply_envelopes.Goals.{After-carry_out-arg-in-loop-handled-1, After-carry_out, After-has_no_system_work}

-- ---- what holds after each step, once for all that follows it

-- the status was loaded
load : (g : given.Over) (c : After-held_status-status g) →
    KeepsRun g.K.Behaviours.gives (origin_of c.args.gates.now) (pass_view c.loop-handled.registrar.pass).log c.loop-handled.turn
    (run_state c.loop-handled.claim) (run_state c.held_status-status.new.claim)
load g c =
    let did = c.held_status-status.ensures in
    keeps-loaded c.loop-handled.claim c.held_status-status.new.claim did.same_gates did.same c.held_status-status.result did.known did.taken
    c.loop-handled.invariant.0

-- it is the status that the claim says
reading : (g : given.Over) (c : After-held_status-status g) → c.held_status-status.result ≡ status_of c.held_status-status.new.claim
reading g c = c.held_status-status.ensures.status ∙ sym c.held_status-status.ensures.same.0

-- no system message was left to be drained before
whole : (g : given.Over) (c : After-held_status-status g) →
    LoadsAfterBlock (word_of (status_of c.held_status-status.new.claim)) (run_state c.held_status-status.new.claim)
whole g c =
    let did = c.held_status-status.ensures in
    whole-loaded c.loop-handled.claim c.held_status-status.new.claim did.same_gates did.same c.held_status-status.result did.known did.taken
    (reading g c) c.loop-handled.invariant.2

-- where room was asked for, the status had been loaded
abbrev loaded : (g : given.Over) → After-ready g → After-held_status-status g
loaded g c = c.before.before.before.before.before

-- and is open and not suspended
processes : (g : given.Over) (c : After-ready g) → should_process (status_of c.held_status-status.new.claim) ≡ true
processes g c = sym (c.should_process.ensures ∙ ap should_process (reading g (loaded g c))) ∙ c.if-not-should_process.false

-- room was made, or not
room : (g : given.Over) (c : After-ready g) →
    KeepsRun g.K.Behaviours.gives (origin_of c.args.gates.now) (pass_view c.loop-handled.registrar.pass).log c.loop-handled.turn
    (run_state c.loop-handled.claim) (record (run_state c.held_status-status.new.claim) { home = c.ready.new.self })
room g c = keeps-room (load g (loaded g c)) _ c.ready.new.self c.deref_mut.ensures.value c.ready.ensures.same c.ready.ensures.settled

-- whatever lies at home then, the mailbox was not closed
opens : (g : given.Over) (c : After-ready g) (new : Contents) →
    IsCleared (run_state c.loop-handled.claim) (record (run_state c.held_status-status.new.claim) { home = new })
opens g c new =
    cleared-open (run_state c.loop-handled.claim) (record (run_state c.held_status-status.new.claim) { home = new })
    (open-yet (load g (loaded g c)) (processes g c))

-- what is known where no envelope was there
none-there : (g : given.Over) (c : In_default g) →
    FindsNone (start_of c.behind-claim.view_is) (record (start_of c.behind-claim.view_is) { take = c.take.new.self })
    × AgreesWithJournal (g.K.Behaviours.gives (start_of c.behind-claim.view_is).cell.who.this.0) (start_of c.behind-claim.view_is).cell.acts
    (record (start_of c.behind-claim.view_is) { take = c.take.new.self })
none-there g c =
    let here = c.behind-claim.view_is ∙ c.deref_mut-in-loop-handled.ensures.value in
    finds-none (start_of here) (g.K.Behaviours.gives (start_of here).cell.who.this.0) c.take.new.self None c.in_default.ensures.taken c.take.ensures.same
    c.in_default.ensures.follows_discipline (settled-at (room g (goal.at.returns-in_default-clause-in_run g c).After-ready) _ here)

-- the run goes on then
found : (g : given.Over) (c : In_default g) →
    KeepsRun g.K.Behaviours.gives (origin_of c.args.gates.now) (pass_view c.loop-handled.registrar.pass).log c.loop-handled.turn
    (run_state c.loop-handled.claim)
    (record (run_state c.held_status-status.new.claim) { home = record (start_of c.behind-claim.view_is) { take = c.take.new.self } })
found g c =
    let here = c.behind-claim.view_is ∙ c.deref_mut-in-loop-handled.ensures.value in
    let none = none-there g c in
    keeps-found (room g (goal.at.returns-in_default-clause-in_run g c).After-ready) (start_of here) _ here none.0 none.1

-- one was
took : (g : given.Over) (c : In-Some g) →
    TakesOut (start_of c.behind-claim.view_is) (record (start_of c.behind-claim.view_is) { take = c.take.new.self }) c.in-Some.envelope
took g c =
    takes-out (start_of c.behind-claim.view_is) c.take.new.self (Some c.in-Some.envelope) c.in-Some.ensures.taken c.take.ensures.same
    c.in-Some.ensures.of_queue c.in-Some.ensures.follows_discipline

-- it lies where it is begun
there : (g : given.Over) (c : After-apply_envelope-arg-1 g) →
    start_of c.behind-claim-in-loop-handled.view_is ≡ record (start_of c.behind-claim.view_is) { take = c.take.new.self }
there g c =
    c.behind-claim-in-loop-handled.view_is ∙ c.deref_mut-in-loop-handled-2.ensures.value ∙ ap (λ (x : Box Contents). x.value) c.note_taken.ensures.same.1

-- the home in which room was made
made_room : (g : given.Over) (c : After-apply_envelope-arg-1 g) →
    KeepsRun g.K.Behaviours.gives (origin_of c.args.gates.now) (pass_view c.loop-handled.registrar.pass).log c.loop-handled.turn
    (run_state c.loop-handled.claim) (record (run_state c.held_status-status.new.claim) { home = c.ready.new.self })
made_room g c = room g (goal.at.apply_envelope-requires g c).After-ready

out : (g : given.Over) (c : After-apply_envelope-arg-1 g) → TakesOut c.ready.new.self (start_of c.behind-claim-in-loop-handled.view_is) c.in-Some.envelope
out g c =
    let here = c.behind-claim.view_is ∙ c.deref_mut-in-loop-handled.ensures.value in
    out-at (start_of here) c.ready.new.self _ _ c.in-Some.envelope here (took g (goal.at.apply_envelope-requires g c).In-Some) (there g c)

-- the status is open
open_there : (g : given.Over) (c : After-apply_envelope-arg-1 g) →
    IsOpen (start_of c.behind-claim-in-loop-handled.view_is).cell.who (start_of c.behind-claim-in-loop-handled.view_is).cell.journal
    (word_of c.held_status-status.result)
open_there g c =
    let at = (goal.at.apply_envelope-requires g c).After-ready in
    let here = c.behind-claim.view_is ∙ c.deref_mut-in-loop-handled.ensures.value in
    open-taken (room g at) c.held_status-status.result (reading g (loaded g at)) (processes g at) (start_of here) _ _ c.in-Some.envelope here
    (took g (goal.at.apply_envelope-requires g c).In-Some) (there g c)

-- there is room for what the actor tells
room_there : (g : given.Over) (c : After-apply_envelope-arg-1 g) → most_tells ≤ (start_of c.behind-claim-in-loop-handled.view_is).room
room_there g c = subst (λ (x : Contents). most_tells ≤ x.room) (sym (out g c).same) c.in_ok-ready.ensures.ok.1

-- it was begun
begun : (g : given.Over) (c : After-carry_out-arg-in-loop-handled-1 g) →
    BeginsOne g.K.Behaviours.gives (origin_of c.args.gates.now) (pass_view c.loop-handled.registrar.pass).log c.loop-handled.turn
    (run_state c.loop-handled.claim)
    (record (run_state c.note_taken.new.claim) { home = record (start_of c.behind-claim-in-loop-handled.view_is) { cell = c.apply_envelope.new.self } })
begun g c =
    let at = (goal.at.carry_out-requires g c).After-apply_envelope-arg-1 in
    let inv = c.loop-handled.invariant in
    let did = c.held_status-status.ensures in
    let note = c.note_taken.ensures in
    let here = c.behind-claim.view_is ∙ c.deref_mut-in-loop-handled.ensures.value in
    let z = start_of c.behind-claim-in-loop-handled.view_is in
    let new : Contents = record z { cell = c.apply_envelope.new.self } in
    let reading = word_of c.held_status-status.result in
    let settled = settled-here (made_room g at) in
    let mid = c.ready.new.self in
    begins-after c.loop-handled.claim c.held_status-status.new.claim inv.0 inv.2 did.same_gates did.same c.held_status-status.result did.status
    did.known did.taken (sym c.should_process.ensures ∙ c.if-not-should_process.false) _ mid c.deref_mut.ensures.value c.ready.ensures.same
    c.ready.ensures.settled (start_of here) _ c.in-Some.envelope here (took g (goal.at.carry_out-requires g c).In-Some) c.note_taken.new.claim
    (hold-one _ c.note_taken.new.claim (note.same_gates, note.actor) note.same.1 note.same.0 note.known note.taken) z new (there g at)
    (λ b t. begins-taken b z c.in-Some.envelope reading t new c.apply_envelope.ensures.taken refl)
    (leads-begun mid z c.in-Some.envelope reading (out g at) new (g.K.Behaviours.gives mid.cell.who.this.0) (g.K.Behaviours.gives new.cell.who.this.0)
    settled c.apply_envelope.ensures.taken c.apply_envelope.ensures.lawful)
    (settled-begins mid z c.in-Some.envelope reading (out g at) g.K.Behaviours.gives c.apply_envelope.new.self settled (open_there g at) (room_there g at)
    c.apply_envelope.ensures.taken c.apply_envelope.ensures.lawful)

-- where its acts were carried out, it had been begun
abbrev begin_of : (g : given.Over) → After-carry_out g → After-carry_out-arg-in-loop-handled-1 g
begin_of g c = c.before

-- the run is between two messages again
carried-in_run : (g : given.Over) (c : After-carry_out g) →
    InRun g.K.Behaviours.gives g.W.RunQueue.origin c.args.gates.now c.carry_out.new.registrar c.carry_out.new.claim
    (record c.loop-handled.turn { envelopes = c.loop-handled.turn.envelopes + 1 })
carried-in_run g c =
    let did = c.carry_out.ensures in
    carried-run c.carry_out.new.registrar c.carry_out.new.claim (begun g (begin_of g c)) did.in_acts.same_gates did.in_acts.running did.in_acts.backlog did.carried_out
    did.advances.same

-- and went on, where no act was refused
carried : (g : given.Over) (c : After-carry_out g) →
    Advances g.W.RunQueue.pushed g.W.RunQueue.refused c.carry_out.result c.args.registrar.now c.carry_out.new.registrar c.args.claim.now
    c.carry_out.new.claim
carried g c =
    let did = c.carry_out.ensures in
    goes-then c.carry_out.result c.loop-handled.invariant.3
    (advances-carried c.carry_out.result c.loop-handled.registrar c.carry_out.new.registrar c.loop-handled.claim c.carry_out.new.claim
    (begun g (begin_of g c)) (c.note_taken.ensures.taken.recorded ∙ c.held_status-status.ensures.taken.recorded) did.advances.same did.cleared
    did.advances.caller_advances did.advances.sends did.due)

-- where it looked for system work, the acts had been carried out
abbrev carry_of : (g : given.Over) → After-has_no_system_work g → After-carry_out g
carry_of g c = c.before.before.before.before

-- it is between two messages still
looked-in_run : (g : given.Over) (c : After-has_no_system_work g) →
    InRun g.K.Behaviours.gives g.W.RunQueue.origin c.args.gates.now c.carry_out.new.registrar c.has_no_system_work.new.claim
    (record c.loop-handled.turn { envelopes = c.loop-handled.turn.envelopes + 1 })
looked-in_run g c =
    let quiet = c.has_no_system_work.ensures in quiet-run (carried-in_run g (carry_of g c)) quiet.keeps.running quiet.backlog quiet.keeps.left
    quiet.keeps.same

-- and went on
looked : (g : given.Over) (c : After-has_no_system_work g) →
    GoesOn g.W.RunQueue.pushed g.W.RunQueue.refused c.args.registrar.now c.carry_out.new.registrar c.args.claim.now c.has_no_system_work.new.claim
looked g c =
    let quiet = c.has_no_system_work.ensures in
    goes-then (Ok tt) (goes-well c.carry_out.result c.in_ok-carry_out.was (carried g (carry_of g c)))
    (goes-looking c.carry_out.new.registrar c.carry_out.new.claim c.has_no_system_work.new.claim quiet.keeps.recorded quiet.cleared quiet.keeps.same quiet.due)

-- ---- before the first envelope

pub loop-handled-init : goal.loop-handled-init
loop-handled-init g c = (c.requires.in_run, c.requires.none_taken, c.requires.whole, goes-nowhere c.args.registrar.now c.args.claim.now)

-- ---- the status was loaded

pub held_status-status-requires-clause-same_gates : goal.held_status-status-requires-clause-same_gates
held_status-status-requires-clause-same_gates g c = c.loop-handled.invariant.0.running.same_gates

pub held_status-status-requires-clause-present : goal.held_status-status-requires-clause-present
held_status-status-requires-clause-present g c = c.loop-handled.invariant.0.running.present

-- ---- it was not open

pub returns-then-not-should_process-clause-in_run : goal.returns-then-not-should_process-clause-in_run
returns-then-not-should_process-clause-in_run g c =
    kept-run c.loop-handled.invariant.0.same_gates (load g (goal.at.returns-then-not-should_process-clause-in_run g c).After-held_status-status)

pub returns-then-not-should_process-clause-advances : goal.returns-then-not-should_process-clause-advances
returns-then-not-should_process-clause-advances g c =
    let at = (goal.at.returns-then-not-should_process-clause-advances g c).After-held_status-status in
    let did = c.held_status-status.ensures in
    let new = c.held_status-status.new.claim in
    let same = cleared-same (run_state c.loop-handled.claim) (run_state new) (ap (λ (m : Mailbox). m.closed) did.same.0)
    (ap (λ (b : Box Contents). b.value.take) did.same.1) in
    goes-then (Ok tt) c.loop-handled.invariant.3 (goes-kept c.loop-handled.registrar c.loop-handled.claim new did.taken.recorded same (load g at))

pub returns-then-not-should_process-clause-stops : goal.returns-then-not-should_process-clause-stops
returns-then-not-should_process-clause-stops g c = stops-none tt c.held_status-status.new.claim

pub returns-then-not-should_process-clause-within_limit : goal.returns-then-not-should_process-clause-within_limit
returns-then-not-should_process-clause-within_limit g c = omega (arith, c.loop-handled.invariant.1, c.loop-handled-test.true)

pub returns-then-not-should_process-clause-ended : goal.returns-then-not-should_process-clause-ended
returns-then-not-should_process-clause-ended g c =
    let at = (goal.at.returns-then-not-should_process-clause-ended g c).After-held_status-status in
    let new = run_state c.held_status-status.new.claim in
    let less : c.loop-handled.turn.envelopes < most_envelopes c.args.throughput = omega (arith, c.loop-handled.invariant.1, c.loop-handled-test.true) in
    let shut = sym (c.should_process.ensures ∙ ap should_process (reading g at)) ∙ c.if-not-should_process.true in
    reason-why c.args.claim.now.home.value.take new.home.take new c.args.throughput c.loop-handled.turn.envelopes less
    (takes-then _ _ _ c.loop-handled.invariant.3.same.takes (load g at).keeps.same.takes) (why-not-open _ _ _ new (load g at).running (whole g at) shut)

-- ---- there was no room

pub returns-in_err-ready-clause-in_run : goal.returns-in_err-ready-clause-in_run
returns-in_err-ready-clause-in_run g c =
    kept-run c.loop-handled.invariant.0.same_gates (room g (goal.at.returns-in_err-ready-clause-in_run g c).After-ready)

pub returns-in_err-ready-clause-advances : goal.returns-in_err-ready-clause-advances
returns-in_err-ready-clause-advances g c =
    let at = (goal.at.returns-in_err-ready-clause-advances g c).After-ready in
    advances-failed c.from_residual.result c.in_err-ready.field-0.0 c.from_residual.ensures.1 (goes-then (Ok tt) c.loop-handled.invariant.3
    (goes-kept c.loop-handled.registrar c.loop-handled.claim _ c.held_status-status.ensures.taken.recorded (opens g at c.ready.new.self) (room g at)))

pub returns-in_err-ready-clause-stops : goal.returns-in_err-ready-clause-stops
returns-in_err-ready-clause-stops g c =
    stops-passed c.ready.result c.from_residual.result c.in_err-ready.field-0.0 _ c.in_err-ready.was c.from_residual.ensures.1
    (stops-ready c.ready.result c.deref_mut.result.now _ c.ready.ensures.same c.ready.ensures.full)

pub returns-in_err-ready-clause-within_limit : goal.returns-in_err-ready-clause-within_limit
returns-in_err-ready-clause-within_limit g c = omega (arith, c.loop-handled.invariant.1, c.loop-handled-test.true)

-- ---- none was there

pub returns-in_default-clause-in_run : goal.returns-in_default-clause-in_run
returns-in_default-clause-in_run g c = kept-run c.loop-handled.invariant.0.same_gates (found g c)

pub returns-in_default-clause-advances : goal.returns-in_default-clause-advances
returns-in_default-clause-advances g c =
    let open_yet = opens g (goal.at.returns-in_default-clause-advances g c).After-ready (record (start_of c.behind-claim.view_is) { take = c.take.new.self }) in
    goes-then (Ok tt) c.loop-handled.invariant.3
    (goes-kept c.loop-handled.registrar c.loop-handled.claim _ c.held_status-status.ensures.taken.recorded open_yet (found g c))

pub returns-in_default-clause-stops : goal.returns-in_default-clause-stops
returns-in_default-clause-stops g c = stops-none tt _

pub returns-in_default-clause-within_limit : goal.returns-in_default-clause-within_limit
returns-in_default-clause-within_limit g c = omega (arith, c.loop-handled.invariant.1, c.loop-handled-test.true)

pub returns-in_default-clause-ended : goal.returns-in_default-clause-ended
returns-in_default-clause-ended g c =
    let at = (goal.at.returns-in_default-clause-ended g c).After-ready in
    let held = load g (loaded g at) in
    let ready = room g at in
    let mid = c.ready.new.self in
    let made = c.ready.ensures.same in
    let drained = drained-room held _ mid c.deref_mut.ensures.value made (whole g (loaded g at)) (processes g at) in
    let left = room-left held _ mid c.deref_mut.ensures.value made c.ready.result _ c.in_ok-ready.was c.ready.ensures.full in
    let here = c.behind-claim.view_is ∙ c.deref_mut-in-loop-handled.ensures.value in
    let home : Contents = record (start_of here) { take = c.take.new.self } in
    let last : RunState = record (run_state c.held_status-status.new.claim) { home = home } in
    let less : c.loop-handled.turn.envelopes < most_envelopes c.args.throughput = omega (arith, c.loop-handled.invariant.1, c.loop-handled-test.true) in
    reason-why c.args.claim.now.home.value.take mid.take last c.args.throughput c.loop-handled.turn.envelopes less
    (takes-then _ _ _ c.loop-handled.invariant.3.same.takes ready.keeps.same.takes)
    (why-found ready (start_of here) home here (none-there g c).0 drained (processes g at) left)

-- ---- one was

pub overflow_add-turn : goal.overflow_add-turn
overflow_add-turn g c =
    let r = c.loop-handled.invariant.0 in
    let few = envelopes-fit _ _ _ (run_state c.loop-handled.claim) [] c.loop-handled.turn r.running r.run_counts in omega (arith, few)

pub note_taken-requires-clause-same_gates : goal.note_taken-requires-clause-same_gates
note_taken-requires-clause-same_gates g c = c.held_status-status.ensures.same_gates.0 ∙ c.loop-handled.invariant.0.running.same_gates

pub note_taken-requires-clause-present : goal.note_taken-requires-clause-present
note_taken-requires-clause-present g c = (load g (goal.at.note_taken-requires-clause-present g c).After-held_status-status).running.present

pub apply_envelope-requires : goal.apply_envelope-requires
apply_envelope-requires g c =
    let z = start_of c.behind-claim-in-loop-handled.view_is in
    let mid = c.ready.new.self in
    record {
      may_handle =
          may-begin mid z c.in-Some.envelope (word_of c.held_status-status.result) (out g c) (g.K.Behaviours.gives mid.cell.who.this.0)
          (settled-here (made_room g c)) (open_there g c)
          (subst (λ (x : Contents). IsTrue x.cell.is_ready) (sym (out g c).same) c.in_ok-ready.ensures.ok.0)
          (subst (λ (x : Contents). x.cell.acts ≡ []) (sym (out g c).same) (made_room g c).carried_out);
    }

pub carry_out-requires : goal.carry_out-requires
carry_out-requires g c = record {
  in_acts = record {
    same_gates = c.loop-handled.invariant.0.same_gates;
    running = (begun g c).running;
    backlog = (begun g c).backlog;
  };
}

-- ---- its acts stopped the run

pub returns-in_err-carry_out-clause-in_run : goal.returns-in_err-carry_out-clause-in_run
returns-in_err-carry_out-clause-in_run g c = carried-in_run g (goal.at.returns-in_err-carry_out-clause-in_run g c).After-carry_out

pub returns-in_err-carry_out-clause-advances : goal.returns-in_err-carry_out-clause-advances
returns-in_err-carry_out-clause-advances g c =
    advances-failed c.from_residual-in_err-carry_out.result c.in_err-carry_out.field-0.0 c.from_residual-in_err-carry_out.ensures.1
    (carried g (goal.at.returns-in_err-carry_out-clause-advances g c).After-carry_out)

pub returns-in_err-carry_out-clause-stops : goal.returns-in_err-carry_out-clause-stops
returns-in_err-carry_out-clause-stops g c =
    stops-passed c.carry_out.result c.from_residual-in_err-carry_out.result c.in_err-carry_out.field-0.0 c.carry_out.new.claim c.in_err-carry_out.was
    c.from_residual-in_err-carry_out.ensures.1
    (stops-carried c.carry_out.result c.carry_out.new.claim c.carry_out.ensures.refused c.carry_out.ensures.ended)

pub returns-in_err-carry_out-clause-within_limit : goal.returns-in_err-carry_out-clause-within_limit
returns-in_err-carry_out-clause-within_limit g c = omega (arith, c.loop-handled.invariant.1, c.loop-handled-test.true)

-- ---- they were carried out

pub has_no_system_work-requires : goal.has_no_system_work-requires
has_no_system_work-requires g c = record {
  between = record {
    running = ((pass_view c.carry_out.new.registrar.pass).log, c.carry_out.ensures.in_acts.running);
    backlog = c.carry_out.ensures.in_acts.backlog;
    carried_out = c.carry_out.ensures.carried_out;
  };
}

-- ---- no system message came with it

pub loop-handled-preserved-then-has_no_system_work : goal.loop-handled-preserved-then-has_no_system_work
loop-handled-preserved-then-has_no_system_work g c =
    let at = (goal.at.loop-handled-preserved-then-has_no_system_work g c).After-has_no_system_work in (
      looked-in_run g at,
      ap (λ n. n + 1) c.loop-handled.invariant.1,
      inr (c.has_no_system_work.ensures.drained c.if-has_no_system_work.true),
      looked g at,
    )

-- ---- there may be one

pub apply_all-requires : goal.apply_all-requires
apply_all-requires g c = record { in_run = looked-in_run g (goal.at.apply_all-requires g c).After-has_no_system_work }

pub loop-handled-preserved : goal.loop-handled-preserved
loop-handled-preserved g c = (
  c.apply_all.ensures.in_run,
  c.apply_all.ensures.envelopes ∙ ap (λ n. n + 1) c.loop-handled.invariant.1,
  c.in_ok-apply_all.ensures.whole,
  goes-then (Ok tt) (looked g (goal.at.loop-handled-preserved g c).After-has_no_system_work)
      (goes-well c.apply_all.result c.in_ok-apply_all.was c.apply_all.ensures.advances),
)

-- ---- the system messages after it stopped the run

pub returns-in_err-apply_all-clause-in_run : goal.returns-in_err-apply_all-clause-in_run
returns-in_err-apply_all-clause-in_run g c = c.apply_all.ensures.in_run

pub returns-in_err-apply_all-clause-advances : goal.returns-in_err-apply_all-clause-advances
returns-in_err-apply_all-clause-advances g c =
    advances-failed c.from_residual-in_err-apply_all.result c.in_err-apply_all.field-0.0 c.from_residual-in_err-apply_all.ensures.1
    (goes-then c.apply_all.result (looked g (goal.at.returns-in_err-apply_all-clause-advances g c).After-has_no_system_work) c.apply_all.ensures.advances)

pub returns-in_err-apply_all-clause-stops : goal.returns-in_err-apply_all-clause-stops
returns-in_err-apply_all-clause-stops g c =
    stops-passed c.apply_all.result c.from_residual-in_err-apply_all.result c.in_err-apply_all.field-0.0 c.apply_all.new.claim
    c.in_err-apply_all.was c.from_residual-in_err-apply_all.ensures.1 c.apply_all.ensures.stops

pub returns-in_err-apply_all-clause-within_limit : goal.returns-in_err-apply_all-clause-within_limit
returns-in_err-apply_all-clause-within_limit g c = omega (arith, c.apply_all.ensures.envelopes, c.loop-handled.invariant.1, c.loop-handled-test.true)

-- ---- the throughput was used up

pub returns-clause-in_run : goal.returns-clause-in_run
returns-clause-in_run g c = c.loop-handled.invariant.0

pub returns-clause-advances : goal.returns-clause-advances
returns-clause-advances g c = c.loop-handled.invariant.3

pub returns-clause-stops : goal.returns-clause-stops
returns-clause-stops g c = stops-none tt c.loop-handled.claim

pub returns-clause-ended : goal.returns-clause-ended
returns-clause-ended g c =
    let n = c.loop-handled.turn.envelopes in
    let all : n ≡ most_envelopes c.args.throughput = omega (arith, c.loop-handled.invariant.1, c.loop-handled-test.false) in
    reason-used g.K.Behaviours.gives (origin_of c.args.gates.now) (pass_view c.loop-handled.registrar.pass).log c.args.claim.now.home.value.take
    (run_state c.loop-handled.claim) c.args.throughput n c.loop-handled.invariant.0.running all c.loop-handled.invariant.2

-- ---- the claim is as it was but for its home

pub invariant_of-claim : goal.invariant_of-claim
invariant_of-claim g c =
    let k = c.held_status-status.new.claim in record { has = k.has; of = k.of; word = k.word; busy = k.busy; no_list = k.no_list; carries = k.carries }

pub invariant_of-claim-in-loop-handled : goal.invariant_of-claim-in-loop-handled
invariant_of-claim-in-loop-handled g c =
    let k = c.held_status-status.new.claim in record { has = k.has; of = k.of; word = k.word; busy = k.busy; no_list = k.no_list; carries = k.carries }

pub invariant_of-claim-in-loop-handled-2 : goal.invariant_of-claim-in-loop-handled-2
invariant_of-claim-in-loop-handled-2 g c =
    let k = c.note_taken.new.claim in record { has = k.has; of = k.of; word = k.word; busy = k.busy; no_list = k.no_list; carries = k.carries }
