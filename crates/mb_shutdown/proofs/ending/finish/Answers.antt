use Rattle.std.proofs.Common.{◌≡◌, ◌<◌, ◌≤◌, length, map, refl, sym, ap, ◌∙◌, subst, arith}
use Rattle.std.specs.Global.{Box}
use Rattle.mb_gate.specs.Accessors.{actors_of, first_home, pass_view}
use Rattle.mb_gate.specs.declared.gates.Gates.{Gates}
use Rattle.mb_home.specs.Contents.{Contents}
use Rattle.mb_shutdown.specs.Homes.{HomesReturned, Disagrees}
use Rattle.mb_shutdown.specs.Mismatched.{of_whom}
use Rattle.mb_shutdown.specs.Rooms.{counted_in}
use Rattle.mb_shutdown.specs.Idle.{WereReadIdle}
use Rattle.mb_shutdown.specs.CompleteReport.{IsCompleteReport}
use Rattle.mb_shutdown.specs.declared.finished_sender.FinishedSender.{FinishedSender}
use Rattle.mb_system.specs.Belonging.{senders_numbers}
use Rattle.mb_system.specs.Members.{handle_numbers}
use Rattle.mb_shutdown.specs.Belonging.{AreThere, HasRead, IsLeastMissing}
use Rattle.mb_shutdown.proofs.ComingBack.{counted-all, back-complete, back-handles, back-some, back-together, left-counted, settled-then-read, some-handle}
use Rattle.mb_shutdown.proofs.Closing.{as-many-outside, came-answers, came-known, came-outside, came-room, came-passes, gathered, goes-on}
use Rattle.mb_shutdown.proofs.HeadlineLaw.{headline}
use Rattle.mb_shutdown.proofs.Letters.{keeps-letters}
use Rattle.mb_shutdown.proofs.OfAll.{of-all-before, put-adds-up, releases-add-up}
use Rattle.mb_shutdown.proofs.Places.{as-many-senders}
use Rattle.mb_shutdown.proofs.ending.finish.Goals as goal

pub returns-in-Some-clause-refused : goal.returns-in-Some-clause-refused
returns-in-Some-clause-refused g c =
    let built = c.args.built in
    (subst (λ l. IsLeastMissing built.system.workers (handle_numbers l) c.in-Some.number) c.deref.ensures.value c.in-Some.ensures, refl)

pub returns-in-Some-missing-clause-refused : goal.returns-in-Some-missing-clause-refused
returns-in-Some-missing-clause-refused g c =
    let built = c.args.built in (
      subst (λ l. AreThere built.system.workers (handle_numbers l)) c.deref.ensures.value c.in_default.ensures,
      subst (λ l. IsLeastMissing built.system.senders (senders_numbers l) c.in-Some-missing.number) c.deref-2.ensures.value c.in-Some-missing.ensures,
      refl,
    )

pub first_busy_of-requires : goal.first_busy_of-requires
first_busy_of-requires g c =
    let built = c.args.built in record {
      same_gates = c.requires.together.handles;
      not_empty = some-handle built.handles.items built.system.workers built.system.not_empty
          (subst (λ l. AreThere built.system.workers (handle_numbers l)) c.deref.ensures.value c.in_default.ensures);
    }

pub returns-in-Some-first_busy_of-clause-refused : goal.returns-in-Some-first_busy_of-clause-refused
returns-in-Some-first_busy_of-clause-refused g c =
    let built = c.args.built in (
      (
        subst (λ l. AreThere built.system.workers (handle_numbers l)) c.deref.ensures.value c.in_default.ensures,
        subst (λ l. AreThere built.system.senders (senders_numbers l)) c.deref-2.ensures.value c.in_default-missing.ensures,
      ),
      c.in-Some-first_busy_of.ensures.0,
      c.in-Some-first_busy_of.ensures.1,
    )

pub room_of-requires : goal.room_of-requires
room_of-requires g c =
    let built = c.args.built in let b1 = c.first_busy_of.new.built in let together = c.requires.together in
    let senders : AreThere built.system.senders (senders_numbers built.senders.items) =
    subst (λ l. AreThere built.system.senders (senders_numbers l)) c.deref-2.ensures.value c.in_default-missing.ensures in
    let settled : HasRead (WereReadIdle 0 (actors_of built.system.gates)) built b1 = c.in_default-first_busy_of.ensures in
    let many = as-many-senders built.system.senders built.senders.items senders together.numbered together.once in
    let same = ap length settled.2.senders in
    let few = built.system.within_limit.1 in record {
      same_gates = back-handles built b1 settled.0 settled.1 settled.2 together.handles;
      not_empty = back-some built b1 settled.0 settled.1 settled.2;
      within_limit = omega (arith, many, same, few);
    }

pub returns-in_default-room_of-clause-refused : goal.returns-in_default-room_of-clause-refused
returns-in_default-room_of-clause-refused g c =
    let built = c.args.built in let b1 = c.first_busy_of.new.built in let b2 = c.room_of.new.built in
    let handles : AreThere built.system.workers (handle_numbers built.handles.items) =
    subst (λ l. AreThere built.system.workers (handle_numbers l)) c.deref.ensures.value c.in_default.ensures in
    let senders : AreThere built.system.senders (senders_numbers built.senders.items) =
    subst (λ l. AreThere built.system.senders (senders_numbers l)) c.deref-2.ensures.value c.in_default-missing.ensures in
    let settled : HasRead (WereReadIdle 0 (actors_of built.system.gates)) built b1 = c.in_default-first_busy_of.ensures in
    let found = settled-then-read (actors_of built.system.gates) built b1 b2 settled c.room_of.ensures.read in
    ((handles, senders), found)

pub gather-gates-requires-clause-together : goal.gather-gates-requires-clause-together
gather-gates-requires-clause-together g c =
    let built = c.args.built in let b1 = c.first_busy_of.new.built in let b2 = c.room_of.new.built in
    let handles : AreThere built.system.workers (handle_numbers built.handles.items) =
    subst (λ l. AreThere built.system.workers (handle_numbers l)) c.deref.ensures.value c.in_default.ensures in
    let senders : AreThere built.system.senders (senders_numbers built.senders.items) =
    subst (λ l. AreThere built.system.senders (senders_numbers l)) c.deref-2.ensures.value c.in_default-missing.ensures in
    let settled : HasRead (WereReadIdle 0 (actors_of built.system.gates)) built b1 = c.in_default-first_busy_of.ensures in
    let found = settled-then-read (actors_of built.system.gates) built b1 b2 settled c.room_of.ensures.read in
    back-together built b2 found.0 found.1 found.2 c.requires.together

pub gather-gates-requires-clause-complete : goal.gather-gates-requires-clause-complete
gather-gates-requires-clause-complete g c =
    let built = c.args.built in let b1 = c.first_busy_of.new.built in let b2 = c.room_of.new.built in
    let handles : AreThere built.system.workers (handle_numbers built.handles.items) =
    subst (λ l. AreThere built.system.workers (handle_numbers l)) c.deref.ensures.value c.in_default.ensures in
    let senders : AreThere built.system.senders (senders_numbers built.senders.items) =
    subst (λ l. AreThere built.system.senders (senders_numbers l)) c.deref-2.ensures.value c.in_default-missing.ensures in
    let settled : HasRead (WereReadIdle 0 (actors_of built.system.gates)) built b1 = c.in_default-first_busy_of.ensures in
    let found = settled-then-read (actors_of built.system.gates) built b1 b2 settled c.room_of.ensures.read in
    back-complete built b2 found.0 found.1 found.2 (handles, senders)

pub gather-gates-requires-clause-room : goal.gather-gates-requires-clause-room
gather-gates-requires-clause-room g c =
    let made = c.in-Some-room_of.ensures.room in
    let same = ap length c.room_of.ensures.read.2.senders in
    let room = made.2 in
    (made.1, (omega (arith, same, room)))

pub build_report-requires : goal.build_report-requires
build_report-requires g c =
    let built = c.args.built in let b1 = c.first_busy_of.new.built in let b2 = c.room_of.new.built in
    let handles : AreThere built.system.workers (handle_numbers built.handles.items) =
    subst (λ l. AreThere built.system.workers (handle_numbers l)) c.deref.ensures.value c.in_default.ensures in
    let senders : AreThere built.system.senders (senders_numbers built.senders.items) =
    subst (λ l. AreThere built.system.senders (senders_numbers l)) c.deref-2.ensures.value c.in_default-missing.ensures in
    let settled : HasRead (WereReadIdle 0 (actors_of built.system.gates)) built b1 = c.in_default-first_busy_of.ensures in
    let found = settled-then-read (actors_of built.system.gates) built b1 b2 settled c.room_of.ensures.read in
    let gates = c.gather-gates.result.0 in let log = (pass_view c.gather-gates.result.1).log in
    let outside = c.gather-gates.new.outside.items in
    let came = gathered built b2 gates log outside found c.gather-gates.ensures.gates.0 c.gather-gates.ensures.of_all.seen c.gather-gates.ensures.outside in
    let together = c.requires.together in
    let many = as-many-outside built gates log outside together (handles, senders) came in
    let few = built.system.within_limit.1 in record {
      gathered = record {
        same_gates = c.gather-gates.ensures.gates.1;
        within_limit = (
          subst (λ (g : Gates (Box Contents)). actors_of g ≤ 64) (sym came.gates_are) built.system.within_limit.0,
          omega (arith, many, few),
        );
        directory = subst (λ (g : Gates (Box Contents)). length (first_home g).value.directory ≡ actors_of g) (sym came.gates_are) built.system.directory;
        senders = came-known built gates log outside together (handles, senders) came;
        outside = came-outside built gates log outside together (handles, senders) came;
      };
      room = came-room built gates log outside together (handles, senders) came b1 c.in-Some-room_of.room settled.2.system settled.2.senders
          c.in-Some-room_of.ensures.room.0;
    }

pub returns-in-Ok-clause-report : goal.returns-in-Ok-clause-report
returns-in-Ok-clause-report g c =
    let built = c.args.built in let b1 = c.first_busy_of.new.built in let b2 = c.room_of.new.built in
    let handles : AreThere built.system.workers (handle_numbers built.handles.items) =
    subst (λ l. AreThere built.system.workers (handle_numbers l)) c.deref.ensures.value c.in_default.ensures in
    let senders : AreThere built.system.senders (senders_numbers built.senders.items) =
    subst (λ l. AreThere built.system.senders (senders_numbers l)) c.deref-2.ensures.value c.in_default-missing.ensures in
    let settled : HasRead (WereReadIdle 0 (actors_of built.system.gates)) built b1 = c.in_default-first_busy_of.ensures in
    let found = settled-then-read (actors_of built.system.gates) built b1 b2 settled c.room_of.ensures.read in
    let gates = c.gather-gates.result.0 in let log = (pass_view c.gather-gates.result.1).log in
    let outside = c.gather-gates.new.outside.items in
    let came = gathered built b2 gates log outside found c.gather-gates.ensures.gates.0 c.gather-gates.ensures.of_all.seen c.gather-gates.ensures.outside in
    let answers = map (λ (o : FinishedSender). o.send_log.posted) outside in let together = c.requires.together in record {
      whole = (
        log,
        came.seen,
        (
          answers,
          came-answers built gates log outside together (handles, senders) came,
          subst (λ (h : Gates (Box Contents)). IsCompleteReport g.K.Behaviours.after g.K.Behaviours.gives (first_home h).value.directory log answers c.in-Ok.report)
              came.gates_are c.in-Ok.ensures.report.whole,
        ),
      );
      letters = keeps-letters built gates log outside together (handles, senders) came c.in-Ok.report c.in-Ok.ensures.report.letters;
      seen = goes-on built gates log outside together (handles, senders) came c.in-Ok.report (pass_view c.gather-gates.result.1) refl
          c.in-Ok.ensures.report.seen;
    }

pub returns-in-Ok-clause-headline : goal.returns-in-Ok-clause-headline
returns-in-Ok-clause-headline g c =
    let built = c.args.built in let b1 = c.first_busy_of.new.built in let b2 = c.room_of.new.built in
    let handles : AreThere built.system.workers (handle_numbers built.handles.items) =
    subst (λ l. AreThere built.system.workers (handle_numbers l)) c.deref.ensures.value c.in_default.ensures in
    let senders : AreThere built.system.senders (senders_numbers built.senders.items) =
    subst (λ l. AreThere built.system.senders (senders_numbers l)) c.deref-2.ensures.value c.in_default-missing.ensures in
    let settled : HasRead (WereReadIdle 0 (actors_of built.system.gates)) built b1 = c.in_default-first_busy_of.ensures in
    let found = settled-then-read (actors_of built.system.gates) built b1 b2 settled c.room_of.ensures.read in
    let gates = c.gather-gates.result.0 in let log = (pass_view c.gather-gates.result.1).log in
    let outside = c.gather-gates.new.outside.items in
    let came = gathered built b2 gates log outside found c.gather-gates.ensures.gates.0 c.gather-gates.ensures.of_all.seen c.gather-gates.ensures.outside in
    let answers = map (λ (o : FinishedSender). o.send_log.posted) outside in
    headline g.K.Behaviours.after g.K.Behaviours.gives built log answers c.in-Ok.report senders
    (came-answers built gates log outside c.requires.together (handles, senders) came)
    (subst (λ (h : Gates (Box Contents)). IsCompleteReport g.K.Behaviours.after g.K.Behaviours.gives (first_home h).value.directory log answers c.in-Ok.report)
    came.gates_are c.in-Ok.ensures.report.whole)

pub returns-in-Ok-clause-all_idle : goal.returns-in-Ok-clause-all_idle
returns-in-Ok-clause-all_idle g c =
    let built = c.args.built in let b1 = c.first_busy_of.new.built in let b2 = c.room_of.new.built in
    let handles : AreThere built.system.workers (handle_numbers built.handles.items) =
    subst (λ l. AreThere built.system.workers (handle_numbers l)) c.deref.ensures.value c.in_default.ensures in
    let senders : AreThere built.system.senders (senders_numbers built.senders.items) =
    subst (λ l. AreThere built.system.senders (senders_numbers l)) c.deref-2.ensures.value c.in_default-missing.ensures in
    let settled : HasRead (WereReadIdle 0 (actors_of built.system.gates)) built b1 = c.in_default-first_busy_of.ensures in
    let found = settled-then-read (actors_of built.system.gates) built b1 b2 settled c.room_of.ensures.read in
    let gates = c.gather-gates.result.0 in let log = (pass_view c.gather-gates.result.1).log in
    let outside = c.gather-gates.new.outside.items in
    let came = gathered built b2 gates log outside found c.gather-gates.ensures.gates.0 c.gather-gates.ensures.of_all.seen c.gather-gates.ensures.outside in
    ((handles, senders), came.settled)

pub returns-in-Err-clause-refused : goal.returns-in-Err-clause-refused
returns-in-Err-clause-refused g c =
    let built = c.args.built in let b1 = c.first_busy_of.new.built in let b2 = c.room_of.new.built in
    let handles : AreThere built.system.workers (handle_numbers built.handles.items) =
    subst (λ l. AreThere built.system.workers (handle_numbers l)) c.deref.ensures.value c.in_default.ensures in
    let senders : AreThere built.system.senders (senders_numbers built.senders.items) =
    subst (λ l. AreThere built.system.senders (senders_numbers l)) c.deref-2.ensures.value c.in_default-missing.ensures in
    let settled : HasRead (WereReadIdle 0 (actors_of built.system.gates)) built b1 = c.in_default-first_busy_of.ensures in
    let found = settled-then-read (actors_of built.system.gates) built b1 b2 settled c.room_of.ensures.read in
    let gates = c.gather-gates.result.0 in let log = (pass_view c.gather-gates.result.1).log in
    let outside = c.gather-gates.new.outside.items in
    let came = gathered built b2 gates log outside found c.gather-gates.ensures.gates.0 c.gather-gates.ensures.of_all.seen c.gather-gates.ensures.outside in (
      (handles, senders),
      came.settled,
      subst (λ (h : Gates (Box Contents)). of_whom c.in-Err.mismatch < actors_of h) came.gates_are c.in-Err.ensures.in_plan,
    )

pub returns-in-Ok-clause-adds_up : goal.returns-in-Ok-clause-adds_up
returns-in-Ok-clause-adds_up g c =
    let built = c.args.built in let b1 = c.first_busy_of.new.built in let b2 = c.room_of.new.built in
    let handles : AreThere built.system.workers (handle_numbers built.handles.items) =
    subst (λ l. AreThere built.system.workers (handle_numbers l)) c.deref.ensures.value c.in_default.ensures in
    let senders : AreThere built.system.senders (senders_numbers built.senders.items) =
    subst (λ l. AreThere built.system.senders (senders_numbers l)) c.deref-2.ensures.value c.in_default-missing.ensures in
    let settled : HasRead (WereReadIdle 0 (actors_of built.system.gates)) built b1 = c.in_default-first_busy_of.ensures in
    let found = settled-then-read (actors_of built.system.gates) built b1 b2 settled c.room_of.ensures.read in
    let gates = c.gather-gates.result.0 in let v = pass_view c.gather-gates.result.1 in let log = v.log in
    let outside = c.gather-gates.new.outside.items in
    let came = gathered built b2 gates log outside found c.gather-gates.ensures.gates.0 c.gather-gates.ensures.of_all.seen c.gather-gates.ensures.outside in
    let waiting = counted_in c.in-Some-room_of.room in
    let of_all = of-all-before (actors_of built.system.gates) built b2 v found came.seen c.gather-gates.ensures.of_all in
    let many : length c.in-Ok.report.actors.items ≡ actors_of built.system.gates
    = c.in-Ok.ensures.report.whole.same_count.0 ∙ ap (λ (h : Gates (Box Contents)). length (first_home h).value.directory) came.gates_are
    ∙ built.system.directory in
    let returned = subst (λ (h : Gates (Box Contents)). HomesReturned g.K.Behaviours.gives (first_home h).value (actors_of h) v c.in-Ok.report) came.gates_are
    c.in-Ok.ensures.home in record {
      home = record {
        view = v;
        of_all = of_all;
        home = returned;
        counted = left-counted c.in-Ok.report waiting log c.in-Ok.ensures.counted
            (counted-all b1 b2 log waiting c.in-Some-room_of.ensures.waiting c.gather-gates.ensures.of_all.seen.0);
      };
      releases = releases-add-up g.K.Behaviours.gives built c.in-Ok.report v of_all returned many;
      put = put-adds-up g.K.Behaviours.gives built c.in-Ok.report v of_all returned many;
    }

pub returns-in-Err-clause-disagreement : goal.returns-in-Err-clause-disagreement
returns-in-Err-clause-disagreement g c =
    let built = c.args.built in let b1 = c.first_busy_of.new.built in let b2 = c.room_of.new.built in
    let handles : AreThere built.system.workers (handle_numbers built.handles.items) =
    subst (λ l. AreThere built.system.workers (handle_numbers l)) c.deref.ensures.value c.in_default.ensures in
    let senders : AreThere built.system.senders (senders_numbers built.senders.items) =
    subst (λ l. AreThere built.system.senders (senders_numbers l)) c.deref-2.ensures.value c.in_default-missing.ensures in
    let settled : HasRead (WereReadIdle 0 (actors_of built.system.gates)) built b1 = c.in_default-first_busy_of.ensures in
    let found = settled-then-read (actors_of built.system.gates) built b1 b2 settled c.room_of.ensures.read in
    let gates = c.gather-gates.result.0 in let v = pass_view c.gather-gates.result.1 in let log = v.log in
    let outside = c.gather-gates.new.outside.items in
    let came = gathered built b2 gates log outside found c.gather-gates.ensures.gates.0 c.gather-gates.ensures.of_all.seen c.gather-gates.ensures.outside in
    let waiting = counted_in c.in-Some-room_of.room in let send_passes = map (λ (o : FinishedSender). o.sends.items) outside in
    record {
      view = v;
      of_all = of-all-before (actors_of built.system.gates) built b2 v found came.seen c.gather-gates.ensures.of_all;
      outside = send_passes;
      send_passes = came-passes built gates log outside c.requires.together (handles, senders) came;
      waiting = waiting;
      counted = counted-all b1 b2 log waiting c.in-Some-room_of.ensures.waiting c.gather-gates.ensures.of_all.seen.0;
      disagrees =
          subst (λ (h : Gates (Box Contents)). Disagrees g.K.Behaviours.gives (first_home h).value (actors_of h) v send_passes waiting c.in-Err.mismatch)
          came.gates_are c.in-Err.ensures.disagreement;
    }
