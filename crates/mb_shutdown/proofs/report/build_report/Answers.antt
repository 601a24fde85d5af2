use Rattle.std.proofs.Common.{rules, ◌≡◌, ◌<◌, ◌++◌, ℕ, List, length, map, subst, sym, ap, ◌∙◌, arith, length-append}
use Rattle.std.specs.Prelude.{IfErr, Vec}
use Rattle.std.specs.Global.{Global}
use Rattle.mb_msg.specs.JournalMode.{Retention}
use Rattle.mb_gate.specs.Accessors.{actors_of, first_home, pass_view}
use Rattle.mb_msg.specs.declared.dead_letter.DeadLetter.{DeadLetter}
use Rattle.mb_shutdown.specs.declared.finished_sender.FinishedSender.{FinishedSender}
use Rattle.mb_report.specs.declared.report.SenderReport.{SenderReport}
use Rattle.mb_shutdown.specs.HomeParts.{sent_of}
use Rattle.mb_shutdown.specs.Homes.{HomesReturned, Disagrees}
use Rattle.mb_shutdown.specs.Mismatched.{DiffersFromCount, of_whom}
use Rattle.mb_shutdown.specs.Reported.{IsReportOnAll}
use Rattle.mb_shutdown.specs.Rooms.{IsEmptyWithRoom}
use Rattle.mb_shutdown.specs.Shown.{ShowsAll}
use Rattle.mb_shutdown.proofs.Answered.{err-each, err-of, if-none, ok-each}
use Rattle.mb_shutdown.proofs.EndLaw.{report-counted, report-home, report-letters, report-seen, report-whole, rows-different, rows-queues}
use Rattle.mb_shutdown.proofs.Lists.{length-mapped}
use Rattle.mb_shutdown.proofs.Mismatches.{why-not-come, why-otherwise, why-too-much}
use Rattle.mb_shutdown.proofs.Steps.{as-many, zip-empty, zip-many}
use Rattle.mb_shutdown.proofs.report.build_report.Goals as goal

pub take_rests-requires-clause-queues : goal.take_rests-requires-clause-queues
take_rests-requires-clause-queues g c =
    let room = c.args.room in let apart = c.in_ok-take_apart.ensures.apart in let ended = c.take_apart.new.ended.items in
    let takes = c.take_apart.new.takes.items in let before = map (λ r. r.items) c.take_apart.new.rows.items in
    rows-queues g.K.Behaviours.gives (first_home c.args.gates).value (actors_of c.args.gates) (pass_view c.args.pass) c.finish-all.result.items
    c.finish-all.ensures.left ended takes before c.take_apart.new.senders.items apart c.args.outside.items c.requires.gathered.within_limit.0 c.requires.gathered.directory
    c.requires.gathered.outside c.add_outside.ensures.below_bound (λ r. r.items) c.add_outside.new.rows.items c.add_outside.ensures.rows

pub take_rests-requires-clause-different : goal.take_rests-requires-clause-different
take_rests-requires-clause-different g c =
    let room = c.args.room in let apart = c.in_ok-take_apart.ensures.apart in let ended = c.take_apart.new.ended.items in
    let takes = c.take_apart.new.takes.items in let before = map (λ r. r.items) c.take_apart.new.rows.items in
    rows-different g.K.Behaviours.gives (first_home c.args.gates).value (actors_of c.args.gates) (pass_view c.args.pass) c.finish-all.result.items
    c.finish-all.ensures.left ended takes before c.take_apart.new.senders.items apart c.args.outside.items c.requires.gathered.within_limit.0 c.requires.gathered.directory
    c.requires.gathered.outside c.add_outside.ensures.below_bound (λ r. r.items) c.add_outside.new.rows.items c.add_outside.ensures.rows

pub returns-in-Ok-clause-report : goal.returns-in-Ok-clause-report
returns-in-Ok-clause-report g c =
    let apart = c.in_ok-take_apart.ensures.apart in let ended = c.take_apart.new.ended.items in
    let takes = c.take_apart.new.takes.items in let before = map (λ r. r.items) c.take_apart.new.rows.items in
    let lefts = map (λ l. l.items) c.take_rests.new.lefts.items in
    let first = (first_home c.args.gates).value in let v = pass_view c.args.pass in
    let same : c.deref.result.now ≡ c.args.room.waiting.items = search rules in
    let waits : length c.deref.result.now ≡ actors_of c.args.gates = ap length same ∙ c.requires.room.counted in
    ok-each c.report_on.result
    (λ report. ShowsAll g.K.Behaviours.after ended lefts c.deref.result.now report.actors.items × (report.senders ≡ c.add_outside.new.senders))
    (IsReportOnAll g.K.Behaviours.after g.K.Behaviours.gives first.directory v c.args.outside.items)
    (λ report s. record {
      whole = report-whole g.K.Behaviours.gives first (actors_of c.args.gates) v c.finish-all.result.items
          c.finish-all.ensures.left ended takes before c.take_apart.new.senders.items apart c.args.outside.items c.requires.gathered.within_limit.0
          c.requires.gathered.directory c.requires.gathered.outside c.add_outside.ensures.below_bound (λ r. r.items) c.add_outside.new.rows.items
          c.add_outside.ensures.rows g.K.Behaviours.after c.requires.gathered.senders lefts c.in-Ok.ensures.taken c.deref.result.now waits report s.0
          (ap (λ (w : Vec SenderReport Global). map sent_of w.items) s.1 ∙ c.add_outside.ensures.senders);
      letters = report-letters g.K.Behaviours.gives first (actors_of c.args.gates) v c.finish-all.result.items
          c.finish-all.ensures.left ended takes before c.take_apart.new.senders.items apart c.args.outside.items c.requires.gathered.within_limit.0
          c.requires.gathered.directory c.requires.gathered.outside c.add_outside.ensures.below_bound (λ r. r.items) c.add_outside.new.rows.items
          c.add_outside.ensures.rows g.K.Behaviours.after c.requires.gathered.senders lefts c.in-Ok.ensures.taken c.deref.result.now waits report s.0
          (ap (λ (w : Vec SenderReport Global). map sent_of w.items) s.1 ∙ c.add_outside.ensures.senders);
      seen = report-seen g.K.Behaviours.gives first (actors_of c.args.gates) v c.finish-all.result.items
          c.finish-all.ensures.left ended takes before c.take_apart.new.senders.items apart c.args.outside.items c.requires.gathered.within_limit.0
          c.requires.gathered.directory c.requires.gathered.outside c.add_outside.ensures.below_bound (λ r. r.items) c.add_outside.new.rows.items
          c.add_outside.ensures.rows g.K.Behaviours.after c.requires.gathered.senders lefts c.in-Ok.ensures.taken c.deref.result.now waits report s.0
          (ap (λ (w : Vec SenderReport Global). map sent_of w.items) s.1 ∙ c.add_outside.ensures.senders);
    }) c.report_on.ensures.shows

pub add_outside-requires : goal.add_outside-requires
add_outside-requires g c =
    let apart = c.in_ok-take_apart.ensures.apart in
    let n = c.finish-all.ensures.left.same_count in
    let many = as-many c.finish-all.result.items c.take_apart.new.ended.items c.take_apart.new.takes.items
    (map (λ r. r.items) c.take_apart.new.rows.items) c.take_apart.new.senders.items apart in
    let rows = many.of_rows in let of = length-mapped (λ r. r.items) c.take_apart.new.rows.items in let senders = many.of_senders in
    let more = c.take_apart.ensures.room.0 in let more' = c.take_apart.ensures.room.1 in let a = c.requires.room.rows.1 in
    let b = c.requires.room.senders.1 in
    record { room = ((omega (arith, rows, of, n, more, a)), (omega (arith, senders, n, more', b))) }

pub take_rests-requires-clause-not_empty : goal.take_rests-requires-clause-not_empty
take_rests-requires-clause-not_empty g c =
    let apart = c.in_ok-take_apart.ensures.apart in
    let n = c.finish-all.ensures.left.same_count in
    let many = as-many c.finish-all.result.items c.take_apart.new.ended.items c.take_apart.new.takes.items
    (map (λ r. r.items) c.take_apart.new.rows.items) c.take_apart.new.senders.items apart in
    let takes = many.of_takes in let some = c.args.gates.not_empty.0 in let few = c.requires.gathered.within_limit.0 in
    ((omega (arith, takes, n, some)), (omega (arith, takes, n, few)))

pub take_rests-requires-clause-same_count : goal.take_rests-requires-clause-same_count
take_rests-requires-clause-same_count g c =
    let apart = c.in_ok-take_apart.ensures.apart in
    let n = c.finish-all.ensures.left.same_count in
    let many = as-many c.finish-all.result.items c.take_apart.new.ended.items c.take_apart.new.takes.items
    (map (λ r. r.items) c.take_apart.new.rows.items) c.take_apart.new.senders.items apart in
    zip-many IsEmptyWithRoom c.args.room.waiting.items c.args.room.lefts.items c.requires.room.lefts ∙ c.requires.room.counted
    ∙ sym (many.of_takes ∙ n)

pub take_rests-requires-clause-empty : goal.take_rests-requires-clause-empty
take_rests-requires-clause-empty g c = zip-empty c.args.room.waiting.items c.args.room.lefts.items c.requires.room.lefts

pub report_on-requires-clause-same_count : goal.report_on-requires-clause-same_count
report_on-requires-clause-same_count g c =
    let apart = c.in_ok-take_apart.ensures.apart in
    let n = c.finish-all.ensures.left.same_count in
    let many = as-many c.finish-all.result.items c.take_apart.new.ended.items c.take_apart.new.takes.items
    (map (λ r. r.items) c.take_apart.new.rows.items) c.take_apart.new.senders.items apart in
    let taken = c.in-Ok.ensures.taken.same_count in let of = length-mapped (λ l. l.items) c.take_rests.new.lefts.items in
    let ended = many.of_ended in let takes = many.of_takes in let same : c.deref.result.now ≡ c.args.room.waiting.items = search rules in
    let waits = ap length same ∙ c.requires.room.counted in let few = c.requires.gathered.within_limit.0 in
    ((omega (arith, taken, of, ended, takes)), (omega (arith, waits, ended, n)), (omega (arith, ended, n, few)))

pub report_on-requires-clause-room : goal.report_on-requires-clause-room
report_on-requires-clause-room g c =
    let apart = c.in_ok-take_apart.ensures.apart in
    let n = c.finish-all.ensures.left.same_count in
    let many = as-many c.finish-all.result.items c.take_apart.new.ended.items c.take_apart.new.takes.items
    (map (λ r. r.items) c.take_apart.new.rows.items) c.take_apart.new.senders.items apart in
    let ended = many.of_ended in let room = c.requires.room.reports.1 in (c.requires.room.reports.0, (omega (arith, ended, n, room)))

pub report_on-requires-clause-senders : goal.report_on-requires-clause-senders
report_on-requires-clause-senders g c =
    let apart = c.in_ok-take_apart.ensures.apart in
    let n = c.finish-all.ensures.left.same_count in
    let many = as-many c.finish-all.result.items c.take_apart.new.ended.items c.take_apart.new.takes.items
    (map (λ r. r.items) c.take_apart.new.rows.items) c.take_apart.new.senders.items apart in
    let senders = many.of_senders in let of = length-mapped sent_of c.add_outside.new.senders.items in
    let before = length-mapped sent_of c.take_apart.new.senders.items in
    let outs = length-mapped {X = FinishedSender} {Y = ℕ × List DeadLetter × Retention} (λ o. (o.send_log.sent, o.send_log.dead.items, o.send_log.dead.retention)) c.args.outside.items in
    let all = ap length c.add_outside.ensures.senders
    ∙ length-append (map sent_of c.take_apart.new.senders.items) (map {A = FinishedSender} {B = ℕ × List DeadLetter × Retention} (λ o. (o.send_log.sent, o.send_log.dead.items, o.send_log.dead.retention)) c.args.outside.items) in
    let few = c.requires.gathered.within_limit in let a = few.0 in let b = few.1 in omega (arith, senders, of, before, outs, all, n, a, b)

pub returns-in_err-take_apart-clause-in_plan : goal.returns-in_err-take_apart-clause-in_plan
returns-in_err-take_apart-clause-in_plan g c =
    let first = (first_home c.args.gates).value in let n = actors_of c.args.gates in let v = pass_view c.args.pass in
    let all = c.finish-all.result.items in let outs = map (λ o. o.sends.items) c.args.outside.items in
    let waiting = c.args.room.waiting.items in
    let what = c.in_err-take_apart.field-0.0 in
    err-of (λ what. of_whom what < n) c.from_residual.result what c.from_residual.ensures.1
    (why-not-come g.K.Behaviours.gives first n v all c.finish-all.ensures.left outs waiting c.requires.room.counted what
    c.in_err-take_apart.ensures.not_returned).0

pub returns-clause-in_plan : goal.returns-clause-in_plan
returns-clause-in_plan g c =
    let first = (first_home c.args.gates).value in let n = actors_of c.args.gates in let v = pass_view c.args.pass in
    let all = c.finish-all.result.items in let outs = map (λ o. o.sends.items) c.args.outside.items in
    let waiting = c.args.room.waiting.items in
    let apart = c.in_ok-take_apart.ensures.apart in let takes = c.take_apart.new.takes.items in
    let before = map (λ r. r.items) c.take_apart.new.rows.items in let rows = map (λ r. r.items) c.add_outside.new.rows.items in
    (why-too-much g.K.Behaviours.gives first n v all c.finish-all.ensures.left outs waiting c.requires.room.counted apart.lefts apart.are takes
    apart.takes_are rows before c.add_outside.ensures.rows apart.rows_are c.args.room.lefts.items c.in-Err.mismatch c.requires.room.lefts
    c.in-Err.ensures.overfull).0

pub returns-in-Ok-clause-in_plan : goal.returns-in-Ok-clause-in_plan
returns-in-Ok-clause-in_plan g c =
    let first = (first_home c.args.gates).value in let n = actors_of c.args.gates in let v = pass_view c.args.pass in
    let all = c.finish-all.result.items in let outs = map (λ o. o.sends.items) c.args.outside.items in
    let waiting = c.args.room.waiting.items in
    let apart = c.in_ok-take_apart.ensures.apart in let takes = c.take_apart.new.takes.items in
    let before = map (λ r. r.items) c.take_apart.new.rows.items in let rows = map (λ r. r.items) c.add_outside.new.rows.items in
    let ended = c.take_apart.new.ended.items in let lefts = map (λ l. l.items) c.take_rests.new.lefts.items in
    let same : c.deref.result.now ≡ waiting = search rules in
    err-each c.report_on.result (DiffersFromCount ended lefts waiting) (λ what. of_whom what < n)
    (λ what other.
    (why-otherwise g.K.Behaviours.gives first n v all c.finish-all.ensures.left outs waiting c.requires.room.counted apart.lefts apart.are takes
    apart.takes_are rows before c.add_outside.ensures.rows apart.rows_are ended lefts what apart.ended_are c.in-Ok.ensures.taken other).0)
    (subst (λ w. IfErr c.report_on.result (DiffersFromCount ended lefts w)) same c.report_on.ensures.differs)

pub returns-in_err-take_apart-clause-disagreement : goal.returns-in_err-take_apart-clause-disagreement
returns-in_err-take_apart-clause-disagreement g c =
    let first = (first_home c.args.gates).value in let n = actors_of c.args.gates in let v = pass_view c.args.pass in
    let all = c.finish-all.result.items in let outs = map (λ o. o.sends.items) c.args.outside.items in
    let waiting = c.args.room.waiting.items in
    let what = c.in_err-take_apart.field-0.0 in
    err-of (Disagrees g.K.Behaviours.gives first n v outs waiting) c.from_residual.result what c.from_residual.ensures.1
    (why-not-come g.K.Behaviours.gives first n v all c.finish-all.ensures.left outs waiting c.requires.room.counted what
    c.in_err-take_apart.ensures.not_returned).1

pub returns-clause-disagreement : goal.returns-clause-disagreement
returns-clause-disagreement g c =
    let first = (first_home c.args.gates).value in let n = actors_of c.args.gates in let v = pass_view c.args.pass in
    let all = c.finish-all.result.items in let outs = map (λ o. o.sends.items) c.args.outside.items in
    let waiting = c.args.room.waiting.items in
    let apart = c.in_ok-take_apart.ensures.apart in let takes = c.take_apart.new.takes.items in
    let before = map (λ r. r.items) c.take_apart.new.rows.items in let rows = map (λ r. r.items) c.add_outside.new.rows.items in
    (why-too-much g.K.Behaviours.gives first n v all c.finish-all.ensures.left outs waiting c.requires.room.counted apart.lefts apart.are takes
    apart.takes_are rows before c.add_outside.ensures.rows apart.rows_are c.args.room.lefts.items c.in-Err.mismatch c.requires.room.lefts
    c.in-Err.ensures.overfull).1

pub returns-in-Ok-clause-disagreement : goal.returns-in-Ok-clause-disagreement
returns-in-Ok-clause-disagreement g c =
    let first = (first_home c.args.gates).value in let n = actors_of c.args.gates in let v = pass_view c.args.pass in
    let all = c.finish-all.result.items in let outs = map (λ o. o.sends.items) c.args.outside.items in
    let waiting = c.args.room.waiting.items in
    let apart = c.in_ok-take_apart.ensures.apart in let takes = c.take_apart.new.takes.items in
    let before = map (λ r. r.items) c.take_apart.new.rows.items in let rows = map (λ r. r.items) c.add_outside.new.rows.items in
    let ended = c.take_apart.new.ended.items in let lefts = map (λ l. l.items) c.take_rests.new.lefts.items in
    let same : c.deref.result.now ≡ waiting = search rules in
    err-each c.report_on.result (DiffersFromCount ended lefts waiting) (Disagrees g.K.Behaviours.gives first n v outs waiting)
    (λ what other.
    (why-otherwise g.K.Behaviours.gives first n v all c.finish-all.ensures.left outs waiting c.requires.room.counted apart.lefts apart.are takes
    apart.takes_are rows before c.add_outside.ensures.rows apart.rows_are ended lefts what apart.ended_are c.in-Ok.ensures.taken other).1)
    (subst (λ w. IfErr c.report_on.result (DiffersFromCount ended lefts w)) same c.report_on.ensures.differs)

pub returns-in-Ok-clause-home : goal.returns-in-Ok-clause-home
returns-in-Ok-clause-home g c =
    let apart = c.in_ok-take_apart.ensures.apart in let ended = c.take_apart.new.ended.items in
    let takes = c.take_apart.new.takes.items in let before = map (λ r. r.items) c.take_apart.new.rows.items in
    let lefts = map (λ l. l.items) c.take_rests.new.lefts.items in
    let first = (first_home c.args.gates).value in let v = pass_view c.args.pass in
    let same : c.deref.result.now ≡ c.args.room.waiting.items = search rules in
    let waits : length c.deref.result.now ≡ actors_of c.args.gates = ap length same ∙ c.requires.room.counted in
    ok-each c.report_on.result
    (λ report. ShowsAll g.K.Behaviours.after ended lefts c.deref.result.now report.actors.items × (report.senders ≡ c.add_outside.new.senders))
    (HomesReturned g.K.Behaviours.gives first (actors_of c.args.gates) v)
    (λ report s.
    report-home g.K.Behaviours.gives first (actors_of c.args.gates) v c.finish-all.result.items
    c.finish-all.ensures.left ended takes before c.take_apart.new.senders.items apart c.args.outside.items c.requires.gathered.within_limit.0 c.requires.gathered.directory
    c.requires.gathered.outside c.add_outside.ensures.below_bound (λ r. r.items) c.add_outside.new.rows.items c.add_outside.ensures.rows g.K.Behaviours.after
    c.requires.gathered.senders lefts c.in-Ok.ensures.taken c.deref.result.now waits report s.0
    (ap (λ (w : Vec SenderReport Global). map sent_of w.items) s.1 ∙ c.add_outside.ensures.senders)) c.report_on.ensures.shows

pub returns-in-Ok-clause-counted : goal.returns-in-Ok-clause-counted
returns-in-Ok-clause-counted g c =
    let apart = c.in_ok-take_apart.ensures.apart in let ended = c.take_apart.new.ended.items in
    let takes = c.take_apart.new.takes.items in let before = map (λ r. r.items) c.take_apart.new.rows.items in
    let lefts = map (λ l. l.items) c.take_rests.new.lefts.items in
    let first = (first_home c.args.gates).value in let v = pass_view c.args.pass in
    let same : c.deref.result.now ≡ c.args.room.waiting.items = search rules in
    let waits : length c.deref.result.now ≡ actors_of c.args.gates = ap length same ∙ c.requires.room.counted in
    ok-each c.report_on.result
    (λ report. ShowsAll g.K.Behaviours.after ended lefts c.deref.result.now report.actors.items × (report.senders ≡ c.add_outside.new.senders))
    (λ report. map (λ a. length a.left.items) report.actors.items ≡ c.args.room.waiting.items)
    (λ report s.
    report-counted g.K.Behaviours.gives first (actors_of c.args.gates) v c.finish-all.result.items
    c.finish-all.ensures.left ended takes before c.take_apart.new.senders.items apart c.args.outside.items c.requires.gathered.within_limit.0 c.requires.gathered.directory
    c.requires.gathered.outside c.add_outside.ensures.below_bound (λ r. r.items) c.add_outside.new.rows.items c.add_outside.ensures.rows g.K.Behaviours.after
    c.requires.gathered.senders lefts c.in-Ok.ensures.taken c.deref.result.now waits report s.0
    (ap (λ (w : Vec SenderReport Global). map sent_of w.items) s.1 ∙ c.add_outside.ensures.senders) ∙ same) c.report_on.ensures.shows

pub returns-in_err-take_apart-clause-report : goal.returns-in_err-take_apart-clause-report
returns-in_err-take_apart-clause-report g c = if-none _ c.from_residual.result c.in_err-take_apart.field-0.0 c.from_residual.ensures.1

pub returns-clause-report : goal.returns-clause-report
returns-clause-report g c = tt

pub returns-in_err-take_apart-clause-home : goal.returns-in_err-take_apart-clause-home
returns-in_err-take_apart-clause-home g c = if-none _ c.from_residual.result c.in_err-take_apart.field-0.0 c.from_residual.ensures.1

pub returns-clause-home : goal.returns-clause-home
returns-clause-home g c = tt

pub returns-in_err-take_apart-clause-counted : goal.returns-in_err-take_apart-clause-counted
returns-in_err-take_apart-clause-counted g c = if-none _ c.from_residual.result c.in_err-take_apart.field-0.0 c.from_residual.ensures.1

pub returns-clause-counted : goal.returns-clause-counted
returns-clause-counted g c = tt
