use Rattle.std.proofs.Common.{map, string_bytes}
use Rattle.mb_report.specs.declared.report.SenderReport.{SenderReport}
use Rattle.mb_trace.specs.Undelivered.{letters_text, readable_letters}
use Rattle.mb_trace.proofs.Written.{appends-none, each-all, each-cut, each-more, err-written}
use Rattle.mb_trace.proofs.undelivered.write_all_refused.Goals as goal

pub loop-sender-init : goal.loop-sender-init
loop-sender-init g c = appends-none (g.W.Write.contents c.args.out.now)

pub loop-sender-preserved : goal.loop-sender-preserved
loop-sender-preserved g c =
    let i = c.loop-sender.sender-index in
    let xs = c.args.senders.now in
    let x = c.sender-item.result in
    each-more (λ (s : SenderReport). letters_text (map string_bytes c.args.names.now) c.args.filter.now (readable_letters s)) xs i x _ _ _ c.loop-sender-test.true c.sender-item.is c.loop-sender.invariant c.in_ok-write_refused.ensures

pub returns-in_err-write_refused : goal.returns-in_err-write_refused
returns-in_err-write_refused g c =
    let i = c.loop-sender.sender-index in
    let xs = c.args.senders.now in
    let x = c.sender-item.result in
    err-written _ _ _ c.from_residual.result _ c.from_residual.ensures.1
    (each-cut (λ (s : SenderReport). letters_text (map string_bytes c.args.names.now) c.args.filter.now (readable_letters s)) xs i x _ _ _ c.loop-sender-test.true c.sender-item.is c.loop-sender.invariant c.in_err-write_refused.ensures)

pub returns : goal.returns
returns g c =
    each-all (λ (s : SenderReport). letters_text (map string_bytes c.args.names.now) c.args.filter.now (readable_letters s)) c.args.senders.now c.loop-sender.sender-index _ _ c.loop-sender-test.false c.loop-sender.invariant
