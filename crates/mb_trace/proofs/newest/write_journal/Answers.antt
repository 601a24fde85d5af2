use Rattle.std.proofs.Common.{ap, map, string_bytes}
use Rattle.std.specs.Prelude.{codes}
use Rattle.mb_trace.specs.Newest.{gone_text}
use Rattle.mb_trace.specs.Text.{title_text}
use Rattle.mb_trace.proofs.Written.{appends-both, appends-same, begins-first, begins-same, begins-second, err-written, written-second}
use Rattle.mb_trace.proofs.newest.write_journal.Goals as goal

pub returns-in_err-write_title : goal.returns-in_err-write_title
returns-in_err-write_title g c =
    let title = title_text (map string_bytes c.args.names.now) (codes "actor") c.args.id.0 in
    err-written _ _ _ c.from_residual.result _ c.from_residual.ensures.1
    (begins-first _ _ _ _ (begins-first _ _ title _ c.in_err-write_title.ensures))

pub returns-in_err-write_gone : goal.returns-in_err-write_gone
returns-in_err-write_gone g c =
    let title = title_text (map string_bytes c.args.names.now) (codes "actor") c.args.id.0 in
    err-written _ _ _ c.from_residual-in_err-write_gone.result _ c.from_residual-in_err-write_gone.ensures.1
    (begins-first _ _ _ _ (begins-second _ _ _ title _ c.in_ok-write_title.ensures
    (begins-same _ _ _ _ (ap gone_text c.first_kept.ensures.value) c.in_err-write_gone.ensures)))

pub returns : goal.returns
returns g c =
    let title = title_text (map string_bytes c.args.names.now) (codes "actor") c.args.id.0 in
    written-second _ _ _ c.write_kept.result _ _
    (appends-both _ _ _ title _ c.in_ok-write_title.ensures
    (appends-same _ _ _ _ (ap gone_text c.first_kept.ensures.value) c.in_ok-write_gone.ensures))
    c.write_kept.ensures
