use Rattle.std.proofs.Common.{ℕ, ◌++◌, List, ap, map, string_bytes}
use Rattle.std.specs.Prelude.{codes}
use Rattle.mb_report.specs.declared.report.ActorReport.{ActorReport}
use Rattle.mb_trace.specs.GoneLetters.{gone_dead_letters_text}
use Rattle.mb_trace.specs.Newest.{all_actors_text}
use Rattle.mb_trace.proofs.Written.{appends-both, appends-same, begins-first, begins-same, begins-second, err-written, written-second}
use Rattle.mb_trace.proofs.newest.write_newest.Goals as goal

abbrev header : List ℕ
header = codes "newest entries: each actor by itself, in the order of its journal\n"

pub returns-in_err-write_whole : goal.returns-in_err-write_whole
returns-in_err-write_whole g c =
    let lines = all_actors_text (map string_bytes c.args.names.now) c.args.filter.now 0 c.args.report.now.actors.items in
    let gone = gone_dead_letters_text (map string_bytes c.args.names.now) c.args.filter.now c.args.report.now in
    err-written _ _ _ c.from_residual.result _ c.from_residual.ensures.1
    (begins-first _ _ ((header ++ lines) ++ gone) _ (begins-first _ _ (header ++ lines) gone
    (begins-first _ _ header lines (begins-same _ _ _ header c.as_bytes.ensures.value c.in_err-write_whole.ensures))))

pub returns-in_err-write_actors : goal.returns-in_err-write_actors
returns-in_err-write_actors g c =
    let names = map string_bytes c.args.names.now in
    let lines = all_actors_text names c.args.filter.now 0 c.args.report.now.actors.items in
    let gone = gone_dead_letters_text names c.args.filter.now c.args.report.now in
    err-written _ _ _ c.from_residual-in_err-write_actors.result _ c.from_residual-in_err-write_actors.ensures.1
    (begins-first _ _ ((header ++ lines) ++ gone) _ (begins-first _ _ (header ++ lines) gone
    (begins-second _ _ _ header _ (appends-same _ _ _ header c.as_bytes.ensures.value c.in_ok-write_whole.ensures)
    (begins-same _ _ _ _ (ap (λ (l : List ActorReport). all_actors_text names c.args.filter.now 0 l) c.deref.ensures.value) c.in_err-write_actors.ensures))))

pub returns-in_err-write_gone_letters : goal.returns-in_err-write_gone_letters
returns-in_err-write_gone_letters g c =
    let names = map string_bytes c.args.names.now in
    let lines = all_actors_text names c.args.filter.now 0 c.args.report.now.actors.items in
    let gone = gone_dead_letters_text names c.args.filter.now c.args.report.now in
    err-written _ _ _ c.from_residual-in_err-write_gone_letters.result _ c.from_residual-in_err-write_gone_letters.ensures.1
    (begins-first _ _ ((header ++ lines) ++ gone) _ (begins-second _ _ _ (header ++ lines) gone
    (appends-both _ _ _ header _ (appends-same _ _ _ header c.as_bytes.ensures.value c.in_ok-write_whole.ensures)
    (appends-same _ _ _ _ (ap (λ (l : List ActorReport). all_actors_text names c.args.filter.now 0 l) c.deref.ensures.value) c.in_ok-write_actors.ensures))
    c.in_err-write_gone_letters.ensures))

pub returns : goal.returns
returns g c =
    let names = map string_bytes c.args.names.now in
    let lines = all_actors_text names c.args.filter.now 0 c.args.report.now.actors.items in
    let gone = gone_dead_letters_text names c.args.filter.now c.args.report.now in
    written-second _ _ _ c.write_rest.result ((header ++ lines) ++ gone) _
    (appends-both _ _ _ (header ++ lines) gone
    (appends-both _ _ _ header _ (appends-same _ _ _ header c.as_bytes.ensures.value c.in_ok-write_whole.ensures)
    (appends-same _ _ _ _ (ap (λ (l : List ActorReport). all_actors_text names c.args.filter.now 0 l) c.deref.ensures.value) c.in_ok-write_actors.ensures))
    c.in_ok-write_gone_letters.ensures)
    c.write_rest.ensures
