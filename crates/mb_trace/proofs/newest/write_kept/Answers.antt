use Rattle.std.proofs.Common.{◌<◌, ◌≤◌, ap, arith, drop, length, map, reverse, string_bytes}
use Rattle.std.specs.List.{flat_map}
use Rattle.mb_journal.specs.JournalView.{entry_of}
use Rattle.mb_trace.specs.Newest.{entry_text}
use Rattle.mb_trace.proofs.NewestLines.{kept-at, kept-length}
use Rattle.mb_trace.proofs.Written.{appends-none, appends-same, begins-same, each-all, each-cut, each-more, err-written}
use Rattle.mb_trace.proofs.newest.write_kept.Goals as goal

pub loop-place-init : goal.loop-place-init
loop-place-init g c = appends-none (g.W.Write.contents c.args.out.now)

pub loop-place-preserved : goal.loop-place-preserved
loop-place-preserved g c =
    let entries = c.args.journal.now.entries in
    let first = c.first_kept-first.result in
    let i = c.loop-place.place in
    let within : i < length (drop first (reverse entries)) = omega (arith, kept-length entries first, c.loop-place-test.true, c.len.ensures.value) in
    each-more (entry_text (map string_bytes c.args.names.now) c.args.only) (drop first (reverse entries)) i (entry_of c.in-Some.entry) _ _ _ within
    (kept-at entries first i _ c.in-Some.ensures.read) c.loop-place.invariant c.in_ok-write_entry.ensures

pub returns-in_err-write_entry : goal.returns-in_err-write_entry
returns-in_err-write_entry g c =
    let entries = c.args.journal.now.entries in
    let first = c.first_kept-first.result in
    let i = c.loop-place.place in
    let within : i < length (drop first (reverse entries)) = omega (arith, kept-length entries first, c.loop-place-test.true, c.len.ensures.value) in
    let all = flat_map (entry_text (map string_bytes c.args.names.now) c.args.only) in
    err-written _ _ _ c.from_residual.result _ c.from_residual.ensures.1
    (begins-same _ _ _ _ (ap (λ n. all (drop n (reverse entries))) c.first_kept-first.ensures.value)
    (each-cut (entry_text (map string_bytes c.args.names.now) c.args.only) (drop first (reverse entries)) i (entry_of c.in-Some.entry) _ _ _ within
    (kept-at entries first i _ c.in-Some.ensures.read) c.loop-place.invariant c.in_err-write_entry.ensures))

pub returns : goal.returns
returns g c =
    let entries = c.args.journal.now.entries in
    let first = c.first_kept-first.result in
    let i = c.loop-place.place in
    let past : length (drop first (reverse entries)) ≤ i = omega (arith, kept-length entries first, c.loop-place-test.false, c.len.ensures.value) in
    let all = flat_map (entry_text (map string_bytes c.args.names.now) c.args.only) in
    appends-same _ _ _ _ (ap (λ n. all (drop n (reverse entries))) c.first_kept-first.ensures.value)
    (each-all (entry_text (map string_bytes c.args.names.now) c.args.only) (drop first (reverse entries)) i _ _ past c.loop-place.invariant)
