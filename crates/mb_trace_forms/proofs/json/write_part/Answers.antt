use Rattle.std.proofs.Common.{◌≡◌, ◌+◌, ◌-◌, ◌++◌, ◌∙◌, [], ap, arith, drop, length, map, string_bytes, subst, sym, take}
use Rattle.std.specs.Prelude.{filter}
use Rattle.mb_trace.specs.Cursors.{left_of}
use Rattle.mb_trace.specs.Text.{is_shown}
use Rattle.mb_trace.proofs.Written.{appends-both, appends-none, appends-same, begins-within, err-written}
use Rattle.mb_trace_forms.specs.Json.{entries_json}
use Rattle.mb_trace_forms.specs.Way.{GoesPast}
use Rattle.mb_trace_forms.proofs.Lines.{lines-none}
use Rattle.mb_trace_forms.proofs.Past.{lines-begin, lines-more, past-more, past-none}
use Rattle.mb_trace_forms.proofs.json.write_part.Goals as goal

pub loop-entry-init : goal.loop-entry-init
loop-entry-init g c = record {
  past = past-none c.args.part.actor.0 c.args.shown.now;
  written = appends-same _ _ [] _ (sym (lines-none (map string_bytes c.args.names.now) c.args.shown.now.filter c.args.shown.now.left))
      (appends-none (g.W.Write.contents c.args.out.now));
}

pub loop-entry-preserved : goal.loop-entry-preserved
loop-entry-preserved g c =
    let names = map string_bytes c.args.names.now in
    let n = c.args.part.actor.0 in
    let i = c.loop-entry._entry in
    let first = c.args.shown.now in
    let mid = c.loop-entry.shown in
    let inv = c.loop-entry.invariant in
    let before = entries_json names first.filter first.left (take i (left_of first.steps n)) in
    let piece = entries_json names mid.filter mid.left (take 1 (left_of mid.steps n)) in
    record {
      past = past-more n i first mid inv.past c.write_next.new.shown c.in_ok-write_next.ensures.past;
      written =
          appends-same _ _ (before ++ piece) _ (lines-more n i first mid inv.past names)
          (appends-both _ _ _ before piece inv.written c.in_ok-write_next.ensures.text);
    }

pub returns-in_err-write_next-clause-text : goal.returns-in_err-write_next-clause-text
returns-in_err-write_next-clause-text g c =
    let names = map string_bytes c.args.names.now in
    let n = c.args.part.actor.0 in
    let i = c.loop-entry._entry in
    let first = c.args.shown.now in
    let mid = c.loop-entry.shown in
    let inv = c.loop-entry.invariant in
    let xs = left_of first.steps n in
    let before = entries_json names first.filter first.left (take i xs) in
    let piece = entries_json names mid.filter mid.left (take 1 (left_of mid.steps n)) in
    let rest = entries_json names first.filter (first.left - length (filter (is_shown first.filter) (take (i + 1) xs)))
    (drop (i + 1) (take c.args.part.entries xs)) in
    err-written _ _ _ c.from_residual.result _ c.from_residual.ensures.1
    (begins-within _ _ _ before piece rest _ inv.written c.in_err-write_next.ensures.text
    (lines-begin names first.filter first.left xs (i + 1) c.args.part.entries (omega (arith, c.loop-entry-test.true))
    ∙ ap (λ l. l ++ rest) (sym (lines-more n i first mid inv.past names))))

pub returns : goal.returns
returns g c =
    let names = map string_bytes c.args.names.now in
    let inv = c.loop-entry.invariant in
    let first = c.args.shown.now in
    let n = c.args.part.actor.0 in
    let same : c.loop-entry._entry ≡ c.args.part.entries = omega (arith, c.loop-entry-test.false, c.loop-entry.auto._entry-end) in
    record {
      text = appends-same _ _ _ _ (ap (λ k. entries_json names first.filter first.left (take k (left_of first.steps n))) same) inv.written;
      past = subst (λ k. GoesPast n k first c.loop-entry.shown) same inv.past;
    }
