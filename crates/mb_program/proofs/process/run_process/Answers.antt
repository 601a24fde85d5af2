use Rattle.std.proofs.Common.{subst, sym, ℕ}
use Rattle.mb_program.specs.HasRun.{HasRun}
use Rattle.mb_program.proofs.process.run_process.Goals as goal

pub returns : goal.returns
returns g c =
    let new = c.run_program-status.new in
    let streams = c.args.streams.now in
    let status = c.run_program-status.result in
    let has_run : HasRun c.args.journal (g.T.Arguments.count c.args.rt.now) g.R.Read.remaining g.W.Write.contents g.W.Flush.IsFlushed
    g.E.Write.contents streams.input new.reader streams.output new.writer streams.errors new.errors status = record {
      arguments = c.argument_count.result;
      counted = c.argument_count.ensures;
      ran = c.run_program-status.ensures.ran;
    } in
    subst (λ (n : ℕ). HasRun c.args.journal (g.T.Arguments.count c.args.rt.now) g.R.Read.remaining g.W.Write.contents g.W.Flush.IsFlushed
    g.E.Write.contents streams.input new.reader streams.output new.writer streams.errors new.errors n) (sym c.from.ensures) has_run
