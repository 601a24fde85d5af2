use Rattle.std.proofs.Common.{false}
use Rattle.mb_program.proofs.Endings.{ended-failed, ended-no-error, ended-no-failure, ended-refused, ended-reported, ended-silent, ended-unwritten}
use Rattle.mb_program.proofs.drive.run_program.Goals as goal

pub returns-clause-ran : goal.returns-clause-ran
returns-clause-ran g c =
    let contents = g.W.Write.contents in let said = g.E.Write.contents in let journal = c.args.journal in let arguments = c.args.arguments in
    let known = g.R.Read.remaining c.args.reader.now.stream in let writer = c.args.writer.now in let errors = c.args.errors.now in
    let outcome = c.answer_to-report.result in let answered = c.answer_to-report.ensures in let written = c.write_report.ensures in record {
      refused = λ some.
          ended-refused journal contents said arguments known false _ writer writer errors _ outcome (answered.refused some) written.refused;
      unread = answered.unread;
      unwritten = λ some.
          ended-unwritten journal contents said arguments known false 0 _ _ errors errors outcome (answered.refused some) written.unwritten;
      taken = answered.taken;
      reported = λ zero. ended-reported journal contents said arguments known _ _ _ _ _ _ outcome answered.report written.report written.refused zero;
      flushed = written.flushed;
      no_failure = λ zero.
          ended-no-failure journal contents said arguments known _ _ _ _ _ _ outcome answered.report written.report written.refused zero;
      no_error = λ zero. ended-no-error journal contents said arguments known false _ _ _ _ _ outcome written.report written.refused zero;
      failed = λ other.
          ended-failed journal contents said arguments known _ _ _ _ _ _ outcome c.requires.writer answered.report answered.failure written.report
          written.unwritten written.refused other;
      unwritten_without_scenario = ended-silent journal contents said arguments known _ 0 _ _ errors errors outcome answered.report written.unwritten;
    }
