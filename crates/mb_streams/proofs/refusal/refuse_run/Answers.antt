use Rattle.std.proofs.Common.{ap, sym}
use Rattle.mb_streams.specs.ProgramError.{error_line}
use Rattle.mb_streams.specs.declared.program_error.ProgramError.TheVariants.{Run}
use Rattle.mb_streams.proofs.SayingLemmas.{said-itself}
use Rattle.mb_streams.proofs.refusal.refuse_run.Goals as goal

pub print_line-requires-clause-line : goal.print_line-requires-clause-line
print_line-requires-clause-line g c = ap (λ f. error_line (Run f)) (sym c.in-NoMemory.is)

pub print_line-requires-in-JournalFull-clause-line : goal.print_line-requires-in-JournalFull-clause-line
print_line-requires-in-JournalFull-clause-line g c = ap (λ f. error_line (Run f)) (sym c.in-JournalFull.is)

pub print_line-requires-in-Mismatch-clause-line : goal.print_line-requires-in-Mismatch-clause-line
print_line-requires-in-Mismatch-clause-line g c = ap (λ f. error_line (Run f)) (sym c.in-Mismatch.is)

pub returns-in-NoMemory : goal.returns-in-NoMemory
returns-in-NoMemory g c = (Run c.args.fault, said-itself (Run c.args.fault), c.print_line.ensures.0, c.print_line.ensures.1)

pub returns-in-JournalFull : goal.returns-in-JournalFull
returns-in-JournalFull g c = (Run c.args.fault, said-itself (Run c.args.fault), c.print_line-in-JournalFull.ensures.0, c.print_line-in-JournalFull.ensures.1)

pub returns : goal.returns
returns g c = (Run c.args.fault, said-itself (Run c.args.fault), c.print_line-in-Mismatch.ensures.0, c.print_line-in-Mismatch.ensures.1)
