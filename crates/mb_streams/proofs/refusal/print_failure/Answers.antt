use Rattle.std.proofs.Common.{ap, sym, subst, ◌∙◌}
use Rattle.mb_scenario.specs.declared.read_error.ReadError.TheVariants.{NoMemory}
use Rattle.mb_streams.specs.ProgramError.{error_line}
use Rattle.mb_streams.specs.ErrorLine.{IsRefusal}
use Rattle.mb_streams.specs.declared.program_error.ProgramError.TheVariants.{Input}
use Rattle.mb_streams.proofs.SayingLemmas.{said-itself, said_no_memory}
use Rattle.mb_streams.proofs.refusal.print_failure.Goals as goal

pub print_line-requires-clause-line : goal.print_line-requires-clause-line
print_line-requires-clause-line g c = ap error_line (sym c.in-Os.is)

pub print_line-requires-in-Arguments-clause-line : goal.print_line-requires-in-Arguments-clause-line
print_line-requires-in-Arguments-clause-line g c = ap error_line (sym c.in-Arguments.is)

pub print_line-requires-in-Ok-clause-line : goal.print_line-requires-in-Ok-clause-line
print_line-requires-in-Ok-clause-line g c = c.as_str.ensures.value ∙ c.in-Ok.ensures ∙ ap error_line (sym c.in-Input.is)

pub returns-in-Os : goal.returns-in-Os
returns-in-Os g c = (_, said-itself _, c.print_line.ensures.0, c.print_line.ensures.1)

pub returns-in-Arguments : goal.returns-in-Arguments
returns-in-Arguments g c = (_, said-itself _, c.print_line-in-Arguments.ensures.0, c.print_line-in-Arguments.ensures.1)

pub returns-in-Ok : goal.returns-in-Ok
returns-in-Ok g c = (_, said-itself _, c.print_line-in-Ok.ensures.0, c.print_line-in-Ok.ensures.1)

pub returns-in-Err : goal.returns-in-Err
returns-in-Err g c = (Input NoMemory, said_no_memory _ _ c.in-Input.is, c.print_no_memory.ensures.0, c.print_no_memory.ensures.1)

pub returns-in-Run : goal.returns-in-Run
returns-in-Run g c =
    subst (λ f. IsRefusal f c.refuse_run.result (g.E.Write.contents c.args.errors.now.stream) (g.E.Write.contents c.refuse_run.new.errors.stream)
    c.refuse_run.new.errors.failed) (sym c.in-Run.is) c.refuse_run.ensures
