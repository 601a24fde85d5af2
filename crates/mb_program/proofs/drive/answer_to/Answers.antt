use Rattle.std.proofs.Common.{◌≡◌, ℕ, List, refl, sym, subst, ◌∙◌, IfErr, Result, arith}
use Rattle.std.proofs.Common.{String}
use Rattle.std.specs.declared.alloc.Global.{Global}
use Rattle.std.proofs.lemmas.Result.{IfOk-from_err, err_from_is_err_and}
use Rattle.mb_streams.specs.Input.{IsRead}
use Rattle.mb_program.specs.Answer.{IsMet}
use Rattle.mb_streams.specs.declared.program_error.ProgramError.{ProgramError}
use Rattle.mb_program.proofs.Endings.{met_refused, met_unread}
use Rattle.mb_program.proofs.drive.answer_to.Goals as goal

pub returns-in_err-answer-clause-failure : goal.returns-in_err-answer-clause-failure
returns-in_err-answer-clause-failure g c =
    let known = g.R.Read.remaining c.args.reader.now.stream in
    let without = c.if-arguments-gt0.false in
    let failed = c.read_input.new.reader.failed in
    let p = err_from_is_err_and c.from_residual-in_err-answer.result c.from_residual-in_err-answer.ensures.1 in
    let read = subst (λ (l : List ℕ). IsRead known l) (sym c.deref.ensures.value) c.in_ok-text.ensures.text in
    let zero : c.args.arguments ≡ 0 = omega (arith, without) in
    let met = met_refused c.args.arguments known c.deref.result.now failed c.in_err-answer.field-0.0 zero read (c.in_ok-text.ensures.failure ∙ c.requires.reader)
    c.in_err-answer.ensures.refused in
    let as_told = subst (λ (f : ProgramError). IsMet c.args.arguments known failed f) (sym p.2) met in
    subst (λ (r : Result (String Global) ProgramError). IfErr r (IsMet c.args.arguments known failed)) (sym p.1) as_told

pub returns-in_err-text-clause-failure : goal.returns-in_err-text-clause-failure
returns-in_err-text-clause-failure g c =
    let known = g.R.Read.remaining c.args.reader.now.stream in
    let without = c.if-arguments-gt0.false in
    let failed = c.read_input.new.reader.failed in
    let p = err_from_is_err_and c.from_residual.result c.from_residual.ensures.1 in
    let zero : c.args.arguments ≡ 0 = omega (arith, without) in
    let met = met_unread c.args.arguments known c.args.reader.now.failed failed c.in_err-text.field-0.0 zero c.requires.reader c.in_err-text.ensures.failure in
    let as_told = subst (λ (f : ProgramError). IsMet c.args.arguments known failed f) (sym p.2) met in
    subst (λ (r : Result (String Global) ProgramError). IfErr r (IsMet c.args.arguments known failed)) (sym p.1) as_told

pub returns-then-arguments-gt0-clause-refused : goal.returns-then-arguments-gt0-clause-refused
returns-then-arguments-gt0-clause-refused g c = λ some. refl

pub returns-then-arguments-gt0-clause-unread : goal.returns-then-arguments-gt0-clause-unread
returns-then-arguments-gt0-clause-unread g c = λ some. refl

pub returns-then-arguments-gt0-clause-report : goal.returns-then-arguments-gt0-clause-report
returns-then-arguments-gt0-clause-report g c = tt

pub returns-then-arguments-gt0-clause-failure : goal.returns-then-arguments-gt0-clause-failure
returns-then-arguments-gt0-clause-failure g c = (c.if-arguments-gt0.true, c.requires.reader)

pub returns-in_err-text-clause-refused : goal.returns-in_err-text-clause-refused
returns-in_err-text-clause-refused g c = λ some. absurd (omega (arith, some, c.if-arguments-gt0.false))

pub returns-in_err-text-clause-unread : goal.returns-in_err-text-clause-unread
returns-in_err-text-clause-unread g c = λ some. absurd (omega (arith, some, c.if-arguments-gt0.false))

pub returns-in_err-text-clause-taken : goal.returns-in_err-text-clause-taken
returns-in_err-text-clause-taken g c = c.read_input.ensures.taken

pub returns-in_err-text-clause-report : goal.returns-in_err-text-clause-report
returns-in_err-text-clause-report g c = IfOk-from_err c.from_residual.result _ c.from_residual.ensures.0

pub returns-in_err-answer-clause-refused : goal.returns-in_err-answer-clause-refused
returns-in_err-answer-clause-refused g c = λ some. absurd (omega (arith, some, c.if-arguments-gt0.false))

pub returns-in_err-answer-clause-unread : goal.returns-in_err-answer-clause-unread
returns-in_err-answer-clause-unread g c = λ some. absurd (omega (arith, some, c.if-arguments-gt0.false))

pub returns-in_err-answer-clause-taken : goal.returns-in_err-answer-clause-taken
returns-in_err-answer-clause-taken g c = c.read_input.ensures.taken

pub returns-in_err-answer-clause-report : goal.returns-in_err-answer-clause-report
returns-in_err-answer-clause-report g c =
    IfOk-from_err c.from_residual-in_err-answer.result _ c.from_residual-in_err-answer.ensures.0

pub returns-clause-refused : goal.returns-clause-refused
returns-clause-refused g c = λ some. absurd (omega (arith, some, c.if-arguments-gt0.false))

pub returns-clause-unread : goal.returns-clause-unread
returns-clause-unread g c = λ some. absurd (omega (arith, some, c.if-arguments-gt0.false))

pub returns-clause-taken : goal.returns-clause-taken
returns-clause-taken g c = c.read_input.ensures.taken

pub returns-clause-failure : goal.returns-clause-failure
returns-clause-failure g c = tt

pub returns-clause-report : goal.returns-clause-report
returns-clause-report g c =
    let known = g.R.Read.remaining c.args.reader.now.stream in
    let read = subst (λ (l : List ℕ). IsRead known l) (sym c.deref.ensures.value) c.in_ok-text.ensures.text in
    let zero : c.args.arguments ≡ 0 = omega (arith, c.if-arguments-gt0.false) in
    (zero, c.in_ok-text.ensures.failure ∙ c.requires.reader, (c.deref.result.now, read, c.in_ok-answer.ensures.report))
