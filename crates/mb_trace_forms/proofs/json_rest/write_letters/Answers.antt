use Rattle.std.proofs.Common.{get_or, map, pos, string_bytes}
use Rattle.std.proofs.lemmas.List.{get_or_default}
use Rattle.mb_msg.specs.declared.dead_letter.DeadLetter.{DeadLetter}
use Rattle.mb_msg.specs.declared.dead_letter.DeadLetterReason.TheVariants as why
use Rattle.mb_msg.specs.declared.envelope.Body.TheVariants as body
use Rattle.mb_trace_forms.specs.JsonRest.{letter_json}
use Rattle.mb_trace.proofs.Written.{appends-none, each-all, each-cut, each-more, err-written}
use Rattle.mb_trace_forms.proofs.json_rest.write_letters.Goals as goal

pub loop-letter-init : goal.loop-letter-init
loop-letter-init g c = appends-none (g.W.Write.contents c.args.out.now)

pub loop-letter-preserved : goal.loop-letter-preserved
loop-letter-preserved g c =
    let i = c.loop-letter.letter-index in
    let xs = c.args.letters.now in
    let x = get_or xs i (let d : DeadLetter = record { envelope = record { by = record { 0 = 0 }; to = record { 0 = 0 }; number = 0; body = body.User 0 (pos 0) }; why = why.Closed } in d) in
    each-more (letter_json (map string_bytes c.args.names.now)) xs i x _ _ _ c.loop-letter-test.true (get_or_default xs i _ _ c.loop-letter-test.true) c.loop-letter.invariant c.in_ok-write_letter_line.ensures

pub returns-in_err-write_letter_line : goal.returns-in_err-write_letter_line
returns-in_err-write_letter_line g c =
    let i = c.loop-letter.letter-index in
    let xs = c.args.letters.now in
    let x = get_or xs i (let d : DeadLetter = record { envelope = record { by = record { 0 = 0 }; to = record { 0 = 0 }; number = 0; body = body.User 0 (pos 0) }; why = why.Closed } in d) in
    err-written _ _ _ c.from_residual.result _ c.from_residual.ensures.1
    (each-cut (letter_json (map string_bytes c.args.names.now)) xs i x _ _ _ c.loop-letter-test.true (get_or_default xs i _ _ c.loop-letter-test.true) c.loop-letter.invariant c.in_err-write_letter_line.ensures)

pub returns : goal.returns
returns g c = each-all (letter_json (map string_bytes c.args.names.now)) c.args.letters.now c.loop-letter.letter-index _ _ c.loop-letter-test.false c.loop-letter.invariant
