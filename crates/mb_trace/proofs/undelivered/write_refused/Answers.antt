use Rattle.std.proofs.Common.{◌∙◌, ap, get_or, map, pos, string_bytes}
use Rattle.std.specs.List.{flat_map}
use Rattle.std.proofs.lemmas.List.{get_or_default}
use Rattle.mb_msg.specs.declared.dead_letter.DeadLetter.{DeadLetter}
use Rattle.mb_msg.specs.declared.dead_letter.DeadLetterReason.TheVariants as why
use Rattle.mb_msg.specs.declared.envelope.Body.TheVariants as body
use Rattle.mb_trace.specs.Ends.{letter_text}
use Rattle.mb_trace.specs.Undelivered.{where_shown}
use Rattle.mb_trace.proofs.Readable.{readable-kept}
use Rattle.mb_trace.proofs.Written.{appends-none, appends-same, begins-same, each-all, each-cut, each-more, err-written}
use Rattle.mb_trace.proofs.undelivered.write_refused.Goals as goal

pub loop-letter-init : goal.loop-letter-init
loop-letter-init g c = appends-none (g.W.Write.contents c.args.out.now)

pub loop-letter-preserved : goal.loop-letter-preserved
loop-letter-preserved g c =
    let i = c.loop-letter.letter-index in
    let xs = c.kept-letter-items.result.now in
    let x = get_or xs i (let d : DeadLetter = record { envelope = record { by = record { 0 = 0 }; to = record { 0 = 0 }; number = 0; body = body.User 0 (pos 0) }; why = why.Closed } in d) in
    each-more (λ (d : DeadLetter). where_shown c.args.filter.now d.envelope.to.0 (letter_text (map string_bytes c.args.names.now) d.envelope d.why)) xs i x _ _ _ c.loop-letter-test.true (get_or_default xs i _ _ c.loop-letter-test.true) c.loop-letter.invariant c.in_ok-write_letter.ensures

pub returns-in_err-write_letter : goal.returns-in_err-write_letter
returns-in_err-write_letter g c =
    let i = c.loop-letter.letter-index in
    let xs = c.kept-letter-items.result.now in
    let x = get_or xs i (let d : DeadLetter = record { envelope = record { by = record { 0 = 0 }; to = record { 0 = 0 }; number = 0; body = body.User 0 (pos 0) }; why = why.Closed } in d) in
    err-written _ _ _ c.from_residual.result _ c.from_residual.ensures.1
    (begins-same _ _ _ _ (ap (flat_map (λ (d : DeadLetter). where_shown c.args.filter.now d.envelope.to.0 (letter_text (map string_bytes c.args.names.now) d.envelope d.why))) (c.kept-letter-items.ensures.value ∙ readable-kept c.args.sender.now.dead c.kept-letter-items.ensures.all))
    (each-cut (λ (d : DeadLetter). where_shown c.args.filter.now d.envelope.to.0 (letter_text (map string_bytes c.args.names.now) d.envelope d.why)) xs i x _ _ _ c.loop-letter-test.true (get_or_default xs i _ _ c.loop-letter-test.true) c.loop-letter.invariant c.in_err-write_letter.ensures))

pub returns : goal.returns
returns g c =
    appends-same _ _ _ _ (ap (flat_map (λ (d : DeadLetter). where_shown c.args.filter.now d.envelope.to.0 (letter_text (map string_bytes c.args.names.now) d.envelope d.why))) (c.kept-letter-items.ensures.value ∙ readable-kept c.args.sender.now.dead c.kept-letter-items.ensures.all))
    (each-all (λ (d : DeadLetter). where_shown c.args.filter.now d.envelope.to.0 (letter_text (map string_bytes c.args.names.now) d.envelope d.why)) c.kept-letter-items.result.now c.loop-letter.letter-index _ _ c.loop-letter-test.false c.loop-letter.invariant)
