use Rattle.std.proofs.Common.{◌∙◌, ap, get_or, map, pos, string_bytes}
use Rattle.std.specs.List.{flat_map}
use Rattle.std.proofs.lemmas.List.{get_or_default}
use Rattle.mb_msg.specs.declared.dead_letter.DeadLetterReason.TheVariants as why
use Rattle.mb_msg.specs.declared.envelope.Body.TheVariants as body
use Rattle.mb_msg.specs.declared.envelope.Envelope.{Envelope}
use Rattle.mb_trace.specs.Ends.{letter_text}
use Rattle.mb_trace.specs.Undelivered.{where_shown}
use Rattle.mb_trace.proofs.Readable.{readable-kept}
use Rattle.mb_trace.proofs.Written.{appends-none, appends-same, begins-same, each-all, each-cut, each-more, err-written}
use Rattle.mb_trace.proofs.undelivered.write_cleaned.Goals as goal

pub loop-envelope-init : goal.loop-envelope-init
loop-envelope-init g c = appends-none (g.W.Write.contents c.args.out.now)

pub loop-envelope-preserved : goal.loop-envelope-preserved
loop-envelope-preserved g c =
    let i = c.loop-envelope.envelope-index in
    let xs = c.kept-envelope-items.result.now in
    let x = get_or xs i (let d : Envelope = record { by = record { 0 = 0 }; to = record { 0 = 0 }; number = 0; body = body.User 0 (pos 0) } in d) in
    each-more (λ (e : Envelope). where_shown c.args.filter.now e.to.0 (letter_text (map string_bytes c.args.names.now) e why.Cleaned)) xs i x _ _ _ c.loop-envelope-test.true (get_or_default xs i _ _ c.loop-envelope-test.true) c.loop-envelope.invariant c.in_ok-write_letter.ensures

pub returns-in_err-write_letter : goal.returns-in_err-write_letter
returns-in_err-write_letter g c =
    let i = c.loop-envelope.envelope-index in
    let xs = c.kept-envelope-items.result.now in
    let x = get_or xs i (let d : Envelope = record { by = record { 0 = 0 }; to = record { 0 = 0 }; number = 0; body = body.User 0 (pos 0) } in d) in
    err-written _ _ _ c.from_residual.result _ c.from_residual.ensures.1
    (begins-same _ _ _ _ (ap (flat_map (λ (e : Envelope). where_shown c.args.filter.now e.to.0 (letter_text (map string_bytes c.args.names.now) e why.Cleaned))) (c.kept-envelope-items.ensures.value ∙ readable-kept c.args.actor.now.cleaned c.kept-envelope-items.ensures.all))
    (each-cut (λ (e : Envelope). where_shown c.args.filter.now e.to.0 (letter_text (map string_bytes c.args.names.now) e why.Cleaned)) xs i x _ _ _ c.loop-envelope-test.true (get_or_default xs i _ _ c.loop-envelope-test.true) c.loop-envelope.invariant c.in_err-write_letter.ensures))

pub returns : goal.returns
returns g c =
    appends-same _ _ _ _ (ap (flat_map (λ (e : Envelope). where_shown c.args.filter.now e.to.0 (letter_text (map string_bytes c.args.names.now) e why.Cleaned))) (c.kept-envelope-items.ensures.value ∙ readable-kept c.args.actor.now.cleaned c.kept-envelope-items.ensures.all))
    (each-all (λ (e : Envelope). where_shown c.args.filter.now e.to.0 (letter_text (map string_bytes c.args.names.now) e why.Cleaned)) c.kept-envelope-items.result.now c.loop-envelope.envelope-index _ _ c.loop-envelope-test.false c.loop-envelope.invariant)
