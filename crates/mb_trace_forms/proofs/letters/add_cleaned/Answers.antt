use Rattle.std.proofs.Common.{◌++◌, ap, pos, sym, ◌∙◌}
use Rattle.std.specs.Global.{Vec}
use Rattle.std.proofs.lemmas.List.{append-nil, take_all}
use Rattle.std.proofs.lemmas.Result.{IfOk-from_err}
use Rattle.mb_msg.specs.declared.dead_letter.DeadLetter.{DeadLetter}
use Rattle.mb_msg.specs.declared.envelope.Body.TheVariants as body
use Rattle.mb_msg.specs.declared.envelope.Envelope.{Envelope}
use Rattle.mb_trace_forms.specs.Letters.{cleaned, cleaned_letter, is_to_shown}
use Rattle.mb_trace_forms.proofs.Added.{kept-more, kept-same}
use Rattle.mb_trace_forms.proofs.letters.add_cleaned.Goals.{then-has_actor+in_ok-push, else-has_actor}
use Rattle.mb_trace_forms.proofs.letters.add_cleaned.Goals as goal

pub loop-envelope-init : goal.loop-envelope-init
loop-envelope-init c = sym (append-nil c.args.letters.now.items)

pub loop-envelope-preserved : goal.loop-envelope-preserved
loop-envelope-preserved c =
    let at = c.loop-envelope in let f = c.args.filter.now in let envelopes = c.args.envelopes.now in let test = c.loop-envelope-test.true in
    let none : Envelope = record { by = record { 0 = 0 }; to = record { 0 = 0 }; number = 0; body = body.User 0 (pos 0) } in
    elim c.if-has_actor.branch [
      | then-has_actor+in_ok-push w ↦
          kept-more cleaned_letter (is_to_shown f) envelopes at.envelope-index none test c.args.letters.now.items at.letters.items at.invariant
          c.if-has_actor.letters.items (sym c.has_actor.ensures ∙ w.if-has_actor.true)
          (ap (λ (v : Vec DeadLetter). v.items) w.letters-is ∙ w.in_ok-push.ensures.items)
      | else-has_actor w ↦
          ap (λ (v : Vec DeadLetter). v.items) w.letters-is
          ∙ kept-same cleaned_letter (is_to_shown f) envelopes at.envelope-index none test c.args.letters.now.items at.letters.items at.invariant
          (sym c.has_actor.ensures ∙ w.if-has_actor.false)
    ]

pub returns-in_err-push : goal.returns-in_err-push
returns-in_err-push c = IfOk-from_err c.from_residual.result _ c.from_residual.ensures.0

pub returns : goal.returns
returns c =
    let envelopes = c.args.envelopes.now in let f = c.args.filter.now in
    c.loop-envelope.invariant ∙ ap (λ l. c.args.letters.now.items ++ cleaned f l) (take_all c.loop-envelope.envelope-index envelopes c.loop-envelope-test.false)
