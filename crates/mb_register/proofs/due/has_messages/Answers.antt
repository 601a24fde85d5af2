use Rattle.std.proofs.Common.{◌≢◌, ◌∙◌, subst, sym, inl, inr, arith}
use Rattle.std.proofs.lemmas.Bool.Decides.{nat_tests}
use Rattle.mb_gate.specs.Accessors.{pass_view}
use Rattle.mb_register.specs.Views.{LooksAfter}
use Rattle.mb_register.proofs.Views.{looks-counting}
use Rattle.mb_register.proofs.Reading.{reads-none}
use Rattle.mb_register.proofs.ClaimCounts.{claims-counted}
use Rattle.mb_register.proofs.Dues.{saw-waiting}
use Rattle.mb_register.proofs.due.has_messages.Goals as goal

pub returns-clause-only_reads : goal.returns-clause-only_reads
returns-clause-only_reads g c = record {
  same_gates = c.waiting-waiting.ensures.same_gates;
  looks = subst (LooksAfter c.args.id.0 (pass_view c.args.pass.now)) (sym c.waiting-waiting.ensures.known)
      (looks-counting c.args.id.0 c.waiting-waiting.result (pass_view c.args.pass.now));
  claims = claims-counted c.args.id.0 c.waiting-waiting.result (pass_view c.args.pass.now) _ c.waiting-waiting.ensures.known;
}

pub returns-then-is_message-clause-only_reads : goal.returns-then-is_message-clause-only_reads
returns-then-is_message-clause-only_reads g c = reads-none c.args.id.0 c.args.pass.now

pub returns-clause-seen : goal.returns-clause-seen
returns-clause-seen g c some =
    let more : c.waiting-waiting.result ≢ 0 = λ zero. grind (arith, nat_tests) in
    inr (saw-waiting c.args.id.0 c.waiting-waiting.result (pass_view c.args.pass.now) _ c.waiting-waiting.ensures.known more)

pub returns-then-is_message-clause-seen : goal.returns-then-is_message-clause-seen
returns-then-is_message-clause-seen g c some = inl (sym c.is_message.ensures ∙ c.if-is_message.true)
