use Rattle.std.proofs.Common.{◌≡◌, ◌++◌, sym, subst, ap, ◌∙◌}
use Rattle.std.specs.Prelude.{IsPermutation}
use Rattle.mb_msg.specs.declared.envelope.Envelope.{Envelope}
use Rattle.mb_world.specs.MailboxView.{MailboxView}
use Rattle.mb_world.proofs.MailboxLemmas.{given-once, left-of, taken-of}
use Rattle.mb_world.proofs.mailbox.Mailbox.next_envelope.Goals as goal

pub invariant_of-self-2 : goal.invariant_of-self-2
invariant_of-self-2 c =
    let at = c.self.inside in let none = c.self.invariant.cleaned_late c.if-self.false in let x = c.in-Some.envelope in let gives = c.in-Some.ensures in record {
      exactly_once = subst (λ l. IsPermutation at.arrived ((l ++ at.cleaned.items) ++ c.dequeue.new.self.envelopes)) (sym c.add.ensures)
          (given-once at.arrived at.given at.cleaned.items at.queue c.dequeue.new.self x gives none c.self.invariant.exactly_once);
      addressed = left-of (λ (e : Envelope). e.to ≡ at.actor) at.queue c.dequeue.new.self x gives c.self.invariant.addressed;
      cleaned_late = c.self.invariant.cleaned_late;
    }

pub returns-clause-addressed : goal.returns-clause-addressed
returns-clause-addressed c =
    let at = c.self.inside in let x = c.in-Some.envelope in
    let here = taken-of (λ (e : Envelope). e.to ≡ at.actor) at.queue c.dequeue.new.self x c.in-Some.ensures c.self.invariant.addressed in
    here ∙ ap (λ (m : MailboxView). m.actor) c.self.view_is
