use Rattle.std.proofs.Common.{rules, ◌≡◌, ◌++◌, ◌∷◌, [], true, sym, subst, ap, ◌∙◌}
use Rattle.std.specs.Prelude.{IsPermutation}
use Rattle.mb_msg.specs.declared.envelope.Envelope.{Envelope}
use Rattle.mb_world.proofs.MailboxLemmas.{cleaned-once, left-of}
use Rattle.mb_world.proofs.mailbox.Mailbox.clean_next.Goals as goal

pub invariant_of-self-2 : goal.invariant_of-self-2
invariant_of-self-2 c =
    let at = c.self.inside in let x = c.in-Some.envelope in let gives = c.in-Some.ensures in
    let kept : c.reserve.new.self.items ≡ at.cleaned.items = search rules in
    let open_still : at.is_closed ≡ true = search rules in record {
      exactly_once = subst (λ l. IsPermutation at.arrived ((at.given ++ l) ++ c.dequeue.new.self.envelopes))
          (ap (λ l. l ++ x ∷ []) (sym kept) ∙ sym c.push.ensures.items)
          (cleaned-once at.arrived at.given at.cleaned.items at.queue c.dequeue.new.self x gives c.self.invariant.exactly_once);
      addressed = left-of (λ (e : Envelope). e.to ≡ at.actor) at.queue c.dequeue.new.self x gives c.self.invariant.addressed;
      cleaned_late = λ is. absurd (cc (open_still, is));
    }
