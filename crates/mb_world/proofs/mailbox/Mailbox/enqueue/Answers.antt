use Rattle.std.proofs.Common.{rules, ◌≡◌, ◌++◌, ◌∷◌, [], sym, subst, ap}
use Rattle.std.specs.Prelude.{IsPermutation}
use Rattle.std.specs.List.{All}
use Rattle.std.proofs.lemmas.List.Elements.{All-push}
use Rattle.mb_msg.specs.declared.envelope.Envelope.{Envelope}
use Rattle.mb_message_queue.specs.MessageQueue.{QueueView}
use Rattle.mb_world.proofs.MailboxLemmas.{queued-once}
use Rattle.mb_world.proofs.mailbox.Mailbox.enqueue.Goals as goal

pub invariant_of-self-2 : goal.invariant_of-self-2
invariant_of-self-2 c =
    let at = c.self.inside in let x = c.args.envelope in
    let queued : c.enqueue.new.self ≡ record at.queue { envelopes = at.queue.envelopes ++ x ∷ [] } = search rules in
    let here : x.to ≡ at.actor = search rules in
    let lists = ap (λ (q : QueueView). q.envelopes) queued in record {
      exactly_once = subst (λ l. IsPermutation l ((at.given ++ at.cleaned.items) ++ c.enqueue.new.self.envelopes)) (sym c.add.ensures)
          (subst (λ l. IsPermutation (at.arrived ++ x ∷ []) ((at.given ++ at.cleaned.items) ++ l)) (sym lists)
          (queued-once at.arrived (at.given ++ at.cleaned.items) at.queue.envelopes x c.self.invariant.exactly_once));
      addressed = subst (λ l. All (λ (e : Envelope). e.to ≡ at.actor) l) (sym lists)
          (All-push (λ (e : Envelope). e.to ≡ at.actor) at.queue.envelopes x c.self.invariant.addressed here);
      cleaned_late = c.self.invariant.cleaned_late;
    }
