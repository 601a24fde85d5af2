use Rattle.std.proofs.Common.{◌≡◌, ◌↔◌, map, refl, sym, ap, subst, ◌∙◌}
use Rattle.std.specs.List.{Contains}
use Rattle.mb_world.specs.Alike.{contents_of, journal_of}
use Rattle.mb_world.specs.World.{WorldView}
use Rattle.mb_world.proofs.world.World.is_alike.Goals as goal

pub returns : goal.returns
returns g c holds =
    let a = c.self.view_is in let b = c.other.view_is in
    let senders : c.deref.result.now ≡ c.deref-2.result.now = c.if-not-are_senders_equal.ensures refl in
    let cells : map journal_of c.deref-3.result.now ≡ map journal_of c.deref-4.result.now = c.if-not-are_same.ensures refl in record {
      journals = sym (ap (λ (w : WorldView). map journal_of w.cells) a)
          ∙ sym (ap (map journal_of) c.deref-3.ensures.value)
          ∙ cells
          ∙ ap (map journal_of) c.deref-4.ensures.value
          ∙ ap (λ (w : WorldView). map journal_of w.cells) b;
      contents = sym (ap (λ (w : WorldView). map contents_of w.mailboxes) a)
          ∙ c.are_dispatchers_alike.ensures.contents holds
          ∙ ap (λ (w : WorldView). map contents_of w.mailboxes) b;
      senders = sym (ap (λ (w : WorldView). w.senders) a)
          ∙ sym c.deref.ensures.value
          ∙ senders
          ∙ c.deref-2.ensures.value
          ∙ ap (λ (w : WorldView). w.senders) b;
      answered = sym (ap (λ (w : WorldView). w.answered) a)
          ∙ c.are_dispatchers_alike.ensures.answered holds
          ∙ ap (λ (w : WorldView). w.answered) b;
      registered = λ actor.
          subst (λ (w : WorldView). Contains w.registered actor ↔ Contains c.args.other.now.registered actor) a
          (subst (λ (w : WorldView). Contains c.self.inside.dispatcher.claims.items actor ↔ Contains w.registered actor) b
          (c.are_dispatchers_alike.ensures.registered holds actor));
    }
