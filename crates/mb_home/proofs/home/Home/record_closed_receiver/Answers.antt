use Rattle.std.proofs.Common.{◌+◌, ◌%◌, ◌^◌, false, [], ◌∷◌, ◌++◌, sym, ap, subst, ◌∙◌}
use Rattle.mb_msg.specs.declared.dead_letter.DeadLetterReason.TheVariants.{Closed}
use Rattle.mb_msg.specs.declared.envelope.Envelope.{Envelope}
use Rattle.mb_home.specs.Contents.{Contents}
use Rattle.mb_home.specs.AgreesWithJournal.{AgreesWithJournal}
use Rattle.mb_home.proofs.AgreesLemmas.{settled-dead}
use Rattle.mb_home.proofs.home.Home.record_closed_receiver.Goals as goal

pub returns-clause-settled : goal.returns-clause-settled
returns-clause-settled g c =
    let h : Contents = c.args.self.now in
    let same =
    c.record_dead_letter.ensures.same
    ∙ ap (λ (e : Envelope). record h {
      cell = record h.cell { is_ready = false };
      dead = h.dead ++ record { envelope = e; why = Closed } ∷ [];
      sent = (h.sent + 1) % 2 ^ 64;
      room = c.record_dead_letter.new.self.room;
    }) c.next_envelope-envelope.ensures in
    subst (λ (x : Contents). AgreesWithJournal (g.K.Behaviours.gives x.cell.who.this.0) x.cell.acts x) (sym same)
    (settled-dead h (g.K.Behaviours.gives h.cell.who.this.0) c.args.to c.args.body h.cell.acts Closed c.record_dead_letter.new.self.room c.requires.settled
    c.record_dead_letter.ensures.room tt)
