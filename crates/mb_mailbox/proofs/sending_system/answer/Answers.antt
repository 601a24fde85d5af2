use Rattle.std.proofs.Common.{◌<◌, Option, refl, sym, ap, subst, ◌∙◌}
use Rattle.std.specs.Prelude.{IfSome}
use Rattle.mb_msg.specs.declared.id.ActorId.{ActorId}
use Rattle.mb_gate.specs.Accessors.{actors_of}
use Rattle.mb_register.proofs.CallerLemmas.{further-none}
use Rattle.mb_mailbox.proofs.NamedLemmas.{asker-there}
use Rattle.mb_mailbox.specs.Notice.{asker, IsAnswered}
use Rattle.mb_mailbox.proofs.RecordedLemmas.{alike-still}
use Rattle.mb_mailbox.proofs.sending_system.answer.Goals as goal

pub notify-requires-clause-present : goal.notify-requires-clause-present
notify-requires-clause-present g c =
    let n = actors_of c.args.gates.now in
    let all = asker-there n c.args.parent c.args.node c.requires.parent c.requires.named in (
      subst (λ (o : Option ActorId). IfSome o (λ whom. whom.0 < n))
          (ap (λ m. asker c.args.parent m) (sym c.msg.ensures) ∙ sym c.asker_of.ensures ∙ c.in-Some.is) all,
      c.requires.present,
    )

pub returns-in-Some-clause-answered : goal.returns-in-Some-clause-answered
returns-in-Some-clause-answered g c =
    subst (λ (o : Option ActorId). IsAnswered o c.args.ended.0 c.args.claim.now c.notify.new.claim)
    (sym (ap (λ m. asker c.args.parent m) (sym c.msg.ensures) ∙ sym c.asker_of.ensures ∙ c.in-Some.is)) c.notify.ensures.told

pub returns-in-None-clause-answered : goal.returns-in-None-clause-answered
returns-in-None-clause-answered g c =
    subst (λ (o : Option ActorId). IsAnswered o c.args.ended.0 c.args.claim.now c.args.claim.now)
    (sym (ap (λ m. asker c.args.parent m) (sym c.msg.ensures) ∙ sym c.asker_of.ensures ∙ c.in-None.is)) refl

pub returns-in-None-clause-caller_advances : goal.returns-in-None-clause-caller_advances
returns-in-None-clause-caller_advances g c = further-none _

pub returns-in-Some-clause-sends : goal.returns-in-Some-clause-sends
returns-in-Some-clause-sends g c = c.notify.ensures.sends

pub returns-in-None-clause-sends : goal.returns-in-None-clause-sends
returns-in-None-clause-sends g c = alike-still _ _ _ _ refl refl
