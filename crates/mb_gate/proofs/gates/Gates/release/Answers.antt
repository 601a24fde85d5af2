use Rattle.std.proofs.Common.{◌∷◌, ap, sym, ◌∙◌, subst}
use Rattle.atomic_table.specs.Table.{rest}
use Rattle.mb_ghost.specs.Layout.{slot_at}
use Rattle.mb_gate.specs.declared.slot.Slot.TheVariants.{Home}
use Rattle.mb_gate.specs.View.{idling}
use Rattle.mb_gate.specs.Returned.{GoesOn}
use Rattle.mb_gate.specs.Claims.{ClaimGoesOn, IsReadyToRelease}
use Rattle.mb_gate.specs.Accessors.{first_home, pass_view, claim_view, taken_with}
use Rattle.mb_gate.proofs.Numbers.{each_left}
use Rattle.mb_gate.proofs.SplitsAndJoins.{some_left}
use Rattle.mb_gate.proofs.gates.Gates.release.Goals as goal

pub idle-requires-clause-ready : goal.idle-requires-clause-ready
idle-requires-clause-ready g c =
    let claim = c.args.claim in
    let me = c.put_back.ensures.carries ∙ ap (λ m. (m.0, (slot_at claim.actor.0 0, Home claim.home) ∷ rest m.1)) c.take_in.ensures.known in
    subst (λ m. IsReadyToRelease (g.H.MailboxState.is_of (first_home c.args.self.now)) g.H.MailboxState.facts claim.actor.0 claim.status m) (sym me) record {
      home = claim.home;
      carried = ap (λ l. (slot_at claim.actor.0 0, Home claim.home) ∷ rest l) claim.carries;
      has = claim.has;
      of = claim.of;
      word = claim.word;
      may_go_home = c.requires.may_go_home;
      share = some_left _ _ c.args.pass.now.shares;
    }

pub returns-clause-known : goal.returns-clause-known
returns-clause-known g c =
    let claim = c.args.claim in
    let me = c.put_back.ensures.carries ∙ ap (λ m. (m.0, (slot_at claim.actor.0 0, Home claim.home) ∷ rest m.1)) c.take_in.ensures.known in
    let carried = ap (λ m. m.1) me ∙ ap (λ l. (slot_at claim.actor.0 0, Home claim.home) ∷ rest l) claim.carries in
    ap (λ m. m.0) (c.idle.ensures.idle claim.home carried).0 ∙ ap (λ m. idling claim.actor.0 (g.H.MailboxState.facts claim.home).journal m.0) me

pub returns-clause-goes_on : goal.returns-clause-goes_on
returns-clause-goes_on g c =
    let claim = c.args.claim in
    let me = c.put_back.ensures.carries ∙ ap (λ m. (m.0, (slot_at claim.actor.0 0, Home claim.home) ∷ rest m.1)) c.take_in.ensures.known in
    let carried = ap (λ m. m.1) me ∙ ap (λ l. (slot_at claim.actor.0 0, Home claim.home) ∷ rest l) claim.carries in
    each_left (GoesOn claim.actor.0 (taken_with claim)) (pass_view c.args.pass.now).log (claim_view claim).log
    (subst (λ m. ClaimGoesOn claim.actor.0 m.0) me (c.idle.ensures.idle claim.home carried).1)
