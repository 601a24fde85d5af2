use Rattle.std.proofs.Common.{rules, ◌≡◌, true, refl, sym, subst}
use Rattle.mb_status.specs.Mailbox.{word_of}
use Rattle.mb_gate.specs.Accessors.{pass_view}
use Rattle.mb_gate.specs.View.{View, Read}
use Rattle.mb_journal.specs.Accepted.{dead_letters}
use Rattle.mb_send.specs.SeenClosed.{were_seen_closed}
use Rattle.mb_send.proofs.SeenClosed.{was_seen_closed-seen}
use Rattle.mb_send.proofs.sender.GatesSender.look.Goals as goal

pub invariant_of-self : goal.invariant_of-self
invariant_of-self g c =
    let old = c.args.self.now in
    let dead = dead_letters old.send_log.posted in
    record {
      routes = old.routes;
      was_seen_closed = subst (λ (v : View). were_seen_closed v.log dead ≡ true) (sym c.status-status.ensures.known)
          (was_seen_closed-seen (Read c.args.to.0 (word_of c.status-status.result)) (pass_view old.registrar.pass).log dead old.was_seen_closed);
      bounded = old.bounded;
    }

pub returns-then-to-eq0-clause-refused : goal.returns-then-to-eq0-clause-refused
returns-then-to-eq0-clause-refused g c = search rules

pub returns-then-to-eq0-clause-seen : goal.returns-then-to-eq0-clause-seen
returns-then-to-eq0-clause-seen g c = tt

pub returns-then-to-eq0-clause-same : goal.returns-then-to-eq0-clause-same
returns-then-to-eq0-clause-same g c = (refl, refl, refl, refl, refl)

pub returns-clause-refused : goal.returns-clause-refused
returns-clause-refused g c = tt

pub returns-clause-seen : goal.returns-clause-seen
returns-clause-seen g c = search rules

pub returns-clause-same : goal.returns-clause-same
returns-clause-same g c = (refl, refl, refl, refl, c.status-status.ensures.same_gates)
