use Rattle.std.proofs.Common.{◌≡◌, ◌∙◌, ap, sym, [], not, filter}
use Rattle.mb_actor.specs.ActorList.{has}
use Rattle.mb_actor.specs.Outbox.{outbox_view_of}
use Rattle.mb_actor.specs.OutboxView.{OutboxView, spawns_of}
use Rattle.mb_actor.proofs.HeldLemmas.{can_hold-none}
use Rattle.mb_actor.proofs.OutboxLemmas.{unspawned-settled, same_tray, both_true}
use Rattle.mb_actor.proofs.outbox.Outbox.settle.Goals as goal

pub invariant_of-self : goal.invariant_of-self
invariant_of-self c = record {
  prepared = λ x here. c.self-2.invariant.prepared x (both_true _ _ (sym (c.remove_all.ensures x) ∙ here));
  asked = c.self-2.invariant.asked;
  telling = c.self-2.invariant.telling;
  held = can_hold-none _ (ap (λ (t : OutboxView). t.effects) (c.self-2.view_is ∙ c.clear.ensures));
}

pub returns : goal.returns
returns c =
    let before : OutboxView = c.args.self.now in
    let shown : outbox_view_of c.self-2.inside ≡ record before { effects = [] } = c.self-2.view_is ∙ c.clear.ensures in
    same_tray _ _ (ap (λ (t : OutboxView). t.effects) shown) (ap (λ (t : OutboxView). t.actors) shown)
    (unspawned-settled c.self-2.inside.unspawned c.self.inside.asked c.remove_all.new.self c.self-2.inside.prepared.value.items before.effects
    (λ x. c.self.invariant.asked x ∙ ap (λ (t : OutboxView). has (spawns_of t.effects) x) c.self.view_is) c.remove_all.ensures
    ∙ ap (λ (t : OutboxView). filter (λ x. not (has (spawns_of before.effects) x)) t.unspawned) shown)
