use Rattle.std.proofs.Common.{sym, ◌∙◌, ap, refl, filter}
use Rattle.std.specs.List.{list_all}
use Rattle.mb_actor.specs.ActorList.{has}
use Rattle.mb_actor.specs.ActorSet.{contains}
use Rattle.mb_actor.specs.OutboxView.{is_tell, spawns_of}
use Rattle.mb_actor.proofs.HeldLemmas.{can_hold-none}
use Rattle.mb_actor.proofs.OutboxLemmas.{filter_own, all_prepared, one_more, same_tray}
use Rattle.mb_actor.proofs.outbox.Outbox.new.Goals as goal

pub loop-id-init : goal.loop-id-init
loop-id-init c = c.new-unspawned.ensures

pub loop-id-preserved : goal.loop-id-preserved
loop-id-preserved c =
    one_more c.loop-id.unspawned c.insert.new.self c.deref-id-items.result.now c.loop-id.id-index _ c.loop-id-test.true
    c.loop-id.invariant c.insert.ensures

pub invariant_of-result : goal.invariant_of-result
invariant_of-result c =
    let all = all_prepared c.loop-id.unspawned _ _ _ c.loop-id.invariant c.loop-id-test.false
    (c.deref-id-items.ensures.value ∙ ap (λ v. v.items) (sym c.of.ensures)) in
    record {
      prepared = λ x here. sym (all x) ∙ here;
      asked = λ x. c.new-2.ensures x ∙ ap (λ l. has (spawns_of l) x) (sym c.new.ensures);
      telling = ap (list_all is_tell) (sym c.new.ensures);
      held = can_hold-none _ c.new.ensures;
    }

pub returns : goal.returns
returns c =
    let all = all_prepared c.loop-id.unspawned _ _ _ c.loop-id.invariant c.loop-id-test.false c.deref-id-items.ensures.value in
    same_tray _ _ c.new.ensures refl
    (ap (λ v. filter (contains c.loop-id.unspawned) v.items) c.of.ensures
    ∙ filter_own (contains c.loop-id.unspawned) c.args.prepared.now.items (λ x there. all x ∙ there))
