use Rattle.std.proofs.Common.{◌+◌, ◌*◌, ◌<◌, ◌≤◌, ◌^◌, length, ap, sym, subst, refl, ◌∙◌}
use Rattle.std.specs.Prelude.{vec_capacity, vec_len, Some}
use Rattle.mb_actor.specs.OutboxView.{spawns_of}
use Rattle.mb_actor.specs.declared.answer.Answer.{Answer}
use Rattle.mb_journal.specs.Entry.{is_failed}
use Rattle.mb_supervision.specs.ActQueueView.{ActQueueView}
use Rattle.mb_supervision.specs.ActorIdentity.{identity_at}
use Rattle.mb_supervision.specs.CellState.{cell_state_of_fields}
use Rattle.mb_supervision.specs.CellStateRecord.{CellState}
use Rattle.mb_supervision.specs.Rows.{recreated}
use Rattle.mb_supervision.proofs.EffectLemmas.{acts-fit, some-act-fits, spawned-fit, watched-fit}
use Rattle.mb_supervision.proofs.RecreatedLemmas.{first-ones, not-failed, one-less, recreated-broken, recreated-live}
use Rattle.mb_supervision.proofs.RoomLemmas.{no-more, restart-fits, two-less, used-up}
use Rattle.mb_supervision.proofs.cell_state.CellState.recreate.Goals as goal

pub push-requires : goal.push-requires
push-requires c =
    let b = c.self.inside in
    let room = c.self.invariant.room (ap (λ (s : CellState). s.is_ready) c.self.view_is ∙ c.requires.ready) in
    some-act-fits (2 * vec_len b.children + vec_len b.watchers + vec_len b.watching + b.fanout) b.acts.room room.acts

pub carry_out-requires-clause-room : goal.carry_out-requires-clause-room
carry_out-requires-clause-room c =
    let b = c.self.inside in
    let room = c.self.invariant.room (ap (λ (s : CellState). s.is_ready) c.self.view_is ∙ c.requires.ready) in
    acts-fit (length c.args.effects.now) (2 * vec_len b.children + vec_len b.watchers + vec_len b.watching + b.fanout) b.acts.room
    c.push.new.self.room
    c.requires.within_limit room.acts (ap (λ (q : ActQueueView). q.room) c.push.ensures)

pub carry_out-requires-clause-children_room : goal.carry_out-requires-clause-children_room
carry_out-requires-clause-children_room c =
    let b = c.self.inside in
    let room = c.self.invariant.room (ap (λ (s : CellState). s.is_ready) c.self.view_is ∙ c.requires.ready) in
    spawned-fit (length c.args.effects.now) (vec_len b.children) b.fanout (vec_capacity b.children) c.requires.within_limit room.children

pub carry_out-requires-clause-watching_room : goal.carry_out-requires-clause-watching_room
carry_out-requires-clause-watching_room c =
    let b = c.self.inside in
    let room = c.self.invariant.room (ap (λ (s : CellState). s.is_ready) c.self.view_is ∙ c.requires.ready) in
    watched-fit (length c.args.effects.now) (vec_len b.watching) (vec_capacity b.watching) c.requires.within_limit room.watching

pub slice_bounds-push_each-end : goal.slice_bounds-push_each-end
slice_bounds-push_each-end c =
    let b = c.self.inside in
    let kept = first-ones c.len-survivors.result c.deref.result.now b.children.items (spawns_of c.args.effects.now)
    (c.deref.ensures.value ∙ c.carry_out.ensures.carried_out.children) (c.len-survivors.ensures ∙ b.children.ok.0) in
    c.len-survivors.ensures ∙ b.children.ok.0 ∙ sym (ap length kept)

pub slice_bounds-fail-end : goal.slice_bounds-fail-end
slice_bounds-fail-end c =
    let b = c.self.inside in
    let kept = first-ones c.len-survivors.result c.deref-3.result.now b.children.items (spawns_of c.args.effects.now)
    (c.deref-3.ensures.value ∙ c.carry_out.ensures.carried_out.children) (c.len-survivors.ensures ∙ b.children.ok.0) in
    c.len-survivors.ensures ∙ b.children.ok.0 ∙ sym (ap length kept)

pub push_each-requires : goal.push_each-requires
push_each-requires c =
    let b = c.self.inside in
    let room = c.self.invariant.room (ap (λ (s : CellState). s.is_ready) c.self.view_is ∙ c.requires.ready) in
    let kept = first-ones c.len-survivors.result c.deref.result.now b.children.items (spawns_of c.args.effects.now)
    (c.deref.ensures.value ∙ c.carry_out.ensures.carried_out.children) (c.len-survivors.ensures ∙ b.children.ok.0) in
    two-less _ _ (restart-fits _ (length c.args.effects.now) (vec_len b.children) (vec_len b.watchers) (vec_len b.watching) b.fanout b.acts.room
    c.push.new.self.room _
    (no-more _ _ _ (ap length kept ∙ sym b.children.ok.0)) c.requires.within_limit room.acts (ap (λ (q : ActQueueView). q.room) c.push.ensures)
    c.carry_out.ensures.few_acts)

pub fail-requires-clause-room : goal.fail-requires-clause-room
fail-requires-clause-room c =
    let b = c.self.inside in
    let room = c.self.invariant.room (ap (λ (s : CellState). s.is_ready) c.self.view_is ∙ c.requires.ready) in
    restart-fits _ (length c.args.effects.now) (vec_len b.children) (vec_len b.watchers) (vec_len b.watching) b.fanout b.acts.room
    c.push.new.self.room _
    (subst (λ n. n ≤ vec_len b.children + length c.args.effects.now) (sym c.deref-2.ensures.len) c.carry_out.ensures.few_children)
    c.requires.within_limit room.acts (ap (λ (q : ActQueueView). q.room) c.push.ensures) c.carry_out.ensures.few_acts

pub fail-requires-clause-below_bound : goal.fail-requires-clause-below_bound
fail-requires-clause-below_bound c =
    one-less _ c.self.inside.count (2 ^ 60) c.saturating_sub-self-inside.ensures
    (subst (λ (s : CellState). s.count < 2 ^ 60) (sym c.self.view_is) c.requires.below_bound)

pub invariant_of-self : goal.invariant_of-self
invariant_of-self c =
    used-up _ refl

pub invariant_of-self-2 : goal.invariant_of-self-2
invariant_of-self-2 c =
    used-up _ refl

pub returns-in_default : goal.returns-in_default
returns-in_default c =
    let b = c.self.inside in
    let who = identity_at c.args.place.now in
    let none = ap (λ (s : CellState). s.acts) c.self.view_is ∙ c.requires.carried_out in
    let kept = first-ones c.len-survivors.result c.deref.result.now b.children.items (spawns_of c.args.effects.now)
    (c.deref.ensures.value ∙ c.carry_out.ensures.carried_out.children) (c.len-survivors.ensures ∙ b.children.ok.0) in
    recreated-live who c.args.cause c.args.answer c.args.effects.now c.args.number (cell_state_of_fields b) _ _ _ _ _ _ _ _
    c.saturating_sub-self-inside.ensures c.forget.ensures.items none (ap (λ (q : ActQueueView). q.acts) c.push.ensures)
    c.carry_out.ensures.carried_out.acts c.carry_out.ensures.carried_out.children c.carry_out.ensures.carried_out.watching c.carry_out.ensures.carried_out.due
    _ _ (not-failed c.args.answer c.in_default.not-Failed) kept (ap (λ (q : ActQueueView). q.acts) c.push_each.ensures)
    ∙ ap (λ (s : CellState). recreated who c.args.cause (Some c.args.answer) c.args.effects.now c.args.number s) c.self.view_is

pub returns : goal.returns
returns c =
    let b = c.self.inside in
    let who = identity_at c.args.place.now in
    let none = ap (λ (s : CellState). s.acts) c.self.view_is ∙ c.requires.carried_out in
    let kept = first-ones c.len-survivors.result c.deref-3.result.now b.children.items (spawns_of c.args.effects.now)
    (c.deref-3.ensures.value ∙ c.carry_out.ensures.carried_out.children) (c.len-survivors.ensures ∙ b.children.ok.0) in
    recreated-broken who c.args.cause c.args.answer c.args.effects.now c.args.number (cell_state_of_fields b) _ _ _ _ _ _ _ _
    c.saturating_sub-self-inside.ensures c.forget.ensures.items none (ap (λ (q : ActQueueView). q.acts) c.push.ensures)
    c.carry_out.ensures.carried_out.acts c.carry_out.ensures.carried_out.children c.carry_out.ensures.carried_out.watching c.carry_out.ensures.carried_out.due
    _ _ _ _ _ (ap (λ (a : Answer). is_failed (Some a)) c.in-Failed.is) kept c.deref-2.ensures.value c.fail.ensures.count c.fail.ensures.failed
    c.fail.ensures.acts
    ∙ ap (λ (s : CellState). recreated who c.args.cause (Some c.args.answer) c.args.effects.now c.args.number s) c.self.view_is
