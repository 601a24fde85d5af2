use Rattle.std.proofs.Common.{rules, refl, ◌≡◌, ◌+◌, ◌*◌, ◌<◌, ◌≤◌, ◌^◌, true, length, ap, subst, sym, ◌∙◌, w64, to_z, of_z}
use Rattle.std.specs.Prelude.{if◌then◌else◌, ◌∷◌, [], vec_capacity, vec_len}
use Rattle.mb_msg.specs.declared.id.ActorId.{ActorId}
use Rattle.mb_supervision.specs.ActorIdentity.{identity_at}
use Rattle.mb_supervision.specs.CellState.{HasRoom, cell_state_of_fields}
use Rattle.mb_supervision.specs.CellStateRecord.{CellState}
use Rattle.mb_supervision.specs.RetryCounts.{retry_count_of}
use Rattle.mb_supervision.specs.Rows.{counted_now, supervised}
use Rattle.mb_supervision.specs.ActQueueView.{ActQueueView}
use Rattle.mb_supervision.proofs.EffectLemmas.{some-act-fits}
use Rattle.mb_supervision.proofs.RoomLemmas.{each-fits, failure-fits, used-up}
use Rattle.mb_supervision.proofs.SupervisedLemmas.{by-escalation, by-refusal, by-restart, by-resume, by-stop, counted-none}
use Rattle.mb_supervision.proofs.RetryLemmas.{counted-restart, meant-few, requests-fit, restarts-fit}
use Rattle.mb_supervision.proofs.cell_state.CellState.supervise.Goals as goal

pub ask-requires-clause-few : goal.ask-requires-clause-few
ask-requires-clause-few c =
    subst (λ (b : CellState). (y : ActorId) → retry_count_of b.retries y < 2 ^ 63) (sym c.self.view_is) c.requires.few_requests

pub ask-requires-clause-room : goal.ask-requires-clause-room
ask-requires-clause-room c =
    let b = c.self.inside in
    let ready : b.ready ≡ true = ap (λ (s : CellState). s.is_ready) c.self.view_is ∙ c.requires.ready in
    let room : HasRoom b = c.self.invariant.room ready in
    let few : length c.meant_by-meant.result.now ≤ vec_len b.children + 1 =
    subst (λ n. length c.meant_by-meant.result.now ≤ n + 1) (sym b.children.ok.0)
    (meant-few c.args.place.now.strategy.all_for_one c.meant_by-meant.result.now b.children.items c.args.child
    (c.meant_by-meant.ensures ∙ ap (λ l. if c.args.place.now.strategy.all_for_one then l else c.args.child ∷ []) c.deref.ensures.value)) in
    requests-fit (length c.meant_by-meant.result.now) (vec_len b.children) (vec_len b.retries) (vec_capacity b.retries) few room.retries

pub restart_each-requires : goal.restart_each-requires
restart_each-requires c =
    let b = c.self.inside in
    let ready : b.ready ≡ true = ap (λ (s : CellState). s.is_ready) c.self.view_is ∙ c.requires.ready in
    let room : HasRoom b = c.self.invariant.room ready in
    let few : length c.meant_by-meant.result.now ≤ vec_len b.children + 1 =
    subst (λ n. length c.meant_by-meant.result.now ≤ n + 1) (sym b.children.ok.0)
    (meant-few c.args.place.now.strategy.all_for_one c.meant_by-meant.result.now b.children.items c.args.child
    (c.meant_by-meant.ensures ∙ ap (λ l. if c.args.place.now.strategy.all_for_one then l else c.args.child ∷ []) c.deref.ensures.value)) in
    record {
      room = restarts-fit (length c.meant_by-meant.result.now) (vec_len b.children) (vec_len b.watchers) (vec_len b.watching) b.fanout b.acts.room
          few room.acts;
    }

pub invariant_of-self : goal.invariant_of-self
invariant_of-self c =
    used-up _ refl

pub invariant_of-self-then-ask : goal.invariant_of-self-then-ask
invariant_of-self-then-ask c =
    used-up _ refl

pub invariant_of-self-else-ask : goal.invariant_of-self-else-ask
invariant_of-self-else-ask c =
    used-up _ refl

pub invariant_of-self-in-Stop : goal.invariant_of-self-in-Stop
invariant_of-self-in-Stop c =
    used-up _ refl

pub invariant_of-self-in-Escalate : goal.invariant_of-self-in-Escalate
invariant_of-self-in-Escalate c =
    used-up _ refl

pub push_each-requires : goal.push_each-requires
push_each-requires c =
    let b = c.self.inside in
    let ready : b.ready ≡ true = ap (λ (s : CellState). s.is_ready) c.self.view_is ∙ c.requires.ready in
    let few : length c.meant_by-meant.result.now ≤ vec_len b.children + 1 =
    subst (λ n. length c.meant_by-meant.result.now ≤ n + 1) (sym b.children.ok.0)
    (meant-few c.args.place.now.strategy.all_for_one c.meant_by-meant.result.now b.children.items c.args.child
    (c.meant_by-meant.ensures ∙ ap (λ l. if c.args.place.now.strategy.all_for_one then l else c.args.child ∷ []) c.deref.ensures.value)) in
    each-fits _ (vec_len b.children) (vec_len b.watchers) (vec_len b.watching) b.fanout b.acts.room few (c.self.invariant.room ready).acts

pub push_each-requires-in-Stop : goal.push_each-requires-in-Stop
push_each-requires-in-Stop c =
    let b = c.self.inside in
    let ready : b.ready ≡ true = ap (λ (s : CellState). s.is_ready) c.self.view_is ∙ c.requires.ready in
    let few : length c.meant_by-meant.result.now ≤ vec_len b.children + 1 =
    subst (λ n. length c.meant_by-meant.result.now ≤ n + 1) (sym b.children.ok.0)
    (meant-few c.args.place.now.strategy.all_for_one c.meant_by-meant.result.now b.children.items c.args.child
    (c.meant_by-meant.ensures ∙ ap (λ l. if c.args.place.now.strategy.all_for_one then l else c.args.child ∷ []) c.deref.ensures.value)) in
    each-fits _ (vec_len b.children) (vec_len b.watchers) (vec_len b.watching) b.fanout b.acts.room few (c.self.invariant.room ready).acts

pub push-requires : goal.push-requires
push-requires c =
    let b = c.self.inside in
    let ready : b.ready ≡ true = ap (λ (s : CellState). s.is_ready) c.self.view_is ∙ c.requires.ready in
    some-act-fits (2 * vec_len b.children + vec_len b.watchers + vec_len b.watching + b.fanout) b.acts.room (c.self.invariant.room ready).acts

pub fail-requires-clause-room : goal.fail-requires-clause-room
fail-requires-clause-room c =
    let b = c.self.inside in
    let ready : b.ready ≡ true = ap (λ (s : CellState). s.is_ready) c.self.view_is ∙ c.requires.ready in
    subst (λ l. length l + 2 ≤ b.acts.room) (sym c.deref-in-Escalate.ensures.value)
    (failure-fits (length b.children.items) (vec_len b.children) (vec_len b.watchers) (vec_len b.watching) b.fanout b.acts.room b.children.ok.0
    (c.self.invariant.room ready).acts)

pub fail-requires-clause-below_bound : goal.fail-requires-clause-below_bound
fail-requires-clause-below_bound c = subst (λ (s : CellState). s.count < 2 ^ 60) (sym c.self.view_is) c.requires.below_bound

pub returns-in-Resume-clause-state : goal.returns-in-Resume-clause-state
returns-in-Resume-clause-state c =
    let b = c.self.inside in
    let who = identity_at c.args.place.now in
    let none = ap (λ (s : CellState). s.acts) c.self.view_is ∙ c.requires.carried_out in
    by-resume who c.args.child c.args.cause (cell_state_of_fields b) c.args.number b.retries.items _ _ _ c.forget.ensures.items none
    c.in-Resume.ensures (ap (λ (q : ActQueueView). q.acts) c.push.ensures)
    ∙ ap (λ (s : CellState). supervised who c.args.child c.args.cause c.args.number b.retries.items s) c.self.view_is

pub returns-in-Stop-clause-state : goal.returns-in-Stop-clause-state
returns-in-Stop-clause-state c =
    let b = c.self.inside in
    let who = identity_at c.args.place.now in
    let none = ap (λ (s : CellState). s.acts) c.self.view_is ∙ c.requires.carried_out in
    let meant = c.meant_by-meant.ensures ∙ ap (λ l. if c.args.place.now.strategy.all_for_one then l else c.args.child ∷ []) c.deref.ensures.value in
    by-stop who c.args.child c.args.cause (cell_state_of_fields b) c.args.number b.retries.items _ _ _ c.forget.ensures.items none _ meant
    c.in-Stop.ensures
    (ap (λ (q : ActQueueView). q.acts) c.push_each-in-Stop.ensures)
    ∙ ap (λ (s : CellState). supervised who c.args.child c.args.cause c.args.number b.retries.items s) c.self.view_is

pub returns-in-Escalate-clause-state : goal.returns-in-Escalate-clause-state
returns-in-Escalate-clause-state c =
    let b = c.self.inside in
    let who = identity_at c.args.place.now in
    let none = ap (λ (s : CellState). s.acts) c.self.view_is ∙ c.requires.carried_out in
    by-escalation who c.args.child c.args.cause (cell_state_of_fields b) c.args.number b.retries.items _ _ _ c.forget.ensures.items none _ _ _
    c.deref-in-Escalate.ensures.value c.in-Escalate.ensures
    c.fail.ensures.count c.fail.ensures.failed c.fail.ensures.acts
    ∙ ap (λ (s : CellState). supervised who c.args.child c.args.cause c.args.number b.retries.items s) c.self.view_is

pub returns-in-Resume-clause-counted : goal.returns-in-Resume-clause-counted
returns-in-Resume-clause-counted c =
    counted-none (identity_at c.args.place.now) c.args.child c.args.cause (cell_state_of_fields c.self.inside) _ c.in-Resume.ensures refl
    ∙ ap (λ (s : CellState). counted_now (identity_at c.args.place.now) s c.args.child c.args.cause) c.self.view_is

pub returns-in-Stop-clause-counted : goal.returns-in-Stop-clause-counted
returns-in-Stop-clause-counted c =
    counted-none (identity_at c.args.place.now) c.args.child c.args.cause (cell_state_of_fields c.self.inside) _ c.in-Stop.ensures refl
    ∙ ap (λ (s : CellState). counted_now (identity_at c.args.place.now) s c.args.child c.args.cause) c.self.view_is

pub returns-in-Escalate-clause-counted : goal.returns-in-Escalate-clause-counted
returns-in-Escalate-clause-counted c =
    counted-none (identity_at c.args.place.now) c.args.child c.args.cause (cell_state_of_fields c.self.inside) _ c.in-Escalate.ensures refl
    ∙ ap (λ (s : CellState). counted_now (identity_at c.args.place.now) s c.args.child c.args.cause) c.self.view_is

pub returns-then-ask-clause-state : goal.returns-then-ask-clause-state
returns-then-ask-clause-state c =
    let b = c.self.inside in
    let who = identity_at c.args.place.now in
    let none = ap (λ (s : CellState). s.acts) c.self.view_is ∙ c.requires.carried_out in
    let meant = c.meant_by-meant.ensures ∙ ap (λ l. if c.args.place.now.strategy.all_for_one then l else c.args.child ∷ []) c.deref.ensures.value in
    by-restart who c.args.child c.args.cause (cell_state_of_fields b) c.args.number c.ask.new.counts.items _ _ _ c.forget.ensures.items none
    (to_z w64 (of_z w64 c.args.place.now.strategy.retries)) _ (search rules)
    meant c.in-Restart.ensures _ c.ask.ensures.all c.if-ask.true c.restart_each.ensures.acts
    ∙ ap (λ (s : CellState). supervised who c.args.child c.args.cause c.args.number c.ask.new.counts.items s) c.self.view_is

pub returns-then-ask-clause-counted : goal.returns-then-ask-clause-counted
returns-then-ask-clause-counted c =
    counted-restart (identity_at c.args.place.now) (cell_state_of_fields c.self.inside) c.args.child c.args.cause
    (to_z w64 (of_z w64 c.args.place.now.strategy.retries)) c.meant_by-meant.result.now _ (search rules) (sym c.in-Restart.ensures)
    (c.meant_by-meant.ensures ∙ ap (λ l. if c.args.place.now.strategy.all_for_one then l else c.args.child ∷ []) c.deref.ensures.value)
    c.ask.ensures.counted
    ∙ ap (λ (b : CellState). counted_now (identity_at c.args.place.now) b c.args.child c.args.cause) c.self.view_is

pub returns-else-ask-clause-state : goal.returns-else-ask-clause-state
returns-else-ask-clause-state c =
    let b = c.self.inside in
    let who = identity_at c.args.place.now in
    let none = ap (λ (s : CellState). s.acts) c.self.view_is ∙ c.requires.carried_out in
    let meant = c.meant_by-meant.ensures ∙ ap (λ l. if c.args.place.now.strategy.all_for_one then l else c.args.child ∷ []) c.deref.ensures.value in
    by-refusal who c.args.child c.args.cause (cell_state_of_fields b) c.args.number c.ask.new.counts.items _ _ _ c.forget.ensures.items none
    (to_z w64 (of_z w64 c.args.place.now.strategy.retries)) _ (search rules)
    meant c.in-Restart.ensures _ c.ask.ensures.all c.if-ask.false (ap (λ (q : ActQueueView). q.acts) c.push_each.ensures)
    ∙ ap (λ (s : CellState). supervised who c.args.child c.args.cause c.args.number c.ask.new.counts.items s) c.self.view_is

pub returns-else-ask-clause-counted : goal.returns-else-ask-clause-counted
returns-else-ask-clause-counted c =
    counted-restart (identity_at c.args.place.now) (cell_state_of_fields c.self.inside) c.args.child c.args.cause
    (to_z w64 (of_z w64 c.args.place.now.strategy.retries)) c.meant_by-meant.result.now _ (search rules) (sym c.in-Restart.ensures)
    (c.meant_by-meant.ensures ∙ ap (λ l. if c.args.place.now.strategy.all_for_one then l else c.args.child ∷ []) c.deref.ensures.value)
    c.ask.ensures.counted
    ∙ ap (λ (b : CellState). counted_now (identity_at c.args.place.now) b c.args.child c.args.cause) c.self.view_is
