use Rattle.std.proofs.Common.{◌≡◌, true, length, refl, sym, ap, subst, ◌∙◌, inl}
use Rattle.mb_msg.specs.declared.system.SysMsg.TheVariants.{Create}
use Rattle.mb_actor.specs.declared.phase.Phase.TheVariants.{Ended}
use Rattle.mb_journal.specs.Incarnation.{messages}
use Rattle.mb_journal.specs.Phase.{phase_is}
use Rattle.mb_cell.specs.CellView.{MayTake, CellView}
use Rattle.bench.specs.Idle.{IsIdle}
use Rattle.bench.proofs.Steps.{Starts, next_number-none, phase-none, ready_cell, starts_actor}
use Rattle.bench.proofs.messages.measured.start.Goals as goal

pub apply_system-requires : goal.apply_system-requires
apply_system-requires g c =
    let who = c.args.cell.now.who in
    let is : c.ready.new.self ≡ ready_cell who = c.in_ok-ready.ensures.ok ∙ ap (λ (s : CellView). record s { is_ready = true }) c.requires.new in
    let there : MayTake (ready_cell who) 0 Create = record {
      ready = refl;
      carried_out = refl;
      not_ended = ap (λ p. phase_is p Ended) (phase-none who);
      numbered = inl (sym next_number-none);
    } in
    record { may_take = subst (λ (s : CellView). MayTake s 0 Create) (sym is) there }

pub returns-clause-same_who : goal.returns-clause-same_who
returns-clause-same_who g c =
    let who = c.args.cell.now.who in
    let is : c.ready.new.self ≡ ready_cell who = c.in_ok-ready.ensures.ok ∙ ap (λ (s : CellView). record s { is_ready = true }) c.requires.new in
    let step : Starts who c.apply_system.new.self =
    starts_actor g.K.Behaviours.gives who c.ready.new.self c.apply_system.new.self c.requires.an_actor c.requires.steady is
    c.apply_system.ensures.taken c.apply_system.ensures.lawful in
    ap (λ (s : CellView). s.who) c.take_acts.ensures ∙ step.same_who

pub returns-clause-idle : goal.returns-clause-idle
returns-clause-idle g c =
    let who = c.args.cell.now.who in
    let is : c.ready.new.self ≡ ready_cell who = c.in_ok-ready.ensures.ok ∙ ap (λ (s : CellView). record s { is_ready = true }) c.requires.new in
    let step : Starts who c.apply_system.new.self =
    starts_actor g.K.Behaviours.gives who c.ready.new.self c.apply_system.new.self c.requires.an_actor c.requires.steady is
    c.apply_system.ensures.taken c.apply_system.ensures.lawful in
    subst (λ (s : CellView). IsIdle s) (sym c.take_acts.ensures) step.idle

pub returns-clause-entry : goal.returns-clause-entry
returns-clause-entry g c =
    let who = c.args.cell.now.who in
    let is : c.ready.new.self ≡ ready_cell who = c.in_ok-ready.ensures.ok ∙ ap (λ (s : CellView). record s { is_ready = true }) c.requires.new in
    let step : Starts who c.apply_system.new.self =
    starts_actor g.K.Behaviours.gives who c.ready.new.self c.apply_system.new.self c.requires.an_actor c.requires.steady is
    c.apply_system.ensures.taken c.apply_system.ensures.lawful in
    ap (λ (s : CellView). length s.journal) c.take_acts.ensures ∙ step.one

pub returns-clause-no_message : goal.returns-clause-no_message
returns-clause-no_message g c =
    let who = c.args.cell.now.who in
    let is : c.ready.new.self ≡ ready_cell who = c.in_ok-ready.ensures.ok ∙ ap (λ (s : CellView). record s { is_ready = true }) c.requires.new in
    let step : Starts who c.apply_system.new.self =
    starts_actor g.K.Behaviours.gives who c.ready.new.self c.apply_system.new.self c.requires.an_actor c.requires.steady is
    c.apply_system.ensures.taken c.apply_system.ensures.lawful in
    ap (λ (s : CellView). messages s.who s.journal) c.take_acts.ensures ∙ step.unheard
