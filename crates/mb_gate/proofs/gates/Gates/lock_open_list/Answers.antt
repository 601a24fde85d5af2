use Rattle.std.proofs.Common.{refl, ap, sym, subst, ◌∙◌, if◌then◌else◌}
use Rattle.atomic_table.specs.Table.{Me}
use Rattle.mb_gate.specs.Lists.{may_lock_list}
use Rattle.mb_gate.specs.TableSteps.{ListLocked}
use Rattle.mb_gate.specs.ClaimCounts.{WasHeldBy}
use Rattle.mb_gate.specs.View.{View, refusing}
use Rattle.mb_gate.proofs.ListCalls.{is_not_ended, sharer_may, when_true, when_false}
use Rattle.mb_gate.proofs.gates.Gates.lock_open_list.Goals as goal

pub loop-init : goal.loop-init
loop-init g c = (refl, refl)

pub loop-preserved-then-is_locked : goal.loop-preserved-then-is_locked
loop-preserved-then-is_locked g c = c.loop.invariant

pub try_refuse-requires-clause-same_gates : goal.try_refuse-requires-clause-same_gates
try_refuse-requires-clause-same_gates g c = c.loop.invariant.0 ∙ c.requires.same_gates

pub returns-then-try_refuse-clause-same_gates : goal.returns-then-try_refuse-clause-same_gates
returns-then-try_refuse-clause-same_gates g c = c.try_refuse.ensures.same_gates ∙ c.loop.invariant.0

pub returns-then-try_refuse-clause-refused : goal.returns-then-try_refuse-clause-refused
returns-then-try_refuse-clause-refused g c =
    let me = c.loop.seat.me in let sent_system : Me _ View = (refusing c.args.id.0 c.args.message me.0, me.1) in
    λ _. c.try_refuse.ensures.answer ∙ ap (λ b. if b then sent_system else me) c.if-try_refuse.true
    ∙ ap (λ m. (refusing c.args.id.0 c.args.message m.0, m.1)) c.loop.invariant.1

pub returns-then-try_refuse-clause-held : goal.returns-then-try_refuse-clause-held
returns-then-try_refuse-clause-held g c =
    λ _. subst (λ m. WasHeldBy c.args.id.0 m.0) c.loop.invariant.1 (c.try_refuse.ensures.held c.if-try_refuse.true)

pub loop-preserved-else-try_refuse : goal.loop-preserved-else-try_refuse
loop-preserved-else-try_refuse g c =
    let me = c.loop.seat.me in let sent_system : Me _ View = (refusing c.args.id.0 c.args.message me.0, me.1) in (
      c.try_refuse.ensures.same_gates ∙ c.loop.invariant.0,
      c.try_refuse.ensures.answer ∙ ap (λ b. if b then sent_system else me) c.if-try_refuse.false ∙ c.loop.invariant.1,
    )

pub try_lock_list-requires-clause-same_gates : goal.try_lock_list-requires-clause-same_gates
try_lock_list-requires-clause-same_gates g c = c.loop.invariant.0 ∙ c.requires.same_gates

pub try_lock_list-requires-clause-no_list : goal.try_lock_list-requires-clause-no_list
try_lock_list-requires-clause-no_list g c = ap (λ m. m.0.list) c.loop.invariant.1 ∙ c.requires.no_list

pub try_lock_list-requires-clause-may_lock : goal.try_lock_list-requires-clause-may_lock
try_lock_list-requires-clause-may_lock g c = ap (λ m. may_lock_list c.args.id.0 m.0) c.loop.invariant.1
    ∙ sharer_may c.args.id.0 c.args.seat.now.me.0 c.requires.share

pub returns-then-try_lock_list-clause-same_gates : goal.returns-then-try_lock_list-clause-same_gates
returns-then-try_lock_list-clause-same_gates g c = c.try_lock_list.ensures.same_gates ∙ c.loop.invariant.0

pub returns-then-try_lock_list-clause-refused : goal.returns-then-try_lock_list-clause-refused
returns-then-try_lock_list-clause-refused g c = λ e. absurd (cc)

pub returns-then-try_lock_list-clause-held : goal.returns-then-try_lock_list-clause-held
returns-then-try_lock_list-clause-held g c = λ e. absurd (cc)

pub returns-then-try_lock_list-clause-lent : goal.returns-then-try_lock_list-clause-lent
returns-then-try_lock_list-clause-lent g c =
    let word = c.of-word.result in
    let locked = subst (λ m. ListLocked c.args.id.0 word.bits m c.try_lock_list.new.seat.me) c.loop.invariant.1
    (when_true _ _ _ c.if-try_lock_list.true c.try_lock_list.ensures.answer) in
    (locked, is_not_ended word.bits locked.listed locked.gave locked.word (sym c.is_ended.ensures ∙ c.if-is_ended.false))

pub loop-preserved : goal.loop-preserved
loop-preserved g c = (c.try_lock_list.ensures.same_gates ∙ c.loop.invariant.0, when_false _ _ _ c.if-try_lock_list.false c.try_lock_list.ensures.answer ∙ c.loop.invariant.1)
