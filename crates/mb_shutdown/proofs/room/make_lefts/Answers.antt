use Rattle.std.proofs.Common.{◌+◌, ◌∷◌, [], length, refl, ap, ◌∙◌, length-append, arith}
use Rattle.mb_gate.specs.Accessors.{pass_view}
use Rattle.mb_gate.specs.View.{View, Counted}
use Rattle.mb_shutdown.specs.Rooms.{IsEmptyWithRoom}
use Rattle.mb_shutdown.proofs.Answered.{if-none}
use Rattle.mb_shutdown.proofs.Steps.{counting-log, none-counted, one-counted, only-more, only-none, part-more, part-same, zip-more, zip-none}
use Rattle.mb_shutdown.proofs.room.make_lefts.Goals as goal

pub returns-in_err-counts-clause-known : goal.returns-in_err-counts-clause-known
returns-in_err-counts-clause-known g c = part-same (pass_view c.args.pass.now).log

pub returns-in_err-lefts-clause-known : goal.returns-in_err-lefts-clause-known
returns-in_err-lefts-clause-known g c = part-same (pass_view c.args.pass.now).log

pub returns-in_err-counts-clause-only : goal.returns-in_err-counts-clause-only
returns-in_err-counts-clause-only g c = only-none (pass_view c.args.pass.now)

pub returns-in_err-lefts-clause-only : goal.returns-in_err-lefts-clause-only
returns-in_err-lefts-clause-only g c = only-none (pass_view c.args.pass.now)

pub loop-number-init : goal.loop-number-init
loop-number-init g c = (
  refl,
  part-same (pass_view c.args.pass.now).log,
  ap length c.in_ok-counts.ensures.items,
  zip-none IsEmptyWithRoom c.in_ok-counts.counts.items c.in_ok-lefts.lefts.items c.in_ok-counts.ensures.items c.in_ok-lefts.ensures.items,
  refl,
  refl,
  ap length c.in_ok-lefts.ensures.items,
  none-counted (pass_view c.args.pass.now).log c.in_ok-counts.counts.items c.in_ok-counts.ensures.items,
  only-none (pass_view c.args.pass.now),
)

pub returns-in_err-room-clause-known : goal.returns-in_err-room-clause-known
returns-in_err-room-clause-known g c =
    let at = c.loop-number in let w = c.waiting-waiting.result in
    part-more (pass_view c.args.pass.now).log (pass_view at.pass).log (pass_view c.waiting-waiting.new.pass).log (Counted at.number w)
    (ap (λ (v : View). v.log) c.waiting-waiting.ensures.known ∙ counting-log at.number w (pass_view at.pass)) at.invariant.1

pub returns-in_err-room-clause-only : goal.returns-in_err-room-clause-only
returns-in_err-room-clause-only g c =
    let at = c.loop-number in
    only-more (pass_view c.args.pass.now) (pass_view at.pass) (pass_view c.waiting-waiting.new.pass) at.number c.waiting-waiting.result
    c.waiting-waiting.ensures.known at.invariant.8

pub loop-number-preserved : goal.loop-number-preserved
loop-number-preserved g c =
    let at = c.loop-number in let w = c.waiting-waiting.result in let room = c.in_ok-room.room in
    let first = c.push_reserved in let second = c.push_reserved-in-loop-number in (
      c.waiting-waiting.ensures.same_gates ∙ at.invariant.0,
      part-more (pass_view c.args.pass.now).log (pass_view at.pass).log (pass_view c.waiting-waiting.new.pass).log (Counted at.number w)
          (ap (λ (v : View). v.log) c.waiting-waiting.ensures.known ∙ counting-log at.number w (pass_view at.pass)) at.invariant.1,
      ap length first.ensures.items ∙ length-append at.counts.items (w ∷ []) ∙ ap (λ n. n + 1) at.invariant.2,
      zip-more IsEmptyWithRoom at.counts.items first.new.self.items at.lefts.items second.new.self.items w room first.ensures.items second.ensures.items
          at.invariant.3 (c.in_ok-room.ensures.items, (let e = c.in_ok-room.ensures.exact in omega (arith, e))),
      first.ensures.capacity ∙ at.invariant.4,
      second.ensures.capacity ∙ at.invariant.5,
      ap length second.ensures.items ∙ length-append at.lefts.items (room ∷ []) ∙ ap (λ n. n + 1) at.invariant.6,
      one-counted (pass_view at.pass).log (pass_view c.waiting-waiting.new.pass).log at.counts.items first.new.self.items at.number w
          (ap (λ (v : View). v.log) c.waiting-waiting.ensures.known ∙ counting-log at.number w (pass_view at.pass)) first.ensures.items
          at.invariant.2 at.invariant.7,
      only-more (pass_view c.args.pass.now) (pass_view at.pass) (pass_view c.waiting-waiting.new.pass) at.number w c.waiting-waiting.ensures.known
          at.invariant.8,
    )

pub returns-in_err-counts-clause-counted : goal.returns-in_err-counts-clause-counted
returns-in_err-counts-clause-counted g c = if-none _ c.from_residual.result c.in_err-counts.field-0.0 c.from_residual.ensures.1

pub returns-in_err-counts-clause-room : goal.returns-in_err-counts-clause-room
returns-in_err-counts-clause-room g c = if-none _ c.from_residual.result c.in_err-counts.field-0.0 c.from_residual.ensures.1

pub returns-in_err-counts-clause-waiting : goal.returns-in_err-counts-clause-waiting
returns-in_err-counts-clause-waiting g c = if-none _ c.from_residual.result c.in_err-counts.field-0.0 c.from_residual.ensures.1

pub returns-in_err-lefts-clause-counted : goal.returns-in_err-lefts-clause-counted
returns-in_err-lefts-clause-counted g c = if-none _ c.from_residual-in_err-lefts.result c.in_err-lefts.field-0.0 c.from_residual-in_err-lefts.ensures.1

pub returns-in_err-lefts-clause-room : goal.returns-in_err-lefts-clause-room
returns-in_err-lefts-clause-room g c = if-none _ c.from_residual-in_err-lefts.result c.in_err-lefts.field-0.0 c.from_residual-in_err-lefts.ensures.1

pub returns-in_err-lefts-clause-waiting : goal.returns-in_err-lefts-clause-waiting
returns-in_err-lefts-clause-waiting g c = if-none _ c.from_residual-in_err-lefts.result c.in_err-lefts.field-0.0 c.from_residual-in_err-lefts.ensures.1

pub returns-in_err-room-clause-counted : goal.returns-in_err-room-clause-counted
returns-in_err-room-clause-counted g c = if-none _ c.from_residual-in_err-room.result c.in_err-room.field-0.0 c.from_residual-in_err-room.ensures.1

pub returns-in_err-room-clause-room : goal.returns-in_err-room-clause-room
returns-in_err-room-clause-room g c = if-none _ c.from_residual-in_err-room.result c.in_err-room.field-0.0 c.from_residual-in_err-room.ensures.1

pub returns-in_err-room-clause-waiting : goal.returns-in_err-room-clause-waiting
returns-in_err-room-clause-waiting g c = if-none _ c.from_residual-in_err-room.result c.in_err-room.field-0.0 c.from_residual-in_err-room.ensures.1
