use Rattle.std.proofs.Common.{List, ap, reverse, sym, arith, ◌∙◌}
use Rattle.mb_build.specs.Planned.{actors_in}
use Rattle.mb_causal_order.specs.Replayed.{IsReady}
use Rattle.mb_causal_order.specs.declared.place.Place.{Place}
use Rattle.mb_causal_order.proofs.Accounted.{accounted-first, merged, present}
use Rattle.mb_causal_order.proofs.NoCell.{no_cell}
use Rattle.mb_causal_order.proofs.Planned.{actors-many}
use Rattle.mb_causal_order.proofs.Unready.{behind-itself, lowest-first, lowest-more, no-order}
use Rattle.mb_causal_order.proofs.merge.merged_order.Goals as goal

pub loop-taken-init : goal.loop-taken-init
loop-taken-init c =
    let of = c.is_of_plan.ensures.0 c.if-not-is_of_plan.false in
    let many = rw c.in-Some.is at c.in_ok-first.ensures.as_many in
    let unstarted = rw c.in-Some.is at c.in_ok-first.ensures.unstarted in
    let outside = rw c.in-Some.is at c.in_ok-first.ensures.outside in
    let empty = ap (λ (l : List Place). reverse l) c.new-order.ensures.items in record {
      replayed = accounted-first (actors_in c.args.plan.now) c.args.sends.now c.args.actors.now _ c.in-Some.first.cells.items
          c.in-Some.first.outstanding.rows.items empty many unstarted outside (actors-many c.args.plan.now ∙ sym of.as_many);
      lowest = lowest-first (actors_in c.args.plan.now) c.args.sends.now c.args.actors.now _ empty;
    }

pub next_actor-requires : goal.next_actor-requires
next_actor-requires c = record {
  all_cells = c.loop-taken.invariant.replayed.as_many;
  few = c.requires.few;
  kept = c.are_kept.ensures.0 c.if-not-are_kept.false;
}

pub take-requires : goal.take-requires
take-requires c =
    let who = actors_in c.args.plan.now in
    let order = reverse c.loop-taken.order.items in
    let ready : IsReady who c.args.sends.now c.args.actors.now order c.in-Some-next_actor.number =
    c.in-Some-next_actor.ensures.ready who c.args.sends.now order c.loop-taken.invariant.replayed in record {
      an_actor = ready.an_actor;
      few = c.requires.few;
      all_cells = c.loop-taken.invariant.replayed.as_many;
      carried_out = present who c.args.sends.now c.args.actors.now order c.loop-taken.replay.cells.items
          c.loop-taken.replay.outstanding.rows.items c.in-Some-next_actor.number c.loop-taken.invariant.replayed ready.an_actor;
    }

pub loop-taken-preserved : goal.loop-taken-preserved
loop-taken-preserved c =
    let who = actors_in c.args.plan.now in
    let sends = c.args.sends.now in
    let order = reverse c.loop-taken.order.items in
    let replayed = c.loop-taken.invariant.replayed in
    let ready : IsReady who sends c.args.actors.now order c.in-Some-next_actor.number = c.in-Some-next_actor.ensures.ready who sends order replayed in
    let ready_actor = ready.an_actor in record {
      replayed = c.in_ok-take.ensures.replayed c.if-not-branch.false who sends replayed ready;
      lowest = lowest-more who sends c.args.actors.now c.loop-taken.order.items _ _ (c.in_ok-take.ensures.placed c.if-not-branch.false no_cell)
          (λ b below may. c.in-Some-next_actor.ensures.lowest who sends order order b replayed (omega (arith, ready_actor, below)) below
          (behind-itself who sends c.args.actors.now order b replayed.in_order may)) c.loop-taken.invariant.lowest;
    }

pub returns-then-has_all : goal.returns-then-has_all
returns-then-has_all c = (
  merged _ _ c.args.actors.now _ _ _ c.loop-taken.invariant.replayed (c.has_all.ensures.all c.if-has_all.true),
  c.loop-taken.invariant.lowest,
)

pub returns-in_default-next_actor : goal.returns-in_default-next_actor
returns-in_default-next_actor c =
    let who = actors_in c.args.plan.now in
    let sends = c.args.sends.now in
    let order = reverse c.loop-taken.order.items in
    let replayed = c.loop-taken.invariant.replayed in
    no-order who sends c.args.actors.now order (λ before b inside may. c.in_default-next_actor.ensures.lowest who sends before order b replayed inside tt may) c.loop-taken.replay.cells.items c.loop-taken.replay.outstanding.rows.items replayed
    (c.has_all.ensures.some_left c.if-has_all.false)
