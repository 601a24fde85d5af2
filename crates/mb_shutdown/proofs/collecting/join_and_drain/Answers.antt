use Rattle.std.proofs.Common.{rules, map}
use Rattle.mb_shutdown.proofs.JoinAndDrainLemmas.{came-at, err-both, known-at, ok-then, ordered-at, overfull, over-refilled, rests-refilled}
use Rattle.mb_shutdown.proofs.Lists.{within}
use Rattle.mb_shutdown.specs.LeftInQueues.{IsFullAt, IsOver, IsTooManyFor}
use Rattle.mb_shutdown.proofs.collecting.join_and_drain.Goals as goal

pub returns-clause-collected : goal.returns-clause-collected
returns-clause-collected g c =
    let rows = map (λ row. row.items) c.args.senders.items in let lefts = map (λ room. room.items) c.drain_queues.new.rooms in
    let v = c.args.takes in let lent = c.deref_mut.result.now in let joined = c.join_all.new.takes in
    ok-then c.drain_queues.result (λ rests. (
    let all = rests-refilled rows lefts v.items lent joined v.len (search rules) c.join_all.ensures (search rules) rests in record {
      came = λ place take left there found. came-at v.items rows lefts place take left all there found (c.requires.different place);
      known = λ place take left there found. known-at v.items rows lefts place take left all there found;
      ordered = λ place take left there found. ordered-at v.items rows lefts place take left all there found (c.requires.different place);
    }
    )) c.drain_queues.ensures.left_in_queues

pub returns-clause-too_many : goal.returns-clause-too_many
returns-clause-too_many g c =
    let rows = map (λ row. row.items) c.args.senders.items in let v = c.args.takes in let rooms = c.args.rooms.now in
    let lent = c.deref_mut.result.now in let joined = c.join_all.new.takes in let left = c.drain_queues.new.rooms in
    err-both c.drain_queues.result (λ many. IsOver many.0 _ rooms) (λ many. IsFullAt many.0 left) (λ many. IsTooManyFor v.items rows rooms left many.0)
    (λ many over full. (
    let more = overfull v.items rows rooms many.0 (c.requires.different many.0)
    (over-refilled rows rooms v.items lent joined v.len many.0 (search rules) c.join_all.ensures (search rules) over) in record {
      place_is = within v.items many.0 more.take more.present;
      overfull = more;
      full = full;
    }
    )) c.drain_queues.ensures.overfull c.drain_queues.ensures.full
