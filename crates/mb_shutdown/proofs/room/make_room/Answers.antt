use Rattle.std.proofs.Common.{sym, subst}
use Rattle.mb_gate.specs.Accessors.{actors_of, pass_view}
use Rattle.mb_shutdown.specs.Rooms.{AreCounted, IsRoom, counted_in}
use Rattle.mb_shutdown.proofs.Answered.{ok-each}
use Rattle.mb_shutdown.proofs.room.make_room.Goals as goal

pub returns-in_err-waiting-clause-same_gates : goal.returns-in_err-waiting-clause-same_gates
returns-in_err-waiting-clause-same_gates g c = c.make_lefts.ensures.same_gates

pub returns-in_err-waiting-clause-known : goal.returns-in_err-waiting-clause-known
returns-in_err-waiting-clause-known g c = c.make_lefts.ensures.known

pub returns-in_err-waiting-clause-only : goal.returns-in_err-waiting-clause-only
returns-in_err-waiting-clause-only g c = c.make_lefts.ensures.only

pub returns-clause-same_gates : goal.returns-clause-same_gates
returns-clause-same_gates g c = c.make_lefts.ensures.same_gates

pub returns-clause-known : goal.returns-clause-known
returns-clause-known g c = c.make_lefts.ensures.known

pub returns-clause-only : goal.returns-clause-only
returns-clause-only g c = c.make_lefts.ensures.only

pub returns-clause-room : goal.returns-clause-room
returns-clause-room g c = ok-each c.room_around.result _ (λ room. IsRoom (actors_of c.args.gates.now) c.args.outside room)
    (λ room made. subst (λ n. IsRoom n c.args.outside room) c.actors-actors.ensures made.0) c.room_around.ensures

pub returns-clause-waiting : goal.returns-clause-waiting
returns-clause-waiting g c =
    let log = (pass_view c.make_lefts.new.pass).log in
    ok-each c.room_around.result _ (λ room. AreCounted log (counted_in room))
    (λ room made. subst (AreCounted log) (sym made.1) c.in_ok-waiting.ensures.waiting) c.room_around.ensures
