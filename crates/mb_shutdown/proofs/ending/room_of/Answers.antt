use Rattle.std.proofs.Common.{◌≡◌, ◌≤◌, ◌∙◌, ℕ, length, subst}
use Rattle.std.specs.Prelude.{vec_capacity}
use Rattle.mb_gate.specs.Accessors.{actors_of, pass_view}
use Rattle.mb_shutdown.specs.Rooms.{AreCounted, IsRoom, counted_in}
use Rattle.mb_shutdown.proofs.ComingBack.{first-ours, ok-at, read-again}
use Rattle.mb_shutdown.proofs.ending.room_of.Goals as goal

pub make_room-room-requires-clause-same_gates : goal.make_room-room-requires-clause-same_gates
make_room-room-requires-clause-same_gates g c =
    first-ours c.args.built.now c.index_mut.result.now c.requires.not_empty c.index_mut.ensures.value c.requires.same_gates

pub returns-in_default-clause-read : goal.returns-in_default-clause-read
returns-in_default-clause-read g c =
    let built = c.args.built.now in let first = c.index_mut.result.now in let pass = c.make_room-room.new.pass in (
      pass_view first.registrar.pass,
      pass_view pass,
      read-again built first pass c.requires.not_empty c.index_mut.ensures.value c.make_room-room.ensures.same_gates,
      c.make_room-room.ensures.only,
    )

pub returns-clause-read : goal.returns-clause-read
returns-clause-read g c =
    let built = c.args.built.now in let first = c.index_mut.result.now in let pass = c.make_room-room.new.pass in (
      pass_view first.registrar.pass,
      pass_view pass,
      read-again built first pass c.requires.not_empty c.index_mut.ensures.value c.make_room-room.ensures.same_gates,
      c.make_room-room.ensures.only,
    )

pub returns-clause-room : goal.returns-clause-room
returns-clause-room g c =
    let built = c.args.built.now in let actors = actors_of built.system.gates in
    let many : c.len-senders.result ≡ length built.senders.items = c.len-senders.ensures ∙ built.senders.ok.0 in (
      subst (λ (n : ℕ). IsRoom actors n c.in-Ok-Ok.room) many
          (ok-at (IsRoom actors c.len-senders.result) c.make_room-room.result c.in-Ok-Ok.room c.in-Ok-Ok.is-0 c.make_room-room.ensures.room),
      c.in-Ok-Ok.ensures.items,
      subst (λ (n : ℕ). n ≤ vec_capacity c.in-Ok-Ok.outside) many c.in-Ok-Ok.ensures.capacity,
    )

pub returns-clause-waiting : goal.returns-clause-waiting
returns-clause-waiting g c =
    let built = c.args.built.now in let first = c.index_mut.result.now in let pass = c.make_room-room.new.pass in (
      pass_view first.registrar.pass,
      pass_view pass,
      read-again built first pass c.requires.not_empty c.index_mut.ensures.value c.make_room-room.ensures.same_gates,
      ok-at (λ room. AreCounted (pass_view pass).log (counted_in room)) c.make_room-room.result c.in-Ok-Ok.room c.in-Ok-Ok.is-0
          c.make_room-room.ensures.waiting,
    )
