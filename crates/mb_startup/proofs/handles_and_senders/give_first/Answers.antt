use Rattle.std.proofs.Common.{refl, ap}
use Rattle.std.proofs.lemmas.List.{length-set}
use Rattle.mb_gate.specs.Accessors.{pass_view}
use Rattle.mb_gate.specs.View.{View}
use Rattle.mb_startup.proofs.Led.{first-led, first-ours, first-ports}
use Rattle.mb_startup.proofs.Sharing.{first-shares}
use Rattle.mb_startup.proofs.handles_and_senders.give_first.Goals as goal

pub absorb-requires : goal.absorb-requires
absorb-requires g c =
    record { same_gates = (first-ours c.args.gates.now c.args.handles.now _ _ refl c.requires.not_empty c.requires.handles, c.requires.same_gates) }

pub returns-clause-same_count : goal.returns-clause-same_count
returns-clause-same_count g c = length-set c.args.handles.now 0 _

pub returns-clause-first : goal.returns-clause-first
returns-clause-first g c =
    first-led c.args.gates.now c.args.handles.now _ _ c.absorb.new.pass (pass_view c.args.pass) refl c.requires.not_empty c.requires.handles
    c.absorb.ensures.same_gates (c.requires.started.created, c.requires.started.settled) (ap (λ (v : View). v.log) c.absorb.ensures.known)
    (ap (λ (v : View). v.got) c.absorb.ensures.known) c.requires.started.unclaimed
    (ap (λ (v : View). v.releases) c.absorb.ensures.known) c.requires.started.none_released (ap (λ (v : View). v.obligations) c.absorb.ensures.known)

pub returns-clause-ports : goal.returns-clause-ports
returns-clause-ports g c = first-ports c.args.gates.now c.args.handles.now _ _ c.absorb.new.pass refl

pub returns-clause-shares : goal.returns-clause-shares
returns-clause-shares g c =
    first-shares c.args.handles.now _ _ c.absorb.new.pass (pass_view c.args.pass).share refl c.requires.not_empty
    (ap (λ (v : View). v.share) c.absorb.ensures.known)
