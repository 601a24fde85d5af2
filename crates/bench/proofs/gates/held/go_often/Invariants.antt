use Rattle.std.proofs.Common.{◌≡◌}
use Rattle.mb_gate.specs.Accessors.{pass_id, claim_id, held_actor, given_to, taken_with, recorded_by}
use Rattle.bench.proofs.gates.held.go_often.Given as goal

abbrev pub invariant-loop : goal.invariant-loop
invariant-loop g l =
    (pass_id l.pass ≡ pass_id l.initial.pass) × (claim_id l.claim ≡ claim_id l.initial.claim) × (held_actor l.claim ≡ held_actor l.initial.claim)
    × (l.claim.home.actor ≡ l.initial.claim.home.actor) × (l.claim.home.given ≡ given_to l.claim)
    × (taken_with l.claim ≡ taken_with l.initial.claim) × (recorded_by l.claim ≡ recorded_by l.initial.claim)
