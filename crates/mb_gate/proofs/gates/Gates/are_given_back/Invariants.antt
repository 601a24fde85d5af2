use Rattle.std.proofs.Common.{◌≡◌, ◌<◌, ℕ}
use Rattle.mb_gate.specs.Accessors.{pass_view}
use Rattle.mb_gate.specs.Together.{NoClaimIsOut}
use Rattle.mb_gate.proofs.gates.Gates.are_given_back.Given as goal

abbrev pub invariant-loop-number : goal.invariant-loop-number
invariant-loop-number g l = (l.pass ≡ l.fn.pass) × ((id : ℕ) → id < l.number → NoClaimIsOut id (pass_view l.fn.pass))
