use Rattle.std.proofs.Common.{◌≡◌, ◌<◌, ℕ, get_or}
use Rattle.mb_causal_order.specs.declared.outstanding.Row.{Row}
use Rattle.mb_causal_order.proofs.outstanding.Outstanding.place_of.Given as goal

-- no row so far has such messages
abbrev pub invariant-loop-place : goal.invariant-loop-place
invariant-loop-place l = (place : ℕ) (d : Row) → place < l.place → (get_or l.self.rows.items place d).to ≡ l.to
    → (get_or l.self.rows.items place d).message ≡ l.message → (get_or l.self.rows.items place d).count ≡ 0
