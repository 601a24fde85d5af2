use Rattle.std.proofs.Common.{◌≡◌, ◌<◌, get_or, length}
use Rattle.std.specs.Prelude.{IfSome}
use Rattle.mb_causal_order.specs.declared.sent_messages.SentRow.{SentRow}
use Rattle.mb_causal_order.proofs.sent_messages.SentMessages.place_of.Given as goal

-- what was found is such a row
abbrev pub invariant-loop-place : goal.invariant-loop-place
invariant-loop-place l = IfSome l.found (λ place. (place < length l.self.rows.items)
    × ((d : SentRow) → ((get_or l.self.rows.items place d).to ≡ l.to) × ((get_or l.self.rows.items place d).message ≡ l.message)
    × (0 < (get_or l.self.rows.items place d).count)))
