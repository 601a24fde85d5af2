-- Sums over the rows of outstanding messages.
use Rattle.std.proofs.Common.{◌≡◌, ℕ, ◌<◌, ◌≤◌, Bool, true, false, cond, List, length, get_or, ap, ◌∙◌, arith}
use Rattle.std.specs.Prelude.{Option, Some, None, IfSome, is_some}
use Rattle.std.proofs.lemmas.List.Sums.{sum_by_more_le}
use Rattle.mb_msg.specs.declared.system.SysMsg.{SysMsg}
use Rattle.mb_msg.specs.declared.system.SysMsg.TheVariants as system
use Rattle.mb_causal_order.specs.Replayed.{outstanding, passing}
use Rattle.mb_causal_order.specs.declared.outstanding.Row.{Row}

-- a place that was found
pub found : (o : Option ℕ) (P : ℕ → Type 0) → is_some o ≡ true → IfSome o P → (n : ℕ) × P n
found (Some n) P there at = (n, at)
found None P missing at = absurd (cc missing)

-- a row that is for no messages
pub no_row : Row
no_row = record { to = 0; message = system.Create; count = 0 }

-- a row that has messages has one
pub has-one : (rows : List Row) (place to : ℕ) (message : SysMsg) (test : ℕ → SysMsg → Bool) → place < length rows →
    (get_or rows place no_row).to ≡ to → (get_or rows place no_row).message ≡ message → 0 < (get_or rows place no_row).count →
    cond (test to message) 1 0 ≤ outstanding test rows
has-one rows place to message test within by_to by_message some =
    let r = get_or rows place no_row in
    let all = sum_by_more_le (passing test) rows place no_row within in
    let is : passing test r ≡ cond (test to message) r.count 0 =
    ap (λ n. cond (test n r.message) r.count 0) by_to ∙ ap (λ m. cond (test to m) r.count 0) by_message in
    let one = at-least (test to message) r.count some in
    omega (arith, all, is, one)
  where
    at-least : (b : Bool) (n : ℕ) → 0 < n → cond b 1 0 ≤ cond b n 0
    at-least true n some = some
    at-least false n some = omega arith
