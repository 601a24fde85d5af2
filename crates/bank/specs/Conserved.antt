-- Money in a bank: actor 1 is a teller, which holds none; actors 2 and 3 are accounts.
use Rattle.std.specs.Prelude.{ℤ, List, [], ◌∷◌, Option, None, Some}
pub use Rattle.bank_actors.specs.Bookings.{account, added_by}
use Rattle.heddleorange.specs.Conservation.{IsConserved}
use Rattle.mb_msg.specs.declared.order.Order.{Order}
use Rattle.mb_quantity.specs.Quantity.{Holding}
use Rattle.mb_report.specs.declared.report.Report.{Report}

-- Who holds money, where each account was opened with this amount.
abbrev pub holdings : ℤ → List (Option Holding)
holdings opening = None ∷ Some (account opening) ∷ Some (account opening) ∷ []

-- Unless an account was restarted, or was told of an amount that does not fit its balance, the money in the accounts and in the envelopes that no account
-- took is what the accounts were opened with, and what the senders outside sent.
abbrev pub KeepsMoney : ℤ → List (List Order) → Report → Type 0
KeepsMoney opening orders report = IsConserved added_by (holdings opening) orders report
