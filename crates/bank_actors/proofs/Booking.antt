-- An account's balance adds up.
use Rattle.std.proofs.Common.{◌≡◌, ℤ, pos, ◌+ℤ◌, ◌-ℤ◌, neg_ℤ, Bool, true, false, if◌then◌else◌, ◌==◌, List, [], ◌∷◌, ◌++◌, refl, sym, ap, ◌∙◌}
use Rattle.std.proofs.Math.IntN.{+ℤ_assoc, +ℤ_idl, +ℤ_idr}
use Rattle.std.proofs.lemmas.Bool.{false≢true}
use Rattle.std.proofs.lemmas.List.Sums.{fold-append}
use Rattle.mb_actor.specs.declared.call.Call.{Call}
use Rattle.mb_actor.specs.declared.call.Call.TheVariants.{Start, Receive, Restart, Stop}
use Rattle.mb_actor.specs.declared.effect.Effect.{Effect}
use Rattle.mb_actor.specs.declared.message.Message.{Message}
use Rattle.mb_actor.specs.declared.message.Message.TheVariants.{User, Control, Terminated}
use Rattle.mb_quantity.specs.Quantity.{AllBooked, HoldsWhatItBooks, LosesNothing, all_sent, sum_of}
use Rattle.bank_actors.specs.BankAccount.{account_gives, balance_after, booked, is_balance, sum_with}
use Rattle.bank_actors.specs.Bookings.{account, added_by, is_booked}
use Rattle.bank_actors.specs.Money.{deposit, withdraw}

sum-worth : (balance amount : ℤ) (is_deposit is_withdraw : Bool)
    → (if is_deposit then balance +ℤ amount else (if is_withdraw then balance -ℤ amount else balance))
    ≡ balance +ℤ (if is_deposit then amount else (if is_withdraw then pos 0 -ℤ amount else pos 0))
sum-worth balance amount true is_withdraw = refl
sum-worth balance amount false true = ap (λ n. balance +ℤ n) (sym (+ℤ_idl (neg_ℤ amount)))
sum-worth balance amount false false = sym (+ℤ_idr balance)

taken-if : (fits : Bool) (sum balance : ℤ) → fits ≡ true → (if fits then sum else balance) ≡ sum
taken-if true sum balance h = refl
taken-if false sum balance h = absurd (false≢true h)

-- a message that is booked adds what it is worth
booked-adds : (balance : ℤ) (m : Message) → is_booked balance m ≡ true → booked balance m ≡ balance +ℤ added_by m
booked-adds balance (User kind value) fits =
    taken-if (is_balance (sum_with balance kind value)) (sum_with balance kind value) balance fits
    ∙ sum-worth balance value (kind == deposit) (kind == withdraw)
booked-adds balance (Control kind value) fits = sym (+ℤ_idr balance)
booked-adds balance (Terminated who) fits = sym (+ℤ_idr balance)

pub balance_adds_up : (opening : ℤ) (messages : List Message) → AllBooked (account opening) messages
    → balance_after opening messages ≡ opening +ℤ sum_of added_by messages
balance_adds_up opening [] all = sym (+ℤ_idr opening)
balance_adds_up opening (m ∷ messages) all =
    balance_adds_up (booked opening m) messages (λ before x rest is. all (m ∷ before) x rest (ap (λ l. m ∷ l) is))
    ∙ ap (λ n. n +ℤ sum_of added_by messages) (booked-adds opening m (all [] m messages refl))
    ∙ +ℤ_assoc opening (added_by m) (sum_of added_by messages)

pub account-holds : (opening : ℤ) → HoldsWhatItBooks added_by (account opening) (account_gives opening)
account-holds opening moment reply given = by_call moment.call reply.effects given.1
  where
    by_call : (call : Call) (effects : List Effect) → effects ≡ [] → LosesNothing added_by (account opening) moment.messages call effects
    by_call Start effects none = ap (all_sent added_by) none
    by_call (Restart cause) effects none = ap (all_sent added_by) none
    by_call Stop effects none = ap (all_sent added_by) none
    by_call (Receive m) effects none = λ fits.
        (ap (λ n. balance_after opening (moment.messages ++ m ∷ []) +ℤ n) (ap (all_sent added_by) none)
        ∙ +ℤ_idr (balance_after opening (moment.messages ++ m ∷ []))
        ∙ fold-append booked opening moment.messages (m ∷ [])
        ∙ booked-adds (balance_after opening moment.messages) m fits)
