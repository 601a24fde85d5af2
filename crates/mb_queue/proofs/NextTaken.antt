-- What a take tells, whether it gave an envelope or none.
use Rattle.std.proofs.Common.{◌≡◌, List, [], ◌∷◌, ◌++◌, refl, sym, subst, Option, Some, None, MatchOption}
use Rattle.std.proofs.lemmas.List.{append-nil}
use Rattle.std.specs.Prelude.{IfNone, IfSome, option_to_list}
use Rattle.mb_msg.specs.declared.envelope.Envelope.{Envelope}
use Rattle.mb_queue.specs.declared.ledger.Account.{Account}
use Rattle.mb_queue.specs.declared.take_order.TakeOrder.{TakeOrder}
use Rattle.mb_queue.specs.Fates.{AllJoined, HasGivenAll, InOrder, NothingLeft}
use Rattle.mb_queue.specs.Passes.{IsOfQueue, first_in_first_out}
use Rattle.mb_queue.specs.Port.{FifoPort}
use Rattle.mb_queue.specs.Representation.{IsTakePass, IsTaking, control_of, discipline_in, queue_of, taking_of}
use Rattle.mb_queue.specs.Steps.{IsStep}
use Rattle.mb_queue.specs.Takes.{EachOnce, IsTake}
use Rattle.mb_queue.proofs.Emptied.{emptied, none_held}
use Rattle.mb_queue.proofs.Ours.{pass-none, pass-some}
use Rattle.mb_queue.proofs.Takings.{each_once, given_known, take_none, take_some}

module _ (main : FifoPort) (order : TakeOrder) (taken : List Envelope) (accounts : List Account) (main' : FifoPort) (order' : TakeOrder)
    (taken' : List Envelope) where
  -- what was given was written down
  abbrev IsNoted : Option Envelope → Type 0
  IsNoted r = MatchOption r (taken' ≡ taken) (λ e. taken' ≡ taken ++ e ∷ [])

  pub taken-next : (r : Option Envelope) → IsNoted r → taken' ≡ taken ++ option_to_list r
  taken-next None same = sym (subst (λ l. taken ++ [] ≡ l) (sym same) (append-nil taken))
  taken-next (Some e) more = more

  pub pass-next : (r : Option Envelope) → IsTakePass main order taken accounts → IsStep main order r main' order' → IsNoted r
      → IsTakePass main' order' taken' accounts
  pass-next None kept step same =
      subst (λ l. IsTakePass main' order' l accounts) (sym same) (pass-none main order taken accounts main' order' kept step)
  pass-next (Some e) kept step more =
      subst (λ l. IsTakePass main' order' l accounts) (sym more) (pass-some main order taken accounts e main' order' kept step)

  module _ (kept : IsTaking main order taken accounts) where
    pub of_queue-next : (r : Option Envelope) → IsStep main order r main' order' → IfSome r (IsOfQueue (queue_of main (control_of order)))
    of_queue-next None step = tt
    of_queue-next (Some e) step = given_known main order taken accounts e main' order' kept step

    pub take-next : (r : Option Envelope) → IsStep main order r main' order' → IsNoted r
        → IsTake (discipline_in order) (taking_of main order taken accounts) r (taking_of main' order' taken' accounts)
    take-next None step same =
        subst (λ l. IsTake (discipline_in order) (taking_of main order taken accounts) None (taking_of main' order' l accounts)) (sym same)
        (take_none main order taken accounts main' order' kept step)
    take-next (Some e) step more =
        subst (λ l. IsTake (discipline_in order) (taking_of main order taken accounts) (Some e) (taking_of main' order' l accounts)) (sym more)
        (take_some main order taken accounts e main' order' kept step)

    once-next : (r : Option Envelope) → IsStep main order r main' order' → IsNoted r → IfNone r (EachOnce (taking_of main' order' taken' accounts))
    once-next None step same =
        subst (λ l. EachOnce (taking_of main' order' l accounts)) (sym same) (each_once main order taken accounts main' order' kept step)
    once-next (Some e) step more = tt

    order-next : (r : Option Envelope) → IsStep main order r main' order' → IsNoted r
        → IfNone r (discipline_in order ≡ first_in_first_out → InOrder (taking_of main' order' taken' accounts))
    order-next None step same = λ is.
        subst (λ l. InOrder (taking_of main' order' l accounts)) (sym same)
        (subst (λ d. IsTake d (taking_of main order taken accounts) None (taking_of main' order' taken accounts)) is
        (take_none main order taken accounts main' order' kept step)).1
    order-next (Some e) step more = tt

    emptied-next : (r : Option Envelope) → IsStep main order r main' order' → IsNoted r
        → IfNone r (AllJoined (taking_of main' order' taken' accounts) → NothingLeft (taking_of main' order' taken' accounts))
    emptied-next None step same = λ joined. (
      joined,
      once-next None step same,
      none_held main order main' order' step,
    )
    emptied-next (Some e) step more = tt

    pub given_all-next : (r : Option Envelope) → IsStep main order r main' order' → IsNoted r
        → IfNone r (HasGivenAll (discipline_in order) (taking_of main' order' taken' accounts))
    given_all-next None step same = record {
      each_once = once-next None step same;
      in_order = order-next None step same;
      emptied = emptied-next None step same;
    }
    given_all-next (Some e) step more = tt

    pub ended-next : (r : Option Envelope) → IsStep main order r main' order' → NothingLeft (taking_of main order taken accounts) → r ≡ None
    ended-next None step nothing = refl
    ended-next (Some e) step nothing = absurd (emptied main order taken accounts e main' order' kept step nothing)
