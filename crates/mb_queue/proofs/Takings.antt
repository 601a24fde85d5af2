-- A take of the fifos is a take of the queue, of each kind.
use Rattle.std.proofs.Common.{◌≡◌, ⊎_elim, inl, inr, Bool, true, false, not, List, [], ◌∷◌, ◌++◌, length, refl, sym, ap, ◌∙◌, subst}
use Rattle.std.proofs.Common.{arith, length-append, Option, Some, None, MatchBool, IsPermutation}
use Rattle.std.proofs.lemmas.List.{append-nil}
use Rattle.std.proofs.lemmas.List.Elements.{All-nil}
use Rattle.std.specs.List.{All, Contains}
use Rattle.mb_msg.specs.declared.envelope.Envelope.{Envelope}
use Rattle.mb_queue.specs.declared.ledger.Account.{Account}
use Rattle.mb_queue.specs.declared.ledger.Ledger.TheVariants.{Taker}
use Rattle.mb_queue.specs.declared.ledger.Scope.{Scope}
use Rattle.mb_queue.specs.declared.ledger.QueuePart.TheVariants.{Whole, Controls, Others}
use Rattle.mb_queue.specs.Ledger.{is_control}
use Rattle.mb_queue.specs.Port.{FifoPort}
use Rattle.mb_queue.specs.Rule as fifo
use Rattle.mb_queue.specs.declared.priority_state.PriorityState.{PriorityState}
use Rattle.mb_queue.specs.declared.take_order.TakeOrder.{TakeOrder}
use Rattle.mb_queue.specs.declared.take_order.TakeOrder.TheVariants.{FirstInFirstOut, ControlFirst, ByRank}
use Rattle.mb_queue.specs.Representation.{IsTaking, Took, envelopes_of, gone_of, parted, scope_in, taking_of, discipline_in}
use Rattle.mb_queue.specs.Parts.{accounts_of, controls, others, whole}
use Rattle.mb_queue.specs.Batches.{AccountsBegin, taking_all}
use Rattle.mb_queue.specs.Steps.{IsStep, RankTakes, TakesOf}
use Rattle.mb_queue.specs.Takes.{AllBegin, AllOut, EachOnce, IsSameBag, IsTake, TakesByRank, arrivals_from}
use Rattle.mb_queue.proofs.Bags.{all_chosen, all_held, bag_given, bag_none, once_by_rank, once_of_parts, once_of_whole}
use Rattle.mb_queue.proofs.Taken.{all_begin, all_out, filter-more, filter-same, found_empty, found_next, settled, took_next, took_none}

module _ (main : FifoPort) (taken : List Envelope) (accounts : List Account) where
  abbrev ours : Scope
  ours = scope_in main.ledger

  abbrev no_control : Envelope → Bool
  no_control e = not (is_control e)

  -- first in, first out
  fifo_kept : (e : Envelope) (main' : FifoPort) → IsTaking main FirstInFirstOut taken accounts → TakesOf main (Some e) main'
      → IsTaking main' FirstInFirstOut (taken ++ e ∷ []) accounts
  fifo_kept e main' kept step = settled ours Whole (taken ++ e ∷ []) accounts main' (took_next ours Whole taken accounts main e main' kept step)

  module _ (control : FifoPort) (kept : IsTaking main (ControlFirst control) taken accounts) where
    -- a control message leaves
    control_kept : (e : Envelope) (control' main' : FifoPort) → TakesOf control (Some e) control' → main' ≡ main
        → IsTaking main' (ControlFirst control') (taken ++ e ∷ []) accounts
    control_kept e control' main' step same =
        let is : is_control e ≡ true = (found_next ours Controls (controls taken)
        (accounts_of controls accounts) control e control' kept.1 step).0.2 in
        let less : others (taken ++ e ∷ []) ≡ others taken = filter-same no_control taken e (ap not is) in
        let more : controls (taken ++ e ∷ []) ≡ controls taken ++ e ∷ [] = filter-more is_control taken e is in
        let fifo_same : control'.fifo ≡ control.fifo = ap (λ (p : FifoPort). p.fifo) step.0 in
        let at_main : IsTaking main (ControlFirst control') (taken ++ e ∷ []) accounts = (
          subst (λ l. Took main ours Others l (accounts_of others accounts)) (sym less) kept.0,
          subst (λ l. Took control' ours Controls l (accounts_of controls accounts)) (sym more)
              (took_next ours Controls (controls taken) (accounts_of controls accounts) control e control' kept.1 step),
          kept.2,
          ap (λ l. l.capacity) fifo_same ∙ kept.3,
        ) in
        subst (λ m. IsTaking m (ControlFirst control') (taken ++ e ∷ []) accounts) (sym same) at_main

    -- another message leaves
    other_kept : (e : Envelope) (control' main' : FifoPort) → TakesOf control None control' → TakesOf main (Some e) main'
        → IsTaking main' (ControlFirst control') (taken ++ e ∷ []) accounts
    other_kept e control' main' none step =
        let is : is_control e ≡ false = (found_next ours Others (others taken) (accounts_of others accounts) main e main' kept.0 step).0.2 in
        let more : others (taken ++ e ∷ []) ≡ others taken ++ e ∷ [] = filter-more no_control taken e (ap not is) in
        let less : controls (taken ++ e ∷ []) ≡ controls taken = filter-same is_control taken e is in
        let took : Took main' ours Others (others taken ++ e ∷ []) (accounts_of others accounts) =
        took_next ours Others (others taken) (accounts_of others accounts) main e main' kept.0 step in
        let same : parted ours Others ≡ scope_in main'.ledger = sym (ap scope_in took) in
        let fifo_same : main'.fifo ≡ main.fifo = ap (λ (p : FifoPort). p.fifo) step.0 in (
          subst (λ l. Took main' (scope_in main'.ledger) Others l (accounts_of others accounts)) (sym more)
              (settled ours Others _ (accounts_of others accounts) main' took),
          subst (λ l. Took control' (scope_in main'.ledger) Controls l (accounts_of controls accounts)) (sym less)
              (subst (λ s. Took control' s Controls (controls taken) (accounts_of controls accounts)) same
              (took_none ours Controls (controls taken) (accounts_of controls accounts) control control' kept.1 none)),
          ap (λ l. l.capacity) fifo_same ∙ kept.2,
          ap (λ (p : FifoPort). p.fifo.capacity) none.0 ∙ kept.3,
        )

    abbrev ControlTake : Envelope → Type 0
    ControlTake e = MatchBool (is_control e) (AllBegin controls accounts (taken ++ e ∷ [])) (AllOut controls accounts taken
        × AllBegin others accounts (taken ++ e ∷ []))

    control_take : (e : Envelope) (control' : FifoPort) → TakesOf control (Some e) control' → ControlTake e
    control_take e control' step =
        let found = found_next ours Controls (controls taken) (accounts_of controls accounts) control e control' kept.1 step in
        let is : is_control e ≡ true = found.0.2 in
        let begins : AllBegin controls accounts (taken ++ e ∷ []) = all_begin controls refl accounts (taken ++ e ∷ [])
        (subst (fifo.FifoAllBegin (accounts_of controls accounts)) (sym (filter-more is_control taken e is)) found.1) in
        subst (λ b. MatchBool b (AllBegin controls accounts (taken ++ e ∷ [])) (AllOut controls accounts taken
        × AllBegin others accounts (taken ++ e ∷ []))) (sym is) begins

    other_take : (e : Envelope) (control' main' : FifoPort) → TakesOf control None control' → TakesOf main (Some e) main' → ControlTake e
    other_take e control' main' none step =
        let found = found_next ours Others (others taken) (accounts_of others accounts) main e main' kept.0 step in
        let is : is_control e ≡ false = found.0.2 in
        let begins : AllBegin others accounts (taken ++ e ∷ []) = all_begin others refl accounts (taken ++ e ∷ [])
        (subst (fifo.FifoAllBegin (accounts_of others accounts)) (sym (filter-more no_control taken e (ap not is))) found.1) in
        let out : AllOut controls accounts taken =
        all_out controls refl accounts taken (found_empty ours Controls (controls taken) (accounts_of controls accounts) control kept.1 none.1) in
        subst (λ b. MatchBool b (AllBegin controls accounts (taken ++ e ∷ [])) (AllOut controls accounts taken
        × AllBegin others accounts (taken ++ e ∷ []))) (sym is) (out, begins)

  module _ (choice : PriorityState) (kept : IsTaking main (ByRank choice) taken accounts) where
    abbrev gone : List Envelope
    gone = gone_of main.ledger

    pub came_all : (fresh : List Envelope) (main' : FifoPort) → main' ≡ record main { ledger = taking_all main.ledger fresh }
        → Took main' ours Whole (gone ++ fresh) accounts
    came_all fresh main' came = ap (λ (p : FifoPort). p.ledger) came ∙ ap (λ l. taking_all l fresh) kept.0

    rank_kept : (result : Option Envelope) (taken' : List Envelope) (choice' : PriorityState) (main' : FifoPort)
        → (step : RankTakes choice main result choice' main')
        → IsSameBag (gone ++ step.taken_in.more.fresh) (taken' ++ envelopes_of choice'.waiting)
        → All (fifo.Belongs ours) (envelopes_of choice'.waiting) → IsTaking main' (ByRank choice') taken' accounts
    rank_kept result taken' choice' main' step bag known =
        let fresh = step.taken_in.more.fresh in let took = came_all fresh main' step.taken_in.more.came in
        let out : gone_of main'.ledger ≡ gone ++ fresh = ap gone_of took in (
          settled ours Whole (gone_of main'.ledger) accounts main' (took ∙ ap (λ l. Taker (parted ours Whole) l accounts) (sym out)),
          omega (arith, step.taken_in.more.next, kept.1, length-append gone fresh, ap length out),
          subst (λ l. IsSameBag l (taken' ++ envelopes_of choice'.waiting)) (sym out) bag,
          subst (λ l. All (fifo.Belongs l) (envelopes_of choice'.waiting)) (sym (ap scope_in took ∙ sym (ap scope_in kept.0))) known,
        )

    came_in : (result : Option Envelope) (choice' : PriorityState) (main' : FifoPort) → (step : RankTakes choice main result choice' main')
        → IsPermutation (choice.waiting ++ arrivals_from choice.ranks choice.other (length gone) step.taken_in.more.fresh) step.held
    came_in result choice' main' step = subst
        (λ n. IsPermutation (choice.waiting ++ arrivals_from choice.ranks choice.other n step.taken_in.more.fresh) step.held) kept.1
        step.taken_in.more.held

    -- all that are held then are of the fifo's scope
    rank_held : (result : Option Envelope) (choice' : PriorityState) (main' : FifoPort) → (step : RankTakes choice main result choice' main')
        → All (fifo.Belongs ours) (envelopes_of step.held)
    rank_held result choice' main' step =
        all_held (fifo.Belongs ours) choice.ranks choice.other (length gone) choice.waiting step.taken_in.more.fresh step.held
        (came_in result choice' main' step) kept.3 step.taken_in.more.known

    rank_known : (e : Envelope) (choice' : PriorityState) (main' : FifoPort) → RankTakes choice main (Some e) choice' main'
        → fifo.Belongs ours e × All (fifo.Belongs ours) (envelopes_of choice'.waiting)
    rank_known e choice' main' step = all_chosen (fifo.Belongs ours) step.held e choice'.waiting step.choice (rank_held (Some e) choice' main' step)

    rank_none_known : (choice' : PriorityState) (main' : FifoPort) → RankTakes choice main None choice' main'
        → All (fifo.Belongs ours) (envelopes_of choice'.waiting)
    rank_none_known choice' main' step = subst (λ l. All (fifo.Belongs ours) (envelopes_of l)) (sym step.choice.1) (All-nil (fifo.Belongs ours))

    pub rank_bag : (e : Envelope) (choice' : PriorityState) (main' : FifoPort) → (step : RankTakes choice main (Some e) choice' main')
        → IsSameBag (gone ++ step.taken_in.more.fresh) ((taken ++ e ∷ []) ++ envelopes_of choice'.waiting)
    rank_bag e choice' main' step = bag_given choice.ranks choice.other
        (length gone) gone step.taken_in.more.fresh taken choice.waiting step.held choice'.waiting e kept.2
        (came_in (Some e) choice' main' step) step.choice

    rank_bag_none : (choice' : PriorityState) (main' : FifoPort) → (step : RankTakes choice main None choice' main')
        → IsSameBag (gone ++ step.taken_in.more.fresh) (taken ++ envelopes_of choice'.waiting)
    rank_bag_none choice' main' step = bag_none choice.ranks choice.other
        (length gone) gone step.taken_in.more.fresh taken choice.waiting step.held choice'.waiting kept.2
        (came_in None choice' main' step) step.choice

    rank_take : (result : Option Envelope) (taken' : List Envelope) (choice' : PriorityState) (main' : FifoPort)
        → (step : RankTakes choice main result choice' main')
        → TakesByRank choice.ranks choice.other (taking_of main (ByRank choice) taken accounts) result
        (taking_of main' (ByRank choice') taken' accounts)
    rank_take result taken' choice' main' step =
        let m = step.taken_in.more in let fresh = m.fresh in let took = came_all fresh main' m.came in
        let out : gone_of main'.ledger ≡ gone ++ fresh = ap gone_of took in
        let at_out : Took main' ours Whole (gone_of main'.ledger) accounts = took ∙ ap (λ l. Taker (parted ours Whole) l accounts) (sym out) in
        record {
          fresh = fresh;
          held = step.held;
          arrived = out;
          arrivals = came_in result choice' main' step;
          room = step.taken_in.room;
          enough = ⊎_elim (λ h. inl h) (λ h. inr (found_empty ours Whole (gone_of main'.ledger) accounts main' at_out h)) step.taken_in.enough;
          next = ⊎_elim (λ h. inl h) (λ h. inr (subst AccountsBegin at_out h)) m.begins;
          choice = step.choice;
        }

-- what is kept of a take pass, after a take
pub kept_some : (main : FifoPort) (order : TakeOrder) (taken : List Envelope) (accounts : List Account) (e : Envelope) (main' : FifoPort) (order' : TakeOrder)
    → IsTaking main order taken accounts → IsStep main order (Some e) main' order' → IsTaking main' order' (taken ++ e ∷ []) accounts
kept_some main FirstInFirstOut taken accounts e main' order' kept step =
    subst (λ o. IsTaking main' o (taken ++ e ∷ []) accounts) (sym step.0) (fifo_kept main taken accounts e main' kept step.1)
kept_some main (ControlFirst control) taken accounts e main' order' kept step =
    subst (λ o. IsTaking main' o (taken ++ e ∷ []) accounts) (sym step.1)
    (⊎_elim (λ h. control_kept main taken accounts control kept e step.0 main' h.0 h.1)
    (λ h. other_kept main taken accounts control kept e step.0 main' h.0 h.1) step.2)
kept_some main (ByRank choice) taken accounts e main' order' kept step =
    subst (λ o. IsTaking main' o (taken ++ e ∷ []) accounts) (sym step.1)
    (rank_kept main taken accounts choice kept (Some e) (taken ++ e ∷ []) step.0 main' step.2
    (rank_bag main taken accounts choice kept e step.0 main' step.2)
    (rank_known main taken accounts choice kept e step.0 main' step.2).1)

pub kept_none : (main : FifoPort) (order : TakeOrder) (taken : List Envelope) (accounts : List Account) (main' : FifoPort) (order' : TakeOrder)
    → IsTaking main order taken accounts → IsStep main order None main' order' → IsTaking main' order' taken accounts
kept_none main FirstInFirstOut taken accounts main' order' kept step =
    subst (λ o. IsTaking main' o taken accounts) (sym step.0) (subst (λ m. IsTaking m FirstInFirstOut taken accounts) (sym step.1.0) kept)
kept_none main (ControlFirst control) taken accounts main' order' kept step =
    subst (λ o. IsTaking main' o taken accounts) (sym step.1)
    (subst (λ (y : FifoPort × FifoPort). IsTaking y.0 (ControlFirst y.1) taken accounts) (λ i. (sym step.2.1.0 i, sym step.2.0.0 i)) kept)
kept_none main (ByRank choice) taken accounts main' order' kept step =
    subst (λ o. IsTaking main' o taken accounts) (sym step.1)
    (rank_kept main taken accounts choice kept None taken step.0 main' step.2 (rank_bag_none main taken accounts choice kept step.0 main' step.2)
    (rank_none_known main taken accounts choice kept step.0 main' step.2))

-- what was given is by one of the senders and to the actor
pub given_known : (main : FifoPort) (order : TakeOrder) (taken : List Envelope) (accounts : List Account) (e : Envelope) (main' : FifoPort) (order' : TakeOrder)
    → IsTaking main order taken accounts → IsStep main order (Some e) main' order'
    → Contains (scope_in main.ledger).senders e.by.0 × (e.to.0 ≡ (scope_in main.ledger).to)
given_known main FirstInFirstOut taken accounts e main' order' kept step =
    let b = (found_next (scope_in main.ledger) Whole taken accounts main e main' kept step.1).0 in (b.0, b.1)
given_known main (ControlFirst control) taken accounts e main' order' kept step =
    ⊎_elim
    (λ h. let b = (found_next (scope_in main.ledger) Controls (controls taken) (accounts_of controls accounts) control e step.0 kept.1 h.0).0 in
    (b.0, b.1))
    (λ h. let b = (found_next (scope_in main.ledger) Others (others taken) (accounts_of others accounts) main e main' kept.0 h.1).0 in
    (b.0, b.1)) step.2
given_known main (ByRank choice) taken accounts e main' order' kept step =
    let b = (rank_known main taken accounts choice kept e step.0 main' step.2).0 in (b.0, b.1)

-- and what was given is the next in the order
pub take_some : (main : FifoPort) (order : TakeOrder) (taken : List Envelope) (accounts : List Account) (e : Envelope) (main' : FifoPort) (order' : TakeOrder)
    → IsTaking main order taken accounts → IsStep main order (Some e) main' order'
    → IsTake (discipline_in order) (taking_of main order taken accounts) (Some e) (taking_of main' order' (taken ++ e ∷ []) accounts)
take_some main FirstInFirstOut taken accounts e main' order' kept step =
    let found = found_next (scope_in main.ledger) Whole taken accounts main e main' kept step.1 in
    subst (λ o. IsTake (discipline_in FirstInFirstOut) (taking_of main FirstInFirstOut taken accounts) (Some e)
    (taking_of main' o (taken ++ e ∷ []) accounts)) (sym step.0)
    ((refl, refl), found.1)
take_some main (ControlFirst control) taken accounts e main' order' kept step =
    subst (λ o. IsTake (discipline_in (ControlFirst control)) (taking_of main (ControlFirst control) taken accounts) (Some e)
    (taking_of main' o (taken ++ e ∷ []) accounts)) (sym step.1) (
      (refl, refl),
      ⊎_elim
          (λ h. control_take main taken accounts control kept e step.0 h.0)
          (λ h. other_take main taken accounts control kept e step.0 main' h.0 h.1) step.2,
    )
take_some main (ByRank choice) taken accounts e main' order' kept step =
    subst (λ o. IsTake (discipline_in (ByRank choice)) (taking_of main (ByRank choice) taken accounts) (Some e)
    (taking_of main' o (taken ++ e ∷ []) accounts)) (sym step.1)
    (rank_take main taken accounts choice kept (Some e) (taken ++ e ∷ []) step.0 main' step.2)

pub take_none : (main : FifoPort) (order : TakeOrder) (taken : List Envelope) (accounts : List Account) (main' : FifoPort) (order' : TakeOrder)
    → IsTaking main order taken accounts → IsStep main order None main' order'
    → IsTake (discipline_in order) (taking_of main order taken accounts) None (taking_of main' order' taken accounts)
take_none main FirstInFirstOut taken accounts main' order' kept step =
    subst (λ o. IsTake (discipline_in FirstInFirstOut) (taking_of main FirstInFirstOut taken accounts) None (taking_of main' o taken accounts))
    (sym step.0)
    ((refl, refl), found_empty (scope_in main.ledger) Whole taken accounts main kept step.1.1)
take_none main (ControlFirst control) taken accounts main' order' kept step =
    subst (λ o. IsTake (discipline_in (ControlFirst control)) (taking_of main (ControlFirst control) taken accounts) None
    (taking_of main' o taken accounts)) (sym step.1) (
      (refl, refl),
      (
        all_out controls refl accounts taken (found_empty (scope_in main.ledger) Controls (controls taken)
            (accounts_of controls accounts) control kept.1 step.2.0.1),
        all_out others refl accounts taken (found_empty (scope_in main.ledger) Others (others taken)
            (accounts_of others accounts) main kept.0 step.2.1.1),
      ),
    )
take_none main (ByRank choice) taken accounts main' order' kept step =
    subst (λ o. IsTake (discipline_in (ByRank choice)) (taking_of main (ByRank choice) taken accounts) None (taking_of main' o taken accounts))
    (sym step.1)
    (rank_take main taken accounts choice kept None taken step.0 main' step.2)

rank_once : (main : FifoPort) (choice : PriorityState) (taken : List Envelope) (accounts : List Account) (main' : FifoPort) (choice' : PriorityState)
    → IsTaking main (ByRank choice) taken accounts → RankTakes choice main None choice' main'
    → EachOnce (taking_of main' (ByRank choice') taken accounts)
rank_once main choice taken accounts main' choice' kept step sender pushed is =
    let took = rank_take main taken accounts choice kept None taken choice' main' step in
    let left = rank_kept main taken accounts choice kept None taken choice' main' step
    (rank_bag_none main taken accounts choice kept choice' main' step)
    (rank_none_known main taken accounts choice kept choice' main' step) in
    let none : taken ++ envelopes_of choice'.waiting ≡ taken = ap (λ l. taken ++ envelopes_of l) step.choice.1 ∙ append-nil taken in
    let bag : IsSameBag (gone_of main'.ledger) taken = subst (IsSameBag (gone_of main'.ledger)) none left.2 in
    let out : AllOut whole accounts (gone_of main'.ledger) =
    ⊎_elim (λ h. let few = ap length took.choice.0 in absurd (omega (arith, h, few))) (λ h. h) took.enough in
    once_by_rank sender pushed (gone_of main'.ledger) taken bag (out sender pushed is)

-- None, and all that was pushed by those that were joined was given, once each
pub each_once : (main : FifoPort) (order : TakeOrder) (taken : List Envelope) (accounts : List Account) (main' : FifoPort) (order' : TakeOrder)
    → IsTaking main order taken accounts → IsStep main order None main' order' → EachOnce (taking_of main' order' taken accounts)
each_once main FirstInFirstOut taken accounts main' order' kept step sender pushed is =
    once_of_whole sender pushed taken ((take_none main FirstInFirstOut taken accounts main' order' kept step).1 sender pushed is)
each_once main (ControlFirst control) taken accounts main' order' kept step sender pushed is =
    let took = (take_none main (ControlFirst control) taken accounts main' order' kept step).1 in
    once_of_parts sender pushed taken (took.0 sender pushed is) (took.1 sender pushed is)
each_once main (ByRank choice) taken accounts main' order' kept step sender pushed is =
    subst (λ o. EachOnce (taking_of main' o taken accounts)) (sym step.1)
    (rank_once main choice taken accounts main' step.0 kept step.2) sender pushed is
