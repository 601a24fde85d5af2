-- Once nothing is left, no take gives anything.
use Rattle.std.proofs.Common.{◌≡◌, ◌==◌, ⊎_elim, ℕ, ◌+◌, ◌&&◌, Bool, true, false, cond, not, List, [], ◌∷◌, ◌++◌, filter, refl, sym, ap, ◌∙◌, subst}
use Rattle.std.proofs.Common.{arith, count_by, Option, Some, None, MatchBool}
use Rattle.std.specs.Option.{IsSome}
use Rattle.std.proofs.lemmas.Bool.{false≢true}
use Rattle.std.proofs.lemmas.Bool.Decides.{nat_tests}
use Rattle.std.proofs.lemmas.List.{append-nil}
use Rattle.std.proofs.lemmas.List.Sums.{sum_by-append, sum_by-cons}
use Rattle.mb_msg.specs.declared.envelope.Envelope.{Envelope}
use Rattle.mb_queue.specs.declared.ledger.Account.{Account}
use Rattle.mb_queue.specs.Ledger.{account, is_control, sent_by}
use Rattle.mb_queue.specs.Port.{FifoPort}
use Rattle.mb_queue.proofs.Lists.{sent_by-mine}
use Rattle.mb_queue.specs.declared.priority_state.PriorityState.{PriorityState}
use Rattle.mb_queue.specs.declared.take_order.TakeOrder.{TakeOrder}
use Rattle.mb_queue.specs.declared.take_order.TakeOrder.TheVariants.{FirstInFirstOut, ControlFirst, ByRank}
use Rattle.mb_queue.specs.Fates.{NothingLeft}
use Rattle.mb_queue.specs.Representation.{IsTaking, envelopes_of, gone_of, taking_of, waiting_of}
use Rattle.mb_queue.specs.Parts.{controls, others}
use Rattle.mb_queue.specs.Batches.{AccountsBegin}
use Rattle.mb_queue.specs.Steps.{IsStep, RankTakes}
use Rattle.mb_queue.specs.Takes.{AllBegin, AllOut, IsSameBag}
use Rattle.mb_queue.proofs.Bags.{count-filter, filter-swap}
use Rattle.mb_queue.proofs.Taken.{filter-more}
use Rattle.mb_queue.proofs.Takings.{came_all, given_known, rank_bag, take_some}

-- one more, and some that follow
count_more : (test : Envelope → Bool) (out rest : List Envelope) (e : Envelope) → test e ≡ true
    → count_by test ((out ++ e ∷ []) ++ rest) ≡ (count_by test out + 1) + count_by test rest
count_more test out rest e is =
    let f : Envelope → ℕ = λ x. cond (test x) 1 0 in
    let a = sum_by-append f (out ++ e ∷ []) rest in let b = sum_by-append f out (e ∷ []) in let c = sum_by-cons f e [] in
    let d : f e ≡ 1 = ap (λ b. cond b 1 0) is in
    omega (arith, a, b, c, d)

abbrev any : Envelope → Bool
any x = true

-- what was given once does not begin with more than that
no_more : (pushed out rest : List Envelope) (e : Envelope) → IsSameBag pushed out → pushed ≡ (out ++ e ∷ []) ++ rest → ⊥
no_more pushed out rest e bag is =
    let a = bag any in let b = ap (count_by any) is in let c = count_more any out rest e refl in
    omega (arith, a, b, c)

module _ (sender : ℕ) (pushed taken : List Envelope) (bag : IsSameBag pushed (sent_by sender taken)) where
  abbrev mine : Envelope → Bool
  mine e = e.by.0 == sender

  -- nor does a part of it
  same_part : (part : Envelope → Bool) → IsSameBag (filter part pushed) (sent_by sender (filter part taken))
  same_part part test =
      count-filter test part pushed ∙ bag (λ x. part x && test x) ∙ sym (count-filter test part (sent_by sender taken))
      ∙ ap (count_by test) (sym (filter-swap mine part taken))

  no_more_of : (part : Envelope → Bool) (e : Envelope) (rest : List Envelope) → part e ≡ true → sender ≡ e.by.0
      → filter part pushed ≡ sent_by sender (filter part (taken ++ e ∷ [])) ++ rest → ⊥
  no_more_of part e rest is by begins =
      no_more (filter part pushed) (sent_by sender (filter part taken)) rest e (same_part part)
      (begins ∙ ap (λ l. sent_by sender l ++ rest) (filter-more part taken e is)
      ∙ ap (λ l. l ++ rest) (sent_by-mine sender (filter part taken) e by))

  no_more_of_two : (accounts : List Account) (e : Envelope) → account accounts sender ≡ Some pushed → sender ≡ e.by.0 → (b : Bool) → is_control e ≡ b
      → MatchBool b (AllBegin controls accounts (taken ++ e ∷ [])) (AllOut controls accounts taken × AllBegin others accounts (taken ++ e ∷ [])) → ⊥
  no_more_of_two accounts e is by true control took = let next = took sender pushed is in
      no_more_of is_control e next.0 control by next.1
  no_more_of_two accounts e is by false control took = let next = took.1 sender pushed is in
      no_more_of (λ x. not (is_control x)) e next.0 (ap not control) by next.1

  -- of all that came in, nor of what is held of it
  no_more_came : (came held rest : List Envelope) (e : Envelope) → sender ≡ e.by.0 → IsSameBag came ((taken ++ e ∷ []) ++ held)
      → pushed ≡ sent_by sender came ++ rest → ⊥
  no_more_came came held rest e by all begins =
      let f : Envelope → ℕ = λ x. cond (any x) 1 0 in
      let test : Envelope → Bool = λ x. mine x && any x in
      let own : (e.by.0 == sender) ≡ true = grind (arith, nat_tests) in
      let a = bag any in let b = ap (count_by any) begins in let c = sum_by-append f (sent_by sender came) rest in
      let d = count-filter any mine came in let g = count-filter any mine taken in let h = all test in
      let k = count_more test taken held e (ap (λ b. b && true) own) in
      omega (arith, a, b, c, d, g, h, k)

pushed_of : (o : Option (List Envelope)) → IsSome o → (pushed : List Envelope) × (o ≡ Some pushed)
pushed_of None is = absurd (false≢true is)
pushed_of (Some pushed) is = (pushed, refl)

module _ (main : FifoPort) (taken : List Envelope) (accounts : List Account) (choice : PriorityState)
    (kept : IsTaking main (ByRank choice) taken accounts) where
  rank_emptied : (sender : ℕ) (pushed : List Envelope) (e : Envelope) (choice' : PriorityState) (main' : FifoPort) → choice.waiting ≡ []
      → IsSameBag pushed (sent_by sender taken) → account accounts sender ≡ Some pushed → sender ≡ e.by.0
      → RankTakes choice main (Some e) choice' main' → ⊥
  rank_emptied sender pushed e choice' main' none bag is by step =
      let m = step.taken_in.more in let gone = gone_of main.ledger in let held = envelopes_of choice'.waiting in
      let came = rank_bag main taken accounts choice kept e choice' main' step in
      let took = came_all main taken accounts choice kept m.fresh main' m.came in
      ⊎_elim
      (λ h.
      let a = came any in let b = kept.2 any in let c = count_more any taken held e refl in
      let d = ap (λ l. count_by any (gone ++ l)) h ∙ ap (count_by any) (append-nil gone) in
      let k = ap (λ l. count_by any (taken ++ envelopes_of l)) none ∙ ap (count_by any) (append-nil taken) in
      omega (arith, a, b, c, d, k))
      (λ h. let next = subst AccountsBegin took h sender pushed is in
      no_more_came sender pushed taken bag (gone ++ m.fresh) held next.0 e by came next.1)
      m.begins

-- once nothing is left, no take gives an envelope
pub emptied : (main : FifoPort) (order : TakeOrder) (taken : List Envelope) (accounts : List Account) (e : Envelope) (main' : FifoPort) (order' : TakeOrder)
    → IsTaking main order taken accounts → IsStep main order (Some e) main' order' → NothingLeft (taking_of main order taken accounts) → ⊥
emptied main FirstInFirstOut taken accounts e main' order' kept step nothing =
    let known = given_known main FirstInFirstOut taken accounts e main' order' kept step in
    let p = pushed_of (account accounts e.by.0) (nothing.0 e.by.0 known.0) in
    let took = take_some main FirstInFirstOut taken accounts e main' order' kept step in
    let next = took.1 e.by.0 p.0 p.1 in
    no_more p.0 (sent_by e.by.0 taken) next.0 e (nothing.1 e.by.0 p.0 p.1)
    (next.1 ∙ ap (λ l. l ++ next.0) (sent_by-mine e.by.0 taken e refl))
emptied main (ControlFirst control) taken accounts e main' order' kept step nothing =
    let known = given_known main (ControlFirst control) taken accounts e main' order' kept step in
    let p = pushed_of (account accounts e.by.0) (nothing.0 e.by.0 known.0) in
    let took = take_some main (ControlFirst control) taken accounts e main' order' kept step in
    no_more_of_two e.by.0 p.0 taken (nothing.1 e.by.0 p.0 p.1) accounts e p.1 refl (is_control e) refl took.1
emptied main (ByRank choice) taken accounts e main' order' kept step nothing =
    let known = given_known main (ByRank choice) taken accounts e main' order' kept step in
    let p = pushed_of (account accounts e.by.0) (nothing.0 e.by.0 known.0) in
    rank_emptied main taken accounts choice kept e.by.0 p.0 e step.0 main' nothing.2 (nothing.1 e.by.0 p.0 p.1) p.1 refl step.2

-- none is held after None
pub none_held : (main : FifoPort) (order : TakeOrder) (main' : FifoPort) (order' : TakeOrder) → IsStep main order None main' order' → waiting_of order' ≡ []
none_held main FirstInFirstOut main' order' step = ap waiting_of step.0
none_held main (ControlFirst control) main' order' step = ap waiting_of step.1
none_held main (ByRank choice) main' order' step = ap waiting_of step.1 ∙ step.2.choice.1
