-- What the sends of a scenario are to its senders, one send after another, and one sender after another.
use Rattle.std.proofs.Common.{◌≡◌, ℕ, zero, suc, ◌+◌, ◌<◌, List, [], ◌∷◌, ◌++◌, length, map, sym, ap, ◌∙◌, take, get_or, arith, Vec}
use Rattle.std.specs.Global.{Global}
use Rattle.std.proofs.lemmas.List.{map-append}
use Rattle.mb_build.specs.Numbers.{numbers}
use Rattle.mb_msg.specs.declared.order.Order.{Order}
use Rattle.mb_msg.specs.declared.order.SenderOrder.{SenderOrder}
use Rattle.heddleorange.specs.Orders.{orders_of}
use Rattle.heddleorange.proofs.InOrder.{orders-next}

-- the next send comes behind the first
pub orders-step : (from : ℕ) (sends : List SenderOrder) (i : ℕ) (d : SenderOrder) (old new : List Order) → i < length sends
    → old ≡ orders_of from (take i sends) → new ≡ old ++ orders_of from (get_or sends i d ∷ []) → new ≡ orders_of from (take (i + 1) sends)
orders-step from sends i d old new lt before is =
    is ∙ ap (λ l. l ++ orders_of from (get_or sends i d ∷ [])) before ∙ sym (orders-next from sends i d lt)

-- ---- the senders

-- so many numbers, and one more
numbers-next : (first count : ℕ) → numbers first (count + 1) ≡ numbers first count ++ (first + count) ∷ []
numbers-next first zero = ap (λ n. n ∷ []) (let e : first ≡ first + 0 = omega arith in e)
numbers-next first (suc count) =
    ap (numbers first) (let e : suc count + 1 ≡ suc (count + 1) = omega arith in e)
    ∙ ap (λ l. first ∷ l) (numbers-next (first + 1) count ∙ ap (λ n. numbers (first + 1) count ++ n ∷ [])
    (let e : first + 1 + count ≡ first + suc count = omega arith in e))

-- the list of the next sender comes behind those of the first
pub lists-step : (sends : List SenderOrder) (from : ℕ) (old new : List (Vec Order Global)) (one : Vec Order Global)
    → map (λ (v : Vec Order Global). v.items) old ≡ map (λ number. orders_of number sends) (numbers 0 from) → one.items ≡ orders_of from sends
    → new ≡ old ++ one ∷ [] → map (λ (v : Vec Order Global). v.items) new ≡ map (λ number. orders_of number sends) (numbers 0 (from + 1))
lists-step sends from old new one before is pushed =
    ap (map (λ (v : Vec Order Global). v.items)) pushed ∙ map-append (λ (v : Vec Order Global). v.items) old (one ∷ [])
    ∙ (λ i. before i ++ is i ∷ [])
    ∙ sym (ap (map (λ number. orders_of number sends)) (numbers-next 0 from ∙ ap (λ n. numbers 0 from ++ n ∷ []) (let e : 0 + from ≡ from = omega arith in e))
    ∙ map-append (λ number. orders_of number sends) (numbers 0 from) (from ∷ []))
