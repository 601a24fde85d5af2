use Rattle.std.proofs.Common.{◌≡◌, ◌+◌, List, [], ◌∷◌, ◌++◌, Vec, Global, map, sym, ap, ◌∙◌, arith}
use Rattle.std.specs.List.{range_with_len}
use Rattle.std.proofs.lemmas.List.{map-append}
use Rattle.std.proofs.lemmas.List.FromFn.{map-range_with_len_more}
use Rattle.mb_msg.specs.declared.order.Order.{Order}
use Rattle.mailexplore.specs.Described.{orders_of}
use Rattle.mailexplore.proofs.text_setup.lists_of.Goals as goal

abbrev list_of : Vec Order Global → List Order
list_of v = v.items

pub loop-from-preserved : goal.loop-from-preserved
loop-from-preserved c =
    let sends = c.args.sends.now in let from = c.loop-from.from in let one = c.in_ok-orders_of.field-0 in
    let before = map (orders_of sends) (range_with_len 0 from) in let here : 0 + from ≡ from = omega arith in
    ap (map list_of) c.in_ok-push.ensures.items
    ∙ map-append list_of c.loop-from.lists.items (one ∷ [])
    ∙ ap (λ (l : List (List Order)). l ++ one.items ∷ []) c.loop-from.invariant
    ∙ ap (λ (x : List Order). before ++ x ∷ []) c.in_ok-orders_of.ensures
    ∙ sym (map-range_with_len_more (orders_of sends) 0 from from here)
