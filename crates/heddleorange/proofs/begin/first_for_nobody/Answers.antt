use Rattle.std.proofs.Common.{◌≡◌, ◌<◌, ◌∙◌, Vec, ap, length, refl, subst, sym}
use Rattle.std.proofs.lemmas.Option.{same_Some, slice_get_read}
use Rattle.std.specs.Global.{Global}
use Rattle.std.specs.List.{list_any, position_from}
use Rattle.mb_msg.specs.declared.order.Order.{Order}
use Rattle.mb_shutdown.proofs.Lists.{mapped}
use Rattle.heddleorange.specs.NoReport.{has_nobody}
use Rattle.heddleorange.proofs.First.{first-any, first-mapped, first-passes, none-found}
use Rattle.heddleorange.proofs.Recipients.{any-mapped}
use Rattle.heddleorange.proofs.begin.first_for_nobody.Goals as goal

pub returns-in_default-clause-none : goal.returns-in_default-clause-none
returns-in_default-clause-none c =
    any-mapped (list_any (has_nobody c.args.actors)) (λ (v : Vec Order Global). v.items) c.args.sends.now
    ∙ none-found (λ (v : Vec Order Global). list_any (has_nobody c.args.actors) v.items) 0 c.args.sends.now (sym c.in_default.ensures.place)

pub returns-clause-some : goal.returns-clause-some
returns-clause-some c =
    any-mapped (list_any (has_nobody c.args.actors)) (λ (v : Vec Order Global). v.items) c.args.sends.now
    ∙ first-any (λ (v : Vec Order Global). list_any (has_nobody c.args.actors) v.items) 0 c.args.sends.now c.in-Some.sender (sym c.in-Some.ensures.place)

pub unreachable-requires : goal.unreachable-requires
unreachable-requires c =
    let sends = c.args.sends.now in let own = c.index-sends-sender.result in
    let here = slice_get_read sends (length sends) c.in-Some.sender own refl c.in-Some.ensures.within c.index-sends-sender.is in
    let some = first-passes (λ (v : Vec Order Global). list_any (has_nobody c.args.actors) v.items) sends c.in-Some.sender own
    (sym c.in-Some.ensures.place) here in
    let none = none-found (has_nobody c.args.actors) 0 c.deref.result.now (sym c.in_default-first_such_order.ensures.place) in
    let same = c.deref.ensures.value in absurd (cc (some, none, same))

pub returns-clause-first : goal.returns-clause-first
returns-clause-first c =
    let sends = c.args.sends.now in let sender = c.in-Some.sender in let place = c.in-Some-first_such_order.place in
    let first = c.index-sends-sender.result in let own = c.index-sends-sender-2.result in let order = c.index.result.now in
    let within = c.in-Some.ensures.within in
    let here = slice_get_read sends (length sends) sender first refl within c.index-sends-sender.is in
    let again = slice_get_read sends (length sends) sender own refl within c.index-sends-sender-2.is in
    let same : first ≡ own = same_Some first own (sym here ∙ again) in
    let items : c.deref.result.now ≡ own.items = c.deref.ensures.value ∙ ap (λ (v : Vec Order Global). v.items) same in
    let less : place < length own.items = subst (λ l. place < length l) items c.in-Some-first_such_order.ensures.within in (
      own.items,
      order,
      (
        first-mapped (list_any (has_nobody c.args.actors)) (λ (v : Vec Order Global). v.items) 0 sends ∙ sym c.in-Some.ensures.place,
        mapped (λ (v : Vec Order Global). v.items) sends sender own again,
      ),
      (
        ap (position_from (has_nobody c.args.actors) 0) (sym items) ∙ sym c.in-Some-first_such_order.ensures.place,
        slice_get_read own.items (length own.items) place order refl less c.index.ensures,
      ),
      refl,
    )
