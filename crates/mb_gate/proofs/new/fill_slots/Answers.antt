use Rattle.std.proofs.Common.{◌∷◌, ◌++◌, [], reverse, ap, sym, ◌∙◌, arith}
use Rattle.mb_gate.specs.declared.slot.Slot.TheVariants.{Home, List as Listing}
use Rattle.mb_gate.specs.Starts.{slots_of}
use Rattle.mb_gate.proofs.Rows.{shelves_moved}
use Rattle.mb_gate.proofs.new.fill_slots.Goals as goal

pub loop-home-preserved : goal.loop-home-preserved
loop-home-preserved g c =
    let moved = shelves_moved c.pop.new.self.items c.in-Some.home c.loop-home.slots.items _ (ap (λ z. slots_of z ++ reverse
    c.loop-home.slots.items) (sym c.in-Some.ensures.items) ∙ c.loop-home.invariant.0) in
    let items = c.push_reserved-in-Some.ensures.items ∙ ap (λ z. z ++ Home c.in-Some.home ∷ []) (c.push_reserved.ensures.items ∙ ap (λ l.
    c.loop-home.slots.items ++ Listing l ∷ []) c.new.ensures) in (
      ap (λ z. slots_of c.pop.new.self.items ++ reverse z) items ∙ moved,
      (let a = c.push_reserved-in-Some.ensures.len in let b = c.push_reserved.ensures.len in let d = c.push_reserved-in-Some.ensures.capacity in
          let e = c.push_reserved.ensures.capacity in let f = c.in-Some.ensures.len in let h = c.loop-home.invariant.1 in omega arith),
      (let a = c.in-Some.ensures.capacity in let h = c.loop-home.invariant.2 in omega arith),
    )
