use Rattle.std.proofs.Common.{◌∷◌, ◌++◌, [], length, reverse, ap, sym, ◌∙◌, length-append, arith}
use Rattle.mb_gate.specs.Starts.{homes_in}
use Rattle.mb_gate.proofs.Rows.{homes_moved, homes_in-append}
use Rattle.mb_gate.proofs.new.empty_slots.Goals as goal

pub put_home-requires : goal.put_home-requires
put_home-requires g c =
    let split = ap length (ap homes_in c.in-Some.ensures.items ∙ homes_in-append c.pop.new.self.items (c.in-Some.slot ∷ [])) ∙ length-append
    (homes_in c.pop.new.self.items) (homes_in (c.in-Some.slot ∷ [])) in
    record { room = (let h = c.loop-slot.invariant.1 in omega arith) }

pub loop-slot-preserved : goal.loop-slot-preserved
loop-slot-preserved g c =
    let split = ap length (ap homes_in c.in-Some.ensures.items ∙ homes_in-append c.pop.new.self.items (c.in-Some.slot ∷ [])) ∙ length-append
    (homes_in c.pop.new.self.items) (homes_in (c.in-Some.slot ∷ [])) in
    let longer = ap length c.put_home.ensures.homes ∙ length-append c.loop-slot.homes.items (homes_in (c.in-Some.slot ∷ [])) in (
      homes_moved c.pop.new.self.items c.in-Some.slot c.loop-slot.homes.items _ _ c.put_home.ensures.homes (ap (λ z. homes_in z ++ reverse
          c.loop-slot.homes.items) (sym c.in-Some.ensures.items) ∙ c.loop-slot.invariant.0),
      (let h = c.loop-slot.invariant.1 in let r = c.put_home.ensures.room in omega arith),
    )
