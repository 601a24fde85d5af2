use Rattle.std.proofs.Common.{◌+◌, length, sym, ap, ◌∙◌, arith}
use Rattle.std.specs.Prelude.{◌==◌, if◌then◌else◌}
use Rattle.mb_cell.specs.CellView.{CellView}
use Rattle.mb_world.proofs.NumberLemmas.{few-numbers, next-system}
use Rattle.mb_world.proofs.numbered_cell.NumberedCell.apply.Goals as goal

pub next_after-self-inside-requires : goal.next_after-self-inside-requires
next_after-self-inside-requires g c =
    let at = c.self.inside.cell in let is = c.self.view_is in let next = c.self.invariant.0 in let limit = c.self.invariant.1 in
    let few = few-numbers at.journal in let room = c.requires.room.not_full in
    let entries = ap (λ (s : CellView). length s.journal) is in let bound = ap (λ (s : CellView). s.who.limit) is in
    omega (arith, next, limit, few, room, entries, bound)

pub invariant_of-self : goal.invariant_of-self
invariant_of-self g c =
    let taken = c.apply_system.ensures.taken in let limit = c.self.invariant.1 in
    let same = ap (λ (s : CellView). s.who.limit) taken.adds in (
      c.next_after-self-inside.ensures
          ∙ ap (λ n. if c.args.number == n then c.args.number + 1 else n) c.self.invariant.0
          ∙ sym (next-system _ _ _ _ taken),
      omega (arith, same, limit),
    )
