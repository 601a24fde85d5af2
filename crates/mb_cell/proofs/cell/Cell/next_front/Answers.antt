use Rattle.std.proofs.Common.{sym, ap, ◌∙◌, arith}
use Rattle.mb_actor.specs.declared.phase.Phase.TheVariants.{Ending}
use Rattle.mb_journal.specs.Aside.{first_of_list}
use Rattle.mb_journal.specs.Phase.{phase_is}
use Rattle.mb_cell.proofs.FrontLemmas.{front-suspended, front-ending, front-first, off-ending, first-get}
use Rattle.mb_cell.proofs.cell.Cell.next_front.Goals as goal

pub returns-then-count-gt0 : goal.returns-then-count-gt0
returns-then-count-gt0 g c = front-suspended c.args.self.now.who c.args.self.now.journal c.count.result c.count.ensures c.if-count-gt0.true

pub returns-in-Ending : goal.returns-in-Ending
returns-in-Ending g c =
    front-ending c.args.self.now.who c.args.self.now.journal (ap (λ p. phase_is p Ending) (sym c.in-Ending.ensures))

pub returns-in-Fresh : goal.returns-in-Fresh
returns-in-Fresh g c =
    c.copied.ensures ∙ (c.first.ensures.value ∙ (first-get c.aside.result.now ∙ (ap first_of_list c.aside.ensures.value
    ∙ front-first c.args.self.now.who c.args.self.now.journal c.count.result c.count.ensures (omega (arith, c.if-count-gt0.false))
    (ap (λ p. phase_is p Ending) (sym c.phase.ensures) ∙ off-ending c.phase.result c.in-Fresh.is))))
