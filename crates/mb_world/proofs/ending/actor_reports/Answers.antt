use Rattle.std.proofs.Common.{◌≡◌, ◌∷◌, [], length, sym, ap, ◌∙◌, arith}
use Rattle.std.specs.Vec.Iter.{into_iter_items}
use Rattle.std.proofs.lemmas.List.{nil_from_length}
use Rattle.mb_world.proofs.EndLemmas.{rest-begins, rest-ends, rest-more}
use Rattle.mb_world.proofs.ending.actor_reports.Goals as goal

pub loop-cell-init : goal.loop-cell-init
loop-cell-init g c =
    let all = c.into_iter-cell-iterator.ensures.into_iter_gives.0 in let boxes = c.into_iter-mailboxes.ensures.rest in
    let cells = ap length all in let mailboxes = ap length boxes in let same = c.requires in record {
      as_many = omega (arith, cells, mailboxes, same);
      shown = rest-begins g.K.Behaviours.after g.K.Behaviours.gives (into_iter_items c.into_iter-cell-iterator.result) c.args.cells.items
          (into_iter_items c.into_iter-mailboxes.result) c.args.mailboxes.items c.new-reports.result.items all boxes c.new-reports.ensures.items;
    }

pub loop-cell-preserved : goal.loop-cell-preserved
loop-cell-preserved g c =
    let at = c.loop-cell in let rest = into_iter_items c.next.new.self in let after = into_iter_items c.next-in-loop-cell.new.self in
    let steps : into_iter_items at.cell-iterator ≡ c.in-Some.cell ∷ rest = c.in-Some.ensures.steps.0 in
    let lines : into_iter_items at.mailboxes ≡ c.in-Some-next.mailbox ∷ after = c.in-Some-next.ensures.items in
    let as_many = at.invariant.as_many in let one = ap length steps in let other = ap length lines in record {
      as_many = omega (arith, as_many, one, other);
      shown = rest-more g.K.Behaviours.after g.K.Behaviours.gives c.in-Some.cell c.in-Some-next.mailbox c.actor_report.result
          (into_iter_items at.cell-iterator) rest c.args.cells.items (into_iter_items at.mailboxes) after c.args.mailboxes.items at.reports.items
          c.push.new.self.items steps lines c.in_ok-push.ensures.items c.actor_report.ensures at.invariant.shown;
    }

pub returns : goal.returns
returns g c =
    let at = c.loop-cell in
    let none : into_iter_items at.cell-iterator ≡ [] =
    nil_from_length (into_iter_items at.cell-iterator) (sym at.cell-iterator.rest.ok.0 ∙ c.in-None.ensures.steps.0) in
    let over : into_iter_items at.mailboxes ≡ [] = nil_from_length (into_iter_items at.mailboxes) (at.invariant.as_many ∙ ap length none) in
    rest-ends g.K.Behaviours.after g.K.Behaviours.gives (into_iter_items at.cell-iterator) c.args.cells.items (into_iter_items at.mailboxes)
    c.args.mailboxes.items at.reports.items none over at.invariant.shown
