use Rattle.std.proofs.Common.{◌<◌, ◌+◌, ◌∷◌, length, drop, sym, ap, ◌∙◌, arith}
use Rattle.std.proofs.lemmas.List.{at_drop_more, drop_all, drop_more, length_push}
use Rattle.std.proofs.lemmas.Result.{IfOk-from_err}
use Rattle.mb_cell.specs.CellView.{CellView}
use Rattle.mb_queue.specs.Passes.{TakePassView}
use Rattle.mb_build.proofs.HomeLemmas.{whose}
use Rattle.mb_build.proofs.DirectoryLemmas.{enrolled-done, enrolled-more, enrolled-none, directory-push, the_enrolled}
use Rattle.mb_build.proofs.homes.make_directory.Goals as goal

pub loop-number-preserved : goal.loop-number-preserved
loop-number-preserved g c =
    let at = c.loop-number in let cells = c.args.cells.now in let takes = c.args.takes.now in
    let cell = c.index-cells-number.result in let t = c.index-takes-number.result in
    let test = c.loop-number-test.true in let count = c.requires in
    let lt : at.number < length cells = omega (arith, test) in
    let few : at.number < length takes = omega (arith, test, count) in
    let more = enrolled-more (whose (drop at.number cells)) (whose (drop (at.number + 1) cells)) (drop at.number takes) (drop (at.number + 1) takes)
    cell.who t _ _ _
    (at_drop_more whose cells at.number cell lt ∙ ap (λ (x : CellView). x.who ∷ whose (drop (at.number + 1) cells)) (sym c.index-cells-number.is))
    (drop_more takes at.number t few ∙ ap (λ (x : TakePassView). x ∷ drop (at.number + 1) takes) (sym c.index-takes-number.is))
    (directory-push _ at.directory.items c.push_reserved.new.self.items _ (the_enrolled cell.who t) c.push_reserved.ensures.items
    (ap (λ (x : CellView). the_enrolled x.who c.of-in-loop-number.result.value) c.of.ensures
    ∙ ap (λ (x : TakePassView). the_enrolled cell.who x) c.of-in-loop-number.ensures))
    at.invariant.0 in (
      more,
      ap length c.push_reserved.ensures.items ∙ length_push at.directory.items _ ∙ ap (λ n. n + 1) at.invariant.1,
      c.push_reserved.ensures.capacity ∙ at.invariant.2,
    )

pub bounds-cells-number : goal.bounds-cells-number
bounds-cells-number g c = let test = c.loop-number-test.true in omega (arith, test)

pub bounds-takes-number : goal.bounds-takes-number
bounds-takes-number g c = let test = c.loop-number-test.true in let count = c.requires in omega (arith, test, count)

pub push_reserved-requires : goal.push_reserved-requires
push_reserved-requires g c =
    let at = c.loop-number in let test = c.loop-number-test.true in let many = at.invariant.1 in let room = at.invariant.2 in
    omega (arith, test, many, room)

pub returns-in_err-directory : goal.returns-in_err-directory
returns-in_err-directory g c = IfOk-from_err c.from_residual.result _ c.from_residual.ensures.0

pub loop-number-init : goal.loop-number-init
loop-number-init g c =
    let made = c.in_ok-directory.ensures in (enrolled-none _ c.in_ok-directory.directory.items _ made.items, ap length made.items, made.exact)

pub loop-number-smaller : goal.loop-number-smaller
loop-number-smaller g c = let test = c.loop-number-test.true in omega (arith, test)

pub returns : goal.returns
returns g c =
    let at = c.loop-number in let cells = c.args.cells.now in
    enrolled-done _ _ (whose (drop at.number cells)) (drop at.number c.args.takes.now)
    (ap whose (drop_all at.number cells c.loop-number-test.false)) at.invariant.0
