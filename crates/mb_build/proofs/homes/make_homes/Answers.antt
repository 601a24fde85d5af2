use Rattle.std.proofs.Common.{◌≡◌, ◌+◌, ◌∷◌, length, map, drop, sym, ap, ◌∙◌, subst, arith}
use Rattle.std.proofs.lemmas.Result.{IfOk-from_err}
use Rattle.mb_build.specs.NewHomes.{AreAtFirst, directory_of}
use Rattle.mb_build.specs.Kinds.{AreKindsOf}
use Rattle.mb_build.specs.Made.{AreAllMade, AreMade}
use Rattle.mb_build.specs.Numbers.{sender_numbers}
use Rattle.mb_build.proofs.HomeLemmas.{all-made, whose}
use Rattle.mb_build.proofs.NewHomesLemmas.{cells-of, length-who, planned-cells, rows-outside, who_of}
use Rattle.mb_build.proofs.PlannedLemmas.{all-makeable, length-queues}
use Rattle.mb_build.proofs.QueueLemmas.{as-many}
use Rattle.mb_build.proofs.homes.make_homes.Goals as goal

pub make_queues-requires : goal.make_queues-requires
make_queues-requires g c =
    let plans = c.args.plans.items in let kinds = c.in_ok-kinds.kinds.items in
    let are : AreKindsOf plans kinds = subst (λ l. AreKindsOf l kinds) c.deref.ensures.value c.in_ok-kinds.ensures in
    let many = length-queues plans kinds are in let few = c.requires.within_limit.0 in record {
      within_limit = (omega (arith, many, few), c.requires.within_limit.1);
      kinds = all-makeable 1 plans kinds c.requires.right.1 are;
    }

pub make_directory-requires : goal.make_directory-requires
make_directory-requires g c =
    let plans = c.args.plans.items in let kinds = c.in_ok-kinds.kinds.items in let takes = c.in_ok-queues.queues.takes.items in
    let numbers = sender_numbers (length kinds + 1) c.args.senders in
    let are = cells-of c.args.journal c.args.journal_limit plans c.in_ok-cells.cells.items c.in_ok-cells.ensures in
    let all = all-made kinds numbers takes _ c.in_ok-queues.ensures in
    let cells : length c.deref-2.result.now ≡ length plans + 1 = ap length c.deref-2.ensures.value ∙ are.count in
    let as_many : length c.deref-3.result.now ≡ length takes = ap length c.deref-3.ensures.value in
    let whole = ap length all.2 in let queues = as-many kinds 1 numbers all.1 all.3.empty in
    let many = length-queues plans kinds (subst (λ l. AreKindsOf l kinds) c.deref.ensures.value c.in_ok-kinds.ensures) in
    omega (arith, cells, as_many, whole, queues, many)

pub homes-requires : goal.homes-requires
homes-requires g c =
    let plans = c.args.plans.items in let kinds = c.in_ok-kinds.kinds.items in let cells = c.in_ok-cells.cells.items in
    let takes = c.in_ok-queues.queues.takes.items in let rows = map (λ row. row.items) c.in_ok-queues.queues.senders.items in
    let are = cells-of c.args.journal c.args.journal_limit plans cells c.in_ok-cells.ensures in
    let many = length-queues plans kinds (subst (λ l. AreKindsOf l kinds) c.deref.ensures.value c.in_ok-kinds.ensures) in
    let few = c.requires.within_limit.0 in let whole = are.count in
    let count : length cells ≡ length kinds + 1 = omega (arith, whole, many) in record {
      within_limit = omega (arith, whole, few);
      cells = (are.unused, planned-cells c.args.journal c.args.journal_limit plans cells are c.requires.right.0 c.requires.within_journal);
      made = (
        kinds,
        c.args.senders,
        count,
        subst (λ n. AreAllMade kinds (sender_numbers n c.args.senders) takes rows) (sym count) c.in_ok-queues.ensures,
      );
      directory = c.in_ok-directory.ensures ∙ ap (λ l. directory_of (whose l) c.deref-3.result.now) c.deref-2.ensures.value
          ∙ ap (directory_of (whose cells)) c.deref-3.ensures.value;
    }

pub returns : goal.returns
returns g c =
    let plans = c.args.plans.items in let kinds = c.in_ok-kinds.kinds.items in let cells = c.in_ok-cells.cells.items in
    let rows = map (λ row. row.items) c.in_ok-queues.queues.senders.items in let mode = c.args.journal in let limit = c.args.journal_limit in
    let queues = subst (λ l. AreKindsOf l kinds) c.deref.ensures.value c.in_ok-kinds.ensures in
    let all = all-made kinds (sender_numbers (length kinds + 1) c.args.senders) c.in_ok-queues.queues.takes.items rows c.in_ok-queues.ensures in
    let guardian = all.0 in let takes = all.1 in
    let are = cells-of mode limit plans cells c.in_ok-cells.ensures in
    let many = length-queues plans kinds queues in let whole = are.count in let who = length-who mode limit plans in
    let count : length cells ≡ length kinds + 1 = omega (arith, whole, many) in
    let actors : length kinds + 1 ≡ length (who_of mode limit plans) = omega (arith, who, many) in
    let housed = c.in_ok-housed.housed in (
      kinds,
      queues,
      record {
        guardian = guardian;
        takes = takes;
        rows = rows;
        made = subst (λ n. AreMade kinds (sender_numbers n c.args.senders) guardian takes rows) actors all.3;
        first = subst (λ l. AreAtFirst (directory_of l (guardian ∷ takes)) takes 0 l (guardian ∷ takes) housed.homes.items) are.who
            (subst (λ w. AreAtFirst (directory_of (whose cells) w) (drop 1 w) 0 (whose cells) w housed.homes.items) all.2 c.in_ok-housed.ensures.first);
        fresh = c.in_ok-housed.ensures.fresh;
        passes = rows-outside kinds (length cells) (length kinds + 1) c.args.senders guardian takes rows _ all.3 count
            c.in_ok-housed.ensures.outside;
      },
    )

pub returns-in_err-kinds : goal.returns-in_err-kinds
returns-in_err-kinds g c = IfOk-from_err c.from_residual.result _ c.from_residual.ensures.0

pub returns-in_err-queues : goal.returns-in_err-queues
returns-in_err-queues g c = IfOk-from_err c.from_residual-in_err-queues.result _ c.from_residual-in_err-queues.ensures.0

pub returns-in_err-cells : goal.returns-in_err-cells
returns-in_err-cells g c = IfOk-from_err c.from_residual-in_err-cells.result _ c.from_residual-in_err-cells.ensures.0

pub returns-in_err-directory : goal.returns-in_err-directory
returns-in_err-directory g c = IfOk-from_err c.from_residual-in_err-directory.result _ c.from_residual-in_err-directory.ensures.0

pub returns-in_err-housed : goal.returns-in_err-housed
returns-in_err-housed g c = IfOk-from_err c.from_residual-in_err-housed.result _ c.from_residual-in_err-housed.ensures.0
