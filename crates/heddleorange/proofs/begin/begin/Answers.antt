use Rattle.std.proofs.Common.{rules, ◌≡◌, length, subst}
use Rattle.heddleorange.specs.NoReport.{IsRight, IsUnfit}
use Rattle.heddleorange.specs.NamedOrder.{NamesInLists}
use Rattle.heddleorange.proofs.GivesNoReport.{short-failure, unfit-failure}
use Rattle.heddleorange.proofs.Sent.{on-ok, orders_of}
use Rattle.heddleorange.proofs.begin.begin.Goals as goal

pub returns-in-Err-clause-failure : goal.returns-in-Err-clause-failure
returns-in-Err-clause-failure g c =
    let plan = c.args.plan in let orders = orders_of c.args.sends.now in let refused = c.refused.ensures in let error = c.in-Err.error in
    let count : c.len.result ≡ length c.args.actors.items = search rules in
    unfit-failure g.K.Behaviours.gives plan c.args.actors.items orders c.refused.result error refused.error refused.actors refused.untouched refused.names
    (subst (λ n. IsUnfit plan n orders error) count c.in-Err.ensures.unfit) (subst (λ n. NamesInLists n orders error) count c.in-Err.ensures.which)

pub returns-clause-right : goal.returns-clause-right
returns-clause-right g c =
    let orders = orders_of c.args.sends.now in let count : c.len.result ≡ length c.args.actors.items = search rules in
    on-ok c.build_checked.result (subst (λ n. IsRight c.args.plan n orders) count c.in_default.ensures.right)

pub returns-clause-failure : goal.returns-clause-failure
returns-clause-failure g c =
    let orders = orders_of c.args.sends.now in let count : c.len.result ≡ length c.args.actors.items = search rules in
    short-failure g.K.Behaviours.gives c.args.plan c.args.actors.items orders c.build_checked.result
    (subst (λ n. IsRight c.args.plan n orders) count c.in_default.ensures.right) c.build_checked.ensures.refused c.build_checked.ensures.back
