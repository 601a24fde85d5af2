use Rattle.std.proofs.Common.{rules, ◌≡◌, [], ◌∙◌, ap, length, subst, sym}
use Rattle.mb_build.specs.Reasons.{reasons}
use Rattle.heddleorange.specs.GivesBack.{tells_of_nothing_done}
use Rattle.heddleorange.specs.NamedOrder.{NamesInLists}
use Rattle.heddleorange.specs.NoReport.{IsUnfit}
use Rattle.heddleorange.proofs.FromSources.{begun-for-all, others-begun, short-for-all}
use Rattle.heddleorange.proofs.GivesBack.{all-back, none-of}
use Rattle.heddleorange.proofs.NoReport.{unfit}
use Rattle.heddleorange.proofs.Sent.{on-ok}
use Rattle.heddleorange.proofs.begin_from.begin_from.Goals as goal

pub returns-in-Err-clause-refused : goal.returns-in-Err-clause-refused
returns-in-Err-clause-refused g c = λ orders many none.
    (let actors = length c.args.actors.items in let count : c.len.result ≡ actors = search rules in
    unfit g.K.Behaviours.gives c.args.plan actors orders c.refused.result c.in-Err.error c.refused.ensures.error
    c.refused.ensures.actors (subst (λ n. IsUnfit c.args.plan n orders c.in-Err.error) count (c.in-Err.ensures.unfit orders many)))

pub returns-in-Err-clause-which : goal.returns-in-Err-clause-which
returns-in-Err-clause-which g c = λ orders.
    (let actors = length c.args.actors.items in let count : c.len.result ≡ actors = search rules in
    subst (NamesInLists actors orders) (sym c.refused.ensures.error)
    (subst (λ n. NamesInLists n orders c.in-Err.error) count (c.in-Err.ensures.which orders)))

pub returns-in-Err-clause-back : goal.returns-in-Err-clause-back
returns-in-Err-clause-back g c =
    all-back c.args.plan c.args.actors.items c.refused.result (ap tells_of_nothing_done c.refused.ensures.error ∙ c.in-Err.ensures.nothing_done)
    c.refused.ensures.untouched c.refused.ensures.names

pub returns-clause-right : goal.returns-clause-right
returns-clause-right g c =
    let count : c.len.result ≡ length c.args.actors.items = search rules in
    on-ok c.build_checked.result (subst (λ n. (reasons c.args.plan n ≡ []) × (c.args.sources ≡ c.args.plan.senders)) count c.in_default.ensures.right)

pub returns-clause-refused : goal.returns-clause-refused
returns-clause-refused g c =
    let count : c.len.result ≡ length c.args.actors.items = search rules in
    short-for-all g.K.Behaviours.gives c.args.plan (length c.args.actors.items) c.args.sources c.build_checked.result
    (subst (λ n. (reasons c.args.plan n ≡ []) × (c.args.sources ≡ c.args.plan.senders)) count c.in_default.ensures.right) c.build_checked.ensures.refused

pub returns-clause-which : goal.returns-clause-which
returns-clause-which g c = begun-for-all (length c.args.actors.items) c.build_checked.result c.build_checked.ensures.back

pub returns-clause-back : goal.returns-clause-back
returns-clause-back g c = none-of c.args.plan c.args.actors.items c.build_checked.result c.build_checked.ensures.back

pub returns-clause-others : goal.returns-clause-others
returns-clause-others g c =
    let count : c.len.result ≡ length c.args.actors.items = search rules in
    others-begun g.K.Behaviours.gives c.args.plan (length c.args.actors.items) c.build_checked.result
    (subst (λ n. reasons c.args.plan n ≡ []) count c.in_default.ensures.right.0) c.build_checked.ensures.begun
