use Rattle.std.proofs.Common.{rules, ◌≡◌, length, refl, sym, ap, ◌∙◌}
use Rattle.mb_build.specs.Reasons.{reasons}
use Rattle.mb_startup.proofs.building.build.Goals as goal

pub returns-in-Err-clause-refused : goal.returns-in-Err-clause-refused
returns-in-Err-clause-refused g c =
    let count : c.len.result ≡ length c.args.actors.items = search rules in
    (c.in-Err.ensures.0, ap (reasons c.args.plan) (sym count) ∙ c.in-Err.ensures.1, refl, refl)
