use Rattle.std.proofs.Common.{◌≡◌, refl, sym, subst, ◌∙◌}
use Rattle.std.specs.Prelude.{Some}
use Rattle.mb_explore.specs.Search.{IsMet, Spot}
use Rattle.mb_explore.proofs.frontier.meet_in.Goals as goal

pub returns-in-Some : goal.returns-in-Some
returns-in-Some g c was is =
    let both : Some c.in-Some.waiting ≡ Some was = sym c.in-Some.is ∙ is in let same : c.in-Some.waiting ≡ was = cc both in
    (c.meet.new.self, refl, subst (λ (w : Spot). IsMet w c.meet.new.self (c.args.schedule.items, c.args.world)) same c.meet.ensures)
