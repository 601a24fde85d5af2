use Rattle.std.proofs.Common.{◌≡◌, length, get_or, ap, inr, ◌∙◌, arith}
use Rattle.std.specs.Prelude.{Some, slice_set}
use Rattle.std.proofs.lemmas.Option.{get_or_from_slice_get, slice_get_within}
use Rattle.mb_explore.proofs.frontier.Frontier.meet_at.Goals as goal

pub index_mut-requires : goal.index_mut-requires
index_mut-requires g c =
    let low = slice_get_within c.args.self.now c.args.place (Some c.requires.waits.0) c.requires.waits.1 in
    let long = c.self.inside.waiting.ok.0 in let same = ap length c.self.view_is in omega (arith, low, long, same)

pub returns : goal.returns
returns g c =
    let all = c.args.self.now in let place = c.args.place in let was = c.requires.waits.0 in let here = c.index_mut.result.now in
    let there : here ≡ Some was = c.index_mut.ensures.value
    ∙ ap (λ l. get_or l place here) c.self.view_is
    ∙ get_or_from_slice_get all place (Some was) here c.requires.waits.1 in
    let met = c.meet_in.ensures was there in
    inr (record {
      place = place;
      was = was;
      is = met.0;
      waits = c.requires.waits.1;
      alike = c.requires.waits.2;
      shorter = met.2;
      set = ap (λ l. slice_set l place c.meet_in.new.place) c.self.view_is ∙ ap (slice_set all place) met.1;
    })
