use Rattle.std.proofs.Common.{rules, ◌≡◌, ◌≢◌, ◌<◌, length, map, sym, ap, ◌∙◌, arith, ⊎_elim}
use Rattle.std.specs.Prelude.{Some, slice_get}
use Rattle.std.proofs.lemmas.Bool.{cases_lt}
use Rattle.std.proofs.lemmas.List.{length-map}
use Rattle.std.proofs.lemmas.Option.{slice_get-get_or}
use Rattle.mb_explore.specs.Added.{text_of}
use Rattle.mb_explore.proofs.FoundLemmas.{text-at}
use Rattle.mb_explore.proofs.outcomes.place_of.Goals as goal

pub returns-then-eq : goal.returns-then-eq
returns-then-eq c =
    let all = c.args.outcomes.now in let within : c.loop-place.place < length all = omega arith in
    let same : c.as_str.result.now ≡ c.args.text.now = search rules in
    text-at all c.loop-place.place c.index-outcomes-place.result within c.index-outcomes-place.is
    ∙ ap Some (ap text_of c.index-outcomes-place.is ∙ sym c.as_str.ensures.value ∙ same)

pub returns : goal.returns
returns c there =
    let all = map text_of c.args.outcomes.now in let long = length-map c.args.outcomes.now text_of in let within = there.1 in
    let below : there.0 < c.loop-place.place = omega arith in
    c.loop-place.invariant there.0 below (slice_get-get_or all there.0 c.args.text.now within ∙ ap Some there.2)

pub loop-place-preserved : goal.loop-place-preserved
loop-place-preserved c k lt is =
    let all = c.args.outcomes.now in let within : c.loop-place.place < length all = omega arith in
    let at = text-at all c.loop-place.place c.index-outcomes-place.result within c.index-outcomes-place.is in
    ⊎_elim (λ below. c.loop-place.invariant k below is)
    (λ above. let e : k ≡ c.loop-place.place = omega arith in
    let both = sym at ∙ ap (slice_get (map text_of all)) (sym e) ∙ is in let found : text_of c.index-outcomes-place.result ≡ c.args.text.now = cc in
    let differ : c.as_str.result.now ≢ c.args.text.now = search rules in
    differ (c.as_str.ensures.value ∙ ap text_of (sym c.index-outcomes-place.is) ∙ found))
    (cases_lt k c.loop-place.place)
