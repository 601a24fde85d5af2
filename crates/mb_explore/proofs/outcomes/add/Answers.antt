use Rattle.std.proofs.Common.{◌≡◌, ◌<◌, length, sym, ap, map, inl, refl, ◌∙◌, arith}
use Rattle.std.specs.Prelude.{Some, slice_get, string_bytes}
use Rattle.std.proofs.lemmas.List.{length-map}
use Rattle.std.proofs.lemmas.Option.{slice_get_within}
use Rattle.mb_explore.specs.Added.{text_of}
use Rattle.mb_explore.proofs.FoundLemmas.{outcome-at, text-at}
use Rattle.mb_explore.proofs.outcomes.add.Goals as goal

pub returns-in-Some : goal.returns-in-Some
returns-in-Some c =
    let all = c.args.outcomes.now.items in let place = c.in-Some.place in let old = c.index_mut.result.now in
    let there : slice_get (map text_of all) place ≡ Some (string_bytes c.args.text) =
    ap (λ l. slice_get (map text_of l) place) (sym c.deref.ensures.value) ∙ c.in-Some.ensures ∙ ap Some c.as_str.ensures.value in
    let long = length-map all text_of in let low = slice_get_within (map text_of all) place (string_bytes c.args.text) there in
    let within : place < length all = omega (arith, long, low) in
    let both : Some (text_of old) ≡ Some (string_bytes c.args.text) = sym (text-at all place old within c.index_mut.ensures.value) ∙ there in
    inl (record {
      place = place;
      old = old;
      new = c.meet.new.outcome;
      was = outcome-at all place old within c.index_mut.ensures.value;
      same = cc both;
      shorter = c.meet.ensures;
      is = refl;
    })
