use Rattle.std.proofs.Common.{◌≡◌, List, ap, arith, length, map, subst, sym, ◌∙◌}
use Rattle.std.specs.Prelude.{All}
use Rattle.std.specs.declared.vec.Vec.{Vec}
use Rattle.std.proofs.lemmas.List.{length-map}
use Rattle.mb_pool.specs.Begins.{borrowed_next, with_shares}
use Rattle.mb_pool.specs.Places.{PoolPort, numbers}
use Rattle.mb_pool.proofs.Begins.{length_numbers}
use Rattle.mb_pool.proofs.Handing.{ok_so, own_one}
use Rattle.mb_pool.proofs.Lent.{refilled}
use Rattle.mb_pool.proofs.new_worker_deques.worker_deques_of.Goals as goal

pub thieves_of-requires : goal.thieves_of-requires
thieves_of-requires g c = subst (λ ls. All (λ (l : PoolPort _). l.ledger.shares ≡ length ls) ls) (sym c.as_mut_slice.ensures.value) c.requires

pub pair-requires : goal.pair-requires
pair-requires g c =
    let v = c.args.owns in let new = c.thieves_of.new.owns in let value = c.as_mut_slice.ensures.value in
    let count : length new ≡ v.len = omega (arith, c.thieves_of.auto.owns, c.as_mut_slice.ensures.len) in
    let is = refilled v.len v.items new count in
    let given = c.as_mut_slice.result.now in let lists = c.in_ok-lists.lists.items in
    let many : length lists ≡ length given = sym (length-map lists (λ (w : Vec _ _). w.items)) ∙ ap length c.in_ok-lists.ensures.lists
    ∙ length-map (numbers 0 (length given)) (borrowed_next given) ∙ length_numbers 0 (length given) in
    let back = ap length is in omega (arith, back, many, c.thieves_of.auto.owns)

pub returns-clause-owners : goal.returns-clause-owners
returns-clause-owners g c =
    let v = c.args.owns in let new = c.thieves_of.new.owns in let value = c.as_mut_slice.ensures.value in
    let count : length new ≡ v.len = omega (arith, c.thieves_of.auto.owns, c.as_mut_slice.ensures.len) in
    let is = refilled v.len v.items new count in
    ok_so _ _ c.pair.result (λ ms h some. h ∙ own_one v.items _ (is ∙ c.in_ok-lists.ensures.owns
    ∙ ap (map (with_shares 1)) value)) c.pair.ensures.owners

pub returns-clause-next : goal.returns-clause-next
returns-clause-next g c =
    let v = c.args.owns in let new = c.thieves_of.new.owns in let value = c.as_mut_slice.ensures.value in
    let count : length new ≡ v.len = omega (arith, c.thieves_of.auto.owns, c.as_mut_slice.ensures.len) in
    let is = refilled v.len v.items new count in
    ok_so _ _ c.pair.result (λ ms h some. h ∙ c.in_ok-lists.ensures.lists
    ∙ ap (λ (ls : List (PoolPort _)). map (borrowed_next ls) (numbers 0 (length ls))) value) c.pair.ensures.next
