use Rattle.std.proofs.Common.{rules, ◌≡◌, ◌∷◌, ◌++◌, [], ap, append_assoc, length, subst, sym, ◌∙◌}
use Rattle.std.specs.Vec.Iter.{into_iter_items}
use Rattle.mb_pool.specs.Handles.{Gathers}
use Rattle.mb_pool.proofs.Ending.{among_now, gathers_at, may_own}
use Rattle.mb_pool.proofs.Gathering.{gathers_none}
use Rattle.mb_pool.proofs.Taking.{drained}
use Rattle.mb_pool.proofs.gather.join_all.Goals as goal

pub join_own-requires : goal.join_own-requires
join_own-requires g c =
    let at = c.loop-thief in let t = c.in-Some.thief in let rest = into_iter_items c.next.new.self in
    let steps : into_iter_items at.thief-iterator ≡ t ∷ rest = c.in-Some.ensures.steps.0 in
    let all : at.yielded ++ t ∷ rest ≡ c.args.thieves.items = ap (λ l. at.yielded ++ l) (sym steps) ∙ at.invariant.0 in
    may_own at.handles t c.number-number.result c.index-handles-number.result c.number-number.ensures
    (among_now c.args.handles.now at.handles c.args.thieves.items at.yielded rest t all c.requires at.invariant.1)

pub loop-thief-preserved : goal.loop-thief-preserved
loop-thief-preserved g c =
    let at = c.loop-thief in let t = c.in-Some.thief in let rest = into_iter_items c.next.new.self in
    let steps : into_iter_items at.thief-iterator ≡ t ∷ rest = c.in-Some.ensures.steps.0 in
    let all : at.yielded ++ t ∷ rest ≡ c.args.thieves.items = ap (λ l. at.yielded ++ l) (sym steps) ∙ at.invariant.0 in (
      append_assoc at.yielded (t ∷ []) rest ∙ all,
      gathers_at c.args.handles.now at.handles at.yielded t c.number-number.result c.index-handles-number.result c.join_own.new.handle c.number-number.ensures
          c.join_own.ensures at.invariant.1
          (among_now c.args.handles.now at.handles c.args.thieves.items at.yielded rest t all c.requires at.invariant.1),
    )

pub loop-thief-init : goal.loop-thief-init
loop-thief-init g c = (search rules, gathers_none c.args.handles.now)

pub returns : goal.returns
returns g c =
    let at = c.loop-thief in let rest = into_iter_items at.thief-iterator in
    let none : length rest ≡ 0 = sym at.thief-iterator.rest.ok.0 ∙ c.in-None.ensures.steps.0 in
    subst (λ l. Gathers c.args.handles.now l at.handles) (drained at.yielded rest c.args.thieves.items none at.invariant.0) at.invariant.1
