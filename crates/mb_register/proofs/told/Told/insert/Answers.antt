use Rattle.std.proofs.Common.{◌≡◌, ◌<◌, ◌≤◌, ◌++◌, [], ◌∷◌, ℕ, false, List, length, if◌then◌else◌, arith, sym, ap, ◌∙◌, subst, take}
use Rattle.std.proofs.lemmas.List.{length-set, length-take-le, take_more_set}
use Rattle.mb_msg.specs.declared.id.ActorId.{ActorId}
use Rattle.mb_register.specs.declared.actor_set.ActorSet.{ActorSet}
use Rattle.mb_register.specs.ActorSet.{has_actor}
use Rattle.mb_register.specs.Told.{IsSetOf, ToldView, with_told}
use Rattle.mb_register.proofs.ToldLemmas.{has-place, set-last}
use Rattle.mb_register.proofs.told.Told.insert.Goals as goal

counts : (set : ActorSet) (places : List ActorId) (count : ℕ) (id : ActorId) → id.0 < 64 →
    (count ≤ 64) × (length places ≡ 64) × IsSetOf set (take count places) → has_actor set id.0 ≡ false → count < 64
counts set places count id few is out =
    let place = has-place set (take count places) id few is.2 out in
    let below = is.0 in let many = is.1 in
    let all = length-take-le count places (omega (arith, below, many)) in
    omega (arith, place, all)

pub bounds-self-inside-count : goal.bounds-self-inside-count
bounds-self-inside-count c =
    counts c.self.inside.set c.self.inside.places c.self.inside.count c.args.id c.requires c.self.invariant
    (sym c.contains.ensures ∙ c.if-contains.false)

pub invariant_of-self : goal.invariant_of-self
invariant_of-self c =
    let here = counts c.self.inside.set c.self.inside.places c.self.inside.count c.args.id c.requires c.self.invariant
    (sym c.contains.ensures ∙ c.if-contains.false) in
    let many = c.self.invariant.1 in (
      omega (arith, here),
      length-set c.self.inside.places c.self.inside.count c.args.id ∙ many,
      subst (IsSetOf c.insert.new.self) (sym (take_more_set c.self.inside.places c.self.inside.count c.args.id (omega (arith, here, many))))
          (set-last c.self.inside.set c.insert.new.self _ c.args.id c.requires c.self.invariant.2 (sym c.contains.ensures ∙ c.if-contains.false) c.insert.ensures),
    )

pub returns-clause-order : goal.returns-clause-order
returns-clause-order c =
    let here = counts c.self.inside.set c.self.inside.places c.self.inside.count c.args.id c.requires c.self.invariant
    (sym c.contains.ensures ∙ c.if-contains.false) in
    let many = c.self.invariant.1 in
    let old = take c.self.inside.count c.self.inside.places in
    take_more_set c.self.inside.places c.self.inside.count c.args.id (omega (arith, here, many))
    ∙ ap (λ b. if b then old else old ++ c.args.id ∷ []) (sym (sym c.contains.ensures ∙ c.if-contains.false))
    ∙ ap (λ (t : ToldView). with_told c.args.id t) c.self.view_is
