-- An outbox holds what it can hold after each effect that it did not refuse.
use Rattle.std.proofs.Common.{◌≡◌, Bool, true, false, not, ◌&&◌, ◌||◌, List, [], ◌∷◌, ◌++◌, length-append, refl, ap, sym, ◌∙◌, subst, arith, rules}
use Rattle.std.specs.List.{list_all}
use Rattle.std.proofs.lemmas.List.Elements.{filter_map-append}
use Rattle.std.proofs.lemmas.List.Folds.{list_all-append, list_any-append}
use Rattle.mb_msg.specs.declared.id.ActorId.{ActorId}
use Rattle.mb_actor.specs.ActorList.{has, is_same}
use Rattle.mb_actor.specs.Held.{CanHold, is_distinct}
use Rattle.mb_actor.specs.OutboxView.{OutboxView, actor_of, is_actor, may_spawn, spawn_of, spawns_of}
use Rattle.mb_actor.specs.declared.effect.Effect.{Effect}
use Rattle.mb_actor.specs.declared.effect.Effect.TheVariants as effect
use Rattle.mb_actor.proofs.OutboxLemmas.{Passes, same_sym}

distinct-push : (list : List ActorId) (x : ActorId) → is_distinct list ≡ true → has list x ≡ false → is_distinct (list ++ x ∷ []) ≡ true
distinct-push [] x once other = refl
distinct-push (a ∷ list) x once other =
    let more : has (list ++ x ∷ []) a ≡ (has list a || (is_same a x || false)) = list_any-append (is_same a) list (x ∷ []) in
    let here : is_same a x ≡ false = same_sym a x ∙ first_false _ _ other in
    let absent : has list a ≡ false = not_true _ (both_first _ _ once) in
    (λ i. not (more i) && is_distinct (list ++ x ∷ []))
    ∙ ((λ i. not (absent i || (here i || false)) && distinct-push list x (both_second _ _ once) (second_false _ _ other) i) ∙ refl)
  where
    first_false : (a b : Bool) → (a || b) ≡ false → a ≡ false
    first_false a b h = grind rules

    second_false : (a b : Bool) → (a || b) ≡ false → b ≡ false
    second_false a b h = grind rules

    not_true : (a : Bool) → not a ≡ true → a ≡ false
    not_true a h = grind rules

    both_first : (a b : Bool) → (a && b) ≡ true → a ≡ true
    both_first a b h = grind rules

    both_second : (a b : Bool) → (a && b) ≡ true → b ≡ true
    both_second a b h = grind rules

-- what one effect more adds to the tests
all_more : (p : ActorId → Bool) (list : List ActorId) (x : ActorId) → list_all p list ≡ true → p x ≡ true → list_all p (list ++ x ∷ []) ≡ true
all_more p list x before here = list_all-append p list (x ∷ []) ∙ (λ i. before i && (here i && true))

spawns-more : (effects : List Effect) (e : Effect) → spawns_of (effects ++ e ∷ []) ≡ spawns_of effects ++ spawns_of (e ∷ [])
spawns-more effects e = filter_map-append spawn_of effects (e ∷ [])

no_spawn : (list : List ActorId) → list ++ [] ≡ list
no_spawn [] = refl
no_spawn (x ∷ list) = ap (λ l. x ∷ l) (no_spawn list)

prepared-more : (tray : OutboxView) (e : Effect) → CanHold tray → may_spawn tray e ≡ true →
    list_all (has tray.unspawned) (spawns_of tray.effects ++ spawns_of (e ∷ [])) ≡ true
prepared-more tray (effect.Tell to kind value) held may = ap (list_all (has tray.unspawned)) (no_spawn (spawns_of tray.effects)) ∙ held.prepared
prepared-more tray (effect.Control to kind value) held may = ap (list_all (has tray.unspawned)) (no_spawn (spawns_of tray.effects)) ∙ held.prepared
prepared-more tray (effect.Watch x) held may = ap (list_all (has tray.unspawned)) (no_spawn (spawns_of tray.effects)) ∙ held.prepared
prepared-more tray (effect.Unwatch x) held may = ap (list_all (has tray.unspawned)) (no_spawn (spawns_of tray.effects)) ∙ held.prepared
prepared-more tray (effect.Stop x) held may = ap (list_all (has tray.unspawned)) (no_spawn (spawns_of tray.effects)) ∙ held.prepared
prepared-more tray (effect.Spawn x) held may = all_more (has tray.unspawned) (spawns_of tray.effects) x held.prepared (first _ _ may)
  where
    first : (a b : Bool) → (a && b) ≡ true → a ≡ true
    first a b h = grind rules

once-more : (tray : OutboxView) (e : Effect) → CanHold tray → may_spawn tray e ≡ true →
    is_distinct (spawns_of tray.effects ++ spawns_of (e ∷ [])) ≡ true
once-more tray (effect.Tell to kind value) held may = ap is_distinct (no_spawn (spawns_of tray.effects)) ∙ held.once
once-more tray (effect.Control to kind value) held may = ap is_distinct (no_spawn (spawns_of tray.effects)) ∙ held.once
once-more tray (effect.Watch x) held may = ap is_distinct (no_spawn (spawns_of tray.effects)) ∙ held.once
once-more tray (effect.Unwatch x) held may = ap is_distinct (no_spawn (spawns_of tray.effects)) ∙ held.once
once-more tray (effect.Stop x) held may = ap is_distinct (no_spawn (spawns_of tray.effects)) ∙ held.once
once-more tray (effect.Spawn x) held may = distinct-push (spawns_of tray.effects) x held.once (second _ _ may)
  where
    second : (a b : Bool) → (a && not b) ≡ true → b ≡ false
    second a b h = grind rules

pub can_hold-more : (tray : OutboxView) (e : Effect) → CanHold tray → Passes tray e → CanHold (record tray { effects = tray.effects ++ e ∷ [] })
can_hold-more tray e held passes = record {
  within_limit = omega (arith, passes.room, length-append tray.effects (e ∷ []));
  present =
      list_all-append (λ x. is_actor tray (actor_of x)) tray.effects (e ∷ [])
      ∙ (λ i. held.present i && (passes.actor i && true));
  prepared = ap (list_all (has tray.unspawned)) (spawns-more tray.effects e) ∙ prepared-more tray e held passes.may;
  once = ap is_distinct (spawns-more tray.effects e) ∙ once-more tray e held passes.may;
}

pub can_hold-none : (tray : OutboxView) → tray.effects ≡ [] → CanHold tray
can_hold-none tray none =
    subst (λ (effects : List Effect). CanHold (record tray { effects = effects })) (sym none)
    (record { within_limit = omega arith; present = refl; prepared = refl; once = refl })
