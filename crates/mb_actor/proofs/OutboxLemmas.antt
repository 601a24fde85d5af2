-- What an outbox answers, from what it keeps.
use Rattle.std.proofs.Common.{ℕ, ◌+◌, ◌^◌, ◌<◌, ◌≤◌, ◌≡◌, Bool, true, false, not, ◌&&◌, ◌||◌, cond, if◌then◌else◌}
use Rattle.std.proofs.Common.{List, [], ◌∷◌, ◌++◌, length, get_or, take, take_all, filter, ap, sym, ◌∙◌, subst, refl, Some, None, arith, rules}
use Rattle.std.specs.List.{list_all}
use Rattle.std.proofs.lemmas.List.Folds.{list_all-append, list_any-append, list_any_more}
use Rattle.std.proofs.lemmas.Bool.Decides.{nat_tests}
use Rattle.std.proofs.lemmas.Map.Views.{any-filter_same}
use Rattle.std.proofs.lemmas.List.Elements.{filter_agree, filter_map-append}
use Rattle.mb_msg.specs.declared.id.ActorId.{ActorId}
use Rattle.mb_actor.specs.ActorList.{has, is_same}
use Rattle.mb_actor.specs.ActorSet.{contains}
use Rattle.mb_actor.proofs.ActorSetLemmas.{no_bit_above}
use Rattle.mb_actor.specs.Held.{CanHold}
use Rattle.mb_actor.specs.Outbox.{IsOutbox, outbox_view_of}
use Rattle.mb_actor.specs.OutboxView.{OutboxView, refusal, is_actor, actor_of, is_tell, may_spawn, spawn_of, spawns_of}
use Rattle.mb_actor.specs.declared.actor_set.ActorSet.{ActorSet}
use Rattle.mb_actor.specs.declared.effect.Effect.{Effect}
use Rattle.mb_actor.specs.declared.effect.Effect.TheVariants as effect
use Rattle.mb_actor.specs.declared.outbox.Outbox.TheInside.{Inside}
use Rattle.mb_actor.specs.declared.outbox_error.OutboxError.{OutboxError}

-- an effect that is not refused
pub record Passes (tray : OutboxView) (e : Effect) : Type 0 where
  pub room : length tray.effects < 16
  pub actor : is_actor tray (actor_of e) ≡ true
  pub may : may_spawn tray e ≡ true

not_full : (a b c : Bool) (full other : OutboxError) → None ≡ (if a then Some full else (if b && c then None else Some other)) →
    (a ≡ false) × (b ≡ true) × (c ≡ true)
not_full a b c full other h = grind rules

pub passes : (tray : OutboxView) (e : Effect) → None ≡ refusal tray e → Passes tray e
passes tray e h =
    let all = not_full _ _ _ _ _ h in
    record { room = grind (arith, nat_tests, all.0); actor = all.1; may = all.2 }

same_bit : (set : ActorSet) (x k : ActorId) → is_same x k ≡ true → contains set k ≡ contains set x
same_bit set x k same = grind arith

-- of the prepared children those are left whose bits are set
pub has-kept : (set : ActorSet) (prepared : List ActorId) → ((x : ActorId) → contains set x ≡ true → has prepared x ≡ true) →
    (x : ActorId) → has (filter (contains set) prepared) x ≡ contains set x
has-kept set prepared within x =
    any-filter_same (is_same x) (contains set) (contains set x) (same_bit set x) prepared ∙ grind (rules, within x)

pub may-spawn : (o : Inside) → IsOutbox o → (tray : OutboxView) → outbox_view_of o ≡ tray → (x : ActorId) →
    (contains o.unspawned x && not (contains o.asked x)) ≡ may_spawn tray (effect.Spawn x)
may-spawn o kept tray view x =
    ap (λ b. b && not (contains o.asked x)) (sym (has-kept o.unspawned o.prepared.value.items kept.prepared x))
    ∙ ap (λ b. has (filter (contains o.unspawned) o.prepared.value.items) x && not b) (kept.asked x)
    ∙ ap (λ (t : OutboxView). may_spawn t (effect.Spawn x)) view

-- a test after a test
kept_by_both : (b : Bool) (p : ActorId → Bool) (x : ActorId) (ys zs : List ActorId) → filter p ys ≡ zs →
    filter p (cond b (x ∷ ys) ys) ≡ cond (b && p x) (x ∷ zs) zs
kept_by_both true p x ys zs e = ap (λ l. cond (p x) (x ∷ l) l) e
kept_by_both false p x ys zs e = e

filter_filter : (p q : ActorId → Bool) (xs : List ActorId) → filter p (filter q xs) ≡ filter (λ x. q x && p x) xs
filter_filter p q [] = refl
filter_filter p q (x ∷ xs) = kept_by_both (q x) p x (filter q xs) (filter (λ y. q y && p y) xs) (filter_filter p q xs)

-- the children that are left once those are taken out that the effects start
pub unspawned-settled : (left spawned new : ActorSet) (prepared : List ActorId) (effects : List Effect) →
    ((x : ActorId) → contains spawned x ≡ has (spawns_of effects) x) →
    ((x : ActorId) → contains new x ≡ (contains left x && not (contains spawned x))) →
    filter (contains new) prepared ≡ filter (λ x. not (has (spawns_of effects) x)) (filter (contains left) prepared)
unspawned-settled left spawned new prepared effects asked says =
    filter_agree (contains new) (λ x. contains left x && not (has (spawns_of effects) x))
    (λ x. says x ∙ ap (λ b. contains left x && not b) (asked x)) prepared
    ∙ sym (filter_filter (λ x. not (has (spawns_of effects) x)) (contains left) prepared)

-- a list by a test that all of it passes
pub filter_own : (p : ActorId → Bool) (list : List ActorId) → ((x : ActorId) → has list x ≡ true → p x ≡ true) → filter p list ≡ list
filter_own p [] h = refl
filter_own p (x ∷ list) h =
    ap (λ b. cond b (x ∷ filter p list) (filter p list)) (h x (grind arith))
    ∙ ap (λ l. x ∷ l) (filter_own p list (λ y there. h y (grind (rules, there))))

pub same_tray : (a b : OutboxView) → a.effects ≡ b.effects → a.actors ≡ b.actors → a.unspawned ≡ b.unspawned → a ≡ b
same_tray a b e n u = λ i. record { effects = e i; actors = n i; unspawned = u i }

pub both_true : (a b : Bool) → (a && b) ≡ true → a ≡ true
both_true a b h = grind rules

pub small : (set : ActorSet) → set.bits < 2 ^ 64 → (x : ActorId) → contains set x ≡ true → x.0 < 64
small set fits x here = grind (arith, no_bit_above set.bits x.0)

-- a child whose spawn is not refused
pub spawnable : (o : Inside) → IsOutbox o → (tray : OutboxView) → outbox_view_of o ≡ tray → (e : Effect) → None ≡ refusal tray e →
    (x : ActorId) → e ≡ effect.Spawn x → contains o.unspawned x ≡ true
spawnable o kept tray view e goes x is =
    both_true _ _ (may-spawn o kept tray view x ∙ ap (may_spawn tray) (sym is) ∙ (passes tray e goes).may)

or_comm : (a b : Bool) → (a || b) ≡ (b || a)
or_comm a b = grind rules

pub same_sym : (a b : ActorId) → is_same a b ≡ is_same b a
same_sym a b = grind arith

has-push : (effects : List Effect) (e : Effect) (x : ActorId) →
    has (spawns_of (effects ++ e ∷ [])) x ≡ (has (spawns_of (e ∷ [])) x || has (spawns_of effects) x)
has-push effects e x =
    ap (λ l. has l x) (filter_map-append spawn_of effects (e ∷ [])) ∙ list_any-append (is_same x) (spawns_of effects) (spawns_of (e ∷ []))
    ∙ or_comm (has (spawns_of effects) x) (has (spawns_of (e ∷ [])) x)

and-true : (a b : Bool) → (a && b) ≡ (a && (b && true))
and-true a b = grind rules

-- one effect more, and the set of those that are to be spawned with it
pub with_effect : (o : Inside) → IsOutbox o → (tray : OutboxView) → outbox_view_of o ≡ tray → (e : Effect) → None ≡ refusal tray e →
    CanHold (record tray { effects = tray.effects ++ e ∷ [] }) → (new : Inside) → new.effects.items ≡ o.effects.items ++ e ∷ [] →
    new.actors ≡ o.actors → new.unspawned ≡ o.unspawned → new.prepared ≡ o.prepared →
    ((x : ActorId) → contains new.asked x ≡ (has (spawns_of (e ∷ [])) x || contains o.asked x)) →
    new.only_tells ≡ (o.only_tells && is_tell e) → IsOutbox new
with_effect o kept tray view e goes more new items same_actors same_set same_list says tells = record {
  prepared = λ x here. ap (λ p. has p.value.items x) same_list ∙ kept.prepared x (ap (λ s. contains s x) (sym same_set) ∙ here);
  asked = λ x. says x ∙ ap (λ b. has (spawns_of (e ∷ [])) x || b) (kept.asked x) ∙ sym (has-push o.effects.items e x)
      ∙ ap (λ l. has (spawns_of l) x) (sym items);
  telling = tells ∙ ap (λ b. b && is_tell e) kept.telling ∙ and-true (list_all is_tell o.effects.items) (is_tell e)
      ∙ sym (list_all-append is_tell o.effects.items (e ∷ [])) ∙ ap (list_all is_tell) (sym items);
  held =
      subst (λ (t : OutboxView). CanHold t)
      (sym (same_tray (outbox_view_of new) (record tray { effects = tray.effects ++ e ∷ [] })
      (items ∙ ap (λ (t : OutboxView). t.effects ++ e ∷ []) view)
      (same_actors ∙ ap (λ (t : OutboxView). t.actors) view)
      ((λ i. filter (contains (same_set i)) (same_list i).value.items) ∙ ap (λ (t : OutboxView). t.unspawned) view)))
      more;
}

pub asks_spawn : (e : Effect) (child x : ActorId) → e ≡ effect.Spawn child → is_same child x ≡ has (spawns_of (e ∷ [])) x
asks_spawn e child x is = same_sym child x ∙ grind rules ∙ ap (λ e. has (spawns_of (e ∷ [])) x) (sym is)

pub asks_none : (e : Effect) → ((child : ActorId) → e ≡ effect.Spawn child → ⊥) → (x : ActorId) → false ≡ has (spawns_of (e ∷ [])) x
asks_none (effect.Tell to kind value) never x = refl
asks_none (effect.Control to kind value) never x = refl
asks_none (effect.Watch a) never x = refl
asks_none (effect.Unwatch a) never x = refl
asks_none (effect.Stop a) never x = refl
asks_none (effect.Spawn a) never x = absurd (never a refl)

-- the set of the prepared children
pub all_prepared : (set : ActorSet) (items prepared : List ActorId) (i : ℕ) → ((x : ActorId) → contains set x ≡ has (take i items) x) →
    length items ≤ i → items ≡ prepared → (x : ActorId) → contains set x ≡ has prepared x
all_prepared set items prepared i says all same x = says x ∙ ap (λ l. has l x) (take_all i items all ∙ same)

pub one_more : (set new : ActorSet) (items : List ActorId) (i : ℕ) (d : ActorId) → i < length items →
    ((x : ActorId) → contains set x ≡ has (take i items) x) → ((x : ActorId) → contains new x ≡ (is_same (get_or items i d) x || contains set x)) →
    (x : ActorId) → contains new x ≡ has (take (i + 1) items) x
one_more set new items i d within says inserted x =
    let id : ActorId = get_or items i d in
    inserted x ∙ ap (λ b. b || contains set x) (same_sym id x) ∙ ap (λ b. is_same x id || b) (says x)
    ∙ or_comm (is_same x id) (has (take i items) x) ∙ sym (list_any_more (is_same x) items i d within)
