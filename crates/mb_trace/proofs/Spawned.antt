-- The children that effects spawn, with one effect more.
use Rattle.std.proofs.Common.{◌≡◌, ℕ, ◌+◌, ◌<◌, List, [], ◌∷◌, ◌++◌, length, get_or, take, ap, sym, ◌∙◌, append_assoc}
use Rattle.std.proofs.lemmas.List.{take_more}
use Rattle.std.proofs.lemmas.List.Elements.{filter_map-append}
use Rattle.mb_msg.specs.declared.id.ActorId.{ActorId}
use Rattle.mb_actor.specs.OutboxView.{spawn_of, spawns_of}
use Rattle.mb_actor.specs.declared.effect.Effect.{Effect}

pub spawned-more : (old now new : List ActorId) (effects : List Effect) (i : ℕ) (d : Effect) → i < length effects →
    now ≡ old ++ spawns_of (take i effects) → new ≡ now ++ spawns_of (get_or effects i d ∷ []) →
    new ≡ old ++ spawns_of (take (i + 1) effects)
spawned-more old now new effects i d within so_far more =
    let one : List ActorId = spawns_of (get_or effects i d ∷ []) in
    more
    ∙ (ap (λ (l : List ActorId). l ++ one) so_far
    ∙ (append_assoc old (spawns_of (take i effects)) one
    ∙ ap (λ (l : List ActorId). old ++ l)
    (sym (ap spawns_of (take_more effects i d within) ∙ filter_map-append spawn_of (take i effects) (get_or effects i d ∷ [])))))
