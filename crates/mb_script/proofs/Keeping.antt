-- What a call of a script leaves alone.
use Rattle.std.proofs.Common.{◌≡◌, refl, subst}
use Rattle.mb_actor.specs.Behaviour.{Keeps}
use Rattle.mb_actor.specs.OutboxView.{OutboxView}
use Rattle.mb_script.specs.Script.{ScriptData, after_of, gives_of}

-- the script alone says what the actor does after which messages
pub script_keeps : (old new : ScriptData) (t u : OutboxView) → old ≡ new → u.actors ≡ t.actors → u.unspawned ≡ t.unspawned
    → Keeps (after_of old.initial old.rows) (gives_of old) t (after_of new.initial new.rows) (gives_of new) u
script_keeps old new t u same actors unspawned =
    let P : ScriptData → Type 0 = λ s. Keeps (after_of old.initial old.rows) (gives_of old) t (after_of s.initial s.rows) (gives_of s) u in
    subst P same (record { after_kept = refl; gives_kept = λ m r. (λ h. h, λ h. h); actors_kept = actors; unspawned_kept = unspawned })
