-- What an actor asked for, as JSON (this project's own profile).
use Rattle.std.specs.Prelude.{ℕ, ℤ, List, map, codes}
use Rattle.serde_json.specs.Data.{Data, number, string, array, object, unsigned, member, no_members}
use Rattle.serde_json.specs.Find.{of_integer}
use Rattle.serde_json.specs.View.{items_of}
use Rattle.mb_actor.specs.declared.effect.Effect.{Effect}
use Rattle.mb_actor.specs.declared.effect.Effect.TheVariants as effect
use Rattle.mb_trace_json.specs.Names.{name_data}

-- An envelope that is to be sent.
abbrev pub tell_data : List ℕ → List (List ℕ) → ℕ → ℕ → ℤ → Data
tell_data what names to kind value = object (member (codes "do") (string what) (member (codes "kind") (number (unsigned kind))
    (member (codes "to") (name_data names to) (member (codes "value") (number (of_integer value)) no_members))))

-- Something about another actor.
abbrev pub ask_data : List ℕ → List (List ℕ) → ℕ → Data
ask_data what names to = object (member (codes "do") (string what) (member (codes "to") (name_data names to) no_members))

-- An effect.
abbrev pub effect_data : List (List ℕ) → Effect → Data
effect_data names (effect.Tell to kind value) = tell_data (codes "tell") names to.0 kind value
effect_data names (effect.Control to kind value) = tell_data (codes "control") names to.0 kind value
effect_data names (effect.Watch id) = ask_data (codes "watch") names id.0
effect_data names (effect.Unwatch id) = ask_data (codes "unwatch") names id.0
effect_data names (effect.Stop id) = ask_data (codes "stop") names id.0
effect_data names (effect.Spawn id) = ask_data (codes "spawn") names id.0

-- Effects, in order.
abbrev pub effects_data : List (List ℕ) → List Effect → Data
effects_data names effects = array (items_of (map (effect_data names) effects))
