-- The actors of a scenario that was read have not begun.
use Rattle.std.proofs.Common.{◌≡◌, ℕ, List, [], refl, sym, subst}
use Rattle.std.specs.Prelude.{All}
use Rattle.std.proofs.lemmas.List.Elements.{All-cons, All-nil}
use Rattle.mb_schema.specs.Context.{ActorEntryData}
use Rattle.mb_scenario.specs.Fields.{map_items}
use Rattle.mb_scenario.specs.Plans.{ScenarioData}
use Rattle.mb_scenario.specs.Reading.{IsReadAs}
use Rattle.mb_scenario.specs.Scripts.{scripted_of}
use Rattle.mb_script.specs.Script.{Scripted, after_of}
use Rattle.toml.specs.Data.{Items, no_items, item}

-- no message has come to it
abbrev pub IsUnused : Scripted → Type 0
IsUnused s = s.state ≡ after_of s.script.initial s.script.rows []

unused-items : (actor_entries : List ActorEntryData) (items : Items) → All IsUnused (map_items (scripted_of actor_entries) items)
unused-items actor_entries no_items = All-nil IsUnused
unused-items actor_entries (item d items) =
    All-cons IsUnused (scripted_of actor_entries d) (map_items (scripted_of actor_entries) items) refl (unused-items actor_entries items)

pub all-unused : (text : List ℕ) (scenario : ScenarioData) → IsReadAs text scenario → All IsUnused scenario.scripts
all-unused text scenario read = subst (λ (s : ScenarioData). All IsUnused s.scripts) (sym read.2.1) (unused-items _ _)
