-- The system of a text that was read.
use Rattle.std.proofs.Common.{◌≡◌, ℕ, ℤ, suc, ◌+◌, ◌-◌, List, [], ◌∷◌, refl, sym, ap, subst, ◌∙◌, arith}
use Rattle.std.specs.Prelude.{All, Some, Option, option_map, slice_get}
use Rattle.std.specs.Option.{option_map_or}
use Rattle.std.proofs.lemmas.List.Elements.{All-cons, All-head, All-nil, All-tail}
use Rattle.mb_actor.specs.Behaviour.{AllowsSame, Moment, Reply}
use Rattle.mb_actor.specs.declared.message.Message.{Message}
use Rattle.mb_schema.specs.Context.{ActorEntryData}
use Rattle.mb_scenario.specs.Fields.{map_items}
use Rattle.mb_scenario.specs.Plans.{ScenarioData, scenario_of}
use Rattle.mb_scenario.specs.Reading.{IsReadAs}
use Rattle.mb_scenario.specs.Scripts.{scripted_of}
use Rattle.mb_script.specs.Script.{Scripted, after_of, gives_of}
use Rattle.mb_world.specs.Behaves.{BehaveFrom}
use Rattle.toml.specs.Data.{Items, no_items, item}
use Rattle.mailexplore.specs.Described.{after_in, after_script, gives_in, gives_script, lists_of, orders_in, scenario_in, scripts_in}

-- the scenario that was read is that of the text
read-in : (text : List ℕ) (scenario : ScenarioData) → IsReadAs text scenario → scenario_in text ≡ Some scenario
read-in text scenario read = ap (option_map scenario_of) read.1.parsed ∙ ap Some (sym read.2.1)

pub scripts-read : (text : List ℕ) (scenario : ScenarioData) → IsReadAs text scenario → scripts_in text ≡ scenario.scripts
scripts-read text scenario read =
    ap (λ (o : Option ScenarioData). option_map_or (λ (s : ScenarioData). s.scripts) o []) (read-in text scenario read)

pub orders-read : (text : List ℕ) (scenario : ScenarioData) → IsReadAs text scenario → orders_in text ≡ lists_of scenario.plan.senders scenario.sends
orders-read text scenario read =
    ap (λ (o : Option ScenarioData). option_map_or (λ (s : ScenarioData). lists_of s.plan.senders s.sends) o []) (read-in text scenario read)

-- no message has come to it
abbrev IsUnused : Scripted → Type 0
IsUnused s = s.state ≡ after_of s.script.initial s.script.rows []

unused-items : (actor_entries : List ActorEntryData) (items : Items) → All IsUnused (map_items (scripted_of actor_entries) items)
unused-items actor_entries no_items = All-nil IsUnused
unused-items actor_entries (item d items) =
    All-cons IsUnused (scripted_of actor_entries d) (map_items (scripted_of actor_entries) items) refl (unused-items actor_entries items)

pub all-unused : (text : List ℕ) (scenario : ScenarioData) → IsReadAs text scenario → All IsUnused scenario.scripts
all-unused text scenario read = subst (λ (s : ScenarioData). All IsUnused s.scripts) (sym read.2.1) (unused-items _ _)

-- what is said of the actor of each number, where these are all scripts
abbrev after_by : List Scripted → ℕ → List Message → ℤ
after_by scripts number = after_script (slice_get scripts (number - 1))

abbrev gives_by : List Scripted → ℕ → Moment → Reply → Type 0
gives_by scripts number = gives_script (slice_get scripts (number - 1))

abbrev content_of : Scripted → ℤ
content_of s = s.state

abbrev after_its : Scripted → List Message → ℤ
after_its s = after_of s.script.initial s.script.rows

abbrev gives_its : Scripted → Moment → Reply → Type 0
gives_its s = gives_of s.script

-- the scripts from this place on do what is said of their numbers
behave-from : (all rest : List Scripted) (place : ℕ) → ((i : ℕ) → slice_get all (place + i) ≡ slice_get rest i) → All IsUnused rest →
    BehaveFrom content_of after_its gives_its (after_by all) (gives_by all) (place + 1) rest
behave-from all [] place same unused = tt
behave-from all (s ∷ rest) place same unused =
    let index : place + 1 - 1 ≡ place + 0 = omega arith in
    let here : slice_get all (place + 1 - 1) ≡ Some s = ap (slice_get all) index ∙ same 0 in (
      record {
        unused = All-head IsUnused s rest unused;
        behaves = ap after_script (sym here);
        allows = subst (λ (o : Option Scripted). AllowsSame (gives_its s) (gives_script o)) (sym here) (λ m r. ((λ x. x), (λ x. x)));
      },
      behave-from all rest (place + 1) (λ i. let next : place + 1 + i ≡ place + suc i = omega arith in ap (slice_get all) next ∙ same (suc i))
          (All-tail IsUnused s rest unused),
    )

pub behave : (text : List ℕ) (scenario : ScenarioData) → IsReadAs text scenario →
    BehaveFrom content_of after_its gives_its (after_in text) (gives_in text) 1 scenario.scripts
behave text scenario read =
    subst (λ (l : List Scripted). BehaveFrom content_of after_its gives_its (after_by l) (gives_by l) 1 scenario.scripts)
    (sym (scripts-read text scenario read))
    (behave-from scenario.scripts scenario.scripts 0
    (λ i. let index : 0 + i ≡ i = omega arith in ap (slice_get scenario.scripts) index) (all-unused text scenario read))
