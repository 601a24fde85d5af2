-- The worked scenario: what it says of a whole small document is computed from the definitions.
use Rattle.std.proofs.Common.{◌≡◌, ℕ, pos, negsuc, List, [], ◌∷◌, ◌++◌, codes, Option, Some, None, option_map, false, true, refl}
use Rattle.std.proofs.Common.{◌<◌, ◌⊎◌, inl, inr, length, replicate, subst, sym, ap, arith}
use Rattle.std.proofs.lemmas.List.{length-replicate}
use Rattle.std.specs.Fmt.{digits}
use Rattle.toml.proofs.OnLiterals.{toml_on_literals}
use Rattle.toml.specs.Parse.{parse_document}
use Rattle.mb_schema.specs.Location.{FindingData as Found, reason_text}
use Rattle.mb_msg.specs.declared.strategy.Pattern.TheVariants.{AnyError}
use Rattle.mb_msg.specs.declared.payload.Payload.TheVariants.{User}
use Rattle.mb_msg.specs.declared.supervision.Directive.TheVariants.{Resume}
use Rattle.mb_msg.specs.declared.order.OrderKind.TheVariants.{Tell, Stop}
use Rattle.mb_msg.specs.declared.pool_kind.PoolKind.TheVariants.{Shared, Stealing}
use Rattle.mb_script.specs.declared.operation.Operation.TheVariants.{Add, Spawn}
use Rattle.mb_scenario.specs.Plans.{ScenarioData, StrategyData, scenario_of, unbounded, bounded}
use Rattle.mb_scenario.specs.ReadError.{read_error_text}
use Rattle.mb_scenario.specs.Limits.{most_bytes}
use Rattle.mb_scenario.specs.Reading.{IsReadAs, Refuses, too_long, in_document}
use Rattle.mb_scenario.specs.declared.read_error.ReadError.{ReadError}
use Rattle.mb_scenario.specs.declared.read_error.ReadError.TheVariants.{NoMemory, NotToml, BadScenario}

-- the scenario that a text is, where it is a document
abbrev says : List ℕ → Option ScenarioData
says text = option_map scenario_of (parse_document text)

-- where an actor has no rows, a child that fails with an error is restarted without a limit
abbrev no_strategy : StrategyData
no_strategy = record { rows = []; retries = negsuc 0; all_for_one = false }

counter : says (codes "workers = 0\n[[actor]]\nname = \"a\"\n[[actor.on]]\nkind = 1\ndo = [\"add\"]\n[[send]]\nto = \"a\"\nkind = 1\nvalue = 7\n")
    ≡ Some (record {
      plan = record {
        throughput = 5;
        workers = 1;
        pool = Shared;
        senders = 1;
        journal_limit = 4294967295;
        actors = record { parent = record { 0 = 0 }; mailbox = unbounded; strategy = no_strategy } ∷ [];
      };
      names = codes "a" ∷ [];
      scripts = record {
        script = record {
          initial = pos 0;
          start = [];
          restart = [];
          stop = [];
          terminated = None;
          rows = record { kind = 1; operations = Add ∷ [] } ∷ [];
        };
        state = pos 0;
      } ∷ [];
      sends = record { from = 0; order = record { to = record { 0 = 1 }; what = Tell (User 1 (pos 7)); times = 1 } } ∷ [];
      quiet = true;
    })
unfolding toml_on_literals digits
counter = refl

-- a parent and its child, with other values than those that stand for absent keys
family : says (codes "throughput = 2\npool = \"stealing\"\n[[actor]]\nname = \"p\"\nstart = [\"spawn c\"]\nretries = 3\n"
    ++ codes "[[actor.strategy]]\ncause = \"error\"\nthen = \"resume\"\n"
    ++ codes "[[actor]]\nname = \"c\"\nparent = \"p\"\nmailbox = \"bounded\"\ncapacity = 8\ninitial = -1\n"
    ++ codes "[[send]]\nfrom = 2\nto = \"guardian\"\nwhat = \"stop\"\ntimes = 9\n")
    ≡ Some (record {
      plan = record {
        throughput = 2;
        workers = 1;
        pool = Stealing;
        senders = 3;
        journal_limit = 4294967295;
        actors = record {
          parent = record { 0 = 0 };
          mailbox = unbounded;
          strategy = record { rows = (AnyError, Resume) ∷ []; retries = pos 3; all_for_one = false };
        } ∷ record { parent = record { 0 = 1 }; mailbox = bounded 8; strategy = no_strategy } ∷ [];
      };
      names = codes "p" ∷ codes "c" ∷ [];
      scripts = record {
        script = record { initial = pos 0; start = Spawn (record { 0 = 2 }) ∷ []; restart = []; stop = []; terminated = None; rows = [] };
        state = pos 0;
      } ∷ record {
        script = record { initial = negsuc 0; start = []; restart = []; stop = []; terminated = None; rows = [] };
        state = negsuc 0;
      } ∷ [];
      sends = record { from = 2; order = record { to = record { 0 = 0 }; what = Stop; times = 9 } } ∷ [];
      quiet = false;
    })
unfolding toml_on_literals digits
family = refl

-- of a text that is too long that alone is told, or that memory was refused
told_of_long_texts : (text : List ℕ) → most_bytes < length text → (fault : ReadError) → Refuses text fault
    → (read_error_text fault ≡ codes "1 NoMemory") ⊎ (read_error_text fault ≡ codes "12 BadScenario input: too many")
told_of_long_texts text long NoMemory h = inl refl
told_of_long_texts text long NotToml h = absurd (grind (arith, long, h.0))
told_of_long_texts text long (BadScenario place reason) (too_long more is) =
    inr (ap (λ (f : Found). codes "12 BadScenario " ++ f.place ++ codes ": " ++ reason_text f.reason) is)
told_of_long_texts text long (BadScenario place reason) (in_document document is found) = absurd (grind (arith, long, is.short))

-- it is no scenario
long_texts_are_none : (text : List ℕ) → most_bytes < length text → (scenario : ScenarioData) → IsReadAs text scenario → ⊥
long_texts_are_none text long scenario h = grind (arith, long, h.1.short)

-- so many spaces
abbrev spaces : ℕ → List ℕ
spaces n = replicate n 32

-- they are longer than the limit where their number is above it
spaces_are_long : (n : ℕ) → most_bytes < n → most_bytes < length (spaces n)
spaces_are_long n above = subst (λ k. most_bytes < k) (sym (length-replicate n 32)) above

told_of_so_many : (n : ℕ) → most_bytes < n → (fault : ReadError) → Refuses (spaces n) fault
    → (read_error_text fault ≡ codes "1 NoMemory") ⊎ (read_error_text fault ≡ codes "12 BadScenario input: too many")
told_of_so_many n above = told_of_long_texts (spaces n) (spaces_are_long n above)

so_many_are_none : (n : ℕ) → most_bytes < n → (scenario : ScenarioData) → IsReadAs (spaces n) scenario → ⊥
so_many_are_none n above = long_texts_are_none (spaces n) (spaces_are_long n above)

-- 1,048,577 spaces
told_of_spaces : (fault : ReadError) → Refuses (spaces 1048577) fault
    → (read_error_text fault ≡ codes "1 NoMemory") ⊎ (read_error_text fault ≡ codes "12 BadScenario input: too many")
told_of_spaces = told_of_so_many 1048577 (omega arith)

spaces_are_none : (scenario : ScenarioData) → IsReadAs (spaces 1048577) scenario → ⊥
spaces_are_none = so_many_are_none 1048577 (omega arith)
