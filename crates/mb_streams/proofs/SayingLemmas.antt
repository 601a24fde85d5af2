-- What is printed of a failure, and with which status.
use Rattle.std.proofs.Common.{◌≡◌, ℕ, ◌<◌, Bool, List, Option, refl, sym, subst, inl, inr, arith}
use Rattle.mb_scenario.specs.declared.read_error.ReadError.{ReadError}
use Rattle.mb_scenario.specs.declared.read_error.ReadError.TheVariants.{NoMemory, NotToml, BadScenario}
use Rattle.mb_streams.specs.ProgramError.{exit_status}
use Rattle.mb_streams.specs.ErrorLine.{IsRefusal, IsSaidFor}
use Rattle.mb_streams.specs.declared.program_error.ProgramError.{ProgramError}
use Rattle.mb_streams.specs.declared.program_error.ProgramError.TheVariants.{Os, Arguments, Run, Input}
use Rattle.mb_streams.specs.declared.fault.RunFault.TheVariants as run

positive : (failure : ProgramError) → 0 < exit_status failure
positive Os = omega arith
positive Arguments = omega arith
positive (Run fault) = omega arith
positive (Input NoMemory) = omega arith
positive (Input NotToml) = omega arith
positive (Input (BadScenario place reason)) = omega arith

-- a refusal has not the status 0
pub refused_not_zero : (failure : ProgramError) (result : ℕ) (old new : Option (List ℕ)) (failed : Bool) →
    IsRefusal failure result old new failed → result ≡ 0 → ⊥
refused_not_zero failure result old new failed refusal zero = let some = positive refusal.0 in let same = refusal.2 in omega (arith, some, same)

-- where memory was refused for a line, that is said
pub said_no_memory : (failure : ProgramError) (fault : ReadError) → failure ≡ Input fault → IsSaidFor failure (Input NoMemory)
said_no_memory failure fault same = subst (λ (f : ProgramError). IsSaidFor f (Input NoMemory)) (sym same) (inr refl)

-- where a failure's own line was said, it was said for it
pub said-itself : (failure : ProgramError) → IsSaidFor failure failure
said-itself Os = refl
said-itself Arguments = refl
said-itself (Run run.NoMemory) = refl
said-itself (Run run.JournalFull) = refl
said-itself (Run run.Mismatch) = refl
said-itself (Input fault) = inl refl
