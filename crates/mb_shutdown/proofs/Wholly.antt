-- A system of which nothing is missing is refused for what its actors are.
use Rattle.mb_gate.specs.Accessors.{actors_of}
use Rattle.mb_system.specs.declared.built.Built.{Built}
use Rattle.mb_shutdown.specs.Refused.{IsComplete, IsOfWhole, IsRefusal}
use Rattle.mb_shutdown.specs.declared.ending.FinishError.{FinishError}
use Rattle.mb_shutdown.specs.declared.ending.FinishError.TheVariants.{MissingHandle, MissingSender, NotQuiet, NoMemory, Mismatch}

module _ {A K : Type 0} where
  pub of-whole : (built : Built A K) (error : FinishError A K) → IsComplete built → IsRefusal built error
      → IsOfWhole (actors_of built.system.gates) error
  of-whole built (MissingHandle number back) all refused = refused.0.missing (all.0 number refused.0.within)
  of-whole built (MissingSender number back) all refused = refused.1.missing (all.1 number refused.1.within)
  of-whole built (NotQuiet id back) all refused = refused.1
  of-whole built (NoMemory back) all refused = tt
  of-whole built (Mismatch what) all refused = refused.2
