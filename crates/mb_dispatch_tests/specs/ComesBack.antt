-- What comes back of a system that may not end.
use Rattle.mb_system.specs.Belonging.{BelongsTogether}
use Rattle.mb_shutdown.specs.declared.ending.FinishError.{FinishError}
use Rattle.mb_shutdown.specs.declared.ending.FinishError.TheVariants.{MissingHandle, MissingSender, NotQuiet, NoMemory, Mismatch}

module _ {A K : Type 0} where
  -- Where anything comes back, all of it still belongs together.
  abbrev pub ComesBack : FinishError A K → Type 0
  ComesBack (MissingHandle number back) = BelongsTogether back
  ComesBack (MissingSender number back) = BelongsTogether back
  ComesBack (NotQuiet id back) = BelongsTogether back
  ComesBack (NoMemory back) = BelongsTogether back
  ComesBack (Mismatch what) = Unit {0}
