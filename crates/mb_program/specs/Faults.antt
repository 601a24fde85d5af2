-- How the program tells why a run gave no report (this project's own profile).
use Rattle.std.specs.Prelude.{◌≡◌}
use Rattle.heddleorange.specs.declared.error.Error.{Error}
use Rattle.heddleorange.specs.declared.error.Error.TheVariants.{BadPlan, OrderLists, NoSuchSender, NoSuchActor, NoMemory, NoMemoryInRun, JournalFull, Mismatch, NameTaken}
use Rattle.mb_streams.specs.declared.fault.RunFault.{RunFault}
use Rattle.mb_streams.specs.declared.fault.RunFault.TheVariants as told

-- The fault that tells of this error. None tells of a plan, orders or a name that are not right: a scenario that was read has no such.
abbrev pub IsFaultOf : Error → RunFault → Type 0
IsFaultOf (BadPlan reason) fault = ⊥
IsFaultOf (OrderLists lists senders) fault = ⊥
IsFaultOf (NoSuchSender place sender) fault = ⊥
IsFaultOf (NoSuchActor sender place to) fault = ⊥
IsFaultOf NoMemory fault = fault ≡ told.NoMemory
IsFaultOf NoMemoryInRun fault = fault ≡ told.NoMemory
IsFaultOf (JournalFull id) fault = fault ≡ told.JournalFull
IsFaultOf (Mismatch what) fault = fault ≡ told.Mismatch
IsFaultOf (NameTaken id) fault = ⊥
