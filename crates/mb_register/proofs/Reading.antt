-- A pass that did nothing only read.
use Rattle.std.proofs.Common.{ℕ, refl}
use Rattle.mb_gate.specs.declared.pass.Pass.{Pass}
use Rattle.mb_gate.specs.Accessors.{pass_view}
use Rattle.mb_register.specs.Registers.{OnlyReads}
use Rattle.mb_register.proofs.Views.{looks-none}
use Rattle.mb_register.proofs.ClaimCounts.{claims-none}

-- nothing was read
pub reads-none : {H : Type 0} (id : ℕ) (pass : Pass H) → OnlyReads id pass pass
reads-none id pass = record { same_gates = refl; looks = looks-none id (pass_view pass); claims = claims-none (pass_view pass) }
