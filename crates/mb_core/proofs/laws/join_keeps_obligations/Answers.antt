use Rattle.mb_core.specs.Held.{IsHeldRightly, HasPossibleMailbox}
use Rattle.mb_core.specs.Settled.{IsSettled}
use Rattle.mb_core.proofs.PartiesLemmas.{absorbed_owed, join_keeps}
use Rattle.mb_core.proofs.laws.join_keeps_obligations.Goals as goal

pub returns-clause-absorbed : goal.returns-clause-absorbed
returns-clause-absorbed c = absorbed_owed

pub returns-clause-held : goal.returns-clause-held
returns-clause-held c = join_keeps IsHeldRightly (λ x into from two there. (absorbed_owed x into from two there).held)

pub returns-clause-possible : goal.returns-clause-possible
returns-clause-possible c = join_keeps HasPossibleMailbox (λ x into from two there. (absorbed_owed x into from two there).possible)

pub returns-clause-settled : goal.returns-clause-settled
returns-clause-settled c = join_keeps IsSettled (λ x into from two there. (absorbed_owed x into from two there).settled)
