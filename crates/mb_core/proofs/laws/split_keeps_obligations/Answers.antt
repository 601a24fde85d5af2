use Rattle.mb_core.specs.Held.{IsHeldRightly, HasPossibleMailbox}
use Rattle.mb_core.specs.Settled.{IsSettled}
use Rattle.mb_core.proofs.PartiesLemmas.{copied_owed, moved_owed, split_keeps}
use Rattle.mb_core.proofs.laws.split_keeps_obligations.Goals as goal

pub returns-clause-copied : goal.returns-clause-copied
returns-clause-copied c = copied_owed

pub returns-clause-moved : goal.returns-clause-moved
returns-clause-moved c = moved_owed

pub returns-clause-held : goal.returns-clause-held
returns-clause-held c = split_keeps IsHeldRightly (λ x party. (copied_owed x party).held) (λ x party. (moved_owed x party).held)

pub returns-clause-possible : goal.returns-clause-possible
returns-clause-possible c = split_keeps HasPossibleMailbox (λ x party. (copied_owed x party).possible) (λ x party. (moved_owed x party).possible)

pub returns-clause-settled : goal.returns-clause-settled
returns-clause-settled c = split_keeps IsSettled (λ x party. (copied_owed x party).settled) (λ x party. (moved_owed x party).settled)
