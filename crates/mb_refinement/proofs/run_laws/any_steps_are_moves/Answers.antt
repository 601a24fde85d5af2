use Rattle.mb_refinement.proofs.TableMoves.{table_steps_are_moves}
use Rattle.mb_refinement.proofs.run_laws.any_steps_are_moves.Goals as goal

pub returns : goal.returns
returns g c = λ first. table_steps_are_moves g.H.MailboxState.is_of first g.H.MailboxState.facts
