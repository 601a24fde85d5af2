-- Why a push was refused, as its sender is told.
use Rattle.std.proofs.Common.{◌≡◌, subst, sym}
use Rattle.std.specs.Prelude.{Some}
use Rattle.mb_msg.specs.declared.dead_letter.DeadLetterReason.{DeadLetterReason}
use Rattle.mb_queue.specs.declared.refused.Refusal.{Refusal}
use Rattle.mb_queue.specs.declared.refused.Refusal.TheVariants.{Full, NoMemory}
use Rattle.mb_queue.specs.Passes.{SendPassView}
use Rattle.mb_queue.specs.Pushes.{IsReasonToRefuse}
use Rattle.mb_send.specs.Answers.{IsWhy, reason}

why-so : (pass : SendPassView) (refused : Refusal) → IsReasonToRefuse pass refused → IsWhy pass (Some (reason refused))
why-so pass Full is = is
why-so pass NoMemory is = is

pub why-told : (pass : SendPassView) (refused : Refusal) (why : DeadLetterReason) → IsReasonToRefuse pass refused → why ≡ reason refused → IsWhy pass (Some why)
why-told pass refused why is same = subst (λ (w : DeadLetterReason). IsWhy pass (Some w)) (sym same) (why-so pass refused is)
