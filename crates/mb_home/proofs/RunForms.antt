-- A run of the mailbox goes on by the steps of its home.
use Rattle.std.proofs.Common.{◌≡◌, ℕ, suc, List, ◌∷◌, Option, Some, None, sym, subst}
use Rattle.std.specs.Prelude.{IfSome}
use Rattle.mb_msg.specs.declared.system.SysMsg.{SysMsg}
use Rattle.mb_journal.specs.Aside.{next_front}
use Rattle.mb_journal.specs.Entry.{Entry, Outcome}
use Rattle.mb_journal.specs.Entry.Entry.{System}
use Rattle.mb_journal.specs.Identity.{Identity}
use Rattle.mb_journal.specs.Run.{AreBlocks}
use Rattle.mb_journal.specs.Run.IsBlock.{one_more}
use Rattle.mb_journal.specs.Run.AreBlocks.{first_block, next_block}
use Rattle.mb_cell.specs.CellView.{CellView}
use Rattle.mb_cell.proofs.RunLaws.{envelope-more}
use Rattle.mb_home.specs.Contents.{Contents}
use Rattle.mb_home.specs.Steps.{AppliesNext, Begins, IsDue}

-- what is due is what is put in front, where something is
due-front : (front : Option (ℕ × SysMsg)) (rest left : List (ℕ × SysMsg)) (number : ℕ) (m : SysMsg) → IsDue front rest number m left →
    IfSome front (λ x. x ≡ (number, m))
due-front None rest left number m due = tt
due-front (Some x) rest left number m due = due.0

-- a system message more, in the block at the end
blocks-more : (who : Identity) (from to : List Entry) (n number : ℕ) (m : SysMsg) (outcome : Outcome) → AreBlocks who from n to →
    IfSome (next_front who to) (λ x. x ≡ (number, m)) → AreBlocks who from n (System number m outcome ∷ to)
blocks-more who from to n number m outcome (first_block there block) due = first_block (System number m outcome ∷ there)
    (one_more there number m outcome block due)
blocks-more who from to n number m outcome (next_block before middle there e blocks none of_envelope block) due =
    next_block before middle (System number m outcome ∷ there) e blocks none of_envelope (one_more there number m outcome block due)

-- a run with a system message more
pub applied-blocks : (from : List Entry) (n : ℕ) (old new : Contents) → AppliesNext old new → AreBlocks old.cell.who from n old.cell.journal →
    AreBlocks old.cell.who from n new.cell.journal
applied-blocks from n old new a blocks =
    subst (λ (s : CellView). AreBlocks old.cell.who from n s.journal) (sym a.taken.adds)
    (blocks-more old.cell.who from old.cell.journal n a.number a.message a.taken.outcome blocks
    (due-front (next_front old.cell.who old.cell.journal) old.rest new.rest a.number a.message a.due))

-- and with an envelope more, where nothing is put in front
pub begun-blocks : (from : List Entry) (n : ℕ) (old new : Contents) (reading : ℕ) → Begins old new reading →
    next_front old.cell.who old.cell.journal ≡ None → AreBlocks old.cell.who from n old.cell.journal →
    AreBlocks old.cell.who from (suc n) new.cell.journal
begun-blocks from n old new reading b none blocks = envelope-more from n old.cell new.cell b.envelope reading b.taken none blocks
