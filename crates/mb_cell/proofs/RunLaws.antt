-- A run of a mailbox goes on by what a cell takes.
use Rattle.std.proofs.Common.{◌≡◌, ℕ, suc, List, ◌∷◌, sym, subst}
use Rattle.std.specs.Prelude.{IfSome, None}
use Rattle.mb_msg.specs.declared.envelope.Envelope.{Envelope}
use Rattle.mb_msg.specs.declared.system.SysMsg.{SysMsg}
use Rattle.mb_journal.specs.Aside.{next_front}
use Rattle.mb_journal.specs.Entry.{Entry}
use Rattle.mb_journal.specs.Entry.Entry.{Handled, System, Dropped}
use Rattle.mb_journal.specs.Run.{IsBlock, AreBlocks, IsOfEnvelope}
use Rattle.mb_journal.specs.Run.IsBlock.{no_more, one_more}
use Rattle.mb_journal.specs.Run.AreBlocks.{next_block}
use Rattle.mb_cell.specs.CellView.{CellView, TakesSystem, TakesEnvelope, IsOf}

-- a system message more: the one that was set aside and is due, where one is
pub block-more : (from : List Entry) (old new : CellView) (number : ℕ) (m : SysMsg) → TakesSystem old new number m →
    IfSome (next_front old.who old.journal) (λ front. front ≡ (number, m)) → IsBlock old.who from old.journal →
    IsBlock old.who from new.journal
block-more from old new number m took due block =
    subst (λ (s : CellView). IsBlock old.who from s.journal) (sym took.adds) (one_more old.journal number m took.outcome block due)

of_envelope : (e : Entry) (envelope : Envelope) (reading : ℕ) → IsOf envelope reading e → IsOfEnvelope e
of_envelope (Handled other r outcome) envelope reading of_it = tt
of_envelope (System number m outcome) envelope reading of_it = absurd of_it
of_envelope (Dropped other) envelope reading of_it = tt

-- an envelope more, where no message that was set aside is due
pub envelope-more : (from : List Entry) (n : ℕ) (old new : CellView) (envelope : Envelope) (reading : ℕ) → TakesEnvelope old new envelope reading →
    next_front old.who old.journal ≡ None → AreBlocks old.who from n old.journal → AreBlocks old.who from (suc n) new.journal
envelope-more from n old new envelope reading took none blocks =
    subst (λ (s : CellView). AreBlocks old.who from (suc n) s.journal) (sym took.adds)
    (next_block n old.journal (took.entry ∷ old.journal) took.entry blocks none (of_envelope took.entry envelope reading took.of_it) no_more)
